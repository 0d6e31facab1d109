-- Firing edges in any order keeps the values of the run.
use Rattle.std.proofs.Common.{◌≡◌, ◌⊎◌, inl, inr, ⊎_elim, ℕ, ◌<◌, Bool, true, false, List, [], ◌∷◌, ◌++◌, length, set, get_or, refl, sym, ap, ◌∙◌, subst, arith}
use Rattle.std.proofs.Math.ListN.{length-set}
use Rattle.std.proofs.lemmas.Bool.{cases_eq, cases_Bool}
use Rattle.std.specs.Prelude.{Option, Some, None, slice_get, replicate}
use Rattle.std.specs.List.{Contains}
use Rattle.op_network.specs.declared.edge.EdgeId.{EdgeId}
use Rattle.op_network.specs.declared.edge.Edge.{Edge}
use Rattle.op_network.specs.declared.edge.Parts.{Parts}
use Rattle.op_network.specs.declared.value.Value.{Value}
use Rattle.op_network.specs.declared.value.Value.TheVariants.{Truth}
use Rattle.op_network.specs.Operators.{form_of, operator_value}
use Rattle.op_network.specs.Run.{IsFrame, IsRun}
use Rattle.op_network.specs.Valid.{IsValid}
use Rattle.lus_causality.specs.Causality.{HasNoCycle}
use Rattle.lus_causality.specs.Marks.{IsMarked, IsUnmarked, AreAllMarked, IsFree}
use Rattle.lus_causality.proofs.Chains.{set_other}
use Rattle.lus_causality.proofs.Existing.{next_or_all}
use Rattle.lus_causality.proofs.Frames.{found_at, value_same, get_other, get_here, operands_at}
use Rattle.lus_causality.proofs.Growing.{unmarked_at_first, length-unmarked}
use Rattle.lus_causality.proofs.Runs.{same_read, same_list, some_frame, one_run}
use Rattle.stream_run.specs.Runs.{Running, last_after}
use Rattle.stream_run.specs.Firings.{Fired, AreOf, FiringStandsFor, FiringStandsForIn, HasFired, IsClosed, IsFinished, IsOpen, IsReady, IsValueOf}
use Rattle.stream_run.specs.Laws.{IsUnfinished, StandTogether}
use Rattle.stream_run.proofs.Stepping.{run_more, last_more}

-- a ready edge fires with the value of the frame
pub fires : (width : ℕ) (edges : List Edge) (before : Option (List Value)) (inputs frame values : List Value) (marks : List Bool) (e : EdgeId) (edge : Edge) → IsFrame width edges before inputs frame → slice_get edges e.0 ≡ Some edge → IsFree edges marks e → AreOf frame values marks → AreOf frame (set values e.0 (operator_value width edge.op edge.ty before values inputs)) (set marks e.0 true)
fires width edges before inputs frame values marks e edge is found free h = record {
  size = length-set values e.0 v ∙ h.size;
  marked = length-set marks e.0 true ∙ h.marked;
  each = λ x m. ⊎_elim
      (λ same. subst (λ (n : ℕ). slice_get (set values e.0 v) n ≡ slice_get frame n) (sym same) at_e)
      (λ apart. get_other values x.0 e.0 v apart ∙ h.each x (sym (set_other marks x.0 e.0 true false apart) ∙ m))
      (cases_eq x.0 e.0);
}
  where
    v : Value
    v = operator_value width edge.op edge.ty before values inputs

    same : v ≡ operator_value width edge.op edge.ty before frame inputs
    same = value_same (form_of edge.op) width edge.ty before frame values inputs (λ o i. same_read values frame o.0 (Truth false) (h.each o (free.operands.each o (subst (λ l. Contains l o) (sym (operands_at edges e edge found)) i))))

    at_e : slice_get (set values e.0 v) e.0 ≡ slice_get frame e.0
    at_e = get_here values e.0 v (subst (λ n. e.0 < n) (sym (h.size ∙ is.size)) free.within) ∙ ap Some same ∙ sym (is.values e.0 edge found)

-- ---- what a firing stands for

opened : (parts : Parts) (rows : List (List Value)) (firing : Fired) → firing.under_way ≡ true → FiringStandsFor parts rows firing → IsOpen parts rows firing
opened parts rows firing is h = subst (λ b. FiringStandsForIn b parts rows firing) is h

as_open : (parts : Parts) (rows : List (List Value)) (firing : Fired) → firing.under_way ≡ true → IsOpen parts rows firing → FiringStandsFor parts rows firing
as_open parts rows firing is h = subst (λ b. FiringStandsForIn b parts rows firing) (sym is) h

pub closed : (parts : Parts) (rows : List (List Value)) (firing : Fired) → firing.under_way ≡ false → FiringStandsFor parts rows firing → IsClosed parts rows firing
closed parts rows firing is h = subst (λ b. FiringStandsForIn b parts rows firing) is h

as_closed : (parts : Parts) (rows : List (List Value)) (firing : Fired) → firing.under_way ≡ false → IsClosed parts rows firing → FiringStandsFor parts rows firing
as_closed parts rows firing is h = subst (λ b. FiringStandsForIn b parts rows firing) (sym is) h

pub stands_for_none : (parts : Parts) (firing : Fired) → firing.under_way ≡ false → firing.ended ≡ None → FiringStandsFor parts [] firing
stands_for_none parts firing shut none = as_closed parts [] firing shut (record { frames = []; run = tt; ended = none })

pub stands_open : (parts : Parts) (rows : List (List Value)) (inputs : List Value) (old new : Fired) → IsValid parts → HasNoCycle parts.edges → old.under_way ≡ false → new.under_way ≡ true → new.inputs ≡ inputs → new.ended ≡ old.ended → length new.values ≡ length parts.edges → new.marks ≡ replicate (length parts.edges) false → FiringStandsFor parts rows old → FiringStandsFor parts (rows ++ inputs ∷ []) new
stands_open parts rows inputs old new valid acyclic shut is_open inputs_are ended size marks h =
    let before = closed parts rows old shut h in
    let frame = some_frame parts.width parts new.ended new.inputs valid acyclic in
    as_open parts (rows ++ inputs ∷ []) new is_open (record {
      before = rows;
      frames = before.frames;
      frame = frame.0;
      rows_are = ap (λ i. rows ++ i ∷ []) (sym inputs_are);
      run = before.run;
      ended = ended ∙ before.ended;
      is_frame = frame.1;
      values = record {
        size = size ∙ sym frame.1.size;
        marked = ap length marks ∙ length-unmarked (length parts.edges) ∙ sym frame.1.size;
        each = λ e m. absurd (let u = ap (λ l. get_or l e.0 false) marks ∙ unmarked_at_first (length parts.edges) e.0 in cc);
      };
    })

pub stands_fired : (parts : Parts) (rows : List (List Value)) (old new : Fired) (e : EdgeId) (edge : Edge) → slice_get parts.edges e.0 ≡ Some edge → IsReady parts.edges old e → new.under_way ≡ true → new.inputs ≡ old.inputs → new.ended ≡ old.ended → new.values ≡ set old.values e.0 (operator_value parts.width edge.op edge.ty old.ended old.values old.inputs) → new.marks ≡ set old.marks e.0 true → FiringStandsFor parts rows old → FiringStandsFor parts rows new
stands_fired parts rows old new e edge found ready is_open inputs ended values marks h =
    let was = opened parts rows old ready.is_open h in
    let more = fires parts.width parts.edges old.ended old.inputs was.frame old.values old.marks e edge was.is_frame found ready.free was.values in
    as_open parts rows new is_open (record {
      before = was.before;
      frames = was.frames;
      frame = was.frame;
      rows_are = was.rows_are ∙ ap (λ i. was.before ++ i ∷ []) (sym inputs);
      run = was.run;
      ended = ended ∙ was.ended;
      is_frame = subst (λ b. IsFrame parts.width parts.edges b new.inputs was.frame) (sym ended) (subst (λ i. IsFrame parts.width parts.edges old.ended i was.frame) (sym inputs) was.is_frame);
      values = subst (λ vs. AreOf was.frame vs new.marks) (sym values) (subst (λ ms. AreOf was.frame (set old.values e.0 (operator_value parts.width edge.op edge.ty old.ended old.values old.inputs)) ms) (sym marks) more);
    })

pub stands_fired_in : (parts : Parts) (rows : List (List Value)) (old new : Fired) (e : EdgeId) (width' : ℕ) (edges' : List Edge) (before' : Option (List Value)) (inputs' : List Value) → width' ≡ parts.width → edges' ≡ parts.edges → before' ≡ old.ended → inputs' ≡ old.inputs → ((edge : Edge) → slice_get edges' e.0 ≡ Some edge → new.values ≡ set old.values e.0 (operator_value width' edge.op edge.ty before' old.values inputs')) → IsReady parts.edges old e → new.under_way ≡ true → new.inputs ≡ old.inputs → new.ended ≡ old.ended → new.marks ≡ set old.marks e.0 true → FiringStandsFor parts rows old → FiringStandsFor parts rows new
stands_fired_in parts rows old new e width' edges' before' inputs' same_width same_edges same_before same_inputs sets ready is_open inputs ended marks h =
    let found = found_at parts.edges e.0 ready.free.within in
    stands_fired parts rows old new e found.0 found.1 ready is_open inputs ended
    (sets found.0 (ap (λ (l : List Edge). slice_get l e.0) same_edges ∙ found.1) ∙
    ap (λ (n : ℕ). set old.values e.0 (operator_value n found.0.op found.0.ty before' old.values inputs')) same_width ∙
    ap (λ (b : Option (List Value)). set old.values e.0 (operator_value parts.width found.0.op found.0.ty b old.values inputs')) same_before ∙
    ap (λ (i : List Value). set old.values e.0 (operator_value parts.width found.0.op found.0.ty old.ended old.values i)) same_inputs)
    marks h

-- all values are those of the frame where all are marked
whole : (frame values : List Value) (marks : List Bool) → AreAllMarked marks → AreOf frame values marks → values ≡ frame
whole frame values marks all h = same_list values frame h.size (λ i lt. h.each (record { 0 = i }) (all.each (record { 0 = i }) (let a = h.size in let b = h.marked in omega (arith, lt, a, b))))

pub stands_closed : (parts : Parts) (rows : List (List Value)) (old new : Fired) → IsFinished old → new.under_way ≡ false → new.ended ≡ Some old.values → FiringStandsFor parts rows old → FiringStandsFor parts rows new
stands_closed parts rows old new finished shut ended h =
    let was = opened parts rows old finished.is_open h in
    let same = whole was.frame old.values old.marks finished.all was.values in
    as_closed parts rows new shut (record {
      frames = was.frames ++ was.frame ∷ [];
      run = subst (λ r. IsRun parts.width parts.edges r (was.frames ++ was.frame ∷ [])) (sym was.rows_are) (run_more parts.width parts.edges None was.before was.frames old.inputs was.frame was.run (subst (λ b. IsFrame parts.width parts.edges b old.inputs was.frame) was.ended was.is_frame));
      ended = ended ∙ ap Some same ∙ sym (last_more None was.frames was.frame);
    })

-- what is fired has the value of the run
pub fired_value : (parts : Parts) (rows frames : List (List Value)) (firing : Fired) (e : EdgeId) (v : Value) → IsValid parts → HasNoCycle parts.edges → FiringStandsFor parts rows firing → IsRun parts.width parts.edges rows frames → HasFired firing e → slice_get firing.values e.0 ≡ Some v → IsValueOf frames e v
fired_value parts rows frames firing e v valid acyclic h run fired is frame last =
    let was = opened parts rows firing fired.is_open h in
    let own = subst (λ r. IsRun parts.width parts.edges r (was.frames ++ was.frame ∷ [])) (sym was.rows_are) (run_more parts.width parts.edges None was.before was.frames firing.inputs was.frame was.run (subst (λ b. IsFrame parts.width parts.edges b firing.inputs was.frame) was.ended was.is_frame)) in
    let same = one_run parts rows frames (was.frames ++ was.frame ∷ []) valid acyclic run own in
    let frame_is = one (sym (ap (last_after None) same) ∙ last) (last_more None was.frames was.frame) in
    subst (λ (f : List Value). slice_get f e.0 ≡ Some v) (sym frame_is) (sym (was.values.each e fired.marked) ∙ is)
  where
    one : {o : Option (List Value)} {x y : List Value} → o ≡ Some x → o ≡ Some y → x ≡ y
    one h k = cc

pub not_all : (marks : List Bool) (e : ℕ) → IsUnmarked marks e → AreAllMarked marks → ⊥
not_all marks e left all = let m = all.each (record { 0 = e }) left.within in let u = left.unmarked in cc

-- ---- an instant that is not finished has a ready edge

pub some_ready : (parts : Parts) (firing : Fired) → IsValid parts → HasNoCycle parts.edges → IsUnfinished parts firing → (e : EdgeId) × IsReady parts.edges firing e
some_ready parts firing valid acyclic h = ⊎_elim
    (λ k. (k.0, record { is_open = h.is_open; free = record { within = k.1.within; unmarked = unset k.0 k.1.new; operands = record { each = k.1.operands } } }))
    (λ all. absurd (h.unfinished (record { is_open = h.is_open; all = record { each = λ e lt. all e (subst (λ n. e.0 < n) h.of.marks lt) } })))
    (next_or_all parts valid acyclic (IsMarked firing.marks) (λ e. marked_or (get_or firing.marks e.0 false)))
  where
    marked_or : (b : Bool) → (b ≡ true) ⊎ (b ≡ true → ⊥)
    marked_or true = inl refl
    marked_or false = inr (λ never. absurd (cc))

    unset : (e : EdgeId) → (IsMarked firing.marks e → ⊥) → get_or firing.marks e.0 false ≡ false
    unset e not = ⊎_elim (λ m. absurd (not m)) (λ u. u) (cases_Bool (get_or firing.marks e.0 false))

-- ---- a step is such an instant

pub same_frame : (parts : Parts) (rows : List (List Value)) (runner : Running) (firing : Fired) (frame : List Value) → IsValid parts → HasNoCycle parts.edges → StandTogether parts rows runner firing frame → runner.frame ≡ frame
same_frame parts rows runner firing frame valid acyclic h =
    let c = closed parts rows firing h.closed h.fired in
    let same = one_run parts rows h.stepped.frames c.frames valid acyclic h.stepped.run c.run in
    h.stepped.last frame (ap (last_after None) same ∙ sym c.ended ∙ h.ended)
