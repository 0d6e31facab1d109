-- The formula of a goal is satisfiable exactly where the obligation is reachable.
use Rattle.std.proofs.Common.{◌≡◌, ℕ, zero, suc, ◌+◌, ◌-◌, ◌<◌, ◌≤◌, Bool, true, false, ◌||◌, List, [], ◌∷◌, ◌++◌, length, map, take, replicate, refl, sym, ap, ◌∙◌, subst, arith, Some, None, length-append}
use Rattle.std.specs.Prelude.{slice_get, All}
use Rattle.std.specs.Option.{option_map}
use Rattle.std.proofs.lemmas.List.Elements.{All-append, All-replicate, All-head, All-take, All-get_or}
use Rattle.std.proofs.lemmas.Option.{slice_get-map, slice_get_within, get_or_from_slice_get}
use Rattle.cnf_form.specs.declared.lit.Lit.{Lit}
use Rattle.cnf_form.specs.Lits.{truth, holds}
use Rattle.cnf_form.specs.Shape.{Satisfies, shape}
use Rattle.op_network.specs.declared.edge.EdgeId.{EdgeId}
use Rattle.op_network.specs.declared.edge.Parts.{Parts}
use Rattle.op_network.specs.declared.value.Value.{Value}
use Rattle.op_network.specs.Admissible.{AssertsHold}
use Rattle.op_network.specs.Run.{IsRun}
use Rattle.op_network.specs.Valid.{IsValid, FitsRow}
use Rattle.lus_causality.specs.Causality.{IsSequence}
use Rattle.lus_causality.proofs.Ending.{has_no_cycle}
use Rattle.lus_causality.proofs.Runs.{one_run, run_of_front}
use Rattle.bit_blast.specs.Circuit.{Require, after, yes}
use Rattle.bit_blast.specs.Meaning.{Agree}
use Rattle.bit_blast.proofs.Values.{Obeys, Meets, AreGates, extend}
use Rattle.bit_blast.proofs.Values as circuit
use Rattle.bit_blast.proofs.Circuits.{model_of, satisfied_by, obeys_parts, obeys_both, truth-yes, extend_keeps, extend_obeys, gates_ordered, gates_meet, after_more}
use Rattle.unroll_cnf.specs.Laws.{frame_of, frames_of, rows_of}
use Rattle.unroll_cnf.specs.Unrolled.{first_part, instants, unrolled, words}
use Rattle.unroll_cnf.proofs.Agreement.{obeys_agree, meets_agree, meets_both}
use Rattle.unroll_cnf.proofs.Models.{rows_have_models}
use Rattle.unroll_cnf.proofs.Runs.{models_are_runs}
use Rattle.dep_paths.specs.declared.path.Obligation.{Obligation}
use Rattle.dep_paths.specs.Activation.{frame_at}
use Rattle.dep_paths.specs.Coverage.{Met}
use Rattle.dep_paths.specs.Duties.{Planned}
use Rattle.dep_paths.proofs.Fronts.{met_both, agree_first, frame_take}
use Rattle.dep_paths.proofs.Prefix.{agree_back}
use Rattle.goal_cnf.specs.Goal.{goal_hits, goal_entries, goal_formula}
use Rattle.goal_cnf.specs.Laws.{MeetsGoal}
use Rattle.goal_cnf.specs.Reaches.{Reaches, IsReachable}
use Rattle.goal_cnf.proofs.Agreement.{frames_agree}
use Rattle.goal_cnf.proofs.Fits.{meets_parts, instants_fit}
use Rattle.goal_cnf.proofs.Gates.{hits_gates}
use Rattle.goal_cnf.proofs.Hits.{HitsTell, AreWordsFrom, IsHit, admitted, admitted_holds, holds_admitted, hits_law, hit_at, hit_holds, length_hits, some_true}
use Rattle.goal_cnf.proofs.Obligations.{FitsGoal, no_past}
use Rattle.goal_cnf.proofs.Words.{length_instants, sized_at, laid}

-- ---- lists

pub length_taken : {X : Type 0} (n : ℕ) (xs : List X) → n ≤ length xs → length (take n xs) ≡ n
length_taken zero xs le = refl
length_taken (suc n) [] le = absurd (omega (arith, le))
length_taken (suc n) (x ∷ xs) le = ap suc (length_taken n xs (omega (arith, le)))

take_front : {X : Type 0} (xs ys : List X) → take (length xs) (xs ++ ys) ≡ xs
take_front [] ys = refl
take_front {X} (x ∷ xs) ys = ap (λ (l : List X). x ∷ l) (take_front xs ys)

length_mapped : {X Y : Type 0} (f : X → Y) (xs : List X) → length (map f xs) ≡ length xs
length_mapped f [] = refl
length_mapped f (x ∷ xs) = ap suc (length_mapped f xs)

length_copies : {X : Type 0} (n : ℕ) (x : X) → length (replicate n x) ≡ n
length_copies zero x = refl
length_copies (suc n) x = ap suc (length_copies n x)

or_none : (a : Bool) → (a || false) ≡ true → a ≡ true
or_none true e = refl
or_none false e = e

module _ (parts : Parts) (valid : IsValid parts) (order : List EdgeId) (sequence : IsSequence parts.edges order) (plan : Planned) (o : Obligation) (fits : FitsGoal parts plan o) (k : ℕ) where
  length_words : length (words parts order k) ≡ k
  length_words = length_instants parts order k None 1

  count : length (goal_hits parts order plan o k).result ≡ k
  count = length_hits parts order plan o (words parts order k) (after 0 (first_part parts order k).entries) None (yes 0) ∙ length_words

  these_words : (v : ℕ → Bool) (one_true : v 0 ≡ true) → AreWordsFrom parts valid order sequence plan v one_true (frames_of parts v (words parts order k)) 0 (words parts order k)
  these_words v one_true = record {
    sized = λ i now is. sized_at parts valid order sequence None 1 k tt i now is;
    read = λ i now is.
        let e : 0 + i ≡ i = omega arith in
        ap (frame_at (frames_of parts v (words parts order k))) e
        ∙ get_or_from_slice_get (frames_of parts v (words parts order k)) i (frame_of parts v now) []
        (slice_get-map (frame_of parts v) (words parts order k) i ∙ ap (option_map (frame_of parts v)) is);
  }

  -- ---- each model meets the goal

  -- what a model of the formula has
  record Parted (v : ℕ → Bool) : Type 0 where
    one_true : v 0 ≡ true
    front : Satisfies v (unrolled parts order k)
    inputs : Meets v (instants parts order None 1 k).entries
    hits : holds v (goal_hits parts order plan o k).result ≡ true
    obeys : Obeys v (after 0 (first_part parts order k).entries) (goal_hits parts order plan o k).entries

  parted : (v : ℕ → Bool) → Satisfies v (goal_formula parts order plan o k) → Parted v
  parted v s =
      let one = first_part parts order k in
      let b = goal_hits parts order plan o k in
      let m = model_of v (shape 0 []) (goal_entries parts order plan o k) s in
      let o1 = obeys_parts v 0 one.entries (b.entries ++ Require b.result ∷ []) m.obeys in
      let o2 = obeys_parts v (after 0 one.entries) b.entries (Require b.result ∷ []) o1.1 in
      let m1 = meets_parts v one.entries (b.entries ++ Require b.result ∷ []) m.meets in
      let m2 = meets_parts v b.entries (Require b.result ∷ []) m1.1 in
      record {
        one_true = sym (truth-yes v 0) ∙ or_none (truth v (yes 0)) m1.0.0;
        front = satisfied_by v (shape 0 []) one.entries (record { front = m.front; obeys = o1.0; meets = m1.0 });
        inputs = m1.0.1;
        hits = m2.1.0;
        obeys = o2.0;
      }

  tells : (v : ℕ → Bool) (one_true : v 0 ≡ true) → Obeys v (after 0 (first_part parts order k).entries) (goal_hits parts order plan o k).entries → HitsTell parts valid order sequence plan v one_true (frames_of parts v (words parts order k)) o 0 (goal_hits parts order plan o k).result
  tells v one_true obeys =
      hits_law parts valid order sequence plan v one_true (frames_of parts v (words parts order k)) o fits (after 0 (first_part parts order k).entries) 0 None (yes 0) (words parts order k)
      (these_words v one_true) (no_past parts.edges plan (frames_of parts v (words parts order k)) o v) (truth-yes v 0 ∙ one_true) obeys

  hit_reaches : (v : ℕ → Bool) (m : Parted v) (t : ℕ) → t < k → IsHit parts valid order sequence plan v m.one_true (frames_of parts v (words parts order k)) o t → Reaches parts plan o (take (suc t) (rows_of parts v (words parts order k)))
  hit_reaches v m t lt hit =
      let rows = rows_of parts v (words parts order k) in
      let frames = frames_of parts v (words parts order k) in
      let long : length rows ≡ k = length_mapped _ (words parts order k) ∙ length_words in
      let many : length frames ≡ k = length_mapped _ (words parts order k) ∙ length_words in
      let size : length (take (suc t) rows) ≡ suc t = length_taken (suc t) rows (omega (arith, long, lt)) in
      let last : length (take (suc t) rows) - 1 ≡ t = omega (arith, size) in
      record {
        some = omega (arith, size);
        fits = All-take (FitsRow parts) (suc t) rows (instants_fit parts valid v order sequence None 1 k tt m.inputs);
        frames = take (suc t) frames;
        run = run_of_front parts.width parts.edges (suc t) rows frames (models_are_runs parts order k valid sequence v m.front);
        admissible = admitted_holds parts frames (suc t) (omega (arith, many, lt)) hit.admissible;
        met =
            subst (λ u. Met parts plan (take (suc t) frames) o u) (sym last)
            (met_both parts plan frames (take (suc t) frames) o (suc t) t (agree_back (take (suc t) frames) frames (suc t) (agree_first frames (suc t))) (omega arith) hit.met);
      }

  each_reaches : (v : ℕ → Bool) (m : Parted v) (t : ℕ) (h : Lit) → slice_get (goal_hits parts order plan o k).result t ≡ Some h → truth v h ≡ true → Reaches parts plan o (take (suc t) (rows_of parts v (words parts order k)))
  each_reaches v m t h is e =
      let hs = (goal_hits parts order plan o k).result in
      let lt = slice_get_within hs t h is in
      let z : 0 + t ≡ t = omega arith in
      let hit = hit_at parts valid order sequence plan v m.one_true (frames_of parts v (words parts order k)) o 0 hs (tells v m.one_true m.obeys) t h is e in
      hit_reaches v m t (omega (arith, lt, count)) (subst (IsHit parts valid order sequence plan v m.one_true (frames_of parts v (words parts order k)) o) z hit)

  pub models_meet : (v : ℕ → Bool) → Satisfies v (goal_formula parts order plan o k) → MeetsGoal parts order plan o k v
  models_meet v s =
      let m = parted v s in
      record {
        run = models_are_runs parts order k valid sequence v m.front;
        some = m.hits;
        each = each_reaches v m;
      }

  pub model_reaches : (v : ℕ → Bool) → Satisfies v (goal_formula parts order plan o k) → IsReachable parts plan o k
  model_reaches v s =
      let m = parted v s in
      let hs = (goal_hits parts order plan o k).result in
      let h = some_true v hs m.hits in
      let lt = slice_get_within hs h.0 h.1 h.2 in
      let rows = rows_of parts v (words parts order k) in
      let long : length rows ≡ k = length_mapped _ (words parts order k) ∙ length_words in
      let size : length (take (suc h.0) rows) ≡ suc h.0 = length_taken (suc h.0) rows (omega (arith, long, lt, count)) in
      record {
        rows = take (suc h.0) rows;
        few = omega (arith, size, lt, count);
        reaches = each_reaches v m h.0 h.1 h.2 h.3;
      }

  -- ---- an obligation that is reachable has a model

  -- an assignment under whose words the obligation is hit extends to one that satisfies the formula
  hit_has_model : (w : ℕ → Bool) → Satisfies w (unrolled parts order k) → (j : ℕ) → j < k → admitted parts.asserts (frames_of parts w (words parts order k)) (suc j) ≡ true → Met parts plan (frames_of parts w (words parts order k)) o j →
      (x : ℕ → Bool) × Satisfies x (goal_formula parts order plan o k)
  hit_has_model w s j lt admissible met =
      let one = first_part parts order k in
      let b = goal_hits parts order plan o k in
      let tables = words parts order k in
      let last = after 0 one.entries in
      let m = model_of w (shape 0 []) one.entries s in
      let l = laid parts valid order sequence None 1 k (omega arith) tt tt in
      let ordered : circuit.IsOrdered 0 one.entries = (tt, (refl, l.ordered)) in
      let some : 1 ≤ last = after_more 1 (instants parts order None 1 k).entries in
      let g : AreGates last b.entries = hits_gates parts valid order plan o fits last None (yes 0) tables (omega (arith, some)) l.placed tt (omega (arith, some)) in
      let x = extend w last b.entries in
      let agree : Agree last w x = λ z zt. sym (extend_keeps w last b.entries z zt) in
      let o1 = obeys_agree 0 w x one.entries ordered agree m.obeys in
      let m1 = meets_agree 0 w x one.entries ordered agree m.meets in
      let o2 = extend_obeys w last b.entries (gates_ordered last b.entries g) in
      let y : x 0 ≡ true = sym (truth-yes x 0) ∙ or_none (truth x (yes 0)) m1.0 in
      let same : frames_of parts w tables ≡ frames_of parts x tables = frames_agree parts w x last agree tables l.placed in
      let hit : IsHit parts valid order sequence plan x y (frames_of parts x tables) o j = record {
        admissible = ap (λ frames. admitted parts.asserts frames (suc j)) (sym same) ∙ admissible;
        met = subst (λ frames. Met parts plan frames o j) same met;
      } in
      let hold : holds x b.result ≡ true = hit_holds parts valid order sequence plan x y (frames_of parts x tables) o 0 b.result (tells x y o2) j (omega arith) (omega (arith, lt, count)) hit in (
        x,
        satisfied_by x (shape 0 []) (goal_entries parts order plan o k) (record {
          front = refl;
          obeys = obeys_both x 0 one.entries (b.entries ++ Require b.result ∷ []) o1 (obeys_both x last b.entries (Require b.result ∷ []) o2 (refl, tt));
          meets = meets_both x one.entries (b.entries ++ Require b.result ∷ []) m1 (meets_both x b.entries (Require b.result ∷ []) (gates_meet x last b.entries g) (hold, tt));
        }),
      )

  -- rows that fit, k of them, and their assignment
  record Filled (rows : List (List Value)) : Type 0 where
    rest : List (List Value)
    size : length (rows ++ rest) ≡ k
    fit : All (FitsRow parts) (rows ++ rest)

  filled : (rows : List (List Value)) → 1 ≤ length rows → length rows ≤ k → All (FitsRow parts) rows → Filled rows
  filled [] some few f = absurd (omega (arith, some))
  filled (row ∷ rows) some few f =
      let more = replicate (k - length (row ∷ rows)) row in
      record {
        rest = more;
        size = omega (arith, length-append (row ∷ rows) more, length_copies (k - length (row ∷ rows)) row, few);
        fit = All-append (FitsRow parts) (row ∷ rows) more f (All-replicate (FitsRow parts) (k - length (row ∷ rows)) row (All-head (FitsRow parts) row rows f));
      }

  pub reaches_model : IsReachable parts plan o k → (v : ℕ → Bool) × Satisfies v (goal_formula parts order plan o k)
  reaches_model r =
      let rows = r.rows in
      let t = r.reaches in
      let all = filled rows t.some r.few t.fits in
      let m = rows_have_models parts order (rows ++ all.rest) valid sequence all.fit in
      let w = m.0 in
      let s : Satisfies w (unrolled parts order k) = subst (λ n. Satisfies w (unrolled parts order n)) all.size m.1 in
      let same : rows_of parts w (words parts order k) ≡ rows ++ all.rest = subst (λ n. rows_of parts w (words parts order n) ≡ rows ++ all.rest) all.size m.2 in
      let frames = frames_of parts w (words parts order k) in
      let run : IsRun parts.width parts.edges (rows ++ all.rest) frames = subst (λ rs. IsRun parts.width parts.edges rs frames) same (models_are_runs parts order k valid sequence w s) in
      let front : IsRun parts.width parts.edges rows (take (length rows) frames) = subst (λ rs. IsRun parts.width parts.edges rs (take (length rows) frames)) (take_front rows all.rest) (run_of_front parts.width parts.edges (length rows) (rows ++ all.rest) frames run) in
      let one : t.frames ≡ take (length rows) frames = one_run parts rows t.frames (take (length rows) frames) valid (has_no_cycle parts.edges order sequence) t.run front in
      let many : length frames ≡ k = length_mapped _ (words parts order k) ∙ length_words in
      let size : length (take (length rows) frames) ≡ length rows = length_taken (length rows) frames (omega (arith, many, r.few)) in
      let long : length t.frames ≡ length rows = ap length one ∙ size in
      let j = length rows - 1 in
      let last : suc j ≡ length rows = omega (arith, t.some) in
      let reads : (u : ℕ) → u < length rows → frame_at t.frames u ≡ frame_at frames u = λ u lt. ap (λ fs. frame_at fs u) one ∙ frame_take frames (length rows) u lt in
      hit_has_model w s j (omega (arith, last, r.few))
      (holds_admitted parts frames (suc j) (λ u lt.
      let here : AssertsHold parts (frame_at t.frames u) = All-get_or (AssertsHold parts) t.frames u [] (omega (arith, lt, last, long)) t.admissible in
      subst (AssertsHold parts) (reads u (omega (arith, lt, last))) here))
      (met_both parts plan t.frames frames o (length rows) j (record { same = reads }) (omega (arith, last)) t.met)
