-- The run of a network without a cycle: that there is one, and no other.
use Rattle.std.proofs.Common.{◌≡◌, ℕ, suc, zero, ◌<◌, ◌≤◌, List, [], ◌∷◌, length, take, set, get_or, refl, sym, ap, ◌∙◌, subst, arith, add-one}
use Rattle.std.specs.Prelude.{Option, Some, None, slice_get, false, replicate}
use Rattle.std.specs.List.{Contains}
use Rattle.op_network.specs.declared.edge.EdgeId.{EdgeId}
use Rattle.op_network.specs.declared.edge.Edge.{Edge}
use Rattle.op_network.specs.declared.edge.Parts.{Parts}
use Rattle.op_network.specs.declared.value.Value.{Value}
use Rattle.op_network.specs.declared.value.Value.TheVariants.{Truth}
use Rattle.op_network.specs.Operators.{form_of, operator_value}
use Rattle.op_network.specs.Run.{IsFrame, IsRunAfter, IsRun}
use Rattle.op_network.specs.Valid.{IsValid}
use Rattle.lus_causality.specs.Causality.{IsCausal, IsFull, HasNoCycle}
use Rattle.lus_causality.proofs.Causal.{place_in, place_below}
use Rattle.lus_causality.proofs.Existing.{full_list}
use Rattle.lus_causality.proofs.Frames.{Computed, value_same, operands_at, next, found_at, started, finished}

length_blank : (n : ℕ) → length (replicate n (Truth false)) ≡ n
length_blank zero = refl
length_blank (suc n) = ap suc (length_blank n)

-- ---- one frame of an instant

computed : (width : ℕ) (edges : List Edge) (before : Option (List Value)) (inputs : List Value) (list : List EdgeId) → IsCausal edges list → (i : ℕ) → i ≤ length list → (now : List Value) × Computed width edges before inputs (take i list) now
computed width edges before inputs list causal zero le = (replicate (length edges) (Truth false), started width edges before inputs list (replicate (length edges) (Truth false)) (length_blank (length edges)))
computed width edges before inputs list causal (suc i) le =
    let done = computed width edges before inputs list causal i (omega (arith, le)) in
    let e = found_at list i (omega (arith, le)) in
    let edge = found_at edges e.0.0 (causal i e.0 e.1).within in
    let now = set done.0 e.0.0 (operator_value width edge.0.op edge.0.ty before done.0 inputs) in
    (now, subst (λ n. Computed width edges before inputs (take n list) now) (add-one i) (next width edges before inputs list i e.0 edge.0 done.0 now causal e.1 edge.1 refl done.1))

pub some_frame : (width : ℕ) (parts : Parts) (before : Option (List Value)) (inputs : List Value) → IsValid parts → HasNoCycle parts.edges → (now : List Value) × IsFrame width parts.edges before inputs now
some_frame width parts before inputs valid acyclic =
    let all = full_list parts valid acyclic in
    let done = computed width parts.edges before inputs all.0 all.1 (length all.0) (omega arith) in
    (done.0, finished width parts.edges before inputs all.0 (length all.0) done.0 all.2 (omega arith) done.1)

pub same_read : (xs ys : List Value) (i : ℕ) (d : Value) → slice_get xs i ≡ slice_get ys i → get_or xs i d ≡ get_or ys i d
same_read xs ys i d h = sym (as_option xs i d) ∙ ap (or_else d) h ∙ as_option ys i d
  where
    or_else : Value → Option Value → Value
    or_else d None = d
    or_else d (Some v) = v

    as_option : (xs : List Value) (i : ℕ) (d : Value) → or_else d (slice_get xs i) ≡ get_or xs i d
    as_option [] i d = refl
    as_option (x ∷ xs) zero d = refl
    as_option (x ∷ xs) (suc i) d = as_option xs i d

pub same_list : (xs ys : List Value) → length xs ≡ length ys → ((i : ℕ) → i < length xs → slice_get xs i ≡ slice_get ys i) → xs ≡ ys
same_list [] [] long h = refl
same_list [] (y ∷ ys) long h = absurd (omega (arith, long))
same_list (x ∷ xs) [] long h = absurd (omega (arith, long))
same_list (x ∷ xs) (y ∷ ys) long h =
    let at : Some x ≡ Some y = h 0 (omega arith) in
    let rest = same_list xs ys (omega (arith, long)) (λ i lt. h (suc i) (omega (arith, lt))) in
    let one : x ≡ y = cc in
    ap (λ z. z ∷ xs) one ∙ ap (λ l. y ∷ l) rest

module _ (width : ℕ) (edges : List Edge) (before : Option (List Value)) (inputs a b : List Value) (list : List EdgeId) (causal : IsCausal edges list) (f : IsFrame width edges before inputs a) (g : IsFrame width edges before inputs b) where
  agree_below : (i j : ℕ) (e : EdgeId) → j < i → slice_get list j ≡ Some e → slice_get a e.0 ≡ slice_get b e.0
  agree_below zero j e lt is = absurd (omega (arith, lt))
  agree_below (suc i) j e lt is =
      let edge = found_at edges e.0 (causal j e is).within in
      f.values e.0 edge.0 edge.1 ∙ ap Some (value_same (form_of edge.0.op) width edge.0.ty before b a inputs (λ o k.
      let p = place_below o list j ((causal j e is).operands o (subst (λ l. Contains l o) (sym (operands_at edges e edge.0 edge.1)) k)) in
      same_read a b o.0 (Truth false) (agree_below i p.0 o (let below = p.1 in omega (arith, lt, below)) p.2))) ∙ sym (g.values e.0 edge.0 edge.1)

  pub one_frame : IsFull edges list → a ≡ b
  one_frame full = same_list a b (f.size ∙ sym g.size) (λ i lt.
      let p = place_in (record { 0 = i }) list (full (record { 0 = i }) (subst (λ n. i < n) f.size lt)) in
      agree_below (suc p.0) p.0 (record { 0 = i }) (omega arith) p.2)

-- ---- one run

some_run_after : (width : ℕ) (parts : Parts) (before : Option (List Value)) (rows : List (List Value)) → IsValid parts → HasNoCycle parts.edges → (frames : List (List Value)) × IsRunAfter width parts.edges before rows frames
some_run_after width parts before [] valid acyclic = ([], tt)
some_run_after width parts before (inputs ∷ rows) valid acyclic =
    let f = some_frame width parts before inputs valid acyclic in
    let r = some_run_after width parts (Some f.0) rows valid acyclic in
    (f.0 ∷ r.0, (f.1, r.1))

pub some_run : (parts : Parts) (rows : List (List Value)) → IsValid parts → HasNoCycle parts.edges → (frames : List (List Value)) × IsRun parts.width parts.edges rows frames
some_run parts rows valid acyclic = some_run_after parts.width parts None rows valid acyclic

one_run_after : (width : ℕ) (edges : List Edge) (list : List EdgeId) (before : Option (List Value)) (rows a b : List (List Value)) → IsCausal edges list → IsFull edges list → IsRunAfter width edges before rows a → IsRunAfter width edges before rows b → a ≡ b
one_run_after width edges list before [] [] [] causal full f g = refl
one_run_after width edges list before [] [] (y ∷ b) causal full f g = elim g [ ]
one_run_after width edges list before [] (x ∷ a) b causal full f g = elim f [ ]
one_run_after width edges list before (inputs ∷ rows) [] b causal full f g = elim f [ ]
one_run_after width edges list before (inputs ∷ rows) (x ∷ a) [] causal full f g = elim g [ ]
one_run_after width edges list before (inputs ∷ rows) (x ∷ a) (y ∷ b) causal full f g =
    let same = one_frame width edges before inputs x y list causal f.0 g.0 full in
    ap (λ z. z ∷ a) same ∙ ap (λ l. y ∷ l) (one_run_after width edges list (Some y) rows a b causal full (subst (λ z. IsRunAfter width edges (Some z) rows a) same f.1) g.1)

pub one_run : (parts : Parts) (rows a b : List (List Value)) → IsValid parts → HasNoCycle parts.edges → IsRun parts.width parts.edges rows a → IsRun parts.width parts.edges rows b → a ≡ b
one_run parts rows a b valid acyclic f g = let all = full_list parts valid acyclic in one_run_after parts.width parts.edges all.0 None rows a b all.1 all.2 f g

front_after : (width : ℕ) (edges : List Edge) (before : Option (List Value)) (k : ℕ) (rows frames : List (List Value)) → IsRunAfter width edges before rows frames → IsRunAfter width edges before (take k rows) (take k frames)
front_after width edges before zero [] [] run = tt
front_after width edges before zero [] (f ∷ frames) run = tt
front_after width edges before zero (r ∷ rows) [] run = tt
front_after width edges before zero (r ∷ rows) (f ∷ frames) run = tt
front_after width edges before (suc k) [] [] run = tt
front_after width edges before (suc k) [] (f ∷ frames) run = elim run [ ]
front_after width edges before (suc k) (r ∷ rows) [] run = elim run [ ]
front_after width edges before (suc k) (r ∷ rows) (f ∷ frames) run = (run.0, front_after width edges (Some f) k rows frames run.1)

pub run_of_front : (width : ℕ) (edges : List Edge) (k : ℕ) (rows frames : List (List Value)) → IsRun width edges rows frames → IsRun width edges (take k rows) (take k frames)
run_of_front width edges k rows frames run = front_after width edges None k rows frames run
