-- A map that is changed, and the clauses that it stands for.
use Rattle.std.proofs.Common.{◌≡◌, ℕ, zero, suc, ◌+◌, ◌<◌, ◌≤◌, cond, length, take, drop, get_or, true, false, List, [], ◌∷◌, ◌++◌, Option, Some, None, option_map, Ok, ℤ, refl, sym, ap, ◌∙◌, inl, inr, arith, ne_eqb, eq-eqb, length-take, add-one}
use Rattle.std.specs.Prelude.{nat_eq, nat_le, is_some}
use Rattle.std.specs.Borrow.{Bor}
use Rattle.std.specs.HashMap.{HashMap, get}
use Rattle.std.specs.List.{slice_get}
use Rattle.std.specs.Map.{lookup}
use Rattle.std.proofs.lemmas.Bool.{cases_Bool, cases_eq, lt-leb}
use Rattle.std.proofs.lemmas.Grind.{common_steps}
use Rattle.std.proofs.lemmas.List.{take_more, at_drop_more}
use Rattle.cnf_form.specs.declared.lit.Lit.{Lit}
use Rattle.cnf_form.specs.Marks.{marks_of}
use Rattle.proof_check.specs.declared.step.ProofStep.{ProofStep}
use Rattle.proof_check.specs.declared.step.ProofStep.TheVariants.{Put}
use Rattle.proof_check.specs.Check.{Clauses, numbered, with_id, hints_fault, removed, turn}
use Rattle.proof_check.specs.Table.{reads, state}

-- what is read after a change under one id
pub reads_update : {S : Type 0} (m n : HashMap ℕ (Bor (List Lit)) S) (id : ℕ) (w : Option (Bor (List Lit))) → ((q : ℕ) → get nat_eq n q ≡ cond (nat_eq id q) w (get nat_eq m q))
    → reads n ≡ with_id id (option_map (λ c. c.now) w) (reads m)
unfolding reads
reads_update m n id w h = λ i q. at q i
  where
    at : (q : ℕ) → option_map (λ c. c.now) (get nat_eq n q) ≡ cond (nat_eq id q) (option_map (λ c. c.now) w) (option_map (λ c. c.now) (get nat_eq m q))
    at q = elim (cases_Bool (nat_eq id q)) [
      | inl e ↦ rw e (ap (option_map (λ c. c.now)) (rw e at (h q)))
      | inr e ↦ rw e (ap (option_map (λ c. c.now)) (rw e at (h q)))
    ]

pub reads_empty : {S : Type 0} (m : HashMap ℕ (Bor (List Lit)) S) → m.entries ≡ [] → reads m ≡ numbered []
unfolding reads
reads_empty m h = λ i k. (ap (λ es. option_map (λ c. c.now) (lookup (nat_eq k) es)) h ∙ none k) i
  where
    none : (k : ℕ) → None ≡ numbered [] k
    none zero = refl
    none (suc k) = refl

pub reads_at : {S : Type 0} (m : HashMap ℕ (Bor (List Lit)) S) (k : ℕ) (o : Option (Bor (List Lit))) → get nat_eq m k ≡ o → reads m k ≡ option_map (λ c. c.now) o
unfolding reads
reads_at m k o h = ap (option_map (λ c. c.now)) h

-- ---- the clauses of a formula

suc_eq : (m n : ℕ) → nat_eq m n ≡ nat_eq (suc m) (suc n)
suc_eq m n = elim (cases_eq m n) [
  | inl e ↦ rw (eq-eqb m n e, eq-eqb (suc m) (suc n) (ap suc e)) refl
  | inr e ↦ rw (ne_eqb m n e, ne_eqb (suc m) (suc n) (λ q. e (omega (arith, q)))) refl
]

slice_get_push : (cs : List (List Lit)) (c : List Lit) (k : ℕ) → slice_get (cs ++ c ∷ []) k ≡ cond (nat_eq (length cs) k) (Some c) (slice_get cs k)
slice_get_push [] c zero = refl
slice_get_push [] c (suc k) = rw (ne_eqb 0 (suc k) (λ e. absurd (omega arith))) refl
slice_get_push (d ∷ ds) c zero = rw (ne_eqb (suc (length ds)) 0 (λ e. absurd (omega arith))) refl
slice_get_push (d ∷ ds) c (suc k) = slice_get_push ds c k ∙ ap (λ b. cond b (Some c) (slice_get ds k)) (suc_eq (length ds) k)

numbered_at : (cs : List (List Lit)) (c : List Lit) (k : ℕ) → numbered (cs ++ c ∷ []) k ≡ with_id (length cs + 1) (Some c) (numbered cs) k
numbered_at cs c zero = rw (ne_eqb (length cs + 1) 0 (λ e. absurd (omega arith))) refl
numbered_at cs c (suc k) =
    slice_get_push cs c k ∙ ap (λ b. cond b (Some c) (slice_get cs k)) (suc_eq (length cs) k ∙ ap (λ n. nat_eq n (suc k)) (sym (add-one (length cs))))

-- one clause more
pub numbered_push : (cs : List (List Lit)) (c : List Lit) → numbered (cs ++ c ∷ []) ≡ with_id (length cs + 1) (Some c) (numbered cs)
numbered_push cs c = λ i k. numbered_at cs c k i

pub table_more : {S : Type 0} (m n : HashMap ℕ (Bor (List Lit)) S) (cs : List (List Lit)) (i : ℕ) (r : Bor (List Lit)) → i < length cs → r.now ≡ get_or cs i r.now
    → ((q : ℕ) → get nat_eq n q ≡ cond (nat_eq (i + 1) q) (Some r) (get nat_eq m q)) → reads m ≡ numbered (take i cs) → reads n ≡ numbered (take (i + 1) cs)
table_more m n cs i r lt is u h =
    let len : length (take i cs) ≡ i = simp length-take (omega arith) in
    reads_update m n (i + 1) (Some r) u
    ∙ (ap (with_id (i + 1) (Some r.now)) h
    ∙ (rw (take_more cs i r.now lt, numbered_push (take i cs) (get_or cs i r.now), len, ← is) refl))

pub numbered_all : (cs : List (List Lit)) (i : ℕ) → length cs ≤ i → numbered (take i cs) ≡ numbered cs
numbered_all cs i le = rw (take_whole cs i le) refl
  where
    take_whole : (cs : List (List Lit)) (i : ℕ) → length cs ≤ i → take i cs ≡ cs
    take_whole cs i le = grind (arith, common_steps)

-- ---- clauses that are taken out

is_some_at : {S : Type 0} (m : HashMap ℕ (Bor (List Lit)) S) (k : ℕ) (r : Bor (List Lit)) → get nat_eq m k ≡ Some r → is_some (reads m k) ≡ true
is_some_at m k r h = ap is_some (reads_at m k (Some r) h)

is_none_at : {S : Type 0} (m : HashMap ℕ (Bor (List Lit)) S) (k : ℕ) → get nat_eq m k ≡ None → is_some (reads m k) ≡ false
is_none_at m k h = ap is_some (reads_at m k None h)

-- an id that was there
pub removed_more : {S : Type 0} (m n : HashMap ℕ (Bor (List Lit)) S) (whole : Option Clauses) (ids : List ℕ) (i id : ℕ) (r : Bor (List Lit)) → i < length ids → id ≡ get_or ids i 0 → get nat_eq m id ≡ Some r
    → ((q : ℕ) → get nat_eq n q ≡ cond (nat_eq id q) None (get nat_eq m q)) → whole ≡ removed (drop i ids) (reads m) → whole ≡ removed (drop (i + 1) ids) (reads n)
removed_more m n whole ids i id r lt is there u h =
    let e : removed (drop i ids) (reads m) ≡ removed (drop (i + 1) ids) (with_id id None (reads m)) =
    at_drop_more (λ ks. removed ks (reads m)) ids i 0 lt ∙ rw (← is, is_some_at m id r there) refl in
    h ∙ (e ∙ ap (removed (drop (i + 1) ids)) (sym (reads_update m n id None u)))

-- an id that wasn't
pub removed_none : {S : Type 0} (m : HashMap ℕ (Bor (List Lit)) S) (whole : Option Clauses) (ids : List ℕ) (i id : ℕ) → i < length ids → id ≡ get_or ids i 0 → get nat_eq m id ≡ None
    → whole ≡ removed (drop i ids) (reads m) → whole ≡ None
removed_none m whole ids i id lt is there h =
    h ∙ (at_drop_more (λ ks. removed ks (reads m)) ids i 0 lt ∙ rw (← is, is_none_at m id there) refl)

-- ---- one step

pub put_done : {S : Type 0} (m n : HashMap ℕ (Bor (List Lit)) S) (step : ProofStep) (last id key : ℕ) (c : Bor (List Lit)) (hints : List ℤ) → step ≡ Put id c.now hints → key ≡ id → last < id
    → hints_fault (reads m) (marks_of c.now) hints ≡ None → ((q : ℕ) → get nat_eq n q ≡ cond (nat_eq key q) (Some c) (get nat_eq m q)) → turn (state m last) step ≡ Ok (state n id)
put_done m n step last id key c hints is same_key lt none u =
    let late : nat_le id last ≡ false = lt-leb id last lt in
    let same : with_id id (Some c.now) (reads m) ≡ reads n = sym (rw same_key at (reads_update m n key (Some c) u)) in
    ap (turn (state m last)) is ∙ rw (late, none) (ap (λ p. Ok (record { present = p; last = id })) same)
