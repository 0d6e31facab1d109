-- An accepted proof shows that no assignment satisfies the formula.
use Rattle.std.proofs.Common.{◌≡◌, ℕ, zero, suc, ◌+◌, ℤ, pos, negsuc, cond, Bool, true, false, not, ◌||◌, List, [], ◌∷◌, Option, Some, None, Result, Ok, Err, refl, sym, ap, ◌∙◌, subst, ◌⊎◌, inl, inr, true≢false}
use Rattle.std.specs.Prelude.{is_some, nat_eq, nat_le}
use Rattle.std.proofs.lemmas.Bool.{cases_Bool, or_cases, and_parts, false≢true, true_from_ne_false}
use Rattle.cnf_form.specs.declared.lit.Lit.{Lit}
use Rattle.cnf_form.specs.Lines.{is_nil}
use Rattle.cnf_form.specs.Lits.{same, turned, truth, holds, satisfies}
use Rattle.cnf_form.specs.Marks.{with_mark, marks_of}
use Rattle.cnf_form.proofs.LitFacts.{same-true, truth-turned, holds_by}
use Rattle.proof_check.specs.declared.step.StepKind.{StepKind}
use Rattle.proof_check.specs.declared.step.ProofStep.{ProofStep}
use Rattle.proof_check.specs.declared.step.ProofStep.TheVariants.{Put, Delete}
use Rattle.proof_check.specs.Check.{Clauses, numbered, with_id, open_lits, sole, closed, fault_then, hints_fault, State, removed, turn, is_end, refusal, start, Accepted}

-- each marked literal is false
abbrev AreFalse : (ℕ → Bool) → (Lit → Bool) → Type 0
AreFalse v falses = (x : Lit) → falses x ≡ true → truth v x ≡ false

-- each clause that is present is true
abbrev AreTrue : (ℕ → Bool) → Clauses → Type 0
AreTrue v present = (k : ℕ) (c : List Lit) → present k ≡ Some c → holds v c ≡ true

none_some : {A P : Type 0} (x : A) → Some x ≡ None → P
none_some x e = cc

some_is : {A : Type 0} (x y : A) → Some x ≡ Some y → x ≡ y
some_is x y e = cc

err_ok : {A E P : Type 0} (e : E) (a : A) → Err e ≡ Ok a → P
err_ok e a h = cc

option_cases : {A : Type 0} (o : Option A) → (o ≡ None) ⊎ ((x : A) × (o ≡ Some x))
option_cases None = inl refl
option_cases (Some x) = inr (x, refl)

-- ---- hints

-- a true clause has a true literal that isn't marked as false
open_true : (v : ℕ → Bool) (falses : Lit → Bool) (c : List Lit) → AreFalse v falses → holds v c ≡ true → holds v (open_lits falses c) ≡ true
open_true v falses [] f h = h
open_true v falses (l ∷ ls) f h = elim (cases_Bool (falses l)) [
  | inl e ↦ rw e (open_true v falses ls f (elim (or_cases (truth v l) (holds v ls) h) [ inl t ↦ absurd (false≢true (sym (f l e) ∙ t)) | inr t ↦ t ]))
  | inr e ↦ rw e (elim (or_cases (truth v l) (holds v ls) h) [ inl t ↦ rw t refl | inr t ↦ or_right' (truth v l) (holds v (open_lits falses ls)) (open_true v falses ls f t) ])
]
  where
    or_right' : (a b : Bool) → b ≡ true → (a || b) ≡ true
    or_right' true b h = refl
    or_right' false b h = h

alone : (v : ℕ → Bool) (l : Lit) → holds v (l ∷ []) ≡ true → truth v l ≡ true
alone v l h = elim (or_cases (truth v l) false h) [ inl t ↦ t | inr t ↦ absurd (false≢true t) ]

marks_false : (v : ℕ → Bool) (l : Lit) (falses : Lit → Bool) → AreFalse v falses → truth v l ≡ true → AreFalse v (with_mark (turned l) falses)
marks_false v l falses f t x m = elim (or_cases (same (turned l) x) (falses x) m) [
  | inl s ↦ subst (λ (y : Lit). truth v y ≡ false) (same-true (turned l) x s) (truth-turned v l ∙ ap not t)
  | inr s ↦ f x s
]

-- at a hint whose clause has these literals that aren't false
hint_sound : (v : ℕ → Bool) (present : Clauses) (falses : Lit → Bool) (later : List ℤ) (open_ones : List Lit) → holds v open_ones ≡ true
    → ((l : Lit) → truth v l ≡ true → hints_fault present (with_mark (turned l) falses) later ≡ None → ⊥)
    → cond (is_nil later) (closed open_ones) (fault_then (λ l. hints_fault present (with_mark (turned l) falses) later) (sole falses open_ones)) ≡ None → ⊥
hint_sound v present falses later [] h next e = false≢true h
hint_sound v present falses [] (l ∷ more) h next e = none_some _ e
hint_sound v present falses (g ∷ later) (l ∷ []) h next e = elim (cases_Bool (falses (turned l))) [
  | inl q ↦ none_some _ (rw q at e)
  | inr q ↦ next l (alone v l h) (rw q at e)
]
hint_sound v present falses (g ∷ later) (l ∷ k ∷ more) h next e = none_some _ e

-- hints without a fault lead to a contradiction
hints_sound : (v : ℕ → Bool) (present : Clauses) (falses : Lit → Bool) (hints : List ℤ) → AreTrue v present → AreFalse v falses → hints_fault present falses hints ≡ None → ⊥
hints_sound v present falses [] t f e = none_some _ e
hints_sound v present falses (negsuc n ∷ later) t f e = none_some _ e
hints_sound v present falses (pos n ∷ later) t f e = elim (option_cases (present n)) [
  | inl q ↦ none_some _ (rw q at e)
  | inr q ↦ hint_sound v present falses later (open_lits falses q.0) (open_true v falses q.0 f (t n q.0 q.1))
      (λ l tl next. hints_sound v present (with_mark (turned l) falses) later t (marks_false v l falses f tl) next) (rw q.1 at e)
]

is_false : (v : ℕ → Bool) (c : List Lit) → (holds v c ≡ true → ⊥) → AreFalse v (marks_of c)
is_false v c not_held x i = elim (cases_Bool (truth v x)) [ inl t ↦ absurd (not_held (holds_by v c x i t)) | inr t ↦ t ]

-- a clause whose hints have no fault is true where the clauses that are present are
added_true : (v : ℕ → Bool) (present : Clauses) (c : List Lit) (hints : List ℤ) → AreTrue v present → hints_fault present (marks_of c) hints ≡ None → holds v c ≡ true
added_true v present c hints t e =
    true_from_ne_false (holds v c) (λ n. hints_sound v present (marks_of c) hints t (is_false v c (λ y. true≢false (sym y ∙ n))) e)

-- ---- steps

numbered_true : (v : ℕ → Bool) (clauses : List (List Lit)) → satisfies v clauses ≡ true → AreTrue v (numbered clauses)
numbered_true v clauses s zero c e = absurd (none_some {P = ⊥} c (sym e))
numbered_true v [] s (suc k) c e = absurd (none_some {P = ⊥} c (sym e))
numbered_true v (d ∷ clauses) s (suc zero) c e = subst (λ x. holds v x ≡ true) (some_is d c e) (and_parts (holds v d) (satisfies v clauses) s).0
numbered_true v (d ∷ clauses) s (suc (suc k)) c e = numbered_true v clauses (and_parts (holds v d) (satisfies v clauses) s).1 (suc k) c e

without_true : (v : ℕ → Bool) (id : ℕ) (present : Clauses) → AreTrue v present → AreTrue v (with_id id None present)
without_true v id present t k c e = elim (cases_Bool (nat_eq id k)) [
  | inl q ↦ absurd (none_some {P = ⊥} c (sym (rw q at e)))
  | inr q ↦ t k c (rw q at e)
]

with_true : (v : ℕ → Bool) (id : ℕ) (d : List Lit) (present : Clauses) → holds v d ≡ true → AreTrue v present → AreTrue v (with_id id (Some d) present)
with_true v id d present h t k c e = elim (cases_Bool (nat_eq id k)) [
  | inl q ↦ subst (λ x. holds v x ≡ true) (some_is d c (rw q at e)) h
  | inr q ↦ t k c (rw q at e)
]

removed_true : (v : ℕ → Bool) (ids : List ℕ) (present rest : Clauses) → AreTrue v present → removed ids present ≡ Some rest → AreTrue v rest
removed_true v [] present rest t e = subst (AreTrue v) (some_is present rest e) t
removed_true v (id ∷ ids) present rest t e = elim (cases_Bool (is_some (present id))) [
  | inl q ↦ removed_true v ids (with_id id None present) rest (without_true v id present t) (rw q at e)
  | inr q ↦ absurd (none_some {P = ⊥} rest (sym (rw q at e)))
]

abbrev ok_of : State → Result State StepKind
ok_of s = Ok s

ok_is : (x y : State) → ok_of x ≡ Ok y → x ≡ y
ok_is x y e = cc

-- the clauses that are present behind a step are true
turn_true : (v : ℕ → Bool) (s next : State) (step : ProofStep) → AreTrue v s.present → turn s step ≡ Ok next → AreTrue v next.present
turn_true v s next (Put id c hints) t e = elim (cases_Bool (nat_le id s.last)) [
  | inl q ↦ err_ok _ _ (rw q at e)
  | inr q ↦ elim (option_cases (hints_fault s.present (marks_of c) hints)) [
    | inl n ↦ subst (λ (u : State). AreTrue v u.present) (ok_is _ next (rw (q, n) at e)) (with_true v id c s.present (added_true v s.present c hints t n) t)
    | inr k ↦ err_ok _ _ (rw (q, k.1) at e)
  ]
]
turn_true v s next (Delete ids) t e = elim (option_cases (removed ids s.present)) [
  | inl n ↦ err_ok _ _ (rw n at e)
  | inr r ↦ subst (λ (u : State). AreTrue v u.present) (ok_is _ next (rw r.1 at e)) (removed_true v ids s.present r.0 t r.1)
]

-- the empty clause isn't true, so it isn't added where all clauses are
end_false : (v : ℕ → Bool) (s next : State) (step : ProofStep) → AreTrue v s.present → turn s step ≡ Ok next → is_end step ≡ true → ⊥
end_false v s next (Delete ids) t e i = false≢true i
end_false v s next (Put id (l ∷ ls) hints) t e i = false≢true i
end_false v s next (Put id [] hints) t e i = elim (cases_Bool (nat_le id s.last)) [
  | inl q ↦ err_ok _ _ (rw q at e)
  | inr q ↦ elim (option_cases (hints_fault s.present (marks_of []) hints)) [
    | inl n ↦ false≢true (added_true v s.present [] hints t n)
    | inr k ↦ err_ok _ _ (rw (q, k.1) at e)
  ]
]

result_cases : {A E : Type 0} (r : Result A E) → ((a : A) × (r ≡ Ok a)) ⊎ ((e : E) × (r ≡ Err e))
result_cases (Ok a) = inl (a, refl)
result_cases (Err e) = inr (e, refl)

refusal_sound : (v : ℕ → Bool) (n : ℕ) (s : State) (steps : List ProofStep) → AreTrue v s.present → refusal n s steps ≡ None → ⊥
refusal_sound v n s [] t e = none_some _ e
refusal_sound v n s (step ∷ later) t e = elim (result_cases (turn s step)) [
  | inr q ↦ none_some _ (rw (q.1, refusal) at e)
  | inl q ↦ elim (cases_Bool (is_end step)) [
    | inl i ↦ end_false v s q.0 step t q.1 i
    | inr i ↦ refusal_sound v (n + 1) q.0 later (turn_true v s q.0 step t q.1) (rw (q.1, i, refusal) at e)
  ]
]

pub accepted_sound : (clauses : List (List Lit)) (steps : List ProofStep) → Accepted clauses steps → (v : ℕ → Bool) → satisfies v clauses ≡ true → ⊥
accepted_sound clauses steps a v s = refusal_sound v 1 (start clauses) steps (numbered_true v clauses s) a
