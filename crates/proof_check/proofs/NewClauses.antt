-- What a spent log adds is new.
use Rattle.std.proofs.Common.{◌≡◌, ◌≤◌, ℕ, Bool, true, false, not, ◌||◌, inl, inr, List, [], ◌∷◌, ◌++◌, length, refl, sym, ◌∙◌, subst, arith}
use Rattle.std.specs.List.{list_all, list_any, AllByRecursion}
use Rattle.std.proofs.lemmas.Bool.{cases_Bool, and_parts, or_from, false≢true, false_from_ne_true}
use Rattle.cnf_form.specs.declared.lit.Lit.{Lit}
use Rattle.cnf_form.specs.Lits.{same, turned, is_in, no_twice}
use Rattle.cnf_form.proofs.Below.{list_all_push}
use Rattle.cnf_form.proofs.LitFacts.{same-true, same-swap, no_longer}
use Rattle.proof_check.specs.declared.step.ProofStep.{ProofStep}
use Rattle.proof_check.specs.declared.step.ProofStep.TheVariants.{Put, Delete}
use Rattle.proof_check.specs.Check.{open_lits, State}
use Rattle.proof_check.specs.Spent.{IsIdle, IsNew, IsLog, is_within, AddsNew, IsOnce, SpentLogAddsNew}

-- a literal of the clause isn't in the set
not_set : (earlier : List (List Lit)) (clause : List Lit) (n : IsNew earlier clause) (x : Lit) → is_in x clause ≡ true → n.set x ≡ false
not_set earlier clause n x i = elim (cases_Bool (same x n.lit)) [
  | inl e ↦ subst (λ (y : Lit). n.set y ≡ false) (sym (same-true x n.lit e)) n.not_true
  | inr e ↦ false_from_ne_true (n.set x) (λ t. false≢true (sym (n.consistent x t) ∙ n.others x i e))
]

none_set : (earlier : List (List Lit)) (clause : List Lit) (n : IsNew earlier clause) (old : List Lit) → is_within old clause ≡ true → list_any n.set old ≡ false
none_set earlier clause n [] w = refl
none_set earlier clause n (l ∷ ls) w =
    let p = and_parts (is_in l clause) (is_within ls clause) w in
    or_from (n.set l) (list_any n.set ls) (not_set earlier clause n l p.0) (none_set earlier clause n ls p.1)

-- only the one literal has its negation outside the set
none_open : (earlier : List (List Lit)) (clause : List Lit) (n : IsNew earlier clause) (old : List Lit) → is_within old clause ≡ true → is_in n.lit old ≡ false → open_lits (λ x. n.set (turned x)) old ≡ []
none_open earlier clause n [] w i = refl
none_open earlier clause n (l ∷ ls) w i =
    let p = and_parts (is_in l clause) (is_within ls clause) w in
    let q = parts (same n.lit l) (is_in n.lit ls) i in
    rw (n.others l p.0 (same-swap l n.lit ∙ q.0)) (none_open earlier clause n ls p.1 q.1)
  where
    parts : (a b : Bool) → (a || b) ≡ false → (a ≡ false) × (b ≡ false)
    parts false b e = (refl, e)
    parts true b e = absurd (false≢true (sym e))

one_open : (earlier : List (List Lit)) (clause : List Lit) (n : IsNew earlier clause) (old : List Lit) → is_within old clause ≡ true → no_twice old ≡ true → length (open_lits (λ x. n.set (turned x)) old) ≤ 1
one_open earlier clause n [] w once = omega arith
one_open earlier clause n (l ∷ ls) w once =
    let p = and_parts (is_in l clause) (is_within ls clause) w in
    let o = and_parts (not (is_in l ls)) (no_twice ls) once in
    elim (cases_Bool (n.set (turned l))) [
      | inl t ↦ rw t (one_open earlier clause n ls p.1 o.1)
      | inr t ↦
          let is : l ≡ n.lit = lit_is l p.0 t in
          rw (t, none_open earlier clause n ls p.1 (subst (λ (y : Lit). is_in y ls ≡ false) is (no_longer (is_in l ls) o.0))) (omega arith)
    ]
  where
    lit_is : (x : Lit) → is_in x clause ≡ true → n.set (turned x) ≡ false → x ≡ n.lit
    lit_is x i t = elim (cases_Bool (same x n.lit)) [
      | inl e ↦ same-true x n.lit e
      | inr e ↦ absurd (false≢true (sym t ∙ n.others x i e))
    ]

not_within : (earlier : List (List Lit)) (clause : List Lit) (n : IsNew earlier clause) (old : List Lit) → no_twice old ≡ true → IsIdle n.set old → is_within old clause ≡ false
not_within earlier clause n old once (inl set) = false_from_ne_true (is_within old clause) (λ w. false≢true (sym (none_set earlier clause n old w) ∙ set))
not_within earlier clause n old once (inr two) =
    false_from_ne_true (is_within old clause) (λ w. let one = one_open earlier clause n old w once in absurd (omega (arith, one, two)))

none_within : (earlier : List (List Lit)) (clause : List Lit) (n : IsNew earlier clause) (olds : List (List Lit)) → list_all no_twice olds ≡ true → AllByRecursion (IsIdle n.set) olds → AllByRecursion (λ old. is_within old clause ≡ false) olds
none_within earlier clause n [] once idle = tt
none_within earlier clause n (old ∷ olds) once idle =
    let p = and_parts (no_twice old) (list_all no_twice olds) once in
    (not_within earlier clause n old p.0 idle.0, none_within earlier clause n olds p.1 idle.1)

some_lit : (clause : List Lit) (l : Lit) → is_in l clause ≡ true → clause ≡ [] → ⊥
some_lit clause l i e = false≢true (rw e at i)

log_adds_new : (vars : ℕ) (s : State) (earlier : List (List Lit)) (log : List ProofStep) → list_all no_twice earlier ≡ true → AllByRecursion IsOnce log → IsLog vars s earlier log → AddsNew earlier log
log_adds_new vars s earlier [] once each log = tt
log_adds_new vars s earlier (Delete ids ∷ later) once each log = absurd log
log_adds_new vars s earlier (Put id clause hints ∷ later) once each log =
    let n = log.1 in (
      some_lit clause n.lit n.member,
      none_within earlier clause n earlier once n.idle,
      log_adds_new vars log.2.0 (earlier ++ clause ∷ []) later (list_all_push no_twice earlier clause once each.0) each.1 log.2.2,
    )

pub spent_log_adds_new : SpentLogAddsNew
spent_log_adds_new f budget log formula each spent = log_adds_new f.vars _ f.clauses log formula.3 each spent.1
