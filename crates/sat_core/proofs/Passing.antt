-- A pass over all clauses, clause by clause.
use Rattle.std.proofs.Common.{◌≡◌, ℕ, ◌+◌, ◌<◌, ◌≤◌, Bool, true, false, List, [], ◌∷◌, length, arith, below_more}
use Rattle.cnf_form.specs.declared.lit.Lit.{Lit}
use Rattle.cnf_form.specs.Lits.{is_in}
use Rattle.cnf_form.specs.Marks.{marks_of}
use Rattle.proof_check.specs.declared.step.ProofStep.{ProofStep}
use Rattle.proof_check.specs.Check.{open_lits}
use Rattle.proof_check.specs.Spent.{IsIdle}
use Rattle.sat_core.specs.declared.trail.Trail.{Trail}
use Rattle.sat_core.specs.Solving.{entries_of, vars_of, weight, IsSolving}
use Rattle.sat_core.specs.Trail.{lits, is_false, clause, clauses_of, AreIdle}
use Rattle.sat_core.proofs.Opens.{idle_all, idle_true, one_in}

-- Where nothing was set the trail weighs as much as before, and propagation does nothing at the clauses so far. Else it
-- weighs more.
abbrev pub Passing : List (List Lit) → Trail → Trail → ℕ → Bool → Type 0
Passing cs old new n false =
    (weight old ≡ weight new) × ((k : ℕ) → k < n → IsIdle (marks_of (lits (entries_of new))) (clause cs k))
Passing cs old new n true = weight old < weight new

pub record InPass (f : List (List Lit)) (log : List ProofStep) (old new : Trail) (n : ℕ) (has_set : Bool) : Type 0 where
  pub solving : IsSolving f log new
  pub size : vars_of new ≡ vars_of old
  pub passing : Passing (clauses_of f log) old new n has_set

module _ (cs : List (List Lit)) (old new : Trail) (n : ℕ) where
  pub Passing-idle : (b : Bool) → IsIdle (marks_of (lits (entries_of new))) (clause cs n) → Passing cs old new n b → Passing cs old new (n + 1) b
  Passing-idle false i p = (p.0, below_more _ _ p.1 i)
  Passing-idle true i p = p

  Passing-le : (b : Bool) → Passing cs old new n b → weight old ≤ weight new
  Passing-le false p = let e = p.0 in omega arith
  Passing-le true p = omega arith

  pub Passing-more : (b : Bool) (newer : Trail) → Passing cs old new n b → weight new < weight newer → weight old < weight newer
  Passing-more b newer p lt = let le = Passing-le b p in omega arith

  pub Passing-rest : (b : Bool) → b ≡ false → length cs ≤ n → Passing cs old new n b → AreIdle (lits (entries_of new)) cs
  Passing-rest false e le p = idle_all (lits (entries_of new)) cs (λ r lt. p.1 r (omega arith))
  Passing-rest true e le p = cc

-- a clause that has one literal that isn't false, which is true
pub one_idle : (t c : List Lit) (l : Lit) → open_lits (is_false t) c ≡ l ∷ [] → is_in l t ≡ true → IsIdle (marks_of t) c
one_idle t c l e h = idle_true t c l (one_in (is_false t) c l e).0 h
