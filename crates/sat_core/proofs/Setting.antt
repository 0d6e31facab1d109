-- A literal more is set, and the search is nearer to its end.
use Rattle.std.proofs.Common.{◌≡◌, ℕ, ◌<◌, List, [], ◌∷◌, ◌++◌, ◌-◌, ◌^◌, length, Some, None, ap, arith}
use Rattle.cnf_form.specs.declared.lit.Lit.{Lit}
use Rattle.proof_check.specs.declared.step.ProofStep.{ProofStep}
use Rattle.sat_core.specs.declared.trail.Entry.{Entry}
use Rattle.sat_core.specs.declared.trail.Trail.{Trail}
use Rattle.sat_core.specs.Solving.{entries_of, vars_of, weight, IsFree, IsSolving}
use Rattle.sat_core.specs.Trail.{lits, lit_at, clauses_of, AreIdle, IsReason}
use Rattle.sat_core.proofs.Counting.{placed-room}
use Rattle.sat_core.proofs.Measure.{weigh-lt, weigh-push}
use Rattle.sat_core.proofs.Placing.{placed_new}
use Rattle.sat_core.proofs.Trails.{Trail-push}

module _ (old new : Trail) (e : Entry) (entries : entries_of new ≡ entries_of old ++ e ∷ []) (vars : vars_of new ≡ vars_of old) (inside : e.lit.var < vars_of old) (free : IsFree old e.lit) where
  pub weight-push : weight old < weight new
  weight-push =
      rw (vars, entries) (weigh-push (vars_of old) (entries_of old) e (placed-room (vars_of old) (entries_of old) old.places.items e.lit old.placed inside free))

  pub Solving-push : (f : List (List Lit)) (log : List ProofStep) → IsSolving f log old
      → ((r : ℕ) → e.reason ≡ Some r → IsReason (clauses_of f log) (lit_at (entries_of old)) (length (entries_of old)) e.lit r)
      → (e.reason ≡ None → AreIdle (lits (entries_of old)) (clauses_of f log)) → IsSolving f log new
  Solving-push f log s why done = record {
    few = s.few;
    well = rw vars s.well;
    is_trail = rw (vars, entries) (Trail-push (vars_of old) (clauses_of f log) (entries_of old) e s.is_trail inside
        (placed_new (vars_of old) (entries_of old) old.places.items e.lit old.placed free) why done);
  }

-- what is left of the number below 3 to the number of variables
pub nearer-less : (old new : Trail) → vars_of new ≡ vars_of old → weight old < weight new → 3 ^ vars_of new - weight new < 3 ^ vars_of old - weight old
nearer-less old new vars h =
    let e : 3 ^ vars_of new ≡ 3 ^ vars_of old = ap (λ n. 3 ^ n) vars in
    let most : weight new < 3 ^ vars_of new = weigh-lt (vars_of new) (entries_of new) in
    omega arith
