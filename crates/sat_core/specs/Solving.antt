-- What holds between two turns of the solver.
use Rattle.std.specs.Prelude.{◌≡◌, ℕ, ◌+◌, ◌^◌, ◌<◌, List, length, None}
use Rattle.cnf_form.specs.declared.lit.Lit.{Lit}
use Rattle.proof_check.specs.declared.step.ProofStep.{ProofStep}
use Rattle.sat_core.specs.declared.trail.Entry.{Entry}
use Rattle.sat_core.specs.declared.trail.Trail.{Trail}
use Rattle.sat_core.specs.Trail.{clauses_of, place_of, IsTrail, IsWell}
use Rattle.sat_core.specs.Weight.{weigh}

abbrev pub entries_of : Trail → List Entry
entries_of trail = trail.entries.items

-- the number of variables
abbrev pub vars_of : Trail → ℕ
vars_of trail = length trail.places.items

-- neither the literal nor its negation was set
abbrev pub IsFree : Trail → Lit → Type 0
IsFree trail lit = place_of trail.places.items lit ≡ None

abbrev pub weight : Trail → ℕ
weight trail = weigh (vars_of trail) (entries_of trail)

pub record IsSolving (formula : List (List Lit)) (log : List ProofStep) (trail : Trail)
    : Type 0 where
  pub few : length formula + length log + 1 < 2 ^ 32
  pub well : IsWell (vars_of trail) (clauses_of formula log)
  pub is_trail : IsTrail (vars_of trail) (clauses_of formula log) (entries_of trail)
