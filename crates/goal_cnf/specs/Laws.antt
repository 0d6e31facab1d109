-- What the assignments that satisfy the formula of a goal are, and what an obligation that can be
-- reached has to do with coverage.
use Rattle.std.specs.Prelude.{◌≡◌, ◌↔◌, ℕ, suc, Bool, IsTrue, List, length, take, Some, slice_get, Contains}
use Rattle.cnf_form.specs.declared.lit.Lit.{Lit}
use Rattle.cnf_form.specs.Lits.{truth, holds}
use Rattle.cnf_form.specs.Shape.{Satisfies}
use Rattle.op_network.specs.declared.edge.EdgeId.{EdgeId}
use Rattle.op_network.specs.declared.edge.Parts.{Parts}
use Rattle.op_network.specs.Run.{IsRun}
use Rattle.op_network.specs.Valid.{IsValid}
use Rattle.lus_causality.specs.Causality.{IsSequence}
use Rattle.unroll_cnf.specs.Laws.{rows_of, frames_of}
use Rattle.unroll_cnf.specs.Unrolled.{words}
use Rattle.dep_paths.specs.declared.path.Obligation.{Obligation}
use Rattle.dep_paths.specs.Duties.{Planned, IsPlanOf}
use Rattle.goal_cnf.specs.Goal.{goal_hits, goal_formula}
use Rattle.goal_cnf.specs.Reaches.{Encodes, IsCoverable, IsReachable, Reaches}

-- the formula of an obligation of a plan says that the obligation is reachable
abbrev pub GoalEncodes : Type 0
GoalEncodes =
    (parts : Parts) (order : List EdgeId) (plan : Planned) (o : Obligation) (k : ℕ)
    → IsValid parts → IsSequence parts.edges order → IsPlanOf parts plan → Contains plan.duties o
    → Encodes (goal_formula parts order plan o k) parts plan o k

-- An assignment under which the words of k instants are a run, some hit is true, and where the hit
-- of an instant is, the rows up to it reach the obligation.
pub record MeetsGoal (parts : Parts) (order : List EdgeId) (plan : Planned) (o : Obligation)
    (k : ℕ) (v : ℕ → Bool) : Type 0 where
  pub run : IsRun parts.width parts.edges (rows_of parts v (words parts order k))
      (frames_of parts v (words parts order k))
  pub some : IsTrue (holds v (goal_hits parts order plan o k).result)
  pub each : (t : ℕ) (hit : Lit) → slice_get (goal_hits parts order plan o k).result t ≡ Some hit
      → IsTrue (truth v hit)
      → Reaches parts plan o (take (suc t) (rows_of parts v (words parts order k)))

-- each assignment that satisfies the formula is such a one
abbrev pub ModelsMeetGoals : Type 0
ModelsMeetGoals =
    (parts : Parts) (order : List EdgeId) (plan : Planned) (o : Obligation) (k : ℕ)
    → IsValid parts → IsSequence parts.edges order → IsPlanOf parts plan → Contains plan.duties o
    → (v : ℕ → Bool) → Satisfies v (goal_formula parts order plan o k)
    → MeetsGoal parts order plan o k v

-- there is a hit for each instant
abbrev pub HitsStandForInstants : Type 0
HitsStandForInstants =
    (parts : Parts) (order : List EdgeId) (plan : Planned) (o : Obligation) (k : ℕ)
    → length (goal_hits parts order plan o k).result ≡ k

-- An obligation is met at the last instant of some admissible rows exactly where some cover it: so
-- one that is not reachable is covered by none.
abbrev pub ReachableIsCoverable : Type 0
ReachableIsCoverable =
    (parts : Parts) (plan : Planned) (o : Obligation) (k : ℕ)
    → IsReachable parts plan o k ↔ IsCoverable parts plan o k
