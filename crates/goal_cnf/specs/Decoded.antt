-- The test that a model of a goal's formula gives.
use Rattle.std.specs.Prelude.{◌≡◌, ℕ, suc, ◌<◌, ◌≤◌, Bool, true, false, List, length, take, Some, slice_get, slice_index_or}
use Rattle.cnf_form.specs.declared.lit.Lit.{Lit}
use Rattle.cnf_form.specs.Lits.{truth}
use Rattle.op_network.specs.declared.edge.EdgeId.{EdgeId}
use Rattle.op_network.specs.declared.edge.Parts.{Parts}
use Rattle.op_network.specs.declared.test.Test.{Test}
use Rattle.op_network.specs.Run.{rows}
use Rattle.op_network.specs.Valid.{FitsTest}
use Rattle.unroll_cnf.specs.Laws.{rows_of}
use Rattle.unroll_cnf.specs.Unrolled.{words}
use Rattle.dep_paths.specs.declared.path.Obligation.{Obligation}
use Rattle.dep_paths.specs.Duties.{Planned}
use Rattle.goal_cnf.specs.Activity.{lit_at}
use Rattle.goal_cnf.specs.Reaches.{Reaches}

-- the assignment of these bits, one for each variable
abbrev pub valuation : List Bool → ℕ → Bool
valuation bits x = slice_index_or bits x false

-- the least instant whose hit is true
pub record IsLeastHit (v : ℕ → Bool) (hits : List Lit) (t : ℕ) : Type 0 where
  pub within : t < length hits
  pub hit : truth v (lit_at hits t) ≡ true
  pub least : (s : ℕ) → s < t → truth v (lit_at hits s) ≡ false

-- A test of at most k instants that fits, has the values that the words of the inputs have under v,
-- and reaches the obligation at a place of the plan at its last instant, which is the least that is
-- hit.
pub record Decodes (parts : Parts) (order : List EdgeId) (plan : Planned) (place k : ℕ)
    (v : ℕ → Bool) (hits : List Lit) (test : Test) : Type 0 where
  pub duty : Obligation
  pub listed : slice_get plan.duties place ≡ Some duty
  pub last : ℕ
  pub instants : test.instants ≡ suc last
  pub few : test.instants ≤ k
  pub least : IsLeastHit v hits last
  pub inputs : rows (length parts.inputs) test.instants test.values
      ≡ take test.instants (rows_of parts v (words parts order k))
  pub fits : FitsTest parts test
  pub reaches : Reaches parts plan duty (rows (length parts.inputs) test.instants test.values)
