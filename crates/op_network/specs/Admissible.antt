-- Inputs that a network's assertions admit.
use Rattle.std.specs.Prelude.{◌≡◌, ℕ, ◌≤◌, true, List, length, take, All}
use Rattle.op_network.specs.declared.edge.EdgeId.{EdgeId}
use Rattle.op_network.specs.declared.edge.Parts.{Parts}
use Rattle.op_network.specs.declared.test.Test.{Test}
use Rattle.op_network.specs.declared.value.Value.{Value}
use Rattle.op_network.specs.Operators.{at_edge}
use Rattle.op_network.specs.Run.{IsRun, rows}
use Rattle.op_network.specs.Values.{is_true}

-- each assert edge is true in a frame
abbrev pub AssertsHold : Parts → List Value → Type 0
AssertsHold parts frame = All (λ (e : EdgeId). is_true (at_edge frame e) ≡ true) parts.asserts

-- each assert edge is true at each instant of the run over these rows of inputs
pub record IsAdmissible (parts : Parts) (inputs : List (List Value)) : Type 0 where
  pub frames : List (List Value)
  pub run : IsRun parts.width parts.edges inputs frames
  pub asserts : All (AssertsHold parts) frames

-- the length of the longest admissible prefix
pub record IsKept (parts : Parts) (inputs : List (List Value)) (kept : ℕ) : Type 0 where
  pub within : kept ≤ length inputs
  pub admissible : IsAdmissible parts (take kept inputs)
  pub longest : (n : ℕ) → n ≤ length inputs → IsAdmissible parts (take n inputs) → n ≤ kept

-- that of a test
abbrev pub IsKeptOf : Parts → Test → ℕ → Type 0
IsKeptOf parts test kept = IsKept parts (rows (length parts.inputs) test.instants test.values) kept
