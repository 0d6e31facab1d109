-- Which ports read an edge.
use Rattle.std.specs.Prelude.{◌≡◌, ◌<◌, ◌⊎◌, ◌↔◌, ℕ, List, Some, Contains, AllPairs, slice_get}
use Rattle.op_network.specs.declared.edge.Edge.{Edge}
use Rattle.op_network.specs.declared.edge.EdgeId.{EdgeId}
use Rattle.op_network.specs.Operators.{operands_of}

-- by edge, then by port
abbrev pub ReaderBefore : EdgeId × ℕ → EdgeId × ℕ → Type 0
ReaderBefore a b = (a.0.0 < b.0.0) ⊎ ((a.0.0 ≡ b.0.0) × (a.1 < b.1))

-- the port of the edge has this operand
abbrev pub Reads : List Edge → EdgeId × ℕ → EdgeId → Type 0
Reads edges r e = slice_get (operands_of edges r.0) r.1 ≡ Some e

-- exactly the ports whose operand is the edge, each once and in order
pub record IsReaderList (edges : List Edge) (e : EdgeId) (readers : List (EdgeId × ℕ)) : Type 0 where
  pub each : (r : EdgeId × ℕ) → Contains readers r ↔ Reads edges r e
  pub order : AllPairs ReaderBefore readers

-- the readers before a port of an edge
pub record IsReaderListBelow (edges : List Edge) (e : EdgeId) (i p : ℕ) (readers : List (EdgeId × ℕ)) : Type 0 where
  pub each : (r : EdgeId × ℕ) → Contains readers r ↔ (ReaderBefore r (record { 0 = i }, p) × Reads edges r e)
  pub order : AllPairs ReaderBefore readers
