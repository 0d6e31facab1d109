-- The table from ports to their places.
use Rattle.std.specs.Prelude.{◌≡◌, ◌<◌, ◌+◌, ◌*◌, ℕ, suc, List, [], ◌∷◌, Option, Some, None, length, slice_get}
use Rattle.op_network.specs.declared.edge.Edge.{Edge}
use Rattle.dep_paths.specs.declared.path.Condition.{Condition}
use Rattle.omcdc_tags.specs.Tags.{HasPlace}
use Rattle.omcdc_tags.specs.declared.limits.TheConstants.{MOST_OPERANDS}

-- the place of a port in a table that has as many for each edge as an operator has operands at most
abbrev pub index_of : Condition → ℕ
index_of port = MOST_OPERANDS * port.edge.0 + port.port

-- how many places of a table are taken
abbrev pub taken : List (Option ℕ) → ℕ
taken [] = 0
taken (None ∷ table) = taken table
taken (Some k ∷ table) = suc (taken table)

-- each port keeps its place
pub record Grows (old new : List Condition) : Type 0 where
  pub kept : (k : ℕ) (c : Condition) → slice_get old k ≡ Some c → slice_get new k ≡ Some c

-- the table gives for each port of so many edges its place among these ports, each of which stands there once
pub record IsTable (edges : ℕ) (ports : List Condition) (table : List (Option ℕ)) : Type 0 where
  pub size : length table ≡ MOST_OPERANDS * edges
  pub counted : length ports ≡ taken table
  pub within : (k : ℕ) (c : Condition) → slice_get ports k ≡ Some c → c.edge.0 < edges
  pub narrow : (k : ℕ) (c : Condition) → slice_get ports k ≡ Some c → c.port < MOST_OPERANDS
  pub found : (k : ℕ) (c : Condition) → slice_get ports k ≡ Some c → slice_get table (index_of c) ≡ Some (Some k)
  pub placed : (k j : ℕ) → slice_get table j ≡ Some (Some k) → (c : Condition) × (slice_get ports k ≡ Some c) × (index_of c ≡ j)

-- they are ports of so many edges
pub record ArePorts (edges : ℕ) (ports : List Condition) : Type 0 where
  pub within : (k : ℕ) (c : Condition) → slice_get ports k ≡ Some c → c.edge.0 < edges

-- places are those of these ports
pub record ArePlaced (ports : List Condition) (places : List (Option ℕ)) : Type 0 where
  pub within : (j k : ℕ) → slice_get places j ≡ Some (Some k) → k < length ports

-- the first conditions of a plan have their places
pub record ArePlacesBelow (edges : List Edge) (conditions : List Condition) (i : ℕ) (ports : List Condition) (places : List (Option ℕ)) : Type 0 where
  pub size : length places ≡ i
  pub placed : ArePlaced ports places
  pub each : (j : ℕ) (c : Condition) → j < i → slice_get conditions j ≡ Some c → HasPlace edges ports places j c
