-- The parts of a network as code makes them.
use Rattle.std.specs.Prelude.{◌≡◌, ℕ, ◌+◌, ◌<◌, ◌≤◌, true, false, List, [], ◌∷◌, length, Option, Some, None, All}
use Rattle.std.specs.List.{flat_map}
use Rattle.lus_syntax.specs.declared.ast.Decl.{Decl}
use Rattle.lus_syntax.specs.declared.ast.Decl.TheVariants.{TypeDecl, ConstDecl, NodeDecl}
use Rattle.op_network.specs.declared.edge.Choice.{Choice}
use Rattle.op_network.specs.declared.edge.Edge.{Edge}
use Rattle.op_network.specs.declared.edge.EdgeId.{EdgeId}
use Rattle.op_network.specs.declared.edge.Op.TheVariants as op
use Rattle.op_network.specs.declared.edge.Parts.{Parts}
use Rattle.op_network.specs.declared.limits.TheConstants.{MOST_EDGES}
use Rattle.lus_types.specs.declared.typed.Typed.{Typed}
use Rattle.node_expand.specs.declared.tables.Tables.{Tables}
use Rattle.node_expand.specs.Law.{main_name, program_in}
use Rattle.node_expand.specs.Making.{AreKnown}
use Rattle.node_expand.specs.Nesting.{IsNested}
use Rattle.node_expand.specs.Network.{network_within}
use Rattle.lus_types.specs.Names.{Name, spot_names}
use Rattle.node_expand.specs.declared.header.Header.{Header}
use Rattle.node_expand.specs.declared.header.Variable.{Variable}
use Rattle.node_expand.specs.Headers.{header_at}
use Rattle.node_expand.specs.declared.limits.TheConstants.{MANY}
use Rattle.node_expand.specs.Fragments.{edge}
use Rattle.node_expand.specs.Outlines.{Measure}

abbrev pub node_name : Decl → Name
node_name (TypeDecl at name choices) = []
node_name (ConstDecl at name ty value) = []
node_name (NodeDecl at name inputs outputs locals items) = name.text

abbrev pub inputs_of : Option Header → List Variable
inputs_of None = []
inputs_of (Some h) = h.inputs

-- the inputs of the node at a place, if there is one
abbrev pub inputs_at : List Header → Option ℕ → List Variable
inputs_at headers callee = inputs_of (header_at headers callee)

abbrev pub choices_of_decl : Decl → List Choice
choices_of_decl (TypeDecl at name choices) = record { name = name.text; names = spot_names choices } ∷ []
choices_of_decl (ConstDecl at name ty value) = []
choices_of_decl (NodeDecl at name inputs outputs locals items) = []

abbrev pub choices_of : List Decl → List Choice
choices_of decls = flat_map choices_of_decl decls

abbrev pub input_edge : ℕ → Variable → Edge
input_edge i v = record { op = op.Input i; ty = v.ty; name = v.name; named = true; asserted = false }

-- an edge behind so many others
abbrev pub edge_behind : ℕ → ℕ → EdgeId
edge_behind start place = edge (start + place)

-- no place is past the most that is counted
abbrev pub AllSmall : List ℕ → Type 0
AllSmall places = All (λ k. k ≤ MANY) places

-- a node of this measure has, with so many inputs, more edges than a network may have, or at most as many
abbrev pub IsLarge : Measure → ℕ → Type 0
IsLarge None inputs = ⊥
IsLarge (Some size) inputs = MOST_EDGES < size + inputs

abbrev pub IsSmall : Measure → ℕ → Type 0
IsSmall None inputs = ⊥
IsSmall (Some size) inputs = size + inputs ≤ MOST_EDGES

-- ---- what is found out before edges are made; records, so that a depth that is a literal isn't unrolled

-- calls are nested deeper
pub record IsTooDeep (typed : Typed) (depth : ℕ) : Type 0 where
  pub deep : IsNested (program_in typed) depth (main_name typed) → ⊥

-- calls are nested at most so deep, and the network has too many edges
pub record IsTooLarge (typed : Typed) (depth : ℕ) : Type 0 where
  pub nested : IsNested (program_in typed) depth (main_name typed)
  pub many : MOST_EDGES < length (network_within depth (program_in typed) (main_name typed)).edges

-- calls are nested at most so deep, and the network has few enough edges; and this is what code knows of the program
pub record IsReady (typed : Typed) (tables : Tables) : Type 0 where
  pub known : AreKnown typed tables
  pub nested : IsNested (program_in typed) tables.depth (main_name typed)
  pub few : length (network_within tables.depth (program_in typed) (main_name typed)).edges ≤ MOST_EDGES

-- the network at a depth
pub record IsNetwork (typed : Typed) (depth : ℕ) (parts : Parts) : Type 0 where
  pub same : parts ≡ network_within depth (program_in typed) (main_name typed)
