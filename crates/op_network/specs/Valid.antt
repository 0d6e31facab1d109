-- Valid networks.
use Rattle.std.specs.Prelude.{◌≡◌, ◌≢◌, ℕ, ◌<◌, ◌≤◌, ◌*◌, List, [], length, All, AllPairs, Option, Some, None, slice_get}
use Rattle.std.specs.List.{AllAdjacentBelow}
use Rattle.std.specs.Option.{option_map, option_map_or}
use Rattle.op_network.specs.declared.edge.EdgeId.{EdgeId}
use Rattle.op_network.specs.declared.edge.Edge.{Edge}
use Rattle.op_network.specs.declared.edge.Choice.{Choice}
use Rattle.op_network.specs.declared.edge.Parts.{Parts}
use Rattle.op_network.specs.declared.edge.Op.{Op}
use Rattle.op_network.specs.declared.edge.Op.TheVariants as op
use Rattle.op_network.specs.declared.form.Unary.{Unary}
use Rattle.op_network.specs.declared.form.Binary.{Binary}
use Rattle.op_network.specs.declared.form.Form.{Form}
use Rattle.op_network.specs.declared.form.Form.TheVariants.{Input, Const, One, Two, Ite, Arrow, Pre}
use Rattle.op_network.specs.declared.test.Test.{Test}
use Rattle.op_network.specs.declared.value.Ty.{Ty}
use Rattle.op_network.specs.declared.value.Ty.TheVariants as type
use Rattle.op_network.specs.declared.value.Value.{Value}
use Rattle.op_network.specs.declared.value.Value.TheVariants as value
use Rattle.op_network.specs.declared.limits.TheConstants.{LEAST_WIDTH, MOST_WIDTH, MOST_EDGES, MOST_NAMES}
use Rattle.op_network.specs.Operators.{form_of, unary_type, binary_type, if_type, arrow_type}
use Rattle.op_network.specs.Run.{rows}
use Rattle.op_network.specs.Values.{IsWord}

-- the operator of the edge at a place
abbrev pub op_of : List Edge → ℕ → Option Op
op_of edges e = option_map (λ (edge : Edge). edge.op) (slice_get edges e)

-- the type of an edge
abbrev pub type_of : List Edge → EdgeId → Option Ty
type_of edges e = option_map (λ (edge : Edge). edge.ty) (slice_get edges e.0)

-- a type is one of the network's: `Truth`, `Word`, or a choice that it has
abbrev pub IsTypeOf : Parts → Ty → Type 0
IsTypeOf parts type.Truth = Unit {0}
IsTypeOf parts type.Word = Unit {0}
IsTypeOf parts (type.Choice c) = c < length parts.choices

-- a place of an enumerator of a choice
abbrev pub IsEnumerator : List Choice → ℕ → ℕ → Type 0
IsEnumerator choices c k = (choice : Choice) × (slice_get choices c ≡ Some choice) × (k < length choice.names)

-- a value is of a type, and a word in the range of the width
abbrev pub HasType : Parts → Value → Ty → Type 0
HasType parts (value.Truth b) type.Truth = Unit {0}
HasType parts (value.Word w) type.Word = IsWord parts.width w
HasType parts (value.Choice k) (type.Choice c) = IsEnumerator parts.choices c k
HasType parts _ _ = ⊥

-- What has no type gives no type.
abbrev pub unary_type_of : Unary → Option Ty → Option Ty
unary_type_of o None = None
unary_type_of o (Some a) = unary_type o a

abbrev pub binary_type_of : Binary → Option Ty → Option Ty → Option Ty
binary_type_of o None b = None
binary_type_of o (Some a) None = None
binary_type_of o (Some a) (Some b) = binary_type o a b

abbrev pub if_type_of : Option Ty → Option Ty → Option Ty → Option Ty
if_type_of None b c = None
if_type_of (Some a) None c = None
if_type_of (Some a) (Some b) None = None
if_type_of (Some a) (Some b) (Some c) = if_type a b c

abbrev pub arrow_type_of : Option Ty → Option Ty → Option Ty
arrow_type_of None b = None
arrow_type_of (Some a) None = None
arrow_type_of (Some a) (Some b) = arrow_type a b

-- an operator of this form gives this type, over the types of its operands
abbrev pub GivesType : Parts → Form → Ty → Type 0
GivesType parts (Input i) ty = IsTypeOf parts ty
GivesType parts (Const v) ty = HasType parts v ty
GivesType parts (One o a) ty = unary_type_of o (type_of parts.edges a) ≡ Some ty
GivesType parts (Two o a b) ty = binary_type_of o (type_of parts.edges a) (type_of parts.edges b) ≡ Some ty
GivesType parts (Ite a b c) ty = if_type_of (type_of parts.edges a) (type_of parts.edges b) (type_of parts.edges c) ≡ Some ty
GivesType parts (Arrow a b) ty = arrow_type_of (type_of parts.edges a) (type_of parts.edges b) ≡ Some ty
GivesType parts (Pre a) ty = type_of parts.edges a ≡ Some ty

-- an operator and its operands have the types that it asks for
abbrev pub IsWellTyped : Parts → Op → Ty → Type 0
IsWellTyped parts o ty = GivesType parts (form_of o) ty

-- each edge is of a type of the network
abbrev pub HaveTypes : Parts → Type 0
HaveTypes parts = All (λ (edge : Edge). IsTypeOf parts edge.ty) parts.edges

-- each edge is well typed
abbrev pub AreWellTyped : Parts → Type 0
AreWellTyped parts = All (λ (edge : Edge). IsWellTyped parts edge.op edge.ty) parts.edges

-- one or more bytes, each printable and no blank
pub record IsName (name : List ℕ) : Type 0 where
  pub some : name ≢ []
  pub printable : All (λ b. (0x21 ≤ b) × (b ≤ 0x7E)) name

-- the name of the edge at a place, or nothing
abbrev pub name_at : List Edge → ℕ → List ℕ
name_at edges e = option_map_or (λ (edge : Edge). edge.name) (slice_get edges e) []

-- the edges at each two neighbouring places have different names
abbrev pub NeighboursDiffer : List Edge → List ℕ → Type 0
NeighboursDiffer edges places = AllAdjacentBelow (λ a b. name_at edges a ≢ name_at edges b) places (length places)

-- the i-th input from 0 is an edge `Input i`
abbrev pub AreNumbered : List Edge → List EdgeId → Type 0
AreNumbered edges inputs = (i : ℕ) (e : EdgeId) → slice_get inputs i ≡ Some e → op_of edges e.0 ≡ Some (op.Input i)

-- each edge `Input i` is the i-th input
abbrev pub AreAllInputs : List Edge → List EdgeId → Type 0
AreAllInputs edges inputs = (e : ℕ) (edge : Edge) → slice_get edges e ≡ Some edge → (i : ℕ) → edge.op ≡ op.Input i → slice_get inputs i ≡ Some (record { 0 = e })

-- the inputs are exactly the Input edges in order, the i-th from 0 being `Input i`
pub record HasInputs (edges : List Edge) (inputs : List EdgeId) : Type 0 where
  pub numbered : AreNumbered edges inputs
  pub all : AreAllInputs edges inputs
  pub order : AllPairs (λ (a b : EdgeId). a.0 < b.0) inputs

-- an enumerated type has 1 to 256 different names
pub record IsChoice (choice : Choice) : Type 0 where
  pub some : 1 ≤ length choice.names
  pub few : length choice.names ≤ MOST_NAMES
  pub names : All IsName choice.names
  pub apart : AllPairs (λ a b. a ≢ b) choice.names

-- the width and the number of edges are in their ranges
abbrev pub IsInRange : Parts → Type 0
IsInRange parts = (LEAST_WIDTH ≤ parts.width) × (parts.width ≤ MOST_WIDTH) × (length parts.edges ≤ MOST_EDGES)

pub record IsValid (parts : Parts) : Type 0 where
  pub narrowest : LEAST_WIDTH ≤ parts.width
  pub widest : parts.width ≤ MOST_WIDTH
  pub few : length parts.edges ≤ MOST_EDGES
  pub choices : All IsChoice parts.choices
  pub types : HaveTypes parts
  pub typed : AreWellTyped parts
  pub names : All (λ (edge : Edge). IsName edge.name) parts.edges
  pub apart : AllPairs (λ (a b : Edge). a.name ≢ b.name) parts.edges
  pub inputs : HasInputs parts.edges parts.inputs
  pub outputs : All (λ (e : EdgeId). e.0 < length parts.edges) parts.outputs
  pub once : AllPairs (λ (a b : EdgeId). a ≢ b) parts.outputs
  pub asserts : All (λ (e : EdgeId). type_of parts.edges e ≡ Some type.Truth) parts.asserts
  pub asserted_once : AllPairs (λ (a b : EdgeId). a ≢ b) parts.asserts

-- a value of the type of an input
abbrev pub FitsInput : Parts → EdgeId → Value → Type 0
FitsInput parts e v = (ty : Ty) → type_of parts.edges e ≡ Some ty → HasType parts v ty

-- a value of each input's type
abbrev pub FitsRow : Parts → List Value → Type 0
FitsRow parts row = (length row ≡ length parts.inputs) × ((i : ℕ) (e : EdgeId) (v : Value) → slice_get parts.inputs i ≡ Some e → slice_get row i ≡ Some v → FitsInput parts e v)

-- at least one instant, and at each a row of values that fits
pub record FitsTest (parts : Parts) (test : Test) : Type 0 where
  pub some : 1 ≤ test.instants
  pub size : length test.values ≡ test.instants * length parts.inputs
  pub each : All (FitsRow parts) (rows (length parts.inputs) test.instants test.values)
