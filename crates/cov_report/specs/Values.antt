-- How values and streams are printed.
use Rattle.std.specs.Prelude.{ℕ, List, [], ◌∷◌, ◌++◌, if◌then◌else◌, codes, map, slice_get}
use Rattle.std.specs.Prelude.{unwrap_or}
use Rattle.std.specs.Fmt.{signed_decimal}
use Rattle.std.specs.List.{flat_map}
use Rattle.std.specs.Option.{option_map_or}
use Rattle.op_network.specs.declared.edge.Choice.{Choice}
use Rattle.op_network.specs.declared.edge.Edge.{Edge}
use Rattle.op_network.specs.declared.edge.EdgeId.{EdgeId}
use Rattle.op_network.specs.declared.edge.Parts.{Parts}
use Rattle.op_network.specs.declared.value.Ty.{Ty}
use Rattle.op_network.specs.declared.value.Ty.TheVariants as type
use Rattle.op_network.specs.declared.value.Value.{Value}
use Rattle.op_network.specs.declared.value.Value.TheVariants.{Truth, Word, Choice as Enumerator}
use Rattle.op_network.specs.Valid.{name_at}

-- the bytes of a name
abbrev pub Name : Type 0
Name = List ℕ

-- the names of the enumerators of each choice
abbrev pub Enumerators : Type 0
Enumerators = List (List Name)

-- the names of the enumerators of these choices
abbrev pub enumerators : List Choice → Enumerators
enumerators choices = map (λ (choice : Choice). choice.names) choices

-- the name of an enumerator of a type
abbrev pub enumerator : Enumerators → Ty → ℕ → Name
enumerator choices (type.Choice c) k =
    unwrap_or (slice_get (unwrap_or (slice_get choices c) []) k) []
enumerator choices type.Truth k = []
enumerator choices type.Word k = []

-- `0` or `1`, a decimal, or the name of an enumerator
abbrev pub value_text : Enumerators → Ty → Value → List ℕ
value_text choices ty (Truth b) = if b then codes "1" else codes "0"
value_text choices ty (Word w) = signed_decimal w
value_text choices ty (Enumerator k) = enumerator choices ty k

-- the values of a stream, each after a space
abbrev pub values_text : Enumerators → Ty → List Value → List ℕ
values_text choices ty stream = flat_map (λ v. 32 ∷ value_text choices ty v) stream

-- a name and the values of a stream, each after a space
abbrev pub stream_line : Enumerators → Name → Ty → List Value → List ℕ
stream_line choices name ty stream = name ++ (values_text choices ty stream ++ 10 ∷ [])

-- the type of an edge
abbrev pub type_at : List Edge → EdgeId → Ty
type_at edges e = option_map_or (λ (edge : Edge). edge.ty) (slice_get edges e.0) type.Truth

-- the name of an edge, and these values
abbrev pub edge_line : Parts → EdgeId → List Value → List ℕ
edge_line parts e values =
    stream_line (enumerators parts.choices) (name_at parts.edges e.0) (type_at parts.edges e) values
