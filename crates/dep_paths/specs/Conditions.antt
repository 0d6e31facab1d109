-- The conditions of a network: the ports that read a truth which isn't only put together from others.
use Rattle.std.specs.Prelude.{◌&&◌, ℕ, Bool, true, false, not, List, Option, map, length, slice_get}
use Rattle.std.specs.List.{filter, flat_map, range_with_len}
use Rattle.std.specs.Option.{option_map_or}
use Rattle.op_network.specs.declared.edge.Edge.{Edge}
use Rattle.op_network.specs.declared.edge.EdgeId.{EdgeId}
use Rattle.op_network.specs.declared.form.Binary.{Binary}
use Rattle.op_network.specs.declared.form.Binary.TheVariants as two
use Rattle.op_network.specs.declared.form.Form.{Form}
use Rattle.op_network.specs.declared.form.Form.TheVariants.{Const, One, Two}
use Rattle.op_network.specs.declared.form.Unary.{Unary}
use Rattle.op_network.specs.declared.form.Unary.TheVariants as one
use Rattle.op_network.specs.declared.value.Ty.TheVariants as type
use Rattle.op_network.specs.Operators.{form_of, is_same_type, operands_of}
use Rattle.dep_paths.specs.declared.path.Condition.{Condition}

-- ---- ports

abbrev pub port_at : EdgeId → ℕ → Condition
port_at e port = record { edge = e; port = port }

-- the operand at a port
abbrev pub operand_at : List Edge → Condition → Option EdgeId
operand_at edges port = slice_get (operands_of edges port.edge) port.port

-- the ports of an edge, in order
abbrev pub ports_of : List Edge → EdgeId → List Condition
ports_of edges e = map (port_at e) (range_with_len 0 (length (operands_of edges e)))

abbrev pub ports_at : List Edge → ℕ → List Condition
ports_at edges e = ports_of edges (record { 0 = e })

-- the ports of all edges, by edge and port
abbrev pub all_ports : List Edge → List Condition
all_ports edges = flat_map (ports_at edges) (range_with_len 0 (length edges))

-- ---- the truths that they read

-- the edge is a Truth
abbrev pub is_truth_edge : List Edge → EdgeId → Bool
is_truth_edge edges e =
    option_map_or (λ (edge : Edge). is_same_type edge.ty type.Truth) (slice_get edges e.0) false

abbrev pub is_constant : Form → Bool
is_constant (Const v) = true
is_constant _ = false

-- an operator with one operand makes a truth from a truth
abbrev pub is_unary_link : Unary → Bool
is_unary_link one.Not = true
is_unary_link _ = false

-- an operator with two operands makes a truth from truths, where `truths` tells whether these are
abbrev pub is_binary_link : Binary → Bool → Bool
is_binary_link two.And truths = true
is_binary_link two.Or truths = true
is_binary_link two.Xor truths = true
is_binary_link two.Imp truths = true
is_binary_link two.Eq truths = truths
is_binary_link two.Ne truths = truths
is_binary_link _ truths = false

-- `Not`, `And`, `Or`, `Xor`, `Imp`, or an `Eq` or `Ne` of truths
abbrev pub is_link : List Edge → Form → Bool
is_link edges (One o a) = is_unary_link o
is_link edges (Two o a b) = is_binary_link o (is_truth_edge edges a && is_truth_edge edges b)
is_link edges _ = false

-- an edge that has no name of its own and is a link
abbrev pub is_inner : List Edge → Edge → Bool
is_inner edges edge = not edge.named && is_link edges (form_of edge.op)

-- the operand counts: it is a Truth, no constant, and no inner link
abbrev pub counts_operand : List Edge → EdgeId → Bool
counts_operand edges a = is_truth_edge edges a && option_map_or (λ (edge : Edge). not (is_constant (form_of edge.op)) && not (is_inner edges edge)) (slice_get edges a.0) false

abbrev pub is_asserted : List Edge → EdgeId → Bool
is_asserted edges e = option_map_or (λ (edge : Edge). edge.asserted) (slice_get edges e.0) false

-- ---- the conditions

-- a port of an edge that isn't asserted, whose operand counts
abbrev pub is_condition : List Edge → Condition → Bool
is_condition edges port = not (is_asserted edges port.edge) && option_map_or (counts_operand edges) (operand_at edges port) false

-- all of them, by edge and port
abbrev pub conditions : List Edge → List Condition
conditions edges = filter (is_condition edges) (all_ports edges)
