-- How many bits the word of an edge has, and how many variables the formula of a goal takes at
-- most.
use Rattle.std.specs.Prelude.{ℕ, zero, suc, ◌+◌, ◌*◌, ◌^◌, nat_le, if◌then◌else◌, List, length, slice_get, map, sum}
use Rattle.std.specs.Option.{option_map_or}
use Rattle.op_network.specs.declared.edge.Choice.{Choice}
use Rattle.op_network.specs.declared.edge.Edge.{Edge}
use Rattle.op_network.specs.declared.edge.EdgeId.{EdgeId}
use Rattle.op_network.specs.declared.edge.Parts.{Parts}
use Rattle.op_network.specs.declared.form.Unary.{Unary}
use Rattle.op_network.specs.declared.form.Unary.TheVariants as one
use Rattle.op_network.specs.declared.form.Binary.{Binary}
use Rattle.op_network.specs.declared.form.Binary.TheVariants as two
use Rattle.op_network.specs.declared.form.Form.{Form}
use Rattle.op_network.specs.declared.form.Form.TheVariants.{One, Two}
use Rattle.op_network.specs.declared.value.Ty.{Ty}
use Rattle.op_network.specs.declared.value.Ty.TheVariants as type
use Rattle.op_network.specs.Operators.{form_of, operands}
use Rattle.op_network.specs.Valid.{type_of}
use Rattle.bit_blast.specs.Costs.{sum_cost, product_cost, equality_cost, order_cost}

-- ---- bits

-- the least b from `from` on, `more` at most, with n ≤ 2 ^ b
abbrev pub bits_from : ℕ → ℕ → ℕ → ℕ
bits_from n from zero = from
bits_from n from (suc more) = if nat_le n (2 ^ from) then from else bits_from n (suc from) more

-- the least b from 1 on with n ≤ 2 ^ b, for n of at most 256
abbrev pub choice_bits : ℕ → ℕ
choice_bits n = bits_from n 1 7

-- how many enumerators a choice has
abbrev pub enumerators : List Choice → ℕ → ℕ
enumerators choices c =
    option_map_or (λ (choice : Choice). length choice.names) (slice_get choices c) 0

-- the bits of a type
abbrev pub bits_of : Parts → Ty → ℕ
bits_of parts type.Truth = 1
bits_of parts type.Word = parts.width
bits_of parts (type.Choice c) = choice_bits (enumerators parts.choices c)

-- the bits of an edge
abbrev pub edge_bits : Parts → EdgeId → ℕ
edge_bits parts e = option_map_or (bits_of parts) (type_of parts.edges e) 0

-- ---- costs

-- the most that an edge costs at an instant: a product of words of 32 bits
abbrev pub most_cost : ℕ
most_cost = 8192

-- of an operator with one operand whose result has b bits
abbrev pub unary_cost : Unary → ℕ → ℕ
unary_cost one.Id b = b
unary_cost one.Not b = b
unary_cost one.Neg b = sum_cost b

-- of an operator with two operands whose result has b bits, and the first operand w
abbrev pub binary_cost : Binary → ℕ → ℕ → ℕ
binary_cost two.And b w = b
binary_cost two.Or b w = b
binary_cost two.Xor b w = b
binary_cost two.Imp b w = b
binary_cost two.Eq b w = equality_cost w
binary_cost two.Ne b w = equality_cost w
binary_cost two.Lt b w = order_cost w
binary_cost two.Le b w = order_cost w
binary_cost two.Gt b w = order_cost w
binary_cost two.Ge b w = order_cost w
binary_cost two.Add b w = sum_cost b
binary_cost two.Sub b w = sum_cost b
binary_cost two.Mul b w = product_cost b

abbrev pub cost_by : Parts → Form → ℕ → ℕ
cost_by parts (One o a) b = unary_cost o b
cost_by parts (Two o a c) b = binary_cost o b (edge_bits parts a)
cost_by parts _ b = b

-- the cost of an edge at an instant
abbrev pub cost_of : Parts → Edge → ℕ
cost_of parts edge = cost_by parts (form_of edge.op) (bits_of parts edge.ty)

-- the cost of all edges at an instant
abbrev pub costs : Parts → ℕ
costs parts = sum (map (cost_of parts) parts.edges)

-- how many ports there are
abbrev pub ports : Parts → ℕ
ports parts = sum (map (λ (edge : Edge). length (operands edge.op)) parts.edges)

-- how many variables the formula of a goal takes at most, over k instants
abbrev pub size_of : Parts → ℕ → ℕ
size_of parts k = 1 + k * (costs parts + 4 * ports parts + 4 * length parts.edges + 260)
