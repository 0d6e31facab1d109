-- The sequence of a network has its edges in an order in which they can be done.
use Rattle.std.proofs.Common.{◌≡◌, ℕ, ◌<◌, Bool, true, false, List, Option, Some, None, sym, length, slice_get}
use Rattle.std.specs.List.{Contains}
use Rattle.std.specs.Option.{option_map_or}
use Rattle.std.proofs.lemmas.Option.{slice_get_within, get_or_from_slice_get}
use Rattle.op_network.specs.declared.edge.Edge.{Edge}
use Rattle.op_network.specs.declared.edge.EdgeId.{EdgeId}
use Rattle.op_network.specs.declared.edge.Parts.{Parts}
use Rattle.op_network.specs.Operators.{form_of, operands_in}
use Rattle.op_network.specs.Valid.{IsValid}
use Rattle.op_network.proofs.Typing.{operand_inside}
use Rattle.lus_causality.specs.Causality.{IsSequence, is_pre, operands_now_in, unless}
use Rattle.lus_causality.proofs.Causal.{place_below, place_in}
use Rattle.omcdc_tags.specs.Order.{IsInOrder, StandsBefore}
use Rattle.omcdc_tags.proofs.Marking.{false_true}

now_by : (pre : Bool) (ops : List EdgeId) (port : ℕ) (a : EdgeId) → pre ≡ false → slice_get ops port ≡ Some a → Contains (unless pre ops) a
now_by true ops port a other read = absurd (false_true (sym other))
now_by false ops port a other read = (port, slice_get_within ops port a read, get_or_from_slice_get ops port a a read)

now_in : (o : Option Edge) (port : ℕ) (a : EdgeId) → option_map_or (λ (edge : Edge). is_pre (form_of edge.op)) o false ≡ false → slice_get (operands_in o) port ≡ Some a → Contains (operands_now_in o) a
now_in None port a other read = absurd (cc)
now_in (Some edge) port a other read = now_by (is_pre (form_of edge.op)) (operands_in (Some edge)) port a other read

before_by : (sequence : List EdgeId) (i : ℕ) (e : EdgeId) → (j : ℕ) × (j < i) × (slice_get sequence j ≡ Some e) → StandsBefore sequence i e
before_by sequence i e p = record { place = p.0; before = p.1; there = p.2 }

pub in_order : (net : Parts) (sequence : List EdgeId) → IsValid net → IsSequence net.edges sequence → IsInOrder net.edges sequence
in_order net sequence valid order = record {
  operands = λ port a read. operand_inside net port.edge a port.port valid.typed read;
  whole = λ e within. before_by sequence (length sequence) e (place_in e sequence (order.full e within));
  within = λ i e there. (order.least i e there).stands.within;
  behind = λ i e a port there other read.
      before_by sequence i a (place_below a sequence i ((order.least i e there).stands.operands a (now_in (slice_get net.edges e.0) port a other read)));
}
