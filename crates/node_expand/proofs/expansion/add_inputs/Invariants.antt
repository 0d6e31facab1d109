use Rattle.std.proofs.Common.{◌≡◌, ◌++◌, drop, map}
use Rattle.node_expand.specs.Network.{input_edges}
use Rattle.node_expand.specs.Variables.{variable_seen}
use Rattle.node_expand.proofs.expansion.add_inputs.Given as goal

abbrev pub invariant-loop-i : goal.invariant-loop-i
invariant-loop-i l = l.edges ++ input_edges l.i (map variable_seen (drop l.i l.inputs)) ≡ l.initial.edges ++ input_edges 0 (map variable_seen l.inputs)
