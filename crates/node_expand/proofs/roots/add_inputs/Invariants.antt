use Rattle.std.proofs.Common.{◌≡◌, drop}
use Rattle.std.specs.Prelude.{zip}
use Rattle.node_expand.specs.NameTables.{with_entries}
use Rattle.node_expand.specs.Variables.{names_of}
use Rattle.node_expand.proofs.roots.add_inputs.Given as goal

abbrev pub invariant-loop-i : goal.invariant-loop-i
invariant-loop-i l = with_entries l.places (zip (names_of (drop l.i l.inputs)) (drop l.i l.args)) ≡ with_entries l.initial.places (zip (names_of l.inputs) l.args)
