use Rattle.std.proofs.Common.{◌∙◌, sym, ap, Some}
use Rattle.lus_types.specs.Views.{scope_seen, recursions}
use Rattle.lus_types.proofs.Chains.{called_node}
use Rattle.lus_types.proofs.expressions.kinds.call_kind.Goals as goal

pub returns-in-Some-Node : goal.returns-in-Some-Node
returns-in-Some-Node c =
    c.node_call_kind.ensures ∙ sym (called_node (recursions c.args.scope.now.cycles.now) (scope_seen c.args.scope.now) c.args.position c.args.name.now c.args.args.now c.in-Some-Node.callee (sym c.in_constant.ensures ∙ c.if-in_constant.false) (sym c.meaning_of.ensures ∙ c.in-Some-Node.is ∙ ap Some c.in-Some-Node.field-0-is))
