use Rattle.std.proofs.Common.{◌≡◌, Some, rules, All}
use Rattle.std.specs.Bool.{IsTrue}
use Rattle.std.proofs.lemmas.List.Elements.{All-weaker}
use Rattle.op_network.specs.declared.edge.EdgeId.{EdgeId}
use Rattle.op_network.specs.declared.value.Ty.TheVariants as type
use Rattle.op_network.specs.Valid.{type_of}
use Rattle.op_network.proofs.Typing.{typed_inside}
use Rattle.op_network.proofs.valid.places.are_truths.Goals as goal

pub returns-clause-edges : goal.returns-clause-edges
returns-clause-edges c =
    let edges = c.args.edges.now in
    let truths : IsTrue c.all.result → All (λ (e : EdgeId). type_of edges e ≡ Some type.Truth) c.args.ids.now = search rules in
    λ h. All-weaker _ _ (λ e is. typed_inside edges e type.Truth is) c.args.ids.now (truths h)
