use Rattle.node_expand.proofs.HeaderTypes.{types_found}
use Rattle.node_expand.proofs.nodes.header_with.Goals as goal

pub invariant_of-result : goal.invariant_of-result
invariant_of-result c = record {
  types_are = λ x.
      types_found c.args.inputs c.args.outputs c.args.locals c.as_slice.result.now c.as_slice-2.result.now c.as_slice-3.result.now
      c.new-types.result c.add_types.new.types c.add_types-2.new.types c.add_types-3.new.types x
      c.as_slice.ensures c.as_slice-2.ensures c.as_slice-3.ensures
      c.new-types.ensures c.in_ok-add_types.ensures c.in_ok-add_types-2.ensures c.in_ok-add_types-3.ensures;
}
