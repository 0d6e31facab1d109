use Rattle.lus_types.specs.Names.{globals}
use Rattle.node_expand.proofs.RootsMade.{header_seen}
use Rattle.node_expand.proofs.nodes.node_header.Goals as goal

pub returns : goal.returns
returns c =
    header_seen (globals c.args.typed.now.ast.decls) c.args.inputs.now c.args.outputs.now c.args.locals.now c.in_ok-inputs.inputs c.in_ok-outputs.outputs c.in_ok-locals.locals c.header_with.result
    c.in_ok-inputs.ensures c.in_ok-outputs.ensures c.in_ok-locals.ensures c.header_with.ensures.inputs c.header_with.ensures.outputs c.header_with.ensures.locals
