use Rattle.std.proofs.Common.{◌∙◌, ap}
use Rattle.op_network.specs.declared.edge.Parts.{Parts}
use Rattle.dep_paths.proofs.Valid.{inputs_near}
use Rattle.dep_paths.proofs.walk.levels.Goals as goal

pub starts-requires : goal.starts-requires
starts-requires c = inputs_near c.args.net.now c.args.near.now c.as_slice.result.now c.requires.closed c.requires.table.long (c.as_slice.ensures ∙ ap (λ (p : Parts). p.inputs) c.parts.ensures.same)
