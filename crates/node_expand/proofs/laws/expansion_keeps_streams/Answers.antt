use Rattle.node_expand.specs.Law.{main_name, program_in}
use Rattle.node_expand.proofs.Kept.{kept}
use Rattle.node_expand.proofs.WellFormed.{well_formed}
use Rattle.node_expand.proofs.laws.expansion_keeps_streams.Goals as goal

pub returns : goal.returns
returns c shallow = kept (program_in c.args.typed.now) (main_name c.args.typed.now) (well_formed (program_in c.args.typed.now) c.typed_program.ensures.program) shallow
