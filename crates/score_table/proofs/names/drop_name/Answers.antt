use Rattle.std.proofs.Common.{false}
use Rattle.score_table.proofs.NameSets.{name_updated}
use Rattle.score_table.proofs.names.drop_name.Goals as goal

pub returns : goal.returns
returns c = name_updated c.args.names.now c.remove-was.new.self c.args.name.now false c.remove-was.ensures.updates
