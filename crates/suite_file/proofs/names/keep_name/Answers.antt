use Rattle.suite_file.proofs.Ended.{name_kept}
use Rattle.suite_file.proofs.names.keep_name.Goals as goal

pub returns : goal.returns
returns c = name_kept c.args.names.now c.insert.new.self c.in-Ok.key c.args.name.now c.in-Ok-insert.ensures.keys c.in-Ok.ensures.items
