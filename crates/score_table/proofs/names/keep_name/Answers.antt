use Rattle.std.proofs.Common.{◌∙◌, ap, cond, true}
use Rattle.std.specs.Str.{bytes_eq}
use Rattle.score_table.specs.Names.{holds}
use Rattle.score_table.proofs.NameSets.{name_updated}
use Rattle.score_table.proofs.names.keep_name.Goals as goal

pub returns-clause-ok : goal.returns-clause-ok
returns-clause-ok c = λ other.
    name_updated c.args.names.now c.insert.new.self c.in-Ok.key.items true c.in-Ok-insert.ensures.updates other
    ∙ ap (λ name. cond (bytes_eq name other) true (holds c.args.names.now other)) c.in-Ok.ensures.items
