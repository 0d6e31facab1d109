use Rattle.std.proofs.Common.{ap, ◌∙◌}
use Rattle.lus_types.specs.Names.{is_among}
use Rattle.lus_types.proofs.Tabled.{among}
use Rattle.lus_types.proofs.names.set.NameSet.has.Goals as goal

pub returns : goal.returns
returns c = c.contains.ensures ∙ among c.args.name.now c.self.inside.names.keys ∙ ap (is_among c.args.name.now) c.self.view_is
