use Rattle.std.proofs.Common.{ap, ◌∙◌}
use Rattle.lus_types.specs.Names.{entry_of}
use Rattle.lus_types.proofs.Tabled.{found}
use Rattle.node_expand.proofs.names.table.NameTable.get.Goals as goal

pub returns : goal.returns
returns g c = c.get.ensures.value ∙ found c.self.inside.entries.entries c.args.name.now ∙ ap (λ t. entry_of t c.args.name.now) c.self.view_is
