use Rattle.std.proofs.Common.{sym, ◌∙◌}
use Rattle.lus_types.proofs.Tabled.{set_added}
use Rattle.lus_types.proofs.names.set.NameSet.add.Goals.{in-Ok-insert, in-Err}
use Rattle.lus_types.proofs.names.set.NameSet.add.Goals as goal

pub returns-clause-added : goal.returns-clause-added
returns-clause-added c = elim c.match-insert.branch [
  | in-Ok-insert w ↦ λ h.
      let none = sym c.has.ensures ∙ c.if-has.false in
      (none, set_added c.self.inside.names.keys c.insert.new.self.keys c.in-Ok.key c.args.self.now c.args.name.now w.in-Ok-insert.ensures.keys c.in-Ok.ensures.items c.self.view_is none)
  | in-Err w ↦ λ h. cc
]
