use Rattle.std.proofs.Common.{◌∷◌, [], ◌∙◌, ◌++◌, if◌then◌else◌, ap, sym}
use Rattle.lus_types.proofs.Tabled.{added, has, lacked}
use Rattle.lus_types.specs.Names.{entry_of}
use Rattle.node_expand.proofs.names.table.NameTable.add.Goals as goal

pub returns-then-contains_key-clause-ok : goal.returns-then-contains_key-clause-ok
returns-then-contains_key-clause-ok g c =
    let there = sym (has c.self.inside.entries.entries c.args.name.now c.args.self.now c.self.view_is) ∙ sym c.contains_key.ensures ∙ c.if-contains_key.true in
    sym (ap (λ b. if b then c.args.self.now else (c.args.self.now ++ (c.args.name.now, c.args.meaning) ∷ [])) there)

pub returns-in-Ok-insert-clause-ok : goal.returns-in-Ok-insert-clause-ok
returns-in-Ok-insert-clause-ok g c =
    let new = sym (has c.self.inside.entries.entries c.args.name.now c.args.self.now c.self.view_is) ∙ sym c.contains_key.ensures ∙ c.if-contains_key.false in
    let none = lacked (entry_of c.args.self.now c.args.name.now) new in
    added c.self.inside.entries.entries c.insert.new.self.entries c.in-Ok.key c.args.meaning c.args.self.now c.args.name.now c.in-Ok-insert.ensures.entries c.in-Ok.ensures.items c.self.view_is none
    ∙ sym (ap (λ b. if b then c.args.self.now else (c.args.self.now ++ (c.args.name.now, c.args.meaning) ∷ [])) new)
