use Rattle.std.proofs.Common.{◌∷◌, [], ◌∙◌, ap, sym, is_some, true≢false}
use Rattle.lus_types.proofs.Tabled.{added, has, joined, kept, lacked}
use Rattle.lus_types.specs.Names.{entry_of}
use Rattle.lus_types.proofs.names.table.NameTable.add.Goals as goal

pub returns-then-contains_key-clause-ok : goal.returns-then-contains_key-clause-ok
returns-then-contains_key-clause-ok g c = λ x.
    kept c.args.self.now c.args.name.now x c.args.meaning
    (λ none. true≢false (sym c.if-contains_key.true ∙ c.contains_key.ensures ∙ has c.self.inside.entries.entries c.args.name.now c.args.self.now c.self.view_is ∙ ap is_some none))

pub returns-in-Ok-insert-clause-ok : goal.returns-in-Ok-insert-clause-ok
returns-in-Ok-insert-clause-ok g c = λ x.
    let none = lacked (entry_of c.args.self.now c.args.name.now) (sym (has c.self.inside.entries.entries c.args.name.now c.args.self.now c.self.view_is) ∙ sym c.contains_key.ensures ∙ c.if-contains_key.false) in
    ap (λ t. entry_of t x) (added c.self.inside.entries.entries c.insert.new.self.entries c.in-Ok.key c.args.meaning c.args.self.now c.args.name.now c.in-Ok-insert.ensures.entries c.in-Ok.ensures.items c.self.view_is none)
    ∙ joined c.args.self.now ((c.args.name.now, c.args.meaning) ∷ []) x
