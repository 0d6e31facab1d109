use Rattle.std.proofs.Common.{◌∙◌, sym}
use Rattle.lus_types.proofs.FinePrograms.{small_choices}
use Rattle.lus_types.proofs.typed.Typed.constant_named.Goals as goal

pub value_meant-value-requires : goal.value_meant-value-requires
value_meant-value-requires c = λ ty i h.
    let it = c.args.self.now in
    small_choices it.ast.decls it.width it.fine c.args.name.now ty i (sym (it.names c.args.name.now) ∙ sym c.meaning_in-meaning.ensures ∙ h)
