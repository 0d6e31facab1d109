use Rattle.std.proofs.Common.{◌≡◌, ◌∙◌, ◌++◌, ◌∷◌, [], None, cond, not, ◌&&◌, ◌||◌, is_some, sym, ap}
use Rattle.lus_types.specs.Names.{entry_of}
use Rattle.lus_types.specs.NameTables.{either}
use Rattle.lus_types.specs.Rows.{names_in}
use Rattle.lus_types.specs.Signatures.{variable, variable_type, unless_clocked}
use Rattle.lus_types.specs.Types.{type_named}
use Rattle.lus_types.specs.Views.{globals_seen, names_seen}
use Rattle.lus_types.specs.Walk.{variable_name}
use Rattle.lus_types.proofs.Tabled.{joined}
use Rattle.lus_types.proofs.Grown.{known, type_sound}
use Rattle.lus_types.proofs.nodes.variables.add_variable.Goals as goal

pub returns-clause-ok : goal.returns-clause-ok
returns-clause-ok c = λ row h.
    let g = globals_seen c.args.globals.now in
    let d = names_seen c.args.defined.now in
    let clock = c.args.group.now.clock in
    let word = c.args.group.now.ty in
    let x = c.args.name.now.text in
    let text : c.bytes-text.result.now ≡ x = c.bytes-text.ensures in
    let u = unless_clocked clock (type_named g word.text) in
    let ty : c.type_unless-ty.result ≡ variable_type g (variable_name c.args.is_input d (names_in row) x) clock word =
    c.type_unless-ty.ensures ∙ ap (λ b. cond b u None) (c.is_sound-sound.ensures
    ∙ (λ i. not ((c.has.ensures ∙ ap (λ n. is_some (entry_of c.args.table.now n)) text ∙ ap is_some (h x) ∙ known row x) i) && (c.args.is_input || (c.has-2.ensures ∙ ap d text) i)))
    ∙ type_sound g c.args.is_input d (names_in row) x clock word in
    record {
      found = λ y. c.in_ok-add.ensures.ok y
          ∙ (λ i. either (h y i) (entry_of ((text i, record { ty = ty i; is_input = c.args.is_input }) ∷ []) y))
          ∙ sym (joined row (variable g c.args.is_input d clock word (names_in row) c.args.name.now ∷ []) y);
      types = c.in_ok-add-2.ensures.ok ∙ ap (λ t. c.args.tys.now ++ t ∷ []) ty;
    }
