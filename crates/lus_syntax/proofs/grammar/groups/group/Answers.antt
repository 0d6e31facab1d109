use Rattle.std.proofs.Common.{rules}
use Rattle.lus_syntax.specs.declared.token.TokenKind.TheVariants.{Sign}
use Rattle.lus_syntax.specs.declared.token.Symbol.TheVariants as sign
use Rattle.lus_syntax.proofs.Readers.{fails, pass, pass_same, pass_first, pass_second, leads_anywhere, same_takes, takes_both, kind_part}
use Rattle.lus_syntax.proofs.NamesAndGroups.{group_same, names_part, typed_part, typed_leads, type_part, ending_part, clock_part}
use Rattle.lus_syntax.proofs.grammar.groups.group.Goals as goal

pub returns-in_err-names : goal.returns-in_err-names
returns-in_err-names c = fails (pass (pass_same (group_same c.args.text.now)) (pass_first (typed_part c.args.text.now) (typed_leads c.args.text.now))) (search rules) c.in_err-names.ensures

pub returns-in_err-behind_colon : goal.returns-in_err-behind_colon
returns-in_err-behind_colon c =
    fails (pass (pass_same (group_same c.args.text.now)) (pass (pass_second (names_part c.args.text.now) (typed_leads c.args.text.now) c.in_ok-names.ensures) (pass_first (ending_part c.args.text.now) leads_anywhere))) (search rules) c.in_err-behind_colon.ensures

pub returns-in_err-ty : goal.returns-in_err-ty
returns-in_err-ty c =
    fails (pass (pass_same (group_same c.args.text.now)) (pass (pass_second (names_part c.args.text.now) (typed_leads c.args.text.now) c.in_ok-names.ensures) (pass (pass_second (kind_part (Sign sign.Colon)) leads_anywhere c.in_ok-behind_colon.ensures) (pass_first (clock_part c.args.text.now) leads_anywhere)))) (search rules) c.in_err-ty.ensures

pub returns-in_err-clock : goal.returns-in_err-clock
returns-in_err-clock c =
    fails (pass (pass_same (group_same c.args.text.now)) (pass (pass_second (names_part c.args.text.now) (typed_leads c.args.text.now) c.in_ok-names.ensures) (pass (pass_second (kind_part (Sign sign.Colon)) leads_anywhere c.in_ok-behind_colon.ensures) (pass_second (type_part c.args.text.now) leads_anywhere c.in_ok-ty.ensures)))) (search rules) c.in_err-clock.ensures

pub returns : goal.returns
returns c = (same_takes (group_same c.args.text.now) (takes_both c.in_ok-names.ensures.0 (takes_both c.in_ok-behind_colon.ensures.0 (takes_both c.in_ok-ty.ensures.0 c.in_ok-clock.ensures.0))), c.in_ok-clock.ensures.1)
