use Rattle.std.proofs.Common.{rules}
use Rattle.lus_syntax.specs.declared.token.TokenKind.TheVariants.{Word}
use Rattle.lus_syntax.specs.declared.token.Keyword.TheVariants as word
use Rattle.lus_syntax.proofs.Readers.{fails, pass, pass_same, pass_second, pass_other, never_nothing, leads_anywhere, same_takes, takes_both, takes_one, takes_other, takes_nothing, token_taken, kind_part, stuck_behind, sticks, pass_any}
use Rattle.lus_syntax.proofs.NamesAndGroups.{clock_same, clocked_part, when_alike}
use Rattle.lus_syntax.proofs.grammar.groups.clock.Goals as goal

pub returns-in-None : goal.returns-in-None
returns-in-None c = (same_takes (clock_same c.args.text.now) (takes_one takes_nothing), c.in-None.ensures.whole)

pub returns-in_err-of-in-Some : goal.returns-in_err-of-in-Some
returns-in_err-of-in-Some c =
    fails (pass (pass_same (clock_same c.args.text.now)) (pass (pass_other (never_nothing when_alike (λ g. g c.in-Some.when c.in-Some.more.now c.in-Some.ensures.whole c.in-Some.ensures.kind))) (pass (pass_second (kind_part (Word word.When)) leads_anywhere (token_taken c.in-Some.ensures.whole c.in-Some.ensures.kind, tt)) pass_any))) (search rules) c.in_err-of-in-Some.ensures

pub returns-in_err-refuse-in-Some : goal.returns-in_err-refuse-in-Some
returns-in_err-refuse-in-Some c =
    sticks (pass (pass_same (clock_same c.args.text.now)) (pass_other (never_nothing when_alike (λ g. g c.in-Some.when c.in-Some.more.now c.in-Some.ensures.whole c.in-Some.ensures.kind)))) (search rules) c.in_err-refuse-in-Some.ensures.err
    (stuck_behind (clocked_part c.args.text.now) when_alike (takes_both (token_taken c.in-Some.ensures.whole c.in-Some.ensures.kind) c.in_ok-of-in-Some.ensures.0) c.in_err-refuse-in-Some.ensures.begins)

pub returns-in_ok-refuse-in-Some : goal.returns-in_ok-refuse-in-Some
returns-in_ok-refuse-in-Some c = (same_takes (clock_same c.args.text.now) (takes_other (takes_both (token_taken c.in-Some.ensures.whole c.in-Some.ensures.kind) c.in_ok-of-in-Some.ensures.0)), c.in_ok-refuse-in-Some.ensures.ok)
