use Rattle.std.proofs.Common.{sym, ◌∙◌, rules}
use Rattle.lus_causality.proofs.Members.{is_taken}
use Rattle.lus_causality.proofs.ready.Ready.take_least.Goals as goal

pub returns-clause-some : goal.returns-clause-some
returns-clause-some c = is_taken c.args.self.now c.in_ok-e.e _ (sym c.self.view_is ∙ c.in_ok-e.ensures.removal) (search rules)
