use Rattle.lustrocov.proofs.words.behind_name.Goals as goal
use Rattle.lustrocov.proofs.Behind.{behind_first, all_taken}

pub loop-word-init : goal.loop-word-init
loop-word-init c = behind_first c.next-name.result _ _ _ _ c.next-name.ensures.items c.next-name.ensures.variant c.args.args.rest.ok.0 c.new-words.ensures

pub returns : goal.returns
returns c = all_taken c.next.result _ _ _ _ c.loop-word.invariant c.next.ensures.variant c.loop-word.args.rest.ok.0 c.in_default.is
