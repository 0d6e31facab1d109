use Rattle.std.proofs.Common.{refl, arith}
use Rattle.lus_syntax.specs.Phrases.{more_group, more_params}
use Rattle.lus_syntax.proofs.Writing.{step, grows}
use Rattle.lus_syntax.proofs.printing.declarations.put_more_groups.Goals as goal

pub loop-group-preserved : goal.loop-group-preserved
loop-group-preserved c = record {
  ahead = step more_group more_params more_params (λ x xs. refl) _ _ _ c.args.groups.now c.loop-group.group-index c.group-item.result (omega (arith, c.loop-group-test.true)) c.group-item.is c.in_ok-put_more_group.ensures.ok c.loop-group.invariant.ahead;
  kept = grows _ _ _ (more_group c.group-item.result) c.loop-group.invariant.kept c.in_ok-put_more_group.ensures.ok;
}
