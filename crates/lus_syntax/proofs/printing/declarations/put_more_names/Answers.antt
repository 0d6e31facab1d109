use Rattle.std.proofs.Common.{refl, arith}
use Rattle.lus_syntax.specs.Phrases.{more_name, more_names}
use Rattle.lus_syntax.proofs.Writing.{step, grows}
use Rattle.lus_syntax.proofs.printing.declarations.put_more_names.Goals as goal

pub loop-name-preserved : goal.loop-name-preserved
loop-name-preserved c = record {
  ahead = step more_name more_names more_names (λ x xs. refl) _ _ _ c.args.names.now c.loop-name.name-index c.name-item.result (omega (arith, c.loop-name-test.true)) c.name-item.is c.in_ok-put_more_name.ensures.ok c.loop-name.invariant.ahead;
  kept = grows _ _ _ (more_name c.name-item.result) c.loop-name.invariant.kept c.in_ok-put_more_name.ensures.ok;
}
