use Rattle.std.proofs.Common.{refl, arith}
use Rattle.lus_syntax.specs.Phrases.{group_line, lines}
use Rattle.lus_syntax.proofs.Writing.{step, grows}
use Rattle.lus_syntax.proofs.printing.declarations.put_lines.Goals as goal

pub loop-group-preserved : goal.loop-group-preserved
loop-group-preserved c = record {
  ahead = step group_line lines lines (λ x xs. refl) _ _ _ c.args.groups.now c.loop-group.group-index c.group-item.result (omega (arith, c.loop-group-test.true)) c.group-item.is c.in_ok-put_line.ensures.ok c.loop-group.invariant.ahead;
  kept = grows _ _ _ (group_line c.group-item.result) c.loop-group.invariant.kept c.in_ok-put_line.ensures.ok;
}
