use Rattle.std.proofs.Common.{refl, arith}
use Rattle.lus_syntax.specs.Phrases.{decl, decls}
use Rattle.lus_syntax.proofs.Writing.{step, grows}
use Rattle.lus_syntax.proofs.printing.put_decls.Goals as goal

pub loop-decl-preserved : goal.loop-decl-preserved
loop-decl-preserved c = record {
  ahead = step decl decls decls (λ x xs. refl) _ _ _ c.args.decls.now c.loop-decl.decl-index c.decl-item.result (omega (arith, c.loop-decl-test.true)) c.decl-item.is c.in_ok-put_decl.ensures.ok c.loop-decl.invariant.ahead;
  kept = grows _ _ _ (decl c.decl-item.result) c.loop-decl.invariant.kept c.in_ok-put_decl.ensures.ok;
}
