use Rattle.std.proofs.lemmas.Result.{on_ok_weaker}
use Rattle.lus_syntax.proofs.PrintedTexts.{prints}
use Rattle.lus_syntax.proofs.printing.print.Goals as goal

pub returns-else-is_err-clause-printed : goal.returns-else-is_err-clause-printed
returns-else-is_err-clause-printed c =
    on_ok_weaker c.put_program-printed.result (λ is. prints c.args.ast.now c.args.out.now _ c.requires.tree is) c.put_program-printed.ensures.ok
