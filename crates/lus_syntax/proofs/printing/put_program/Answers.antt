use Rattle.std.proofs.lemmas.Result.{on_err_weaker}
use Rattle.std.proofs.Common.{sym, subst}
use Rattle.lus_syntax.specs.Phrases.{Extends, decls}
use Rattle.lus_syntax.proofs.Writing.{grows, extends_self}
use Rattle.lus_syntax.proofs.printing.put_program.Goals as goal

pub returns-clause-err : goal.returns-clause-err
returns-clause-err c =
    on_err_weaker c.extend_from_slice.result (λ is. subst (Extends c.args.out.now) (sym is) (grows _ _ _ (decls c.as_slice.result.now) (extends_self c.args.out.now) c.in_ok-put_decls.ensures.ok)) c.extend_from_slice.ensures.err
