use Rattle.std.proofs.Common.{rules, arith}
use Rattle.lus_syntax.proofs.Readers.{fails, pass, pass_same, pass_run, run_start, run_next, run_end, same_takes, takes_shorter}
use Rattle.lus_syntax.proofs.DeclarationParts.{decls_same, decl_opens, decl_after_decl, not_at_end}
use Rattle.lus_syntax.proofs.grammar.declarations.decls.Goals as goal

pub decls-init : goal.decls-init
decls-init c = run_start c.new-decls.ensures

pub returns-in_err-next : goal.returns-in_err-next
returns-in_err-next c = fails (pass (pass_same (decls_same c.args.text.now)) (pass_run (decl_after_decl c.args.text.now) c.decls.invariant (not_at_end c.in-Some.ensures))) (search rules) c.in_err-next.ensures

pub decls-preserved : goal.decls-preserved
decls-preserved c = run_next c.decls.invariant c.in_ok-next.ensures (search rules)

pub decls-smaller : goal.decls-smaller
decls-smaller c = omega (arith, takes_shorter (decl_opens c.args.text.now) c.in_ok-next.ensures.0)

pub returns : goal.returns
returns c = (same_takes (decls_same c.args.text.now) (run_end c.decls.invariant), c.in_default.ensures)
