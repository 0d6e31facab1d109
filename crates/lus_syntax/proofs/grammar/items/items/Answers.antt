use Rattle.std.proofs.Common.{rules, arith}
use Rattle.lus_syntax.proofs.Readers.{fails, pass, pass_same, pass_run, run_start, run_next, run_end, same_takes, takes_shorter}
use Rattle.lus_syntax.proofs.Equations.{items_same, item_opens, item_after_item}
use Rattle.lus_syntax.proofs.grammar.items.items.Goals as goal

pub items-init : goal.items-init
items-init c = run_start c.new-items.ensures

pub returns-in_err-next : goal.returns-in_err-next
returns-in_err-next c = fails (pass (pass_same (items_same c.args.text.now)) (pass_run (item_after_item c.args.text.now) c.items.invariant (c.begins_item.ensures.yes c.items-test.true))) (search rules) c.in_err-next.ensures

pub items-preserved : goal.items-preserved
items-preserved c = run_next c.items.invariant c.in_ok-next.ensures (search rules)

pub items-smaller : goal.items-smaller
items-smaller c = omega (arith, takes_shorter (item_opens c.args.text.now) c.in_ok-next.ensures.0)

pub returns : goal.returns
returns c = (same_takes (items_same c.args.text.now) (run_end c.items.invariant), c.begins_item.ensures.no c.items-test.false)
