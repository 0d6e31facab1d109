use Rattle.std.proofs.Common.{ap, get_or, List, ℕ, arith}
use Rattle.lus_types.proofs.Searches.{search_start, search_next, search_end}
use Rattle.lus_types.proofs.calls.search.reach.Goals as goal

pub loop-next-init : goal.loop-next-init
loop-next-init c = search_start c.args.rows.now c.args.start c.row_at.result.now c.in_ok-search.search c.mark_all.new.self c.in_ok-search.ensures.ok.0 c.in_ok-search.ensures.ok.1 c.row_at.ensures c.in_ok-mark_all.ensures.ok

pub loop-next-preserved : goal.loop-next-preserved
loop-next-preserved c = search_next c.args.rows.now c.args.start c.loop-next.next _ c.row_at-in-loop-next.result.now c.loop-next.search c.mark_all-in-loop-next.new.self (omega arith) (ap (λ (xs : List ℕ). get_or xs c.loop-next.next 0) c.as_slice.ensures) c.row_at-in-loop-next.ensures c.loop-next.invariant c.in_ok-mark_all-2.ensures.ok

pub returns-clause-ok : goal.returns-clause-ok
returns-clause-ok c = search_end c.args.rows.now c.args.start c.loop-next.next c.loop-next.search c.loop-next.invariant (omega arith)
