use Rattle.std.proofs.Common.{◌<◌, length, get_or, ap, ◌∙◌, arith, length-append}
use Rattle.op_network.specs.declared.edge.EdgeId.{EdgeId}
use Rattle.lus_causality.proofs.Reading.{in_at}
use Rattle.lus_causality.proofs.Searching.{at_place}
use Rattle.lus_causality.proofs.Seeing.{all_followed, one_followed, seen_few}
use Rattle.lus_causality.proofs.seen.see_all.Goals as goal

pub see_operands-requires-clause-edge : goal.see_operands-requires-clause-edge
see_operands-requires-clause-edge c =
    let lt : c.loop-next.next < length c.loop-next.seen.sequence = omega (arith, c.loop-next-test.true, c.len.ensures) in
    c.loop-next.invariant.list.within _ (in_at c.loop-next.seen.sequence c.loop-next.next _ (at_place c.as_slice.result.now c.loop-next.seen.sequence c.loop-next.next _ c.as_slice.ensures lt))

pub loop-next-smaller : goal.loop-next-smaller
loop-next-smaller c =
    let few = seen_few c.args.network.now.edges c.loop-next.seen c.loop-next.invariant.list in
    omega (arith, few, c.loop-next-test.true, c.len.ensures)

pub loop-next-preserved : goal.loop-next-preserved
loop-next-preserved c =
    let lt : c.loop-next.next < length c.loop-next.seen.sequence = omega (arith, c.loop-next-test.true, c.len.ensures) in
    let told = c.in_ok-see_operands.ensures in
    let b : EdgeId = get_or c.as_slice.result.now c.loop-next.next (record { 0 = 0 }) in
    let longer = ap length told.further.is ∙ length-append c.loop-next.seen.sequence told.further.rest in
    record {
      list = told.list;
      followed = one_followed c.args.network.now.edges c.loop-next.next b c.loop-next.seen c.see_operands.new.seen lt (at_place c.as_slice.result.now c.loop-next.seen.sequence c.loop-next.next _ c.as_slice.ensures lt) told.further told.listed c.loop-next.invariant.followed;
      within = omega (arith, lt, longer);
    }

pub returns-clause-closed : goal.returns-clause-closed
returns-clause-closed c = all_followed c.args.network.now.edges c.loop-next.next c.loop-next.seen (omega (arith, c.loop-next-test.false, c.len.ensures)) c.loop-next.invariant.followed
