use Rattle.std.proofs.Common.{◌<◌, ◌≤◌, ◌≡◌, Bool, true, false, List, length, get_or, sym, ap, ◌∙◌, subst, arith, length-append}
use Rattle.std.specs.Prelude.{IsTrue}
use Rattle.op_network.specs.declared.edge.EdgeId.{EdgeId}
use Rattle.lus_causality.specs.Causality.{operands_now, IsOnCycle}
use Rattle.lus_causality.specs.Search.{HasOperands}
use Rattle.lus_causality.proofs.Reading.{in_at}
use Rattle.lus_causality.proofs.Searching.{at_place, from_found, one_followed, found_few, still_has, searched, taken_off}
use Rattle.lus_causality.proofs.cycle.lies_on_cycle.Goals as goal

pub returns-then-as_slice-e-clause-lies : goal.returns-then-as_slice-e-clause-lies
returns-then-as_slice-e-clause-lies c =
    let marked : get_or c.args.taken.now.marks c.args.e.0 false ≡ true = sym (ap (λ (l : List Bool). get_or l c.args.e.0 false) c.as_slice.ensures) ∙ c.if-as_slice-e.true in
    ((λ never. absurd (cc)), (λ lies. absurd (taken_off c.args.network.now.edges c.args.taken.now c.args.e c.requires.taken marked lies)))

pub find_operands-requires-in-loop-next-clause-edge :
    goal.find_operands-requires-in-loop-next-clause-edge
find_operands-requires-in-loop-next-clause-edge c =
    let lt : c.loop-next.next < length c.loop-next.found.sequence = omega (arith, c.loop-next-test.true, c.len.ensures) in
    c.loop-next.invariant.search.within _ (in_at c.loop-next.found.sequence c.loop-next.next _ (at_place c.as_slice-in-loop-next.result.now c.loop-next.found.sequence c.loop-next.next _ c.as_slice-in-loop-next.ensures lt))

pub find_operands-requires-in-loop-next-clause-leads :
    goal.find_operands-requires-in-loop-next-clause-leads
find_operands-requires-in-loop-next-clause-leads c =
    let lt : c.loop-next.next < length c.loop-next.found.sequence = omega (arith, c.loop-next-test.true, c.len.ensures) in
    from_found c.args.network.now.edges c.args.e _ c.loop-next.next c.loop-next.found (at_place c.as_slice-in-loop-next.result.now c.loop-next.found.sequence c.loop-next.next _ c.as_slice-in-loop-next.ensures lt) c.loop-next.invariant.search

pub loop-next-smaller : goal.loop-next-smaller
loop-next-smaller c =
    let few = found_few c.args.network.now.edges c.args.e c.loop-next.found c.loop-next.invariant.search in
    omega (arith, few, c.loop-next-test.true, c.len.ensures)

pub loop-next-preserved : goal.loop-next-preserved
loop-next-preserved c =
    let lt : c.loop-next.next < length c.loop-next.found.sequence = omega (arith, c.loop-next-test.true, c.len.ensures) in
    let told = c.in_ok-find_operands-2.ensures in
    let b : EdgeId = get_or c.as_slice-in-loop-next.result.now c.loop-next.next (record { 0 = 0 }) in
    let marks = c.as_slice-in-loop-next-2.ensures in
    let longer = ap length told.further.is ∙ length-append c.loop-next.found.sequence told.further.rest in
    record {
      search = told.search;
      has = still_has _ _ c.loop-next.found c.find_operands-in-loop-next.new.found told.further c.loop-next.invariant.has;
      followed = one_followed c.args.network.now.edges c.args.taken.now.marks c.loop-next.next b c.loop-next.found c.find_operands-in-loop-next.new.found lt (at_place c.as_slice-in-loop-next.result.now c.loop-next.found.sequence c.loop-next.next _ c.as_slice-in-loop-next.ensures lt) told.further (subst (λ (l : List Bool). HasOperands l (operands_now c.args.network.now.edges b) c.find_operands-in-loop-next.new.found) marks told.found) c.loop-next.invariant.followed;
      within = omega (arith, lt, longer);
    }

pub returns-clause-lies : goal.returns-clause-lies
returns-clause-lies c =
    let left : get_or c.args.taken.now.marks c.args.e.0 false ≡ false = sym (ap (λ (l : List Bool). get_or l c.args.e.0 false) c.as_slice.ensures) ∙ c.if-as_slice-e.false in
    let full : length c.loop-next.found.sequence ≤ c.loop-next.next = omega (arith, c.loop-next-test.false, c.len.ensures) in
    let marks = c.as_slice-3.ensures in
    subst (λ (l : List Bool). (IsTrue (get_or l c.args.e.0 false) → IsOnCycle c.args.network.now.edges c.args.e) × (IsOnCycle c.args.network.now.edges c.args.e → IsTrue (get_or l c.args.e.0 false))) (sym marks)
    (searched c.args.network.now.edges c.args.taken.now c.args.e c.loop-next.found c.loop-next.next c.requires.taken left full c.loop-next.invariant.search c.loop-next.invariant.has c.loop-next.invariant.followed)
