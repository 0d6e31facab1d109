use Rattle.std.proofs.Common.{◌∷◌, [], ap, ◌∙◌, length, length-append, arith}
use Rattle.lus_causality.proofs.Growing.{ready_within, ready_marked, took, taken_few}
use Rattle.lus_causality.proofs.sequence.take_all.Goals as goal

pub take-requires : goal.take-requires
take-requires c = ready_marked c.args.network.now.edges c.loop-e.taken c.in-Some.e c.loop-e.ready c.take_least.new.self c.loop-e.invariant c.in-Some.ensures.some

pub ready_readers-requires-clause-edge : goal.ready_readers-requires-clause-edge
ready_readers-requires-clause-edge c = ready_within c.args.network.now.edges c.loop-e.taken c.in-Some.e c.loop-e.ready c.take_least.new.self c.loop-e.invariant c.in-Some.ensures.some

pub ready_readers-requires-clause-taken : goal.ready_readers-requires-clause-taken
ready_readers-requires-clause-taken c = took c.args.network.now.edges c.loop-e.taken c.take.new.taken c.in-Some.e c.loop-e.ready c.take_least.new.self c.loop-e.invariant c.in-Some.ensures.some c.in_ok-take.ensures.sequence c.in_ok-take.ensures.marks

pub loop-e-smaller : goal.loop-e-smaller
loop-e-smaller c =
    let few = taken_few c.args.network.now.edges c.take.new.taken c.in_ok-ready_readers.ensures.list in
    let size = ap length c.in_ok-take.ensures.sequence ∙ length-append c.loop-e.taken.sequence (c.in-Some.e ∷ []) in
    omega (arith, few, size)
