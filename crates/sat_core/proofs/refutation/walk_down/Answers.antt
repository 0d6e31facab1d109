use Rattle.std.proofs.Common.{◌≡◌, ◌+◌, ◌-◌, ◌<◌, sym, ap, arith, length}
use Rattle.sat_core.specs.Solving.{entries_of}
use Rattle.sat_core.proofs.ClauseFacts.{length-clauses}
use Rattle.sat_core.proofs.Conflicting.{closed-falses}
use Rattle.sat_core.proofs.Counting.{placed-few}
use Rattle.sat_core.proofs.Falling.{Falling-start, Falling-skip, Falling-more, Falling-end}
use Rattle.sat_core.proofs.Marking.{open-none}
use Rattle.sat_core.proofs.refutation.walk_down.Goals as goal

pub mark_clause-requires-clause-fits : goal.mark_clause-requires-clause-fits
mark_clause-requires-clause-fits c = λ x k p. let w = (c.args.trail.now.placed.to x k (rw c.places.ensures at p)).0 in let n = c.requires.long in omega arith

pub mark_clause-requires-clause-few : goal.mark_clause-requires-clause-few
mark_clause-requires-clause-few c =
    let most = placed-few _ (entries_of c.args.trail.now) c.args.trail.now.places.items c.args.trail.now.placed in
    let few = c.args.trail.now.few in
    let n = c.requires.long in
    omega arith

pub mark_clause-requires-clause-count : goal.mark_clause-requires-clause-count
mark_clause-requires-clause-count c = sym (open-none _ c.args.seen.now (λ k h. c.requires.none k))

pub loop-i-init : goal.loop-i-init
loop-i-init c =
    let placed = c.args.trail.now.placed in
    let marks = (rw (c.clause_at-clause.ensures, c.places.ensures) at c.mark_clause.ensures.marks) in (
      rw (c.in_ok-push_hint.ensures, c.requires.empty, c.entries-from.ensures)
          (Falling-start _ _ _ _ c.requires.solving.is_trail placed c.requires.solving.well.once _ _ _ c.requires.closed.here (closed-falses _ (entries_of c.args.trail.now) _ c.requires.closed) c.requires.none marks),
      c.mark_clause.ensures.count,
    )

pub clause_at-clause-requires-in-Some : goal.clause_at-clause-requires-in-Some
clause_at-clause-requires-in-Some c =
    let n = ap length c.entries-from.ensures in
    let r = c.requires.solving.is_trail.reasons (c.loop-i.i - 1) c.in-Some.reason (omega arith) (rw c.entries.ensures at c.in-Some.is) in
    let i = r.inside in
    let l = length-clauses c.args.formula.now c.args.log.now in
    omega arith

pub mark_clause-requires-in-Some-clause-fits : goal.mark_clause-requires-in-Some-clause-fits
mark_clause-requires-in-Some-clause-fits c = λ x k p. let w = (c.args.trail.now.placed.to x k (rw c.places-in-Some.ensures at p)).0 in let n = c.requires.long in omega arith

pub mark_clause-requires-in-Some-clause-few : goal.mark_clause-requires-in-Some-clause-few
mark_clause-requires-in-Some-clause-few c =
    let most = placed-few _ (entries_of c.args.trail.now) c.args.trail.now.places.items c.args.trail.now.placed in
    let few = c.args.trail.now.few in
    let n = c.requires.long in
    omega arith

pub loop-i-preserved-in-Continue-branch-2 : goal.loop-i-preserved-in-Continue-branch-2
loop-i-preserved-in-Continue-branch-2 c =
    let e : c.loop-i.i ≡ (c.loop-i.i - 1) + 1 = omega arith in
    let n = ap length c.entries-from.ensures in
    let here : c.loop-i.i - 1 < length (entries_of c.args.trail.now) = omega arith in
    let v = c.loop-i.invariant.0 in
    let marks = (rw (c.clause_at-clause-in-Some.ensures, c.places-in-Some.ensures, c.entries.ensures) at c.mark_clause-in-Some.ensures.marks) in (
      rw c.in_ok-push_hint-in-Some.ensures
          (Falling-more _ _ _ _ c.requires.solving.is_trail c.args.trail.now.placed c.requires.solving.well.once _ c.loop-i.seen _ _ _ here c.if-seen-i.true (rw c.entries.ensures at c.in-Some.is) marks (rw e at v)),
      c.mark_clause-in-Some.ensures.count,
    )

pub loop-i-preserved : goal.loop-i-preserved
loop-i-preserved c =
    let e : c.loop-i.i ≡ (c.loop-i.i - 1) + 1 = omega arith in
    let v = c.loop-i.invariant.0 in
    (Falling-skip _ _ _ _ c.requires.solving.is_trail c.args.trail.now.placed c.requires.solving.well.once _ _ _ c.if-seen-i.false (rw e at v), c.loop-i.invariant.1)

pub unreachable-requires : goal.unreachable-requires
unreachable-requires c = let n = ap length c.entries-from.ensures in c.requires.all (c.loop-i.i - 1) (omega arith) (rw c.entries.ensures at c.in-None.is)

pub returns : goal.returns
returns c = Falling-end _ (entries_of c.args.trail.now) c.loop-i.i c.loop-i.seen _ (omega arith) c.loop-i.invariant.0
