use Rattle.std.proofs.Common.{◌≡◌, ◌+◌, ◌-◌, ◌<◌, ◌≤◌, sym, ap, arith, length, inl, inr, false, length-set}
use Rattle.std.proofs.lemmas.Bool.{cases_lt}
use Rattle.sat_core.specs.Solving.{entries_of}
use Rattle.sat_core.proofs.ClauseFacts.{length-clauses}
use Rattle.sat_core.proofs.Counting.{placed-few}
use Rattle.sat_core.proofs.Marking.{open-none}
use Rattle.sat_core.proofs.Walking.{place_false, Walking-start, Walking-skip, Walking-more, Walking-stop, Walking-few, Walking-empty, count-less}
use Rattle.sat_core.proofs.walk.walk.Goals as goal

pub mark_clause-requires-clause-fits : goal.mark_clause-requires-clause-fits
mark_clause-requires-clause-fits c = λ x k p. let w = (c.args.trail.now.placed.to x k (rw c.places.ensures at p)).0 in let n = c.requires.long in omega arith

pub mark_clause-requires-clause-few : goal.mark_clause-requires-clause-few
mark_clause-requires-clause-few c =
    let most = placed-few _ (entries_of c.args.trail.now) c.args.trail.now.places.items c.args.trail.now.placed in
    let few = c.args.trail.now.few in
    let n = c.requires.long in
    omega arith

pub mark_clause-requires-clause-count : goal.mark_clause-requires-clause-count
mark_clause-requires-clause-count c = sym (open-none _ c.args.seen.now (λ k h. c.requires.none k))

pub loop-i-init : goal.loop-i-init
loop-i-init c =
    let q = c.requires.conflict in
    let placed = c.args.trail.now.placed in
    let place = place_false _ (entries_of c.args.trail.now) c.args.trail.now.places.items q.late q.place placed q.late_high q.late_is in
    let marks = (rw (c.clause_at-clause.ensures, c.places.ensures) at c.mark_clause.ensures.marks) in
    rw (c.in_ok-push_hint.ensures, c.requires.empty, c.entries-i.ensures)
    (Walking-start _ _ _ _ _ c.requires.solving.is_trail placed c.requires.solving.well.once _ _ _ _ q.here q.falses c.requires.none marks c.mark_clause.ensures.count q.late q.place q.late_in place q.late_low)

pub returns-then-count-eq1 : goal.returns-then-count-eq1
returns-then-count-eq1 c =
    let e : c.loop-i.i ≡ (c.loop-i.i - 1) + 1 = omega arith in
    let n = ap length c.entries-i.ensures in
    let long = c.requires.long in
    Walking-stop _ _ _ _ _ _ _ (omega arith) (omega arith) (omega arith) c.if-seen-i.true (omega arith) (rw e at c.loop-i.invariant)

pub clause_at-clause-requires-in-Some : goal.clause_at-clause-requires-in-Some
clause_at-clause-requires-in-Some c =
    let n = ap length c.entries-i.ensures in
    let r = c.requires.solving.is_trail.reasons (c.loop-i.i - 1) c.in-Some.reason (omega arith) (rw c.entries.ensures at c.in-Some.is) in
    let i = r.inside in
    let l = length-clauses c.args.formula.now c.args.log.now in
    omega arith

pub mark_clause-requires-in-Some-clause-fits : goal.mark_clause-requires-in-Some-clause-fits
mark_clause-requires-in-Some-clause-fits c = λ x k p.
    (let w = (c.args.trail.now.placed.to x k (rw c.places-in-Some.ensures at p)).0 in
    let l = length-set c.loop-i.seen (c.loop-i.i - 1) false in
    let n = c.requires.long in
    omega arith)

pub mark_clause-requires-in-Some-clause-few : goal.mark_clause-requires-in-Some-clause-few
mark_clause-requires-in-Some-clause-few c =
    let most = placed-few _ (entries_of c.args.trail.now) c.args.trail.now.places.items c.args.trail.now.placed in
    let few = c.args.trail.now.few in
    let n = c.requires.long in
    let l = length-set c.loop-i.seen (c.loop-i.i - 1) false in
    omega arith

pub mark_clause-requires-in-Some-clause-count : goal.mark_clause-requires-in-Some-clause-count
mark_clause-requires-in-Some-clause-count c =
    let n = ap length c.entries-i.ensures in
    let long = c.requires.long in
    count-less c.args.from (c.loop-i.i - 1) _ c.loop-i.seen (omega arith) (omega arith) c.if-seen-i.true c.loop-i.invariant.counted

pub loop-i-preserved-in-Continue-branch-2 : goal.loop-i-preserved-in-Continue-branch-2
loop-i-preserved-in-Continue-branch-2 c =
    let e : c.loop-i.i ≡ (c.loop-i.i - 1) + 1 = omega arith in
    let n = ap length c.entries-i.ensures in
    let long = c.requires.long in
    let l = c.loop-i.invariant.left in
    let two : 2 ≤ c.loop-i.count = omega arith in
    let here : c.loop-i.i - 1 < length (entries_of c.args.trail.now) = omega arith in
    let old : length c.loop-i.seen ≡ length (entries_of c.args.trail.now) = omega arith in
    let new : length c.mark_clause-in-Some.new.seen ≡ length (entries_of c.args.trail.now) = omega (arith, length-set c.loop-i.seen (c.loop-i.i - 1) false) in
    let low : c.args.from ≤ c.loop-i.i - 1 = omega arith in
    let marks = (rw (c.clause_at-clause-in-Some.ensures, c.places-in-Some.ensures, c.entries.ensures) at c.mark_clause-in-Some.ensures.marks) in
    rw c.in_ok-push_hint-in-Some.ensures
    (Walking-more _ _ _ _ _ c.requires.solving.is_trail c.args.trail.now.placed c.requires.solving.well.once _ c.loop-i.seen _ c.loop-i.count _ _ _ here old new low c.if-seen-i.true two
    (rw c.entries.ensures at c.in-Some.is) marks c.mark_clause-in-Some.ensures.count (rw e at c.loop-i.invariant))

pub unreachable-requires : goal.unreachable-requires
unreachable-requires c =
    let n = ap length c.entries-i.ensures in
    elim (cases_lt c.args.from (c.loop-i.i - 1)) [
      | inl h ↦ c.requires.last.last (c.loop-i.i - 1) h (omega arith) (rw c.entries.ensures at c.in-None.is)
      | inr h ↦
          let e : c.loop-i.i ≡ c.args.from + 1 = omega arith in
          Walking-few _ _ _ _ _ _ (rw e at c.loop-i.invariant) c.if-count-eq1.false
    ]

pub loop-i-preserved : goal.loop-i-preserved
loop-i-preserved c =
    let e : c.loop-i.i ≡ (c.loop-i.i - 1) + 1 = omega arith in
    Walking-skip _ _ _ _ _ c.requires.solving.is_trail c.args.trail.now.placed c.requires.solving.well.once _ _ _ _ c.if-seen-i.false (rw e at c.loop-i.invariant)

pub unreachable-requires-2 : goal.unreachable-requires-2
unreachable-requires-2 c =
    let n = ap length c.entries-i.ensures in
    let inside = c.requires.last.inside in
    Walking-empty _ _ _ _ _ _ _ c.loop-i.invariant (omega arith)
