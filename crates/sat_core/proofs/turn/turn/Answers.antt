use Rattle.std.proofs.Common.{◌≡◌, ◌∙◌, sym, subst, true, ℕ}
use Rattle.cnf_form.specs.Lits.{below}
use Rattle.sat_core.proofs.Turning.{next-solving, next-learnt, next-nearer, next-free, next-inside, resolvent}
use Rattle.sat_core.proofs.turn.turn.Goals as goal

pub tell-requires : goal.tell-requires
tell-requires g c =
    let w = (rw c.as_slice.ensures at c.in_ok-lesson.ensures) in
    let inside = (resolvent c.args.formula.now c.args.log.now c.args.trail.now c.args.from c.in_ok-lesson.lesson c.requires.solving c.requires.last w).inside in
    subst (λ (n : ℕ). below n c.lits.result.now ≡ true) (sym c.requires.size) (rw c.lits.ensures.lits inside)

pub push-requires-clause-inside : goal.push-requires-clause-inside
push-requires-clause-inside g c =
    let w = (rw c.as_slice.ensures at c.in_ok-lesson.ensures) in
    let inside = next-inside c.args.formula.now c.args.log.now c.args.trail.now c.args.from c.in_ok-lesson.lesson c.requires.solving c.requires.last w in
    rw c.cut.ensures.vars inside

pub push-requires-clause-free : goal.push-requires-clause-free
push-requires-clause-free g c =
    let w = (rw c.as_slice.ensures at c.in_ok-lesson.ensures) in
    next-free c.args.formula.now c.args.log.now c.args.trail.now c.args.from c.in_ok-lesson.lesson c.requires.solving c.requires.last w c.cut.new.self c.cut.ensures.entries

pub returns-clause-solving : goal.returns-clause-solving
returns-clause-solving g c =
    let w = (rw c.as_slice.ensures at c.in_ok-lesson.ensures) in
    let entries = (rw (c.cut.ensures.entries, c.len.ensures) at c.in_ok-push.ensures.entries) in
    rw (c.in_ok-add.ensures.ok, c.len.ensures)
    (next-solving c.args.formula.now c.args.log.now c.args.trail.now c.args.from c.in_ok-lesson.lesson c.requires.solving c.requires.last w
    c.push.new.self entries (c.in_ok-push.ensures.vars ∙ c.cut.ensures.vars) c.requires.room)

pub returns-clause-learnt : goal.returns-clause-learnt
returns-clause-learnt g c =
    let w = (rw c.as_slice.ensures at c.in_ok-lesson.ensures) in
    rw (c.in_ok-add.ensures.ok, c.len.ensures)
    (next-learnt c.args.formula.now c.args.log.now c.args.trail.now c.args.from c.in_ok-lesson.lesson c.requires.solving c.requires.last w)

pub returns-clause-nearer : goal.returns-clause-nearer
returns-clause-nearer g c =
    let w = (rw c.as_slice.ensures at c.in_ok-lesson.ensures) in
    let entries = (rw (c.cut.ensures.entries, c.len.ensures) at c.in_ok-push.ensures.entries) in
    next-nearer c.args.formula.now c.args.log.now c.args.trail.now c.args.from c.in_ok-lesson.lesson c.requires.solving c.requires.last w
    c.push.new.self entries (c.in_ok-push.ensures.vars ∙ c.cut.ensures.vars)
