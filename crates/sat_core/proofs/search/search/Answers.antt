use Rattle.std.proofs.Common.{◌+◌, ◌∙◌, arith, length, ap, None}
use Rattle.std.proofs.lemmas.List.{length_push}
use Rattle.std.proofs.lemmas.Option.{none-some}
use Rattle.proof_check.specs.declared.step.ProofStep.TheVariants.{Put}
use Rattle.sat_core.specs.Solving.{entries_of}
use Rattle.sat_core.specs.Trail.{clauses_of}
use Rattle.sat_core.proofs.Conflicting.{conflict-from}
use Rattle.sat_core.proofs.LogSteps.{Logged-more}
use Rattle.sat_core.proofs.Setting.{Solving-push, nearer-less, weight-push}
use Rattle.sat_core.proofs.search.search.Goals as goal

pub turns-smaller-in-Continue-branch-3 : goal.turns-smaller-in-Continue-branch-3
turns-smaller-in-Continue-branch-3 g c =
    let push = c.in_ok-push-in-Some-free_lit.ensures in
    let more = weight-push c.propagate.new.trail c.push.new.self (record { lit = c.decision-lit.result; reason = None }) push.entries push.vars c.decision-lit.ensures.inside c.decision-lit.ensures.free in
    let nearer = c.in_ok-propagate.ensures.nearer in
    nearer-less c.turns.trail c.push.new.self (push.vars ∙ c.in_ok-propagate.ensures.vars) (omega arith)

pub turns-preserved-in-Continue-branch-3 : goal.turns-preserved-in-Continue-branch-3
turns-preserved-in-Continue-branch-3 g c =
    let push = c.in_ok-push-in-Some-free_lit.ensures in
    let solving = (rw c.as_slice.ensures at c.in_ok-propagate.ensures.solving) in
    let idle = (rw (c.in-None.is, c.as_slice.ensures) at c.in_ok-propagate.ensures.found) in (
      record {
        solving = Solving-push c.propagate.new.trail c.push.new.self (record { lit = c.decision-lit.result; reason = None }) push.entries push.vars
            c.decision-lit.ensures.inside c.decision-lit.ensures.free c.args.formula.now c.turns.log solving (λ r e. absurd (none-some r e)) (λ e. idle);
        logged = c.turns.invariant.0.logged;
        size = push.vars ∙ (c.in_ok-propagate.ensures.vars ∙ c.turns.invariant.0.size);
        within = c.turns.invariant.0.within;
      },
      c.decision-lit.ensures.size ∙ c.turns.invariant.1,
    )

pub turn-requires-clause-conflict : goal.turn-requires-clause-conflict
turn-requires-clause-conflict g c =
    let closed = (rw (c.in-Some.is, c.as_slice.ensures) at c.in_ok-propagate.ensures.found) in
    let solving = (rw c.as_slice.ensures at c.in_ok-propagate.ensures.solving) in
    let last = c.in-Some-last_decision.ensures.some in
    conflict-from _ (clauses_of c.args.formula.now c.turns.log) (entries_of c.propagate.new.trail) c.in-Some.at c.in-Some-last_decision.from
    solving.is_trail closed last.inside last.decided

pub turns-smaller : goal.turns-smaller
turns-smaller g c =
    let a = c.in_ok-propagate.ensures.nearer in
    let b = c.in_ok-turn-in-Some-last_decision.ensures.nearer in
    nearer-less c.turns.trail c.turn.new.trail (c.in_ok-turn-in-Some-last_decision.ensures.vars ∙ c.in_ok-propagate.ensures.vars) (omega arith)

pub turns-preserved : goal.turns-preserved
turns-preserved g c =
    let vars = c.in_ok-propagate.ensures.vars ∙ c.turns.invariant.0.size in
    let learnt = (rw vars at c.in_ok-turn-in-Some-last_decision.ensures.learnt) in
    let within = c.turns.invariant.0.within in
    let n = c.len.ensures in
    let more = ap length learnt.step ∙ length_push c.turns.log (Put (length c.args.formula.now + length c.turns.log + 1) learnt.clause learnt.hints) in (
      record {
        solving = c.in_ok-turn-in-Some-last_decision.ensures.solving;
        logged = Logged-more _ _ c.turns.log c.turn.new.log c.turns.invariant.0.logged learnt;
        size = c.in_ok-turn-in-Some-last_decision.ensures.vars ∙ vars;
        within = omega arith;
      },
      c.turn.ensures.size ∙ c.turns.invariant.1,
    )
