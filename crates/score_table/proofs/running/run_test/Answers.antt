use Rattle.std.proofs.Common.{◌∙◌, ◌∷◌, ◌++◌, [], List, add-zero, ap, arith, drop, false, length, sym, subst, take}
use Rattle.std.specs.Prelude.{replicate}
use Rattle.op_network.specs.declared.edge.Parts.{Parts}
use Rattle.op_network.specs.declared.value.Value.{Value}
use Rattle.op_network.specs.Valid.{IsValid}
use Rattle.score_table.specs.Watching.{Watches}
use Rattle.score_table.proofs.Tested.{tested_more, tested_none, tested_stopped, tested_whole, tested_wide}
use Rattle.score_table.proofs.running.run_test.Goals as goal

pub loop-t-init : goal.loop-t-init
loop-t-init g c = record {
  tested = tested_none c.args.net.now.network c.args.plan.now c.args.test.now c.in_ok-runner.runner c.as_slice-rest.result.now c.restart.new.self c.in_ok-covered.covered
      (subst IsValid c.network.ensures c.parts.ensures.valid) c.sequence.ensures.no_cycle c.in_ok-runner.ensures.stands c.in_ok-runner.ensures.size c.as_slice-rest.ensures c.requires.size
      (c.restart.ensures c.args.net.now.network c.args.plan.now c.requires.made)
      (c.in_ok-covered.ensures ∙ ap (λ n. replicate n false) (ap length c.duties.ensures));
  cost = sym (add-zero c.args.steps.now);
}

pub returns-then-not-asserts_hold-clause-row : goal.returns-then-not-asserts_hold-clause-row
returns-then-not-asserts_hold-clause-row g c =
    let parts = c.args.net.now.network in
    let width = c.len-width.ensures ∙ ap (λ (p : Parts). length p.inputs) (c.parts.ensures.same ∙ c.network.ensures) in
    let front = c.split_at.ensures.front ∙ ap (λ n. take n c.loop-t.rest.now) width in
    let fails = c.if-not-asserts_hold.true in
    tested_stopped parts c.args.plan.now c.args.test.now c.loop-t.t c.loop-t.runner c.step.new.self c.loop-t.rest.now c.split_at.result.0.now c.loop-t.watch c.loop-t.covered
    (subst IsValid c.network.ensures c.parts.ensures.valid) c.sequence.ensures.no_cycle c.loop-t-test.true front c.loop-t.invariant.tested c.step.ensures.stands (λ asserts. let holds = c.asserts_hold.ensures.1 asserts in absurd (cc (holds, fails)))

pub mark_all-requires-clause-size : goal.mark_all-requires-clause-size
mark_all-requires-clause-size g c =
    tested_wide c.args.net.now.network c.args.plan.now c.args.test.now c.loop-t.t c.loop-t.runner c.loop-t.rest.now c.loop-t.watch c.loop-t.covered c.loop-t.invariant.tested

pub loop-t-preserved : goal.loop-t-preserved
loop-t-preserved g c =
    let parts = c.args.net.now.network in
    let plan = c.args.plan.now in
    let width = c.len-width.ensures ∙ ap (λ (p : Parts). length p.inputs) (c.parts.ensures.same ∙ c.network.ensures) in
    let front = c.split_at.ensures.front ∙ ap (λ n. take n c.loop-t.rest.now) width in
    let back = c.split_at.ensures.back ∙ ap (λ n. drop n c.loop-t.rest.now) width in
    record {
      tested = tested_more parts plan c.args.test.now c.loop-t.t c.loop-t.runner c.step.new.self c.loop-t.rest.now c.split_at.result.1.now c.split_at.result.0.now c.loop-t.watch c.step-in-loop-t.new.self c.loop-t.covered c.mark_all.new.covered
          (subst IsValid c.network.ensures c.parts.ensures.valid) c.sequence.ensures.no_cycle c.loop-t-test.true front back c.loop-t.invariant.tested c.step.ensures.stands c.step.ensures.instant c.step.ensures.size (c.asserts_hold.ensures.0 c.if-not-asserts_hold.false)
          (λ frames seen. subst (λ (frame : List Value). Watches parts plan (frames ++ frame ∷ []) c.step-in-loop-t.new.self) c.frame.ensures (c.step-in-loop-t.ensures frames seen))
          c.mark_all.ensures.size
          (λ frames seen some k. c.mark_all.ensures.marked parts frames seen some k);
      cost = let now = c.step.ensures.cost in let before = c.loop-t.invariant.cost in omega (arith, now, before);
    }

pub returns-clause-row : goal.returns-clause-row
returns-clause-row g c =
    tested_whole c.args.net.now.network c.args.plan.now c.args.test.now c.loop-t.t c.loop-t.runner c.loop-t.rest.now c.loop-t.watch c.loop-t.covered
    (subst IsValid c.network.ensures c.parts.ensures.valid) c.sequence.ensures.no_cycle (omega arith) c.loop-t.invariant.tested
