use Rattle.std.proofs.Common.{◌<◌, ◌∙◌, ap, subst, arith, rules, List, Option}
use Rattle.cnf_form.specs.Limits.{most_vars}
use Rattle.cnf_form.specs.declared.lit.Lit.{Lit}
use Rattle.op_network.specs.declared.edge.EdgeId.{EdgeId}
use Rattle.op_network.specs.declared.edge.Parts.{Parts}
use Rattle.bit_blast.specs.Circuit.{And, after, with_entry}
use Rattle.bit_blast.specs.Made.{Makes}
use Rattle.unroll_cnf.specs.Made.{word_at}
use Rattle.goal_cnf.specs.Goal.{adm_circuit, last_lit, met_circuit}
use Rattle.goal_cnf.proofs.Hitting.{assert_bits, hit_overfills, hits_next, joined_overfills, met_overfills}
use Rattle.goal_cnf.proofs.instants.hits.Goals as goal

pub returns-in_err-now-clause-full : goal.returns-in_err-now-clause-full
returns-in_err-now-clause-full c = λ e.
    met_overfills c.args.net.now.network c.args.net.now.sequence c.args.plan.now c.args.duty c.args.un.now.words c.args.maker.now c.loop-t.maker c.loop-t.t c.loop-t.lits c.loop-t.adm c.loop-t.hits c.loop-t.invariant (omega (arith, c.loop-t-test.true, c.instants-t-end.ensures, c.requires.streams.rows)) most_vars
    (subst (λ (past : Option (List Lit)). most_vars < after c.loop-t.maker.vars (met_circuit c.loop-t.maker.vars c.args.net.now.network c.args.net.now.sequence c.args.plan.now c.args.duty (word_at c.args.un.now.words c.loop-t.t) past).entries)
    c.as_past.ensures (c.in_err-now.ensures.full (search rules)))

pub admitted-requires-clause-bits : goal.admitted-requires-clause-bits
admitted-requires-clause-bits c =
    assert_bits c.args.net.now.network c.args.un.now c.loop-t.t c.args.un.now.formula.vars
    (record { streams = c.requires.streams; instant = omega (arith, c.loop-t-test.true, c.instants-t-end.ensures); grown = omega arith })
    c.as_slice-asserts.result.now (c.as_slice-asserts.ensures ∙ ap (λ (p : Parts). p.asserts) (c.parts.ensures.same ∙ c.network.ensures))

pub returns-in_err-adm-clause-full : goal.returns-in_err-adm-clause-full
returns-in_err-adm-clause-full c = λ e.
    joined_overfills c.args.net.now.network c.args.net.now.sequence c.args.plan.now c.args.duty c.args.un.now.words c.args.maker.now c.loop-t.maker c.loop-t.t c.loop-t.lits c.loop-t.adm c.loop-t.hits c.loop-t.invariant (omega (arith, c.loop-t-test.true, c.instants-t-end.ensures, c.requires.streams.rows)) c.met.new.maker c.in_ok-now.now
    (subst (λ (past : Option (List Lit)). Makes (List Lit) c.loop-t.maker c.met.new.maker (met_circuit c.loop-t.maker.vars c.args.net.now.network c.args.net.now.sequence c.args.plan.now c.args.duty (word_at c.args.un.now.words c.loop-t.t) past) c.in_ok-now.now)
    c.as_past.ensures c.in_ok-now.ensures.made)
    most_vars
    (subst (λ (z : List EdgeId). most_vars < after c.met.new.maker.vars (adm_circuit c.met.new.maker.vars (word_at c.args.un.now.words c.loop-t.t) c.loop-t.adm z).entries)
    (c.as_slice-asserts.ensures ∙ ap (λ (p : Parts). p.asserts) (c.parts.ensures.same ∙ c.network.ensures)) (c.in_err-adm.ensures.full (search rules)))

pub returns-in_err-hit-clause-full : goal.returns-in_err-hit-clause-full
returns-in_err-hit-clause-full c = λ e.
    hit_overfills c.args.net.now.network c.args.net.now.sequence c.args.plan.now c.args.duty c.args.un.now.words c.args.maker.now c.loop-t.maker c.loop-t.t c.loop-t.lits c.loop-t.adm c.loop-t.hits c.loop-t.invariant (omega (arith, c.loop-t-test.true, c.instants-t-end.ensures, c.requires.streams.rows)) c.met.new.maker c.in_ok-now.now
    (subst (λ (past : Option (List Lit)). Makes (List Lit) c.loop-t.maker c.met.new.maker (met_circuit c.loop-t.maker.vars c.args.net.now.network c.args.net.now.sequence c.args.plan.now c.args.duty (word_at c.args.un.now.words c.loop-t.t) past) c.in_ok-now.now)
    c.as_past.ensures c.in_ok-now.ensures.made)
    c.admitted.new.maker c.in_ok-adm.adm
    (subst (λ (z : List EdgeId). Makes Lit c.met.new.maker c.admitted.new.maker (adm_circuit c.met.new.maker.vars (word_at c.args.un.now.words c.loop-t.t) c.loop-t.adm z) c.in_ok-adm.adm)
    (c.as_slice-asserts.ensures ∙ ap (λ (p : Parts). p.asserts) (c.parts.ensures.same ∙ c.network.ensures)) c.in_ok-adm.ensures.made)
    most_vars (c.in_err-hit.ensures.full (search rules))

pub loop-t-preserved : goal.loop-t-preserved
loop-t-preserved c =
    hits_next c.args.net.now.network c.args.net.now.sequence c.args.plan.now c.args.duty c.args.un.now.words c.args.maker.now c.loop-t.maker c.loop-t.t c.loop-t.lits c.loop-t.adm c.loop-t.hits c.loop-t.invariant (omega (arith, c.loop-t-test.true, c.instants-t-end.ensures, c.requires.streams.rows)) c.met.new.maker c.in_ok-now.now
    (subst (λ (past : Option (List Lit)). Makes (List Lit) c.loop-t.maker c.met.new.maker (met_circuit c.loop-t.maker.vars c.args.net.now.network c.args.net.now.sequence c.args.plan.now c.args.duty (word_at c.args.un.now.words c.loop-t.t) past) c.in_ok-now.now)
    c.as_past.ensures c.in_ok-now.ensures.made)
    c.admitted.new.maker c.in_ok-adm.adm
    (subst (λ (z : List EdgeId). Makes Lit c.met.new.maker c.admitted.new.maker (adm_circuit c.met.new.maker.vars (word_at c.args.un.now.words c.loop-t.t) c.loop-t.adm z) c.in_ok-adm.adm)
    (c.as_slice-asserts.ensures ∙ ap (λ (p : Parts). p.asserts) (c.parts.ensures.same ∙ c.network.ensures)) c.in_ok-adm.ensures.made)
    c.and_gate.new.self c.in_ok-hit.hit c.add.new.self c.in_ok-now.ensures.lits c.in_ok-adm.ensures.more c.in_ok-adm.ensures.below
    (c.in_ok-hit.ensures.made ∙ ap (λ (x : Lit). with_entry c.admitted.new.maker (And c.in_ok-adm.adm x)) (c.last.ensures ∙ ap last_lit c.as_slice.ensures))
    c.in_ok-hit.ensures.result c.in_ok-add.ensures.ok
