use Rattle.std.proofs.Common.{◌<◌, length, get_or, subst, rules, List}
use Rattle.std.specs.Option.{option_map}
use Rattle.cnf_form.specs.Limits.{most_vars}
use Rattle.cnf_form.specs.declared.lit.Lit.{Lit}
use Rattle.bit_blast.specs.Circuit.{after}
use Rattle.bit_blast.specs.Made.{Makes}
use Rattle.unroll_cnf.specs.Made.{word_at}
use Rattle.goal_cnf.specs.Made.{tag_of}
use Rattle.goal_cnf.specs.Observation.{past_in, tag_circuit}
use Rattle.goal_cnf.proofs.Tagging.{tags_full, tags_next}
use Rattle.goal_cnf.proofs.observed.tags.Goals as goal

pub returns-in_err-lit-clause-full : goal.returns-in_err-lit-clause-full
returns-in_err-lit-clause-full c = λ e.
    tags_full c.args.network.now.edges (tag_of c.args.condition c.args.value) (word_at c.args.un.now.words c.args.t) c.args.bit (past_in (length c.args.network.now.edges) (option_map (λ ls. ls.now) c.args.before)) c.args.order.now c.args.maker.now c.loop-e.maker c.loop-e.e-index most_vars c.loop-e.tags (record { 0 = 0 }) c.loop-e.invariant c.loop-e-test.true
    (subst (λ (z : List Lit). most_vars < after c.loop-e.maker.vars (tag_circuit c.loop-e.maker.vars c.args.network.now.edges (tag_of c.args.condition c.args.value) (get_or c.args.order.now c.loop-e.e-index (record { 0 = 0 })) (word_at c.args.un.now.words c.args.t) c.args.bit z (past_in (length c.args.network.now.edges) (option_map (λ ls. ls.now) c.args.before))).entries)
    c.as_slice.ensures (c.in_err-lit.ensures.full (search rules)))

pub loop-e-preserved : goal.loop-e-preserved
loop-e-preserved c =
    tags_next c.args.network.now.edges (tag_of c.args.condition c.args.value) (word_at c.args.un.now.words c.args.t) c.args.bit (past_in (length c.args.network.now.edges) (option_map (λ ls. ls.now) c.args.before)) c.args.order.now c.args.maker.now c.loop-e.maker c.tag.new.maker c.loop-e.e-index c.loop-e.tags _ c.in_ok-lit.lit (record { 0 = 0 }) c.loop-e.invariant c.loop-e-test.true (c.requires.order c.loop-e.e-index (record { 0 = 0 }) c.loop-e-test.true)
    (subst (λ (z : List Lit). Makes Lit c.loop-e.maker c.tag.new.maker (tag_circuit c.loop-e.maker.vars c.args.network.now.edges (tag_of c.args.condition c.args.value) (get_or c.args.order.now c.loop-e.e-index (record { 0 = 0 })) (word_at c.args.un.now.words c.args.t) c.args.bit z (past_in (length c.args.network.now.edges) (option_map (λ ls. ls.now) c.args.before))) c.in_ok-lit.lit)
    c.as_slice.ensures c.in_ok-lit.ensures.made)
    c.in_ok-lit.ensures.below c.put.ensures
