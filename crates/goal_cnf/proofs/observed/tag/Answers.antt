use Rattle.std.proofs.Common.{◌<◌, ◌∙◌, length, ap, sym, subst, arith, rules}
use Rattle.std.specs.Option.{option_map}
use Rattle.cnf_form.specs.Limits.{most_vars}
use Rattle.cnf_form.specs.declared.lit.Lit.{Lit}
use Rattle.op_network.specs.declared.edge.Edge.{Edge}
use Rattle.op_network.specs.declared.edge.Parts.{Parts}
use Rattle.op_network.specs.Operators.{form_of}
use Rattle.bit_blast.specs.Circuit.{after}
use Rattle.bit_blast.specs.Made.{Makes}
use Rattle.unroll_cnf.specs.Made.{word_at}
use Rattle.goal_cnf.specs.Made.{tag_of}
use Rattle.goal_cnf.specs.Observation.{past_in, port_circuit}
use Rattle.goal_cnf.proofs.Reading.{condition_bits, edge_read, operands_are}
use Rattle.goal_cnf.proofs.Tagging.{ports_full, ports_next}
use Rattle.goal_cnf.proofs.observed.tag.Goals as goal

pub port-requires-clause-ready : goal.port-requires-clause-ready
port-requires-clause-ready c =
    let is = edge_read c.args.network.now.edges _ c.args.e _ (c.as_slice.ensures ∙ ap (λ (p : Parts). p.edges) c.parts.ensures.same) c.requires.edge c.index-as_slice-e.is in
    condition_bits c.args.network.now c.args.un.now c.args.t c.args.un.now.formula.vars (record { streams = c.requires.reads.streams; instant = c.requires.reads.instant; grown = omega arith }) c.args.e c.form-form.result
    (operands_are c.args.network.now.edges c.args.e _ _ is (c.form-form.ensures ∙ ap (λ (x : Edge). form_of x.op) (sym c.index-as_slice-e.is)))

pub returns-in_err-g-clause-full : goal.returns-in_err-g-clause-full
returns-in_err-g-clause-full c = λ e.
    ports_full c.args.network.now.edges (tag_of c.args.condition c.args.value) c.args.e c.form-form.result (word_at c.args.un.now.words c.args.t) c.args.bit c.args.tags.now (past_in (length c.args.network.now.edges) (option_map (λ ls. ls.now) c.args.before)) c.args.maker.now c.loop-at.maker c.loop-at.g c.loop-at.at most_vars c.operand-a.result c.loop-at.invariant c.operand-a.ensures.operand
    (subst (λ k. most_vars < after c.loop-at.maker.vars (port_circuit c.loop-at.maker.vars (tag_of c.args.condition c.args.value) c.args.e c.form-form.result (word_at c.args.un.now.words c.args.t) c.args.bit c.args.tags.now (past_in k (option_map (λ ls. ls.now) c.args.before)) c.loop-at.at c.operand-a.result c.loop-at.g).entries)
    c.requires.tags.size (c.in_err-g.ensures.full (search rules)))

pub loop-at-preserved : goal.loop-at-preserved
loop-at-preserved c =
    ports_next c.args.network.now.edges (tag_of c.args.condition c.args.value) c.args.e c.form-form.result (word_at c.args.un.now.words c.args.t) c.args.bit c.args.tags.now (past_in (length c.args.network.now.edges) (option_map (λ ls. ls.now) c.args.before)) c.args.maker.now c.loop-at.maker c.port.new.maker c.loop-at.g c.in_ok-g.g c.loop-at.at c.operand-a.result c.loop-at.invariant c.operand-a.ensures.operand
    (subst (λ k. Makes Lit c.loop-at.maker c.port.new.maker (port_circuit c.loop-at.maker.vars (tag_of c.args.condition c.args.value) c.args.e c.form-form.result (word_at c.args.un.now.words c.args.t) c.args.bit c.args.tags.now (past_in k (option_map (λ ls. ls.now) c.args.before)) c.loop-at.at c.operand-a.result c.loop-at.g) c.in_ok-g.g)
    c.requires.tags.size c.in_ok-g.ensures.made)
    c.in_ok-g.ensures.below
