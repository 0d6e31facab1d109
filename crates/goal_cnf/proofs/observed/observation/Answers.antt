use Rattle.std.proofs.Common.{◌<◌, ◌∙◌, length, ap, sym, subst, arith, rules, List}
use Rattle.std.specs.Prelude.{All}
use Rattle.std.specs.Option.{option_map}
use Rattle.cnf_form.specs.Limits.{most_vars}
use Rattle.cnf_form.specs.declared.lit.Lit.{Lit}
use Rattle.op_network.specs.declared.edge.EdgeId.{EdgeId}
use Rattle.op_network.specs.declared.edge.Parts.{Parts}
use Rattle.unroll_cnf.specs.Made.{word_at}
use Rattle.goal_cnf.specs.Made.{AreLits, tag_of}
use Rattle.goal_cnf.proofs.Observing.{bit_is, observation_lits, observation_made, outputs_overfill, tags_overfill}
use Rattle.goal_cnf.proofs.Reading.{bit_there}
use Rattle.goal_cnf.proofs.Tagging.{order_within}
use Rattle.goal_cnf.proofs.observed.observation.Goals as goal

pub bit-bit-requires : goal.bit-bit-requires
bit-bit-requires c = (bit_there c.args.net.now.network c.args.un.now c.args.t c.args.maker.now.vars c.requires.reads c.operand-operand.result (omega (arith, c.operand-operand.ensures.edge, ap (λ (p : Parts). length p.edges) c.network-network.ensures))).bit

pub tags-requires-clause-order : goal.tags-requires-clause-order
tags-requires-clause-order c =
    subst (λ (p : Parts). All (λ (e : EdgeId). e.0 < length p.edges) c.sequence-order.result.now) (sym c.network-network.ensures)
    (subst (λ (l : List EdgeId). All (λ (e : EdgeId). e.0 < length c.args.net.now.network.edges) l) (sym c.sequence-order.ensures.same)
    (order_within c.args.net.now.network.edges c.args.net.now.sequence c.sequence-order.ensures.order))

pub tags-requires-clause-bit : goal.tags-requires-clause-bit
tags-requires-clause-bit c =
    omega (arith, ap (λ (l : Lit). l.var) c.bit-bit.ensures, (bit_there c.args.net.now.network c.args.un.now c.args.t c.args.maker.now.vars c.requires.reads c.operand-operand.result (omega (arith, c.operand-operand.ensures.edge, ap (λ (p : Parts). length p.edges) c.network-network.ensures))).below)

pub returns-in_err-lits-clause-full : goal.returns-in_err-lits-clause-full
returns-in_err-lits-clause-full c = λ e.
    let edges = ap (λ (p : Parts). p.edges) c.network-network.ensures in
    tags_overfill c.args.net.now.network.edges c.args.net.now.sequence c.args.net.now.network.outputs (tag_of c.args.condition c.args.value) (word_at c.args.un.now.words c.args.t) (option_map (λ ls. ls.now) c.args.before) c.args.maker.now.vars most_vars _ _ c.bit-bit.result edges c.sequence-order.ensures.same
    (bit_is c.args.net.now.network.edges _ (tag_of c.args.condition c.args.value) (word_at c.args.un.now.words c.args.t) c.operand-operand.result c.bit-bit.result edges c.operand-operand.ensures.operand c.bit-bit.ensures)
    (c.in_err-lits.ensures.full (search rules))

pub returns-in_err-met-clause-full : goal.returns-in_err-met-clause-full
returns-in_err-met-clause-full c = λ e.
    let edges = ap (λ (p : Parts). p.edges) c.network-network.ensures in
    let outputs = c.as_slice-outputs.ensures ∙ ap (λ (p : Parts). p.outputs) (c.parts.ensures.same ∙ c.network-network.ensures) in
    outputs_overfill c.args.net.now.network.edges c.args.net.now.sequence c.args.net.now.network.outputs (tag_of c.args.condition c.args.value) (word_at c.args.un.now.words c.args.t) (option_map (λ ls. ls.now) c.args.before) c.args.maker.now c.tags.new.maker _ _ c.bit-bit.result c.in_ok-lits.lits edges c.sequence-order.ensures.same
    (bit_is c.args.net.now.network.edges _ (tag_of c.args.condition c.args.value) (word_at c.args.un.now.words c.args.t) c.operand-operand.result c.bit-bit.result edges c.operand-operand.ensures.operand c.bit-bit.ensures)
    c.in_ok-lits.ensures.made most_vars _ _ c.as_slice.ensures outputs (c.in_err-met.ensures.full (search rules))

pub returns-clause-made : goal.returns-clause-made
returns-clause-made c =
    let edges = ap (λ (p : Parts). p.edges) c.network-network.ensures in
    let outputs = c.as_slice-outputs.ensures ∙ ap (λ (p : Parts). p.outputs) (c.parts.ensures.same ∙ c.network-network.ensures) in
    observation_made c.args.net.now.network.edges c.args.net.now.sequence c.args.net.now.network.outputs (tag_of c.args.condition c.args.value) (word_at c.args.un.now.words c.args.t) (option_map (λ ls. ls.now) c.args.before) c.args.maker.now c.tags.new.maker _ _ c.bit-bit.result c.in_ok-lits.lits edges c.sequence-order.ensures.same
    (bit_is c.args.net.now.network.edges _ (tag_of c.args.condition c.args.value) (word_at c.args.un.now.words c.args.t) c.operand-operand.result c.bit-bit.result edges c.operand-operand.ensures.operand c.bit-bit.ensures)
    c.in_ok-lits.ensures.made c.observed.new.maker _ c.add.new.self c.add-2.new.self c.in_ok-met.met _ c.as_slice.ensures outputs c.in_ok-met.ensures.made c.in_ok-add.ensures.ok c.in_ok-add-2.ensures.ok

pub returns-clause-lits : goal.returns-clause-lits
returns-clause-lits c =
    let below = (bit_there c.args.net.now.network c.args.un.now c.args.t c.args.maker.now.vars c.requires.reads c.operand-operand.result (omega (arith, c.operand-operand.ensures.edge, ap (λ (p : Parts). length p.edges) c.network-network.ensures))).below in
    observation_lits (length c.args.net.now.network.edges) c.tags.new.maker.vars c.observed.new.maker.vars c.in_ok-lits.lits c.add.new.self c.add-2.new.self c.bit-bit.result c.in_ok-met.met
    (subst (λ (p : Parts). AreLits (length p.edges) c.tags.new.maker.vars c.in_ok-lits.lits) c.network-network.ensures c.in_ok-lits.ensures.lits)
    c.in_ok-met.ensures.more (omega (arith, ap (λ (l : Lit). l.var) c.bit-bit.ensures, below, c.in_ok-lits.ensures.more, c.in_ok-met.ensures.more)) c.in_ok-met.ensures.below c.in_ok-add.ensures.ok c.in_ok-add-2.ensures.ok
