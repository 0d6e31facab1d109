use Rattle.std.proofs.Common.{◌<◌, ◌∙◌, ap, sym, subst, arith, IfOk}
use Rattle.std.specs.Option.{option_map}
use Rattle.cnf_form.specs.Limits.{most_vars}
use Rattle.cnf_form.specs.declared.lit.Lit.{Lit}
use Rattle.op_network.specs.declared.edge.Edge.{Edge}
use Rattle.op_network.specs.Operators.{form_of}
use Rattle.bit_blast.specs.Circuit.{Circuit, after}
use Rattle.bit_blast.specs.Made.{Makes}
use Rattle.unroll_cnf.specs.Made.{word_at}
use Rattle.goal_cnf.proofs.Reading.{bit_there, condition_bits, edge_read, operands_are}
use Rattle.goal_cnf.proofs.PathMaking.{place_is}
use Rattle.goal_cnf.proofs.path.next_place.Goals as goal

pub place_behind-requires-clause-ready : goal.place_behind-requires-clause-ready
place_behind-requires-clause-ready c =
    let is = edge_read c.args.parts.now.edges _ c.args.step.edge _ c.as_slice.ensures c.requires.edge c.index-as_slice-step.is in
    condition_bits c.args.parts.now c.args.un.now c.args.t c.args.maker.now.vars c.requires.reads c.args.step.edge c.form-form.result
    (operands_are c.args.parts.now.edges c.args.step.edge _ _ is (c.form-form.ensures ∙ ap (λ (x : Edge). form_of x.op) (sym c.index-as_slice-step.is)))

pub place_behind-requires-clause-bit : goal.place_behind-requires-clause-bit
place_behind-requires-clause-bit c = bit_there c.args.parts.now c.args.un.now c.args.t c.args.maker.now.vars c.requires.reads c.args.step.edge c.requires.edge

pub returns-clause-made : goal.returns-clause-made
returns-clause-made c =
    let is = edge_read c.args.parts.now.edges _ c.args.step.edge _ c.as_slice.ensures c.requires.edge c.index-as_slice-step.is in
    subst (λ (z : Circuit Lit). IfOk c.place_behind.result (Makes Lit c.args.maker.now c.place_behind.new.maker z))
    (place_is c.args.maker.now.vars c.args.parts.now.edges c.args.pin c.args.place _ c.args.step _ _ (word_at c.args.un.now.words c.args.t) c.args.shorter (option_map (λ ls. ls.now) c.args.before) _ is (c.form-form.ensures ∙ ap (λ (x : Edge). form_of x.op) (sym c.index-as_slice-step.is)) (omega arith) c.past_lit-past.ensures)
    c.place_behind.ensures.made

pub returns-clause-full : goal.returns-clause-full
returns-clause-full c = λ e.
    let is = edge_read c.args.parts.now.edges _ c.args.step.edge _ c.as_slice.ensures c.requires.edge c.index-as_slice-step.is in
    subst (λ (z : Circuit Lit). most_vars < after c.args.maker.now.vars z.entries)
    (place_is c.args.maker.now.vars c.args.parts.now.edges c.args.pin c.args.place _ c.args.step _ _ (word_at c.args.un.now.words c.args.t) c.args.shorter (option_map (λ ls. ls.now) c.args.before) _ is (c.form-form.ensures ∙ ap (λ (x : Edge). form_of x.op) (sym c.index-as_slice-step.is)) (omega arith) c.past_lit-past.ensures)
    (c.place_behind.ensures.full e)
