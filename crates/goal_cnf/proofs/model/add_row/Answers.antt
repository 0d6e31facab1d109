use Rattle.std.proofs.Common.{◌∙◌, length, get_or, ap, ap₂, sym, subst, arith, List}
use Rattle.cnf_form.specs.declared.lit.Lit.{Lit}
use Rattle.op_network.specs.declared.edge.Edge.{Edge}
use Rattle.op_network.specs.declared.edge.EdgeId.{EdgeId}
use Rattle.op_network.specs.declared.value.Ty.{Ty}
use Rattle.bit_blast.specs.Made.{IsBelow}
use Rattle.bit_blast.specs.Numbers.{bits}
use Rattle.unroll_cnf.specs.Made.{word_at}
use Rattle.unroll_cnf.specs.Sizes.{bits_of}
use Rattle.unroll_cnf.specs.Values.{bits_value}
use Rattle.goal_cnf.specs.Decoded.{valuation}
use Rattle.goal_cnf.proofs.Decoding.{input_within, values_next, word_below, word_size}
use Rattle.goal_cnf.proofs.Reading.{edge_read}
use Rattle.goal_cnf.proofs.model.add_row.Goals as goal

pub bounds-as_slice-e : goal.bounds-as_slice-e
bounds-as_slice-e c = omega (arith, (input_within c.args.parts.now c.args.un.now c.args.t (length c.args.bits.now) c.requires c.as_slice-e-items.result.now c.loop-e.e-index (record { 0 = 0 }) c.as_slice-e-items.ensures c.loop-e-test.true), ap (λ (l : List Edge). length l) c.as_slice.ensures)

pub bounds-as_slice-e-in-loop-e : goal.bounds-as_slice-e-in-loop-e
bounds-as_slice-e-in-loop-e c = omega (arith, (input_within c.args.parts.now c.args.un.now c.args.t (length c.args.bits.now) c.requires c.as_slice-e-items.result.now c.loop-e.e-index (record { 0 = 0 }) c.as_slice-e-items.ensures c.loop-e-test.true), ap (λ (l : List Edge). length l) c.as_slice.ensures)

pub word-requires-clause-edge : goal.word-requires-clause-edge
word-requires-clause-edge c = omega (arith, (input_within c.args.parts.now c.args.un.now c.args.t (length c.args.bits.now) c.requires c.as_slice-e-items.result.now c.loop-e.e-index (record { 0 = 0 }) c.as_slice-e-items.ensures c.loop-e-test.true), c.requires.streams.edges)

pub value-requires-clause-below : goal.value-requires-clause-below
value-requires-clause-below c =
    subst (IsBelow (length c.args.bits.now)) (sym (c.as_slice-in-loop-e.ensures ∙ c.word.ensures))
    (word_below c.args.parts.now c.args.un.now c.args.t (length c.args.bits.now) c.requires (get_or c.as_slice-e-items.result.now c.loop-e.e-index (record { 0 = 0 })) c.index-as_slice-e.result (edge_read c.args.parts.now.edges c.as_slice.result.now (get_or c.as_slice-e-items.result.now c.loop-e.e-index (record { 0 = 0 })) c.index-as_slice-e.result c.as_slice.ensures (input_within c.args.parts.now c.args.un.now c.args.t (length c.args.bits.now) c.requires c.as_slice-e-items.result.now c.loop-e.e-index (record { 0 = 0 }) c.as_slice-e-items.ensures c.loop-e-test.true) c.index-as_slice-e.is))

pub value-requires-clause-size : goal.value-requires-clause-size
value-requires-clause-size c =
    ap (λ (w : List Lit). length w) (c.as_slice-in-loop-e.ensures ∙ c.word.ensures)
    ∙ (word_size c.args.parts.now c.args.un.now c.args.t (length c.args.bits.now) c.requires (get_or c.as_slice-e-items.result.now c.loop-e.e-index (record { 0 = 0 })) c.index-as_slice-e.result (edge_read c.args.parts.now.edges c.as_slice.result.now (get_or c.as_slice-e-items.result.now c.loop-e.e-index (record { 0 = 0 })) c.index-as_slice-e.result c.as_slice.ensures (input_within c.args.parts.now c.args.un.now c.args.t (length c.args.bits.now) c.requires c.as_slice-e-items.result.now c.loop-e.e-index (record { 0 = 0 }) c.as_slice-e-items.ensures c.loop-e-test.true) c.index-as_slice-e.is)
    ∙ ap (λ (x : Edge). bits_of c.args.parts.now x.ty) c.index-as_slice-e.is)

pub loop-e-preserved : goal.loop-e-preserved
loop-e-preserved c =
    values_next c.args.parts.now (valuation c.args.bits.now) (word_at c.args.un.now.words c.args.t) c.args.values.now c.loop-e.values c.add.new.self c.loop-e.e-index (get_or c.as_slice-e-items.result.now c.loop-e.e-index (record { 0 = 0 })) (record { 0 = 0 }) c.index-as_slice-e.result c.value.result c.loop-e.invariant
    (omega (arith, c.loop-e-test.true, ap (λ (l : List EdgeId). length l) c.as_slice-e-items.ensures))
    (ap (λ (l : List EdgeId). get_or l c.loop-e.e-index (record { 0 = 0 })) c.as_slice-e-items.ensures)
    (edge_read c.args.parts.now.edges c.as_slice.result.now (get_or c.as_slice-e-items.result.now c.loop-e.e-index (record { 0 = 0 })) c.index-as_slice-e.result c.as_slice.ensures (input_within c.args.parts.now c.args.un.now c.args.t (length c.args.bits.now) c.requires c.as_slice-e-items.result.now c.loop-e.e-index (record { 0 = 0 }) c.as_slice-e-items.ensures c.loop-e-test.true) c.index-as_slice-e.is)
    (c.value.ensures ∙ ap₂ (λ (ty : Ty) (w : List Lit). bits_value ty (bits (valuation c.args.bits.now) w)) (ap (λ (x : Edge). x.ty) (sym c.index-as_slice-e.is)) (c.as_slice-in-loop-e.ensures ∙ c.word.ensures))
    c.in_ok-add.ensures.ok
