use Rattle.std.proofs.Common.{◌≡◌, ◌∙◌, ◌<◌, ◌++◌, true, false, length, get_or, ap, sym, subst, arith, rules, refl, List}
use Rattle.cnf_form.specs.declared.lit.Lit.{Lit}
use Rattle.cnf_form.specs.Lits.{truth}
use Rattle.op_network.specs.declared.edge.Parts.{Parts}
use Rattle.op_network.specs.Valid.{IsValid}
use Rattle.unroll_cnf.specs.Laws.{row_of}
use Rattle.unroll_cnf.specs.Made.{word_at}
use Rattle.goal_cnf.specs.Activity.{lit_at}
use Rattle.goal_cnf.specs.Decoded.{valuation}
use Rattle.goal_cnf.specs.Made.{CanRead}
use Rattle.goal_cnf.proofs.Testing.{can_decode, decoded_next, decodes, hit_below, hits_long, some_hit}
use Rattle.goal_cnf.proofs.model.decode.Goals as goal

pub add_row-requires : goal.add_row-requires
add_row-requires c =
    subst (λ (p : Parts). CanRead p c.args.un.now c.loop-t.t (length c.args.bits.now)) (sym (c.parts-parts.ensures.same ∙ c.network.ensures))
    (can_decode c.args.net.now.network (subst IsValid c.network.ensures c.parts-parts.ensures.valid) c.args.net.now.sequence c.sequence-sequence.ensures.order c.args.un.now c.requires.unrolled c.requires.words c.args.plan.now c.requires.plan c.args.o c.args.goal.now c.requires.goal c.loop-t.t (length c.args.bits.now) (omega (arith, c.loop-t-test.true, c.instants-t-end.ensures)) c.requires.whole)

pub bounds-as_slice-t : goal.bounds-as_slice-t
bounds-as_slice-t c = omega (arith, c.loop-t-test.true, c.instants-t-end.ensures, ap (λ (l : List Lit). length l) c.as_slice.ensures, hits_long c.args.net.now.network (subst IsValid c.network.ensures c.parts-parts.ensures.valid) c.args.net.now.sequence c.sequence-sequence.ensures.order c.args.un.now c.requires.unrolled c.requires.words c.args.plan.now c.requires.plan c.args.o c.args.goal.now c.requires.goal)

pub is_true-requires : goal.is_true-requires
is_true-requires c =
    subst (λ (l : List Lit). (get_or l c.loop-t.t (record { var = 0; positive = false })).var < length c.args.bits.now) (sym c.as_slice.ensures)
    (hit_below c.args.net.now.network (subst IsValid c.network.ensures c.parts-parts.ensures.valid) c.args.net.now.sequence c.sequence-sequence.ensures.order c.args.un.now c.requires.unrolled c.requires.words c.args.plan.now c.requires.plan c.args.o c.args.goal.now c.requires.goal c.loop-t.t (length c.args.bits.now) (record { var = 0; positive = false }) (omega (arith, c.loop-t-test.true, c.instants-t-end.ensures)) c.requires.whole)

pub returns-then-is_true-clause-name : goal.returns-then-is_true-clause-name
returns-then-is_true-clause-name c = c.loop-t.invariant.1

pub returns-then-is_true-clause-test : goal.returns-then-is_true-clause-test
returns-then-is_true-clause-test c =
    let hit : truth (valuation c.args.bits.now) (lit_at c.as_slice.result.now c.loop-t.t) ≡ true = search rules in
    decodes c.args.net.now.network (subst IsValid c.network.ensures c.parts-parts.ensures.valid) c.args.net.now.sequence c.sequence-sequence.ensures.order c.args.un.now c.requires.unrolled c.requires.words c.args.plan.now c.requires.plan c.args.o c.args.goal.now c.requires.goal (valuation c.args.bits.now) c.requires.model c.loop-t.t c.add_row.new.values _ c.loop-t.values c.loop-t.invariant.0 (omega (arith, c.loop-t-test.true, c.instants-t-end.ensures))
    (c.in_ok-add_row.ensures ∙ ap (λ (p : Parts). c.loop-t.values ++ row_of p (valuation c.args.bits.now) (word_at c.args.un.now.words c.loop-t.t)) (c.parts-parts.ensures.same ∙ c.network.ensures))
    (subst (λ (l : List Lit). truth (valuation c.args.bits.now) (lit_at l c.loop-t.t) ≡ true) c.as_slice.ensures hit) refl refl

pub loop-t-preserved : goal.loop-t-preserved
loop-t-preserved c =
    let miss : truth (valuation c.args.bits.now) (lit_at c.as_slice.result.now c.loop-t.t) ≡ false = search rules in (
      decoded_next c.args.net.now.network (subst IsValid c.network.ensures c.parts-parts.ensures.valid) c.args.net.now.sequence c.sequence-sequence.ensures.order c.args.un.now c.requires.unrolled c.requires.words c.args.plan.now c.requires.plan c.args.o c.args.goal.now c.requires.goal (valuation c.args.bits.now) c.loop-t.t c.loop-t.values c.add_row.new.values c.loop-t.invariant.0 (omega (arith, c.loop-t-test.true, c.instants-t-end.ensures))
          (c.in_ok-add_row.ensures ∙ ap (λ (p : Parts). c.loop-t.values ++ row_of p (valuation c.args.bits.now) (word_at c.args.un.now.words c.loop-t.t)) (c.parts-parts.ensures.same ∙ c.network.ensures))
          (subst (λ (l : List Lit). truth (valuation c.args.bits.now) (lit_at l c.loop-t.t) ≡ false) c.as_slice.ensures miss),
      c.loop-t.invariant.1,
    )

pub unreachable-requires : goal.unreachable-requires
unreachable-requires c = some_hit c.args.net.now.network (subst IsValid c.network.ensures c.parts-parts.ensures.valid) c.args.net.now.sequence c.sequence-sequence.ensures.order c.args.un.now c.requires.unrolled c.requires.words c.args.plan.now c.requires.plan c.args.o c.args.goal.now c.requires.goal (valuation c.args.bits.now) c.requires.model c.loop-t.t c.loop-t.values c.loop-t.invariant.0 (omega (arith, c.loop-t-test.false, c.instants-t-end.ensures))
