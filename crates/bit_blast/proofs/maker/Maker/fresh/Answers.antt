use Rattle.std.proofs.Common.{◌++◌, ap, ◌∙◌, arith, refl, [], ◌∷◌, suc}
use Rattle.cnf_form.specs.Limits.{most_vars}
use Rattle.cnf_form.specs.Shape.{Shape}
use Rattle.bit_blast.specs.Circuit.{Free, yes}
use Rattle.cnf_form.specs.declared.lit.Lit.{Lit}
use Rattle.bit_blast.proofs.Circuits.{extends_then}
use Rattle.bit_blast.proofs.Loops.{so_far_step, so_far_full, so_far_end, fresh_next, fresh_end}
use Rattle.bit_blast.proofs.Laws.{fresh_length, fresh_below, fresh_takes}
use Rattle.bit_blast.proofs.maker.Maker.fresh.Goals as goal

pub returns-in_err-lit-clause-full : goal.returns-in_err-lit-clause-full
returns-in_err-lit-clause-full c = λ e.
    let f = c.in_err-lit.ensures.full in
    so_far_full most_vars (Free ∷ []) (yes c.loop-bit.self.vars ∷ []) _ c.loop-bit.invariant
    (fresh_next c.loop-bit.self.vars (suc c.loop-bit.self.vars) c.args.bits c.loop-bit._bit refl c.loop-bit-test.true) (omega arith)

pub returns-in_err-lit-clause-kept : goal.returns-in_err-lit-clause-kept
returns-in_err-lit-clause-kept c = extends_then c.loop-bit.invariant.left.extends c.in_err-lit.ensures.kept

pub loop-bit-preserved : goal.loop-bit-preserved
loop-bit-preserved c =
    so_far_step _ (Free ∷ []) (yes c.loop-bit.self.vars ∷ []) _ _ c.loop-bit.invariant
    (fresh_next c.loop-bit.self.vars _ c.args.bits c.loop-bit._bit (ap (λ (f : Shape). f.vars) c.in_ok-lit.ensures.made) c.loop-bit-test.true)
    c.in_ok-lit.ensures.made c.in_ok-lit.ensures.kept
    (c.in_ok-add.ensures.ok ∙ ap (λ (x : Lit). c.loop-bit.word ++ x ∷ []) c.in_ok-lit.ensures.result)

pub returns-in_err-add-clause-kept : goal.returns-in_err-add-clause-kept
returns-in_err-add-clause-kept c = extends_then c.loop-bit.invariant.left.extends c.in_ok-lit.ensures.kept

pub returns-clause-length : goal.returns-clause-length
returns-clause-length c = fresh_length _ _ _ _ (so_far_end c.loop-bit.invariant (fresh_end _ _ _ c.loop-bit-test.false))

pub returns-clause-below : goal.returns-clause-below
returns-clause-below c = fresh_below _ _ _ _ (so_far_end c.loop-bit.invariant (fresh_end _ _ _ c.loop-bit-test.false))

pub returns-clause-cost : goal.returns-clause-cost
returns-clause-cost c = fresh_takes _ _ _ _ (so_far_end c.loop-bit.invariant (fresh_end _ _ _ c.loop-bit-test.false))
