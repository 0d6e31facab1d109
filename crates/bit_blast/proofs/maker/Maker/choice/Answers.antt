use Rattle.std.proofs.Common.{◌++◌, get_or, ap, ◌∙◌, arith, rules, refl, [], ◌∷◌, suc}
use Rattle.cnf_form.specs.Limits.{most_vars}
use Rattle.cnf_form.specs.Shape.{Shape}
use Rattle.bit_blast.specs.Circuit.{Ite, yes, no}
use Rattle.cnf_form.specs.declared.lit.Lit.{Lit}
use Rattle.bit_blast.proofs.Circuits.{extends_then}
use Rattle.bit_blast.proofs.Loops.{so_far_step, so_far_full, so_far_end, ite_next, ite_end}
use Rattle.bit_blast.proofs.Laws.{ite_length, ite_below, ite_takes}
use Rattle.bit_blast.proofs.maker.Maker.choice.Goals as goal

pub returns-in_err-bit-clause-full : goal.returns-in_err-bit-clause-full
returns-in_err-bit-clause-full c = λ e.
    let f = c.in_err-bit.ensures.full (search rules) in
    so_far_full most_vars (Ite c.args.c (get_or c.args.a.now c.loop-i.i (no 0)) (get_or c.args.b.now c.loop-i.i (no 0)) ∷ []) (yes c.loop-i.self.vars ∷ []) _ c.loop-i.invariant
    (ite_next c.loop-i.self.vars (suc c.loop-i.self.vars) c.args.c c.args.a.now c.args.b.now c.loop-i.i (no 0) refl c.loop-i-test.true (omega arith)) (omega arith)

pub returns-in_err-bit-clause-kept : goal.returns-in_err-bit-clause-kept
returns-in_err-bit-clause-kept c = extends_then c.loop-i.invariant.left.extends c.in_err-bit.ensures.kept

pub returns-in_err-add-clause-kept : goal.returns-in_err-add-clause-kept
returns-in_err-add-clause-kept c = extends_then c.loop-i.invariant.left.extends c.in_ok-bit.ensures.kept

pub loop-i-preserved : goal.loop-i-preserved
loop-i-preserved c =
    so_far_step _ (Ite c.args.c (get_or c.args.a.now c.loop-i.i (no 0)) (get_or c.args.b.now c.loop-i.i (no 0)) ∷ []) (yes c.loop-i.self.vars ∷ []) _ _ c.loop-i.invariant
    (ite_next c.loop-i.self.vars _ c.args.c c.args.a.now c.args.b.now c.loop-i.i (no 0) (ap (λ (f : Shape). f.vars) c.in_ok-bit.ensures.made) c.loop-i-test.true (omega arith))
    c.in_ok-bit.ensures.made c.in_ok-bit.ensures.kept
    (c.in_ok-add.ensures.ok ∙ ap (λ (x : Lit). c.loop-i.word ++ x ∷ []) c.in_ok-bit.ensures.result)

pub returns-clause-length : goal.returns-clause-length
returns-clause-length c = ite_length _ _ _ _ _ _ (so_far_end c.loop-i.invariant (ite_end _ _ _ _ _ c.loop-i-test.false)) c.requires.size

pub returns-clause-below : goal.returns-clause-below
returns-clause-below c = ite_below _ _ _ _ _ _ (so_far_end c.loop-i.invariant (ite_end _ _ _ _ _ c.loop-i-test.false))

pub returns-clause-cost : goal.returns-clause-cost
returns-clause-cost c = ite_takes _ _ _ _ _ _ (so_far_end c.loop-i.invariant (ite_end _ _ _ _ _ c.loop-i-test.false)) c.requires.size
