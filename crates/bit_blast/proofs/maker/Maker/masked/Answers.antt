use Rattle.std.proofs.Common.{◌++◌, get_or, length, ap, ◌∙◌, arith, rules, refl, [], ◌∷◌, suc}
use Rattle.cnf_form.specs.Limits.{most_vars}
use Rattle.cnf_form.specs.Shape.{Shape}
use Rattle.bit_blast.specs.Circuit.{And, yes, no}
use Rattle.cnf_form.specs.declared.lit.Lit.{Lit}
use Rattle.bit_blast.proofs.Circuits.{extends_then}
use Rattle.bit_blast.proofs.Loops.{so_far_step, so_far_full, so_far_end, masked_next, masked_end}
use Rattle.bit_blast.proofs.Products.{length-masked}
use Rattle.bit_blast.proofs.maker.Maker.masked.Goals as goal

pub returns-in_err-bit-clause-full : goal.returns-in_err-bit-clause-full
returns-in_err-bit-clause-full c = λ e.
    let f = c.in_err-bit.ensures.full (search rules) in
    so_far_full most_vars (And (get_or c.args.a.now c.loop-lit.lit-index (no 0)) c.args.b ∷ []) (yes c.loop-lit.self.vars ∷ []) _ c.loop-lit.invariant
    (masked_next c.loop-lit.self.vars (suc c.loop-lit.self.vars) c.args.a.now c.args.b c.loop-lit.lit-index (no 0) refl c.loop-lit-test.true) (omega arith)

pub returns-in_err-bit-clause-kept : goal.returns-in_err-bit-clause-kept
returns-in_err-bit-clause-kept c = extends_then c.loop-lit.invariant.left.extends c.in_err-bit.ensures.kept

pub returns-in_err-add-clause-kept : goal.returns-in_err-add-clause-kept
returns-in_err-add-clause-kept c = extends_then c.loop-lit.invariant.left.extends c.in_ok-bit.ensures.kept

pub loop-lit-preserved : goal.loop-lit-preserved
loop-lit-preserved c =
    so_far_step _ (And (get_or c.args.a.now c.loop-lit.lit-index (no 0)) c.args.b ∷ []) (yes c.loop-lit.self.vars ∷ []) _ _ c.loop-lit.invariant
    (masked_next c.loop-lit.self.vars _ c.args.a.now c.args.b c.loop-lit.lit-index (no 0) (ap (λ (f : Shape). f.vars) c.in_ok-bit.ensures.made) c.loop-lit-test.true)
    c.in_ok-bit.ensures.made c.in_ok-bit.ensures.kept
    (c.in_ok-add.ensures.ok ∙ ap (λ (x : Lit). c.loop-lit.word ++ x ∷ []) c.in_ok-bit.ensures.result)

pub returns-clause-length : goal.returns-clause-length
returns-clause-length c =
    ap length (so_far_end c.loop-lit.invariant (masked_end _ _ _ _ c.loop-lit-test.false)).gives ∙ length-masked c.args.self.now.vars c.args.a.now c.args.b
