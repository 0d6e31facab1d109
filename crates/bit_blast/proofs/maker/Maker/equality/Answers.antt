use Rattle.std.proofs.Common.{get_or, ap, arith, rules, refl, [], ◌∷◌, suc}
use Rattle.cnf_form.specs.Limits.{most_vars}
use Rattle.cnf_form.specs.Shape.{Shape}
use Rattle.bit_blast.specs.Circuit.{And, Xor, yes, no}
use Rattle.cnf_form.specs.declared.lit.Lit.{Lit}
use Rattle.bit_blast.proofs.Circuits.{extends_then}
use Rattle.bit_blast.proofs.Loops.{lit_step, lit_full, lit_end, equal_next, equal_end}
use Rattle.bit_blast.proofs.Laws.{equal_takes}
use Rattle.bit_blast.proofs.maker.Maker.equality.Goals as goal

pub returns-in_err-equal-clause-full : goal.returns-in_err-equal-clause-full
returns-in_err-equal-clause-full c = λ e.
    lit_full most_vars (Xor (get_or c.args.a.now c.loop-i.i (no 0)) (get_or c.args.b.now c.loop-i.i (no 0)) ∷ And c.loop-i.equal (no c.loop-i.self.vars) ∷ []) _ c.loop-i.invariant.0
    (equal_next c.loop-i.self.vars (suc (suc c.loop-i.self.vars)) c.args.a.now c.args.b.now c.loop-i.equal (yes (suc c.loop-i.self.vars)) c.loop-i.i (no 0) refl refl c.loop-i-test.true (omega arith))
    (c.in_err-equal.ensures.full (search rules))

pub returns-in_err-equal-clause-kept : goal.returns-in_err-equal-clause-kept
returns-in_err-equal-clause-kept c = extends_then c.loop-i.invariant.0.left.extends c.in_err-equal.ensures.kept

pub loop-i-preserved : goal.loop-i-preserved
loop-i-preserved c =
    let v = ap (λ (f : Shape). f.vars) c.in_ok-equal.ensures.made in
    let r = ap (λ (x : Lit). x.var) c.in_ok-equal.ensures.result in (
      lit_step _ (Xor (get_or c.args.a.now c.loop-i.i (no 0)) (get_or c.args.b.now c.loop-i.i (no 0)) ∷ And c.loop-i.equal (no c.loop-i.self.vars) ∷ []) _ c.loop-i.invariant.0
          (equal_next c.loop-i.self.vars _ c.args.a.now c.args.b.now c.loop-i.equal _ c.loop-i.i (no 0) v c.in_ok-equal.ensures.result c.loop-i-test.true (omega arith))
          c.in_ok-equal.ensures.made c.in_ok-equal.ensures.kept,
      omega arith,
    )

pub returns-clause-cost : goal.returns-clause-cost
returns-clause-cost c = equal_takes _ _ _ _ _ _ (lit_end _ c.loop-i.invariant.0 (equal_end _ _ _ _ _ c.loop-i-test.false)) c.requires.size
