use Rattle.std.proofs.Common.{get_or, ap, arith, rules, refl, [], ◌∷◌, suc}
use Rattle.cnf_form.specs.Limits.{most_vars}
use Rattle.cnf_form.specs.Shape.{Shape}
use Rattle.bit_blast.specs.Circuit.{Xor, Ite, yes, no}
use Rattle.cnf_form.specs.declared.lit.Lit.{Lit}
use Rattle.bit_blast.proofs.Circuits.{extends_then}
use Rattle.bit_blast.proofs.Loops.{lit_step, lit_full, lit_end, less_end, less_next, chosen_last, chosen_inner}
use Rattle.bit_blast.proofs.Laws.{less_takes}
use Rattle.bit_blast.proofs.maker.Maker.order.Goals as goal

pub returns-in_err-less-clause-full : goal.returns-in_err-less-clause-full
returns-in_err-less-clause-full c = λ e.
    lit_full most_vars (Xor (get_or c.args.a.now c.loop-i.i (no 0)) (get_or c.args.b.now c.loop-i.i (no 0)) ∷ Ite (yes c.loop-i.self.vars) _ c.loop-i.less ∷ []) _ c.loop-i.invariant.0
    (less_next c.loop-i.self.vars (suc (suc c.loop-i.self.vars)) c.args.a.now c.args.b.now c.loop-i.less c.either-where_differ.result (yes (suc c.loop-i.self.vars)) c.loop-i.i (no 0) refl refl
    (chosen_last _ _ _ _ _ c.either-where_differ.ensures) (chosen_inner _ _ _ _ _ c.either-where_differ.ensures) c.loop-i-test.true c.requires.size)
    (c.in_err-less.ensures.full (search rules))

pub returns-in_err-less-clause-kept : goal.returns-in_err-less-clause-kept
returns-in_err-less-clause-kept c = extends_then c.loop-i.invariant.0.left.extends c.in_err-less.ensures.kept

pub loop-i-preserved : goal.loop-i-preserved
loop-i-preserved c =
    let v = ap (λ (f : Shape). f.vars) c.in_ok-less.ensures.made in
    let r = ap (λ (x : Lit). x.var) c.in_ok-less.ensures.result in (
      lit_step _ (Xor (get_or c.args.a.now c.loop-i.i (no 0)) (get_or c.args.b.now c.loop-i.i (no 0)) ∷ Ite (yes c.loop-i.self.vars) _ c.loop-i.less ∷ []) _ c.loop-i.invariant.0
          (less_next c.loop-i.self.vars _ c.args.a.now c.args.b.now c.loop-i.less c.either-where_differ.result _ c.loop-i.i (no 0) v c.in_ok-less.ensures.result
          (chosen_last _ _ _ _ _ c.either-where_differ.ensures) (chosen_inner _ _ _ _ _ c.either-where_differ.ensures) c.loop-i-test.true c.requires.size)
          c.in_ok-less.ensures.made c.in_ok-less.ensures.kept,
      omega arith,
    )

pub returns-clause-cost : goal.returns-clause-cost
returns-clause-cost c = less_takes _ _ _ _ _ _ (lit_end _ c.loop-i.invariant.0 (less_end _ _ _ _ _ c.loop-i-test.false)) c.requires.size
