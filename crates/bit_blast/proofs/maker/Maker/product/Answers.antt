use Rattle.std.proofs.Common.{◌<◌, rules, subst, get_or, List}
use Rattle.cnf_form.specs.Limits.{most_vars}
use Rattle.cnf_form.specs.declared.lit.Lit.{Lit}
use Rattle.bit_blast.specs.Circuit.{no, after}
use Rattle.bit_blast.specs.Made.{Makes}
use Rattle.bit_blast.specs.Words.{with_row}
use Rattle.bit_blast.proofs.Circuits.{extends_then}
use Rattle.bit_blast.proofs.Rows.{product_step, product_full, product_end}
use Rattle.bit_blast.proofs.Laws.{product_takes}
use Rattle.bit_blast.proofs.maker.Maker.product.Goals as goal

pub returns-in_err-total-2-clause-full : goal.returns-in_err-total-2-clause-full
returns-in_err-total-2-clause-full c = λ e.
    product_full most_vars c.loop-i.invariant c.loop-i-test.true
    (subst (λ x. most_vars < after c.loop-i.self.vars (with_row c.loop-i.self.vars c.args.a.now c.loop-i.i (get_or c.args.b.now c.loop-i.i (no 0)) x).entries) c.as_slice.ensures
    (c.in_err-total-2.ensures.full (search rules)))

pub returns-in_err-total-2-clause-kept : goal.returns-in_err-total-2-clause-kept
returns-in_err-total-2-clause-kept c = extends_then c.loop-i.invariant.left.extends c.in_err-total-2.ensures.kept

pub loop-i-preserved : goal.loop-i-preserved
loop-i-preserved c =
    product_step _ _ c.loop-i.invariant c.loop-i-test.true
    (subst (λ x. Makes (List Lit) c.loop-i.self c.add_row.new.self (with_row c.loop-i.self.vars c.args.a.now c.loop-i.i (get_or c.args.b.now c.loop-i.i (no 0)) x) c.in_ok-total-2.total) c.as_slice.ensures c.in_ok-total-2.ensures.made)
    c.in_ok-total-2.ensures.kept c.in_ok-total-2.ensures.below c.in_ok-total-2.ensures.length

pub returns-clause-cost : goal.returns-clause-cost
returns-clause-cost c = product_takes _ _ _ _ _ (product_end c.loop-i.invariant c.loop-i-test.false) c.requires.size
