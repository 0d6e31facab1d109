use Rattle.std.proofs.Common.{length, ap, sym, ◌∙◌, rules, subst}
use Rattle.cnf_form.specs.Limits.{most_vars}
use Rattle.bit_blast.specs.Made.{IsBelow}
use Rattle.bit_blast.proofs.Circuits.{extends_then}
use Rattle.bit_blast.proofs.Rows.{row_below, row_then_sum, row_full, row_sum_full}
use Rattle.bit_blast.proofs.maker.Maker.add_row.Goals as goal

pub returns-in_err-row-clause-full : goal.returns-in_err-row-clause-full
returns-in_err-row-clause-full c = λ e. row_full most_vars c.args.self.now.vars c.args.a.now c.args.shift c.args.b c.args.total.now (c.in_err-row.ensures.full (search rules))

pub sum-requires-clause-size : goal.sum-requires-clause-size
sum-requires-clause-size c = c.requires.size ∙ (sym c.in_ok-row.ensures.length ∙ ap length (sym c.as_slice.ensures))

pub sum-requires-clause-b : goal.sum-requires-clause-b
sum-requires-clause-b c = subst (IsBelow c.row.new.self.vars) (sym c.as_slice.ensures) (row_below _ _ _ _ _ _ c.in_ok-row.ensures.made c.no-no.ensures.made.1)

pub returns-in_err-total-clause-full : goal.returns-in_err-total-clause-full
returns-in_err-total-clause-full c = λ e.
    row_sum_full most_vars _ _ c.args.a.now _ _ c.args.shift c.args.b _ c.args.total.now c.in_ok-row.ensures.made c.as_slice.ensures
    c.no-no.ensures.value (c.in_err-total.ensures.full (search rules))

pub returns-in_err-total-clause-kept : goal.returns-in_err-total-clause-kept
returns-in_err-total-clause-kept c = extends_then c.in_ok-row.ensures.kept c.in_err-total.ensures.kept

pub returns-clause-made : goal.returns-clause-made
returns-clause-made c =
    row_then_sum _ _ _ c.args.a.now c.args.total.now _ _ _ c.args.shift c.args.b _ c.in_ok-row.ensures.made c.as_slice.ensures
    c.no-no.ensures.value c.in_ok-total.ensures.made

pub returns-clause-kept : goal.returns-clause-kept
returns-clause-kept c = extends_then c.in_ok-row.ensures.kept c.in_ok-total.ensures.kept
