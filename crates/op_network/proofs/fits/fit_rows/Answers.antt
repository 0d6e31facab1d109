use Rattle.std.proofs.Common.{◌≡◌, refl, rules, arith, All, length, take, drop, ◌∙◌, ap}
use Rattle.std.proofs.lemmas.Bool.{iff_false}
use Rattle.op_network.specs.Run.{rows}
use Rattle.op_network.specs.Valid.{FitsRow}
use Rattle.op_network.proofs.Rows.{no_inputs, no_rows, row_fits, row_fails, row_within, rest_size}
use Rattle.op_network.proofs.fits.fit_rows.Goals as goal

pub returns-then-width-eq0 : goal.returns-then-width-eq0
returns-then-width-eq0 c = (λ _. no_inputs c.args.parts.now c.args.instants c.args.values.now (search rules), λ _. refl)

pub split_at-requires : goal.split_at-requires
split_at-requires c = omega (arith, row_within c.args.instants c.loop-instant._instant (length c.args.parts.now.inputs) c.loop-instant.rest.now (omega arith) c.loop-instant.invariant.size)

pub loop-instant-preserved : goal.loop-instant-preserved
loop-instant-preserved c =
    let parts = c.args.parts.now in
    let width = length parts.inputs in
    let rest = c.loop-instant.rest.now in
    let front : c.split_at.result.0.now ≡ take width rest = c.split_at.ensures.front ∙ ap (λ w. take w rest) c.len-width.ensures in
    let back : c.split_at.result.1.now ≡ drop width rest = c.split_at.ensures.back ∙ ap (λ w. drop w rest) c.len-width.ensures in
    record {
      size = rest_size c.args.instants c.loop-instant._instant width rest c.split_at.result.1.now (omega arith) c.loop-instant.invariant.size back;
      same = row_fits (FitsRow parts) (All (FitsRow parts) (rows width c.args.instants c.args.values.now)) width c.args.instants c.loop-instant._instant rest c.split_at.result.0.now c.split_at.result.1.now
          (omega arith) front back (c.fits_row.ensures.0 c.if-not-fits_row.false) c.loop-instant.invariant.same;
    }

pub returns-then-not-fits_row : goal.returns-then-not-fits_row
returns-then-not-fits_row c =
    let parts = c.args.parts.now in
    let width = length parts.inputs in
    let rest = c.loop-instant.rest.now in
    let front : c.split_at.result.0.now ≡ take width rest = c.split_at.ensures.front ∙ ap (λ w. take w rest) c.len-width.ensures in (
      λ h. cc,
      λ all. absurd (row_fails (FitsRow parts) (All (FitsRow parts) (rows width c.args.instants c.args.values.now)) width c.args.instants c.loop-instant._instant rest c.split_at.result.0.now
          (omega arith) front (iff_false c.fits_row.ensures c.if-not-fits_row.true) c.loop-instant.invariant.same all),
    )

pub returns : goal.returns
returns c =
    let parts = c.args.parts.now in
    let width = length parts.inputs in
    (λ _. c.loop-instant.invariant.same.0 (no_rows (FitsRow parts) width c.args.instants c.loop-instant._instant c.loop-instant.rest.now (omega arith)), λ _. refl)
