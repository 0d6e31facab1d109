use Rattle.std.proofs.Common.{◌≡◌, ◌∙◌, ◌^◌, ap, sym, arith, pos, ◌+ℤ◌, ◌-ℤ◌}
use Rattle.std.proofs.lemmas.Int.{ints}
use Rattle.std.proofs.lemmas.Nat.{pow_pos, mod_below}
use Rattle.op_network.specs.Values.{wrap}
use Rattle.op_network.proofs.Words.{twice_half, half_within, wrap_raised}
use Rattle.op_network.proofs.word.wrap.Goals as goal

pub returns : goal.returns
returns c =
    let width = c.args.width in
    let half = c.half_range-half.result in
    let low = c.low_bits-low.result in
    let raised : pos c.raised.result ≡ c.args.x +ℤ pos half +ℤ pos (2 ^ 63) = omega (arith, ints, c.raised.ensures) in
    let is : wrap width c.args.x ≡ pos low -ℤ pos half = wrap_raised width half c.raised.result c.args.x c.requires.widest c.half_range-half.ensures raised ∙ ap (λ l. pos l -ℤ pos half) (sym c.low_bits-low.ensures) in
    omega (
      arith,
      ints,
      is,
      c.from.ensures,
      c.from-2.ensures,
      c.low_bits-low.ensures,
      mod_below c.raised.result (2 ^ width) (pow_pos width),
      c.half_range-half.ensures,
      twice_half width (omega (arith, c.requires.narrowest)),
      half_within width c.requires.widest,
    )
