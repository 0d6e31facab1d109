use Rattle.std.proofs.Common.{◌<◌, arith, slice_index}
use Rattle.std.proofs.lemmas.Nat.{ones-le}
use Rattle.cov_base.proofs.BitRows.{ones_of_word}
use Rattle.cov_base.proofs.bits.ones_in.Goals as goal

pub loop-word-preserved : goal.loop-word-preserved
loop-word-preserved c =
    let words = c.args.words.now in
    let at = c.loop-word.word-index in
    let fits : slice_index words at < 18446744073709551616 = omega (arith, c.type_inv.words at) in
    record {
      counted = omega (arith, ones_of_word words at fits);
      within = omega (arith, ones-le 64 (slice_index words at) fits);
    }
