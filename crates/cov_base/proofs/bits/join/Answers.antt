use Rattle.std.proofs.Common.{◌∙◌, ◌<◌, ◌/◌, ap, arith, ◌||◌, Bool, ⊎_elim, length}
use Rattle.std.proofs.lemmas.Bool.{cases_eq}
use Rattle.std.proofs.lemmas.List.{length-set}
use Rattle.cov_base.specs.BitRow.{bit_of}
use Rattle.cov_base.proofs.BitRows.{bit_joined, bit_in_other_word}
use Rattle.cov_base.proofs.bits.join.Goals as goal

pub loop-at-preserved : goal.loop-at-preserved
loop-at-preserved c =
    let at = c.loop-at.at in
    let words = c.loop-at.words in
    let others = c.args.others.now in
    let inside : at < length words = omega arith in
    record {
      len = length-set words at _ ∙ c.loop-at.invariant.len;
      joined = λ k h. ⊎_elim
          (λ here. bit_joined words others at k here inside ∙ ap (λ (bit : Bool). bit || bit_of others k) (c.loop-at.invariant.left k (omega arith)))
          (λ elsewhere. bit_in_other_word words _ at k elsewhere ∙ c.loop-at.invariant.joined k (omega arith))
          (cases_eq (k / 64) at);
      left = λ k h. bit_in_other_word words _ at k (omega arith) ∙ c.loop-at.invariant.left k (omega arith);
    }
