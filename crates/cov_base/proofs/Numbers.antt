-- The text of a percentage.
use Rattle.std.proofs.Common.{◌≡◌, ◌∙◌, ℕ, ◌+◌, ◌/◌, ◌%◌, List, [], ◌∷◌, ◌++◌, decimal, codes, append_assoc, ap, arith}
use Rattle.std.proofs.lemmas.Fmt.{decimal_digit}
use Rattle.cov_base.specs.Numbers.{tenths_text}

pub tenths_in_pieces : (old : List ℕ) (tenths : ℕ) → (old ++ decimal (tenths / 10)) ++ 46 ∷ (48 + tenths % 10) ∷ 37 ∷ [] ≡ old ++ (tenths_text tenths ++ codes "%")
tenths_in_pieces old tenths =
    let whole = decimal (tenths / 10) in
    rw (decimal_digit (tenths % 10) (omega arith))
    (append_assoc old whole (46 ∷ (48 + tenths % 10) ∷ 37 ∷ []) ∙ ap (λ text. old ++ text) (simp append_assoc))
