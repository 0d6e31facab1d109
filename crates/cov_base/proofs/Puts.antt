-- One more put.
use Rattle.std.proofs.Common.{ℕ, ◌+◌, List, ◌++◌, take, drop, Option, Some, None, subst, ap, sym, ◌∙◌, append_assoc}
use Rattle.std.proofs.Math.Seq.{take-add}
use Rattle.cov_base.specs.Bytes.{Appends}

pub more_put : (old mid new : Option (List ℕ)) (piece : List ℕ) (done n : ℕ) → Appends old (take done piece) mid → Appends mid (take n (drop done piece)) new → Appends old (take (done + n) piece) new
more_put None mid new piece done n a b = tt
more_put (Some w) mid new piece done n a b =
    let P : Option (List ℕ) → Type 0 = λ m. Appends m (take n (drop done piece)) new in
    subst P a b ∙ ap (λ t. Some t) (append_assoc w (take done piece) (take n (drop done piece)) ∙ ap (λ t. w ++ t) (sym (take-add done n piece)))
