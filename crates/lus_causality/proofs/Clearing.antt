-- Marks that are unset one by one.
use Rattle.std.proofs.Common.{◌≡◌, ⊎_elim, ℕ, suc, ◌+◌, ◌<◌, ◌≤◌, Bool, false, List, [], ◌∷◌, length, set, get_or, refl, ap, ◌∙◌, arith}
use Rattle.std.proofs.Math.ListN.{length-set}
use Rattle.std.proofs.lemmas.Bool.{cases_eq}
use Rattle.std.specs.Prelude.{replicate}
use Rattle.lus_causality.proofs.Chains.{set_other, set_here}

-- the first marks are unset
pub record UnsetBelow (size i : ℕ) (marks : List Bool) : Type 0 where
  pub length_is : length marks ≡ size
  pub each : (x : ℕ) → x < i → get_or marks x false ≡ false

pub none_unset : (marks : List Bool) → UnsetBelow (length marks) 0 marks
none_unset marks = record { length_is = refl; each = λ x lt. absurd (omega (arith, lt)) }

pub one_unset : (size i : ℕ) (old new : List Bool) → new ≡ set old i false → i < length old → UnsetBelow size i old → UnsetBelow size (i + 1) new
one_unset size i old new is lt h = record {
  length_is = ap length is ∙ length-set old i false ∙ h.length_is;
  each = λ x below. ap (λ l. get_or l x false) is ∙ ⊎_elim
      (λ same. ap (λ n. get_or (set old i false) n false) same ∙ set_here old i false false lt)
      (λ apart. set_other old x i false false apart ∙ h.each x (omega (arith, below, apart)))
      (cases_eq x i);
}

all_false : (marks : List Bool) → ((x : ℕ) → x < length marks → get_or marks x false ≡ false) → marks ≡ replicate (length marks) false
all_false [] h = refl
all_false (m ∷ marks) h = ap (λ b. b ∷ marks) (h 0 (omega arith)) ∙ ap (λ l. false ∷ l) (all_false marks (λ x lt. h (suc x) (omega (arith, lt))))

pub all_unset : (size i : ℕ) (marks : List Bool) → length marks ≤ i → UnsetBelow size i marks → marks ≡ replicate size false
all_unset size i marks full h = all_false marks (λ x lt. h.each x (omega (arith, lt, full))) ∙ ap (λ n. replicate n false) h.length_is
