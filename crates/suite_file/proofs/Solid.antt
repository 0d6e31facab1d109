-- Texts without blanks.
use Rattle.std.proofs.Common.{◌≡◌, Bool, true, false, not, ◌&&◌, [], ◌∷◌, refl, ap}
use Rattle.std.specs.List.{list_all}
use Rattle.std.proofs.lemmas.Bool.{false≢true}
use Rattle.suite_file.specs.Records.{Text, is_blank, trimmed, trimmed_start, trimmed_end}

-- ---- no blanks

abbrev pub is_solid : Text → Bool
is_solid f = list_all (λ b. not (is_blank b)) f

pub both : (a b : Bool) → (a && b) ≡ true → (a ≡ true) × (b ≡ true)
both true b h = (refl, h)
both false b h = absurd (false≢true h)

not_true : (b : Bool) → not b ≡ true → b ≡ false
not_true true h = absurd (false≢true h)
not_true false h = refl

kept_start : (f : Text) → is_solid f ≡ true → trimmed_start f ≡ f
kept_start [] h = refl
kept_start (b ∷ f) h = rw (not_true (is_blank b) (both (not (is_blank b)) (is_solid f) h).0) refl

kept_end : (f : Text) → is_solid f ≡ true → trimmed_end f ≡ f
kept_end [] h = refl
kept_end (b ∷ f) h = let s = both (not (is_blank b)) (is_solid f) h in rw (not_true (is_blank b) s.0) (ap (λ t. b ∷ t) (kept_end f s.1))

pub kept : (f : Text) → is_solid f ≡ true → trimmed f ≡ f
kept f h = rw (kept_start f h) (kept_end f h)
