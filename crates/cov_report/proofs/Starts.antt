-- What is written behind a text leaves the text in front.
use Rattle.std.proofs.Common.{◌≡◌, ℕ, List, [], ◌∷◌, ◌++◌, length, take, refl, ap}
use Rattle.std.specs.Io.{StartsWith}

pub starts_same : (text : List ℕ) → StartsWith text text
starts_same [] = refl
starts_same (b ∷ text) = ap (λ t. b ∷ t) (starts_same text)

pub starts_on : (old text more : List ℕ) → StartsWith text old → StartsWith (text ++ more) old
starts_on [] text more h = refl
starts_on (b ∷ old) [] more h = absurd (cc h)
starts_on (b ∷ old) (c ∷ text) more h =
    let here : c ≡ b = cc h in
    let later : take (length old) text ≡ old = cc h in
    cc (here, starts_on old text more later)

pub starts_then : (old text new : List ℕ) → StartsWith text old → StartsWith new text → StartsWith new old
starts_then [] text new h k = refl
starts_then (b ∷ old) [] new h k = absurd (cc h)
starts_then (b ∷ old) (c ∷ text) [] h k = absurd (cc k)
starts_then (b ∷ old) (c ∷ text) (d ∷ new) h k =
    let here : c ≡ b = cc h in
    let there : d ≡ c = cc k in
    let later : take (length old) text ≡ old = cc h in
    let beyond : take (length text) new ≡ text = cc k in
    cc (here, there, starts_then old text new later beyond)

pub ruleset starts = (starts_same, starts_on, starts_then)
