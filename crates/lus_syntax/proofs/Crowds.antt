-- The count of a stretch, token by token.
use Rattle.std.proofs.Common.{◌≡◌, ◌⊎◌, ℕ, ◌+◌, ◌-◌, ◌<◌, ◌≤◌, Bool, true, false, List, length, get_or, take, drop, refl, sym, ap, ◌∙◌, arith, length-drop, subst, ⊎_elim}
use Rattle.std.specs.Prelude.{count_by, ◌||◌}
use Rattle.std.specs.List.{list_any}
use Rattle.std.proofs.lemmas.List.{get_or-drop}
use Rattle.std.proofs.lemmas.List.Folds.{list_any_more}
use Rattle.std.proofs.lemmas.List.Sums.{count_by_more_yes, count_by_more_no}
use Rattle.std.proofs.lemmas.Option.{get_or_from_slice_get, slice_get-get_or, slice_get_within}
use Rattle.lus_syntax.specs.declared.limits.TheConstants.{MOST_COUNTED}
use Rattle.lus_syntax.specs.declared.token.Token.{Token}
use Rattle.lus_syntax.specs.declared.token.TokenKind.{TokenKind}
use Rattle.lus_syntax.specs.declared.token.TokenKind.TheVariants.{Name, Number, Word, Sign}
use Rattle.lus_syntax.specs.declared.token.Symbol.TheVariants as sign
use Rattle.lus_syntax.specs.Crowding.{is_counted, is_semicolon, stretch, IsCrowd, IsLeastCrowd}

-- no `;` stands from one place up to the other
pub record IsWhole (tokens : List Token) (from to : ℕ) : Type 0 where
  pub begins : from ≤ to
  pub whole : list_any (λ t. is_semicolon t.kind) (stretch from to tokens) ≡ false

abbrev pub counted : List Token → ℕ → ℕ → ℕ
counted tokens from to = count_by (λ t. is_counted t.kind) (stretch from to tokens)

-- the count of the longest stretch up to a place
pub record IsCount (tokens : List Token) (place count : ℕ) : Type 0 where
  pub from : ℕ
  pub whole : IsWhole tokens from place
  pub is : counted tokens from place ≡ count
  pub most : (other : ℕ) → IsWhole tokens other place → counted tokens other place ≤ count

-- no crowd stands before a place
pub record NoCrowdBefore (tokens : List Token) (place : ℕ) : Type 0 where
  pub none : (other : ℕ) → other < place → IsCrowd tokens other → ⊥

-- nothing stands in an empty stretch
none_whole : (tokens : List Token) (place : ℕ) → IsWhole tokens place place
none_whole tokens place = record { begins = omega arith; whole = ap (λ k. list_any (λ t. is_semicolon t.kind) (take k (drop place tokens))) zero }
  where
    zero : place - place ≡ 0
    zero = omega arith

none_counted : (tokens : List Token) (place : ℕ) → counted tokens place place ≡ 0
none_counted tokens place = ap (λ k. count_by (λ t. is_counted t.kind) (take k (drop place tokens))) zero
  where
    zero : place - place ≡ 0
    zero = omega arith

-- the token at the end of a longer stretch
last_of : (tokens : List Token) (from place : ℕ) (d : Token) → from ≤ place → get_or (drop from tokens) (place - from) d ≡ get_or tokens place d
last_of tokens from place d le = get_or-drop from tokens (place - from) d ∙ ap (λ k. get_or tokens k d) here
  where
    here : from + (place - from) ≡ place
    here = omega arith

any_more : (tokens : List Token) (from place : ℕ) (d : Token) → from ≤ place → place < length tokens → list_any (λ t. is_semicolon t.kind) (stretch from (place + 1) tokens) ≡ (list_any (λ t. is_semicolon t.kind) (stretch from place tokens) || is_semicolon (get_or tokens place d).kind)
any_more tokens from place d le lt =
    ap (λ k. list_any (λ t. is_semicolon t.kind) (take k (drop from tokens))) longer
    ∙ list_any_more (λ t. is_semicolon t.kind) (drop from tokens) (place - from) d within
    ∙ ap (λ t. list_any (λ t. is_semicolon t.kind) (stretch from place tokens) || is_semicolon t.kind) (last_of tokens from place d le)
  where
    longer : place + 1 - from ≡ (place - from) + 1
    longer = omega arith

    within : place - from < length (drop from tokens)
    within = omega (arith, length-drop from tokens)

counted_yes : (tokens : List Token) (from place : ℕ) (d : Token) → from ≤ place → place < length tokens → is_counted (get_or tokens place d).kind ≡ true → counted tokens from (place + 1) ≡ counted tokens from place + 1
counted_yes tokens from place d le lt is_so =
    ap (λ k. count_by (λ t. is_counted t.kind) (take k (drop from tokens))) longer
    ∙ count_by_more_yes (λ t. is_counted t.kind) (drop from tokens) (place - from) d within (ap (λ t. is_counted t.kind) (last_of tokens from place d le) ∙ is_so)
  where
    longer : place + 1 - from ≡ (place - from) + 1
    longer = omega arith

    within : place - from < length (drop from tokens)
    within = omega (arith, length-drop from tokens)

counted_no : (tokens : List Token) (from place : ℕ) (d : Token) → from ≤ place → place < length tokens → is_counted (get_or tokens place d).kind ≡ false → counted tokens from (place + 1) ≡ counted tokens from place
counted_no tokens from place d le lt not_so =
    ap (λ k. count_by (λ t. is_counted t.kind) (take k (drop from tokens))) longer
    ∙ count_by_more_no (λ t. is_counted t.kind) (drop from tokens) (place - from) d within (ap (λ t. is_counted t.kind) (last_of tokens from place d le) ∙ not_so)
  where
    longer : place + 1 - from ≡ (place - from) + 1
    longer = omega arith

    within : place - from < length (drop from tokens)
    within = omega (arith, length-drop from tokens)

or_left : (a b : Bool) → (a || b) ≡ false → a ≡ false
or_left true b e = e
or_left false b e = refl

or_true : (a b : Bool) → b ≡ true → (a || b) ≡ false → ⊥
or_true true b e f = cc
or_true false b e f = cc

-- a stretch grows by a token that is no `;`
grows : (tokens : List Token) (from place : ℕ) (d : Token) → place < length tokens → is_semicolon (get_or tokens place d).kind ≡ false → IsWhole tokens from place → IsWhole tokens from (place + 1)
grows tokens from place d lt not_so w =
    let before = w.whole in
    let le : from ≤ place = w.begins in
    record { begins = omega arith; whole = any_more tokens from place d le lt ∙ ap (λ b. b || is_semicolon (get_or tokens place d).kind) before ∙ not_so }

shrinks : (tokens : List Token) (from place : ℕ) (d : Token) → from ≤ place → place < length tokens → IsWhole tokens from (place + 1) → IsWhole tokens from place
shrinks tokens from place d le lt w = record { begins = le; whole = or_left _ _ (sym (any_more tokens from place d le lt) ∙ w.whole) }

cut_off : (tokens : List Token) (from place : ℕ) (d : Token) → from ≤ place → place < length tokens → is_semicolon (get_or tokens place d).kind ≡ true → IsWhole tokens from (place + 1) → ⊥
cut_off tokens from place d le lt is_so w = or_true _ _ is_so (sym (any_more tokens from place d le lt) ∙ w.whole)

-- a stretch up to behind a place begins at or before the place, or is empty
split : (from place : ℕ) → from ≤ place + 1 → (from ≤ place) ⊎ (from ≡ place + 1)
split from place le = grind arith

end_counted : (tokens : List Token) (from place : ℕ) → from ≡ place → counted tokens from place ≡ 0
end_counted tokens from place e = ap (λ k. counted tokens k place) e ∙ none_counted tokens place

pub step_semicolon : (tokens : List Token) (place : ℕ) (d : Token) → place < length tokens → is_semicolon (get_or tokens place d).kind ≡ true → IsCount tokens (place + 1) 0
step_semicolon tokens place d lt is_so =
    record { from = place + 1; whole = none_whole tokens (place + 1); is = none_counted tokens (place + 1); most = most }
  where
    most : (other : ℕ) → IsWhole tokens other (place + 1) → counted tokens other (place + 1) ≤ 0
    most other w =
        ⊎_elim (λ le. absurd (cut_off tokens other place d le lt is_so w))
        (λ e. let none = end_counted tokens other (place + 1) e in omega (arith, none)) (split other place w.begins)

pub step_counted : (tokens : List Token) (place count : ℕ) (d : Token) → IsCount tokens place count → place < length tokens → is_semicolon (get_or tokens place d).kind ≡ false → is_counted (get_or tokens place d).kind ≡ true → IsCount tokens (place + 1) (count + 1)
step_counted tokens place count d c lt not_so is_so =
    record { from = c.from; whole = grows tokens c.from place d lt not_so c.whole; is = counted_yes tokens c.from place d c.whole.begins lt is_so ∙ ap (λ n. n + 1) c.is; most = most }
  where
    most : (other : ℕ) → IsWhole tokens other (place + 1) → counted tokens other (place + 1) ≤ count + 1
    most other w =
        ⊎_elim (λ le. omega (arith, counted_yes tokens other place d le lt is_so, c.most other (shrinks tokens other place d le lt w)))
        (λ e. let none = end_counted tokens other (place + 1) e in omega (arith, none)) (split other place w.begins)

pub step_other : (tokens : List Token) (place count : ℕ) (d : Token) → IsCount tokens place count → place < length tokens → is_semicolon (get_or tokens place d).kind ≡ false → is_counted (get_or tokens place d).kind ≡ false → IsCount tokens (place + 1) count
step_other tokens place count d c lt not_so not_counted =
    record { from = c.from; whole = grows tokens c.from place d lt not_so c.whole; is = counted_no tokens c.from place d c.whole.begins lt not_counted ∙ c.is; most = most }
  where
    most : (other : ℕ) → IsWhole tokens other (place + 1) → counted tokens other (place + 1) ≤ count
    most other w =
        ⊎_elim (λ le. omega (arith, counted_no tokens other place d le lt not_counted, c.most other (shrinks tokens other place d le lt w)))
        (λ e. let none = end_counted tokens other (place + 1) e in omega (arith, none)) (split other place w.begins)

-- before the first token
pub start : (tokens : List Token) → IsCount tokens 0 0
start tokens =
    record { from = 0; whole = none_whole tokens 0; is = none_counted tokens 0; most = λ other w. (let le : other ≤ 0 = w.begins in let none = end_counted tokens other 0 (omega arith) in omega (arith, none)) }

-- a `;` isn't counted
pub semicolon_free : (kind : TokenKind) → is_semicolon kind ≡ true → is_counted kind ≡ false
semicolon_free (Sign sign.Semicolon) e = refl
semicolon_free (Sign s) e = absurd (cc)
semicolon_free Name e = refl
semicolon_free (Number v) e = refl
semicolon_free (Word w) e = absurd (cc)

crowd_counted : (tokens : List Token) (place : ℕ) (d : Token) → IsCrowd tokens place → is_counted (get_or tokens place d).kind ≡ true
crowd_counted tokens place d c = ap (λ t. is_counted t.kind) (get_or_from_slice_get tokens place c.token d c.here) ∙ c.counted

pub not_here : (tokens : List Token) (place : ℕ) (d : Token) → is_counted (get_or tokens place d).kind ≡ false → IsCrowd tokens place → ⊥
not_here tokens place d not_so c = let is_so = crowd_counted tokens place d c in absurd (cc)

pub not_yet : (tokens : List Token) (place count : ℕ) → IsCount tokens place count → count < MOST_COUNTED → IsCrowd tokens place → ⊥
not_yet tokens place count n lt c =
    let most : counted tokens c.from place ≤ count = n.most c.from (record { begins = c.begins; whole = c.whole }) in
    omega (arith, c.before)

pub none_more : (tokens : List Token) (place : ℕ) → NoCrowdBefore tokens place → (IsCrowd tokens place → ⊥) → NoCrowdBefore tokens (place + 1)
none_more tokens place before not_so = record { none = none }
  where
    sides : (other : ℕ) → other < place + 1 → (other < place) ⊎ (place ≡ other)
    sides other lt = grind arith

    none : (other : ℕ) → other < place + 1 → IsCrowd tokens other → ⊥
    none other lt c = ⊎_elim (λ less. before.none other less c) (λ e. not_so (subst_back other e c)) (sides other lt)
      where
        subst_back : (other : ℕ) → place ≡ other → IsCrowd tokens other → IsCrowd tokens place
        subst_back other e c = subst (λ k. IsCrowd tokens k) (sym e) c

pub none_all : (tokens : List Token) (place : ℕ) → NoCrowdBefore tokens place → length tokens ≤ place → (other : ℕ) → IsCrowd tokens other → ⊥
none_all tokens place before le other c =
    let within : other < length tokens = slice_get_within tokens other c.token c.here in
    before.none other (omega arith) c

pub least : (tokens : List Token) (place : ℕ) (d : Token) → IsCount tokens place MOST_COUNTED → NoCrowdBefore tokens place → place < length tokens → is_counted (get_or tokens place d).kind ≡ true → IsLeastCrowd tokens place
least tokens place d n before lt is_so =
    record {
      crowd = record { token = get_or tokens place d; here = slice_get-get_or tokens place d lt; counted = is_so; from = n.from; begins = n.whole.begins; whole = n.whole.whole; before = n.is };
      least = λ other c. ⊎_elim (λ le. le) (λ less. absurd (before.none other less c)) (sides other);
    }
  where
    sides : (other : ℕ) → (place ≤ other) ⊎ (other < place)
    sides other = grind arith
