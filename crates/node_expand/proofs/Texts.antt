-- Names that are cut at signs.
use Rattle.std.proofs.Common.{◌≡◌, ◌≢◌, ℕ, ◌+◌, ◌%◌, ◌<◌, ◌^◌, Bool, true, false, ◌||◌, cond, Option, Some, None, List, [], ◌∷◌, ◌++◌, decimal, codes, refl, sym, ap, ap₂, true≢false, ◌∙◌, arith}
use Rattle.std.proofs.lemmas.Bool.Decides.{nat_tests}
use Rattle.std.proofs.lemmas.Fmt.{decimal_by_steps, decimal_injective}
use Rattle.std.proofs.lemmas.List.{append_cancel_left}
use Rattle.std.specs.Char.{is_ascii_digit}
use Rattle.std.specs.List.{AllByRecursion}
use Rattle.lus_syntax.specs.declared.token.Keyword.{Keyword}
use Rattle.lus_syntax.specs.declared.token.Symbol.{Symbol}
use Rattle.lus_syntax.specs.declared.token.TokenKind.TheVariants as token
use Rattle.lus_syntax.specs.Words.{every, is_letter, is_part, kind_of, name_or, sign_of, signed, value_from, word_of}
use Rattle.lus_types.specs.Facts.{IsIdentifier}
use Rattle.lus_types.specs.Names.{Name}
use Rattle.node_expand.proofs.Lists.{all_append}

-- letters, digits and `_` alone
abbrev pub IsPlain : Name → Type 0
IsPlain x = AllByRecursion (λ b. is_part b ≡ true) x

-- ---- an identifier

token_is : (l e d n : Bool) (w : Option Keyword) (v : ℕ) (s : Option Symbol)
    → cond l (cond e (Some (name_or w)) None) (cond d (cond n (Some (token.Number v)) None) (signed s)) ≡ Some token.Name → (l ≡ true) × (e ≡ true)
token_is true true d n w v s h = (refl, refl)
token_is true false d n w v s h = absurd (cc h)
token_is false e true true w v s h = absurd (cc h)
token_is false e true false w v s h = absurd (cc h)
token_is false e false n w v None h = absurd (cc h)
token_is false e false n w v (Some s) h = absurd (cc h)

every_part : (bs : List ℕ) → every is_part bs ≡ true → IsPlain bs
every_part [] h = tt
every_part (b ∷ bs) h = elim (is_part b) as (λ c. is_part b ≡ c → cond c (every is_part bs) false ≡ true → IsPlain (b ∷ bs)) [
  | true ↦ λ is k. (is, every_part bs k)
  | false ↦ λ is k. absurd (true≢false (sym k))
] refl h

letter_part : (b : ℕ) → is_letter b ≡ true → is_part b ≡ true
letter_part b h = ap (λ c. c || is_ascii_digit b) h

pub plain : (x : Name) → IsIdentifier x → IsPlain x
plain [] h = tt
plain (b ∷ bs) h =
    let is = token_is (is_letter b) (every is_part bs) (is_ascii_digit b) (every is_ascii_digit bs) (word_of (b ∷ bs)) (value_from 0 (b ∷ bs)) (sign_of (b ∷ bs)) h in
    (letter_part b is.0, every_part bs is.1)

pub all_plain : (xs : List Name) → AllByRecursion IsIdentifier xs → AllByRecursion IsPlain xs
all_plain [] h = tt
all_plain (x ∷ xs) h = (plain x h.0, all_plain xs h.1)

pub not_empty : (x : Name) → IsIdentifier x → x ≢ []
not_empty x h e = let k : None ≡ Some token.Name = sym (ap kind_of e) ∙ h in cc k

pub not_assert : (x : Name) → IsIdentifier x → x ≢ codes "assert"
unfolding word_of
not_assert x h e = let k : kind_of (codes "assert") ≡ Some token.Name = sym (ap kind_of e) ∙ h in cc k

-- ---- cuts

-- what begins with a sign, or is nothing
abbrev pub Ends : List ℕ → Type 0
Ends [] = Unit {0}
Ends (b ∷ bs) = is_part b ≡ false

no_both : {A : Type 0} (b c : ℕ) → is_part b ≡ true → is_part c ≡ false → b ≡ c → A
no_both b c h k e = absurd (true≢false (sym h ∙ ap is_part e ∙ k))

-- two texts are cut in one way
pub cut : (xs ys t u : List ℕ) → IsPlain xs → IsPlain ys → Ends t → Ends u → xs ++ t ≡ ys ++ u → (xs ≡ ys) × (t ≡ u)
cut [] [] t u p q h k e = (refl, e)
cut [] (y ∷ ys) [] u p q h k e = absurd (cc e)
cut [] (y ∷ ys) (b ∷ t) u p q h k e = no_both y b q.0 h (cc e)
cut (x ∷ xs) [] t [] p q h k e = absurd (cc e)
cut (x ∷ xs) [] t (b ∷ u) p q h k e = no_both x b p.0 k (cc e)
cut (x ∷ xs) (y ∷ ys) t u p q h k e =
    let head : x ≡ y = cc e in
    let rest = cut xs ys t u p.1 q.1 h k (cc e) in
    (ap₂ (λ a l. a ∷ l) head rest.0, rest.1)

digit_part : (m : ℕ) → m < 10 → is_part (48 + m) ≡ true
digit_part m lt = grind (arith, nat_tests)

pub decimal_plain : (n : ℕ) → n < 2 ^ 64 → IsPlain (decimal n)
decimal_plain = decimal_by_steps (λ m ds. IsPlain ds) (λ m lt. (digit_part m lt, tt)) (λ m ds low h. all_append (λ b. is_part b ≡ true) ds ((48 + m % 10) ∷ []) h (digit_part (m % 10) (omega arith), tt))

-- no text that goes on behind one goes on behind the other, but for letters
pub record Apart (r s : Name) : Type 0 where
  pub never : (t u : List ℕ) → Ends t → Ends u → r ++ t ≡ s ++ u → ⊥

pub apart_back : {r s : Name} → Apart r s → Apart s r
apart_back a = record { never = λ t u h k e. a.never u t k h (sym e) }

pub apart_words : (x y : Name) → IsPlain x → IsPlain y → (x ≡ y → ⊥) → Apart x y
apart_words x y p q d = record { never = λ t u h k e. d (cut x y t u p q h k e).0 }

assert_plain : IsPlain (codes "assert")
assert_plain = (refl, (refl, (refl, (refl, (refl, (refl, tt))))))

-- the name of the k-th assertion
abbrev pub assertion : ℕ → Name
assertion k = codes "assert#" ++ decimal k

assertion_behind : (k : ℕ) (t : List ℕ) → assertion k ++ t ≡ codes "assert" ++ 35 ∷ (decimal k ++ t)
assertion_behind k t = refl

pub apart_assertion_word : (k : ℕ) (y : Name) → IsPlain y → (y ≡ codes "assert" → ⊥) → Apart (assertion k) y
apart_assertion_word k y q d = record { never = λ t u h l e. d (sym (cut (codes "assert") y (35 ∷ (decimal k ++ t)) u assert_plain q refl l (sym (assertion_behind k t) ∙ e)).0) }

pub apart_assertions : (j k : ℕ) → j < 2 ^ 64 → k < 2 ^ 64 → (j ≡ k → ⊥) → Apart (assertion j) (assertion k)
apart_assertions j k a b d = record {
  never = λ t u h l e.
      let rest : decimal j ++ t ≡ decimal k ++ u = append_cancel_left (codes "assert#") (decimal j ++ t) (decimal k ++ u) e in
      d (decimal_injective j k a b (cut (decimal j) (decimal k) t u (decimal_plain j a) (decimal_plain k b) h l rest).0);
}
