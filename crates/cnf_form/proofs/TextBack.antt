-- Lines, words and numbers that are written are read again.
use Rattle.std.proofs.Common.{◌≡◌, ◌<◌, ◌≤◌, ◌-◌, ◌^◌, ◌∙◌, ℕ, zero, suc, Bool, true, false, not, ◌&&◌, nat_le, eqb, List, [], ◌∷◌, ◌++◌, length, get_or, Some, refl, ap, arith}
use Rattle.std.specs.Prelude.{decimal}
use Rattle.std.specs.List.{list_all, slice_split}
use Rattle.std.specs.Int.{IsInRange}
use Rattle.std.proofs.lemmas.Bool.{and_parts, false≢true, ne_eqb}
use Rattle.std.proofs.lemmas.Fmt.{decimal_nonempty, digits_decimal, digits_value-decimal}
use Rattle.std.proofs.lemmas.Str.Parse.{IsDigitsTest, FoldsDigits, IsNumeralModel, numerals_by_fold}
use Rattle.cnf_form.specs.declared.number.Number.{Number}
use Rattle.cnf_form.specs.Lines.{Text, is_nil, is_feed, is_blank, lines, words, unwords, unlines}
use Rattle.cnf_form.specs.Numbers.{is_digit, is_numeral, size_from, most, numeral, number_of, natural_of}
use Rattle.cnf_form.proofs.Cuts.{part}
use Rattle.cnf_form.proofs.Digits.{within, is_within}

-- no control byte
abbrev pub is_plain : Text → Bool
is_plain text = list_all (λ b. nat_le 32 b) text

-- no control byte and no space
abbrev pub is_solid : Text → Bool
is_solid text = list_all (λ b. nat_le 33 b) text

-- ---- lines

feed_split : (line rest : Text) → is_plain line ≡ true → slice_split is_feed (line ++ 10 ∷ rest) ≡ line ∷ slice_split is_feed rest
feed_split [] rest h = refl
feed_split (b ∷ line) rest h =
    let s = and_parts (nat_le 32 b) (is_plain line) h in
    rw (ne_eqb b 10 (λ q. omega (arith, is_within 32 b s.0, q)), feed_split line rest s.1) refl

no_return : (line : Text) (i : ℕ) → is_plain line ≡ true → eqb (get_or line i 0) 13 ≡ false
no_return [] i h = refl
no_return (b ∷ line) zero h = ne_eqb b 13 (λ q. omega (arith, is_within 32 b (and_parts (nat_le 32 b) (is_plain line) h).0, q))
no_return (b ∷ line) (suc i) h = no_return line i (and_parts (nat_le 32 b) (is_plain line) h).1

and_false : (b : Bool) → (b && false) ≡ false
and_false true = refl
and_false false = refl

pub line_back : (line rest : Text) → is_plain line ≡ true → lines (line ++ 10 ∷ rest) ≡ line ∷ lines rest
line_back line rest h =
    rw (feed_split line rest h, part is_feed rest, and_false (is_nil line), no_return line (length line - 1) h) refl

pub lines_back : (ls : List Text) → list_all is_plain ls ≡ true → lines (unlines ls) ≡ ls
lines_back [] h = refl
lines_back (line ∷ ls) h =
    let s = and_parts (is_plain line) (list_all is_plain ls) h in
    line_back line (unlines ls) s.0 ∙ ap (λ t. line ∷ t) (lines_back ls s.1)

-- ---- words

solid_byte : (b : ℕ) → nat_le 33 b ≡ true → is_blank b ≡ false
solid_byte b h = rw (ne_eqb b 32 (λ q. omega (arith, is_within 33 b h, q)), ne_eqb b 9 (λ q. omega (arith, is_within 33 b h, q))) refl

blank_split : (word rest : Text) → is_solid word ≡ true → slice_split is_blank (word ++ 32 ∷ rest) ≡ word ∷ slice_split is_blank rest
blank_split [] rest h = refl
blank_split (b ∷ word) rest h =
    let s = and_parts (nat_le 33 b) (is_solid word) h in
    rw (solid_byte b s.0, blank_split word rest s.1) refl

blank_none : (word : Text) → is_solid word ≡ true → slice_split is_blank word ≡ word ∷ []
blank_none [] h = refl
blank_none (b ∷ word) h =
    let s = and_parts (nat_le 33 b) (is_solid word) h in
    rw (solid_byte b s.0, blank_none word s.1) refl

-- one or more bytes, none of them blank
abbrev pub is_word : Text → Bool
is_word word = not (is_nil word) && is_solid word

-- a word with more words behind it
pub word_on : (word : Text) (ws : List Text) (v : Text) (vs : List Text) → unwords (word ∷ (ws ++ v ∷ vs)) ≡ word ++ 32 ∷ unwords (ws ++ v ∷ vs)
word_on word [] v vs = refl
word_on word (w ∷ ws) v vs = refl

pub words_back : (ws : List Text) → list_all is_word ws ≡ true → words (unwords ws) ≡ ws
words_back [] h = refl
words_back (w ∷ []) h =
    let s = and_parts (not (is_nil w)) (is_solid w) (and_parts (is_word w) true h).0 in
    rw (blank_none w s.1, s.0) refl
words_back (w ∷ v ∷ ws) h =
    let p = and_parts (is_word w) (list_all is_word (v ∷ ws)) h in
    let s = and_parts (not (is_nil w)) (is_solid w) p.0 in
    rw (blank_split w (unwords (v ∷ ws)) s.1, s.0) (ap (λ t. w ∷ t) (words_back (v ∷ ws) p.1))

plain_append : (a b : Text) → is_plain a ≡ true → is_plain b ≡ true → is_plain (a ++ b) ≡ true
plain_append [] b p q = q
plain_append (x ∷ a) b p q =
    let s = and_parts (nat_le 32 x) (is_plain a) p in
    rw (s.0) (plain_append a b s.1 q)

solid_plain : (word : Text) → is_solid word ≡ true → is_plain word ≡ true
solid_plain [] h = refl
solid_plain (b ∷ word) h =
    let s = and_parts (nat_le 33 b) (is_solid word) h in
    rw (within 32 b (omega (arith, is_within 33 b s.0))) (solid_plain word s.1)

pub unwords_plain : (ws : List Text) → list_all is_word ws ≡ true → is_plain (unwords ws) ≡ true
unwords_plain [] h = refl
unwords_plain (w ∷ []) h = solid_plain w (and_parts (not (is_nil w)) (is_solid w) (and_parts (is_word w) true h).0).1
unwords_plain (w ∷ v ∷ ws) h =
    let p = and_parts (is_word w) (list_all is_word (v ∷ ws)) h in
    plain_append w (32 ∷ unwords (v ∷ ws)) (solid_plain w (and_parts (not (is_nil w)) (is_solid w) p.0).1) (unwords_plain (v ∷ ws) p.1)

-- ---- numbers

digit_in : (b : ℕ) → 48 ≤ b → b ≤ 57 → is_digit b ≡ true
digit_in b l u = rw (within 48 b l, within b 57 u) refl

in_digit : (b : ℕ) → is_digit b ≡ true → IsInRange 48 57 b
in_digit b h = let s = and_parts (nat_le 48 b) (nat_le b 57) h in (is_within 48 b s.0, is_within b 57 s.1)

tells : IsDigitsTest (λ ds. list_all is_digit ds ≡ true)
tells = record {
  empty = refl;
  parts = λ c cs h. let s = and_parts (is_digit c) (list_all is_digit cs) h in (in_digit c s.0, s.1);
  more = λ c cs r h. rw (digit_in c r.0 r.1, h) refl;
}

folds : FoldsDigits size_from
folds = record { empty = λ n. refl; more = λ n c cs r. refl }

numerals : IsNumeralModel (λ ds. list_all is_digit ds ≡ true) (size_from 0)
numerals = numerals_by_fold (λ ds. list_all is_digit ds ≡ true) tells size_from folds

some_numeral : (ds : Text) → 0 < length ds → list_all is_digit ds ≡ true → is_numeral ds ≡ true
some_numeral [] l h = absurd (omega arith)
some_numeral (d ∷ ds) l h = h

wide : (n : ℕ) → n ≤ most → n < 2 ^ 64
wide n h = omega (arith, h)

decimal_numeral : (n : ℕ) → n ≤ most → is_numeral (decimal n) ≡ true
decimal_numeral n h = some_numeral (decimal n) (decimal_nonempty n (wide n h)) (digits_decimal numerals n (wide n h))

pub numeral_back : (n : ℕ) → n ≤ most → numeral (decimal n) ≡ Some n
numeral_back n h = rw (decimal_numeral n h, digits_value-decimal numerals n (wide n h), within n most h) refl

abbrev pub number : Bool → ℕ → Number
number negative n = record { negative = negative; size = n }

pub minus_back : (n : ℕ) → n ≤ most → number_of (45 ∷ decimal n) ≡ Some (number true n)
minus_back n h = rw (numeral_back n h) refl

plain_number : (n : ℕ) (digits : Text) → is_numeral digits ≡ true → numeral digits ≡ Some n → number_of digits ≡ Some (number false n)
plain_number n [] t h = absurd (false≢true t)
plain_number n (d ∷ digits) t h =
    let range = in_digit d (and_parts (is_digit d) (list_all is_digit digits) t).0 in
    rw (ne_eqb d 45 (λ q. omega (arith, range.0, q)), h) refl

pub number_back : (n : ℕ) → n ≤ most → number_of (decimal n) ≡ Some (number false n)
number_back n h = plain_number n (decimal n) (decimal_numeral n h) (numeral_back n h)

pub natural_back : (n : ℕ) → n ≤ most → natural_of (decimal n) ≡ Some n
natural_back n h = rw (number_back n h) refl

digits_solid : (ds : Text) → list_all is_digit ds ≡ true → is_solid ds ≡ true
digits_solid [] h = refl
digits_solid (d ∷ ds) h =
    let s = and_parts (is_digit d) (list_all is_digit ds) h in
    rw (within 33 d (let r = in_digit d s.0 in omega (arith, r.0))) (digits_solid ds s.1)

numeral_word : (ds : Text) → is_numeral ds ≡ true → is_word ds ≡ true
numeral_word [] h = absurd (false≢true h)
numeral_word (d ∷ ds) h = digits_solid (d ∷ ds) h

pub decimal_word : (n : ℕ) → n ≤ most → is_word (decimal n) ≡ true
decimal_word n h = numeral_word (decimal n) (decimal_numeral n h)

pub minus_word : (n : ℕ) → n ≤ most → is_word (45 ∷ decimal n) ≡ true
minus_word n h = digits_solid (decimal n) (digits_decimal numerals n (wide n h))

-- a digit isn't `c`
numeral_first : (ds rest : Text) → is_numeral ds ≡ true → eqb (get_or (ds ++ rest) 0 0) 99 ≡ false
numeral_first [] rest h = absurd (false≢true h)
numeral_first (d ∷ ds) rest h =
    let range = in_digit d (and_parts (is_digit d) (list_all is_digit ds) h).0 in
    ne_eqb d 99 (λ q. omega (arith, range.1, q))

pub decimal_first : (n : ℕ) (rest : Text) → n ≤ most → eqb (get_or (decimal n ++ rest) 0 0) 99 ≡ false
decimal_first n rest h = numeral_first (decimal n) rest (decimal_numeral n h)
