use Rattle.std.proofs.Common.{◌≡◌, ℕ, suc, zero, ◌+◌, ◌-◌, ◌*◌, ◌<◌, ◌≤◌, Bool, true, false, cond, List, [], ◌∷◌, length, get_or, take, drop, drop-cons, refl, sym, ap, ◌∙◌, arith}
use Rattle.std.specs.Prelude.{Option, Some, None}
use Rattle.std.specs.Char.{is_ascii_digit}
use Rattle.lus_syntax.specs.declared.token.Symbol.{Symbol}
use Rattle.lus_syntax.specs.declared.token.Symbol.TheVariants as sign
use Rattle.lus_syntax.specs.declared.token.TokenKind.TheVariants.{Number, Sign}
use Rattle.std.specs.Str.{bytes_eq}
use Rattle.std.proofs.lemmas.Slice.Eq.{bytes_eq-Decides}
use Rattle.lus_syntax.specs.Words.{is_letter, is_part, every, kind_of, name_or, word_of, value_from, single_of, pair_of, signed, sign_among, sign_of, sign_text, signs}
use Rattle.lus_syntax.specs.Cuts.{IsLongest, NoToken}

pub every_take : (p : ℕ → Bool) (bs : List ℕ) (k : ℕ) → ((j : ℕ) → j < k → p (get_or bs j 0) ≡ true) → k ≤ length bs → every p (take k bs) ≡ true
every_take p [] k h le = ap (λ n. every p (take n [])) (zero_of k le)
  where
    zero_of : (k : ℕ) → k ≤ 0 → k ≡ 0
    zero_of k le = omega arith
every_take p (b ∷ bs) zero h le = refl
every_take p (b ∷ bs) (suc k) h le = rw (h 0 (omega arith)) (every_take p bs k (λ j l. h (suc j) (omega arith)) (omega arith))

pub not_every : (p : ℕ → Bool) (bs : List ℕ) (k m : ℕ) → k < m → m ≤ length bs → p (get_or bs k 0) ≡ false → every p (take m bs) ≡ false
not_every p [] k m lt le not_so = absurd (omega arith)
not_every p (b ∷ bs) k zero lt le not_so = absurd (omega arith)
not_every p (b ∷ bs) zero (suc m) lt le not_so = rw not_so refl
not_every p (b ∷ bs) (suc k) (suc m) lt le not_so = rw (not_every p bs k m (omega arith) (omega arith) not_so) (both (p b))
  where
    both : (c : Bool) → cond c false false ≡ false
    both true = refl
    both false = refl

pub kind_name : (b : ℕ) (bs : List ℕ) → is_letter b ≡ true → every is_part bs ≡ true → kind_of (b ∷ bs) ≡ Some (name_or (word_of (b ∷ bs)))
kind_name b bs letter parts = rw (letter, parts) refl

pub kind_no_name : (b : ℕ) (bs : List ℕ) → is_letter b ≡ true → every is_part bs ≡ false → kind_of (b ∷ bs) ≡ None
kind_no_name b bs letter parts = rw (letter, parts) refl

pub kind_digits : (b : ℕ) (bs : List ℕ) → is_letter b ≡ false → is_ascii_digit b ≡ true → every is_ascii_digit bs ≡ true → kind_of (b ∷ bs) ≡ Some (Number (value_from 0 (b ∷ bs)))
kind_digits b bs letter digit parts = rw (letter, digit, parts) refl

pub kind_no_digits : (b : ℕ) (bs : List ℕ) → is_letter b ≡ false → is_ascii_digit b ≡ true → every is_ascii_digit bs ≡ false → kind_of (b ∷ bs) ≡ None
kind_no_digits b bs letter digit parts = rw (letter, digit, parts) refl

pub kind_sign : (b : ℕ) (bs : List ℕ) → is_letter b ≡ false → is_ascii_digit b ≡ false → kind_of (b ∷ bs) ≡ signed (sign_of (b ∷ bs))
kind_sign b bs letter digit = rw (letter, digit) refl

pub name_longest : (rest : List ℕ) (n : ℕ) → 0 < n → n ≤ length rest → is_letter (get_or rest 0 0) ≡ true → ((k : ℕ) → 0 < k → k < n → is_part (get_or rest k 0) ≡ true) → (n < length rest → is_part (get_or rest n 0) ≡ false) → IsLongest rest n (name_or (word_of (take n rest)))
name_longest [] n pos le first parts stops = absurd (omega arith)
name_longest (b ∷ bs) zero pos le first parts stops = absurd (omega arith)
name_longest (b ∷ bs) (suc k) pos le first parts stops =
    record {
      within = le;
      some = pos;
      token = kind_name b (take k bs) first (every_take is_part bs k (λ j l. parts (suc j) (omega arith) (omega arith)) (omega arith));
      longest = longer;
    }
  where
    longer : (m : ℕ) → suc k < m → m ≤ length (b ∷ bs) → kind_of (take m (b ∷ bs)) ≡ None
    longer zero lt within = absurd (omega arith)
    longer (suc m) lt within = kind_no_name b (take m bs) first (not_every is_part bs k m (omega arith) (omega arith) (stops (omega arith)))

pub digits_longest : (rest : List ℕ) (n : ℕ) → 0 < n → n ≤ length rest → is_letter (get_or rest 0 0) ≡ false → is_ascii_digit (get_or rest 0 0) ≡ true → ((k : ℕ) → 0 < k → k < n → is_ascii_digit (get_or rest k 0) ≡ true) → (n < length rest → is_ascii_digit (get_or rest n 0) ≡ false) → IsLongest rest n (Number (value_from 0 (take n rest)))
digits_longest [] n pos le other first parts stops = absurd (omega arith)
digits_longest (b ∷ bs) zero pos le other first parts stops = absurd (omega arith)
digits_longest (b ∷ bs) (suc k) pos le other first parts stops =
    record {
      within = le;
      some = pos;
      token = kind_digits b (take k bs) other first (every_take is_ascii_digit bs k (λ j l. parts (suc j) (omega arith) (omega arith)) (omega arith));
      longest = longer;
    }
  where
    longer : (m : ℕ) → suc k < m → m ≤ length (b ∷ bs) → kind_of (take m (b ∷ bs)) ≡ None
    longer zero lt within = absurd (omega arith)
    longer (suc m) lt within = kind_no_digits b (take m bs) other first (not_every is_ascii_digit bs k m (omega arith) (omega arith) (stops (omega arith)))

none_of : (o : Option Symbol) → o ≡ None → signed o ≡ None
none_of o e = ap signed e

-- bytes that are the same have one length
same_length : (as' bs : List ℕ) → bytes_eq as' bs ≡ true → length as' ≡ length bs
same_length as' bs e = ap length ((bytes_eq-Decides as' bs).0 e)

short_sign : (s : Symbol) → length (sign_text s) ≤ 2
short_sign sign.OpenParen = omega arith
short_sign sign.CloseParen = omega arith
short_sign sign.OpenBrace = omega arith
short_sign sign.CloseBrace = omega arith
short_sign sign.Comma = omega arith
short_sign sign.Semicolon = omega arith
short_sign sign.Colon = omega arith
short_sign sign.Dot = omega arith
short_sign sign.Equals = omega arith
short_sign sign.NotEqual = omega arith
short_sign sign.Less = omega arith
short_sign sign.LessEqual = omega arith
short_sign sign.Greater = omega arith
short_sign sign.GreaterEqual = omega arith
short_sign sign.Implies = omega arith
short_sign sign.Arrow = omega arith
short_sign sign.Plus = omega arith
short_sign sign.Minus = omega arith
short_sign sign.Times = omega arith

none_among : (ss : List Symbol) (bytes : List ℕ) → 2 < length bytes → sign_among ss bytes ≡ None
none_among [] bytes lt = refl
none_among (s ∷ ss) bytes lt = rw (other (bytes_eq bytes (sign_text s)) refl) (none_among ss bytes lt)
  where
    other : (t : Bool) → bytes_eq bytes (sign_text s) ≡ t → bytes_eq bytes (sign_text s) ≡ false
    other true e = let l = same_length bytes (sign_text s) e in let m = short_sign s in absurd (omega arith)
    other false e = e

-- three bytes or more are no sign
three : (a b c : ℕ) (cs : List ℕ) (m : ℕ) → 2 < m → signed (sign_of (take m (a ∷ b ∷ c ∷ cs))) ≡ None
unfolding sign_of
three a b c cs zero lt = absurd (omega arith)
three a b c cs (suc zero) lt = absurd (omega arith)
three a b c cs (suc (suc zero)) lt = absurd (omega arith)
three a b c cs (suc (suc (suc m))) lt = ap signed (none_among signs (a ∷ b ∷ c ∷ take m cs) (omega arith))

-- a byte and more bytes that are a sign
pub longer_sign : (a : ℕ) (bs : List ℕ) (m : ℕ) → is_letter a ≡ false → is_ascii_digit a ≡ false → 2 < m → m ≤ length (a ∷ bs) → kind_of (take m (a ∷ bs)) ≡ None
longer_sign a [] m letter digit lt le = absurd (omega arith)
longer_sign a (b ∷ []) m letter digit lt le = absurd (omega arith)
longer_sign a (b ∷ c ∷ cs) zero letter digit lt le = absurd (omega arith)
longer_sign a (b ∷ c ∷ cs) (suc m) letter digit lt le = kind_sign a (take m (b ∷ c ∷ cs)) letter digit ∙ three a b c cs (suc m) lt

pub two_longest : (rest : List ℕ) (s : Symbol) → is_letter (get_or rest 0 0) ≡ false → is_ascii_digit (get_or rest 0 0) ≡ false → pair_of rest ≡ Some s → IsLongest rest 2 (Sign s)
two_longest [] s letter digit e = absurd (cc)
two_longest (a ∷ []) s letter digit e = absurd (cc)
two_longest (a ∷ b ∷ bs) s letter digit e =
    record {
      within = omega arith;
      some = omega arith;
      token = kind_sign a (b ∷ []) letter digit ∙ ap signed e;
      longest = λ m lt within. longer_sign a (b ∷ bs) m letter digit lt within;
    }

second : (a : ℕ) (bs : List ℕ) (m : ℕ) → is_letter a ≡ false → is_ascii_digit a ≡ false → pair_of (a ∷ bs) ≡ None → 1 < m → m ≤ length (a ∷ bs) → kind_of (take m (a ∷ bs)) ≡ None
second a [] m letter digit not_so lt le = absurd (omega arith)
second a (b ∷ bs) zero letter digit not_so lt le = absurd (omega arith)
second a (b ∷ bs) (suc zero) letter digit not_so lt le = absurd (omega arith)
second a (b ∷ bs) (suc (suc zero)) letter digit not_so lt le = kind_sign a (b ∷ []) letter digit ∙ ap signed not_so
second a (b ∷ bs) (suc (suc (suc m))) letter digit not_so lt le = longer_sign a (b ∷ bs) (suc (suc (suc m))) letter digit (omega arith) le

pub one_longest : (rest : List ℕ) (s : Symbol) → 0 < length rest → is_letter (get_or rest 0 0) ≡ false → is_ascii_digit (get_or rest 0 0) ≡ false → pair_of rest ≡ None → single_of rest ≡ Some s → IsLongest rest 1 (Sign s)
one_longest [] s le letter digit not_so e = absurd (omega arith)
one_longest (a ∷ bs) s le letter digit not_so e =
    record {
      within = omega arith;
      some = omega arith;
      token = kind_sign a [] letter digit ∙ ap signed e;
      longest = λ m lt within. second a bs m letter digit not_so lt within;
    }

pub no_sign : (rest : List ℕ) → 0 < length rest → is_letter (get_or rest 0 0) ≡ false → is_ascii_digit (get_or rest 0 0) ≡ false → pair_of rest ≡ None → single_of rest ≡ None → NoToken rest
no_sign [] le letter digit not_so e = absurd (omega arith)
no_sign (a ∷ bs) le letter digit not_so e = each
  where
    each : (m : ℕ) → m ≤ length (a ∷ bs) → kind_of (take m (a ∷ bs)) ≡ None
    each zero within = refl
    each (suc zero) within = kind_sign a [] letter digit ∙ ap signed e
    each (suc (suc m)) within = second a bs (suc (suc m)) letter digit not_so (omega arith) within

-- no digits make a number smaller
pub value_grows : (bs : List ℕ) (n : ℕ) → n ≤ value_from n bs
value_grows [] n = omega arith
value_grows (b ∷ bs) n = let more : 10 * n + (b - 48) ≤ value_from (10 * n + (b - 48)) bs = value_grows bs (10 * n + (b - 48)) in omega arith

pub value_wide : (bs : List ℕ) (n i : ℕ) → i < length bs → value_from n (drop i bs) ≡ value_from 0 bs → (m : ℕ) → m ≤ 10 * n + (get_or bs i 0 - 48) → m ≤ value_from 0 bs
value_wide bs n i lt e m le =
    let step : value_from n (get_or bs i 0 ∷ drop (suc i) bs) ≡ value_from 0 bs = ap (value_from n) (sym (drop-cons bs i 0 lt)) ∙ e in
    let more : 10 * n + (get_or bs i 0 - 48) ≤ value_from (10 * n + (get_or bs i 0 - 48)) (drop (suc i) bs) = value_grows (drop (suc i) bs) (10 * n + (get_or bs i 0 - 48)) in
    omega (arith, step)
