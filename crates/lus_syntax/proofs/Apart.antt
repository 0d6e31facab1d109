-- A token and what may stand behind it: it is cut there.
use Rattle.std.proofs.Common.{◌≡◌, ◌⊎◌, inl, inr, ℕ, zero, suc, ◌<◌, ◌≤◌, Bool, true, false, cond, List, [], ◌∷◌, ◌++◌, length, take, get_or, ◌-◌, refl, sym, ap, ◌∙◌, subst, arith, length-append, true≢false}
use Rattle.std.specs.Prelude.{Option, Some, None, ◌==◌, ◌&&◌}
use Rattle.std.specs.Char.{is_ascii_digit}
use Rattle.std.proofs.Math.Seq.{take-append_seam}
use Rattle.std.proofs.lemmas.Bool.Decides.{nat_tests}
use Rattle.lus_syntax.specs.declared.token.Symbol.{Symbol}
use Rattle.lus_syntax.specs.declared.token.Symbol.TheVariants as sign
use Rattle.lus_syntax.specs.declared.token.TokenKind.{TokenKind}
use Rattle.std.specs.Str.{bytes_eq}
use Rattle.std.proofs.lemmas.Slice.Eq.{bytes_eq-Decides}
use Rattle.lus_syntax.specs.Words.{is_letter, is_part, every, kind_of, signed, sign_of, sign_among, sign_text, signs}
use Rattle.lus_syntax.specs.Cuts.{IsLongest, IsDense, is_blank}
use Rattle.lus_syntax.specs.Phrases.{is_tight}
use Rattle.lus_syntax.proofs.LongestTokens.{kind_no_name, kind_no_digits, kind_sign, longer_sign}

-- a byte that goes on no token but `(`
pub data EndsToken : ℕ → Type 0 where
  space : EndsToken 32
  line_feed : EndsToken 10
  open_paren : EndsToken 40
  close_paren : EndsToken 41
  comma : EndsToken 44
  colon : EndsToken 58
  semicolon : EndsToken 59

abbrev pub IsApart : List ℕ → Type 0
IsApart [] = Unit {0}
IsApart (b ∷ bs) = EndsToken b

abbrev pub NoStar : List ℕ → Type 0
NoStar [] = Unit {0}
NoStar (b ∷ bs) = (b == 42) ≡ false

-- what may follow the bytes of a token
abbrev pub Follows : List ℕ → List ℕ → Type 0
Follows bytes rest = IsApart rest ⊎ ((bytes ≡ 40 ∷ []) × NoStar rest)

no_part : {b : ℕ} → EndsToken b → is_part b ≡ false
no_part space = refl
no_part line_feed = refl
no_part open_paren = refl
no_part close_paren = refl
no_part comma = refl
no_part colon = refl
no_part semicolon = refl

no_digit : {b : ℕ} → EndsToken b → is_ascii_digit b ≡ false
no_digit space = refl
no_digit line_feed = refl
no_digit open_paren = refl
no_digit close_paren = refl
no_digit comma = refl
no_digit colon = refl
no_digit semicolon = refl

no_greater : {b : ℕ} → EndsToken b → (b == 62) ≡ false
no_greater space = refl
no_greater line_feed = refl
no_greater open_paren = refl
no_greater close_paren = refl
no_greater comma = refl
no_greater colon = refl
no_greater semicolon = refl

no_equals : {b : ℕ} → EndsToken b → (b == 61) ≡ false
no_equals space = refl
no_equals line_feed = refl
no_equals open_paren = refl
no_equals close_paren = refl
no_equals comma = refl
no_equals colon = refl
no_equals semicolon = refl

no_minus : {b : ℕ} → EndsToken b → (b == 45) ≡ false
no_minus space = refl
no_minus line_feed = refl
no_minus open_paren = refl
no_minus close_paren = refl
no_minus comma = refl
no_minus colon = refl
no_minus semicolon = refl

no_star : {b : ℕ} → EndsToken b → (b == 42) ≡ false
no_star space = refl
no_star line_feed = refl
no_star open_paren = refl
no_star close_paren = refl
no_star comma = refl
no_star colon = refl
no_star semicolon = refl

-- ---- names and numbers

abbrev FailsFirst : (ℕ → Bool) → List ℕ → Type 0
FailsFirst p [] = Unit {0}
FailsFirst p (b ∷ bs) = p b ≡ false

every_longer : (p : ℕ → Bool) (bs rest : List ℕ) (m : ℕ) → length bs < m → m ≤ length (bs ++ rest) → FailsFirst p rest → every p (take m (bs ++ rest)) ≡ false
every_longer p [] [] m lt le not_so = absurd (omega arith)
every_longer p [] (r ∷ rs) zero lt le not_so = absurd (omega arith)
every_longer p [] (r ∷ rs) (suc m) lt le not_so = rw not_so refl
every_longer p (b ∷ bs) rest zero lt le not_so = absurd (omega arith)
every_longer p (b ∷ bs) rest (suc m) lt le not_so = rw (every_longer p bs rest m (omega arith) (omega arith) not_so) (both (p b))
  where
    both : (c : Bool) → cond c false false ≡ false
    both true = refl
    both false = refl

apart_part : (rest : List ℕ) → IsApart rest → FailsFirst is_part rest
apart_part [] a = tt
apart_part (b ∷ bs) a = no_part a

apart_digit : (rest : List ℕ) → IsApart rest → FailsFirst is_ascii_digit rest
apart_digit [] a = tt
apart_digit (b ∷ bs) a = no_digit a

letter_blank : (b : ℕ) → is_letter b ≡ true → is_blank b ≡ true → ⊥
letter_blank b e f = grind (arith, nat_tests)

digit_blank : (b : ℕ) → is_ascii_digit b ≡ true → is_blank b ≡ true → ⊥
digit_blank b e f = grind (arith, nat_tests)

equal : (a b : ℕ) → (a == b) ≡ true → a ≡ b
equal a b e = grind (arith, nat_tests)

no_letter_at : (a b : ℕ) → is_letter a ≡ false → is_letter b ≡ true → (b == a) ≡ true → ⊥
no_letter_at a b e f g = true≢false (sym f ∙ ap is_letter (equal b a g) ∙ e)

no_digit_at : (a b : ℕ) → is_ascii_digit a ≡ false → is_ascii_digit b ≡ true → (b == a) ≡ true → ⊥
no_digit_at a b e f g = true≢false (sym f ∙ ap is_ascii_digit (equal b a g) ∙ e)

not_true : (b : Bool) → (b ≡ true → ⊥) → b ≡ false
not_true true h = absurd (h refl)
not_true false h = refl

-- a name or a number ends before such a byte
dense_by : (b : ℕ) (rest : List ℕ) → is_blank b ≡ false → (b == 45) ≡ false → (b == 40) ≡ false → IsDense (b ∷ rest)
dense_by b [] e f g = (e, refl, refl)
dense_by b (c ∷ rest) e f g = (e, rw f refl, rw g refl)

longest_of : (bytes rest : List ℕ) (k : TokenKind) → 0 < length bytes → kind_of bytes ≡ Some k → ((m : ℕ) → length bytes < m → m ≤ length (bytes ++ rest) → kind_of (take m (bytes ++ rest)) ≡ None) → IsLongest (bytes ++ rest) (length bytes) k
longest_of bytes rest k some e longer = record {
  within = omega (arith, length-append bytes rest);
  some = some;
  token = ap kind_of (take-append_seam bytes rest) ∙ e;
  longest = longer;
}

abbrev IsCutHere : List ℕ → List ℕ → TokenKind → Type 0
IsCutHere bytes rest k = IsDense (bytes ++ rest) × IsLongest (bytes ++ rest) (length bytes) k

name_ends : (b : ℕ) (bs rest : List ℕ) (k : TokenKind) → is_letter b ≡ true → kind_of (b ∷ bs) ≡ Some k → IsApart rest → IsCutHere (b ∷ bs) rest k
name_ends b bs rest k letter e a = (
  dense_by b (bs ++ rest) (not_true (is_blank b) (letter_blank b letter)) (not_true (b == 45) (no_letter_at 45 b refl letter)) (not_true (b == 40) (no_letter_at 40 b refl letter)),
  longest_of (b ∷ bs) rest k (omega arith) e longer,
)
  where
    longer : (m : ℕ) → length (b ∷ bs) < m → m ≤ length ((b ∷ bs) ++ rest) → kind_of (take m ((b ∷ bs) ++ rest)) ≡ None
    longer zero lt le = absurd (omega arith)
    longer (suc m) lt le = kind_no_name b (take m (bs ++ rest)) letter (every_longer is_part bs rest m (omega arith) (omega arith) (apart_part rest a))

number_ends : (b : ℕ) (bs rest : List ℕ) (k : TokenKind) → is_letter b ≡ false → is_ascii_digit b ≡ true → kind_of (b ∷ bs) ≡ Some k → IsApart rest → IsCutHere (b ∷ bs) rest k
number_ends b bs rest k letter digit e a = (
  dense_by b (bs ++ rest) (not_true (is_blank b) (digit_blank b digit)) (not_true (b == 45) (no_digit_at 45 b refl digit)) (not_true (b == 40) (no_digit_at 40 b refl digit)),
  longest_of (b ∷ bs) rest k (omega arith) e longer,
)
  where
    longer : (m : ℕ) → length (b ∷ bs) < m → m ≤ length ((b ∷ bs) ++ rest) → kind_of (take m ((b ∷ bs) ++ rest)) ≡ None
    longer zero lt le = absurd (omega arith)
    longer (suc m) lt le = kind_no_digits b (take m (bs ++ rest)) letter digit (every_longer is_ascii_digit bs rest m (omega arith) (omega arith) (apart_digit rest a))

-- ---- signs

and_false : (b : Bool) → (b && false) ≡ false
and_false true = refl
and_false false = refl

-- a sign and such a byte are no sign
other_sign : (s : Symbol) (a r : ℕ) → (r == 62) ≡ false → (r == 61) ≡ false → bytes_eq (a ∷ r ∷ []) (sign_text s) ≡ false
other_sign sign.OpenParen a r e f = and_false _
other_sign sign.CloseParen a r e f = and_false _
other_sign sign.OpenBrace a r e f = and_false _
other_sign sign.CloseBrace a r e f = and_false _
other_sign sign.Comma a r e f = and_false _
other_sign sign.Semicolon a r e f = and_false _
other_sign sign.Colon a r e f = and_false _
other_sign sign.Dot a r e f = and_false _
other_sign sign.Equals a r e f = and_false _
other_sign sign.NotEqual a r e f = rw e (and_false _)
other_sign sign.Less a r e f = and_false _
other_sign sign.LessEqual a r e f = rw f (and_false _)
other_sign sign.Greater a r e f = and_false _
other_sign sign.GreaterEqual a r e f = rw f (and_false _)
other_sign sign.Implies a r e f = rw e (and_false _)
other_sign sign.Arrow a r e f = rw e (and_false _)
other_sign sign.Plus a r e f = and_false _
other_sign sign.Minus a r e f = and_false _
other_sign sign.Times a r e f = and_false _

none_with : (ss : List Symbol) (a r : ℕ) → (r == 62) ≡ false → (r == 61) ≡ false → sign_among ss (a ∷ r ∷ []) ≡ None
none_with [] a r e f = refl
none_with (s ∷ ss) a r e f = rw (other_sign s a r e f) (none_with ss a r e f)

-- the bytes that one of these signs is found by
spells : (ss : List Symbol) (bytes : List ℕ) (s : Symbol) → sign_among ss bytes ≡ Some s → bytes ≡ sign_text s
spells [] bytes s e = absurd (cc)
spells (t ∷ ss) bytes s e = go (bytes_eq bytes (sign_text t)) refl e (spells ss bytes s)
  where
    go : (c : Bool) → bytes_eq bytes (sign_text t) ≡ c → sign_among (t ∷ ss) bytes ≡ Some s → (sign_among ss bytes ≡ Some s → bytes ≡ sign_text s) → bytes ≡ sign_text s
    go true c e more = let f : Some t ≡ Some s = (rw c at e) in let g : t ≡ s = cc f in (bytes_eq-Decides bytes (sign_text t)).0 c ∙ ap sign_text g
    go false c e more = more (rw c at e)

dense_sign : (s : Symbol) (rest : List ℕ) → IsApart rest → IsDense (sign_text s ++ rest)
dense_sign sign.OpenParen [] a = (refl, refl, refl)
dense_sign sign.OpenParen (r ∷ rest) a = (refl, refl, no_star a)
dense_sign sign.CloseParen [] a = (refl, refl, refl)
dense_sign sign.CloseParen (r ∷ rest) a = (refl, refl, refl)
dense_sign sign.OpenBrace [] a = (refl, refl, refl)
dense_sign sign.OpenBrace (r ∷ rest) a = (refl, refl, refl)
dense_sign sign.CloseBrace [] a = (refl, refl, refl)
dense_sign sign.CloseBrace (r ∷ rest) a = (refl, refl, refl)
dense_sign sign.Comma [] a = (refl, refl, refl)
dense_sign sign.Comma (r ∷ rest) a = (refl, refl, refl)
dense_sign sign.Semicolon [] a = (refl, refl, refl)
dense_sign sign.Semicolon (r ∷ rest) a = (refl, refl, refl)
dense_sign sign.Colon [] a = (refl, refl, refl)
dense_sign sign.Colon (r ∷ rest) a = (refl, refl, refl)
dense_sign sign.Dot [] a = (refl, refl, refl)
dense_sign sign.Dot (r ∷ rest) a = (refl, refl, refl)
dense_sign sign.Equals [] a = (refl, refl, refl)
dense_sign sign.Equals (r ∷ rest) a = (refl, refl, refl)
dense_sign sign.NotEqual rest a = (refl, refl, refl)
dense_sign sign.Less [] a = (refl, refl, refl)
dense_sign sign.Less (r ∷ rest) a = (refl, refl, refl)
dense_sign sign.LessEqual rest a = (refl, refl, refl)
dense_sign sign.Greater [] a = (refl, refl, refl)
dense_sign sign.Greater (r ∷ rest) a = (refl, refl, refl)
dense_sign sign.GreaterEqual rest a = (refl, refl, refl)
dense_sign sign.Implies rest a = (refl, refl, refl)
dense_sign sign.Arrow rest a = (refl, refl, refl)
dense_sign sign.Plus [] a = (refl, refl, refl)
dense_sign sign.Plus (r ∷ rest) a = (refl, refl, refl)
dense_sign sign.Minus [] a = (refl, refl, refl)
dense_sign sign.Minus (r ∷ rest) a = (refl, no_minus a, refl)
dense_sign sign.Times [] a = (refl, refl, refl)
dense_sign sign.Times (r ∷ rest) a = (refl, refl, refl)

longer_one : (a r : ℕ) (rs : List ℕ) (m : ℕ) → is_letter a ≡ false → is_ascii_digit a ≡ false → sign_of (a ∷ r ∷ []) ≡ None → 1 < m → m ≤ length (a ∷ r ∷ rs) → kind_of (take m (a ∷ r ∷ rs)) ≡ None
longer_one a r rs zero letter digit e lt le = absurd (omega arith)
longer_one a r rs (suc zero) letter digit e lt le = absurd (omega arith)
longer_one a r rs (suc (suc zero)) letter digit e lt le = kind_sign a (r ∷ []) letter digit ∙ ap signed e
longer_one a r rs (suc (suc (suc m))) letter digit e lt le = longer_sign a (r ∷ rs) (suc (suc (suc m))) letter digit (omega arith) le

-- a sign of one byte
one_longer : (a : ℕ) (rest : List ℕ) → is_letter a ≡ false → is_ascii_digit a ≡ false → IsApart rest → (m : ℕ) → 1 < m → m ≤ length (a ∷ rest) → kind_of (take m (a ∷ rest)) ≡ None
unfolding sign_of
one_longer a [] letter digit apart m lt le = absurd (omega arith)
one_longer a (r ∷ rs) letter digit apart m lt le = longer_one a r rs m letter digit (none_with signs a r (no_greater apart) (no_equals apart)) lt le

sign_longer : (s : Symbol) (rest : List ℕ) → IsApart rest → (m : ℕ) → length (sign_text s) < m → m ≤ length (sign_text s ++ rest) → kind_of (take m (sign_text s ++ rest)) ≡ None
sign_longer sign.OpenParen rest a m lt le = one_longer 40 rest refl refl a m lt le
sign_longer sign.CloseParen rest a m lt le = one_longer 41 rest refl refl a m lt le
sign_longer sign.OpenBrace rest a m lt le = one_longer 123 rest refl refl a m lt le
sign_longer sign.CloseBrace rest a m lt le = one_longer 125 rest refl refl a m lt le
sign_longer sign.Comma rest a m lt le = one_longer 44 rest refl refl a m lt le
sign_longer sign.Semicolon rest a m lt le = one_longer 59 rest refl refl a m lt le
sign_longer sign.Colon rest a m lt le = one_longer 58 rest refl refl a m lt le
sign_longer sign.Dot rest a m lt le = one_longer 46 rest refl refl a m lt le
sign_longer sign.Equals rest a m lt le = one_longer 61 rest refl refl a m lt le
sign_longer sign.NotEqual rest a m lt le = longer_sign 60 (62 ∷ rest) m refl refl lt le
sign_longer sign.Less rest a m lt le = one_longer 60 rest refl refl a m lt le
sign_longer sign.LessEqual rest a m lt le = longer_sign 60 (61 ∷ rest) m refl refl lt le
sign_longer sign.Greater rest a m lt le = one_longer 62 rest refl refl a m lt le
sign_longer sign.GreaterEqual rest a m lt le = longer_sign 62 (61 ∷ rest) m refl refl lt le
sign_longer sign.Implies rest a m lt le = longer_sign 61 (62 ∷ rest) m refl refl lt le
sign_longer sign.Arrow rest a m lt le = longer_sign 45 (62 ∷ rest) m refl refl lt le
sign_longer sign.Plus rest a m lt le = one_longer 43 rest refl refl a m lt le
sign_longer sign.Minus rest a m lt le = one_longer 45 rest refl refl a m lt le
sign_longer sign.Times rest a m lt le = one_longer 42 rest refl refl a m lt le

some_bytes : (s : Symbol) → 0 < length (sign_text s)
some_bytes sign.OpenParen = omega arith
some_bytes sign.CloseParen = omega arith
some_bytes sign.OpenBrace = omega arith
some_bytes sign.CloseBrace = omega arith
some_bytes sign.Comma = omega arith
some_bytes sign.Semicolon = omega arith
some_bytes sign.Colon = omega arith
some_bytes sign.Dot = omega arith
some_bytes sign.Equals = omega arith
some_bytes sign.NotEqual = omega arith
some_bytes sign.Less = omega arith
some_bytes sign.LessEqual = omega arith
some_bytes sign.Greater = omega arith
some_bytes sign.GreaterEqual = omega arith
some_bytes sign.Implies = omega arith
some_bytes sign.Arrow = omega arith
some_bytes sign.Plus = omega arith
some_bytes sign.Minus = omega arith
some_bytes sign.Times = omega arith

sign_ends : (s : Symbol) (rest : List ℕ) (k : TokenKind) → kind_of (sign_text s) ≡ Some k → IsApart rest → IsCutHere (sign_text s) rest k
sign_ends s rest k e a = (dense_sign s rest a, longest_of (sign_text s) rest k (some_bytes s) e (sign_longer s rest a))

open_alone : (r : ℕ) → sign_of (40 ∷ r ∷ []) ≡ None
unfolding sign_of
open_alone r = refl

-- the bytes that spell a sign
pub sign_spelled : (bytes : List ℕ) (s : Symbol) → sign_of bytes ≡ Some s → bytes ≡ sign_text s
unfolding sign_of
sign_spelled bytes s e = spells signs bytes s e

-- behind `(` all may stand but `*`
paren_ends : (rest : List ℕ) (k : TokenKind) → kind_of (40 ∷ []) ≡ Some k → NoStar rest → IsCutHere (40 ∷ []) rest k
paren_ends rest k e n = (dense rest n, longest_of (40 ∷ []) rest k (omega arith) e (longer rest))
  where
    dense : (rest : List ℕ) → NoStar rest → IsDense (40 ∷ rest)
    dense [] n = (refl, refl, refl)
    dense (r ∷ rest) n = (refl, refl, n)

    longer : (rest : List ℕ) (m : ℕ) → 1 < m → m ≤ length (40 ∷ rest) → kind_of (take m (40 ∷ rest)) ≡ None
    longer [] m lt le = absurd (omega arith)
    longer (r ∷ rs) m lt le = longer_one 40 r rs m refl refl (open_alone r) lt le

-- a token is cut where what follows doesn't go on with it
pub cut_here : (bytes rest : List ℕ) (k : TokenKind) → kind_of bytes ≡ Some k → Follows bytes rest → IsCutHere bytes rest k
cut_here bytes rest k e (inr p) = subst (λ bytes. IsCutHere bytes rest k) (sym p.0) (paren_ends rest k (ap kind_of (sym p.0) ∙ e) p.1)
cut_here [] rest k e (inl a) = absurd (cc)
cut_here (b ∷ bs) rest k e (inl a) = go (is_letter b) (is_ascii_digit b) refl refl
  where
    sign : (o : Option Symbol) → sign_of (b ∷ bs) ≡ o → signed o ≡ Some k → IsCutHere (b ∷ bs) rest k
    sign None f g = absurd (cc)
    sign (Some s) f g = let is = sign_spelled (b ∷ bs) s f in subst (λ bytes. IsCutHere bytes rest k) (sym is) (sign_ends s rest k (ap kind_of (sym is) ∙ e) a)

    go : (l d : Bool) → is_letter b ≡ l → is_ascii_digit b ≡ d → IsCutHere (b ∷ bs) rest k
    go true d l d' = name_ends b bs rest k l e a
    go false true l d = number_ends b bs rest k l d e a
    go false false l d = sign (sign_of (b ∷ bs)) refl (sym (kind_sign b bs l d) ∙ e)

-- ---- the last byte

last_part : (p : ℕ → Bool) (b : ℕ) (bs : List ℕ) → p b ≡ true → every p bs ≡ true → p (get_or (b ∷ bs) (length bs) 0) ≡ true
last_part p b [] e h = e
last_part p b (c ∷ bs) e h = let q = parts (p c) (every p bs) h in last_part p c bs q.0 q.1
  where
    parts : (p q : Bool) → cond p q false ≡ true → (p ≡ true) × (q ≡ true)
    parts true q e = (refl, e)
    parts false q e = absurd (cc)

last_sign : (s : Symbol) → (get_or (sign_text s) (length (sign_text s) - 1) 0 == 40) ≡ true → sign_text s ≡ 40 ∷ []
last_sign sign.OpenParen e = refl
last_sign sign.CloseParen e = absurd (true≢false (sym e))
last_sign sign.OpenBrace e = absurd (true≢false (sym e))
last_sign sign.CloseBrace e = absurd (true≢false (sym e))
last_sign sign.Comma e = absurd (true≢false (sym e))
last_sign sign.Semicolon e = absurd (true≢false (sym e))
last_sign sign.Colon e = absurd (true≢false (sym e))
last_sign sign.Dot e = absurd (true≢false (sym e))
last_sign sign.Equals e = absurd (true≢false (sym e))
last_sign sign.NotEqual e = absurd (true≢false (sym e))
last_sign sign.Less e = absurd (true≢false (sym e))
last_sign sign.LessEqual e = absurd (true≢false (sym e))
last_sign sign.Greater e = absurd (true≢false (sym e))
last_sign sign.GreaterEqual e = absurd (true≢false (sym e))
last_sign sign.Implies e = absurd (true≢false (sym e))
last_sign sign.Arrow e = absurd (true≢false (sym e))
last_sign sign.Plus e = absurd (true≢false (sym e))
last_sign sign.Minus e = absurd (true≢false (sym e))
last_sign sign.Times e = absurd (true≢false (sym e))

pub some_length : (n : ℕ) → 0 < n → (n == 0) ≡ false
some_length n lt = grind (arith, nat_tests)

-- a token that ends in `(` is no more than that
pub paren_last : (bytes : List ℕ) (k : TokenKind) → kind_of bytes ≡ Some k → is_tight bytes ≡ true → bytes ≡ 40 ∷ []
paren_last [] k e t = absurd (cc)
paren_last (b ∷ bs) k e t = go (is_letter b) (is_ascii_digit b) refl refl
  where
    last : (get_or (b ∷ bs) (length bs) 0 == 40) ≡ true
    last = let n : length (b ∷ bs) - 1 ≡ length bs = omega arith in let z = some_length (length (b ∷ bs)) (omega arith) in rw (z, n) at t

    last_is : get_or (b ∷ bs) (length bs) 0 ≡ 40
    last_is = equal _ 40 last

    some_name : (e' : Bool) → every is_part bs ≡ e' → is_letter b ≡ true → every is_part bs ≡ true
    some_name true f l = f
    some_name false f l = let n = kind_no_name b bs l f in absurd (cc)

    some_digits : (e' : Bool) → every is_ascii_digit bs ≡ e' → is_letter b ≡ false → is_ascii_digit b ≡ true → every is_ascii_digit bs ≡ true
    some_digits true f l d = f
    some_digits false f l d = let n = kind_no_digits b bs l d f in absurd (cc)

    sign : (o : Option Symbol) → sign_of (b ∷ bs) ≡ o → signed o ≡ Some k → b ∷ bs ≡ 40 ∷ []
    sign None f g = absurd (cc)
    sign (Some s) f g =
        let is = sign_spelled (b ∷ bs) s f in
        let n : length bs ≡ length (b ∷ bs) - 1 = omega arith in
        let here : (get_or (b ∷ bs) (length (b ∷ bs) - 1) 0 == 40) ≡ true = ap (λ i. get_or (b ∷ bs) i 0 == 40) (sym n) ∙ last in
        is ∙ last_sign s (subst (λ bytes. (get_or bytes (length bytes - 1) 0 == 40) ≡ true) is here)

    letter_part : is_letter b ≡ true → is_part b ≡ true
    letter_part l = rw l refl

    go : (l d : Bool) → is_letter b ≡ l → is_ascii_digit b ≡ d → b ∷ bs ≡ 40 ∷ []
    go true d l d' = let p = last_part is_part b bs (letter_part l) (some_name (every is_part bs) refl l) in absurd (true≢false (sym p ∙ ap is_part last_is))
    go false true l d = let p = last_part is_ascii_digit b bs d (some_digits (every is_ascii_digit bs) refl l d) in absurd (true≢false (sym p ∙ ap is_ascii_digit last_is))
    go false false l d = sign (sign_of (b ∷ bs)) refl (sym (kind_sign b bs l d) ∙ e)
