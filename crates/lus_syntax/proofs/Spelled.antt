-- The tokens of a printed text are those that were printed.
use Rattle.std.proofs.Common.{◌≡◌, inl, inr, ℕ, ◌+◌, ◌-◌, ◌<◌, ◌≤◌, Bool, true, false, List, [], ◌∷◌, ◌++◌, length, take, drop, get_or, refl, sym, ap, ◌∙◌, subst, arith, append_assoc, length-append, length-drop}
use Rattle.std.specs.Prelude.{Some, ◌==◌, ◌&&◌, not, if◌then◌else◌, slice_index}
use Rattle.std.proofs.lemmas.List.{drop-drop}
use Rattle.std.proofs.Math.Seq.{take-append_seam, drop-append_seam, get_or-append_right}
use Rattle.lus_syntax.specs.declared.token.Token.{Token}
use Rattle.lus_syntax.specs.declared.token.TokenKind.{TokenKind}
use Rattle.lus_syntax.specs.Words.{kind_of, every}
use Rattle.lus_syntax.specs.Cuts.{IsNarrow, IsLongest, IsDense, Skips, blank, Cuts, nothing, skip, token, is_blank}
use Rattle.lus_syntax.specs.Grammar.{spelling}
use Rattle.lus_syntax.specs.Phrases.{Lexeme, write_one, written, gap, is_tight, line}
use Rattle.lus_syntax.proofs.Apart.{line_feed, IsApart, NoStar, Follows, cut_here, paren_last, some_length}

-- a token that can be printed
pub record IsLexeme (x : Lexeme) : Type 0 where
  pub kind : kind_of x.bytes ≡ Some x.kind
  pub narrow : IsNarrow x.kind
  pub blanks : every is_blank x.lead ≡ true
  pub apart : (rest : List ℕ) → IsApart (x.lead ++ (x.bytes ++ rest))

abbrev pub AreLexemes : List Lexeme → Type 0
AreLexemes [] = Unit {0}
AreLexemes (x ∷ xs) = IsLexeme x × AreLexemes xs

pub all_append : (xs ys : List Lexeme) → AreLexemes xs → AreLexemes ys → AreLexemes (xs ++ ys)
all_append [] ys h k = k
all_append (x ∷ xs) ys h k = (h.0, all_append xs ys h.1 k)

-- what is printed behind a text that is tight or not
abbrev pub text_from : Bool → List Lexeme → List ℕ
text_from tight [] = line
text_from tight (x ∷ xs) = gap tight x.lead x.bytes ++ (x.bytes ++ text_from (is_tight x.bytes) xs)

some_bytes : (bytes : List ℕ) (k : TokenKind) → kind_of bytes ≡ Some k → 0 < length bytes
some_bytes [] k e = absurd (cc)
some_bytes (b ∷ bs) k e = omega arith

-- the end of a text is that of its last token
tight_end : (out bytes : List ℕ) → 0 < length bytes → is_tight (out ++ bytes) ≡ is_tight bytes
tight_end out bytes lt =
    let l = length-append out bytes in
    let last : get_or (out ++ bytes) (length (out ++ bytes) - 1) 0 ≡ get_or bytes (length bytes - 1) 0 =
    get_or-append_right out bytes (length (out ++ bytes) - 1) 0 (omega arith) ∙ ap (λ i. get_or bytes i 0) (omega arith) in
    go last
  where
    go : get_or (out ++ bytes) (length (out ++ bytes) - 1) 0 ≡ get_or bytes (length bytes - 1) 0 → is_tight (out ++ bytes) ≡ is_tight bytes
    go e = rw (some_length (length (out ++ bytes)) (omega (arith, length-append out bytes)), some_length (length bytes) lt, e) refl

pub written_text : (out : List ℕ) (xs : List Lexeme) → AreLexemes xs → written out xs ++ line ≡ out ++ text_from (is_tight out) xs
unfolding write_one
written_text out [] h = refl
written_text out (x ∷ xs) h =
    let g = gap (is_tight out) x.lead x.bytes in
    let tight : is_tight ((out ++ g) ++ x.bytes) ≡ is_tight x.bytes = tight_end (out ++ g) x.bytes (some_bytes x.bytes x.kind h.0.kind) in
    written_text ((out ++ g) ++ x.bytes) xs h.1 ∙ ap (λ t. ((out ++ g) ++ x.bytes) ++ text_from t xs) tight ∙ append_assoc (out ++ g) x.bytes (text_from (is_tight x.bytes) xs) ∙ append_assoc out g (x.bytes ++ text_from (is_tight x.bytes) xs)

-- ---- what follows a token

-- a gap is blanks
gap_blank : (tight : Bool) (x : Lexeme) → IsLexeme x → every is_blank (gap tight x.lead x.bytes) ≡ true
gap_blank false x h = h.blanks
gap_blank true x h = go (slice_index x.bytes 0 == 42)
  where
    go : (star : Bool) → every is_blank (if true && not star then [] else x.lead) ≡ true
    go true = h.blanks
    go false = refl

follows_loose : (bytes : List ℕ) (xs : List Lexeme) → AreLexemes xs → Follows bytes (text_from false xs)
follows_loose bytes [] h = inl line_feed
follows_loose bytes (x ∷ xs) h = inl (h.0.apart (text_from (is_tight x.bytes) xs))

follows_tight : (bytes : List ℕ) (xs : List Lexeme) → bytes ≡ 40 ∷ [] → AreLexemes xs → Follows bytes (text_from true xs)
follows_tight bytes [] is h = inl line_feed
follows_tight bytes (x ∷ xs) is h = go (slice_index x.bytes 0 == 42) refl
  where
    first : (ys rest : List ℕ) (k : TokenKind) → kind_of ys ≡ Some k → (slice_index ys 0 == 42) ≡ false → NoStar (ys ++ rest)
    first [] rest k e f = absurd (cc)
    first (y ∷ ys) rest k e f = f

    go : (star : Bool) → (slice_index x.bytes 0 == 42) ≡ star → Follows bytes ((if true && not star then [] else x.lead) ++ (x.bytes ++ text_from (is_tight x.bytes) xs))
    go true e = inl (h.0.apart (text_from (is_tight x.bytes) xs))
    go false e = inr (is, first x.bytes (text_from (is_tight x.bytes) xs) x.kind h.0.kind e)

follows : (bytes : List ℕ) (k : TokenKind) (xs : List Lexeme) → kind_of bytes ≡ Some k → AreLexemes xs → Follows bytes (text_from (is_tight bytes) xs)
follows bytes k xs e h = go (is_tight bytes) refl
  where
    go : (t : Bool) → is_tight bytes ≡ t → Follows bytes (text_from t xs)
    go false f = follows_loose bytes xs h
    go true f = follows_tight bytes xs (paren_last bytes k e f) h

-- ---- cutting

-- tokens that are spelled so
pub data Spells (text : List ℕ) : List Token → List Lexeme → Type 0 where
  none : Spells text [] []
  more : {ts : List Token} {x : Lexeme} {xs : List Lexeme} (t : Token)
      → t.kind ≡ x.kind → spelling text t ≡ x.bytes → Spells text ts xs → Spells text (t ∷ ts) (x ∷ xs)

pub record IsCutAs (text : List ℕ) (at : ℕ) (xs : List Lexeme) : Type 0 where
  pub tokens : List Token
  pub cut : Cuts text at tokens (length text)
  pub spelled : Spells text tokens xs

drop_on : (text a b : List ℕ) (at : ℕ) → drop at text ≡ a ++ b → drop (at + length a) text ≡ b
drop_on text a b at e = sym (drop-drop (length a) at text) ∙ ap (drop (length a)) e ∙ drop-append_seam a b

within_on : (text a b : List ℕ) (at : ℕ) → at ≤ length text → drop at text ≡ a ++ b → at + length a ≤ length text
within_on text a b at le e = let l = ap length e in omega (arith, l, length-drop at text, length-append a b)

skip_blanks : (text a b : List ℕ) (at to : ℕ) (ts : List Token) → every is_blank a ≡ true → drop at text ≡ a ++ b → Cuts text (at + length a) ts to → Cuts text at ts to
skip_blanks text [] b at to ts h e c = let z : at + 0 ≡ at = omega arith in subst (λ at. Cuts text at ts to) z c
skip_blanks text (x ∷ a) b at to ts h e c =
    let p = parts (is_blank x) (every is_blank a) h in
    let same : at + 1 + length a ≡ at + length (x ∷ a) = omega arith in
    skip 1 (subst (λ r. Skips r 1) (sym e) (blank p.0)) (skip_blanks text a b (at + 1) to ts p.1 (drop_on text (x ∷ []) (a ++ b) at e) (subst (λ at. Cuts text at ts to) (sym same) c))
  where
    parts : (p q : Bool) → (if p then q else false) ≡ true → (p ≡ true) × (q ≡ true)
    parts true q e = (refl, e)
    parts false q e = absurd (cc)

one_token : (text bytes rest : List ℕ) (at : ℕ) (x : Lexeme) → drop at text ≡ x.bytes ++ rest → spelling text (record { kind = x.kind; start = at; «end» = at + length x.bytes }) ≡ x.bytes
one_token text bytes rest at x e =
    let len : at + length x.bytes - at ≡ length x.bytes = omega arith in
    ap (λ n. take n (drop at text)) len ∙ ap (take (length x.bytes)) e ∙ take-append_seam x.bytes rest

pub cut_from : (text : List ℕ) (tight : Bool) (at : ℕ) (xs : List Lexeme) → AreLexemes xs → at ≤ length text → drop at text ≡ text_from tight xs → IsCutAs text at xs
cut_from text tight at [] h le e =
    let l = ap length e in
    let all : at + 1 ≡ length text = omega (arith, l, length-drop at text) in
    record { tokens = []; cut = skip 1 (subst (λ r. Skips r 1) (sym e) (blank refl)) (subst (λ n. Cuts text (at + 1) [] n) all nothing); spelled = none }
cut_from text tight at (x ∷ xs) h le e =
    let g = gap tight x.lead x.bytes in
    let start = at + length g in
    let rest = text_from (is_tight x.bytes) xs in
    let here : drop start text ≡ x.bytes ++ rest = drop_on text g (x.bytes ++ rest) at e in
    let fits : start ≤ length text = within_on text g (x.bytes ++ rest) at le e in
    let next = cut_from text (is_tight x.bytes) (start + length x.bytes) xs h.1 (within_on text x.bytes rest start fits here) (drop_on text x.bytes rest start here) in
    let cut = cut_here x.bytes rest x.kind h.0.kind (follows x.bytes x.kind xs h.0.kind h.1) in
    record {
      tokens = record { kind = x.kind; start = start; «end» = start + length x.bytes } ∷ next.tokens;
      cut = skip_blanks text g (x.bytes ++ rest) at (length text) _ (gap_blank tight x h.0) e
          (token (length x.bytes) x.kind (subst IsDense (sym here) cut.0) (subst (λ r. IsLongest r (length x.bytes) x.kind) (sym here) cut.1) h.0.narrow next.cut);
      spelled = more _ refl (one_token text x.bytes rest start x here) next.spelled;
    }

-- ---- taking spellings apart

pub record First (text : List ℕ) (ts : List Token) (x : Lexeme) (xs : List Lexeme) : Type 0 where
  pub head : Token
  pub tail : List Token
  pub whole : ts ≡ head ∷ tail
  pub kind : head.kind ≡ x.kind
  pub spelled : spelling text head ≡ x.bytes
  pub rest : Spells text tail xs

pub first : {text : List ℕ} {ts : List Token} {x : Lexeme} {xs : List Lexeme} → Spells text ts (x ∷ xs) → First text ts x xs
first (more t k s r) = record { head = t; tail = _; whole = refl; kind = k; spelled = s; rest = r }

pub last : {text : List ℕ} {ts : List Token} → Spells text ts [] → ts ≡ []
last none = refl

pub record Parts (text : List ℕ) (ts : List Token) (xs ys : List Lexeme) : Type 0 where
  pub front : List Token
  pub back : List Token
  pub whole : ts ≡ front ++ back
  pub before : Spells text front xs
  pub behind : Spells text back ys

pub parts : (text : List ℕ) (ts : List Token) (xs ys : List Lexeme) → Spells text ts (xs ++ ys) → Parts text ts xs ys
parts text ts [] ys s = record { front = []; back = ts; whole = refl; before = none; behind = s }
parts text ts (x ∷ xs) ys s =
    let f = first s in
    let p = parts text f.tail xs ys f.rest in
    record {
      front = f.head ∷ p.front;
      back = p.back;
      whole = f.whole ∙ ap (λ us. f.head ∷ us) p.whole;
      before = more f.head f.kind f.spelled p.before;
      behind = p.behind;
    }

-- ---- the tokens of a text that is cut

pub record IsToken (text : List ℕ) (t : Token) : Type 0 where
  pub kind : kind_of (spelling text t) ≡ Some t.kind
  pub narrow : IsNarrow t.kind

abbrev pub AreTokens : List ℕ → List Token → Type 0
AreTokens text [] = Unit {0}
AreTokens text (t ∷ ts) = IsToken text t × AreTokens text ts

pub apart : (text : List ℕ) (ts us : List Token) → AreTokens text (ts ++ us) → AreTokens text ts × AreTokens text us
apart text [] us h = (tt, h)
apart text (t ∷ ts) us h = let p = apart text ts us h.1 in ((h.0, p.0), p.1)

pub cut_tokens : {text : List ℕ} {at to : ℕ} {ts : List Token} → Cuts text at ts to → AreTokens text ts
cut_tokens nothing = tt
cut_tokens (skip n s c) = cut_tokens c
cut_tokens {text} {at} (token n kind d l w c) = (record { kind = ap (λ m. kind_of (take m (drop at text))) (len at n) ∙ l.token; narrow = w }, cut_tokens c)
  where
    len : (at n : ℕ) → at + n - at ≡ n
    len at n = omega arith
