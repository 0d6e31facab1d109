-- How a text is cut into tokens, blanks and comments, and why it can't be.
use Rattle.std.specs.Prelude.{◌≡◌, ◌≢◌, ℕ, ◌+◌, ◌<◌, ◌≤◌, ◌^◌, Bool, true, false, ◌&&◌, ◌||◌, ◌==◌, List, [], ◌∷◌, length, take, drop, slice_index, Some, None}
use Rattle.lus_syntax.specs.declared.tokens.lexer.LexFault.{LexFault}
use Rattle.lus_syntax.specs.declared.tokens.lexer.LexFault.TheVariants.{BadByte, OpenComment, WideLiteral, Memory}
use Rattle.lus_syntax.specs.declared.token.Token.{Token}
use Rattle.lus_syntax.specs.declared.token.TokenKind.{TokenKind}
use Rattle.lus_syntax.specs.declared.token.TokenKind.TheVariants.{Name, Number, Word, Sign}
use Rattle.lus_syntax.specs.Words.{kind_of}

-- the first n bytes are a token of this kind, and no more bytes are a token
pub record IsLongest (rest : List ℕ) (n : ℕ) (kind : TokenKind) : Type 0 where
  pub within : n ≤ length rest
  pub some : 0 < n
  pub token : kind_of (take n rest) ≡ Some kind
  pub longest : (m : ℕ) → n < m → m ≤ length rest → kind_of (take m rest) ≡ None

-- a number fits 128 bits
abbrev pub IsNarrow : TokenKind → Type 0
IsNarrow (Number v) = v < 2 ^ 128
IsNarrow Name = Unit {0}
IsNarrow (Word w) = Unit {0}
IsNarrow (Sign s) = Unit {0}

-- no front is a token
abbrev pub NoToken : List ℕ → Type 0
NoToken rest = (n : ℕ) → n ≤ length rest → kind_of (take n rest) ≡ None

-- space, tab, carriage return, line feed, form feed
abbrev pub is_blank : ℕ → Bool
is_blank b = (b == 32) || ((b == 9) || ((b == 13) || ((b == 10) || (b == 12))))

abbrev pub is_blank_first : List ℕ → Bool
is_blank_first [] = false
is_blank_first (b ∷ bs) = is_blank b

-- these two bytes stand at the front
abbrev pub begins : ℕ → ℕ → List ℕ → Bool
begins a b [] = false
begins a b (x ∷ []) = false
begins a b (x ∷ y ∷ rest) = (x == a) && (y == b)

-- `--`
abbrev pub opens_line : List ℕ → Bool
opens_line rest = begins 45 45 rest

-- `(*`
abbrev pub opens_block : List ℕ → Bool
opens_block rest = begins 40 42 rest

-- `*)`
abbrev pub closes_block : List ℕ → Bool
closes_block rest = begins 42 41 rest

-- the first n bytes have no line feed, and one follows, or the text ends
pub record IsLine (rest : List ℕ) (n : ℕ) : Type 0 where
  pub within : n ≤ length rest
  pub inside : (k : ℕ) → k < n → slice_index rest k ≡ 10 → ⊥
  pub ends : n < length rest → slice_index rest n ≡ 10

-- the first `*)` stands behind n bytes
pub record IsClose (rest : List ℕ) (n : ℕ) : Type 0 where
  pub closes : closes_block (drop n rest) ≡ true
  pub first : (k : ℕ) → k < n → closes_block (drop k rest) ≡ false

-- the first n bytes are a blank or a comment; the line feed behind a line comment is a blank
pub data Skips (rest : List ℕ) : ℕ → Type 0 where
  blank : is_blank_first rest ≡ true → Skips rest 1
  line : (n : ℕ) → opens_line rest ≡ true → IsLine (drop 2 rest) n → Skips rest (2 + n)
  block : (n : ℕ) → opens_block rest ≡ true → IsClose (drop 2 rest) n → Skips rest (4 + n)

-- neither a blank nor a comment begins here
abbrev pub IsDense : List ℕ → Type 0
IsDense rest = (is_blank_first rest ≡ false) × (opens_line rest ≡ false) × (opens_block rest ≡ false)

-- the text from byte «at» to byte «to» is blanks, comments and these tokens
pub data Cuts (text : List ℕ) : ℕ → List Token → ℕ → Type 0 where
  nothing : {at : ℕ} → Cuts text at [] at
  skip : {at to : ℕ} {ts : List Token} (n : ℕ) → Skips (drop at text) n → Cuts text (at + n) ts to → Cuts text at ts to
  token : {at to : ℕ} {ts : List Token} (n : ℕ) (kind : TokenKind) → IsDense (drop at text) → IsLongest (drop at text) n kind → IsNarrow kind → Cuts text (at + n) ts to → Cuts text at (record { kind = kind; start = at; «end» = at + n } ∷ ts) to

-- the text is cut up to this byte
pub record IsCutTo (text : List ℕ) (at : ℕ) : Type 0 where
  pub tokens : List Token
  pub cut : Cuts text 0 tokens at
  pub within : at < length text

-- a byte that begins no token, blank or comment
abbrev pub IsBadByte : List ℕ → Type 0
IsBadByte rest = IsDense rest × NoToken rest

-- a `(*` without a `*)` behind it
abbrev pub IsOpenComment : List ℕ → Type 0
IsOpenComment rest = (opens_block rest ≡ true) × ((n : ℕ) → closes_block (drop n (drop 2 rest)) ≡ false)

-- a number that doesn't fit 128 bits
abbrev pub IsWideLiteral : List ℕ → Type 0
IsWideLiteral rest = IsDense rest × (n : ℕ) × (v : ℕ) × IsLongest rest n (Number v) × (2 ^ 128 ≤ v)

-- the text is cut up to the fault's place, and there stands its cause
abbrev pub Fails : List ℕ → LexFault → Type 0
Fails text (BadByte at) = IsCutTo text at × IsBadByte (drop at text)
Fails text (OpenComment at) = IsCutTo text at × IsOpenComment (drop at text)
Fails text (WideLiteral at) = IsCutTo text at × IsWideLiteral (drop at text)
Fails text Memory = Unit {0}

abbrev pub IsCutOnce : List ℕ → Type 0
IsCutOnce text = (ts us : List Token) → Cuts text 0 ts (length text) → Cuts text 0 us (length text) → ts ≡ us

-- where a fault stands the text can't be cut
abbrev pub IsUncutAtFault : List ℕ → Type 0
IsUncutAtFault text = (fault : LexFault) (ts : List Token) → Fails text fault → Cuts text 0 ts (length text) → fault ≡ Memory

abbrev pub IsOneFault : List ℕ → Type 0
IsOneFault text = (fault other : LexFault) → fault ≢ Memory → other ≢ Memory → Fails text fault → Fails text other → fault ≡ other
