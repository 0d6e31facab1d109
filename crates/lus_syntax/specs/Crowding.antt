-- Crowding: more than MOST_COUNTED counted tokens between two semicolons.
use Rattle.std.specs.Prelude.{◌≡◌, ℕ, ◌-◌, ◌≤◌, Bool, true, false, List, take, drop, count_by, Some, slice_get}
use Rattle.std.specs.List.{list_any}
use Rattle.lus_syntax.specs.declared.limits.TheConstants.{MOST_COUNTED}
use Rattle.lus_syntax.specs.declared.token.Token.{Token}
use Rattle.lus_syntax.specs.declared.token.TokenKind.{TokenKind}
use Rattle.lus_syntax.specs.declared.token.TokenKind.TheVariants.{Word, Sign}
use Rattle.lus_syntax.specs.declared.token.Keyword.TheVariants as word
use Rattle.lus_syntax.specs.declared.token.Symbol.TheVariants as sign

-- counted are `(`, `if` and every operator, the sign `=` too
abbrev pub is_counted : TokenKind → Bool
is_counted (Word word.And) = true
is_counted (Word word.Current) = true
is_counted (Word word.Div) = true
is_counted (Word word.Fby) = true
is_counted (Word word.If) = true
is_counted (Word word.Mod) = true
is_counted (Word word.Not) = true
is_counted (Word word.Or) = true
is_counted (Word word.Pre) = true
is_counted (Word word.When) = true
is_counted (Word word.Xor) = true
is_counted (Sign sign.OpenParen) = true
is_counted (Sign sign.Equals) = true
is_counted (Sign sign.NotEqual) = true
is_counted (Sign sign.Less) = true
is_counted (Sign sign.LessEqual) = true
is_counted (Sign sign.Greater) = true
is_counted (Sign sign.GreaterEqual) = true
is_counted (Sign sign.Implies) = true
is_counted (Sign sign.Arrow) = true
is_counted (Sign sign.Plus) = true
is_counted (Sign sign.Minus) = true
is_counted (Sign sign.Times) = true
is_counted _ = false

abbrev pub is_semicolon : TokenKind → Bool
is_semicolon (Sign sign.Semicolon) = true
is_semicolon _ = false

-- the tokens from place `from` up to place `to`, without the token at `to`
abbrev pub stretch : ℕ → ℕ → List Token → List Token
stretch from to tokens = take (to - from) (drop from tokens)

-- the token at this place is counted, and MOST_COUNTED other counted ones of a stretch without `;` stand before it
pub record IsCrowd (tokens : List Token) (place : ℕ) : Type 0 where
  pub token : Token
  pub here : slice_get tokens place ≡ Some token
  pub counted : is_counted token.kind ≡ true
  pub from : ℕ
  pub begins : from ≤ place
  pub whole : list_any (λ t. is_semicolon t.kind) (stretch from place tokens) ≡ false
  pub before : count_by (λ t. is_counted t.kind) (stretch from place tokens) ≡ MOST_COUNTED

-- the least such place
pub record IsLeastCrowd (tokens : List Token) (place : ℕ) : Type 0 where
  pub crowd : IsCrowd tokens place
  pub least : (other : ℕ) → IsCrowd tokens other → place ≤ other
