-- What a whole token is.
use Rattle.std.specs.Prelude.{ℕ, ◌+◌, ◌-◌, ◌*◌, Bool, true, false, ◌||◌, ◌==◌, cond, if◌then◌else◌, List, [], ◌∷◌, Option, Some, None, codes}
use Rattle.std.specs.Char.{is_ascii_digit, is_ascii_alphabetic}
use Rattle.std.specs.Str.{bytes_eq}
use Rattle.lus_syntax.specs.declared.token.Keyword.{Keyword}
use Rattle.lus_syntax.specs.declared.token.Keyword.TheVariants as word
use Rattle.lus_syntax.specs.declared.token.Symbol.{Symbol}
use Rattle.lus_syntax.specs.declared.token.Symbol.TheVariants as sign
use Rattle.lus_syntax.specs.declared.token.TokenKind.{TokenKind}
use Rattle.lus_syntax.specs.declared.token.TokenKind.TheVariants.{Name, Number, Word, Sign}

abbrev pub is_letter : ℕ → Bool
is_letter b = is_ascii_alphabetic b || (b == 95)

abbrev pub is_part : ℕ → Bool
is_part b = is_letter b || is_ascii_digit b

-- each element passes the test
abbrev pub every : (ℕ → Bool) → List ℕ → Bool
every p [] = true
every p (b ∷ bs) = cond (p b) (every p bs) false

-- how each reserved word is spelled
abbrev pub word_text : Keyword → List ℕ
word_text word.And = codes "and"
word_text word.Assert = codes "assert"
word_text word.Bool = codes "bool"
word_text word.Const = codes "const"
word_text word.Current = codes "current"
word_text word.Div = codes "div"
word_text word.Else = codes "else"
word_text word.Enum = codes "enum"
word_text word.False = codes "false"
word_text word.Fby = codes "fby"
word_text word.If = codes "if"
word_text word.Int = codes "int"
word_text word.Let = codes "let"
word_text word.Mod = codes "mod"
word_text word.Node = codes "node"
word_text word.Nor = codes "nor"
word_text word.Not = codes "not"
word_text word.Or = codes "or"
word_text word.Pre = codes "pre"
word_text word.Real = codes "real"
word_text word.Returns = codes "returns"
word_text word.Tel = codes "tel"
word_text word.Then = codes "then"
word_text word.True = codes "true"
word_text word.TypeWord = codes "type"
word_text word.Var = codes "var"
word_text word.When = codes "when"
word_text word.Xor = codes "xor"

abbrev pub words : List Keyword
words = word.And ∷ word.Assert ∷ word.Bool ∷ word.Const ∷ word.Current ∷ word.Div ∷ word.Else ∷ word.Enum ∷ word.False ∷ word.Fby ∷ word.If ∷ word.Int ∷ word.Let ∷ word.Mod ∷ word.Node ∷ word.Nor ∷ word.Not ∷ word.Or ∷ word.Pre ∷ word.Real ∷ word.Returns ∷ word.Tel ∷ word.Then ∷ word.True ∷ word.TypeWord ∷ word.Var ∷ word.When ∷ word.Xor ∷ []

-- the first of these words that the bytes spell
abbrev pub word_among : List Keyword → List ℕ → Option Keyword
word_among [] bytes = None
word_among (k ∷ ks) bytes = if bytes_eq bytes (word_text k) then Some k else word_among ks bytes

-- the reserved word that these bytes spell
unfoldable pub word_of : List ℕ → Option Keyword
word_of bytes = word_among words bytes

abbrev pub name_or : Option Keyword → TokenKind
name_or None = Name
name_or (Some k) = Word k

-- the number that the digits write, behind digits that write n
abbrev pub value_from : ℕ → List ℕ → ℕ
value_from n [] = n
value_from n (b ∷ bs) = value_from (10 * n + (b - 48)) bs

-- the number that the digits write
abbrev pub number_of : List ℕ → ℕ
number_of bytes = value_from 0 bytes

-- how each sign is spelled
abbrev pub sign_text : Symbol → List ℕ
sign_text sign.OpenParen = codes "("
sign_text sign.CloseParen = codes ")"
sign_text sign.OpenBrace = codes "{"
sign_text sign.CloseBrace = codes "}"
sign_text sign.Comma = codes ","
sign_text sign.Semicolon = codes ";"
sign_text sign.Colon = codes ":"
sign_text sign.Dot = codes "."
sign_text sign.Equals = codes "="
sign_text sign.NotEqual = codes "<>"
sign_text sign.Less = codes "<"
sign_text sign.LessEqual = codes "<="
sign_text sign.Greater = codes ">"
sign_text sign.GreaterEqual = codes ">="
sign_text sign.Implies = codes "=>"
sign_text sign.Arrow = codes "->"
sign_text sign.Plus = codes "+"
sign_text sign.Minus = codes "-"
sign_text sign.Times = codes "*"

abbrev pub signs : List Symbol
signs = sign.OpenParen ∷ sign.CloseParen ∷ sign.OpenBrace ∷ sign.CloseBrace ∷ sign.Comma ∷ sign.Semicolon ∷ sign.Colon ∷ sign.Dot ∷ sign.Equals ∷ sign.NotEqual ∷ sign.Less ∷ sign.LessEqual ∷ sign.Greater ∷ sign.GreaterEqual ∷ sign.Implies ∷ sign.Arrow ∷ sign.Plus ∷ sign.Minus ∷ sign.Times ∷ []

-- the first of these signs that the bytes spell
abbrev pub sign_among : List Symbol → List ℕ → Option Symbol
sign_among [] bytes = None
sign_among (s ∷ ss) bytes = if bytes_eq bytes (sign_text s) then Some s else sign_among ss bytes

-- the sign that these bytes spell
unfoldable pub sign_of : List ℕ → Option Symbol
sign_of bytes = sign_among signs bytes

abbrev pub signed : Option Symbol → Option TokenKind
signed None = None
signed (Some s) = Some (Sign s)

-- the token that all of these bytes are
abbrev pub kind_of : List ℕ → Option TokenKind
kind_of [] = None
kind_of (b ∷ bs) =
    cond (is_letter b) (cond (every is_part bs) (Some (name_or (word_of (b ∷ bs)))) None)
    (cond (is_ascii_digit b) (cond (every is_ascii_digit bs) (Some (Number (value_from 0 (b ∷ bs)))) None)
    (signed (sign_of (b ∷ bs))))

-- the sign that the first byte is
abbrev pub single_of : List ℕ → Option Symbol
single_of [] = None
single_of (a ∷ bs) = sign_of (a ∷ [])

-- the sign that the first two bytes are
abbrev pub pair_of : List ℕ → Option Symbol
pair_of [] = None
pair_of (a ∷ []) = None
pair_of (a ∷ b ∷ bs) = sign_of (a ∷ b ∷ [])
