-- Each token that is printed is a token.
use Rattle.std.proofs.Common.{◌≡◌, ℕ, ◌+◌, ◌-◌, ◌*◌, ◌<◌, ◌≤◌, ◌%◌, ◌^◌, Bool, true, false, cond, List, [], ◌∷◌, ◌++◌, length, refl, sym, ap, ◌∙◌, subst, arith, decimal}
use Rattle.std.specs.Prelude.{Option, Some, None}
use Rattle.std.specs.Char.{is_ascii_digit}
use Rattle.std.proofs.lemmas.Fmt.{decimal_by_steps_wide}
use Rattle.std.proofs.lemmas.Bool.Decides.{nat_tests}
use Rattle.lus_syntax.specs.declared.ast.BinOp.{BinOp}
use Rattle.lus_syntax.specs.declared.ast.BinOp.TheVariants as two
use Rattle.lus_syntax.specs.declared.ast.UnOp.{UnOp}
use Rattle.lus_syntax.specs.declared.ast.UnOp.TheVariants as one
use Rattle.lus_syntax.specs.declared.token.Keyword.{Keyword}
use Rattle.lus_syntax.specs.declared.token.Keyword.TheVariants as word
use Rattle.lus_syntax.specs.declared.token.Symbol.{Symbol}
use Rattle.lus_syntax.specs.declared.token.Symbol.TheVariants as sign
use Rattle.lus_syntax.specs.declared.token.TokenKind.{TokenKind}
use Rattle.lus_syntax.specs.declared.token.TokenKind.TheVariants.{Name, Number, Word, Sign}
use Rattle.lus_syntax.specs.Cuts.{IsNarrow, is_blank}
use Rattle.lus_syntax.specs.Grammar.{is_type}
use Rattle.lus_syntax.specs.Words.{is_letter, is_part, every, kind_of, name_or, value_from, word_of, word_text, sign_of, sign_text, signed}
use Rattle.lus_syntax.specs.Phrases.{joined, blank, line, indent, fixed, keyword, symbol, type_name, number, one_kind, two_kind}
use Rattle.lus_syntax.proofs.LongestTokens.{kind_name, kind_no_name, kind_digits, kind_no_digits, kind_sign}
use Rattle.lus_syntax.proofs.Apart.{IsApart, space, line_feed, open_paren, close_paren, comma, colon, semicolon}
use Rattle.lus_syntax.proofs.Spelled.{IsLexeme}

pub word_kind : (k : Keyword) → kind_of (word_text k) ≡ Some (Word k)
unfolding word_of
word_kind word.And = refl
word_kind word.Assert = refl
word_kind word.Bool = refl
word_kind word.Const = refl
word_kind word.Current = refl
word_kind word.Div = refl
word_kind word.Else = refl
word_kind word.Enum = refl
word_kind word.False = refl
word_kind word.Fby = refl
word_kind word.If = refl
word_kind word.Int = refl
word_kind word.Let = refl
word_kind word.Mod = refl
word_kind word.Node = refl
word_kind word.Nor = refl
word_kind word.Not = refl
word_kind word.Or = refl
word_kind word.Pre = refl
word_kind word.Real = refl
word_kind word.Returns = refl
word_kind word.Tel = refl
word_kind word.Then = refl
word_kind word.True = refl
word_kind word.TypeWord = refl
word_kind word.Var = refl
word_kind word.When = refl
word_kind word.Xor = refl

pub sign_kind : (s : Symbol) → kind_of (sign_text s) ≡ Some (Sign s)
unfolding sign_of
sign_kind sign.OpenParen = refl
sign_kind sign.CloseParen = refl
sign_kind sign.OpenBrace = refl
sign_kind sign.CloseBrace = refl
sign_kind sign.Comma = refl
sign_kind sign.Semicolon = refl
sign_kind sign.Colon = refl
sign_kind sign.Dot = refl
sign_kind sign.Equals = refl
sign_kind sign.NotEqual = refl
sign_kind sign.Less = refl
sign_kind sign.LessEqual = refl
sign_kind sign.Greater = refl
sign_kind sign.GreaterEqual = refl
sign_kind sign.Implies = refl
sign_kind sign.Arrow = refl
sign_kind sign.Plus = refl
sign_kind sign.Minus = refl
sign_kind sign.Times = refl

-- blanks before a token
pub record IsLead (lead : List ℕ) : Type 0 where
  pub blanks : every is_blank lead ≡ true
  pub apart : (rest : List ℕ) → IsApart (lead ++ rest)

pub by_blank : IsLead blank
by_blank = record { blanks = refl; apart = λ rest. space }

pub by_line : IsLead line
by_line = record { blanks = refl; apart = λ rest. line_feed }

pub by_indent : IsLead indent
by_indent = record { blanks = refl; apart = λ rest. line_feed }

pub led : (lead bytes : List ℕ) (k : TokenKind) → IsLead lead → kind_of bytes ≡ Some k → IsNarrow k → IsLexeme (record { lead = lead; bytes = bytes; kind = k })
led lead bytes k l e w = record { kind = e; narrow = w; blanks = l.blanks; apart = λ rest. l.apart (bytes ++ rest) }

pub keyword_token : (lead : List ℕ) (k : Keyword) → IsLead lead → IsLexeme (keyword lead k)
keyword_token lead k l = led lead (word_text k) (Word k) l (word_kind k) tt

pub symbol_token : (lead : List ℕ) (s : Symbol) → IsLead lead → IsLexeme (symbol lead s)
symbol_token lead s l = led lead (sign_text s) (Sign s) l (sign_kind s) tt

pub joined_open : IsLexeme (symbol joined sign.OpenParen)
joined_open = record { kind = sign_kind sign.OpenParen; narrow = tt; blanks = refl; apart = λ rest. open_paren }

pub joined_close : IsLexeme (symbol joined sign.CloseParen)
joined_close = record { kind = sign_kind sign.CloseParen; narrow = tt; blanks = refl; apart = λ rest. close_paren }

pub joined_comma : IsLexeme (symbol joined sign.Comma)
joined_comma = record { kind = sign_kind sign.Comma; narrow = tt; blanks = refl; apart = λ rest. comma }

pub joined_colon : IsLexeme (symbol joined sign.Colon)
joined_colon = record { kind = sign_kind sign.Colon; narrow = tt; blanks = refl; apart = λ rest. colon }

pub joined_semicolon : IsLexeme (symbol joined sign.Semicolon)
joined_semicolon = record { kind = sign_kind sign.Semicolon; narrow = tt; blanks = refl; apart = λ rest. semicolon }

pub one_token : (op : UnOp) → IsLexeme (fixed blank (one_kind op))
one_token one.Not = keyword_token blank word.Not by_blank
one_token one.Neg = symbol_token blank sign.Minus by_blank
one_token one.Pre = keyword_token blank word.Pre by_blank
one_token one.Current = keyword_token blank word.Current by_blank

pub two_token : (op : BinOp) → IsLexeme (fixed blank (two_kind op))
two_token two.And = keyword_token blank word.And by_blank
two_token two.Or = keyword_token blank word.Or by_blank
two_token two.Xor = keyword_token blank word.Xor by_blank
two_token two.Imp = symbol_token blank sign.Implies by_blank
two_token two.Eq = symbol_token blank sign.Equals by_blank
two_token two.Ne = symbol_token blank sign.NotEqual by_blank
two_token two.Lt = symbol_token blank sign.Less by_blank
two_token two.Le = symbol_token blank sign.LessEqual by_blank
two_token two.Gt = symbol_token blank sign.Greater by_blank
two_token two.Ge = symbol_token blank sign.GreaterEqual by_blank
two_token two.Add = symbol_token blank sign.Plus by_blank
two_token two.Sub = symbol_token blank sign.Minus by_blank
two_token two.Mul = symbol_token blank sign.Times by_blank
two_token two.Div = keyword_token blank word.Div by_blank
two_token two.Mod = keyword_token blank word.Mod by_blank
two_token two.Arrow = symbol_token blank sign.Arrow by_blank
two_token two.Fby = keyword_token blank word.Fby by_blank
two_token two.When = keyword_token blank word.When by_blank

-- ---- numbers

record Writes (n : ℕ) (ds : List ℕ) : Type 0 where
  digits : every is_ascii_digit ds ≡ true
  some : 0 < length ds
  value : value_from 0 ds ≡ n

digit_is : (n : ℕ) → n < 10 → is_ascii_digit (48 + n) ≡ true
digit_is n lt = grind (arith, nat_tests)

value_more : (ds : List ℕ) (n d : ℕ) → value_from n (ds ++ (d ∷ [])) ≡ 10 * value_from n ds + (d - 48)
value_more [] n d = refl
value_more (b ∷ ds) n d = value_more ds (10 * n + (b - 48)) d

every_more : (ds : List ℕ) (d : ℕ) → every is_ascii_digit ds ≡ true → is_ascii_digit d ≡ true → every is_ascii_digit (ds ++ (d ∷ [])) ≡ true
every_more [] d e f = rw f refl
every_more (b ∷ ds) d e f = let p = parts (is_ascii_digit b) (every is_ascii_digit ds) e in rw (p.0) (every_more ds d p.1 f)
  where
    parts : (p q : Bool) → cond p q false ≡ true → (p ≡ true) × (q ≡ true)
    parts true q e = (refl, e)
    parts false q e = absurd (cc)

writes : (n : ℕ) → n < 10 ^ 64 → Writes n (decimal n)
writes = decimal_by_steps_wide Writes
    (λ n lt. record { digits = rw (digit_is n lt) refl; some = omega arith; value = omega arith })
    (λ n ds le w. record {
      digits = every_more ds (48 + n % 10) w.digits (digit_is (n % 10) (omega arith));
      some = omega (arith, w.some, longer ds (48 + n % 10));
      value = let v = w.value in let m = value_more ds 0 (48 + n % 10) in omega (arith, v, m);
    })
  where
    longer : (ds : List ℕ) (d : ℕ) → length ds ≤ length (ds ++ (d ∷ []))
    longer [] d = omega arith
    longer (b ∷ ds) d = omega (arith, longer ds d)

no_letter : (b : ℕ) → is_ascii_digit b ≡ true → is_letter b ≡ false
no_letter b e = grind (arith, nat_tests)

number_kind : (n : ℕ) (ds : List ℕ) → Writes n ds → kind_of ds ≡ Some (Number n)
number_kind n [] w = let some = w.some in absurd (omega arith)
number_kind n (b ∷ bs) w = let p = parts (is_ascii_digit b) (every is_ascii_digit bs) w.digits in kind_digits b bs (no_letter b p.0) p.0 p.1 ∙ ap (λ v. Some (Number v)) w.value
  where
    parts : (p q : Bool) → cond p q false ≡ true → (p ≡ true) × (q ≡ true)
    parts true q e = (refl, e)
    parts false q e = absurd (cc)

pub number_token : (n : ℕ) → n < 2 ^ 128 → IsLexeme (number n)
number_token n lt = let wide : n < 10 ^ 64 = omega arith in led blank (decimal n) (Number n) by_blank (number_kind n (decimal n) (writes n wide)) lt

-- ---- types

pub type_kind : (bytes : List ℕ) (k : TokenKind) → kind_of bytes ≡ Some k → is_type k ≡ true → k ≡ name_or (word_of bytes)
type_kind [] k e t = absurd (cc)
type_kind (b ∷ bs) k e t = go (is_letter b) (is_ascii_digit b) refl refl
  where
    letter : (p : Bool) → every is_part bs ≡ p → is_letter b ≡ true → k ≡ name_or (word_of (b ∷ bs))
    letter true p l = let n = kind_name b bs l p in cc (e, n)
    letter false p l = let n = kind_no_name b bs l p in absurd (cc)

    digit : (p : Bool) → every is_ascii_digit bs ≡ p → is_letter b ≡ false → is_ascii_digit b ≡ true → k ≡ name_or (word_of (b ∷ bs))
    digit true p l d = let n = kind_digits b bs l d p in let q : Number (value_from 0 (b ∷ bs)) ≡ k = cc (e, n) in absurd (false_true (ap is_type q ∙ t))
      where
        false_true : false ≡ true → ⊥
        false_true e = cc
    digit false p l d = let n = kind_no_digits b bs l d p in absurd (cc)

    sign : (o : Option Symbol) → signed o ≡ Some k → k ≡ name_or (word_of (b ∷ bs))
    sign None f = absurd (cc)
    sign (Some s) f = let q : Sign s ≡ k = cc f in absurd (false_true (ap is_type q ∙ t))
      where
        false_true : false ≡ true → ⊥
        false_true e = cc

    go : (l d : Bool) → is_letter b ≡ l → is_ascii_digit b ≡ d → k ≡ name_or (word_of (b ∷ bs))
    go true d l d' = letter (every is_part bs) refl l
    go false true l d = digit (every is_ascii_digit bs) refl l d
    go false false l d = sign (sign_of (b ∷ bs)) (sym (kind_sign b bs l d) ∙ e)

pub type_token : (bytes : List ℕ) (k : TokenKind) → kind_of bytes ≡ Some k → is_type k ≡ true → IsLexeme (type_name bytes)
type_token bytes k e t =
    let is = type_kind bytes k e t in
    led blank bytes (name_or (word_of bytes)) by_blank (e ∙ ap Some is) (subst IsNarrow is (narrow k t))
  where
    narrow : (k : TokenKind) → is_type k ≡ true → IsNarrow k
    narrow Name t = tt
    narrow (Number n) t = absurd (cc)
    narrow (Word w) t = tt
    narrow (Sign s) t = tt
