-- The tokens that are printed for a tree, and the blanks between them.
use Rattle.std.specs.Prelude.{◌≡◌, ℕ, ◌-◌, Bool, true, false, not, ◌&&◌, ◌||◌, ◌==◌, nat_le, if◌then◌else◌, List, [], ◌∷◌, ◌++◌, length, take, slice_index, decimal, Option, Some, None}
use Rattle.lus_syntax.specs.declared.token.Keyword.{Keyword}
use Rattle.lus_syntax.specs.declared.token.Keyword.TheVariants as word
use Rattle.lus_syntax.specs.declared.token.Symbol.{Symbol}
use Rattle.lus_syntax.specs.declared.token.Symbol.TheVariants as sign
use Rattle.lus_syntax.specs.declared.token.TokenKind.{TokenKind}
use Rattle.lus_syntax.specs.declared.token.TokenKind.TheVariants as kind
use Rattle.lus_syntax.specs.declared.ast.Ast.{Ast}
use Rattle.lus_syntax.specs.declared.ast.BinOp.{BinOp}
use Rattle.lus_syntax.specs.declared.ast.BinOp.TheVariants as two
use Rattle.lus_syntax.specs.declared.ast.Decl.{Decl}
use Rattle.lus_syntax.specs.declared.ast.Decl.TheVariants.{TypeDecl, ConstDecl, NodeDecl}
use Rattle.lus_syntax.specs.declared.ast.Expr.{Expr, fold-Expr}
use Rattle.lus_syntax.specs.declared.ast.ExprKind.TheOpen.{ExprKind-F, Name, Number, Truth, One, Two, Cond, Call}
use Rattle.lus_syntax.specs.declared.ast.Group.{Group}
use Rattle.lus_syntax.specs.declared.ast.Item.{Item}
use Rattle.lus_syntax.specs.declared.ast.Item.TheVariants.{Assert, Equation}
use Rattle.lus_syntax.specs.declared.ast.Spot.{Spot}
use Rattle.lus_syntax.specs.declared.ast.UnOp.{UnOp}
use Rattle.lus_syntax.specs.declared.ast.UnOp.TheVariants as one
use Rattle.lus_syntax.specs.declared.operators.Grouping.TheVariants.{Alone}
use Rattle.lus_syntax.specs.declared.operators.Infix.{Infix}
use Rattle.lus_syntax.specs.declared.operators.Prefix.{Prefix}
use Rattle.lus_syntax.specs.Operators.{infix_of, prefix_of, left_rank, right_rank}
use Rattle.lus_syntax.specs.Words.{word_of, word_text, sign_text, name_or}

-- a token to be printed: the blanks before it, its bytes, and what it is
pub record Lexeme : Type 0 where
  pub lead : List ℕ
  pub bytes : List ℕ
  pub kind : TokenKind

abbrev pub joined : List ℕ
joined = []

abbrev pub blank : List ℕ
blank = 32 ∷ []

abbrev pub line : List ℕ
line = 10 ∷ []

abbrev pub indent : List ℕ
indent = 10 ∷ 32 ∷ 32 ∷ []

-- nothing or a `(` stands at the end: no blanks follow it
abbrev pub is_tight : List ℕ → Bool
is_tight out = (length out == 0) || (slice_index out (length out - 1) == 40)

-- the blanks before a token; a `*` keeps them behind `(`, with which it would open a comment
abbrev pub gap : Bool → List ℕ → List ℕ → List ℕ
gap tight lead bytes = if tight && not (slice_index bytes 0 == 42) then [] else lead

-- the text with one token more
unfoldable pub write_one : List ℕ → List ℕ → List ℕ → List ℕ
write_one out lead bytes = (out ++ gap (is_tight out) lead bytes) ++ bytes

-- the text with these tokens more
abbrev pub written : List ℕ → List Lexeme → List ℕ
written out [] = out
written out (x ∷ xs) = written (write_one out x.lead x.bytes) xs

-- a text begins with the other
pub record Extends (old new : List ℕ) : Type 0 where
  pub kept : take (length old) new ≡ old

-- ---- tokens

abbrev pub kind_text : TokenKind → List ℕ
kind_text (kind.Word k) = word_text k
kind_text (kind.Sign s) = sign_text s
kind_text kind.Name = []
kind_text (kind.Number n) = []

-- a reserved word or a sign
abbrev pub fixed : List ℕ → TokenKind → Lexeme
fixed lead k = record { lead = lead; bytes = kind_text k; kind = k }

abbrev pub keyword : List ℕ → Keyword → Lexeme
keyword lead k = record { lead = lead; bytes = word_text k; kind = kind.Word k }

abbrev pub symbol : List ℕ → Symbol → Lexeme
symbol lead s = record { lead = lead; bytes = sign_text s; kind = kind.Sign s }

abbrev pub name : List ℕ → List ℕ → Lexeme
name lead text = record { lead = lead; bytes = text; kind = kind.Name }

-- `bool`, `int`, `real` or a name
abbrev pub type_name : List ℕ → Lexeme
type_name text = record { lead = blank; bytes = text; kind = name_or (word_of text) }

abbrev pub number : ℕ → Lexeme
number n = record { lead = blank; bytes = decimal n; kind = kind.Number n }

abbrev pub in_parens : List ℕ → List Lexeme → List Lexeme
in_parens lead xs = symbol lead sign.OpenParen ∷ (xs ++ symbol joined sign.CloseParen ∷ [])

-- ---- expressions

abbrev pub truth_word : Bool → Keyword
truth_word true = word.True
truth_word false = word.False

abbrev pub one_kind : UnOp → TokenKind
one_kind one.Not = kind.Word word.Not
one_kind one.Neg = kind.Sign sign.Minus
one_kind one.Pre = kind.Word word.Pre
one_kind one.Current = kind.Word word.Current

abbrev pub two_kind : BinOp → TokenKind
two_kind two.And = kind.Word word.And
two_kind two.Or = kind.Word word.Or
two_kind two.Xor = kind.Word word.Xor
two_kind two.Imp = kind.Sign sign.Implies
two_kind two.Eq = kind.Sign sign.Equals
two_kind two.Ne = kind.Sign sign.NotEqual
two_kind two.Lt = kind.Sign sign.Less
two_kind two.Le = kind.Sign sign.LessEqual
two_kind two.Gt = kind.Sign sign.Greater
two_kind two.Ge = kind.Sign sign.GreaterEqual
two_kind two.Add = kind.Sign sign.Plus
two_kind two.Sub = kind.Sign sign.Minus
two_kind two.Mul = kind.Sign sign.Times
two_kind two.Div = kind.Word word.Div
two_kind two.Mod = kind.Word word.Mod
two_kind two.Arrow = kind.Sign sign.Arrow
two_kind two.Fby = kind.Word word.Fby
two_kind two.When = kind.Word word.When

abbrev pub rank_or : Option Prefix → ℕ
rank_or None = 0
rank_or (Some op) = op.rank

abbrev pub one_rank : UnOp → ℕ
one_rank op = rank_or (prefix_of (one_kind op))

abbrev pub infix_or : BinOp → Option Infix → Infix
infix_or op None = record { rank = 0; grouping = Alone; op = op }
infix_or op (Some i) = i

-- the operator in the table of operators
abbrev pub infix_for : BinOp → Infix
infix_for op = infix_or op (infix_of (two_kind op))

abbrev pub is_pre : UnOp → Bool
is_pre one.Pre = true
is_pre one.Not = false
is_pre one.Neg = false
is_pre one.Current = false

abbrev pub is_not : UnOp → Bool
is_not one.Not = true
is_not one.Pre = false
is_not one.Neg = false
is_not one.Current = false

-- what is printed for an expression, its rank, whether it ends open, and whether it is a chain of
-- `not`s before an operand of rank 1 or in parentheses, which may stand behind `pre`
pub record Phrase : Type 0 where
  pub lexemes : List Lexeme
  pub rank : ℕ
  pub is_open : Bool
  pub is_nots : Bool

-- whether an operand stands without parentheses
abbrev pub fits_one : UnOp → Phrase → Bool
fits_one op a = nat_le a.rank (one_rank op) || (is_pre op && a.is_nots)

abbrev pub fits_left : BinOp → Phrase → Bool
fits_left op a = not a.is_open && nat_le a.rank (left_rank (infix_for op))

abbrev pub fits_right : BinOp → Phrase → Bool
fits_right op b = nat_le b.rank (right_rank (infix_for op))

abbrev pub operand : Bool → Phrase → List Lexeme
operand true a = a.lexemes
operand false a = in_parens blank a.lexemes

-- an argument, behind a comma if it isn't the first
abbrev pub argument : Bool → Phrase → List Lexeme
argument true a = symbol joined sign.Comma ∷ a.lexemes
argument false a = a.lexemes

abbrev pub arguments : Bool → List Phrase → List Lexeme
arguments later [] = []
arguments later (a ∷ as') = argument later a ++ arguments true as'

abbrev pub atom : Lexeme → Phrase
atom x = record { lexemes = x ∷ []; rank = 0; is_open = false; is_nots = false }

abbrev pub level : ExprKind-F Phrase Phrase → Phrase
level (Name text) = atom (name blank text)
level (Number n) = atom (number n)
level (Truth b) = atom (keyword blank (truth_word b))
level (One op a) = record {
  lexemes = fixed blank (one_kind op) ∷ operand (fits_one op a) a;
  rank = one_rank op;
  is_open = fits_one op a && a.is_open;
  is_nots = is_not op && ((nat_le a.rank 1 || not (nat_le a.rank (one_rank op))) || a.is_nots);
}
level (Two op a b) = record {
  lexemes = operand (fits_left op a) a ++ fixed blank (two_kind op) ∷ operand (fits_right op b) b;
  rank = (infix_for op).rank;
  is_open = fits_right op b && b.is_open;
  is_nots = false;
}
level (Cond a b c) = record {
  lexemes = keyword blank word.If ∷ (a.lexemes ++ keyword blank word.Then ∷ (b.lexemes ++ keyword blank word.Else ∷ c.lexemes));
  rank = 1;
  is_open = true;
  is_nots = false;
}
level (Call text args) = record {
  lexemes = name blank text ∷ in_parens joined (arguments false args);
  rank = 0;
  is_open = false;
  is_nots = false;
}

abbrev pub phrase : Expr → Phrase
phrase = fold-Expr Phrase Phrase level (λ e. e.kind)

-- ---- declarations

-- a name behind a comma
abbrev pub more_name : Spot → List Lexeme
more_name s = symbol joined sign.Comma ∷ name blank s.text ∷ []

abbrev pub more_names : List Spot → List Lexeme
more_names [] = []
more_names (s ∷ ss) = more_name s ++ more_names ss

abbrev pub names : List ℕ → List Spot → List Lexeme
names lead [] = []
names lead (s ∷ ss) = name lead s.text ∷ more_names ss

abbrev pub typed : Spot → List Lexeme
typed ty = symbol joined sign.Colon ∷ type_name ty.text ∷ []

abbrev pub clocked : Option Spot → List Lexeme
clocked None = []
clocked (Some clock) = keyword blank word.When ∷ name blank clock.text ∷ []

abbrev pub group : List ℕ → Group → List Lexeme
group lead g = names lead g.names ++ (typed g.ty ++ clocked g.clock)

-- a group behind a semicolon
abbrev pub more_group : Group → List Lexeme
more_group g = symbol joined sign.Semicolon ∷ group blank g

abbrev pub more_params : List Group → List Lexeme
more_params [] = []
more_params (g ∷ gs) = more_group g ++ more_params gs

abbrev pub params : List Group → List Lexeme
params [] = []
params (g ∷ gs) = group blank g ++ more_params gs

-- a group on a line of its own
abbrev pub group_line : Group → List Lexeme
group_line g = group indent g ++ symbol joined sign.Semicolon ∷ []

abbrev pub lines : List Group → List Lexeme
lines [] = []
lines (g ∷ gs) = group_line g ++ lines gs

abbrev pub locals : List Group → List Lexeme
locals [] = []
locals (g ∷ gs) = keyword line word.Var ∷ lines (g ∷ gs)

-- an expression behind a token, and a `;`
abbrev pub ended : Lexeme → Expr → List Lexeme
ended x e = x ∷ ((phrase e).lexemes ++ symbol joined sign.Semicolon ∷ [])

-- `assert`, an expression and a `;`
abbrev pub asserted : Expr → List Lexeme
asserted e = ended (keyword indent word.Assert) e

-- `=`, an expression and a `;`
abbrev pub equated : Expr → List Lexeme
equated e = ended (symbol blank sign.Equals) e

abbrev pub item : Item → List Lexeme
item (Assert at e) = asserted e
item (Equation at left e) = names indent left ++ equated e

abbrev pub items : List Item → List Lexeme
items [] = []
items (i ∷ is) = item i ++ items is

abbrev pub maybe_typed : Option Spot → List Lexeme
maybe_typed None = []
maybe_typed (Some ty) = typed ty

abbrev pub value : Option Expr → List Lexeme
value None = symbol joined sign.Semicolon ∷ []
value (Some e) = equated e

abbrev pub heading : Spot → List Group → List Group → List Lexeme
heading n inputs outputs =
    keyword line word.Node ∷ name blank n.text ∷ (in_parens joined (params inputs) ++
    keyword blank word.Returns ∷ (in_parens blank (params outputs) ++ symbol joined sign.Semicolon ∷ []))

abbrev pub body : List Group → List Item → List Lexeme
body ls is = locals ls ++ keyword line word.Let ∷ (items is ++ keyword line word.Tel ∷ [])

abbrev pub enumeration : List Spot → List Lexeme
enumeration choices =
    keyword blank word.Enum ∷ symbol blank sign.OpenBrace ∷ (names blank choices ++ symbol blank sign.CloseBrace ∷ symbol joined sign.Semicolon ∷ [])

abbrev pub type_decl : Spot → List Spot → List Lexeme
type_decl n choices = keyword line word.TypeWord ∷ name blank n.text ∷ symbol blank sign.Equals ∷ enumeration choices

abbrev pub const_decl : Spot → Option Spot → Option Expr → List Lexeme
const_decl n ty v = keyword line word.Const ∷ name blank n.text ∷ (maybe_typed ty ++ value v)

abbrev pub decl : Decl → List Lexeme
decl (TypeDecl at n choices) = type_decl n choices
decl (ConstDecl at n ty v) = const_decl n ty v
decl (NodeDecl at n inputs outputs ls is) = heading n inputs outputs ++ body ls is

abbrev pub decls : List Decl → List Lexeme
decls [] = []
decls (d ∷ ds) = decl d ++ decls ds

abbrev pub program : Ast → List Lexeme
program tree = decls tree.decls
