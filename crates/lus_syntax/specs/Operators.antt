-- The operators of expressions and the ranks of the grammar. A rank says how loosely an operator
-- binds; rank 0 has the atoms.
--
--   rank  operators              with more than one in a row
--     1   - pre current          before an operand; `pre` also before `not`; here stands `if` too
--     2   when                   to the left
--     3   * div mod              to the left
--     4   + -                    to the left
--     5   not                    before an operand
--     6   = <> < <= > >=         alone: one only
--     7   and                    to the left
--     8   or xor                 to the left
--     9   =>                     to the right
--    10   -> fby                 to the right
use Rattle.std.specs.Prelude.{ℕ, ◌-◌, Option, Some, None}
use Rattle.lus_syntax.specs.declared.token.TokenKind.{TokenKind}
use Rattle.lus_syntax.specs.declared.token.TokenKind.TheVariants.{Word, Sign}
use Rattle.lus_syntax.specs.declared.token.Keyword.TheVariants as word
use Rattle.lus_syntax.specs.declared.token.Symbol.TheVariants as sign
use Rattle.lus_syntax.specs.declared.ast.BinOp.TheVariants as two
use Rattle.lus_syntax.specs.declared.ast.UnOp.TheVariants as one
use Rattle.lus_syntax.specs.declared.operators.Grouping.{Grouping}
use Rattle.lus_syntax.specs.declared.operators.Grouping.TheVariants.{ToLeft, ToRight, Alone}
use Rattle.lus_syntax.specs.declared.operators.Infix.{Infix}
use Rattle.lus_syntax.specs.declared.operators.Prefix.{Prefix}

-- the operator that a token is between two operands
abbrev pub infix_of : TokenKind → Option Infix
infix_of (Word word.When) = Some (record { rank = 2; grouping = ToLeft; op = two.When })
infix_of (Sign sign.Times) = Some (record { rank = 3; grouping = ToLeft; op = two.Mul })
infix_of (Word word.Div) = Some (record { rank = 3; grouping = ToLeft; op = two.Div })
infix_of (Word word.Mod) = Some (record { rank = 3; grouping = ToLeft; op = two.Mod })
infix_of (Sign sign.Plus) = Some (record { rank = 4; grouping = ToLeft; op = two.Add })
infix_of (Sign sign.Minus) = Some (record { rank = 4; grouping = ToLeft; op = two.Sub })
infix_of (Sign sign.Equals) = Some (record { rank = 6; grouping = Alone; op = two.Eq })
infix_of (Sign sign.NotEqual) = Some (record { rank = 6; grouping = Alone; op = two.Ne })
infix_of (Sign sign.Less) = Some (record { rank = 6; grouping = Alone; op = two.Lt })
infix_of (Sign sign.LessEqual) = Some (record { rank = 6; grouping = Alone; op = two.Le })
infix_of (Sign sign.Greater) = Some (record { rank = 6; grouping = Alone; op = two.Gt })
infix_of (Sign sign.GreaterEqual) = Some (record { rank = 6; grouping = Alone; op = two.Ge })
infix_of (Word word.And) = Some (record { rank = 7; grouping = ToLeft; op = two.And })
infix_of (Word word.Or) = Some (record { rank = 8; grouping = ToLeft; op = two.Or })
infix_of (Word word.Xor) = Some (record { rank = 8; grouping = ToLeft; op = two.Xor })
infix_of (Sign sign.Implies) = Some (record { rank = 9; grouping = ToRight; op = two.Imp })
infix_of (Sign sign.Arrow) = Some (record { rank = 10; grouping = ToRight; op = two.Arrow })
infix_of (Word word.Fby) = Some (record { rank = 10; grouping = ToRight; op = two.Fby })
infix_of _ = None

-- the operator that a token is before an operand
abbrev pub prefix_of : TokenKind → Option Prefix
prefix_of (Sign sign.Minus) = Some (record { rank = 1; op = one.Neg })
prefix_of (Word word.Pre) = Some (record { rank = 1; op = one.Pre })
prefix_of (Word word.Current) = Some (record { rank = 1; op = one.Current })
prefix_of (Word word.Not) = Some (record { rank = 5; op = one.Not })
prefix_of _ = None

-- the rank of a whole expression
abbrev pub loosest : ℕ
loosest = 10

-- the loosest ranks of the operands of an operator of a rank
abbrev pub left_of : Grouping → ℕ → ℕ
left_of ToLeft rank = rank
left_of ToRight rank = rank - 1
left_of Alone rank = rank - 1

abbrev pub right_of : Grouping → ℕ → ℕ
right_of ToLeft rank = rank - 1
right_of ToRight rank = rank
right_of Alone rank = rank - 1

abbrev pub left_rank : Infix → ℕ
left_rank x = left_of x.grouping x.rank

abbrev pub right_rank : Infix → ℕ
right_rank x = right_of x.grouping x.rank
