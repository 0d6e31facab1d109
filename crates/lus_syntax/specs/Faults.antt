-- Where a list of tokens stops being the front of a program.
use Rattle.std.specs.Prelude.{◌≡◌, ℕ, ◌≤◌, ◌<◌, suc, List, ◌++◌, length, take}
use Rattle.lus_syntax.specs.declared.ast.Ast.{Ast}
use Rattle.lus_syntax.specs.declared.grammar.fault.SyntaxFault.{SyntaxFault}
use Rattle.lus_syntax.specs.declared.grammar.fault.SyntaxFault.TheVariants as fault
use Rattle.lus_syntax.specs.declared.token.Token.{Token}
use Rattle.lus_syntax.specs.Grammar.{Derives}

-- Some program begins with these tokens: those behind them may be any.
pub record BeginsProgram (text : List ℕ) (front : List Token) : Type 0 where
  pub more : List Token
  pub tree : Ast
  pub derived : Derives text (front ++ more) tree

-- The least number such that no program begins with the tokens 0 to this one: a program begins with
-- those before it. It is the number of tokens where a program begins with all of them, and they are
-- no program.
pub record IsFaultPlace (text : List ℕ) (tokens : List Token) (place : ℕ) : Type 0 where
  pub within : place ≤ length tokens
  pub before : BeginsProgram text (take place tokens)
  pub at : place < length tokens → BeginsProgram text (take (suc place) tokens) → ⊥
  pub no_program : (tree : Ast) → Derives text tokens tree → ⊥

-- the fault of tokens that are no program, or want of memory
abbrev pub IsSyntaxFault : List ℕ → List Token → SyntaxFault → Type 0
IsSyntaxFault text tokens (fault.Token place) = IsFaultPlace text tokens place
IsSyntaxFault text tokens fault.Memory = Unit {0}

-- tokens derive one tree at most
abbrev pub IsOneTree : List ℕ → Type 0
IsOneTree text = (tokens : List Token) (a b : Ast) → Derives text tokens a → Derives text tokens b → a ≡ b

-- tokens have one place of a fault at most
abbrev pub IsOnePlace : List ℕ → Type 0
IsOnePlace text = (tokens : List Token) (i j : ℕ) → IsFaultPlace text tokens i → IsFaultPlace text tokens j → i ≡ j

-- tokens that derive a tree have no place of a fault
abbrev pub IsTreeOrPlace : List ℕ → Type 0
IsTreeOrPlace text = (tokens : List Token) (tree : Ast) (place : ℕ) → Derives text tokens tree → IsFaultPlace text tokens place → ⊥
