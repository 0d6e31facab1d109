-- What a reader of a part of the grammar answers: what the part takes off the tokens, or the token at
-- which no list of tokens goes on.
use Rattle.std.specs.Prelude.{◌≡◌, ℕ, List, [], ◌∷◌, ◌++◌, length, Result, Ok, Err}
use Rattle.std.specs.Borrow.{Bor}
use Rattle.lus_syntax.specs.declared.token.Token.{Token}
use Rattle.lus_syntax.specs.declared.token.TokenKind.{TokenKind}
use Rattle.lus_syntax.specs.declared.token.TokenKind.TheVariants.{Sign}
use Rattle.lus_syntax.specs.declared.token.Symbol.TheVariants as sign
use Rattle.lus_syntax.specs.declared.grammar.fault.PartFault.{PartFault}
use Rattle.lus_syntax.specs.declared.grammar.fault.PartFault.TheVariants.{Stuck, Memory}
use Rattle.lus_syntax.specs.Operators.{infix_of}
use Rattle.std.specs.Prelude.{None}

-- the first token is not of this kind, or there is none
abbrev pub Lacks : List Token → TokenKind → Type 0
Lacks ts kind = (t : Token) (rest : List Token) → ts ≡ t ∷ rest → t.kind ≡ kind → ⊥

-- both are at their end, or both begin with one token
abbrev pub Alike : List Token → List Token → Type 0
Alike [] [] = Unit {0}
Alike (t ∷ ts) (u ∷ us) = t ≡ u
Alike [] (u ∷ us) = ⊥
Alike (t ∷ ts) [] = ⊥

-- a front of these tokens derives x, and the rest is left
pub record Takes {A : Type 0} (Derives : List Token → A → Type 0) (ts : List Token) (x : A) (rest : List Token) : Type 0 where
  pub front : List Token
  pub whole : ts ≡ front ++ rest
  pub derived : Derives front x

-- The tokens but the last ones, so many as are left, go on to something that is derived. With the
-- next token, or where they end there, nothing is derived that may stand before what follows it.
pub record IsStuck {A : Type 0} (Derives : List Token → A → Type 0) (MayFollow : List Token → Type 0) (ts : List Token) (left : ℕ) : Type 0 where
  pub front : List Token
  pub rest : List Token
  pub whole : ts ≡ front ++ rest
  pub count : length rest ≡ left
  pub reach : (more : List Token) × (x : A) × Derives (front ++ more) x
  pub dead : (more : List Token) (x : A) (behind : List Token) → Alike rest more → Takes Derives (front ++ more) x behind → MayFollow behind → ⊥

-- what a reader answers
abbrev pub Parsed : {A : Type 0} → (List Token → A → Type 0) → (List Token → Type 0) → List Token → Result (A × Bor (List Token)) PartFault → Type 0
Parsed Derives MayFollow ts (Ok f) = Takes Derives ts f.0 f.1.now × MayFollow f.1.now
Parsed Derives MayFollow ts (Err (Stuck left)) = IsStuck Derives MayFollow ts left
Parsed Derives MayFollow ts (Err Memory) = Unit {0}

-- what may follow an expression: no operator between operands, and no `(`
abbrev pub EndsExpr : List Token → Type 0
EndsExpr [] = Unit {0}
EndsExpr (t ∷ ts) = (infix_of t.kind ≡ None) × (t.kind ≡ Sign sign.OpenParen → ⊥)
