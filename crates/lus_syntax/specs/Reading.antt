-- Expressions as they are read from the left: what a part takes off a list of tokens, and what it
-- leaves. Behind an operand stand operators with their right operands, each of which takes all that
-- stands before it as its left operand.
use Rattle.std.specs.Prelude.{◌≡◌, ℕ, ◌<◌, ◌≤◌, Bool, true, false, List, [], ◌∷◌, ◌++◌, length, Option, Some, None, Result, Ok, Err}
use Rattle.std.specs.Borrow.{Bor}
use Rattle.lus_syntax.specs.declared.token.Token.{Token}
use Rattle.lus_syntax.specs.declared.token.TokenKind.{TokenKind}
use Rattle.lus_syntax.specs.declared.token.TokenKind.TheVariants.{Name, Word, Sign}
use Rattle.lus_syntax.specs.declared.token.Keyword.TheVariants as word
use Rattle.lus_syntax.specs.declared.token.Symbol.TheVariants as sign
use Rattle.lus_syntax.specs.declared.ast.Expr.{Expr}
use Rattle.lus_syntax.specs.declared.ast.ExprKind.TheVariants as tree
use Rattle.lus_syntax.specs.declared.ast.UnOp.TheVariants as one
use Rattle.lus_syntax.specs.declared.grammar.fault.PartFault.{PartFault}
use Rattle.lus_syntax.specs.declared.grammar.fault.PartFault.TheVariants.{Stuck, Memory}
use Rattle.lus_syntax.specs.declared.operators.Infix.{Infix}
use Rattle.lus_syntax.specs.declared.operators.Prefix.{Prefix}
use Rattle.lus_syntax.specs.Grammar.{node, spelling, literal}
use Rattle.lus_syntax.specs.Operators.{infix_of, prefix_of, loosest, left_rank, right_rank}
use Rattle.lus_syntax.specs.Parts.{Lacks, Alike}

-- the rank of an operand without operators before it
abbrev pub bare_rank : TokenKind → ℕ
bare_rank (Word word.If) = 1
bare_rank _ = 0

abbrev pub prefixed_rank : Option Prefix → ℕ → ℕ
prefixed_rank None bare = bare
prefixed_rank (Some op) bare = op.rank

-- the rank of an operand that begins with a token
abbrev pub operand_rank : TokenKind → ℕ
operand_rank k = prefixed_rank (prefix_of k) (bare_rank k)

abbrev pub front_rank : List Token → ℕ
front_rank [] = 0
front_rank (t ∷ ts) = operand_rank t.kind

-- an expression of a rank; what follows an operand of a rank in an expression of another; what stands
-- before the first operator between operands, of a rank; `not`s behind a `pre`; and a call behind
-- its name, its `(` and some arguments
pub data Part : Type 0 where
  At : ℕ → Part
  Behind : ℕ → ℕ → Expr → Bool → Part
  Operand : ℕ → Part
  Nots : Part
  Arguments : Token → List Expr → Part

-- the truth says whether the expression ends open
pub data Reads (text : List ℕ) : Part → List Token → Expr → Bool → List Token → Type 0 where
  r_at : {m n : ℕ} {ts mid rest : List Token} {a e : Expr} {p o : Bool}
      → m ≤ n → Reads text (Operand m) ts a p mid → Reads text (Behind m n a p) mid e o rest
      → Reads text (At n) ts e o rest
  r_stop : {m n : ℕ} {ts : List Token} {a : Expr} {o : Bool} → Reads text (Behind m n a o) ts a o ts
  r_infix : {m n : ℕ} {ts mid rest : List Token} {a b e : Expr} {p o : Bool} (t : Token) (x : Infix)
      → infix_of t.kind ≡ Some x → m ≤ left_rank x → x.rank ≤ n
      → Reads text (At (right_rank x)) ts b p mid
      → Reads text (Behind x.rank n (node t.start (tree.Two x.op a b)) p) mid e o rest
      → Reads text (Behind m n a false) (t ∷ ts) e o rest
  r_prefix : {n : ℕ} {ts rest : List Token} {a : Expr} {o : Bool} (t : Token) (op : Prefix)
      → prefix_of t.kind ≡ Some op → op.rank ≡ n → Reads text (At n) ts a o rest
      → Reads text (Operand n) (t ∷ ts) (node t.start (tree.One op.op a)) o rest
  r_pre_not : {ts rest : List Token} {a : Expr} {o : Bool} (t : Token)
      → t.kind ≡ Word word.Pre → Reads text Nots ts a o rest
      → Reads text (Operand 1) (t ∷ ts) (node t.start (tree.One one.Pre a)) o rest
  r_if : {ts us vs rest : List Token} {a b c : Expr} {p q o : Bool} (t u v : Token)
      → t.kind ≡ Word word.If → Reads text (At loosest) ts a p (u ∷ us)
      → u.kind ≡ Word word.Then → Reads text (At loosest) us b q (v ∷ vs)
      → v.kind ≡ Word word.Else → Reads text (At loosest) vs c o rest
      → Reads text (Operand 1) (t ∷ ts) (node t.start (tree.Cond a b c)) true rest
  r_atom : {rest : List Token} {e : Expr} (t : Token)
      → literal text t t.kind ≡ Some e
      → Reads text (Operand 0) (t ∷ rest) e false rest
  r_parens : {ts rest : List Token} {e : Expr} {o : Bool} (t u : Token)
      → t.kind ≡ Sign sign.OpenParen → Reads text (At loosest) ts e o (u ∷ rest) → u.kind ≡ Sign sign.CloseParen
      → Reads text (Operand 0) (t ∷ ts) e false rest
  r_call : {ts rest : List Token} {e : Expr} (t u : Token)
      → t.kind ≡ Name → u.kind ≡ Sign sign.OpenParen → Reads text (Arguments t []) ts e false rest
      → Reads text (Operand 0) (t ∷ u ∷ ts) e false rest
  r_more_nots : {ts rest : List Token} {a : Expr} {o : Bool} (t : Token)
      → t.kind ≡ Word word.Not → Reads text Nots ts a o rest
      → Reads text Nots (t ∷ ts) (node t.start (tree.One one.Not a)) o rest
  r_last_not : {ts rest : List Token} {a : Expr} {o : Bool} (t : Token)
      → t.kind ≡ Word word.Not → Reads text (At 1) ts a o rest
      → Reads text Nots (t ∷ ts) (node t.start (tree.One one.Not a)) o rest
  r_no_arguments : {rest : List Token} {name : Token} (u : Token)
      → u.kind ≡ Sign sign.CloseParen
      → Reads text (Arguments name []) (u ∷ rest) (node name.start (tree.Call (spelling text name) [])) false rest
  r_last_argument : {ts rest : List Token} {name : Token} {before : List Expr} {a : Expr} {p : Bool} (u : Token)
      → Reads text (At loosest) ts a p (u ∷ rest) → u.kind ≡ Sign sign.CloseParen
      → Reads text (Arguments name before) ts (node name.start (tree.Call (spelling text name) (before ++ a ∷ []))) false rest
  r_more_arguments : {ts us rest : List Token} {name : Token} {before : List Expr} {a e : Expr} {p : Bool} (u : Token)
      → Reads text (At loosest) ts a p (u ∷ us) → u.kind ≡ Sign sign.Comma
      → Reads text (Arguments name (before ++ a ∷ [])) us e false rest
      → Reads text (Arguments name before) ts e false rest

-- What may follow an expression of a rank: no `(`, no operator of the rank or a lower one, and none
-- at all where the expression ends open.
pub record StopsAt (rank : ℕ) (ends_open : Bool) (rest : List Token) : Type 0 where
  pub no_infix : (t : Token) (us : List Token) (x : Infix) → rest ≡ t ∷ us → infix_of t.kind ≡ Some x → (ends_open ≡ false) × (rank < x.rank)
  pub no_call : Lacks rest (Sign sign.OpenParen)

abbrev pub Stops : Part → Bool → List Token → Type 0
Stops (At n) o rest = StopsAt n o rest
Stops (Behind m n a p) o rest = StopsAt n o rest
Stops (Operand n) o rest = StopsAt n o rest
Stops Nots o rest = StopsAt 1 o rest
Stops (Arguments name before) o rest = StopsAt 0 o rest

-- The tokens but the last ones, so many as are left, go on to something that the part reads. With the
-- next token, or where they end there, the part reads nothing.
pub record Bad (text : List ℕ) (p : Part) (ts : List Token) (left : ℕ) : Type 0 where
  pub front : List Token
  pub rest : List Token
  pub whole : ts ≡ front ++ rest
  pub count : length rest ≡ left
  pub reach : (more : List Token) × (e : Expr) × (o : Bool) × Reads text p (front ++ more) e o []
  pub dead : (more : List Token) (e : Expr) (o : Bool) (r : List Token) → Alike rest more → Reads text p (front ++ more) e o r → Stops p o r → ⊥

-- what a reader of a part answers
abbrev pub Answers : List ℕ → Part → List Token → Result (Expr × Bor (List Token)) PartFault → Type 0
Answers text p ts (Ok f) = (o : Bool) × Reads text p ts f.0 o f.1.now × Stops p o f.1.now
Answers text p ts (Err (Stuck left)) = Bad text p ts left
Answers text p ts (Err Memory) = Unit {0}

-- what has been read of an expression of rank n: an operand of rank m, whose last part has the rank low
pub record Partway (text : List ℕ) (n m : ℕ) (ts : List Token) (a : Expr) (o : Bool) (rest : List Token) : Type 0 where
  pub front : List Token
  pub whole : ts ≡ front ++ rest
  pub low : ℕ
  pub stops : StopsAt low o rest
  pub on : (more : List Token) (e : Expr) (p : Bool) (r : List Token) → Reads text (Behind m n a o) more e p r → Reads text (At n) (front ++ more) e p r
  pub back : (more : List Token) (e : Expr) (p : Bool) (r : List Token) → StopsAt low o more → Reads text (At n) (front ++ more) e p r → StopsAt n p r → Reads text (Behind m n a o) more e p r

-- what has been read of a call: arguments, and a comma behind each
pub record Called (text : List ℕ) (name : Token) (ts : List Token) (before : List Expr) (rest : List Token) : Type 0 where
  pub front : List Token
  pub whole : ts ≡ front ++ rest
  pub on : (more : List Token) (e : Expr) (r : List Token) → Reads text (Arguments name before) more e false r → Reads text (Arguments name []) (front ++ more) e false r
  pub back : (more : List Token) (e : Expr) (p : Bool) (r : List Token) → Reads text (Arguments name []) (front ++ more) e p r → Reads text (Arguments name before) more e p r
  pub bare : before ≡ [] → Lacks rest (Sign sign.CloseParen)

-- no operator of this rank or a lower one stands in front
abbrev pub NoInfix : ℕ → List Token → Type 0
NoInfix n ts = (t : Token) (us : List Token) (x : Infix) → ts ≡ t ∷ us → infix_of t.kind ≡ Some x → x.rank ≤ n → ⊥

-- the first token is of this kind
pub record Begins (ts : List Token) (kind : TokenKind) : Type 0 where
  pub first : Token
  pub more : List Token
  pub whole : ts ≡ first ∷ more
  pub is : first.kind ≡ kind

-- a `pre`, and a `not` behind it
pub record IsPreNot (t : Token) (ts : List Token) : Type 0 where
  pub is_pre : t.kind ≡ Word word.Pre
  pub is_not : Begins ts (Word word.Not)
