-- The grammar: which tree a list of tokens derives. Each production has its rules, and the ranks of
-- expressions share theirs over the table of operators.
--
--   program = { decl }
--   decl    = 'type' NAME '=' 'enum' '{' NAME { ',' NAME } '}' ';'
--           | 'const' NAME [ ':' ty ] '=' expr ';'
--           | 'const' NAME ':' ty ';'
--           | 'node' NAME '(' [ params ] ')' 'returns' '(' params ')' [ ';' ]
--             [ 'var' group ';' { group ';' } ] 'let' { item } 'tel' [ ';' | '.' ]
--   params  = group { ';' group } [ ';' ]
--   group   = NAME { ',' NAME } ':' ty [ 'when' NAME ]
--   ty      = 'bool' | 'int' | 'real' | NAME
--   item    = 'assert' expr ';' | left '=' expr ';'
--   left    = NAME { ',' NAME } | '(' NAME { ',' NAME } ')'
--   expr    = an expression of rank 10, closed or open
--
-- An expression ends open where it ends in an `if` without parentheses, whose else part runs as far
-- as it can; else it ends closed. Rank 0 ends closed; elsewhere the end is that of the last part.
--
--   rank 0  = NAME | NUMBER | 'true' | 'false' | NAME '(' [ expr { ',' expr } ] ')' | '(' expr ')'
--   rank n  = rank n - 1
--           | OP rank n                    OP before an operand, of rank n
--           | rank n (closed) OP rank n-1      OP between operands, of rank n, that groups to the left
--           | rank n-1 (closed) OP rank n      .. that groups to the right
--           | rank n-1 (closed) OP rank n-1    .. that stands alone
--   rank 1 besides
--           = 'if' expr 'then' expr 'else' expr      ends open
--           | 'pre' nots
--   nots    = 'not' nots | 'not' rank 1
--
-- The operators and their ranks are those of the table in Operators.
use Rattle.std.specs.Prelude.{◌≡◌, ℕ, suc, ◌-◌, Bool, true, false, List, [], ◌∷◌, ◌++◌, length, take, drop, Option, Some, None}
use Rattle.lus_syntax.specs.declared.token.Token.{Token}
use Rattle.lus_syntax.specs.declared.token.TokenKind.{TokenKind}
use Rattle.lus_syntax.specs.declared.token.TokenKind.TheVariants.{Name, Number, Word, Sign}
use Rattle.lus_syntax.specs.declared.token.Keyword.TheVariants as word
use Rattle.lus_syntax.specs.declared.token.Symbol.TheVariants as sign
use Rattle.lus_syntax.specs.declared.ast.Ast.{Ast}
use Rattle.lus_syntax.specs.declared.ast.Decl.{Decl}
use Rattle.lus_syntax.specs.declared.ast.Decl.TheVariants.{TypeDecl, ConstDecl, NodeDecl}
use Rattle.lus_syntax.specs.declared.ast.Expr.{Expr, roll-Expr}
use Rattle.lus_syntax.specs.declared.ast.ExprKind.{ExprKind}
use Rattle.lus_syntax.specs.declared.ast.ExprKind.TheVariants as tree
use Rattle.lus_syntax.specs.declared.ast.Group.{Group}
use Rattle.lus_syntax.specs.declared.ast.Item.{Item}
use Rattle.lus_syntax.specs.declared.ast.Item.TheVariants.{Assert, Equation}
use Rattle.lus_syntax.specs.declared.ast.Spot.{Spot}
use Rattle.lus_syntax.specs.declared.ast.UnOp.TheVariants as one
use Rattle.lus_syntax.specs.declared.operators.Grouping.TheVariants.{ToLeft, ToRight, Alone}
use Rattle.lus_syntax.specs.declared.operators.Infix.{Infix}
use Rattle.lus_syntax.specs.declared.operators.Prefix.{Prefix}
use Rattle.lus_syntax.specs.Cuts.{Cuts}
use Rattle.lus_syntax.specs.Operators.{infix_of, prefix_of, loosest}

-- the bytes of a token
abbrev pub spelling : List ℕ → Token → List ℕ
spelling text t = take (t.«end» - t.start) (drop t.start text)

-- a token's word and place
abbrev pub spot : List ℕ → Token → Spot
spot text t = record { at = t.start; text = spelling text t }

-- an expression at a place
abbrev pub node : ℕ → ExprKind → Expr
node at kind = roll-Expr (record { at = at; kind = kind })

-- the name, number or truth that one token is
abbrev pub literal : List ℕ → Token → TokenKind → Option Expr
literal text t Name = Some (node t.start (tree.Name (spelling text t)))
literal text t (Number v) = Some (node t.start (tree.Number v))
literal text t (Word word.True) = Some (node t.start (tree.Truth true))
literal text t (Word word.False) = Some (node t.start (tree.Truth false))
literal text t _ = None

mutual
  -- Tokens and the expression of a rank that they derive. The truth says whether it ends open.
  pub data DerivesExpr (text : List ℕ) : ℕ → Bool → List Token → Expr → Type 0 where
    -- what binds more tightly
    tighter : {rank : ℕ} {open' : Bool} {ts : List Token} {e : Expr}
        → DerivesExpr text rank open' ts e → DerivesExpr text (suc rank) open' ts e
    -- an operator before its operand
    before : {rank : ℕ} {open' : Bool} {ts : List Token} {a : Expr} (t : Token) (op : Prefix)
        → prefix_of t.kind ≡ Some op → op.rank ≡ suc rank
        → DerivesExpr text (suc rank) open' ts a
        → DerivesExpr text (suc rank) open' (t ∷ ts) (node t.start (tree.One op.op a))
    -- `pre` before a `not`
    before_not : {open' : Bool} {ts : List Token} {a : Expr} (t : Token)
        → t.kind ≡ Word word.Pre
        → DerivesNots text open' ts a
        → DerivesExpr text 1 open' (t ∷ ts) (node t.start (tree.One one.Pre a))
    -- an operator that groups to the left
    to_left : {rank : ℕ} {open' : Bool} {xs ys : List Token} {a b : Expr} (t : Token) (op : Infix)
        → infix_of t.kind ≡ Some op → op.rank ≡ suc rank → op.grouping ≡ ToLeft
        → DerivesExpr text (suc rank) false xs a → DerivesExpr text rank open' ys b
        → DerivesExpr text (suc rank) open' (xs ++ t ∷ ys) (node t.start (tree.Two op.op a b))
    -- an operator that groups to the right
    to_right : {rank : ℕ} {open' : Bool} {xs ys : List Token} {a b : Expr} (t : Token) (op : Infix)
        → infix_of t.kind ≡ Some op → op.rank ≡ suc rank → op.grouping ≡ ToRight
        → DerivesExpr text rank false xs a → DerivesExpr text (suc rank) open' ys b
        → DerivesExpr text (suc rank) open' (xs ++ t ∷ ys) (node t.start (tree.Two op.op a b))
    -- an operator that stands alone
    alone : {rank : ℕ} {open' : Bool} {xs ys : List Token} {a b : Expr} (t : Token) (op : Infix)
        → infix_of t.kind ≡ Some op → op.rank ≡ suc rank → op.grouping ≡ Alone
        → DerivesExpr text rank false xs a → DerivesExpr text rank open' ys b
        → DerivesExpr text (suc rank) open' (xs ++ t ∷ ys) (node t.start (tree.Two op.op a b))
    -- 'if' expr 'then' expr 'else' expr
    conditional : {p q r : Bool} {xs ys zs : List Token} {a b c : Expr} (if' then else' : Token)
        → if'.kind ≡ Word word.If → DerivesExpr text loosest p xs a
        → then.kind ≡ Word word.Then → DerivesExpr text loosest q ys b
        → else'.kind ≡ Word word.Else → DerivesExpr text loosest r zs c
        → DerivesExpr text 1 true (if' ∷ (xs ++ then ∷ (ys ++ else' ∷ zs))) (node if'.start (tree.Cond a b c))
    -- NAME | NUMBER | 'true' | 'false'
    atom : {e : Expr} (t : Token)
        → literal text t t.kind ≡ Some e
        → DerivesExpr text 0 false (t ∷ []) e
    -- NAME '(' ')'
    call_of_none : (name open_paren close_paren : Token)
        → name.kind ≡ Name → open_paren.kind ≡ Sign sign.OpenParen → close_paren.kind ≡ Sign sign.CloseParen
        → DerivesExpr text 0 false (name ∷ open_paren ∷ close_paren ∷ []) (node name.start (tree.Call (spelling text name) []))
    -- NAME '(' expr { ',' expr } ')'
    call : {ts : List Token} {args : List Expr} (name open_paren close_paren : Token)
        → name.kind ≡ Name → open_paren.kind ≡ Sign sign.OpenParen
        → DerivesArguments text ts args → close_paren.kind ≡ Sign sign.CloseParen
        → DerivesExpr text 0 false (name ∷ open_paren ∷ (ts ++ close_paren ∷ [])) (node name.start (tree.Call (spelling text name) args))
    -- '(' expr ')'
    parens : {open' : Bool} {ts : List Token} {e : Expr} (open_paren close_paren : Token)
        → open_paren.kind ≡ Sign sign.OpenParen → DerivesExpr text loosest open' ts e → close_paren.kind ≡ Sign sign.CloseParen
        → DerivesExpr text 0 false (open_paren ∷ (ts ++ close_paren ∷ [])) e

  -- nots = 'not' nots | 'not' rank 1
  pub data DerivesNots (text : List ℕ) : Bool → List Token → Expr → Type 0 where
    last_not : {open' : Bool} {ts : List Token} {a : Expr} (t : Token)
        → t.kind ≡ Word word.Not
        → DerivesExpr text 1 open' ts a
        → DerivesNots text open' (t ∷ ts) (node t.start (tree.One one.Not a))
    more_nots : {open' : Bool} {ts : List Token} {a : Expr} (t : Token)
        → t.kind ≡ Word word.Not
        → DerivesNots text open' ts a
        → DerivesNots text open' (t ∷ ts) (node t.start (tree.One one.Not a))

  -- expr { ',' expr }
  pub data DerivesArguments (text : List ℕ) : List Token → List Expr → Type 0 where
    last_argument : {open' : Bool} {ts : List Token} {e : Expr}
        → DerivesExpr text loosest open' ts e
        → DerivesArguments text ts (e ∷ [])
    more_arguments : {open' : Bool} {ts us : List Token} {e : Expr} {es : List Expr} (comma : Token)
        → DerivesExpr text loosest open' ts e → comma.kind ≡ Sign sign.Comma → DerivesArguments text us es
        → DerivesArguments text (ts ++ comma ∷ us) (e ∷ es)

-- expr
pub record DerivesWhole (text : List ℕ) (ts : List Token) (e : Expr) : Type 0 where
  pub ends_open : Bool
  pub expr : DerivesExpr text loosest ends_open ts e

-- NAME { ',' NAME }
pub data DerivesNames (text : List ℕ) : List Token → List Spot → Type 0 where
  last_name : (t : Token) → t.kind ≡ Name → DerivesNames text (t ∷ []) (spot text t ∷ [])
  more_names : {ts : List Token} {names : List Spot} (t comma : Token)
      → t.kind ≡ Name → comma.kind ≡ Sign sign.Comma → DerivesNames text ts names
      → DerivesNames text (t ∷ comma ∷ ts) (spot text t ∷ names)

-- ty = 'bool' | 'int' | 'real' | NAME
abbrev pub is_type : TokenKind → Bool
is_type (Word word.Bool) = true
is_type (Word word.Int) = true
is_type (Word word.Real) = true
is_type Name = true
is_type _ = false

-- [ 'when' NAME ]: the clock's place is its `when`
pub data DerivesClock (text : List ℕ) : List Token → Option Spot → Type 0 where
  no_clock : DerivesClock text [] None
  clock : (when name : Token)
      → when.kind ≡ Word word.When → name.kind ≡ Name
      → DerivesClock text (when ∷ name ∷ []) (Some (record { at = when.start; text = spelling text name }))

-- group = NAME { ',' NAME } ':' ty [ 'when' NAME ]
pub data DerivesGroup (text : List ℕ) : List Token → Group → Type 0 where
  group : {ns cs : List Token} {names : List Spot} {at : Option Spot} (colon ty : Token)
      → DerivesNames text ns names → colon.kind ≡ Sign sign.Colon → is_type ty.kind ≡ true → DerivesClock text cs at
      → DerivesGroup text (ns ++ colon ∷ ty ∷ cs) (record { names = names; ty = spot text ty; clock = at })

-- params = group { ';' group } [ ';' ]
pub data DerivesParams (text : List ℕ) : List Token → List Group → Type 0 where
  last_params : {ts : List Token} {g : Group}
      → DerivesGroup text ts g
      → DerivesParams text ts (g ∷ [])
  last_params_ended : {ts : List Token} {g : Group} (semicolon : Token)
      → DerivesGroup text ts g → semicolon.kind ≡ Sign sign.Semicolon
      → DerivesParams text (ts ++ semicolon ∷ []) (g ∷ [])
  more_params : {ts us : List Token} {g : Group} {gs : List Group} (semicolon : Token)
      → DerivesGroup text ts g → semicolon.kind ≡ Sign sign.Semicolon → DerivesParams text us gs
      → DerivesParams text (ts ++ semicolon ∷ us) (g ∷ gs)

-- '(' [ params ] ')'
pub data DerivesInputs (text : List ℕ) : List Token → List Group → Type 0 where
  no_inputs : (open_paren close_paren : Token)
      → open_paren.kind ≡ Sign sign.OpenParen → close_paren.kind ≡ Sign sign.CloseParen
      → DerivesInputs text (open_paren ∷ close_paren ∷ []) []
  inputs : {ts : List Token} {gs : List Group} (open_paren close_paren : Token)
      → open_paren.kind ≡ Sign sign.OpenParen → DerivesParams text ts gs → close_paren.kind ≡ Sign sign.CloseParen
      → DerivesInputs text (open_paren ∷ (ts ++ close_paren ∷ [])) gs

-- '(' params ')'
pub data DerivesOutputs (text : List ℕ) : List Token → List Group → Type 0 where
  outputs : {ts : List Token} {gs : List Group} (open_paren close_paren : Token)
      → open_paren.kind ≡ Sign sign.OpenParen → DerivesParams text ts gs → close_paren.kind ≡ Sign sign.CloseParen
      → DerivesOutputs text (open_paren ∷ (ts ++ close_paren ∷ [])) gs

-- group ';' { group ';' }
pub data DerivesLines (text : List ℕ) : List Token → List Group → Type 0 where
  last_line : {ts : List Token} {g : Group} (semicolon : Token)
      → DerivesGroup text ts g → semicolon.kind ≡ Sign sign.Semicolon
      → DerivesLines text (ts ++ semicolon ∷ []) (g ∷ [])
  more_lines : {ts us : List Token} {g : Group} {gs : List Group} (semicolon : Token)
      → DerivesGroup text ts g → semicolon.kind ≡ Sign sign.Semicolon → DerivesLines text us gs
      → DerivesLines text (ts ++ semicolon ∷ us) (g ∷ gs)

-- [ 'var' group ';' { group ';' } ]
pub data DerivesLocals (text : List ℕ) : List Token → List Group → Type 0 where
  no_locals : DerivesLocals text [] []
  locals : {ts : List Token} {gs : List Group} (var : Token)
      → var.kind ≡ Word word.Var → DerivesLines text ts gs
      → DerivesLocals text (var ∷ ts) gs

-- left = NAME { ',' NAME } | '(' NAME { ',' NAME } ')'
pub data DerivesLeft (text : List ℕ) : List Token → List Spot → Type 0 where
  bare_left : {ts : List Token} {names : List Spot}
      → DerivesNames text ts names
      → DerivesLeft text ts names
  left_in_parens : {ts : List Token} {names : List Spot} (open_paren close_paren : Token)
      → open_paren.kind ≡ Sign sign.OpenParen → DerivesNames text ts names → close_paren.kind ≡ Sign sign.CloseParen
      → DerivesLeft text (open_paren ∷ (ts ++ close_paren ∷ [])) names

-- item = 'assert' expr ';' | left '=' expr ';'
pub data DerivesItem (text : List ℕ) : List Token → Item → Type 0 where
  assertion : {ts : List Token} {e : Expr} (assert semicolon : Token)
      → assert.kind ≡ Word word.Assert → DerivesWhole text ts e → semicolon.kind ≡ Sign sign.Semicolon
      → DerivesItem text (assert ∷ (ts ++ semicolon ∷ [])) (Assert assert.start e)
  equation : {ls ts : List Token} {left : List Spot} {e : Expr} (equals semicolon : Token)
      → DerivesLeft text ls left → equals.kind ≡ Sign sign.Equals
      → DerivesWhole text ts e → semicolon.kind ≡ Sign sign.Semicolon
      → DerivesItem text (ls ++ equals ∷ (ts ++ semicolon ∷ [])) (Equation equals.start left e)

-- { item }
pub data DerivesItems (text : List ℕ) : List Token → List Item → Type 0 where
  no_items : DerivesItems text [] []
  more_items : {ts us : List Token} {item : Item} {items : List Item}
      → DerivesItem text ts item → DerivesItems text us items
      → DerivesItems text (ts ++ us) (item ∷ items)

-- [ ';' ]
pub data MayEnd : List Token → Type 0 where
  unended : MayEnd []
  ended : (t : Token) → t.kind ≡ Sign sign.Semicolon → MayEnd (t ∷ [])

-- [ ';' | '.' ]
pub data MayClose : List Token → Type 0 where
  unclosed : MayClose []
  by_semicolon : (t : Token) → t.kind ≡ Sign sign.Semicolon → MayClose (t ∷ [])
  by_dot : (t : Token) → t.kind ≡ Sign sign.Dot → MayClose (t ∷ [])

-- [ ':' ty ]
pub data DerivesType (text : List ℕ) : List Token → Option Spot → Type 0 where
  untyped : DerivesType text [] None
  typed : (colon ty : Token)
      → colon.kind ≡ Sign sign.Colon → is_type ty.kind ≡ true
      → DerivesType text (colon ∷ ty ∷ []) (Some (spot text ty))

-- decl: its place is its keyword
pub data DerivesDecl (text : List ℕ) : List Token → Decl → Type 0 where
  -- 'type' NAME '=' 'enum' '{' NAME { ',' NAME } '}' ';'
  type_decl : {ts : List Token} {choices : List Spot} (keyword name equals enum open_brace close_brace semicolon : Token)
      → keyword.kind ≡ Word word.TypeWord → name.kind ≡ Name → equals.kind ≡ Sign sign.Equals
      → enum.kind ≡ Word word.Enum → open_brace.kind ≡ Sign sign.OpenBrace
      → DerivesNames text ts choices
      → close_brace.kind ≡ Sign sign.CloseBrace → semicolon.kind ≡ Sign sign.Semicolon
      → DerivesDecl text (keyword ∷ name ∷ equals ∷ enum ∷ open_brace ∷ (ts ++ close_brace ∷ semicolon ∷ []))
      (TypeDecl keyword.start (spot text name) choices)
  -- 'const' NAME [ ':' ty ] '=' expr ';'
  const_with_value : {ys ts : List Token} {ty : Option Spot} {e : Expr} (keyword name equals semicolon : Token)
      → keyword.kind ≡ Word word.Const → name.kind ≡ Name → DerivesType text ys ty
      → equals.kind ≡ Sign sign.Equals → DerivesWhole text ts e → semicolon.kind ≡ Sign sign.Semicolon
      → DerivesDecl text (keyword ∷ name ∷ (ys ++ equals ∷ (ts ++ semicolon ∷ [])))
      (ConstDecl keyword.start (spot text name) ty (Some e))
  -- 'const' NAME ':' ty ';'
  const_without_value : (keyword name colon ty semicolon : Token)
      → keyword.kind ≡ Word word.Const → name.kind ≡ Name → colon.kind ≡ Sign sign.Colon
      → is_type ty.kind ≡ true → semicolon.kind ≡ Sign sign.Semicolon
      → DerivesDecl text (keyword ∷ name ∷ colon ∷ ty ∷ semicolon ∷ [])
      (ConstDecl keyword.start (spot text name) (Some (spot text ty)) None)
  -- 'node' NAME '(' [ params ] ')' 'returns' '(' params ')' [ ';' ]
  --   [ 'var' group ';' { group ';' } ] 'let' { item } 'tel' [ ';' | '.' ]
  node_decl : {is os ms ls ks cs : List Token} {inputs' outputs' locals' : List Group} {items : List Item}
      (keyword name returns begin finish : Token)
      → keyword.kind ≡ Word word.Node → name.kind ≡ Name → DerivesInputs text is inputs'
      → returns.kind ≡ Word word.Returns → DerivesOutputs text os outputs' → MayEnd ms
      → DerivesLocals text ls locals'
      → begin.kind ≡ Word word.Let → DerivesItems text ks items → finish.kind ≡ Word word.Tel → MayClose cs
      → DerivesDecl text (keyword ∷ name ∷ (is ++ returns ∷ (os ++ (ms ++ (ls ++ begin ∷ (ks ++ finish ∷ cs))))))
      (NodeDecl keyword.start (spot text name) inputs' outputs' locals' items)

-- { decl }
pub data DerivesDecls (text : List ℕ) : List Token → List Decl → Type 0 where
  no_decls : DerivesDecls text [] []
  more_decls : {ts us : List Token} {decl : Decl} {decls : List Decl}
      → DerivesDecl text ts decl → DerivesDecls text us decls
      → DerivesDecls text (ts ++ us) (decl ∷ decls)

-- program = { decl }
pub data Derives (text : List ℕ) : List Token → Ast → Type 0 where
  program : {ts : List Token} {decls : List Decl}
      → DerivesDecls text ts decls
      → Derives text ts (record { decls = decls; length = length text })

-- some text is cut into tokens that derive the tree
pub record IsTreeOfGrammar (tree' : Ast) : Type 0 where
  pub text : List ℕ
  pub tokens : List Token
  pub cut : Cuts text 0 tokens (length text)
  pub derived : Derives text tokens tree'
