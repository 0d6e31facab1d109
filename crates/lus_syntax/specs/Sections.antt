-- How parts of the grammar are put together, for the parts that have no name in Grammar: one token,
-- one part behind another, one part or another, a part as often as it stands there.
use Rattle.std.specs.Prelude.{◌≡◌, ◌⊎◌, ℕ, Bool, true, false, List, [], ◌∷◌, ◌++◌, Option, Some, None}
use Rattle.lus_syntax.specs.declared.token.Token.{Token}
use Rattle.lus_syntax.specs.declared.token.TokenKind.{TokenKind}
use Rattle.lus_syntax.specs.declared.token.TokenKind.TheVariants.{Name, Word, Sign}
use Rattle.lus_syntax.specs.declared.token.Keyword.TheVariants as word
use Rattle.lus_syntax.specs.declared.token.Symbol.TheVariants as sign
use Rattle.lus_syntax.specs.declared.ast.Decl.{Decl}
use Rattle.lus_syntax.specs.declared.ast.Decl.TheVariants.{TypeDecl, ConstDecl, NodeDecl}
use Rattle.lus_syntax.specs.declared.ast.Expr.{Expr}
use Rattle.lus_syntax.specs.declared.ast.Group.{Group}
use Rattle.lus_syntax.specs.declared.ast.Spot.{Spot}
use Rattle.lus_syntax.specs.declared.grammar.declarations.Body.{Body}
use Rattle.lus_syntax.specs.declared.grammar.declarations.Constant.{Constant}
use Rattle.lus_syntax.specs.declared.grammar.declarations.Heading.{Heading}
use Rattle.lus_syntax.specs.Grammar.{spot, is_type, DerivesWhole, DerivesNames, DerivesGroup, DerivesParams, DerivesLocals, DerivesInputs, DerivesOutputs, DerivesLeft, DerivesItems}
use Rattle.lus_syntax.specs.Parts.{Lacks, Takes}

-- anything may stand behind a part
abbrev pub Anything : List Token → Type 0
Anything ts = Unit {0}

-- one token, of such a kind, with a value
pub record OneToken {A : Type 0} (IsKind : TokenKind → Type 0) (value : Token → A) (ts : List Token) (x : A) : Type 0 where
  pub token : Token
  pub alone : ts ≡ token ∷ []
  pub of_kind : IsKind token.kind
  pub is : x ≡ value token

-- no tokens, with a value
pub record Nothing {A : Type 0} (value : A) (ts : List Token) (x : A) : Type 0 where
  pub empty : ts ≡ []
  pub is : x ≡ value

-- one part, and another behind it
pub record Sequence {A B C : Type 0} (join : A → B → C) (First : List Token → A → Type 0) (Second : List Token → B → Type 0) (ts : List Token) (x : C) : Type 0 where
  pub front : List Token
  pub behind : List Token
  pub a : A
  pub b : B
  pub whole : ts ≡ front ++ behind
  pub first : First front a
  pub second : Second behind b
  pub is : x ≡ join a b

-- one part or the other
pub data Either {A : Type 0} (One Other : List Token → A → Type 0) (ts : List Token) (x : A) : Type 0 where
  one : One ts x → Either One Other ts x
  other : Other ts x → Either One Other ts x

-- a part as often as it stands there
pub data Many {A : Type 0} (One : List Token → A → Type 0) : List Token → List A → Type 0 where
  none : Many One [] []
  more : {ts us : List Token} {x : A} {xs : List A} → One ts x → Many One us xs → Many One (ts ++ us) (x ∷ xs)

-- what has been read where a part is read as often as it stands there
pub data Run {A : Type 0} (One : List Token → A → Type 0) (MayFollow : List Token → Type 0) : List Token → List A → List Token → Type 0 where
  started : {ts : List Token} → Run One MayFollow ts [] ts
  taken : {ts mid rest : List Token} {xs : List A} {x : A} → Run One MayFollow ts xs mid → Takes One mid x rest → MayFollow rest → Run One MayFollow ts (xs ++ x ∷ []) rest

-- what has been read where one part has to come first
pub record Begun {A : Type 0} (First One : List Token → A → Type 0) (F G : List Token → Type 0) (ts : List Token) (all : List A) (rest : List Token) : Type 0 where
  pub mid : List Token
  pub x : A
  pub xs : List A
  pub first : Takes First ts x mid
  pub before : F mid
  pub run : Run One G mid xs rest
  pub is : all ≡ x ∷ xs

-- a token of this kind
abbrev pub IsToken : TokenKind → List Token → Token → Type 0
IsToken kind = OneToken (λ k. k ≡ kind) (λ t. t)

-- a name
abbrev pub IsName : List ℕ → List Token → Spot → Type 0
IsName text = OneToken (λ k. k ≡ Name) (spot text)

-- a type
abbrev pub IsType : List ℕ → List Token → Spot → Type 0
IsType text = OneToken (λ k. is_type k ≡ true) (spot text)

-- what may stand behind names, and behind a group
abbrev pub NoComma : List Token → Type 0
NoComma ts = Lacks ts (Sign sign.Comma)

abbrev pub NoWhen : List Token → Type 0
NoWhen ts = Lacks ts (Word word.When)

-- no name stands in front
abbrev pub NoName : List Token → Type 0
NoName ts = Lacks ts Name

-- params ')'
abbrev pub Closed : List ℕ → List Token → List Group → Type 0
Closed text = Sequence (λ groups close_paren. groups) (DerivesParams text) (IsToken (Sign sign.CloseParen))

-- group ';'
abbrev pub Line : List ℕ → List Token → Group → Type 0
Line text = Sequence (λ g semicolon. g) (DerivesGroup text) (IsToken (Sign sign.Semicolon))

-- [ 'var' group ';' { group ';' } ] 'let'
abbrev pub LocalsAndLet : List ℕ → List Token → List Group → Type 0
LocalsAndLet text = Sequence (λ groups begin. groups) (DerivesLocals text) (IsToken (Word word.Let))

-- [ ';' ] [ 'var' group ';' { group ';' } ] 'let'
abbrev pub Opening : List ℕ → List Token → List Group → Type 0
Opening text = Either (Sequence (λ semicolon groups. groups) (IsToken (Sign sign.Semicolon)) (LocalsAndLet text)) (LocalsAndLet text)

-- expr ';'
abbrev pub Ended : List ℕ → List Token → Expr → Type 0
Ended text = Sequence (λ e semicolon. e) (DerivesWhole text) (IsToken (Sign sign.Semicolon))

-- left '='
abbrev pub LeftAndEquals : List ℕ → List Token → List Spot × Token → Type 0
LeftAndEquals text = Sequence (λ left equals. (left, equals)) (DerivesLeft text) (IsToken (Sign sign.Equals))

-- a token with which an item begins
abbrev pub opens_item : TokenKind → Bool
opens_item (Word word.Assert) = true
opens_item Name = true
opens_item (Sign sign.OpenParen) = true
opens_item _ = false

-- no item begins here
abbrev pub NoItem : List Token → Type 0
NoItem ts = (t : Token) (rest : List Token) → ts ≡ t ∷ rest → opens_item t.kind ≡ true → ⊥

-- neither `;` nor `.` stands in front
abbrev pub EndsDecl : List Token → Type 0
EndsDecl ts = Lacks ts (Sign sign.Semicolon) × Lacks ts (Sign sign.Dot)

-- '=' 'enum' '{' NAME { ',' NAME } '}' ';'
abbrev pub Choices : List ℕ → List Token → List Spot → Type 0
Choices text = Sequence (λ equals x. x) (IsToken (Sign sign.Equals)) (Sequence (λ enum x. x) (IsToken (Word word.Enum)) (Sequence (λ open_brace x. x) (IsToken (Sign sign.OpenBrace)) (Sequence (λ names end'. names) (DerivesNames text) (Sequence (λ close_brace semicolon. semicolon) (IsToken (Sign sign.CloseBrace)) (IsToken (Sign sign.Semicolon))))))

-- 'type' NAME '=' 'enum' '{' NAME { ',' NAME } '}' ';'
abbrev pub TypeParts : List ℕ → List Token → Decl → Type 0
TypeParts text = Sequence (λ keyword (x : Spot × List Spot). TypeDecl keyword.start x.0 x.1) (IsToken (Word word.TypeWord)) (Sequence (λ name choices. (name, choices)) (IsName text) (Choices text))

-- '=' expr ';' | ';'
abbrev pub MayValue : List ℕ → List Token → Option Expr → Type 0
MayValue text = Either (Sequence (λ equals e. Some e) (IsToken (Sign sign.Equals)) (Ended text)) (OneToken (λ k. k ≡ Sign sign.Semicolon) (λ t. None))

-- '=' expr ';' | ':' ty ( '=' expr ';' | ';' )
abbrev pub ConstTail : List ℕ → List Token → Constant → Type 0
ConstTail text = Either (Sequence (λ equals e. record { ty = None; value = Some e }) (IsToken (Sign sign.Equals)) (Ended text)) (Sequence (λ colon x. x) (IsToken (Sign sign.Colon)) (Sequence (λ ty value. record { ty = Some ty; value = value }) (IsType text) (MayValue text)))

-- 'const' NAME ( '=' expr ';' | ':' ty ( '=' expr ';' | ';' ) )
abbrev pub ConstParts : List ℕ → List Token → Decl → Type 0
ConstParts text = Sequence (λ keyword (x : Spot × Constant). ConstDecl keyword.start x.0 (x.1).ty (x.1).value) (IsToken (Word word.Const)) (Sequence (λ name constant. (name, constant)) (IsName text) (ConstTail text))

-- a sign that ends a node
abbrev pub IsCloser : TokenKind → Type 0
IsCloser k = (k ≡ Sign sign.Semicolon) ⊎ (k ≡ Sign sign.Dot)

-- [ ';' | '.' ]
abbrev pub Closing : List Token → Option Token → Type 0
Closing = Either (Nothing None) (OneToken IsCloser (λ t. Some t))

-- 'node' NAME '(' [ params ] ')' 'returns' '(' params ')'
abbrev pub Signature : List ℕ → List Token → Heading → Type 0
Signature text = Sequence (λ keyword (x : Spot × (List Group × List Group)). record { at = keyword.start; name = x.0; inputs = (x.1).0; outputs = (x.1).1 }) (IsToken (Word word.Node)) (Sequence (λ name x. (name, x)) (IsName text) (Sequence (λ inputs outputs. (inputs, outputs)) (DerivesInputs text) (Sequence (λ returns outputs. outputs) (IsToken (Word word.Returns)) (DerivesOutputs text))))

-- [ ';' ] [ 'var' group ';' { group ';' } ] 'let' { item } 'tel' [ ';' | '.' ]
abbrev pub Definition : List ℕ → List Token → Body → Type 0
Definition text = Sequence (λ locals items. record { locals = locals; items = items }) (Opening text) (Sequence (λ items closer. items) (DerivesItems text) (Sequence (λ finish closer. closer) (IsToken (Word word.Tel)) Closing))

-- a node
abbrev pub NodeParts : List ℕ → List Token → Decl → Type 0
NodeParts text = Sequence (λ h b. NodeDecl h.at h.name h.inputs h.outputs b.locals b.items) (Signature text) (Definition text)

-- no tokens are left
abbrev pub AtEnd : List Token → Type 0
AtEnd ts = ts ≡ []
