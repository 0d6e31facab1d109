-- The names that a tree of the grammar declares are identifiers; each of its types has an enumerator, and each node an output.
use Rattle.std.proofs.Common.{◌≡◌, ◌∙◌, inl, inr, ℕ, zero, suc, ◌+◌, ◌-◌, ◌<◌, ◌≤◌, List, [], ◌∷◌, ◌++◌, length, take, drop, get_or, Bool, true, false, true≢false, Option, Some, None, slice_get, refl, sym, ap, subst, arith}
use Rattle.std.proofs.Math.Bool.{Bool-set}
use Rattle.std.proofs.Math.Logic.{∥∥₁_elim, ∥∥₁_map}
use Rattle.std.proofs.lemmas.List.{length-map, map-append}
use Rattle.std.specs.Prelude.{All}
use Rattle.lus_syntax.specs.declared.ast.Ast.{Ast}
use Rattle.lus_syntax.specs.declared.ast.Decl.{Decl}
use Rattle.lus_syntax.specs.declared.ast.Decl.TheVariants.{TypeDecl, ConstDecl, NodeDecl}
use Rattle.lus_syntax.specs.declared.ast.Group.{Group}
use Rattle.lus_syntax.specs.declared.ast.Item.{Item}
use Rattle.lus_syntax.specs.declared.ast.Spot.{Spot}
use Rattle.lus_syntax.specs.declared.token.Token.{Token}
use Rattle.lus_syntax.specs.declared.token.TokenKind.{TokenKind}
use Rattle.lus_syntax.specs.declared.token.TokenKind.TheVariants as token
use Rattle.lus_syntax.specs.Cuts.{Cuts, nothing, skip, token as cut_token}
use Rattle.lus_syntax.specs.Grammar.{IsTreeOfGrammar, Derives, program, DerivesDecls, no_decls, more_decls, DerivesDecl, type_decl, const_with_value, const_without_value, node_decl, DerivesNames, last_name, more_names, DerivesGroup, group, DerivesParams, last_params, last_params_ended, more_params, DerivesInputs, no_inputs, inputs, DerivesOutputs, outputs, DerivesLines, last_line, more_lines, DerivesLocals, no_locals, locals, spelling}
use Rattle.lus_syntax.specs.Words.{kind_of}
use Rattle.lus_types.specs.Calls.{In, here, there}
use Rattle.lus_types.specs.Facts.{IsIdentifier, IsNamedNode, HasIdentifiers, HasOutputs}
use Rattle.lus_types.specs.Names.{Name, declared_names, globals, spot_names}
use Rattle.lus_types.specs.Programs.{Enumeration, Node, Variable, enumerations, names, program_of, variables, variables_of}
use Rattle.lus_types.specs.Typing.{IsFineProgram}
use Rattle.lus_types.proofs.FineHeaders.{in_cases}
use Rattle.lus_types.proofs.FineNodes.{names_declared}
use Rattle.lus_types.proofs.FineParts.{enumeration_of}
use Rattle.lus_types.proofs.FinePrograms.{IsNodeOf, node_is, the_node}
use Rattle.lus_types.proofs.Members.{in_append, in_get, in_left, in_right}

-- each of these names is an identifier
abbrev pub AreIdentifiers : List Name → Type 0
AreIdentifiers xs = (x : Name) → In x xs → IsIdentifier x

pub no_identifiers : AreIdentifiers []
no_identifiers x i = elim i [ ]

pub more_identifiers : (y : Name) (ys : List Name) → IsIdentifier y → AreIdentifiers ys → AreIdentifiers (y ∷ ys)
more_identifiers y ys h k = λ x i. elim (in_cases i) [ inl same ↦ subst IsIdentifier (sym same) h | inr j ↦ k x j ]

pub all_identifiers : (xs ys : List Name) → AreIdentifiers xs → AreIdentifiers ys → AreIdentifiers (xs ++ ys)
all_identifiers xs ys h k = λ x i. elim (in_append xs ys x i) [ inl j ↦ h x j | inr j ↦ k x j ]

-- the names that a declaration declares
abbrev pub names_of_decl : Decl → List Name
names_of_decl (TypeDecl at name choices) = name.text ∷ spot_names choices
names_of_decl (ConstDecl at name ty value) = name.text ∷ []
names_of_decl (NodeDecl at name ins outs locs items) = name.text ∷ (declared_names ins ++ (declared_names outs ++ declared_names locs))

-- a type has an enumerator, and a node an output
abbrev pub HasParts : Decl → Type 0
HasParts (TypeDecl at name choices) = 0 < length (spot_names choices)
HasParts (ConstDecl at name ty value) = Unit {0}
HasParts (NodeDecl at name ins outs locs items) = 0 < length (declared_names outs)

module _ (text : List ℕ) where
  -- each of these tokens is what its bytes are
  abbrev AreSpelled : List Token → Type 0
  AreSpelled ts = (t : Token) → In t ts → kind_of (spelling text t) ≡ Some t.kind

  behind : (at n : ℕ) → (at + n) - at ≡ n
  behind at n = omega arith

  spelled : {at to : ℕ} {ts : List Token} → Cuts text at ts to → AreSpelled ts
  spelled nothing = λ t i. elim i [ ]
  spelled (skip n h rest) = spelled rest
  spelled (cut_token {at = at} n kind dense longest narrow rest) = λ t i. elim (in_cases i) [
    | inl same ↦ subst (λ (u : Token). kind_of (spelling text u) ≡ Some u.kind) (sym same) (ap (λ m. kind_of (take m (drop at text))) (behind at n) ∙ longest.token)
    | inr j ↦ spelled rest t j
  ]

  name_is : (t : Token) (ts : List Token) → AreSpelled ts → In t ts → t.kind ≡ token.Name → IsIdentifier (spelling text t)
  name_is t ts h i k = h t i ∙ ap Some k

  front : (xs ys : List Token) → AreSpelled (xs ++ ys) → AreSpelled xs
  front xs ys h = λ t i. h t (in_left xs ys t i)

  rest : (xs ys : List Token) → AreSpelled (xs ++ ys) → AreSpelled ys
  rest xs ys h = λ t i. h t (in_right xs ys t i)

  tail : (t : Token) (ts : List Token) → AreSpelled (t ∷ ts) → AreSpelled ts
  tail t ts h = λ u i. h u (there i)

  names_are : {ts : List Token} {spots : List Spot} → DerivesNames text ts spots → AreSpelled ts → AreIdentifiers (spot_names spots)
  names_are (last_name t k) h = more_identifiers _ [] (name_is t _ h here k) no_identifiers
  names_are (more_names {ts = ts} t comma k c more) h = more_identifiers _ _ (name_is t _ h here k) (names_are more (tail comma ts (tail t _ h)))

  group_is : {ts : List Token} {g : Group} → DerivesGroup text ts g → AreSpelled ts → AreIdentifiers (spot_names g.names)
  group_is (group {ns = ns} colon ty names is_colon is_ty clocked) h = names_are names (front ns _ h)

  one_group : {ts : List Token} {g : Group} → DerivesGroup text ts g → AreSpelled ts → AreIdentifiers (declared_names (g ∷ []))
  one_group d h = all_identifiers _ [] (group_is d h) no_identifiers

  params_are : {ts : List Token} {gs : List Group} → DerivesParams text ts gs → AreSpelled ts → AreIdentifiers (declared_names gs)
  params_are (last_params d) h = one_group d h
  params_are (last_params_ended {ts = ts} semicolon d k) h = one_group d (front ts _ h)
  params_are (more_params {ts = ts} semicolon d k more) h = all_identifiers _ _ (group_is d (front ts _ h)) (params_are more (tail semicolon _ (rest ts _ h)))

  inputs_are : {ts : List Token} {gs : List Group} → DerivesInputs text ts gs → AreSpelled ts → AreIdentifiers (declared_names gs)
  inputs_are (no_inputs open_paren close_paren o c) h = no_identifiers
  inputs_are (inputs {ts = ts} open_paren close_paren o d c) h = params_are d (front ts _ (tail open_paren _ h))

  outputs_are : {ts : List Token} {gs : List Group} → DerivesOutputs text ts gs → AreSpelled ts → AreIdentifiers (declared_names gs)
  outputs_are (outputs {ts = ts} open_paren close_paren o d c) h = params_are d (front ts _ (tail open_paren _ h))

  lines_are : {ts : List Token} {gs : List Group} → DerivesLines text ts gs → AreSpelled ts → AreIdentifiers (declared_names gs)
  lines_are (last_line {ts = ts} semicolon d k) h = one_group d (front ts _ h)
  lines_are (more_lines {ts = ts} semicolon d k more) h = all_identifiers _ _ (group_is d (front ts _ h)) (lines_are more (tail semicolon _ (rest ts _ h)))

  locals_are : {ts : List Token} {gs : List Group} → DerivesLocals text ts gs → AreSpelled ts → AreIdentifiers (declared_names gs)
  locals_are no_locals h = no_identifiers
  locals_are (locals var k d) h = lines_are d (tail var _ h)

  decl_is : {ts : List Token} {d : Decl} → DerivesDecl text ts d → AreSpelled ts → AreIdentifiers (names_of_decl d)
  decl_is (type_decl {ts = ts} keyword name equals enum open_brace close_brace semicolon k n e m o names c s) h =
      more_identifiers _ _ (name_is name _ h (there here) n)
      (names_are names (front ts _ (tail open_brace _ (tail enum _ (tail equals _ (tail name _ (tail keyword _ h)))))))
  decl_is (const_with_value keyword name equals semicolon k n ty e value s) h = more_identifiers _ [] (name_is name _ h (there here) n) no_identifiers
  decl_is (const_without_value keyword name colon ty semicolon k n c t s) h = more_identifiers _ [] (name_is name _ h (there here) n) no_identifiers
  decl_is (node_decl {is = is} {os = os} {ms = ms} {ls = ls} keyword name returns begin finish k n ins r outs e locs b items f c) h =
      let from_inputs = tail name _ (tail keyword _ h) in
      let from_outputs = tail returns _ (rest is _ from_inputs) in
      let from_locals = rest ms _ (rest os _ from_outputs) in
      more_identifiers _ _ (name_is name _ h (there here) n)
      (all_identifiers _ _ (inputs_are ins (front is _ from_inputs))
      (all_identifiers _ _ (outputs_are outs (front os _ from_outputs)) (locals_are locs (front ls _ from_locals))))

  some_name : {ts : List Token} {spots : List Spot} → DerivesNames text ts spots → 0 < length (spot_names spots)
  some_name (last_name t k) = omega arith
  some_name (more_names t comma k c more) = omega arith

  longer : (xs ys : List Name) → 0 < length xs → 0 < length (xs ++ ys)
  longer [] ys h = absurd (omega arith)
  longer (x ∷ xs) ys h = omega arith

  some_group : {ts : List Token} {g : Group} (gs : List Group) → DerivesGroup text ts g → 0 < length (declared_names (g ∷ gs))
  some_group gs (group colon ty names is_colon is_ty clocked) = longer _ (declared_names gs) (some_name names)

  some_params : {ts : List Token} {gs : List Group} → DerivesParams text ts gs → 0 < length (declared_names gs)
  some_params (last_params d) = some_group [] d
  some_params (last_params_ended semicolon d k) = some_group [] d
  some_params (more_params {gs = gs} semicolon d k more) = some_group gs d

  some_output : {ts : List Token} {gs : List Group} → DerivesOutputs text ts gs → 0 < length (declared_names gs)
  some_output (outputs open_paren close_paren o d c) = some_params d

  decl_has : {ts : List Token} {d : Decl} → DerivesDecl text ts d → HasParts d
  decl_has (type_decl keyword name equals enum open_brace close_brace semicolon k n e m o names c s) = some_name names
  decl_has (const_with_value keyword name equals semicolon k n ty e value s) = tt
  decl_has (const_without_value keyword name colon ty semicolon k n c t s) = tt
  decl_has (node_decl keyword name returns begin finish k n ins r outs e locs b items f c) = some_output outs

  decls_are : {ts : List Token} {ds : List Decl} → DerivesDecls text ts ds → AreSpelled ts → (d : Decl) → In d ds → AreIdentifiers (names_of_decl d) × HasParts d
  decls_are no_decls h = λ d i. elim i [ ]
  decls_are (more_decls {ts = ts} one more) h = λ d i. elim (in_cases i) [
    | inl same ↦ subst (λ (e : Decl). AreIdentifiers (names_of_decl e) × HasParts e) (sym same) (decl_is one (front ts _ h), decl_has one)
    | inr j ↦ decls_are more (rest ts _ h) d j
  ]

  derived : {ts : List Token} {ast : Ast} → Derives text ts ast → AreSpelled ts → (d : Decl) → In d ast.decls → AreIdentifiers (names_of_decl d) × HasParts d
  derived (program ds) h = decls_are ds h

-- of each declaration of a tree of the grammar
pub tree_declares : (ast : Ast) → IsTreeOfGrammar ast → (d : Decl) → In d ast.decls → AreIdentifiers (names_of_decl d) × HasParts d
tree_declares ast tree = derived tree.text tree.derived (spelled tree.text tree.cut)

is_name : Option TokenKind → Bool
is_name (Some token.Name) = true
is_name (Some (token.Number n)) = false
is_name (Some (token.Word w)) = false
is_name (Some (token.Sign s)) = false
is_name None = false

to_name : (o : Option TokenKind) → is_name o ≡ true → o ≡ Some token.Name
unfolding is_name
to_name (Some token.Name) h = refl
to_name (Some (token.Number n)) h = absurd (true≢false (sym h))
to_name (Some (token.Word w)) h = absurd (true≢false (sym h))
to_name (Some (token.Sign s)) h = absurd (true≢false (sym h))
to_name None h = absurd (true≢false (sym h))

from_name : (o : Option TokenKind) → o ≡ Some token.Name → is_name o ≡ true
unfolding is_name
from_name o h = ap is_name h

-- from a tree of the grammar that is there, though unknown
module _ (ast : Ast) (tree : ∥ IsTreeOfGrammar ast ∥₁) where
  pub declares_identifiers : (d : Decl) → In d ast.decls → AreIdentifiers (names_of_decl d)
  declares_identifiers d i x j = to_name (kind_of x) (∥∥₁_elim tree (Bool-set _ _) (λ t. from_name (kind_of x) ((tree_declares ast t d i).0 x j)))

  some_of : (xs : List Name) → ∥ 0 < length xs ∥₁ → 0 < length xs
  some_of [] h = absurd (∥∥₁_elim h (λ a b. absurd a) (λ k. omega arith))
  some_of (x ∷ xs) h = omega arith

  pub has_enumerator : (at : ℕ) (name : Spot) (choices : List Spot) → In (TypeDecl at name choices) ast.decls → 0 < length (spot_names choices)
  has_enumerator at name choices i = some_of (spot_names choices) (∥∥₁_map tree (λ t. (tree_declares ast t (TypeDecl at name choices) i).1))

  pub has_output : (at : ℕ) (name : Spot) (ins outs locs : List Group) (its : List Item) → In (NodeDecl at name ins outs locs its) ast.decls → 0 < length (declared_names outs)
  has_output at name ins outs locs its i = some_of (declared_names outs) (∥∥₁_map tree (λ t. (tree_declares ast t (NodeDecl at name ins outs locs its) i).1))

-- ---- of the program

-- a type of the program is declared
pub record IsDeclaredType (decls : List Decl) (e : Enumeration) : Type 0 where
  pub at : ℕ
  pub name : Spot
  pub choices : List Spot
  pub among : In (TypeDecl at name choices) decls
  pub is : enumeration_of name choices ≡ e

later_type : (d : Decl) (decls : List Decl) (e : Enumeration) → IsDeclaredType decls e → IsDeclaredType (d ∷ decls) e
later_type d decls e w = record { at = w.at; name = w.name; choices = w.choices; among = there w.among; is = w.is }

pub type_declared : (decls : List Decl) (e : Enumeration) → In e (enumerations decls) → IsDeclaredType decls e
type_declared [] e i = elim i [ ]
type_declared (TypeDecl at name choices ∷ decls) e i = elim (in_cases i) [
  | inl same ↦ record { at = at; name = name; choices = choices; among = here; is = sym same }
  | inr j ↦ later_type _ decls e (type_declared decls e j)
]
type_declared (ConstDecl at name ty value ∷ decls) e i = later_type _ decls e (type_declared decls e i)
type_declared (NodeDecl at name ins outs locs its ∷ decls) e i = later_type _ decls e (type_declared decls e i)

pub in_of_get : {A : Type 0} (xs : List A) (i : ℕ) (x : A) → slice_get xs i ≡ Some x → In x xs
in_of_get [] i x h = cc h
in_of_get (y ∷ xs) zero x h = subst (λ z. In z (y ∷ xs)) (the_same y x h) here
  where
    the_same : {A : Type 0} (a b : A) → Some a ≡ Some b → a ≡ b
    the_same a b h = cc h
in_of_get (y ∷ xs) (suc i) x h = there (in_of_get xs i x h)

pub all_of : {A : Type 0} (P : A → Type 0) (xs : List A) → ((x : A) → In x xs → P x) → All P xs
all_of P xs h = λ k d within. h (get_or xs k d) (in_get xs k d within)

names_of : (ins outs locs : List Variable) → names (ins ++ (outs ++ locs)) ≡ names ins ++ (names outs ++ names locs)
names_of ins outs locs = map-append (λ (v : Variable). v.name) ins (outs ++ locs) ∙ ap (λ l. names ins ++ l) (map-append (λ (v : Variable). v.name) outs locs)

-- The names of types, enumerators, nodes and variables of a typed program are identifiers.
pub has_identifiers : (ast : Ast) (width : ℕ) → IsFineProgram ast width → ∥ IsTreeOfGrammar ast ∥₁ → HasIdentifiers (program_of ast.decls width)
has_identifiers ast width fine tree = record {
  of_types = all_of (λ (e : Enumeration). IsIdentifier e.name) (enumerations decls) (λ e i. of_type e (type_declared decls e i));
  of_enumerators = all_of (λ (e : Enumeration). All IsIdentifier e.names) (enumerations decls) (λ e i. of_names e (type_declared decls e i));
  of_nodes = λ f node h. of_node f node (node_is decls width fine f node h);
}
  where
    decls : List Decl
    decls = ast.decls

    of_type : (e : Enumeration) → IsDeclaredType decls e → IsIdentifier e.name
    of_type e w = subst (λ (e : Enumeration). IsIdentifier e.name) w.is (declares_identifiers ast tree _ w.among w.name.text here)

    of_names : (e : Enumeration) → IsDeclaredType decls e → All IsIdentifier e.names
    of_names e w = subst (λ (e : Enumeration). All IsIdentifier e.names) w.is (all_of IsIdentifier (spot_names w.choices) (λ x i. declares_identifiers ast tree _ w.among x (there i)))

    of_node : (f : Name) (node : Node) → IsNodeOf decls width fine f node → IsNamedNode f node
    of_node f node w =
        let d = w.2 in
        let its = declares_identifiers ast tree _ (in_of_get decls w.0 _ d.declared) in
        let g = globals decls in
        let all : names (variables (the_node decls width fine w.0 d.at d.name d.inputs d.outputs d.locals d.items d.declared)) ≡ declared_names d.inputs ++ (declared_names d.outputs ++ declared_names d.locals) =
        names_of (variables_of g d.inputs) (variables_of g d.outputs) (variables_of g d.locals)
        ∙ (λ i. names_declared g d.inputs i ++ (names_declared g d.outputs i ++ names_declared g d.locals i)) in
        subst (IsNamedNode f) w.3 (record {
          meant = d.named;
          own = its d.name.text here;
          of_variables = subst (All IsIdentifier) (sym all) (all_of IsIdentifier _ (λ x i. its x (there i)));
        })

-- Each node of a typed program has an output.
pub has_outputs : (ast : Ast) (width : ℕ) → IsFineProgram ast width → ∥ IsTreeOfGrammar ast ∥₁ → HasOutputs (program_of ast.decls width)
has_outputs ast width fine tree f node h =
    let w = node_is ast.decls width fine f node h in
    let d = w.2 in
    let g = globals ast.decls in
    let long : length (names (variables_of g d.outputs)) ≡ length (variables_of g d.outputs) = length-map (variables_of g d.outputs) (λ (v : Variable). v.name) in
    let same : length (names (variables_of g d.outputs)) ≡ length (declared_names d.outputs) = ap length (names_declared g d.outputs) in
    let some = has_output ast tree d.at d.name d.inputs d.outputs d.locals d.items (in_of_get ast.decls w.0 _ d.declared) in
    subst (λ (n : Node). 1 ≤ length n.outputs) w.3 (omega (arith, long, same, some))
