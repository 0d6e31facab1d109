-- Each call of the walk is a call of the program.
use Rattle.std.proofs.Common.{◌≡◌, ◌↔◌, ◌∙◌, ℕ, suc, ◌+◌, Bool, true, false, List, [], ◌∷◌, ◌++◌, map, slice_get, Option, Some, None, cond, take, refl, sym, ap, subst, true≢false, arith}
use Rattle.std.specs.List.{flat_map}
use Rattle.lus_syntax.specs.declared.ast.Ast.{Ast}
use Rattle.lus_syntax.specs.declared.ast.Decl.{Decl}
use Rattle.lus_syntax.specs.declared.ast.Decl.TheVariants.{TypeDecl, ConstDecl, NodeDecl}
use Rattle.lus_syntax.specs.declared.ast.Expr.{Expr}
use Rattle.lus_syntax.specs.declared.ast.Group.{Group}
use Rattle.lus_syntax.specs.declared.ast.Item.{Item}
use Rattle.lus_syntax.specs.declared.ast.Item.TheVariants.{Assert, Equation}
use Rattle.lus_syntax.specs.declared.ast.Spot.{Spot}
use Rattle.lus_types.specs.declared.types.Meaning.{Meaning}
use Rattle.lus_types.specs.declared.types.Meaning.TheVariants.{Enumeration, Constant, Node, Enumerator}
use Rattle.lus_types.specs.declared.types.Position.{Position}
use Rattle.lus_types.specs.declared.types.Position.TheVariants.{Whole, Inside}
use Rattle.op_network.specs.declared.value.Ty.{Ty}
use Rattle.lus_types.specs.Calls.{In, here, there, called_names, called_in, called_by}
use Rattle.lus_types.specs.Checking.{Recursions, is_recursive, is_recursion_of, TellsCycles}
use Rattle.lus_types.specs.Kinds.{IsRecursiveNode, IsRecursionOf}
use Rattle.lus_types.specs.Names.{Name, Globals, Defined, globals, spot_names, declared_names, next_type, defined_in, left_of}
use Rattle.lus_types.specs.Occurrences.{Scope, Variables, Thing, Occurrence, in_constant, GlobalName, EnumeratorName, InputName, DefinedName, TypeName, Clock, ConstantItself, NameUse, Literal, TruthLiteral, Unary, Binary, Conditional, Call, LeftName, EquationItself, AssertionItself, TextEnd}
use Rattle.lus_types.specs.Constants.{constant_scope}
use Rattle.lus_types.specs.Signatures.{variables}
use Rattle.lus_types.specs.Typing.{walk as whole_walk, tables, Tables, node_scope, declarations, declaration}
use Rattle.lus_types.specs.Walk as walk
use Rattle.lus_types.specs.Walk.{Judged, judge, operand_of}
use Rattle.lus_types.proofs.Judging.{judge_name, judge_number, judge_truth, judge_one, judge_two, judge_cond, judge_call}
use Rattle.lus_types.proofs.Trees.{Tree, t_name, t_number, t_truth, t_one, t_two, t_cond, t_call, Trees, t_none, t_more, tree_of, called_one, called_two, called_cond, called_call}

-- a call of one of these names or a literal, in this scope, or something else
abbrev pub StandsIn : Scope → List Name → Thing → Type 0
StandsIn s names (Call scope position f args) = (scope ≡ s) × In f names
StandsIn s names (Literal scope position n) = scope ≡ s
StandsIn s names _ = Unit {0}

abbrev pub Every : (Thing → Type 0) → List Occurrence → Type 0
Every P [] = Unit {0}
Every P (o ∷ os) = P o.thing × Every P os

pub every_append : (P : Thing → Type 0) (xs ys : List Occurrence) → Every P xs → Every P ys → Every P (xs ++ ys)
every_append P [] ys h k = k
every_append P (x ∷ xs) ys h k = (h.0, every_append P xs ys h.1 k)

pub every_in : (P : Thing → Type 0) (xs : List Occurrence) (o : Occurrence) → Every P xs → In o xs → P o.thing
every_in P [] o h i = elim i [ ]
every_in P (x ∷ xs) o h here = h.0
every_in P (x ∷ xs) o h (there i) = every_in P xs o h.1 i

pub every_weaker : (P Q : Thing → Type 0) → ((t : Thing) → P t → Q t) → (xs : List Occurrence) → Every P xs → Every Q xs
every_weaker P Q f [] h = tt
every_weaker P Q f (x ∷ xs) h = (f x.thing h.0, every_weaker P Q f xs h.1)

in_left : {A : Type 0} (xs ys : List A) (x : A) → In x xs → In x (xs ++ ys)
in_left [] ys x i = elim i [ ]
in_left (z ∷ zs) ys x here = here
in_left (z ∷ zs) ys x (there i) = there (in_left zs ys x i)

in_right : {A : Type 0} (xs ys : List A) (x : A) → In x ys → In x (xs ++ ys)
in_right [] ys x i = i
in_right (z ∷ zs) ys x i = there (in_right zs ys x i)

more_names : (s : Scope) (ms ns : List Name) → ((f : Name) → In f ms → In f ns) → (t : Thing) → StandsIn s ms t → StandsIn s ns t
more_names s ms ns f (Call scope position g args) h = (h.0, f g h.1)
more_names s ms ns f (GlobalName g m x) h = tt
more_names s ms ns f (EnumeratorName g ty i x) h = tt
more_names s ms ns f (InputName before x) h = tt
more_names s ms ns f (DefinedName before d x) h = tt
more_names s ms ns f (TypeName g w) h = tt
more_names s ms ns f Clock h = tt
more_names s ms ns f (ConstantItself ty value) h = tt
more_names s ms ns f (NameUse sc x) h = tt
more_names s ms ns f (Literal sc p n) h = h
more_names s ms ns f TruthLiteral h = tt
more_names s ms ns f (Unary sc op a) h = tt
more_names s ms ns f (Binary sc op a b) h = tt
more_names s ms ns f (Conditional a b c) h = tt
more_names s ms ns f (LeftName vs before x) h = tt
more_names s ms ns f (EquationItself l r) h = tt
more_names s ms ns f (AssertionItself ty) h = tt
more_names s ms ns f (TextEnd ds main) h = tt

module _ (s : Scope) where
  abbrev Holds : Position → Expr → Type 0
  Holds p e = Every (StandsIn s (called_names e)) ((judge s e).walk p)

  wider : (ms ns : List Name) → ((f : Name) → In f ms → In f ns) → (os : List Occurrence) → Every (StandsIn s ms) os → Every (StandsIn s ns) os
  wider ms ns f os h = every_weaker (StandsIn s ms) (StandsIn s ns) (more_names s ms ns f) os h

  mutual
    in_tree : (e : Expr) (p : Position) → Tree e → Holds p e
    in_tree e p (t_name x h) = subst (λ (j : Judged). Every (StandsIn s (called_names e)) (j.walk p)) (sym (judge_name s e x h)) (tt, tt)
    in_tree e p (t_number n h) = subst (λ (j : Judged). Every (StandsIn s (called_names e)) (j.walk p)) (sym (judge_number s e n h)) (refl, tt)
    in_tree e p (t_truth b h) = subst (λ (j : Judged). Every (StandsIn s (called_names e)) (j.walk p)) (sym (judge_truth s e b h)) (tt, tt)
    in_tree e p (t_one op a h t) = subst (λ (j : Judged). Every (StandsIn s (called_names e)) (j.walk p)) (sym (judge_one s e op a h))
        (every_append _ _ _ (wider (called_names a) (called_names e) (λ f i. subst (In f) (sym (called_one e op a h)) i) _ (in_tree a (operand_of op) t)) (tt, tt))
    in_tree e p (t_two op a b h t u) = subst (λ (j : Judged). Every (StandsIn s (called_names e)) (j.walk p)) (sym (judge_two s e op a b h))
        (every_append _ _ _ (wider (called_names a) (called_names e) (λ f i. subst (In f) (sym (called_two e op a b h)) (in_left (called_names a) (called_names b) f i)) _ (in_tree a Inside t))
        (every_append _ _ _ (wider (called_names b) (called_names e) (λ f i. subst (In f) (sym (called_two e op a b h)) (in_right (called_names a) (called_names b) f i)) _ (in_tree b Inside u)) (tt, tt)))
    in_tree e p (t_cond a b c h t u v) = subst (λ (j : Judged). Every (StandsIn s (called_names e)) (j.walk p)) (sym (judge_cond s e a b c h))
        (every_append _ _ _ (wider (called_names a) (called_names e) (λ f i. subst (In f) (sym (called_cond e a b c h)) (in_left (called_names a) (called_names b ++ called_names c) f i)) _ (in_tree a Inside t))
        (every_append _ _ _ (wider (called_names b) (called_names e) (λ f i. subst (In f) (sym (called_cond e a b c h)) (in_right (called_names a) (called_names b ++ called_names c) f (in_left (called_names b) (called_names c) f i))) _ (in_tree b Inside u))
        (every_append _ _ _ (wider (called_names c) (called_names e) (λ f i. subst (In f) (sym (called_cond e a b c h)) (in_right (called_names a) (called_names b ++ called_names c) f (in_right (called_names b) (called_names c) f i))) _ (in_tree c Inside v)) (tt, tt))))
    in_tree e p (t_call g args h ts) = subst (λ (j : Judged). Every (StandsIn s (called_names e)) (j.walk p)) (sym (judge_call s e g args h))
        (every_append _ _ _ (wider (flat_map (λ names. names) (map called_names args)) (called_names e) (λ f i. subst (In f) (sym (called_call e g args h)) (in_left _ (g ∷ []) f i)) _ (in_trees args ts))
        ((refl, subst (In g) (sym (called_call e g args h)) (in_right (flat_map (λ names. names) (map called_names args)) (g ∷ []) g here)), tt))

    in_trees : (es : List Expr) → Trees es → Every (StandsIn s (flat_map (λ names. names) (map called_names es))) (flat_map (λ (j : Judged). j.walk Inside) (map (judge s) es))
    in_trees [] t_none = tt
    in_trees (e ∷ es) (t_more t ts) =
        every_append _ _ _ (wider (called_names e) _ (λ f i. in_left (called_names e) (flat_map (λ names. names) (map called_names es)) f i) _ (in_tree e Inside t))
        (wider (flat_map (λ names. names) (map called_names es)) _ (λ f i. in_right (called_names e) (flat_map (λ names. names) (map called_names es)) f i) _ (in_trees es ts))

  pub in_expression : (e : Expr) (p : Position) → Every (StandsIn s (called_names e)) (walk.expression s p e)
  in_expression e p = in_tree e p (tree_of e)

  in_left_names : (ns : List Name) (vs : Variables) (before : List Name) (names : List Spot) → Every (StandsIn s ns) (walk.left_names vs before names)
  in_left_names ns vs before [] = tt
  in_left_names ns vs before (name ∷ names) = (tt, in_left_names ns vs (before ++ name.text ∷ []) names)

  in_item : (vs : Variables) (before : List Name) (i : Item) → Every (StandsIn s (called_in i)) (walk.item s vs before i)
  in_item vs before (Assert at e) = every_append _ _ _ (in_expression e Inside) (tt, tt)
  in_item vs before (Equation at left e) = every_append _ _ _ (in_left_names (called_names e) vs before left) (every_append _ _ _ (in_expression e Whole) (tt, tt))

  pub in_items : (vs : Variables) (before : List Name) (its : List Item) → Every (StandsIn s (flat_map called_in its)) (walk.items s vs before its)
  in_items vs before [] = tt
  in_items vs before (i ∷ its) =
      every_append _ _ _ (wider (called_in i) _ (λ f k. in_left (called_in i) (flat_map called_in its) f k) _ (in_item vs before i))
      (wider (flat_map called_in its) _ (λ f k. in_right (called_in i) (flat_map called_in its) f k) _ (in_items vs (before ++ left_of i) its))

  in_group_names : (ns : List Name) (is_input : Bool) (d : Defined) (before : List Name) (names : List Spot) → Every (StandsIn s ns) (walk.group_names is_input d before names)
  in_group_names ns is_input d before [] = tt
  in_group_names ns true d before (name ∷ names) = (tt, in_group_names ns true d (before ++ name.text ∷ []) names)
  in_group_names ns false d before (name ∷ names) = (tt, in_group_names ns false d (before ++ name.text ∷ []) names)

  in_clock : (ns : List Name) (clock : Option Spot) → Every (StandsIn s ns) (walk.clock_mark clock)
  in_clock ns None = tt
  in_clock ns (Some c) = (tt, tt)

  pub in_groups : (ns : List Name) (g : Globals) (is_input : Bool) (d : Defined) (before : List Name) (gs : List Group) → Every (StandsIn s ns) (walk.groups g is_input d before gs)
  in_groups ns g is_input d before [] = tt
  in_groups ns g is_input d before (x ∷ gs) =
      every_append _ _ _ (every_append _ _ _ (in_group_names ns is_input d before x.names) (tt, in_clock ns x.clock)) (in_groups ns g is_input d (before ++ spot_names x.names) gs)

  pub in_enumerators : (ns : List Name) (g : Globals) (ty i : ℕ) (choices : List Spot) → Every (StandsIn s ns) (walk.enumerator_names g ty i choices)
  in_enumerators ns g ty i [] = tt
  in_enumerators ns g ty i (c ∷ cs) = (tt, in_enumerators ns g ty (suc i) cs)

  in_declared : (ns : List Name) (g : Globals) (ty : Option Spot) → Every (StandsIn s ns) (walk.declared_type_name g ty)
  in_declared ns g None = tt
  in_declared ns g (Some ty) = (tt, tt)

  abbrev pub called_if : Option Expr → List Name
  called_if None = []
  called_if (Some e) = called_names e

  in_value : (value : Option Expr) → Every (StandsIn s (called_if value)) (walk.value_walk s value)
  in_value None = tt
  in_value (Some e) = in_expression e Inside

  pub in_constant_decl : (at : ℕ) (name : Spot) (ty : Option Spot) (value : Option Expr) → Every (StandsIn s (called_if value)) (walk.constant s at name ty value)
  in_constant_decl at name ty value = (tt, every_append _ _ _ (in_declared (called_if value) s.globals ty) (every_append _ _ _ (in_value value) (tt, tt)))

-- no call in a constant counts as recursive
pub not_recursive : (r : Recursions) (s : Scope) → in_constant s ≡ true → (ns : List Name) (t : Thing) → StandsIn s ns t → is_recursive r t ≡ false
not_recursive r s c ns (Call scope p f args) h =
    ap (λ sc. cond (in_constant sc) false (is_recursion_of r (sc.globals f) sc.place)) h.0 ∙ ap (λ b. cond b false (is_recursion_of r (s.globals f) s.place)) c
not_recursive r s c ns (GlobalName g m x) h = refl
not_recursive r s c ns (EnumeratorName g ty i x) h = refl
not_recursive r s c ns (InputName before x) h = refl
not_recursive r s c ns (DefinedName before d x) h = refl
not_recursive r s c ns (TypeName g w) h = refl
not_recursive r s c ns Clock h = refl
not_recursive r s c ns (ConstantItself ty value) h = refl
not_recursive r s c ns (NameUse sc x) h = refl
not_recursive r s c ns (Literal sc p n) h = refl
not_recursive r s c ns TruthLiteral h = refl
not_recursive r s c ns (Unary sc op a) h = refl
not_recursive r s c ns (Binary sc op a b) h = refl
not_recursive r s c ns (Conditional a b d) h = refl
not_recursive r s c ns (LeftName vs before x) h = refl
not_recursive r s c ns (EquationItself l q) h = refl
not_recursive r s c ns (AssertionItself ty) h = refl
not_recursive r s c ns (TextEnd ds main) h = refl

pub none_recursive : (r : Recursions) (s : Scope) → in_constant s ≡ true → (at : ℕ) (name : Spot) (ty : Option Spot) (value : Option Expr)
    → Every (λ thing. is_recursive r thing ≡ false) (walk.constant s at name ty value)
none_recursive r s c at name ty value =
    every_weaker (StandsIn s (called_if s value)) (λ thing. is_recursive r thing ≡ false) (not_recursive r s c (called_if s value)) (walk.constant s at name ty value)
    (in_constant_decl s at name ty value)

module _ (decls : List Decl) (r : Recursions) where
  abbrev Right : Thing → Type 0
  Right thing = (is_recursive r thing ≡ true) ↔ IsRecursiveNode decls thing

  neither : (false ≡ true) ↔ ⊥
  neither = (λ h. absurd (true≢false (sym h)), λ h. elim h [ ])

  pub right_of : (s : Scope) (ns : List Name) → ((f : Name) (p : Position) (args : List (Option Ty)) → In f ns → Right (Call s p f args)) → (t : Thing) → StandsIn s ns t → Right t
  right_of s ns c (Call scope p f args) h = subst (λ sc. Right (Call sc p f args)) (sym h.0) (c f p args h.1)
  right_of s ns c (GlobalName g m x) h = neither
  right_of s ns c (EnumeratorName g ty i x) h = neither
  right_of s ns c (InputName before x) h = neither
  right_of s ns c (DefinedName before d x) h = neither
  right_of s ns c (TypeName g w) h = neither
  right_of s ns c Clock h = neither
  right_of s ns c (ConstantItself ty value) h = neither
  right_of s ns c (NameUse sc x) h = neither
  right_of s ns c (Literal sc p n) h = neither
  right_of s ns c TruthLiteral h = neither
  right_of s ns c (Unary sc op a) h = neither
  right_of s ns c (Binary sc op a b) h = neither
  right_of s ns c (Conditional a b d) h = neither
  right_of s ns c (LeftName vs before x) h = neither
  right_of s ns c (EquationItself l q) h = neither
  right_of s ns c (AssertionItself ty) h = neither
  right_of s ns c (TextEnd ds main) h = neither

  -- in a constant no call counts as recursive
  in_no_node : (s : Scope) → in_constant s ≡ true → (f : Name) (p : Position) (args : List (Option Ty)) → Right (Call s p f args)
  in_no_node s c f p args = (
    λ h. absurd (true≢false (sym h ∙ ap (λ b. cond b false (is_recursion_of r (s.globals f) s.place)) c)),
    λ h. absurd (true≢false (sym c ∙ h.0)),
  )

  -- each test of recursion is right in a constant
  pub in_constant_right : (s : Scope) → in_constant s ≡ true → (at : ℕ) (name : Spot) (ty : Option Spot) (value : Option Expr) → Every Right (walk.constant s at name ty value)
  in_constant_right s c at name ty value =
      every_weaker (StandsIn s (called_if s value)) Right (right_of s (called_if s value) (λ f p args i. in_no_node s c f p args)) (walk.constant s at name ty value) (in_constant_decl s at name ty value)

  module _ (tells : TellsCycles decls r) (width : ℕ) where
    abbrev t : Tables
    t = tables width decls

    by_meaning : (place : ℕ) (decl : Decl) (f : Name) → slice_get decls place ≡ Some decl → In f (called_by decl) → (m : Option Meaning) → globals decls f ≡ m
        → (is_recursion_of r m place ≡ true) ↔ ((false ≡ false) × IsRecursionOf decls m place)
    by_meaning place decl f d i None e = (λ h. absurd (true≢false (sym h)), λ h. elim (h.1) [ ])
    by_meaning place decl f d i (Some (Enumeration q)) e = (λ h. absurd (true≢false (sym h)), λ h. elim (h.1) [ ])
    by_meaning place decl f d i (Some (Constant q)) e = (λ h. absurd (true≢false (sym h)), λ h. elim (h.1) [ ])
    by_meaning place decl f d i (Some (Enumerator q j)) e = (λ h. absurd (true≢false (sym h)), λ h. elim (h.1) [ ])
    by_meaning place decl f d i (Some (Node callee)) e =
        let both = tells place callee (record { decl = decl; declared = d; name = f; among = i; means = e }) in (λ h. (refl, both.0 h), λ h. both.1 h.1)

    in_decl : (place kind : ℕ) (decl : Decl) → slice_get decls place ≡ Some decl → Every Right (declaration t place kind decl)
    in_decl place kind (TypeDecl at name choices) d =
        let s = constant_scope width t.globals t.signatures [] place in
        (neither, every_weaker (StandsIn s []) Right (right_of s [] (λ f p args i. in_no_node s refl f p args)) _ (in_enumerators s [] t.globals kind 0 choices))
    in_decl place kind (ConstDecl at name ty value) d =
        in_constant_right (constant_scope width t.globals t.signatures (take place t.constants) place) refl at name ty value
    in_decl place kind (NodeDecl at name inputs outputs locals its) d =
        let vs = variables t.globals its inputs outputs locals in
        let s = node_scope t place vs in
        let ns = flat_map called_in its in
        let right = right_of s ns (λ f p args i. by_meaning place (NodeDecl at name inputs outputs locals its) f d i (globals decls f) refl) in (
          neither,
          every_weaker (StandsIn s ns) Right right _
              (every_append _ _ _ (every_append _ _ _ (in_groups s ns t.globals true (defined_in its) [] inputs)
              (every_append _ _ _ (in_groups s ns t.globals false (defined_in its) (declared_names inputs) outputs) (in_groups s ns t.globals false (defined_in its) (declared_names inputs ++ declared_names outputs) locals)))
              (in_items s vs [] its)),
        )

    start : (n : ℕ) → 0 + n ≡ n
    start n = omega arith

    zero_more : (n : ℕ) → n ≡ n + 0
    zero_more n = omega arith

    next_place : (i place : ℕ) → suc i + place ≡ i + suc place
    next_place i place = omega arith

    in_decls : (place kind : ℕ) (rest : List Decl) → ((i : ℕ) → slice_get rest i ≡ slice_get decls (i + place)) → Every Right (declarations t place kind rest)
    in_decls place kind [] h = tt
    in_decls place kind (decl ∷ rest) h =
        every_append _ _ _ (in_decl place kind decl (ap (slice_get decls) (sym (start place)) ∙ sym (h 0))) (in_decls (suc place) (next_type kind decl) rest (λ i. h (suc i) ∙ ap (slice_get decls) (next_place i place)))

    pub in_walk : (all : List Decl) → all ≡ decls → Every Right (declarations t 0 0 all)
    in_walk all e = in_decls 0 0 all (λ i. ap (λ l. slice_get l i) e ∙ ap (slice_get decls) (zero_more i))

pub exact : (ast : Ast) (width : ℕ) (main : Option Name) (r : Recursions) → TellsCycles ast.decls r → (o : Occurrence) → In o (whole_walk ast width main) → Right ast.decls r o.thing
exact ast width main r h o i = every_in (Right ast.decls r) _ o (every_append _ _ _ (in_walk ast.decls r h width ast.decls refl) (neither ast.decls r, tt)) i
