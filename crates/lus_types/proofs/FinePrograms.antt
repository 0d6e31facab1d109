-- A program none of whose occurrences fails is typed, and none of its nodes reaches itself by calls.
use Rattle.std.proofs.Common.{◌≡◌, ◌∙◌, inl, inr, ⊎_elim, ℕ, zero, suc, ◌<◌, ◌≤◌, ◌+◌, Bool, true, false, not, cond, ◌||◌, ◌==◌, List, [], ◌∷◌, ◌++◌, length, map, take, Option, Some, None, slice_get, option_map, refl, sym, ap, subst, true≢false, append-nil, append_assoc, arith}
use Rattle.std.proofs.lemmas.Bool.{cases_eq, eqb-true, eq-eqb}
use Rattle.std.proofs.lemmas.List.{map-append}
use Rattle.std.proofs.lemmas.Option.{slice_get-map}
use Rattle.std.specs.List.{list_any}
use Rattle.lus_syntax.specs.declared.ast.Decl.{Decl}
use Rattle.lus_syntax.specs.declared.ast.Decl.TheVariants.{TypeDecl, ConstDecl, NodeDecl}
use Rattle.lus_syntax.specs.declared.ast.Expr.{Expr}
use Rattle.lus_syntax.specs.declared.ast.Group.{Group}
use Rattle.lus_syntax.specs.declared.ast.Item.{Item}
use Rattle.lus_syntax.specs.declared.ast.Spot.{Spot}
use Rattle.lus_types.specs.declared.expressions.scope.Variable.{Variable as Entry}
use Rattle.lus_types.specs.declared.fault.TypeKind.TheVariants as kind
use Rattle.lus_types.specs.declared.types.Meaning.{Meaning}
use Rattle.lus_types.specs.declared.types.Meaning.TheVariants as means
use Rattle.lus_types.specs.declared.types.Position.TheVariants.{Inside}
use Rattle.op_network.specs.declared.limits.TheConstants.{MOST_NAMES}
use Rattle.op_network.specs.declared.value.Ty.{Ty}
use Rattle.op_network.specs.declared.value.Ty.TheVariants.{Choice}
use Rattle.lus_types.specs.Calls.{In, here}
use Rattle.lus_types.specs.Constants.{constant_scope, constant_type, constants_from, fails_in_constant}
use Rattle.lus_types.specs.Names.{Name, Globals, means as means_this, defined_in, entry_of, globals, lefts, declared_names}
use Rattle.lus_types.specs.NameTables.{HasSmallChoices}
use Rattle.lus_types.specs.Occurrences.{Occurrence, Scope, Variables, flat, global_value, unless_hidden}
use Rattle.lus_types.specs.Programs.{Node, Program, Variable, constant_meant, names, node_declared, node_meant, or_outer, program_of, type_in, type_of_name, variables, variables_of}
use Rattle.lus_types.specs.ProgramTypes.{AreDistinct, HasNodes, IsTypedNode}
use Rattle.lus_types.specs.Signatures as table
use Rattle.lus_types.specs.Kinds.{is_clocked, is_unsupported, is_duplicate, is_unknown, is_not_a_node, is_arity, is_mismatch, is_out_of_range, is_undefined, is_defined_twice, defines_input, is_no_main}
use Rattle.lus_types.specs.Typing.{IsFine, Tables, body, declarations, header, is_node_in, is_node_place, node_scope, tables}
use Rattle.lus_types.specs.Walk.{constant, declared_type_name, enumerator_names, expression, groups, items, value_type}
use Rattle.lus_types.proofs.FineExprs.{IsCalledNode, typed_part}
use Rattle.lus_types.proofs.FineHeaders.{AreNew, distinct_of_new, entry_with, groups_defined, header_entries, header_new, in_of_among, is_no, is_yes, new_append}
use Rattle.lus_types.proofs.FineNodes.{Matches, found_name, found_none, found_type, items_declared, items_new, items_typed, matches_append, matches_map, names_declared, signature_types}
use Rattle.lus_types.proofs.FineParts.{AreFine, HasChoice, IsConstantAt, IsNodeAt, declared_meaning, fine_at, fine_front, fine_rest, fine_tail}
use Rattle.lus_types.proofs.Members.{in_append}

pub from_zero : (n : ℕ) → 0 + n ≡ n
from_zero n = omega arith

pub plus_none : (n : ℕ) → n + 0 ≡ n
plus_none n = omega arith

pub next_place : (i place : ℕ) → i + suc place ≡ suc i + place
next_place i place = omega arith

pub not_below : (n : ℕ) → n < 0 → ⊥
not_below n h = omega arith

pub earlier : (p place n : ℕ) → p < place → place < suc n → p < n
earlier p place n h k = omega arith

pub same_decl : (d e : Decl) → Some d ≡ Some e → d ≡ e
same_decl d e h = cc h

means_is : (place : ℕ) (m : Option Meaning) → (not (means_this (means.Node place) m) ≡ true → ⊥) → m ≡ Some (means.Node place)
means_is place None h = absurd (h refl)
means_is place (Some (means.Enumeration ty)) h = absurd (h refl)
means_is place (Some (means.Constant p)) h = absurd (h refl)
means_is place (Some (means.Enumerator ty i)) h = absurd (h refl)
means_is place (Some (means.Node p)) h = ap (λ n. Some (means.Node n)) (sym (eqb-true place p (is_yes (place == p) h)))

-- the place behind the most enumerators isn't reached
not_last : (j : ℕ) → j ≤ MOST_NAMES → (j == MOST_NAMES) ≡ false → suc j ≤ MOST_NAMES
not_last j h e = ⊎_elim (λ same. absurd (true≢false (sym (eq-eqb j MOST_NAMES same) ∙ e))) (λ apart. omega arith) (cases_eq j MOST_NAMES)

pub same_type : (d e : Option Ty) → Some d ≡ Some e → d ≡ e
same_type d e h = cc h

one_less : (m n : ℕ) → suc m ≡ suc n → m ≡ n
one_less m n h = omega arith

one_more_below : (p n : ℕ) → p < n → suc p < suc n
one_more_below p n h = omega arith

module _ {A : Type 0} where
  pub take_front : (xs ys : List A) → take (length xs) (xs ++ ys) ≡ xs
  take_front [] ys = refl
  take_front (x ∷ xs) ys = ap (λ l. x ∷ l) (take_front xs ys)

  pub get_here : (xs : List A) (y : A) (ys : List A) → slice_get (xs ++ y ∷ ys) (length xs) ≡ Some y
  get_here [] y ys = refl
  get_here (x ∷ xs) y ys = get_here xs y ys

  pub one_longer : (xs : List A) (y : A) (n : ℕ) → length xs ≡ n → length (xs ++ y ∷ []) ≡ suc n
  one_longer [] y n h = ap suc h
  one_longer (x ∷ xs) y zero h = cc h
  one_longer (x ∷ xs) y (suc n) h = ap suc (one_longer xs y n (one_less (length xs) n h))

  pub in_front : (n : ℕ) (xs : List A) (p : ℕ) (x : A) → slice_get (take n xs) p ≡ Some x → (p < n) × (slice_get xs p ≡ Some x)
  in_front zero xs p x h = cc h
  in_front (suc n) [] p x h = cc h
  in_front (suc n) (y ∷ xs) zero x h = (omega arith, h)
  in_front (suc n) (y ∷ xs) (suc p) x h = let w = in_front n xs p x h in (one_more_below p n w.0, w.1)

or_no : (a b : Bool) → a ≡ false → b ≡ false → a || b ≡ false
or_no true b h k = absurd (true≢false h)
or_no false b h k = k

-- what is fine doesn't fail in a constant
fine_thing : (decls : List Decl) (o : Occurrence) → IsFine decls o → fails_in_constant o.thing ≡ false
fine_thing decls o f =
    let t = o.thing in
    or_no (is_clocked t) _ (is_no (is_clocked t) (f kind.Clocked)) (or_no (is_unsupported t) _ (is_no (is_unsupported t) (f kind.Unsupported))
    (or_no (is_duplicate t) _ (is_no (is_duplicate t) (f kind.Duplicate)) (or_no (is_unknown t) _ (is_no (is_unknown t) (f kind.Unknown))
    (or_no (is_not_a_node t) _ (is_no (is_not_a_node t) (f kind.NotANode)) (or_no (is_arity t) _ (is_no (is_arity t) (f kind.Arity))
    (or_no (is_mismatch t) _ (is_no (is_mismatch t) (f kind.Mismatch)) (or_no (is_out_of_range t) _ (is_no (is_out_of_range t) (f kind.LiteralRange))
    (or_no (is_undefined t) _ (is_no (is_undefined t) (f kind.Undefined)) (or_no (is_defined_twice t) _ (is_no (is_defined_twice t) (f kind.DefinedTwice))
    (or_no (defines_input t) _ (is_no (defines_input t) (f kind.DefinesInput)) (or_no (is_no_main t) _ (is_no (is_no_main t) (f kind.NoMain)) refl)))))))))))

-- where no occurrence fails none fails as constants are judged
none_fail : (decls : List Decl) (os : List Occurrence) → AreFine decls os → list_any (λ (o : Occurrence). fails_in_constant o.thing) os ≡ false
none_fail decls [] f = refl
none_fail decls (o ∷ os) f = or_no (fails_in_constant o.thing) _ (fine_thing decls o (f o here)) (none_fail decls os (fine_tail decls o os f))

module _ (decls : List Decl) (width : ℕ) (fine : AreFine decls (declarations (tables width decls) 0 0 decls)) where
  abbrev pub g : Globals
  g = globals decls

  abbrev pub t : Tables
  t = tables width decls

  abbrev pub program : Program
  program = program_of decls width

  -- ---- the header of a node

  module _ (place at : ℕ) (name : Spot) (ins outs locs : List Group) (its : List Item) (declared : slice_get decls place ≡ Some (NodeDecl at name ins outs locs its)) where
    abbrev pub the_node : Node
    the_node = record { name = name.text; inputs = variables_of g ins; outputs = variables_of g outs; locals = variables_of g locs; items = its }

    abbrev pub vs : Variables
    vs = table.variables g its ins outs locs

    whole : AreFine decls (header g ins outs locs its ++ body t place vs its)
    whole = fine_tail decls _ _ (fine_at decls t place (NodeDecl at name ins outs locs its) fine declared).1

    the_header : AreFine decls (header g ins outs locs its)
    the_header = fine_front decls (header g ins outs locs its) _ whole

    pub the_body : AreFine decls (body t place vs its)
    the_body = fine_rest decls (header g ins outs locs its) _ whole

    of_inputs : AreFine decls (groups g true (defined_in its) [] ins)
    of_inputs = fine_front decls (groups g true (defined_in its) [] ins) _ the_header

    of_others : AreFine decls (groups g false (defined_in its) (declared_names ins) outs ++ groups g false (defined_in its) (declared_names ins ++ declared_names outs) locs)
    of_others = fine_rest decls (groups g true (defined_in its) [] ins) _ the_header

    of_outputs : AreFine decls (groups g false (defined_in its) (declared_names ins) outs)
    of_outputs = fine_front decls (groups g false (defined_in its) (declared_names ins) outs) _ of_others

    of_locals : AreFine decls (groups g false (defined_in its) (declared_names ins ++ declared_names outs) locs)
    of_locals = fine_rest decls (groups g false (defined_in its) (declared_names ins) outs) _ of_others

    inputs_are : table.inputs_of g its ins ≡ map (entry_with true) the_node.inputs
    inputs_are = header_entries decls g true (defined_in its) [] ins of_inputs

    outputs_are : table.outputs_of g its ins outs ≡ map (entry_with false) the_node.outputs
    outputs_are = header_entries decls g false (defined_in its) (declared_names ins) outs of_outputs

    locals_are : table.locals_of g its ins outs locs ≡ map (entry_with false) the_node.locals
    locals_are = header_entries decls g false (defined_in its) (declared_names ins ++ declared_names outs) locs of_locals

    abbrev rows : table.Row
    rows = map (entry_with true) the_node.inputs ++ (map (entry_with false) the_node.outputs ++ map (entry_with false) the_node.locals)

    table_is : (x : Name) → vs x ≡ entry_of rows x
    table_is x = λ i. entry_of (inputs_are i ++ (outputs_are i ++ locals_are i)) x

    matching : Matches rows (variables the_node)
    matching = matches_append _ _ _ _ (matches_map true the_node.inputs) (matches_append _ _ _ _ (matches_map false the_node.outputs) (matches_map false the_node.locals))

    variable_typed : (x : Name) (v : Entry) → vs x ≡ Some v → (ty : Ty) × (v.ty ≡ Some ty) × (type_in the_node x ≡ Some ty)
    variable_typed x v h = found_type rows (variables the_node) matching x v (sym (table_is x) ∙ h)

    no_variable : (x : Name) → vs x ≡ None → type_in the_node x ≡ None
    no_variable x h = found_none rows (variables the_node) matching x (sym (table_is x) ∙ h)

    defined_name : (x : Name) (v : Entry) → vs x ≡ Some v → v.is_input ≡ false → In x (names (the_node.outputs ++ the_node.locals))
    defined_name x v h k =
        found_name the_node.inputs (the_node.outputs ++ the_node.locals) x v
        (ap (λ row. entry_of (map (entry_with true) the_node.inputs ++ row) x) (map-append (entry_with false) the_node.outputs the_node.locals) ∙ sym (table_is x) ∙ h) k

    all_names : names (variables the_node) ≡ declared_names ins ++ (declared_names outs ++ declared_names locs)
    all_names =
        map-append (λ (v : Variable). v.name) the_node.inputs (the_node.outputs ++ the_node.locals)
        ∙ ap (λ ns. names the_node.inputs ++ ns) (map-append (λ (v : Variable). v.name) the_node.outputs the_node.locals)
        ∙ (λ i. names_declared g ins i ++ (names_declared g outs i ++ names_declared g locs i))

    all_new : AreNew [] (declared_names ins ++ (declared_names outs ++ declared_names locs))
    all_new =
        new_append [] (declared_names ins) _ (header_new decls g true (defined_in its) [] ins of_inputs)
        (new_append (declared_names ins) (declared_names outs) (declared_names locs) (header_new decls g false (defined_in its) (declared_names ins) outs of_outputs)
        (header_new decls g false (defined_in its) (declared_names ins ++ declared_names outs) locs of_locals))

    pub names_differ : AreDistinct (names (variables the_node))
    names_differ = subst AreDistinct (sym all_names) (distinct_of_new [] _ all_new)

    pub have_equations : (x : Name) → In x (names (the_node.outputs ++ the_node.locals)) → In x (lefts its)
    have_equations x i =
        let j = subst (In x) (map-append (λ (v : Variable). v.name) the_node.outputs the_node.locals ∙ (λ k. names_declared g outs k ++ names_declared g locs k)) i in
        in_of_among x (lefts its) (elim (in_append (declared_names outs) (declared_names locs) x j) [
          | inl k ↦ groups_defined decls g (defined_in its) (declared_names ins) outs of_outputs x k
          | inr k ↦ groups_defined decls g (defined_in its) (declared_names ins ++ declared_names outs) locs of_locals x k
        ])

  -- ---- calls

  module _ (s : Scope) (same_globals : s.globals ≡ g) (same_signatures : s.signatures ≡ t.signatures) (name_type : Name → Option Ty) where
    called_node : (f : Name) (c : ℕ) → s.globals f ≡ Some (means.Node c) → IsCalledNode decls s name_type program.node f c
    called_node f c h =
        let meant : g f ≡ Some (means.Node c) = ap (λ (g : Globals). g f) (sym same_globals) ∙ h in
        let d : IsNodeAt decls c f = declared_meaning decls f (means.Node c) meant in
        let found : slice_get t.signatures c ≡ Some (Some (table.node_signature g d.items d.inputs d.outputs)) = slice_get-map (table.signature g) decls c ∙ ap (option_map (table.signature g)) d.declared in
        record {
          callee = the_node c d.at d.name d.inputs d.outputs d.locals d.items d.declared;
          is_node = ap (node_meant g decls) meant ∙ ap (node_declared g) d.declared;
          signature = table.node_signature g d.items d.inputs d.outputs;
          is_signature = ap (λ sigs. flat (slice_get sigs c)) same_signatures ∙ ap flat found;
          params = ap table.types_in (inputs_are c d.at d.name d.inputs d.outputs d.locals d.items d.declared) ∙ signature_types true (variables_of g d.inputs);
          results = ap table.types_in (outputs_are c d.at d.name d.inputs d.outputs d.locals d.items d.declared) ∙ signature_types false (variables_of g d.outputs);
        }

  -- ---- constants

  abbrev pub known : List (Option Ty)
  known = t.constants

  grown : (place : ℕ) (before : List (Option Ty)) (rest : List Decl) → (more : List (Option Ty)) × (constants_from width g t.signatures place before rest ≡ before ++ more)
  grown place before [] = ([], sym (append-nil before))
  grown place before (d ∷ rest) =
      let x = constant_type (constant_scope width g t.signatures before place) d in
      let w = grown (suc place) (before ++ x ∷ []) rest in (x ∷ w.0, w.1 ∙ append_assoc before (x ∷ []) w.0)

  abbrev TypeAt : ℕ → Decl → List (Option Ty) → Type 0
  TypeAt place d all = slice_get all place ≡ Some (constant_type (constant_scope width g t.signatures (take place all) place) d)

  type_from : (place : ℕ) (before : List (Option Ty)) (rest : List Decl) → length before ≡ place → (i : ℕ) (d : Decl) → slice_get rest i ≡ Some d → TypeAt (i + place) d (constants_from width g t.signatures place before rest)
  type_from place before [] l i d h = cc h
  type_from place before (e ∷ rest) l zero d h =
      let x = constant_type (constant_scope width g t.signatures before place) e in
      let w = grown (suc place) (before ++ x ∷ []) rest in
      let all = constants_from width g t.signatures (suc place) (before ++ x ∷ []) rest in
      let is : all ≡ before ++ x ∷ w.0 = w.1 ∙ append_assoc before (x ∷ []) w.0 in
      let at : 0 + place ≡ length before = from_zero place ∙ sym l in
      let front : take (0 + place) all ≡ before = (λ j. take (at j) (is j)) ∙ take_front before (x ∷ w.0) in
      (λ j. slice_get (is j) (at j)) ∙ get_here before x w.0
      ∙ (λ j. Some (constant_type (constant_scope width g t.signatures (sym front j) (sym (from_zero place) j)) (same_decl e d h j)))
  type_from place before (e ∷ rest) l (suc i) d h =
      let x = constant_type (constant_scope width g t.signatures before place) e in
      subst (λ n. TypeAt n d (constants_from width g t.signatures (suc place) (before ++ x ∷ []) rest)) (next_place i place)
      (type_from (suc place) (before ++ x ∷ []) rest (one_longer before x place l) i d h)

  type_at : (place : ℕ) (d : Decl) → slice_get decls place ≡ Some d → TypeAt place d known
  type_at place d h = subst (λ n. TypeAt n d known) (plus_none place) (type_from 0 [] decls refl place d h)

  -- the constants below a place have types
  abbrev pub AreTypedBelow : ℕ → Type 0
  AreTypedBelow n = (place : ℕ) (x : Name) → place < n → IsConstantAt decls place x → (ty : Ty) × (slice_get known place ≡ Some (Some ty))

  global_typed : (n : ℕ) → AreTypedBelow n → (x : Name) (m : Option Meaning) (o : Option Ty) → g x ≡ m → global_value (take n known) m ≡ Some o → (ty : Ty) × (o ≡ Some ty) × (constant_meant known m ≡ Some ty)
  global_typed n w x None o e h = cc h
  global_typed n w x (Some (means.Enumeration ty)) o e h = cc h
  global_typed n w x (Some (means.Node place)) o e h = cc h
  global_typed n w x (Some (means.Enumerator ty i)) o e h = (Choice ty, sym (same_type _ o h), refl)
  global_typed n w x (Some (means.Constant place)) o e h =
      let at = in_front n known place o h in
      let c = w place x at.0 (declared_meaning decls x (means.Constant place) e) in
      (c.0, same_type o (Some c.0) (sym at.1 ∙ c.1), ap flat c.1)

  module _ (place : ℕ) (below : AreTypedBelow place) (at : ℕ) (name : Spot) (ty : Option Spot) where
    abbrev pub scope : Scope
    scope = constant_scope width g t.signatures (take place known) place

    pub typed_value : (value : Option Expr) → slice_get decls place ≡ Some (ConstDecl at name ty value) → (u : Ty) × (value_type scope value ≡ Some (Some u))
    typed_value None d =
        absurd (fine_rest decls (declared_type_name g ty) _ (fine_tail decls _ _ (fine_at decls t place (ConstDecl at name ty None) fine d).1) _ here kind.Unsupported refl)
    typed_value (Some e) d =
        let all = fine_tail decls _ _ (fine_at decls t place (ConstDecl at name ty (Some e)) fine d).1 in
        let own = fine_front decls (expression scope Inside e) _ (fine_rest decls (declared_type_name g ty) _ all) in
        let w = typed_part decls scope program.constant program.node (λ x o h. global_typed place below x (g x) o refl h) (called_node scope refl refl program.constant) e own in
        (w.ty, ap Some w.is_type)

    nothing_fails : (value : Option Expr) → slice_get decls place ≡ Some (ConstDecl at name ty value) → list_any (λ (o : Occurrence). fails_in_constant o.thing) (constant scope at name ty value) ≡ false
    nothing_fails value d =
        none_fail decls (constant scope at name ty value) (fine_at decls t place (ConstDecl at name ty value) fine d).1

    -- the type of a constant is that of its expression
    pub type_is : (value : Option Expr) → slice_get decls place ≡ Some (ConstDecl at name ty value) → slice_get known place ≡ Some (flat (value_type scope value))
    type_is value d = type_at place (ConstDecl at name ty value) d ∙ ap (λ b. Some (cond b None (flat (value_type scope value)))) (nothing_fails value d)

    pub typed_constant : (value : Option Expr) → slice_get decls place ≡ Some (ConstDecl at name ty value) → (u : Ty) × (slice_get known place ≡ Some (Some u))
    typed_constant value d =
        let w = typed_value value d in
        (w.0, type_is value d ∙ ap (λ o. Some (flat o)) w.1)

  pub typed_below : (n : ℕ) → AreTypedBelow n
  typed_below zero place x within d = absurd (not_below place within)
  typed_below (suc n) place x within d =
      typed_constant place (λ p y inside c. typed_below n p y (earlier p place n inside within) c) d.at d.name d.ty d.value d.declared

  all_typed_constants : AreTypedBelow (length known)
  all_typed_constants = typed_below (length known)

  -- ---- nodes

  all_known : take (length known) known ≡ known
  all_known = ap (take (length known)) (sym (append-nil known)) ∙ take_front known []

  value_typed : (x : Name) (o : Option Ty) → global_value known (g x) ≡ Some o → (ty : Ty) × (o ≡ Some ty) × (program.constant x ≡ Some ty)
  value_typed x o h = global_typed (length known) all_typed_constants x (g x) o refl (ap (λ l. global_value l (g x)) all_known ∙ h)

  module _ (place at : ℕ) (name : Spot) (ins outs locs : List Group) (its : List Item) (declared : slice_get decls place ≡ Some (NodeDecl at name ins outs locs its)) where
    abbrev this_node : Node
    this_node = the_node place at name ins outs locs its declared

    abbrev these : Variables
    these = vs place at name ins outs locs its declared

    abbrev its_scope : Scope
    its_scope = node_scope t place these

    name_is_typed : (x : Name) (m : Option Entry) → these x ≡ m → (o : Option Ty) → unless_hidden m (global_value known (g x)) ≡ Some o → (ty : Ty) × (o ≡ Some ty) × (type_of_name program this_node x ≡ Some ty)
    name_is_typed x None e o h =
        let w = value_typed x o h in
        (w.0, w.1, ap (λ own. or_outer own (program.constant x)) (no_variable place at name ins outs locs its declared x e) ∙ w.2)
    name_is_typed x (Some v) e o h =
        let w = variable_typed place at name ins outs locs its declared x v e in
        (w.0, same_type o (Some w.0) (sym h ∙ ap Some w.1), ap (λ own. or_outer own (program.constant x)) w.2)

    variable_is_typed : (x : Name) (v : Entry) → these x ≡ Some v → (ty : Ty) × (v.ty ≡ Some ty) × (type_of_name program this_node x ≡ Some ty)
    variable_is_typed x v e = let w = variable_typed place at name ins outs locs its declared x v e in (w.0, w.1, ap (λ own. or_outer own (program.constant x)) w.2)

    fine_items : AreFine decls (items its_scope these [] its)
    fine_items = the_body place at name ins outs locs its declared

    typed_node : IsTypedNode program this_node
    typed_node = record {
      distinct = names_differ place at name ins outs locs its declared;
      items = items_typed decls its_scope these (type_of_name program this_node) program.node variable_is_typed
          (λ x o h. name_is_typed x (these x) refl o h) (called_node its_scope refl refl (type_of_name program this_node)) [] its fine_items;
      once = distinct_of_new [] (lefts its) (items_new decls its_scope these (type_of_name program this_node) program.node [] its fine_items);
      defined = have_equations place at name ins outs locs its declared;
      defines = λ x i.
          let w = items_declared decls its_scope these (type_of_name program this_node) program.node [] its fine_items x i in
          defined_name place at name ins outs locs its declared x w.0 w.1 w.2;
    }

  same_node : (m n : Node) → Some m ≡ Some n → m ≡ n
  same_node m n h = cc h

  abbrev pub IsNodeOf : Name → Node → Type 0
  IsNodeOf f node = (place : ℕ) × (g f ≡ Some (means.Node place)) × (d : IsNodeAt decls place f) × (the_node place d.at d.name d.inputs d.outputs d.locals d.items d.declared ≡ node)

  found : (f : Name) (node : Node) (m : Option Meaning) → g f ≡ m → node_meant g decls m ≡ Some node → IsNodeOf f node
  found f node None e h = cc h
  found f node (Some (means.Enumeration ty)) e h = cc h
  found f node (Some (means.Constant place)) e h = cc h
  found f node (Some (means.Enumerator ty i)) e h = cc h
  found f node (Some (means.Node place)) e h =
      let d : IsNodeAt decls place f = declared_meaning decls f (means.Node place) e in
      (place, e, d, same_node (the_node place d.at d.name d.inputs d.outputs d.locals d.items d.declared) node (sym (ap (node_declared g) d.declared) ∙ h))

  -- the declaration of a node of the program
  pub node_is : (f : Name) (node : Node) → program.node f ≡ Some node → IsNodeOf f node
  node_is f node h = found f node (g f) refl h

  pub each_typed : (f : Name) (node : Node) → program.node f ≡ Some node → IsTypedNode program node
  each_typed f node h =
      let w = node_is f node h in
      let d = w.2 in
      subst (IsTypedNode program) w.3 (typed_node w.0 d.at d.name d.inputs d.outputs d.locals d.items d.declared)

  -- ---- nodes by their names

  by_name : (place : ℕ) (d : Option Decl) (node : Node) → slice_get decls place ≡ d → node_declared g d ≡ Some node → program.node node.name ≡ Some node
  by_name place None node e h = cc h
  by_name place (Some (TypeDecl at name choices)) node e h = cc h
  by_name place (Some (ConstDecl at name ty value)) node e h = cc h
  by_name place (Some (NodeDecl at name ins outs locs its)) node e h =
      let this = the_node place at name ins outs locs its e in
      let means_it = means_is place (g name.text) ((fine_at decls t place (NodeDecl at name ins outs locs its) fine e).1 _ here kind.Duplicate) in
      let is = same_node this node h in
      subst (λ (n : Node). program.node n.name ≡ Some n) is (ap (node_meant g decls) means_it ∙ ap (node_declared g) e)

  main_is : (place : ℕ) (d : Option Decl) → is_node_in d ≡ true → (node : Node) × (node_declared g d ≡ Some node)
  main_is place None h = absurd (true≢false (sym h))
  main_is place (Some (TypeDecl at name choices)) h = absurd (true≢false (sym h))
  main_is place (Some (ConstDecl at name ty value)) h = absurd (true≢false (sym h))
  main_is place (Some (NodeDecl at name ins outs locs its)) h = (record { name = name.text; inputs = variables_of g ins; outputs = variables_of g outs; locals = variables_of g locs; items = its }, refl)

  pub has_nodes : (main : ℕ) → is_node_place decls main ≡ true → HasNodes decls width main
  has_nodes main h =
      let w = main_is main (slice_get decls main) h in
      record { named = λ place node k. by_name place (slice_get decls place) node refl k; main_node = w.0; is_main = w.1 }

  -- ---- enumerators

  pub few_choices : (ty j : ℕ) (choices : List Spot) → AreFine decls (enumerator_names g ty j choices) → j ≤ MOST_NAMES → j + length choices ≤ MOST_NAMES
  few_choices ty j [] f h = omega arith
  few_choices ty j (c ∷ choices) f h =
      let rest = few_choices ty (suc j) choices (fine_tail decls _ _ f) (not_last j h (is_no (j == MOST_NAMES) (f _ here kind.Unsupported))) in omega (arith, rest)

  pub small_choices : HasSmallChoices g
  small_choices x ty i h =
      let d : HasChoice decls ty i = declared_meaning decls x (means.Enumerator ty i) h in
      let at = fine_at decls t d.place (TypeDecl d.at d.name d.choices) fine d.declared in
      let few = few_choices at.0 0 d.choices (fine_tail decls _ _ at.1) (omega arith) in
      omega (arith, few, d.within)
