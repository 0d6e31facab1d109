-- A node whose occurrences are fine is typed: its variables differ, its items have types, and just its outputs and
-- locals have equations, each one.
use Rattle.std.proofs.Common.{◌≡◌, ◌∙◌, inl, inr, Bool, true, false, not, ◌&&◌, ◌==◌, cond, List, [], ◌∷◌, ◌++◌, length, map, Option, Some, None, refl, sym, ap, subst, true≢false}
use Rattle.std.proofs.lemmas.Bool.{eqb-true}
use Rattle.std.proofs.lemmas.List.{map-append, length-map}
use Rattle.std.proofs.lemmas.Slice.Eq.{bytes_eq-Decides}
use Rattle.std.specs.Str.{bytes_eq}
use Rattle.lus_syntax.specs.declared.ast.Decl.{Decl}
use Rattle.lus_syntax.specs.declared.ast.Group.{Group}
use Rattle.lus_syntax.specs.declared.ast.Item.{Item}
use Rattle.lus_syntax.specs.declared.ast.Item.TheVariants.{Assert, Equation}
use Rattle.lus_syntax.specs.declared.ast.Spot.{Spot}
use Rattle.lus_types.specs.declared.expressions.scope.Variable.{Variable as Entry}
use Rattle.lus_types.specs.declared.fault.TypeKind.TheVariants as kind
use Rattle.lus_types.specs.declared.types.Position.TheVariants.{Whole, Inside}
use Rattle.op_network.specs.declared.value.Ty.{Ty}
use Rattle.op_network.specs.declared.value.Ty.TheVariants.{Truth}
use Rattle.lus_types.specs.Calls.{In, here, there}
use Rattle.lus_types.specs.Kinds.{is_an_input, wrong_number, wrong_right}
use Rattle.lus_types.specs.Names.{Name, Globals, entry_of, is_among, left_of, lefts, declared_names, spot_names}
use Rattle.lus_types.specs.Occurrences.{Scope, Variables, is_missing}
use Rattle.lus_types.specs.Programs.{Node, Variable, names, types, or_truth, variables_of, variables_of_group}
use Rattle.lus_types.specs.ProgramTypes.{HasTypes, IsTypedItem, NamesHaveTypes, no_names, more_names, typed_equation, typed_assertion}
use Rattle.lus_types.specs.Signatures.{Row, types_in}
use Rattle.lus_types.specs.Types.{type_named, all_typed, any_differ, differ}
use Rattle.op_network.specs.Operators.{is_same_type}
use Rattle.lus_types.specs.Walk.{expression, item, items, left_names, left_types, type_in as type_in_table}
use Rattle.lus_types.proofs.FineExprs.{NamesAreTyped, CallsAreTyped, all_some, none_differ, same_is, typed_expr, typed_part}
use Rattle.lus_types.proofs.FineHeaders.{AreNew, entry_with, in_cases, is_no, new_append}
use Rattle.lus_types.proofs.FineParts.{AreFine, fine_front, fine_rest, fine_tail}
use Rattle.lus_types.proofs.Members.{in_append}

-- ---- variables as tables have them, and as the program has them

pub data Matches : Row → List Variable → Type 0 where
  no_more : Matches [] []
  one_more : (is_input : Bool) (v : Variable) {row : Row} {vs : List Variable} → Matches row vs → Matches (entry_with is_input v ∷ row) (v ∷ vs)

pub matches_map : (is_input : Bool) (vs : List Variable) → Matches (map (entry_with is_input) vs) vs
matches_map is_input [] = no_more
matches_map is_input (v ∷ vs) = one_more is_input v (matches_map is_input vs)

pub matches_append : (as' bs : Row) (vs ws : List Variable) → Matches as' vs → Matches bs ws → Matches (as' ++ bs) (vs ++ ws)
matches_append as' bs vs ws no_more k = k
matches_append as' bs vs ws (one_more is_input v h) k = one_more is_input v (matches_append _ bs _ ws h k)

abbrev pub named_types : List Variable → List (Name × Ty)
named_types vs = map (λ (v : Variable). (v.name, v.ty)) vs

entry_is : (a b : Entry) → Some a ≡ Some b → a ≡ b
entry_is a b h = cc h

-- a variable that the table finds has the type that the program gives it
pub found_type : (row : Row) (vs : List Variable) → Matches row vs → (x : Name) (v : Entry) → entry_of row x ≡ Some v → (t : Ty) × (v.ty ≡ Some t) × (entry_of (named_types vs) x ≡ Some t)
found_type row vs no_more x v h = cc h
found_type row vs (one_more is_input w {row = rest} {vs = ws} m) x v h = elim (bytes_eq x w.name) as (λ b. cond b (Some (record { ty = Some w.ty; is_input = is_input })) (entry_of rest x) ≡ Some v → (t : Ty) × (v.ty ≡ Some t) × (cond b (Some w.ty) (entry_of (named_types ws) x) ≡ Some t)) [
  | true ↦ λ e. (w.ty, sym (ap (λ (z : Entry). z.ty) (entry_is _ v e)), refl)
  | false ↦ λ e. found_type rest ws m x v e
] h

pub found_none : (row : Row) (vs : List Variable) → Matches row vs → (x : Name) → entry_of row x ≡ None → entry_of (named_types vs) x ≡ None
found_none row vs no_more x h = refl
found_none row vs (one_more is_input w {row = rest} {vs = ws} m) x h = elim (bytes_eq x w.name) as (λ b. cond b (Some (record { ty = Some w.ty; is_input = is_input })) (entry_of rest x) ≡ None → cond b (Some w.ty) (entry_of (named_types ws) x) ≡ None) [
  | true ↦ λ e. cc e
  | false ↦ λ e. found_none rest ws m x e
] h

-- a name that is found and is no input is one of the others
pub found_name : (ins others : List Variable) (x : Name) (v : Entry) → entry_of (map (entry_with true) ins ++ map (entry_with false) others) x ≡ Some v → v.is_input ≡ false → In x (names others)
found_name [] [] x v h k = cc h
found_name [] (w ∷ others) x v h k = elim (bytes_eq x w.name) as (λ b. bytes_eq x w.name ≡ b → cond b (Some (record { ty = Some w.ty; is_input = false })) (entry_of (map (entry_with false) others) x) ≡ Some v → In x (names (w ∷ others))) [
  | true ↦ λ same e. subst (λ n. In x (n ∷ names others)) ((bytes_eq-Decides x w.name).0 same) here
  | false ↦ λ same e. there (found_name [] others x v e k)
] refl h
found_name (w ∷ ins) others x v h k = elim (bytes_eq x w.name) as (λ b. cond b (Some (record { ty = Some w.ty; is_input = true })) (entry_of (map (entry_with true) ins ++ map (entry_with false) others) x) ≡ Some v → In x (names others)) [
  | true ↦ λ e. absurd (true≢false (ap (λ (z : Entry). z.is_input) (entry_is _ v e) ∙ k))
  | false ↦ λ e. found_name ins others x v e k
] h

pub signature_types : (is_input : Bool) (vs : List Variable) → types_in (map (entry_with is_input) vs) ≡ map Some (types vs)
signature_types is_input [] = refl
signature_types is_input (v ∷ vs) = ap (λ rest. Some v.ty ∷ rest) (signature_types is_input vs)

names_of_spots : (t : Ty) (spots : List Spot) → names (variables_of_group t spots) ≡ spot_names spots
names_of_spots t [] = refl
names_of_spots t (s ∷ spots) = ap (λ rest. s.text ∷ rest) (names_of_spots t spots)

pub names_declared : (g : Globals) (gs : List Group) → names (variables_of g gs) ≡ declared_names gs
names_declared g [] = refl
names_declared g (x ∷ gs) = map-append (λ (v : Variable). v.name) (variables_of_group (or_truth (type_named g x.ty.text)) x.names) (variables_of g gs) ∙ (λ i. names_of_spots (or_truth (type_named g x.ty.text)) x.names i ++ names_declared g gs i)

-- ---- items

is_variable : (m : Option Entry) → (is_missing m ≡ true → ⊥) → (is_an_input m ≡ true → ⊥) → (v : Entry) × (m ≡ Some v) × (v.is_input ≡ false)
is_variable None h k = absurd (h refl)
is_variable (Some v) h k = (v, refl, is_no v.is_input k)

module _ (decls : List Decl) (s : Scope) (vs : Variables) (name_type : Name → Option Ty) (node : Name → Option Node) where
  left_new : (before : List Name) (left : List Spot) → AreFine decls (left_names vs before left) → AreNew before (spot_names left)
  left_new before [] f = tt
  left_new before (x ∷ left) f = (is_no (is_among x.text before) (f _ here kind.DefinedTwice), left_new (before ++ x.text ∷ []) left (fine_tail decls _ _ f))

  left_declared : (before : List Name) (left : List Spot) → AreFine decls (left_names vs before left) → (x : Name) → In x (spot_names left) → (v : Entry) × (vs x ≡ Some v) × (v.is_input ≡ false)
  left_declared before [] f x i = elim i [ ]
  left_declared before (y ∷ left) f x i = elim (in_cases i) [
    | inl same ↦ let w = is_variable (vs y.text) (f _ here kind.Unknown) (f _ here kind.DefinesInput) in (w.0, ap vs same ∙ w.1, w.2)
    | inr j ↦ left_declared (before ++ y.text ∷ []) left (fine_tail decls _ _ f) x j
  ]

  -- each variable of the table has a type, which the program gives its name
  module _ (typed : (x : Name) (v : Entry) → vs x ≡ Some v → (t : Ty) × (v.ty ≡ Some t) × (name_type x ≡ Some t)) where
    left_typed : (before : List Name) (left : List Spot) → AreFine decls (left_names vs before left) → (ts : List Ty) × (left_types vs left ≡ map Some ts) × NamesHaveTypes name_type left ts
    left_typed before [] f = ([], refl, no_names)
    left_typed before (x ∷ left) f =
        let w = is_variable (vs x.text) (f _ here kind.Unknown) (f _ here kind.DefinesInput) in
        let t = typed x.text w.0 w.1 in
        let rest = left_typed (before ++ x.text ∷ []) left (fine_tail decls _ _ f) in
        let own : type_in_table (vs x.text) ≡ Some t.0 = ap type_in_table w.1 ∙ t.1 in
        (t.0 ∷ rest.0, (λ i. own i ∷ rest.1 i), more_names t.2 rest.2)

    not_false : (b : Bool) → not b ≡ false → b ≡ true
    not_false true h = refl
    not_false false h = absurd (true≢false h)

    no_third : (a b c : Bool) → a ≡ true → b ≡ true → ((a && (b && c)) ≡ true → ⊥) → c ≡ false
    no_third true true c h k l = is_no c l
    no_third true false c h k l = absurd (true≢false (sym k))
    no_third false b c h k l = absurd (true≢false (sym h))

    same_truth : (t : Ty) → (differ (Some t) (Some Truth) ≡ true → ⊥) → t ≡ Truth
    same_truth t h = elim (is_same_type t Truth) as (λ b. is_same_type t Truth ≡ b → (cond b false true ≡ true → ⊥) → t ≡ Truth) [
      | true ↦ λ e k. same_is t Truth e
      | false ↦ λ e k. absurd (k refl)
    ] refl h

    module _ (named : NamesAreTyped decls s name_type node) (calls : CallsAreTyped decls s name_type node) where
      item_typed : (before : List Name) (i : Item) → AreFine decls (item s vs before i) → IsTypedItem name_type node i
      item_typed before (Assert at e) f =
          let w = typed_part decls s name_type node named calls e (fine_front decls (expression s Inside e) _ f) in
          let wrong = fine_rest decls (expression s Inside e) _ f _ here kind.Mismatch in
          typed_assertion (subst (λ t. HasTypes name_type node e (t ∷ [])) (same_truth w.ty (λ h. wrong (ap (λ o. differ o (Some Truth)) w.is_type ∙ h))) w.typed)
      item_typed before (Equation at left e) f =
          let after = fine_rest decls (left_names vs before left) _ f in
          let l = left_typed before left (fine_front decls (left_names vs before left) _ f) in
          let w = typed_expr decls s name_type node named calls e Whole (fine_front decls (expression s Whole e) _ after) in
          let own = fine_rest decls (expression s Whole e) _ after _ here in
          let lt = left_types vs left in
          let right = map Some w.tys in
          let number = not_false (length lt == length right) (is_no (not (length lt == length right)) (λ h. own kind.Arity (ap (wrong_number (length lt)) w.right ∙ h))) in
          let long = sym (length-map l.0 Some) ∙ ap length (sym l.1) ∙ eqb-true (length lt) (length right) number ∙ length-map w.tys Some in
          let alike = no_third _ _ (any_differ lt right) (ap all_typed l.1 ∙ all_some l.0) (all_some w.tys) (λ h. own kind.Mismatch (ap (wrong_right lt) w.right ∙ h)) in
          let same_types = none_differ l.0 w.tys long (ap (λ ts. any_differ ts right) (sym l.1) ∙ alike) in
          typed_equation w.tys (subst (NamesHaveTypes name_type left) same_types l.2) w.typed

      pub items_typed : (before : List Name) (its : List Item) → AreFine decls (items s vs before its) → (i : Item) → In i its → IsTypedItem name_type node i
      items_typed before [] f i j = elim j [ ]
      items_typed before (x ∷ its) f i j = elim (in_cases j) [
        | inl same ↦ subst (IsTypedItem name_type node) (sym same) (item_typed before x (fine_front decls (item s vs before x) _ f))
        | inr k ↦ items_typed (before ++ left_of x) its (fine_rest decls (item s vs before x) _ f) i k
      ]

  item_new : (before : List Name) (i : Item) → AreFine decls (item s vs before i) → AreNew before (left_of i)
  item_new before (Assert at e) f = tt
  item_new before (Equation at left e) f = left_new before left (fine_front decls (left_names vs before left) _ f)

  pub items_new : (before : List Name) (its : List Item) → AreFine decls (items s vs before its) → AreNew before (lefts its)
  items_new before [] f = tt
  items_new before (x ∷ its) f =
      new_append before (left_of x) (lefts its) (item_new before x (fine_front decls (item s vs before x) _ f))
      (items_new (before ++ left_of x) its (fine_rest decls (item s vs before x) _ f))

  item_declared : (before : List Name) (i : Item) → AreFine decls (item s vs before i) → (x : Name) → In x (left_of i) → (v : Entry) × (vs x ≡ Some v) × (v.is_input ≡ false)
  item_declared before (Assert at e) f x j = elim j [ ]
  item_declared before (Equation at left e) f x j = left_declared before left (fine_front decls (left_names vs before left) _ f) x j

  pub items_declared : (before : List Name) (its : List Item) → AreFine decls (items s vs before its) → (x : Name) → In x (lefts its) → (v : Entry) × (vs x ≡ Some v) × (v.is_input ≡ false)
  items_declared before [] f x j = elim j [ ]
  items_declared before (y ∷ its) f x j = elim (in_append (left_of y) (lefts its) x j) [
    | inl k ↦ item_declared before y (fine_front decls (item s vs before y) _ f) x k
    | inr k ↦ items_declared (before ++ left_of y) its (fine_rest decls (item s vs before y) _ f) x k
  ]
