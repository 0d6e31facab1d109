-- The variables of a node whose header is fine: each has the type of its group, and no name stands twice.
use Rattle.std.proofs.Common.{◌≡◌, ◌∙◌, ◌⊎◌, inl, inr, not, Bool, true, false, ◌||◌, cond, List, [], ◌∷◌, ◌++◌, map, Option, Some, None, refl, sym, ap, subst, true≢false, append_assoc, append-nil}
use Rattle.std.proofs.lemmas.List.{map-append}
use Rattle.std.proofs.lemmas.Slice.Eq.{bytes_eq-Decides}
use Rattle.std.specs.Str.{bytes_eq}
use Rattle.lus_syntax.specs.declared.ast.Decl.{Decl}
use Rattle.lus_syntax.specs.declared.ast.Group.{Group}
use Rattle.lus_syntax.specs.declared.ast.Spot.{Spot}
use Rattle.lus_types.specs.declared.expressions.scope.Variable.{Variable as Entry}
use Rattle.lus_types.specs.declared.fault.TypeKind.TheVariants.{Clocked, Duplicate, Unknown, Undefined}
use Rattle.op_network.specs.declared.value.Ty.{Ty}
use Rattle.lus_types.specs.Calls.{In, here, there}
use Rattle.lus_types.specs.Kinds.{is_duplicate, is_undefined}
use Rattle.lus_types.specs.Names.{Name, Globals, Defined, is_among, declared_names, spot_names}
use Rattle.lus_types.specs.Occurrences.{is_missing}
use Rattle.lus_types.specs.Programs.{Variable, or_truth, variables_of, variables_of_group}
use Rattle.lus_types.specs.ProgramTypes.{AreDistinct}
use Rattle.lus_types.specs.Signatures.{group_variables, variables_in, unless_clocked}
use Rattle.lus_types.specs.Types.{type_named}
use Rattle.lus_types.specs.Walk.{clock_mark, group, group_names, groups, variable_name}
use Rattle.lus_types.proofs.Among.{among_append}
use Rattle.lus_types.proofs.Members.{in_append}
use Rattle.lus_types.proofs.FineParts.{AreFine, fine_front, fine_rest, fine_tail}

pub is_no : (b : Bool) → (b ≡ true → ⊥) → b ≡ false
is_no true h = absurd (h refl)
is_no false h = refl

-- a variable with its type, as tables have it
abbrev pub entry_with : Bool → Variable → Name × Entry
entry_with is_input v = (v.name, record { ty = Some v.ty; is_input = is_input })

-- each of these names is new behind those before it
abbrev pub AreNew : List Name → List Name → Type 0
AreNew before [] = Unit {0}
AreNew before (x ∷ xs) = (is_among x before ≡ false) × AreNew (before ++ x ∷ []) xs

pub new_append : (before xs ys : List Name) → AreNew before xs → AreNew (before ++ xs) ys → AreNew before (xs ++ ys)
new_append before [] ys h k = subst (λ b. AreNew b ys) (append-nil before) k
new_append before (x ∷ xs) ys h k = (h.0, new_append (before ++ x ∷ []) xs ys h.1 (subst (λ b. AreNew b ys) (sym (append_assoc before (x ∷ []) xs)) k))

pub in_cases : {A : Type 0} {x y : A} {ys : List A} → In x (y ∷ ys) → (x ≡ y) ⊎ In x ys
in_cases here = inl refl
in_cases (there i) = inr i

pub among_of_in : (x : Name) (xs : List Name) → In x xs → is_among x xs ≡ true
among_of_in x [] i = elim i [ ]
among_of_in x (y ∷ xs) i = elim (bytes_eq x y) as (λ b. bytes_eq x y ≡ b → cond b true (is_among x xs) ≡ true) [
  | true ↦ λ e. refl
  | false ↦ λ e. elim (in_cases i) [
    | inl same ↦ absurd (true≢false (sym ((bytes_eq-Decides x y).1 same) ∙ e))
    | inr j ↦ among_of_in x xs j
  ]
] refl

pub in_of_among : (x : Name) (xs : List Name) → is_among x xs ≡ true → In x xs
in_of_among x [] h = absurd (true≢false (sym h))
in_of_among x (y ∷ xs) h = elim (bytes_eq x y) as (λ b. bytes_eq x y ≡ b → cond b true (is_among x xs) ≡ true → In x (y ∷ xs)) [
  | true ↦ λ e g. subst (λ z. In x (z ∷ xs)) ((bytes_eq-Decides x y).0 e) here
  | false ↦ λ e g. there (in_of_among x xs g)
] refl h

or_false : (a b : Bool) → (a || b) ≡ false → (a ≡ false) × (b ≡ false)
or_false true b h = absurd (true≢false h)
or_false false b h = (refl, h)

-- a new name is none of those before it
pub new_of : (before xs : List Name) → AreNew before xs → (y : Name) → In y xs → is_among y before ≡ false
new_of before [] h y i = elim i [ ]
new_of before (x ∷ xs) h y here = h.0
new_of before (x ∷ xs) h y (there i) = (or_false (is_among y before) (is_among y (x ∷ [])) (sym (among_append y before (x ∷ [])) ∙ new_of (before ++ x ∷ []) xs h.1 y i)).0

or_true : (a b : Bool) → b ≡ true → (a || b) ≡ true
or_true true b h = refl
or_true false b h = h

not_before : (before : List Name) (x : Name) → is_among x (before ++ x ∷ []) ≡ true
not_before before x = among_append x before (x ∷ []) ∙ or_true (is_among x before) (is_among x (x ∷ [])) (among_of_in x (x ∷ []) here)

pub distinct_of_new : (before xs : List Name) → AreNew before xs → AreDistinct xs
distinct_of_new before [] h = tt
distinct_of_new before (x ∷ xs) h = (
  λ i. true≢false (sym (not_before before x) ∙ new_of (before ++ x ∷ []) xs h.1 x i),
  distinct_of_new (before ++ x ∷ []) xs h.1,
)

sound_type : (dup und : Bool) (u : Option Ty) → dup ≡ false → und ≡ false → cond (dup || und) None u ≡ u
sound_type true und u h k = absurd (true≢false h)
sound_type false true u h k = absurd (true≢false k)
sound_type false false u h k = refl

named_type : (o : Option Ty) → (is_missing o ≡ true → ⊥) → o ≡ Some (or_truth o)
named_type None h = absurd (h refl)
named_type (Some t) h = refl

module _ (decls : List Decl) (g : Globals) (is_input : Bool) (d : Defined) where
  no_clock : (clock : Option Spot) (u : Option Ty) → AreFine decls (clock_mark clock) → unless_clocked clock u ≡ u
  no_clock None u f = refl
  no_clock (Some c) u f = absurd (f _ here Clocked refl)

  not_duplicate : (b : Bool) (before : List Name) (x : Name) → is_duplicate (variable_name b d before x) ≡ is_among x before
  not_duplicate true before x = refl
  not_duplicate false before x = refl

  module _ (clock : Option Spot) (ty : Spot) (word : type_named g ty.text ≡ Some (or_truth (type_named g ty.text))) (unclocked : (u : Option Ty) → unless_clocked clock u ≡ u) where
    abbrev the_type : Ty
    the_type = or_truth (type_named g ty.text)

    group_entries : (before : List Name) (spots : List Spot) → AreFine decls (group_names is_input d before spots)
        → group_variables g is_input d clock ty before spots ≡ map (entry_with is_input) (variables_of_group the_type spots)
    group_entries before [] f = refl
    group_entries before (s ∷ spots) f =
        let dup = is_no (is_duplicate (variable_name is_input d before s.text)) (f _ here Duplicate) in
        let und = is_no (is_undefined (variable_name is_input d before s.text)) (f _ here Undefined) in
        let rest = group_entries (before ++ s.text ∷ []) spots (fine_tail decls _ _ f) in
        let own = sound_type (is_duplicate (variable_name is_input d before s.text)) (is_undefined (variable_name is_input d before s.text)) (unless_clocked clock (type_named g ty.text)) dup und ∙ unclocked (type_named g ty.text) ∙ word in
        λ i. (s.text, record { ty = own i; is_input = is_input }) ∷ rest i

  group_new : (before : List Name) (spots : List Spot) → AreFine decls (group_names is_input d before spots) → AreNew before (spot_names spots)
  group_new before [] f = tt
  group_new before (s ∷ spots) f = (
    sym (not_duplicate is_input before s.text) ∙ is_no (is_duplicate (variable_name is_input d before s.text)) (f _ here Duplicate),
    group_new (before ++ s.text ∷ []) spots (fine_tail decls _ _ f),
  )

  pub header_entries : (before : List Name) (gs : List Group) → AreFine decls (groups g is_input d before gs)
      → variables_in g is_input d before gs ≡ map (entry_with is_input) (variables_of g gs)
  header_entries before [] f = refl
  header_entries before (x ∷ gs) f =
      let own = fine_front decls (group g is_input d before x) _ f in
      let after_names = fine_rest decls (group_names is_input d before x.names) _ own in
      let word = named_type (type_named g x.ty.text) (after_names _ here Unknown) in
      let unclocked : (u : Option Ty) → unless_clocked x.clock u ≡ u = λ u. no_clock x.clock u (fine_tail decls _ _ after_names) in
      (λ i. group_entries x.clock x.ty word unclocked before x.names (fine_front decls (group_names is_input d before x.names) _ own) i
      ++ header_entries (before ++ spot_names x.names) gs (fine_rest decls (group g is_input d before x) _ f) i)
      ∙ sym (map-append (entry_with is_input) (variables_of_group (or_truth (type_named g x.ty.text)) x.names) (variables_of g gs))

  pub header_new : (before : List Name) (gs : List Group) → AreFine decls (groups g is_input d before gs) → AreNew before (declared_names gs)
  header_new before [] f = tt
  header_new before (x ∷ gs) f =
      new_append before (spot_names x.names) (declared_names gs)
      (group_new before x.names (fine_front decls (group_names is_input d before x.names) _ (fine_front decls (group g is_input d before x) _ f)))
      (header_new (before ++ spot_names x.names) gs (fine_rest decls (group g is_input d before x) _ f))

pub is_yes : (b : Bool) → (not b ≡ true → ⊥) → b ≡ true
is_yes true h = refl
is_yes false h = absurd (h refl)

-- an output or local has an equation
pub group_defined : (decls : List Decl) (d : Defined) (before : List Name) (spots : List Spot) → AreFine decls (group_names false d before spots) → (x : Name) → In x (spot_names spots) → d x ≡ true
group_defined decls d before [] f x i = elim i [ ]
group_defined decls d before (s ∷ spots) f x i = elim (in_cases i) [
  | inl same ↦ ap d same ∙ is_yes (d s.text) (f _ here Undefined)
  | inr j ↦ group_defined decls d (before ++ s.text ∷ []) spots (fine_tail decls _ _ f) x j
]

pub groups_defined : (decls : List Decl) (g : Globals) (d : Defined) (before : List Name) (gs : List Group) → AreFine decls (groups g false d before gs) → (x : Name) → In x (declared_names gs) → d x ≡ true
groups_defined decls g d before [] f x i = elim i [ ]
groups_defined decls g d before (x ∷ gs) f y i = elim (in_append (spot_names x.names) (declared_names gs) y i) [
  | inl j ↦ group_defined decls d before x.names (fine_front decls (group_names false d before x.names) _ (fine_front decls (group g false d before x) _ f)) y j
  | inr j ↦ groups_defined decls g d (before ++ spot_names x.names) gs (fine_rest decls (group g false d before x) _ f) y j
]
