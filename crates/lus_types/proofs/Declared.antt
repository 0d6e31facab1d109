-- Each constant of a typed program has a type, and each word of a group of variables names one.
use Rattle.std.proofs.Common.{◌≡◌, ◌∙◌, inl, inr, ℕ, Bool, true, false, ◌==◌, not, List, [], ◌∷◌, ◌++◌, Option, Some, None, refl, sym, ap, subst}
use Rattle.std.proofs.lemmas.Bool.{eqb-true}
use Rattle.lus_syntax.specs.declared.ast.Decl.{Decl}
use Rattle.lus_syntax.specs.declared.ast.Decl.TheVariants.{ConstDecl, NodeDecl}
use Rattle.lus_syntax.specs.declared.ast.Group.{Group}
use Rattle.lus_types.specs.declared.fault.TypeKind.TheVariants as kind
use Rattle.lus_types.specs.declared.types.Meaning.{Meaning}
use Rattle.lus_types.specs.declared.types.Meaning.TheVariants as means
use Rattle.op_network.specs.declared.value.Ty.{Ty}
use Rattle.lus_types.specs.Calls.{In, here}
use Rattle.lus_types.specs.Facts.{HasConstants, HasTypesOfGroups, IsTypedGroup}
use Rattle.lus_types.specs.Names.{Name, Defined, Globals, declared_names, defined_in, globals, means as means_this, spot_names}
use Rattle.lus_types.specs.Occurrences.{flat, is_missing}
use Rattle.lus_types.specs.Programs.{constant_meant}
use Rattle.lus_types.specs.Types.{type_named}
use Rattle.lus_types.specs.Typing.{declarations, header, tables}
use Rattle.lus_types.specs.Walk.{group, group_names, groups}
use Rattle.lus_types.proofs.FineHeaders.{in_cases, is_yes}
use Rattle.lus_types.proofs.FineParts.{AreFine, fine_at, fine_front, fine_rest, fine_tail}
use Rattle.lus_types.proofs.FinePrograms.{known, typed_below, typed_constant}
use Rattle.lus_types.proofs.Identifiers.{all_of}
use Rattle.lus_types.proofs.Members.{in_append}

means_is : (place : ℕ) (m : Option Meaning) → (not (means_this (means.Constant place) m) ≡ true → ⊥) → m ≡ Some (means.Constant place)
means_is place None h = absurd (h refl)
means_is place (Some (means.Enumeration ty)) h = absurd (h refl)
means_is place (Some (means.Node p)) h = absurd (h refl)
means_is place (Some (means.Enumerator ty i)) h = absurd (h refl)
means_is place (Some (means.Constant p)) h = ap (λ n. Some (means.Constant n)) (sym (eqb-true place p (is_yes (place == p) h)))

pub has_constants : (decls : List Decl) (width : ℕ) → AreFine decls (declarations (tables width decls) 0 0 decls) → HasConstants decls width
has_constants decls width fine = λ place at name ty value d.
    let own = (fine_at decls (tables width decls) place (ConstDecl at name ty value) fine d).1 in
    let meant = means_is place (globals decls name.text) (own _ here kind.Duplicate) in
    let w = typed_constant decls width fine place (typed_below decls width fine place) at name ty value d in
    (w.0, ap (constant_meant (known decls width fine)) meant ∙ ap flat w.1)

some_type : (o : Option Ty) → (is_missing o ≡ true → ⊥) → (t : Ty) × (o ≡ Some t)
some_type None h = absurd (h refl)
some_type (Some t) h = (t, refl)

module _ (decls : List Decl) (g : Globals) (is_input : Bool) (defined : Defined) where
  typed_groups : (before : List Name) (gs : List Group) → AreFine decls (groups g is_input defined before gs) → (x : Group) → In x gs → IsTypedGroup g x
  typed_groups before [] f x i = elim i [ ]
  typed_groups before (y ∷ gs) f x i = elim (in_cases i) [
    | inl same ↦ subst (IsTypedGroup g) (sym same)
        (some_type (type_named g y.ty.text) (fine_rest decls (group_names is_input defined before y.names) _ (fine_front decls (group g is_input defined before y) _ f) _ here kind.Unknown))
    | inr j ↦ typed_groups (before ++ spot_names y.names) gs (fine_rest decls (group g is_input defined before y) _ f) x j
  ]

pub has_types_of_groups : (decls : List Decl) (width : ℕ) → AreFine decls (declarations (tables width decls) 0 0 decls) → HasTypesOfGroups decls
has_types_of_groups decls width fine = λ place at name ins outs locs its d.
    let g = globals decls in
    let t = tables width decls in
    let own = fine_tail decls _ _ (fine_at decls t place (NodeDecl at name ins outs locs its) fine d).1 in
    let whole = fine_front decls (header g ins outs locs its) _ own in
    let inputs = fine_front decls (groups g true (defined_in its) [] ins) _ whole in
    let rest = fine_rest decls (groups g true (defined_in its) [] ins) _ whole in
    let outputs = fine_front decls (groups g false (defined_in its) (declared_names ins) outs) _ rest in
    let locals = fine_rest decls (groups g false (defined_in its) (declared_names ins) outs) _ rest in
    all_of (IsTypedGroup g) (ins ++ (outs ++ locs)) (λ x i. elim (in_append ins (outs ++ locs) x i) [
      | inl j ↦ typed_groups decls g true (defined_in its) [] ins inputs x j
      | inr j ↦ elim (in_append outs locs x j) [
        | inl k ↦ typed_groups decls g false (defined_in its) (declared_names ins) outs outputs x k
        | inr k ↦ typed_groups decls g false (defined_in its) (declared_names ins ++ declared_names outs) locs locals x k
      ]
    ])
