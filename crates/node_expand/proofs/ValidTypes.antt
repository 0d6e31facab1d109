-- The types of a typed program's expressions are types of the program.
use Rattle.std.proofs.Common.{◌≡◌, Bool, true, false, cond, Option, Some, None, List, [], ◌∷◌, map, refl, subst, ◌∙◌, bytes_eq}
use Rattle.std.proofs.lemmas.Option.{slice_get_within}
use Rattle.std.specs.List.{AllByRecursion}
use Rattle.lus_syntax.specs.declared.ast.Expr.{Expr}
use Rattle.op_network.specs.declared.form.Binary.{Binary}
use Rattle.op_network.specs.declared.form.Binary.TheVariants as two
use Rattle.op_network.specs.declared.form.Unary.{Unary}
use Rattle.op_network.specs.declared.form.Unary.TheVariants as one
use Rattle.op_network.specs.declared.value.Ty.{Ty}
use Rattle.op_network.specs.declared.value.Ty.TheVariants as type
use Rattle.op_network.specs.declared.value.Value.{Value}
use Rattle.op_network.specs.declared.value.Value.TheVariants as value
use Rattle.op_network.specs.Operators.{arrow_type, binary_type, if_type, is_same_type, unary_type}
use Rattle.lus_types.specs.Calls.{In, here, there}
use Rattle.lus_types.specs.Facts.{IsTypeOf}
use Rattle.lus_types.specs.Names.{Name, entry_of}
use Rattle.lus_types.specs.Programs.{Node, Program, Variable, or_outer, type_in, type_of_name, types, variables}
use Rattle.lus_types.specs.ProgramTypes.{FitsValue, HasTypes, types_arrow, types_binary, types_call, types_if, types_name, types_number, types_pre, types_truth, types_unary}
use Rattle.lus_types.proofs.Members.{in_left, in_right}
use Rattle.node_expand.proofs.ValidFacts.{IsExpandable}
use Rattle.node_expand.proofs.ValidNames.{all_at}

-- what a test gives, if it gives something
given : (b : Bool) (r t : Ty) → cond b (Some r) None ≡ Some t → r ≡ t
given true r t h = cc h
given false r t h = absurd (cc h)

module _ (program : Program) where
  fits_exists : (v : Value) (ty : Ty) → FitsValue program v ty → IsTypeOf program ty
  fits_exists v type.Truth h = tt
  fits_exists v type.Word h = tt
  fits_exists (value.Truth b) (type.Choice c) h = absurd h
  fits_exists (value.Word w) (type.Choice c) h = absurd h
  fits_exists (value.Choice k) (type.Choice c) h = slice_get_within program.types c h.0 h.1

  is_given : (b : Bool) (r t : Ty) → IsTypeOf program r → cond b (Some r) None ≡ Some t → IsTypeOf program t
  is_given b r t h e = subst (IsTypeOf program) (given b r t e) h

  unary_exists : (o : Unary) (s t : Ty) → IsTypeOf program s → unary_type o s ≡ Some t → IsTypeOf program t
  unary_exists one.Id s t h e = is_given true s t h e
  unary_exists one.Not s t h e = is_given _ type.Truth t tt e
  unary_exists one.Neg s t h e = is_given _ type.Word t tt e

  binary_exists : (o : Binary) (r s t : Ty) → binary_type o r s ≡ Some t → IsTypeOf program t
  binary_exists two.And r s t e = is_given _ type.Truth t tt e
  binary_exists two.Or r s t e = is_given _ type.Truth t tt e
  binary_exists two.Xor r s t e = is_given _ type.Truth t tt e
  binary_exists two.Imp r s t e = is_given _ type.Truth t tt e
  binary_exists two.Eq r s t e = is_given _ type.Truth t tt e
  binary_exists two.Ne r s t e = is_given _ type.Truth t tt e
  binary_exists two.Lt r s t e = is_given _ type.Truth t tt e
  binary_exists two.Le r s t e = is_given _ type.Truth t tt e
  binary_exists two.Gt r s t e = is_given _ type.Truth t tt e
  binary_exists two.Ge r s t e = is_given _ type.Truth t tt e
  binary_exists two.Add r s t e = is_given _ type.Word t tt e
  binary_exists two.Sub r s t e = is_given _ type.Word t tt e
  binary_exists two.Mul r s t e = is_given _ type.Word t tt e

  arrow_exists : (r s t : Ty) → IsTypeOf program r → arrow_type r s ≡ Some t → IsTypeOf program t
  arrow_exists r s t h e = is_given (is_same_type r s) r t h e

  if_exists : (q r s t : Ty) → IsTypeOf program r → if_type q r s ≡ Some t → IsTypeOf program t
  if_exists q r s t h e = elim (is_same_type q type.Truth) as (λ b. cond b (cond (is_same_type r s) (Some r) None) None ≡ Some t → IsTypeOf program t) [
    | true ↦ λ f. is_given (is_same_type r s) r t h f
    | false ↦ λ f. absurd (cc f)
  ] e

  pairs_exist : (vs : List Variable) → ((v : Variable) → In v vs → IsTypeOf program v.ty) → (x : Name) (ty : Ty)
      → entry_of (map (λ (v : Variable). (v.name, v.ty)) vs) x ≡ Some ty → IsTypeOf program ty
  pairs_exist [] h x ty e = absurd (cc e)
  pairs_exist (v ∷ vs) h x ty e = elim (bytes_eq x v.name) as (λ b. cond b (Some v.ty) (entry_of (map (λ (u : Variable). (u.name, u.ty)) vs) x) ≡ Some ty → IsTypeOf program ty) [
    | true ↦ λ f. subst (IsTypeOf program) (let same : v.ty ≡ ty = cc f in same) (h v here)
    | false ↦ λ f. pairs_exist vs (λ u i. h u (there i)) x ty f
  ] e

module _ (program : Program) (whole : IsExpandable program) where
  types_exist : (vs : List Variable) → ((v : Variable) → In v vs → IsTypeOf program v.ty) → AllByRecursion (IsTypeOf program) (types vs)
  types_exist [] h = tt
  types_exist (v ∷ vs) h = (h v here, types_exist vs (λ u i. h u (there i)))

  pub variable_exists : (g : Name) (node : Node) → program.node g ≡ Some node → (v : Variable) → In v (variables node)
      → IsTypeOf program v.ty
  variable_exists g node found = all_at (λ (v : Variable). IsTypeOf program v.ty) (variables node) (whole.types g node found)

  name_exists : (g : Name) (node : Node) → program.node g ≡ Some node → (x : Name) (own : Option Ty) (t : Ty)
      → type_in node x ≡ own → or_outer own (program.constant x) ≡ Some t → IsTypeOf program t
  name_exists g node found x None t is h = fits_exists program (program.value x) t (whole.values.values x t h)
  name_exists g node found x (Some ty) t is h = pairs_exist program (variables node) (variable_exists g node found) x t (is ∙ h)

  module _ (g : Name) (node : Node) (found : program.node g ≡ Some node) where
    pub known_type : (x : Name) (t : Ty) → type_of_name program node x ≡ Some t → IsTypeOf program t
    known_type x t h = name_exists g node found x (type_in node x) t refl h

    pub types_known : {e : Expr} {ts : List Ty} → HasTypes (type_of_name program node) program.node e ts
        → AllByRecursion (IsTypeOf program) ts
    types_known (types_name x t k h) = (known_type x t h, tt)
    types_known (types_number n k) = (tt, tt)
    types_known (types_truth b k) = (tt, tt)
    types_known (types_unary {s = s} {t = t} op o a k is gives p) = (unary_exists program o s t (types_known p).0 gives, tt)
    types_known (types_pre a k p) = types_known p
    types_known (types_binary {r = r} {s = s} {t = t} op o a b k is gives p q) = (binary_exists program o r s t gives, tt)
    types_known (types_arrow {r = r} {s = s} {t = t} a b k gives p q) = (arrow_exists program r s t (types_known p).0 gives, tt)
    types_known (types_if {q = q} {r = r} {s = s} {t = t} a b c k gives p1 p2 p3) = (if_exists program q r s t (types_known p2).0 gives, tt)
    types_known (types_call f args callee k is ps) = types_exist callee.outputs (λ v i. variable_exists f callee is v (in_right callee.inputs _ v (in_left callee.outputs callee.locals v i)))
