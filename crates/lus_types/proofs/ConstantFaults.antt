-- The first fault of a constant's declaration, part by part.
use Rattle.std.proofs.Common.{◌≡◌, ◌∙◌, ℕ, Option, Some, None, refl, ap}
use Rattle.lus_syntax.specs.declared.ast.Expr.{Expr}
use Rattle.lus_syntax.specs.declared.ast.Spot.{Spot}
use Rattle.lus_types.specs.declared.types.Meaning.TheVariants.{Constant}
use Rattle.op_network.specs.declared.value.Ty.{Ty}
use Rattle.lus_types.specs.Checking.{Recursions, fault_in, fault_at, kind_of, or_else, constant_kind}
use Rattle.lus_types.specs.Names.{Globals}
use Rattle.lus_types.specs.Occurrences.{Scope, GlobalName, TypeName, ConstantItself}
use Rattle.lus_types.specs.Walk.{constant, declared_type_name, declared_type, value_walk, value_type}
use Rattle.lus_types.proofs.Faults.{fault_append, or_none}

own_kind : (r : Recursions) (ty value : Option (Option Ty)) → kind_of r (ConstantItself ty value) ≡ constant_kind ty value
own_kind r None None = refl
own_kind r None (Some v) = refl
own_kind r (Some t) None = refl
own_kind r (Some t) (Some v) = refl

pub fault_constant : (r : Recursions) (s : Scope) (at : ℕ) (name : Spot) (ty : Option Spot) (value : Option Expr)
    → fault_in r (constant s at name ty value) ≡ or_else (fault_at name.at (kind_of r (GlobalName s.globals (Constant s.place) name.text)))
    (or_else (fault_in r (declared_type_name s.globals ty)) (or_else (fault_in r (value_walk s value)) (fault_at at (constant_kind (declared_type s.globals ty) (value_type s value)))))
fault_constant r s at name ty value =
    ap (or_else (fault_at name.at (kind_of r (GlobalName s.globals (Constant s.place) name.text)))) (fault_append r (declared_type_name s.globals ty) _
    ∙ ap (or_else (fault_in r (declared_type_name s.globals ty))) (fault_append r (value_walk s value) _
    ∙ ap (or_else (fault_in r (value_walk s value))) (or_none _ ∙ ap (fault_at at) (own_kind r (declared_type s.globals ty) (value_type s value)))))

pub fault_declared : (r : Recursions) (g : Globals) (o : Option Spot) (ty : Spot) → o ≡ Some ty → fault_in r (declared_type_name g o) ≡ fault_at ty.at (kind_of r (TypeName g ty.text))
fault_declared r g o ty h = ap (λ p. fault_in r (declared_type_name g p)) h ∙ or_none _
