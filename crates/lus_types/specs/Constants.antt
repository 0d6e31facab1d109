-- The types of constants.
use Rattle.std.specs.Prelude.{ℕ, suc, Bool, cond, List, [], ◌∷◌, ◌++◌, Option, None}
use Rattle.std.specs.List.{list_any}
use Rattle.lus_syntax.specs.declared.ast.Decl.{Decl}
use Rattle.lus_syntax.specs.declared.ast.Decl.TheVariants.{TypeDecl, ConstDecl, NodeDecl}
use Rattle.lus_types.specs.declared.expressions.scope.Signature.{Signature}
use Rattle.op_network.specs.declared.value.Ty.{Ty}
use Rattle.lus_types.specs.Kinds.{is_clocked, is_unsupported, is_duplicate, is_unknown, is_not_a_node, is_arity, is_mismatch, is_out_of_range, is_undefined, is_defined_twice, defines_input, is_no_main}
use Rattle.lus_types.specs.Names.{Globals, globals as global_names}
use Rattle.lus_types.specs.Signatures.{signatures}
use Rattle.lus_types.specs.Occurrences.{Scope, Thing, Occurrence, flat}
use Rattle.lus_types.specs.Walk.{constant, value_type}

-- Something in the declaration of a constant fails. A call there is unsupported, whatever it calls, so
-- that recursion needs no test.
abbrev pub fails_in_constant : Thing → Bool
fails_in_constant thing =
    list_any (λ (fails : Thing → Bool). fails thing)
    (is_clocked ∷ is_unsupported ∷ is_duplicate ∷ is_unknown ∷ is_not_a_node ∷ is_arity ∷ is_mismatch ∷ is_out_of_range
    ∷ is_undefined ∷ is_defined_twice ∷ defines_input ∷ is_no_main ∷ [])

-- the scope of a constant's expression: the constants declared before it are known
abbrev pub constant_scope : ℕ → Globals → List (Option Signature) → List (Option Ty) → ℕ → Scope
constant_scope width globals signatures known place = record {
  width = width;
  globals = globals;
  signatures = signatures;
  constants = known;
  place = place;
  variables = None;
}

-- A constant's type is that of its expression. It has none where an occurrence of its declaration fails.
abbrev pub constant_type : Scope → Decl → Option Ty
constant_type scope (ConstDecl at name ty value) =
    cond (list_any (λ (o : Occurrence). fails_in_constant o.thing) (constant scope at name ty value)) None
    (flat (value_type scope value))
constant_type scope (TypeDecl at name choices) = None
constant_type scope (NodeDecl at name inputs outputs locals items) = None

-- the types of the constants, by the places of the declarations, behind those that are known
abbrev pub constants_from : ℕ → Globals → List (Option Signature) → ℕ → List (Option Ty) → List Decl → List (Option Ty)
constants_from width globals signatures place known [] = known
constants_from width globals signatures place known (decl ∷ decls) =
    constants_from width globals signatures (suc place) (known ++ constant_type (constant_scope width globals signatures known place) decl ∷ []) decls

abbrev pub constants : ℕ → Globals → List (Option Signature) → List Decl → List (Option Ty)
constants width globals signatures decls = constants_from width globals signatures 0 [] decls

-- the types of the constants of a program
abbrev pub constant_types : ℕ → List Decl → List (Option Ty)
constant_types width decls = constants width (global_names decls) (signatures (global_names decls) decls) decls
