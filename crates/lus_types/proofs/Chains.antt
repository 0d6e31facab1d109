-- The first kind of a call, test by test.
use Rattle.std.proofs.Common.{◌≡◌, ℕ, Bool, true, false, cond, List, length, Option, Some, None, refl, ◌∙◌}
use Rattle.lus_types.specs.declared.fault.TypeKind.{TypeKind}
use Rattle.lus_types.specs.declared.fault.TypeKind.TheVariants.{Unsupported, Unknown, NotANode, Arity, Mismatch, RecursiveNode}
use Rattle.lus_types.specs.declared.types.Meaning.{Meaning}
use Rattle.lus_types.specs.declared.types.Meaning.TheVariants.{Node}
use Rattle.lus_types.specs.declared.types.Position.{Position}
use Rattle.op_network.specs.declared.value.Ty.{Ty}
use Rattle.lus_types.specs.Checking.{Recursions, kind_of, is_recursion_of, kind_or, recursion_kind, node_call_kind}
use Rattle.lus_types.specs.Kinds.{means_no_node, wrong_numbers, wrong_arguments}
use Rattle.lus_types.specs.Names.{Name}
use Rattle.lus_types.specs.Occurrences.{Scope, Call, in_constant, is_missing, signature_meant}

in_turn : (a b c : Bool) → cond a (Some Arity) (cond b (Some Mismatch) (cond c (Some RecursiveNode) None)) ≡ kind_or (cond a (Some Arity) (cond b (Some Mismatch) None)) (recursion_kind c)
in_turn true b c = refl
in_turn false true c = refl
in_turn false false true = refl
in_turn false false false = refl

module _ (recursive : Recursions) (s : Scope) (position : Position) (f : Name) (args : List (Option Ty)) where
  abbrev chain : Bool → Option Meaning → Option TypeKind
  chain constant meaning =
      cond constant (Some Unsupported)
      (cond (is_missing meaning) (Some Unknown)
      (cond (means_no_node meaning) (Some NotANode)
      (cond (wrong_numbers position (length args) (signature_meant s.signatures meaning)) (Some Arity)
      (cond (wrong_arguments args (signature_meant s.signatures meaning)) (Some Mismatch)
      (cond (cond constant false (is_recursion_of recursive meaning s.place)) (Some RecursiveNode) None)))))

  pub called_node : (callee : ℕ) → in_constant s ≡ false → s.globals f ≡ Some (Node callee) → kind_of recursive (Call s position f args) ≡ node_call_kind recursive s position callee args
  called_node callee h g = (λ i. chain (h i) (g i)) ∙ in_turn _ _ _
