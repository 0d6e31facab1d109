-- The type of an expression's fragment is that of its first value.
use Rattle.std.proofs.Common.{List, None, Option, Some, ap, ap₂, length, refl, suc, ℕ, ◌+◌, ◌∙◌, ◌≡◌}
use Rattle.lus_syntax.specs.declared.ast.BinOp.{BinOp}
use Rattle.lus_syntax.specs.declared.ast.Expr.{Expr}
use Rattle.lus_syntax.specs.declared.ast.UnOp.{UnOp}
use Rattle.lus_types.specs.ProgramTypes.{HasTypes, types_arrow, types_binary, types_call, types_if, types_name, types_number, types_pre, types_truth, types_unary}
use Rattle.lus_types.specs.Programs.{Node, Program, or_truth, type_of_name}
use Rattle.lus_types.specs.Types.{binary, binary_over, is_arrow, is_pre, ordinary_binary, ordinary_unary, unary, unary_over}
use Rattle.lus_types.specs.declared.types.Constant.{Constant}
use Rattle.op_network.specs.Operators.{arrow_type, binary_type, if_type, unary_type}
use Rattle.op_network.specs.declared.form.Binary.{Binary}
use Rattle.op_network.specs.declared.form.Unary.{Unary}
use Rattle.op_network.specs.declared.value.Ty.{Ty}
use Rattle.node_expand.specs.Fragments.{Callees, Fragment, Places, first_type, fragment, name_fragment, nodes_of, place_level, place_of, result_type, size_of_all}
use Rattle.node_expand.specs.Names.{constant_in}
use Rattle.node_expand.proofs.Folds.{folded_call, folded_if, folded_name, folded_number, folded_one, folded_truth, folded_two}
use Rattle.lus_syntax.specs.declared.ast.BinOp.TheVariants as bino
use Rattle.lus_syntax.specs.declared.ast.UnOp.TheVariants as uno

name_type : (c : Option Constant) (ty : Ty) (place at : ℕ) → (name_fragment c ty place at).ty ≡ ty
name_type (Some c) ty place at = refl
name_type None ty place at = refl

unary_given : (op : UnOp) (o : Unary) (s t : Ty) → ordinary_unary op ≡ Some o → unary_type o s ≡ Some t → unary op s ≡ Some t
unary_given op o s t is gives = ap (λ c. unary_over c (is_pre op) s) is ∙ gives

binary_given : (op : BinOp) (o : Binary) (r s t : Ty) → ordinary_binary op ≡ Some o → binary_type o r s ≡ Some t → binary op r s ≡ Some t
binary_given op o r s t is gives = ap (λ c. binary_over c (is_arrow op) r s) is ∙ gives

module _ (program : Program) (node : Node) (callees : Callees) (table : Places) where
  abbrev make : Expr → ℕ → ℕ → Fragment
  make = fragment program node callees table

  pub fragment_type : {e : Expr} {ts : List Ty} → HasTypes (type_of_name program node) program.node e ts
      → (at inner : ℕ) → (make e at inner).ty ≡ first_type ts
  fragment_type {e} (types_name x t k h) at inner =
      ap (λ m. (m at inner).ty) (folded_name (place_level program node callees table) e x k)
      ∙ name_type (constant_in program node x) (or_truth (type_of_name program node x)) (place_of table x) at ∙ ap or_truth h
  fragment_type {e} (types_number n k) at inner = ap (λ m. (m at inner).ty) (folded_number (place_level program node callees table) e n k)
  fragment_type {e} (types_truth b k) at inner = ap (λ m. (m at inner).ty) (folded_truth (place_level program node callees table) e b k)
  fragment_type {e} (types_unary {s = s} {t = t} op o a k is gives p) at inner =
      ap (λ m. (m at inner).ty) (folded_one (place_level program node callees table) e a op k)
      ∙ ap (λ ty. or_truth (unary op ty)) (fragment_type p (suc at) inner) ∙ ap or_truth (unary_given op o s t is gives)
  fragment_type {e} (types_pre a k p) at inner =
      ap (λ m. (m at inner).ty) (folded_one (place_level program node callees table) e a uno.Pre k) ∙ fragment_type p (suc at) inner
  fragment_type {e} (types_binary {r = r} {s = s} {t = t} op o a b k is gives p q) at inner =
      ap (λ m. (m at inner).ty) (folded_two (place_level program node callees table) e a b op k)
      ∙ ap₂ (λ i j. or_truth (binary op i j)) (fragment_type p (suc at) inner) (fragment_type q _ _)
      ∙ ap or_truth (binary_given op o r s t is gives)
  fragment_type {e} (types_arrow {r = r} {s = s} {t = t} a b k gives p q) at inner =
      ap (λ m. (m at inner).ty) (folded_two (place_level program node callees table) e a b bino.Arrow k)
      ∙ ap₂ (λ i j. or_truth (arrow_type i j)) (fragment_type p (suc at) inner) (fragment_type q _ _) ∙ ap or_truth gives
  fragment_type {e} (types_if {q = q} {r = r} {s = s} {t = t} a b c k gives p1 p2 p3) at inner =
      let m = make a (suc at) inner in
      let w = make b (suc at + length m.own) (inner + size_of_all callees (nodes_of m.calls)) in
      let x = make c (suc at + length m.own + length w.own) (inner + size_of_all callees (nodes_of m.calls) + size_of_all callees (nodes_of w.calls)) in
      ap (λ m. (m at inner).ty) (folded_if (place_level program node callees table) e a b c k)
      ∙ ap₂ (λ i j. or_truth (if_type i j x.ty)) (fragment_type p1 (suc at) inner) (fragment_type p2 _ _)
      ∙ ap (λ i. or_truth (if_type q r i)) (fragment_type p3 _ _) ∙ ap or_truth gives
  fragment_type {e} (types_call g args callee k found ps) at inner =
      ap (λ m. (m at inner).ty) (folded_call (place_level program node callees table) e g args k) ∙ ap result_type found
