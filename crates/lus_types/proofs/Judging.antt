-- What is judged of each form of an expression, from what is judged of its operands.
use Rattle.std.proofs.Common.{◌≡◌, ℕ, Bool, List, [], ◌∷◌, ◌++◌, Option, None, map, refl, sym, ap, ◌∙◌}
use Rattle.lus_syntax.specs.declared.ast.BinOp.{BinOp}
use Rattle.lus_syntax.specs.declared.ast.Expr.{Expr, fold_out-Expr}
use Rattle.lus_syntax.specs.declared.ast.ExprKind.{ExprKind, fold-ExprKind, fold-roll-ExprKind}
use Rattle.lus_syntax.specs.declared.ast.ExprKind.TheOpen as level
use Rattle.lus_syntax.specs.declared.ast.ExprKind.TheVariants as tree
use Rattle.lus_syntax.specs.declared.ast.ExprKind.TheVariants.{rolls-Name, rolls-Number, rolls-Truth, rolls-One, rolls-Two, rolls-Cond, rolls-Call}
use Rattle.lus_syntax.specs.declared.ast.UnOp.{UnOp}
use Rattle.op_network.specs.declared.value.Ty.{Ty}
use Rattle.std.specs.List.{flat_map}
use Rattle.lus_types.specs.declared.fault.TypeFault.{TypeFault}
use Rattle.lus_types.specs.declared.types.Position.{Position}
use Rattle.lus_types.specs.declared.types.Position.TheVariants.{Inside}
use Rattle.lus_types.specs.Checking.{Recursions, or_else, fault_at, fault_in, kind_of}
use Rattle.lus_types.specs.Occurrences.{Scope, Thing, Unary, Binary, Conditional, Call, signature_named}
use Rattle.lus_types.specs.Types.{unary_of, binary_of, conditional_of}
use Rattle.lus_types.specs.Walk.{Judged, judge, judge_level, the_one, the_one_of, untyped, results_of, types_of, type_of, operand_of, expression, arguments}
use Rattle.lus_types.proofs.Faults.{or_none, fault_append}

pub untyped_one : (tys : List (Option Ty)) → the_one (untyped tys) ≡ None
untyped_one [] = refl
untyped_one (ty ∷ []) = refl
untyped_one (ty ∷ tz ∷ tys) = refl

module _ (s : Scope) where
  abbrev at_place : level.Expr-F (ℕ → Judged) Judged → Judged
  at_place e = e.kind e.at

  at_kind : (e : Expr) (k : ExprKind) → e.kind ≡ k → judge s e ≡ fold-ExprKind (ℕ → Judged) Judged (judge_level s) at_place k e.at
  at_kind e k h = fold_out-Expr (ℕ → Judged) Judged (judge_level s) at_place e ∙ ap (λ j. fold-ExprKind (ℕ → Judged) Judged (judge_level s) at_place j e.at) h

  pub judge_name : (e : Expr) (x : List ℕ) → e.kind ≡ tree.Name x → judge s e ≡ judge_level s (level.Name x) e.at
  judge_name e x h = at_kind e _ (h ∙ sym (rolls-Name x)) ∙ ap (λ f. f e.at) (fold-roll-ExprKind (ℕ → Judged) Judged (judge_level s) at_place (level.Name x))

  pub judge_number : (e : Expr) (n : ℕ) → e.kind ≡ tree.Number n → judge s e ≡ judge_level s (level.Number n) e.at
  judge_number e n h = at_kind e _ (h ∙ sym (rolls-Number n)) ∙ ap (λ f. f e.at) (fold-roll-ExprKind (ℕ → Judged) Judged (judge_level s) at_place (level.Number n))

  pub judge_truth : (e : Expr) (b : Bool) → e.kind ≡ tree.Truth b → judge s e ≡ judge_level s (level.Truth b) e.at
  judge_truth e b h = at_kind e _ (h ∙ sym (rolls-Truth b)) ∙ ap (λ f. f e.at) (fold-roll-ExprKind (ℕ → Judged) Judged (judge_level s) at_place (level.Truth b))

  pub judge_one : (e : Expr) (op : UnOp) (a : Expr) → e.kind ≡ tree.One op a → judge s e ≡ judge_level s (level.One op (judge s a)) e.at
  judge_one e op a h = at_kind e _ (h ∙ sym (rolls-One op a)) ∙ ap (λ f. f e.at) (fold-roll-ExprKind (ℕ → Judged) Judged (judge_level s) at_place (level.One op a))

  pub judge_two : (e : Expr) (op : BinOp) (a b : Expr) → e.kind ≡ tree.Two op a b → judge s e ≡ judge_level s (level.Two op (judge s a) (judge s b)) e.at
  judge_two e op a b h = at_kind e _ (h ∙ sym (rolls-Two op a b)) ∙ ap (λ f. f e.at) (fold-roll-ExprKind (ℕ → Judged) Judged (judge_level s) at_place (level.Two op a b))

  pub judge_cond : (e : Expr) (a b c : Expr) → e.kind ≡ tree.Cond a b c → judge s e ≡ judge_level s (level.Cond (judge s a) (judge s b) (judge s c)) e.at
  judge_cond e a b c h = at_kind e _ (h ∙ sym (rolls-Cond a b c)) ∙ ap (λ f. f e.at) (fold-roll-ExprKind (ℕ → Judged) Judged (judge_level s) at_place (level.Cond a b c))

  pub judge_call : (e : Expr) (f : List ℕ) (args : List Expr) → e.kind ≡ tree.Call f args → judge s e ≡ judge_level s (level.Call f (map (judge s) args)) e.at
  judge_call e f args h = at_kind e _ (h ∙ sym (rolls-Call f args)) ∙ ap (λ g. g e.at) (fold-roll-ExprKind (ℕ → Judged) Judged (judge_level s) at_place (level.Call f args))

-- the first fault of each form with operands, and its type
module _ (r : Recursions) (s : Scope) (p : Position) where
  abbrev fault : Position → Expr → Option TypeFault
  fault q e = fault_in r (expression s q e)

  abbrev own : ℕ → Thing → Option TypeFault
  own at thing = fault_at at (kind_of r thing)

  pub fault_one : (e : Expr) (op : UnOp) (a : Expr) → e.kind ≡ tree.One op a
      → fault p e ≡ or_else (fault (operand_of op) a) (own e.at (Unary s op (type_of s a)))
  fault_one e op a h =
      ap (λ (j : Judged). fault_in r (j.walk p)) (judge_one s e op a h)
      ∙ fault_append r (expression s (operand_of op) a) _ ∙ ap (or_else (fault (operand_of op) a)) (or_none _)

  pub type_one : (e : Expr) (op : UnOp) (a : Expr) → e.kind ≡ tree.One op a → type_of s e ≡ unary_of op (type_of s a)
  type_one e op a h = ap (λ (j : Judged). j.ty) (judge_one s e op a h)

  pub fault_two : (e : Expr) (op : BinOp) (a b : Expr) → e.kind ≡ tree.Two op a b
      → fault p e ≡ or_else (fault Inside a) (or_else (fault Inside b) (own e.at (Binary s op (type_of s a) (type_of s b))))
  fault_two e op a b h =
      ap (λ (j : Judged). fault_in r (j.walk p)) (judge_two s e op a b h)
      ∙ fault_append r (expression s Inside a) _ ∙ ap (or_else (fault Inside a)) (fault_append r (expression s Inside b) _ ∙ ap (or_else (fault Inside b)) (or_none _))

  pub type_two : (e : Expr) (op : BinOp) (a b : Expr) → e.kind ≡ tree.Two op a b → type_of s e ≡ binary_of op (type_of s a) (type_of s b)
  type_two e op a b h = ap (λ (j : Judged). j.ty) (judge_two s e op a b h)

  pub fault_cond : (e a b c : Expr) → e.kind ≡ tree.Cond a b c
      → fault p e ≡ or_else (fault Inside a) (or_else (fault Inside b) (or_else (fault Inside c) (own e.at (Conditional (type_of s a) (type_of s b) (type_of s c)))))
  fault_cond e a b c h =
      ap (λ (j : Judged). fault_in r (j.walk p)) (judge_cond s e a b c h)
      ∙ fault_append r (expression s Inside a) _ ∙ ap (or_else (fault Inside a)) (fault_append r (expression s Inside b) _
      ∙ ap (or_else (fault Inside b)) (fault_append r (expression s Inside c) _ ∙ ap (or_else (fault Inside c)) (or_none _)))

  pub type_cond : (e a b c : Expr) → e.kind ≡ tree.Cond a b c → type_of s e ≡ conditional_of (type_of s a) (type_of s b) (type_of s c)
  type_cond e a b c h = ap (λ (j : Judged). j.ty) (judge_cond s e a b c h)

  walks : (es : List Expr) → flat_map (λ (j : Judged). j.walk Inside) (map (judge s) es) ≡ arguments s es
  walks [] = refl
  walks (e ∷ es) = ap (λ os. expression s Inside e ++ os) (walks es)

  pub types : (es : List Expr) → types_of (map (judge s) es) ≡ map (type_of s) es
  types [] = refl
  types (e ∷ es) = ap (λ tys. type_of s e ∷ tys) (types es)

  pub fault_call : (e : Expr) (f : List ℕ) (args : List Expr) → e.kind ≡ tree.Call f args
      → fault p e ≡ or_else (fault_in r (arguments s args)) (own e.at (Call s p f (map (type_of s) args)))
  fault_call e f args h =
      ap (λ (j : Judged). fault_in r (j.walk p)) (judge_call s e f args h)
      ∙ fault_append r (flat_map (λ (j : Judged). j.walk Inside) (map (judge s) args)) _
      ∙ (λ i. or_else (fault_in r (walks args i)) (or_none (own e.at (Call s p f (types args i))) i))

  pub type_call : (e : Expr) (f : List ℕ) (args : List Expr) → e.kind ≡ tree.Call f args → type_of s e ≡ the_one_of (results_of (signature_named s f) (map (type_of s) args))
  type_call e f args h = ap (λ (j : Judged). j.ty) (judge_call s e f args h) ∙ ap (λ tys. the_one_of (results_of (signature_named s f) tys)) (types args)

  pub right_call : (e : Expr) (f : List ℕ) (args : List Expr) → e.kind ≡ tree.Call f args → (judge s e).right ≡ results_of (signature_named s f) (map (type_of s) args)
  right_call e f args h = ap (λ (j : Judged). j.right) (judge_call s e f args h) ∙ ap (results_of (signature_named s f)) (types args)
