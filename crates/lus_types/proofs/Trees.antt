-- An induction over expressions, and the called names of each form.
use Rattle.std.proofs.Common.{◌≡◌, ℕ, Bool, List, [], ◌∷◌, ◌++◌, map, refl, sym, ap, ◌∙◌, subst}
use Rattle.std.specs.List.{flat_map}
use Rattle.lus_syntax.specs.declared.ast.BinOp.{BinOp}
use Rattle.lus_syntax.specs.declared.ast.Expr.{Expr, roll-Expr, ind-Expr, fold_out-Expr}
use Rattle.lus_syntax.specs.declared.ast.ExprKind.{ExprKind, map-ExprKind, roll-ExprKind, fold-ExprKind, fold-roll-ExprKind}
use Rattle.lus_syntax.specs.declared.ast.ExprKind.TheOpen as level
use Rattle.lus_syntax.specs.declared.ast.ExprKind.TheVariants as tree
use Rattle.lus_syntax.specs.declared.ast.ExprKind.TheVariants.{rolls-Name, rolls-Number, rolls-Truth, rolls-One, rolls-Two, rolls-Cond, rolls-Call}
use Rattle.lus_syntax.specs.declared.ast.UnOp.{UnOp}
use Rattle.lus_types.specs.Calls.{called_names, called_level}

mutual
  pub data Tree : Expr → Type 0 where
    t_name : {e : Expr} (x : List ℕ) → e.kind ≡ tree.Name x → Tree e
    t_number : {e : Expr} (n : ℕ) → e.kind ≡ tree.Number n → Tree e
    t_truth : {e : Expr} (b : Bool) → e.kind ≡ tree.Truth b → Tree e
    t_one : {e : Expr} (op : UnOp) (a : Expr) → e.kind ≡ tree.One op a → Tree a → Tree e
    t_two : {e : Expr} (op : BinOp) (a b : Expr) → e.kind ≡ tree.Two op a b → Tree a → Tree b → Tree e
    t_cond : {e : Expr} (a b c : Expr) → e.kind ≡ tree.Cond a b c → Tree a → Tree b → Tree c → Tree e
    t_call : {e : Expr} (f : List ℕ) (args : List Expr) → e.kind ≡ tree.Call f args → Trees args → Tree e

  pub data Trees : List Expr → Type 0 where
    t_none : Trees []
    t_more : {e : Expr} {es : List Expr} → Tree e → Trees es → Trees (e ∷ es)

KindTree : ExprKind → Type 0
KindTree k = (e : Expr) → e.kind ≡ k → Tree e

each : {P : Expr → Type 0} → ((e : Expr) → P e → Tree e) → (ys : List ((e : Expr) × P e)) → Trees (map (λ y. y.0) ys)
each f [] = t_none
each f (y ∷ ys) = t_more (f y.0 y.1) (each f ys)

pub tree_of : (e : Expr) → Tree e
unfolding KindTree
tree_of = ind-Expr KindTree Tree
    (λ x y is. (elim y as (λ y. map-ExprKind _ _ ExprKind Expr (λ e. e.0) (λ e. e.0) y ≡ x → KindTree (roll-ExprKind x)) [
      | level.Name n ↦ λ h e k. t_name n (k ∙ ap roll-ExprKind (sym h) ∙ rolls-Name n)
      | level.Number n ↦ λ h e k. t_number n (k ∙ ap roll-ExprKind (sym h) ∙ rolls-Number n)
      | level.Truth b ↦ λ h e k. t_truth b (k ∙ ap roll-ExprKind (sym h) ∙ rolls-Truth b)
      | level.One op a ↦ λ h e k. t_one op a.0 (k ∙ ap roll-ExprKind (sym h) ∙ rolls-One op a.0) a.1
      | level.Two op a b ↦ λ h e k. t_two op a.0 b.0 (k ∙ ap roll-ExprKind (sym h) ∙ rolls-Two op a.0 b.0) a.1 b.1
      | level.Cond a b c ↦ λ h e k. t_cond a.0 b.0 c.0 (k ∙ ap roll-ExprKind (sym h) ∙ rolls-Cond a.0 b.0 c.0) a.1 b.1 c.1
      | level.Call g args ↦ λ h e k. t_call g (map (λ y. y.0) args) (k ∙ ap roll-ExprKind (sym h) ∙ rolls-Call g (map (λ y. y.0) args)) (each (λ e t. t) args)
    ]) is)
    (λ x y is. subst (λ z. Tree (roll-Expr z)) is (y.kind.1 _ refl))

abbrev Names : Type 0
Names = List (List ℕ)

at_kind : (e : Expr) (k : ExprKind) → e.kind ≡ k → called_names e ≡ fold-ExprKind Names Names called_level (λ e. e.kind) k
at_kind e k h = fold_out-Expr Names Names called_level (λ e. e.kind) e ∙ ap (fold-ExprKind Names Names called_level (λ e. e.kind)) h

pub called_name : (e : Expr) (x : List ℕ) → e.kind ≡ tree.Name x → called_names e ≡ []
called_name e x h = at_kind e _ (h ∙ sym (rolls-Name x)) ∙ fold-roll-ExprKind Names Names called_level (λ e. e.kind) (level.Name x)

pub called_number : (e : Expr) (n : ℕ) → e.kind ≡ tree.Number n → called_names e ≡ []
called_number e n h = at_kind e _ (h ∙ sym (rolls-Number n)) ∙ fold-roll-ExprKind Names Names called_level (λ e. e.kind) (level.Number n)

pub called_truth : (e : Expr) (b : Bool) → e.kind ≡ tree.Truth b → called_names e ≡ []
called_truth e b h = at_kind e _ (h ∙ sym (rolls-Truth b)) ∙ fold-roll-ExprKind Names Names called_level (λ e. e.kind) (level.Truth b)

pub called_one : (e : Expr) (op : UnOp) (a : Expr) → e.kind ≡ tree.One op a → called_names e ≡ called_names a
called_one e op a h = at_kind e _ (h ∙ sym (rolls-One op a)) ∙ fold-roll-ExprKind Names Names called_level (λ e. e.kind) (level.One op a)

pub called_two : (e : Expr) (op : BinOp) (a b : Expr) → e.kind ≡ tree.Two op a b → called_names e ≡ called_names a ++ called_names b
called_two e op a b h = at_kind e _ (h ∙ sym (rolls-Two op a b)) ∙ fold-roll-ExprKind Names Names called_level (λ e. e.kind) (level.Two op a b)

pub called_cond : (e a b c : Expr) → e.kind ≡ tree.Cond a b c → called_names e ≡ called_names a ++ (called_names b ++ called_names c)
called_cond e a b c h = at_kind e _ (h ∙ sym (rolls-Cond a b c)) ∙ fold-roll-ExprKind Names Names called_level (λ e. e.kind) (level.Cond a b c)

pub called_call : (e : Expr) (f : List ℕ) (args : List Expr) → e.kind ≡ tree.Call f args → called_names e ≡ flat_map (λ names. names) (map called_names args) ++ f ∷ []
called_call e f args h = at_kind e _ (h ∙ sym (rolls-Call f args)) ∙ fold-roll-ExprKind Names Names called_level (λ e. e.kind) (level.Call f args)
