-- The own edges and the calls of an expression's fragment are counted by the text alone.
use Rattle.std.proofs.Common.{List, None, Option, Some, [], ap, ap₂, flat_map, if◌then◌else◌, is_some, length, length-append, map, refl, suc, sym, ℕ, ◌++◌, ◌+◌, ◌∙◌, ◌∷◌, ◌≡◌}
use Rattle.std.proofs.lemmas.List.{map-append}
use Rattle.lus_syntax.specs.declared.ast.Expr.{Expr}
use Rattle.lus_types.proofs.Trees.{Tree, Trees, t_call, t_cond, t_more, t_name, t_none, t_number, t_one, t_truth, t_two, tree_of}
use Rattle.lus_types.specs.Programs.{Node, Program}
use Rattle.lus_types.specs.declared.types.Constant.{Constant}
use Rattle.op_network.specs.declared.value.Ty.{Ty}
use Rattle.node_expand.specs.Counts.{nodes_called, nodes_called_level, own_count, own_count_level}
use Rattle.node_expand.specs.Fragments.{Callees, Fragment, Places, fragment, name_fragment, nodes_of, place_all, place_level, place_of, total}
use Rattle.node_expand.specs.Names.{constant_in}
use Rattle.node_expand.proofs.Folds.{folded_call, folded_if, folded_name, folded_number, folded_one, folded_truth, folded_two}

name_count : (c : Option Constant) (ty : Ty) (place at : ℕ) → length (name_fragment c ty place at).own ≡ (if is_some c then 1 else 0)
name_count (Some c) ty place at = refl
name_count None ty place at = refl

name_calls : (c : Option Constant) (ty : Ty) (place at : ℕ) → nodes_of (name_fragment c ty place at).calls ≡ []
name_calls (Some c) ty place at = refl
name_calls None ty place at = refl

module _ (program : Program) (node : Node) (callees : Callees) (table : Places) where
  abbrev make : Expr → ℕ → ℕ → Fragment
  make = fragment program node callees table

  abbrev count : Expr → ℕ
  count = own_count program node

  mutual
    tree_count : {e : Expr} → Tree e → (at inner : ℕ) → length (make e at inner).own ≡ count e
    tree_count {e} (t_name x k) at inner = ap (λ m. length (m at inner).own) (folded_name (place_level program node callees table) e x k)
        ∙ name_count (constant_in program node x) _ (place_of table x) at
        ∙ sym (folded_name (own_count_level program node) e x k)
    tree_count {e} (t_number n k) at inner = ap (λ m. length (m at inner).own) (folded_number (place_level program node callees table) e n k)
        ∙ sym (folded_number (own_count_level program node) e n k)
    tree_count {e} (t_truth b k) at inner = ap (λ m. length (m at inner).own) (folded_truth (place_level program node callees table) e b k)
        ∙ sym (folded_truth (own_count_level program node) e b k)
    tree_count {e} (t_one op a k p) at inner = ap (λ m. length (m at inner).own) (folded_one (place_level program node callees table) e a op k)
        ∙ ap suc (tree_count p (suc at) inner) ∙ sym (folded_one (own_count_level program node) e a op k)
    tree_count {e} (t_two op a b k p q) at inner =
        ap (λ m. length (m at inner).own) (folded_two (place_level program node callees table) e a b op k)
        ∙ ap suc (length-append (make a (suc at) inner).own _ ∙ ap₂ (λ m n. m + n) (tree_count p (suc at) inner) (tree_count q _ _))
        ∙ sym (folded_two (own_count_level program node) e a b op k)
    tree_count {e} (t_cond a b c k p q r) at inner =
        ap (λ m. length (m at inner).own) (folded_if (place_level program node callees table) e a b c k)
        ∙ ap suc (length-append (make a (suc at) inner).own _ ∙ ap₂ (λ m n. m + n) (tree_count p (suc at) inner) (length-append (make b _ _).own _ ∙ ap₂ (λ m n. m + n) (tree_count q _ _) (tree_count r _ _)))
        ∙ sym (folded_if (own_count_level program node) e a b c k)
    tree_count {e} (t_call g args k ps) at inner =
        ap (λ m. length (m at inner).own) (folded_call (place_level program node callees table) e g args k)
        ∙ trees_count ps at (inner + callees.size g)
        ∙ sym (folded_call (own_count_level program node) e g args k)

    trees_count : {es : List Expr} → Trees es → (at inner : ℕ)
        → length (place_all program node callees table (map make es) at inner).own ≡ total (map count es)
    trees_count t_none at inner = refl
    trees_count (t_more {e = e} p ps) at inner = length-append (make e at inner).own _
        ∙ ap₂ (λ m n. m + n) (tree_count p at inner) (trees_count ps _ _)

  mutual
    tree_calls : {e : Expr} → Tree e → (at inner : ℕ) → nodes_of (make e at inner).calls ≡ nodes_called e
    tree_calls {e} (t_name x k) at inner = ap (λ m. nodes_of (m at inner).calls) (folded_name (place_level program node callees table) e x k)
        ∙ name_calls (constant_in program node x) _ (place_of table x) at ∙ sym (folded_name nodes_called_level e x k)
    tree_calls {e} (t_number n k) at inner = ap (λ m. nodes_of (m at inner).calls) (folded_number (place_level program node callees table) e n k)
        ∙ sym (folded_number nodes_called_level e n k)
    tree_calls {e} (t_truth b k) at inner = ap (λ m. nodes_of (m at inner).calls) (folded_truth (place_level program node callees table) e b k)
        ∙ sym (folded_truth nodes_called_level e b k)
    tree_calls {e} (t_one op a k p) at inner = ap (λ m. nodes_of (m at inner).calls) (folded_one (place_level program node callees table) e a op k)
        ∙ tree_calls p (suc at) inner ∙ sym (folded_one nodes_called_level e a op k)
    tree_calls {e} (t_two op a b k p q) at inner =
        ap (λ m. nodes_of (m at inner).calls) (folded_two (place_level program node callees table) e a b op k)
        ∙ map-append (λ c. c.node) (make a (suc at) inner).calls _ ∙ ap₂ (λ m n. m ++ n) (tree_calls p (suc at) inner) (tree_calls q _ _)
        ∙ sym (folded_two nodes_called_level e a b op k)
    tree_calls {e} (t_cond a b c k p q r) at inner =
        ap (λ m. nodes_of (m at inner).calls) (folded_if (place_level program node callees table) e a b c k)
        ∙ map-append (λ c. c.node) (make a (suc at) inner).calls _
        ∙ ap₂ (λ m n. m ++ n) (tree_calls p (suc at) inner) (map-append (λ c. c.node) (make b _ _).calls _ ∙ ap₂ (λ m n. m ++ n) (tree_calls q _ _) (tree_calls r _ _))
        ∙ sym (folded_if nodes_called_level e a b c k)
    tree_calls {e} (t_call g args k ps) at inner =
        ap (λ m. nodes_of (m at inner).calls) (folded_call (place_level program node callees table) e g args k)
        ∙ ap (λ l. g ∷ l) (trees_calls ps at (inner + callees.size g))
        ∙ sym (folded_call nodes_called_level e g args k)

    trees_calls : {es : List Expr} → Trees es → (at inner : ℕ)
        → nodes_of (place_all program node callees table (map make es) at inner).calls ≡ flat_map (λ names. names) (map nodes_called es)
    trees_calls t_none at inner = refl
    trees_calls (t_more {e = e} p ps) at inner = map-append (λ c. c.node) (make e at inner).calls _
        ∙ ap₂ (λ m n. m ++ n) (tree_calls p at inner) (trees_calls ps _ _)

  pub own_counted : (e : Expr) (at inner : ℕ) → length (make e at inner).own ≡ count e
  own_counted e at inner = tree_count (tree_of e) at inner

  pub calls_counted : (e : Expr) (at inner : ℕ) → nodes_of (make e at inner).calls ≡ nodes_called e
  calls_counted e at inner = tree_calls (tree_of e) at inner
