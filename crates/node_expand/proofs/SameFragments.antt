-- Two accounts of the nodes that may be called give an expression one fragment, where they have the same sizes and results.
use Rattle.std.proofs.Common.{List, [], ap, ap₂, flat_map, length, map, refl, subst, suc, sym, ℕ, ◌++◌, ◌+◌, ◌∙◌, ◌∷◌, ◌≡◌}
use Rattle.std.specs.List.{AllByRecursion}
use Rattle.lus_syntax.specs.declared.ast.Expr.{Expr}
use Rattle.lus_types.proofs.Trees.{Tree, Trees, t_call, t_cond, t_more, t_name, t_none, t_number, t_one, t_truth, t_two}
use Rattle.lus_types.specs.Names.{Name}
use Rattle.lus_types.specs.Programs.{Node, Program}
use Rattle.node_expand.specs.Counts.{nodes_called, nodes_called_level}
use Rattle.node_expand.specs.Fragments.{Callees, Fragment, Places, binary_fragment, first_place, fragment, if_fragment, nodes_of, place_all, place_level, result_type, size_of_all, unary_fragment}
use Rattle.node_expand.proofs.Counted.{calls_counted}
use Rattle.node_expand.proofs.Folds.{folded_call, folded_if, folded_name, folded_number, folded_one, folded_truth, folded_two}
use Rattle.node_expand.proofs.Lists.{all_left, all_right}

-- both have the same size and the same results of a node
pub record SameShape (c d : Callees) (g : Name) : Type 0 where
  pub size : c.size g ≡ d.size g
  pub results : (start : ℕ) → c.results g start ≡ d.results g start

pub sizes_same : (c d : Callees) (gs : List Name) → AllByRecursion (SameShape c d) gs → size_of_all c gs ≡ size_of_all d gs
sizes_same c d [] all = refl
sizes_same c d (g ∷ gs) all = ap₂ (λ i j. i + j) all.0.size (sizes_same c d gs all.1)

module _ (program : Program) (node : Node) (table : Places) (c d : Callees) where
  abbrev make : Expr → ℕ → ℕ → Fragment
  make = fragment program node c table

  abbrev make' : Expr → ℕ → ℕ → Fragment
  make' = fragment program node d table

  behind_same : (e : Expr) (at inner : ℕ) → AllByRecursion (SameShape c d) (nodes_called e)
      → size_of_all c (nodes_of (make' e at inner).calls) ≡ size_of_all d (nodes_of (make' e at inner).calls)
  behind_same e at inner all = sizes_same c d (nodes_of (make' e at inner).calls) (subst (AllByRecursion (SameShape c d)) (sym (calls_counted program node d table e at inner)) all)

  -- a call over what is fragment of its arguments
  abbrev with_results : Name → List ℕ → Fragment → Fragment
  with_results g r m = record { values = r; ty = result_type (program.node g); own = m.own; calls = record { node = g; args = m.values } ∷ m.calls }

  -- one more argument
  abbrev with_first : Fragment → Fragment → Fragment
  with_first m rest = record { values = first_place m.values ∷ rest.values; ty = m.ty; own = m.own ++ rest.own; calls = m.calls ++ rest.calls }

  mutual
    pub same_fragment : {e : Expr} → Tree e → AllByRecursion (SameShape c d) (nodes_called e) → (at inner : ℕ)
        → make e at inner ≡ make' e at inner
    same_fragment {e} (t_name x k) all at inner = ap (λ m. m at inner) (folded_name (place_level program node c table) e x k)
        ∙ sym (ap (λ m. m at inner) (folded_name (place_level program node d table) e x k))
    same_fragment {e} (t_number x k) all at inner = ap (λ m. m at inner) (folded_number (place_level program node c table) e x k)
        ∙ sym (ap (λ m. m at inner) (folded_number (place_level program node d table) e x k))
    same_fragment {e} (t_truth x k) all at inner = ap (λ m. m at inner) (folded_truth (place_level program node c table) e x k)
        ∙ sym (ap (λ m. m at inner) (folded_truth (place_level program node d table) e x k))
    same_fragment {e} (t_one op a k p) all at inner =
        ap (λ m. m at inner) (folded_one (place_level program node c table) e a op k)
        ∙ ap (unary_fragment op at) (same_fragment p (subst (AllByRecursion (SameShape c d)) (folded_one nodes_called_level e a op k) all) (suc at) inner)
        ∙ sym (ap (λ m. m at inner) (folded_one (place_level program node d table) e a op k))
    same_fragment {e} (t_two op a b k p q) all at inner =
        let each = subst (AllByRecursion (SameShape c d)) (folded_two nodes_called_level e a b op k) all in
        let all_a = all_left (SameShape c d) (nodes_called a) (nodes_called b) each in
        let all_b = all_right (SameShape c d) (nodes_called a) (nodes_called b) each in
        let m' = make' a (suc at) inner in
        ap (λ m. m at inner) (folded_two (place_level program node c table) e a b op k)
        ∙ ap (λ (m : Fragment). binary_fragment op at m (make b (suc at + length m.own) (inner + size_of_all c (nodes_of m.calls)))) (same_fragment p all_a (suc at) inner)
        ∙ ap (λ i. binary_fragment op at m' (make b (suc at + length m'.own) (inner + i))) (behind_same a (suc at) inner all_a)
        ∙ ap (binary_fragment op at m') (same_fragment q all_b (suc at + length m'.own) (inner + size_of_all d (nodes_of m'.calls)))
        ∙ sym (ap (λ m. m at inner) (folded_two (place_level program node d table) e a b op k))
    same_fragment {e} (t_cond a b x k p q r) all at inner =
        let each = subst (AllByRecursion (SameShape c d)) (folded_if nodes_called_level e a b x k) all in
        let all_a = all_left (SameShape c d) (nodes_called a) (nodes_called b ++ nodes_called x) each in
        let rest = all_right (SameShape c d) (nodes_called a) (nodes_called b ++ nodes_called x) each in
        let all_b = all_left (SameShape c d) (nodes_called b) (nodes_called x) rest in
        let all_x = all_right (SameShape c d) (nodes_called b) (nodes_called x) rest in
        let m' = make' a (suc at) inner in
        let at' = suc at + length m'.own in
        let inner' = inner + size_of_all d (nodes_of m'.calls) in
        let w' = make' b at' inner' in
        ap (λ m. m at inner) (folded_if (place_level program node c table) e a b x k)
        ∙ ap (λ (m : Fragment). if_fragment at m (make b (suc at + length m.own) (inner + size_of_all c (nodes_of m.calls))) (make x (suc at + length m.own + length (make b (suc at + length m.own) (inner + size_of_all c (nodes_of m.calls))).own) (inner + size_of_all c (nodes_of m.calls) + size_of_all c (nodes_of (make b (suc at + length m.own) (inner + size_of_all c (nodes_of m.calls))).calls)))) (same_fragment p all_a (suc at) inner)
        ∙ ap (λ i. if_fragment at m' (make b at' (inner + i)) (make x (at' + length (make b at' (inner + i)).own) (inner + i + size_of_all c (nodes_of (make b at' (inner + i)).calls)))) (behind_same a (suc at) inner all_a)
        ∙ ap (λ (w : Fragment). if_fragment at m' w (make x (at' + length w.own) (inner' + size_of_all c (nodes_of w.calls)))) (same_fragment q all_b at' inner')
        ∙ ap (λ i. if_fragment at m' w' (make x (at' + length w'.own) (inner' + i))) (behind_same b at' inner' all_b)
        ∙ ap (if_fragment at m' w') (same_fragment r all_x (at' + length w'.own) (inner' + size_of_all d (nodes_of w'.calls)))
        ∙ sym (ap (λ m. m at inner) (folded_if (place_level program node d table) e a b x k))
    same_fragment {e} (t_call g args k ps) all at inner =
        let each = subst (AllByRecursion (SameShape c d)) (folded_call nodes_called_level e g args k) all in
        ap (λ m. m at inner) (folded_call (place_level program node c table) e g args k)
        ∙ ap (λ r. with_results g r (place_all program node c table (map make args) at (inner + c.size g))) (each.0.results inner)
        ∙ ap (λ i. with_results g (d.results g inner) (place_all program node c table (map make args) at (inner + i))) each.0.size
        ∙ ap (with_results g (d.results g inner)) (same_all ps each.1 at (inner + d.size g))
        ∙ sym (ap (λ m. m at inner) (folded_call (place_level program node d table) e g args k))

    same_all : {es : List Expr} → Trees es
        → AllByRecursion (SameShape c d) (flat_map (λ names. names) (map nodes_called es)) → (at inner : ℕ)
        → place_all program node c table (map make es) at inner ≡ place_all program node d table (map make' es) at inner
    same_all t_none all at inner = refl
    same_all (t_more {e = e} {es = es} p ps) all at inner =
        let all_e = all_left (SameShape c d) (nodes_called e) (flat_map (λ names. names) (map nodes_called es)) all in
        let m' = make' e at inner in
        ap (λ (m : Fragment). with_first m (place_all program node c table (map make es) (at + length m.own) (inner + size_of_all c (nodes_of m.calls)))) (same_fragment p all_e at inner)
        ∙ ap (λ i. with_first m' (place_all program node c table (map make es) (at + length m'.own) (inner + i))) (behind_same e at inner all_e)
        ∙ ap (with_first m') (same_all ps (all_right (SameShape c d) (nodes_called e) (flat_map (λ names. names) (map nodes_called es)) all) (at + length m'.own) (inner + size_of_all d (nodes_of m'.calls)))
