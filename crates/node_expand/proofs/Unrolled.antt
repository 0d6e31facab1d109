-- What a node that is not nested too deep is made of, at the full depth.
use Rattle.std.proofs.Common.{◌≡◌, ℕ, zero, suc, ◌-◌, ◌≤◌, Bool, List, ap, ◌∙◌, subst, arith}
use Rattle.std.specs.Prelude.{Some}
use Rattle.std.specs.List.{AllByRecursion}
use Rattle.lus_types.specs.Names.{Name}
use Rattle.lus_types.specs.Programs.{Node, Program}
use Rattle.node_expand.specs.Counts.{items_size, nodes_called_in}
use Rattle.node_expand.specs.Instances.{asserts_over, edges_over, items_asserts, items_edges, places_over, results_over, size_over}
use Rattle.node_expand.specs.Nesting.{IsNested}
use Rattle.node_expand.specs.Network.{callees_within}
use Rattle.node_expand.proofs.Deeper.{known_deeper, nested_within}

-- the node of a name that is nested at most so deep
pub record NodeBelow (program : Program) (depth : ℕ) (f : Name) : Type 0 where
  pub node : Node
  pub found : program.node f ≡ Some node
  pub some : 1 ≤ depth
  pub below : AllByRecursion (IsNested program (depth - 1)) (nodes_called_in node.items)

pub node_below : (program : Program) (depth : ℕ) (f : Name) → IsNested program depth f → NodeBelow program depth f
node_below program zero f nested = absurd nested
node_below program (suc depth) f nested =
    let less : depth ≡ suc depth - 1 = omega arith in
    record { node = nested.0; found = nested.1; some = omega arith; below = subst (λ d. AllByRecursion (IsNested program d) (nodes_called_in nested.0.items)) less nested.2 }

module _ (program : Program) (depth most : ℕ) (f : Name) (node : Node) (deep : depth ≤ most) (nested : IsNested program depth f) (found : program.node f ≡ Some node) where
  pub size_unrolled : (callees_within program most).size f ≡ items_size program node (callees_within program most) node.items
  size_unrolled = (known_deeper program most f (nested_within program depth most f deep nested)).shape.size ∙ ap (size_over program (callees_within program most)) found

  pub results_unrolled : (start : ℕ) → (callees_within program most).results f start ≡ results_over program (callees_within program most) (Some node) start
  results_unrolled start = (known_deeper program most f (nested_within program depth most f deep nested)).shape.results start ∙ ap (λ o. results_over program (callees_within program most) o start) found

  pub asserts_unrolled : (start : ℕ) → (callees_within program most).asserts f start ≡ items_asserts program node (callees_within program most) start node.items
  asserts_unrolled start = (known_deeper program most f (nested_within program depth most f deep nested)).asserts start ∙ ap (λ o. asserts_over program (callees_within program most) o start) found

  pub edges_unrolled : (args : List ℕ) (prefix : Name) (marked : Bool) (start : ℕ)
      → (callees_within program most).edges f args prefix marked start
      ≡ items_edges program node (callees_within program most) (places_over program node (callees_within program most) args start) prefix marked start 1 node.items
  edges_unrolled args prefix marked start =
      (known_deeper program most f (nested_within program depth most f deep nested)).edges args prefix marked start ∙ ap (λ o. edges_over program (callees_within program most) o args prefix marked start) found
