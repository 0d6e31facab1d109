-- How deep calls are nested.
use Rattle.std.specs.Prelude.{◌≡◌, ℕ, zero, suc, Some}
use Rattle.std.specs.List.{AllByRecursion}
use Rattle.lus_types.specs.Names.{Name}
use Rattle.lus_types.specs.Programs.{Node, Program}
use Rattle.node_expand.specs.declared.limits.TheConstants.{MOST_DEPTH}
use Rattle.node_expand.specs.Counts.{nodes_called_in}

-- The name means a node, from which calls are nested at most so deep, itself counted as 1.
abbrev pub IsNested : Program → ℕ → Name → Type 0
IsNested program zero g = ⊥
IsNested program (suc depth) g =
    (node : Node) × (program.node g ≡ Some node)
    × AllByRecursion (IsNested program depth) (nodes_called_in node.items)

-- Nested at most as deep as is allowed. This word is shut: seen through, the depth would unroll the recursion.
unfoldable pub IsWithinDepth : Program → Name → Type 0
IsWithinDepth program main = IsNested program MOST_DEPTH main
