-- A gate and a node are added at most once each, and the node's parent is there.
use Rattle.std.proofs.Common.{◌<◌, length, sym, subst}
use Rattle.std.specs.Option.{ForSome}
use Rattle.activation.specs.Tree.{Tree}
use Rattle.activation.proofs.Trees.{more_in_place, once_tree}
use Rattle.activation.proofs.growth.Growth.node_behind.Goals as goal

pub invariant_of-self-2 : goal.invariant_of-self-2
invariant_of-self-2 c =
    let before : ForSome c.args.parent (λ p. p < length c.self.inside.nodes.keys) = subst (λ (tree : Tree). ForSome c.args.parent (λ p. p < length tree.nodes)) (sym c.self.view_is) c.requires.parent in
    record {
      place = more_in_place _ _ _ _ _ _ _ c.self.invariant.place c.place_of_gate.ensures.once c.in_ok-gate.ensures.there before c.place_of_node.ensures.once;
      gates_differ = c.place_of_gate.ensures.distinct;
      nodes_differ = c.place_of_node.ensures.distinct;
    }

pub returns-clause-stays : goal.returns-clause-stays
returns-clause-stays c = once_tree _ _ _ _ _ _ _ c.self.view_is c.place_of_gate.ensures.once c.place_of_node.ensures.once
