-- Each obligation has its node, and each prefix with its pin has one.
use Rattle.std.proofs.Common.{◌∙◌, ap, sym}
use Rattle.activation.specs.Tree.{Tree}
use Rattle.activation.proofs.Sharing.{shared}
use Rattle.activation.proofs.Trees.{goals_copied}
use Rattle.activation.proofs.acts.Acts.of_duties.Goals as goal

pub returns-clause-goals : goal.returns-clause-goals
returns-clause-goals c =
    goals_copied _ c.goals.new.tree _ _ _ _ _ (c.in_ok-gates.ensures ∙ c.gates.ensures) (c.in_ok-nodes.ensures ∙ c.nodes.ensures) c.in_ok-goals.ensures

pub returns-clause-shared : goal.returns-clause-shared
returns-clause-shared c =
    let gates = c.in_ok-gates.ensures ∙ c.gates.ensures ∙ sym (ap (λ (tree : Tree). tree.gates) c.tree.view_is) in
    let nodes = c.in_ok-nodes.ensures ∙ c.nodes.ensures ∙ sym (ap (λ (tree : Tree). tree.nodes) c.tree.view_is) in
    shared (record { gates = c.tree.inside.gates.keys; nodes = c.tree.inside.nodes.keys }) _ _ gates nodes c.tree.invariant.gates_differ c.tree.invariant.nodes_differ
