-- The node is that of the path so far.
use Rattle.activation.specs.Growing.{TreeGrows}
use Rattle.activation.specs.Tree.{IsNodeOf}
use Rattle.activation.proofs.growth.Growth.node_of.Given as goal

abbrev pub invariant-loop-k : goal.invariant-loop-k
invariant-loop-k l = record {
  node : IsNodeOf l.self l.path l.pin l.k l.node;
  stays : TreeGrows l.fn.self l.self;
}
