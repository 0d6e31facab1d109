use Rattle.std.proofs.Common.{◌≡◌, drop}
use Rattle.lus_types.specs.Names.{Name, is_among, lefts}
use Rattle.lus_types.specs.NameTables.{among_either}
use Rattle.lus_types.proofs.nodes.signatures.defined_in.Given as goal

abbrev pub invariant-loop-item : goal.invariant-loop-item
invariant-loop-item l = (x : Name) → among_either x l.names (lefts (drop l.item-index l.items)) ≡ is_among x (lefts l.items)
