use Rattle.std.proofs.Common.{◌≡◌, drop}
use Rattle.std.specs.Prelude.{zip}
use Rattle.lus_types.specs.Names.{spot_names}
use Rattle.node_expand.specs.Known as spec
use Rattle.node_expand.specs.NameTables.{with_entries}
use Rattle.node_expand.proofs.roots.add_roots.Given as goal

abbrev pub invariant-loop-spot : goal.invariant-loop-spot
invariant-loop-spot l = with_entries l.places (zip (spot_names (drop l.spot-index l.left)) (spec.cut_places l.edge (spot_names (drop l.spot-index l.left)))) ≡ with_entries l.initial.places (zip (spot_names l.left) (spec.cut_places l.first (spot_names l.left)))
