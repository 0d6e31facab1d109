use Rattle.std.proofs.Common.{length}
use Rattle.omcdc_tags.specs.Ports.{ArePlacesBelow, IsTable}
use Rattle.omcdc_tags.proofs.ports.add_conditions.Given as goal

abbrev pub invariant-loop-condition : goal.invariant-loop-condition
invariant-loop-condition l = record {
  is_table : IsTable (length l.net.edges) l.ports l.table;
  places : ArePlacesBelow l.net.edges l.conditions l.condition-index l.ports l.places;
}
