use Rattle.std.proofs.Common.{◌≡◌, ◌+◌, ◌++◌, Some, map, take}
use Rattle.std.specs.List.{enumerate_from, flat_map}
use Rattle.dep_paths.specs.declared.path.Obligation.TheVariants.{Mcc}
use Rattle.dep_paths.specs.declared.path.Pin.{Pin}
use Rattle.dep_paths.specs.Duties.{edges_on, pins_at}
use Rattle.dep_paths.proofs.duties.multiple.add_pins.Given as goal

abbrev pub invariant-loop-before : goal.invariant-loop-before
invariant-loop-before l = l.duties ≡ l.fn.duties ++ map (λ (pin : Pin). Mcc l.place (Some pin)) (flat_map (pins_at l.edges) (enumerate_from 0 (take (l.before + 1) (edges_on l.path))))
