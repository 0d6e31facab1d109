use Rattle.std.proofs.Common.{◌≡◌, ◌++◌, drop, map}
use Rattle.lus_types.specs.Names.{globals}
use Rattle.node_expand.specs.Headers.{node_seen}
use Rattle.node_expand.specs.Law.{program_in}
use Rattle.node_expand.specs.Outlines as spec
use Rattle.node_expand.proofs.outlines.outlines_of_items.Given as goal

abbrev pub invariant-loop-item : goal.invariant-loop-item
invariant-loop-item l = l.outlines ++ map (spec.outline (program_in l.typed) (globals l.typed.ast.decls) (node_seen l.header)) (drop l.item-index l.items) ≡ map (spec.outline (program_in l.typed) (globals l.typed.ast.decls) (node_seen l.header)) l.items
