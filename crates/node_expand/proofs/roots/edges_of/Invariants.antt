use Rattle.std.proofs.Common.{◌≡◌, ◌++◌, drop, map, min}
use Rattle.node_expand.specs.declared.limits.TheConstants.{MANY}
use Rattle.node_expand.specs.Fragments.{place_of}
use Rattle.node_expand.specs.Variables.{names_of}
use Rattle.node_expand.proofs.roots.edges_of.Given as goal

abbrev pub invariant-loop-variable : goal.invariant-loop-variable
invariant-loop-variable l = l.edges ++ map (λ x. min (place_of l.places x) MANY) (names_of (drop l.variable-index l.variables)) ≡ map (λ x. min (place_of l.places x) MANY) (names_of l.variables)
