use Rattle.std.proofs.Common.{◌≡◌, ◌-◌, ◌^◌, ◌≤◌}
use Rattle.sat_core.specs.Solving.{vars_of, weight, IsSolving}
use Rattle.sat_core.proofs.propagation.propagate.Given as goal

abbrev pub invariant-passes : goal.invariant-passes
invariant-passes l =
    IsSolving l.formula l.log l.trail × (vars_of l.trail ≡ vars_of l.initial.trail) × (weight l.initial.trail ≤ weight l.trail)

abbrev pub decreases-passes : goal.decreases-passes
decreases-passes l = 3 ^ vars_of l.trail - weight l.trail
