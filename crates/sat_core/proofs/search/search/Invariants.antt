use Rattle.std.proofs.Common.{◌≡◌, ◌^◌, ◌-◌}
use Rattle.sat_core.specs.Logs.{IsSearching}
use Rattle.sat_core.specs.Solving.{vars_of, weight}
use Rattle.sat_core.proofs.search.search.Given as goal

abbrev pub invariant-turns : goal.invariant-turns
invariant-turns g l =
    IsSearching l.formula l.log l.trail (vars_of l.initial.trail) l.budget
    × ((goal.Chooser-dyn g l.chooser.now).size l.chooser.now.1 ≡ vars_of l.initial.trail)

abbrev pub decreases-turns : goal.decreases-turns
decreases-turns g l = 3 ^ vars_of l.trail - weight l.trail
