use Rattle.std.proofs.Common.{◌≡◌, ◌++◌}
use Rattle.std.specs.Vec.Iter.{into_iter_items}
use Rattle.cov_station.proofs.scores.keeping.keep_tests.Given as goal

-- the tests so far are kept, and the others are left
abbrev pub invariant-loop-test : goal.invariant-loop-test
invariant-loop-test g l =
    (goal.iterator-loop-test g).can_next l.test-iterator ×
    (goal.iterator-loop-test g).is_finite l.test-iterator ×
    (l.table ≡ record { network = l.fn.table.network; plan = l.fn.table.plan; tests = l.yielded }) ×
    (l.yielded ++ into_iter_items l.test-iterator ≡ l.fn.tests)
