use Rattle.std.proofs.Common.{◌≡◌, ◌<◌, ◌≤◌, ◌+◌, [], None}
use Rattle.suite_file.specs.Reading.{IsReading, unread}
use Rattle.suite_file.specs.Steps.{IsKept, instants_of}
use Rattle.suite_file.specs.Suites.{tests_from, so_far}
use Rattle.suite_file.specs.declared.limits.TheConstants.{MOST_INSTANTS}
use Rattle.suite_file.proofs.suite.read_tests.Given as goal

abbrev pub invariant-loop-number : goal.invariant-loop-number
invariant-loop-number l = IsReading l.reader
    × (tests_from l.fn.parts l.fn.layout 1 (so_far [] None) (unread l.fn.reader) ≡ tests_from l.fn.parts l.fn.layout l.number (so_far l.progress.ended l.progress.current) (unread l.reader))
    × IsKept l.progress
    × (instants_of l.progress.current < l.number)
    × (l.number ≤ MOST_INSTANTS + 1)
