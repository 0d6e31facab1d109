use Rattle.std.proofs.Common.{◌≡◌, ◌≤◌, drop}
use Rattle.suite_file.specs.declared.limits.TheConstants.{MOST_ABSOLUTE}
use Rattle.suite_file.proofs.Digits.{bounded}
use Rattle.suite_file.proofs.values.numeral.Given as goal

abbrev pub invariant-loop-digit : goal.invariant-loop-digit
invariant-loop-digit l = (bounded 0 l.fn.digits ≡ bounded l.number (drop l.digit-index l.fn.digits)) × (l.number ≤ MOST_ABSOLUTE)
