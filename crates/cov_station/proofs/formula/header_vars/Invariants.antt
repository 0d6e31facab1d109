use Rattle.std.proofs.Common.{◌≡◌, length}
use Rattle.cov_station.specs.Formulas.{header_vars}
use Rattle.cov_station.proofs.formula.header_vars.Given as goal

-- the lines before are blank or comments
abbrev pub invariant-loop-line : goal.invariant-loop-line
invariant-loop-line l = header_vars l.rest ≡ header_vars l.fn.text

abbrev pub decreases-loop-line : goal.decreases-loop-line
decreases-loop-line l = length l.rest
