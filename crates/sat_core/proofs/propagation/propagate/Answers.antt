use Rattle.sat_core.proofs.Setting.{nearer-less}
use Rattle.sat_core.proofs.propagation.propagate.Goals as goal

pub passes-smaller : goal.passes-smaller
passes-smaller c = nearer-less c.passes.trail c.pass.new.trail c.in_ok-pass.ensures.vars (rw c.in-Forced.is at c.in_ok-pass.ensures.passed)
