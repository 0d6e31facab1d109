use Rattle.suite_file.proofs.Accepting.{accepted}
use Rattle.suite_file.proofs.laws.accepted.Goals as goal

pub returns : goal.returns
returns c = accepted
