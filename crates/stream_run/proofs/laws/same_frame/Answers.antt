use Rattle.stream_run.proofs.Firings.{same_frame}
use Rattle.stream_run.proofs.laws.same_frame.Goals as goal

pub returns : goal.returns
returns c = same_frame
