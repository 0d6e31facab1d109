use Rattle.stream_run.proofs.Firings.{some_ready}
use Rattle.stream_run.proofs.laws.some_edge_is_ready.Goals as goal

pub returns : goal.returns
returns c = some_ready
