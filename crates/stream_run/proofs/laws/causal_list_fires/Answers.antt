use Rattle.stream_run.proofs.Listed.{list_is_ready, list_finishes}
use Rattle.stream_run.proofs.laws.causal_list_fires.Goals as goal

pub returns-clause-ready : goal.returns-clause-ready
returns-clause-ready c = list_is_ready

pub returns-clause-finished : goal.returns-clause-finished
returns-clause-finished c = list_finishes
