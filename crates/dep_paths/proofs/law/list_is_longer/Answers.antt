use Rattle.dep_paths.proofs.Counts.{list_is_longer as the_law}
use Rattle.dep_paths.proofs.law.list_is_longer.Goals as goal

pub returns : goal.returns
returns c = the_law
