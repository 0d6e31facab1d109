use Rattle.dep_paths.proofs.Counts.{one_list as the_law}
use Rattle.dep_paths.proofs.law.one_list.Goals as goal

pub returns : goal.returns
returns c = the_law
