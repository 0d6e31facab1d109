use Rattle.dep_paths.proofs.Existence.{some_list as the_law}
use Rattle.dep_paths.proofs.law.some_list.Goals as goal

pub returns : goal.returns
returns c = the_law
