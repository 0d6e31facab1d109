use Rattle.dep_paths.proofs.Fronts.{met_more}
use Rattle.dep_paths.proofs.law.later_frames_change_nothing.Goals as goal

pub returns : goal.returns
returns c = met_more
