use Rattle.dep_paths.proofs.FullCriteria.{full_basic, full_elementary}
use Rattle.dep_paths.proofs.law.criteria_imply.Goals as goal

pub returns : goal.returns
returns c = record { elementary = full_elementary; basic = full_basic }
