use Rattle.dep_paths.specs.declared.path.Criterion.TheVariants.{Bc, Ecc, Mcc}
use Rattle.score_table.proofs.FullScores.{full_follows}
use Rattle.score_table.proofs.laws.full_scores_imply.Goals as goal

pub returns-clause-elementary : goal.returns-clause-elementary
returns-clause-elementary c = full_follows Mcc Ecc c.criteria_imply.ensures.elementary

pub returns-clause-basic : goal.returns-clause-basic
returns-clause-basic c = full_follows Ecc Bc c.criteria_imply.ensures.basic
