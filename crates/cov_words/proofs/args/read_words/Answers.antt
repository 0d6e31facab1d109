use Rattle.cov_words.specs.Jobs.{rows_in}
use Rattle.cov_words.proofs.Ranges.{found_in_range}
use Rattle.cov_words.proofs.args.read_words.Goals as goal

pub returns-in-Some-job_of-clause-ranges : goal.returns-in-Some-job_of-clause-ranges
returns-in-Some-job_of-clause-ranges c = found_in_range c.in-Some-verb_of.verb (rows_in c.in_ok-matches.matches) _ c.in-Some-job_of.ensures.some
