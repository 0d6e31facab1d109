use Rattle.std.proofs.Common.{ap, refl, sym, ◌∙◌}
use Rattle.std.specs.Prelude.{Err}
use Rattle.cov_words.specs.Jobs.{asked}
use Rattle.cov_station.specs.Steps.{gives, refuses, runs_out}
use Rattle.cov_station.specs.Words.{asks, asks_nothing, asks_too_early}
use Rattle.cov_station.proofs.words.job_of.Goals as goal

pub returns-then-is_served-clause-answer : goal.returns-then-is_served-clause-answer
returns-then-is_served-clause-answer c = gives (asks c.in-Ok.ensures.ok (sym c.is_served.ensures ∙ c.if-is_served.true)) refl

pub returns-else-is_served-clause-answer : goal.returns-else-is_served-clause-answer
returns-else-is_served-clause-answer c =
    refuses (asks_too_early (asked c.in-Ok.job) c.in-Ok.ensures.ok (sym c.is_served.ensures ∙ c.if-is_served.false))

pub returns-in-Err-Usage-clause-answer : goal.returns-in-Err-Usage-clause-answer
returns-in-Err-Usage-clause-answer c = refuses (asks_nothing (c.in-Err-Usage.ensures.usage (ap Err c.in-Err-Usage.field-0-is)))

pub returns-in-Err-Memory-clause-answer : goal.returns-in-Err-Memory-clause-answer
returns-in-Err-Memory-clause-answer c = runs_out
