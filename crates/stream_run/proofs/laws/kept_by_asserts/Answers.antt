use Rattle.stream_run.proofs.Keeping.{kept_by_asserts, one_kept}
use Rattle.stream_run.proofs.laws.kept_by_asserts.Goals as goal

pub returns-clause-first : goal.returns-clause-first
returns-clause-first c = kept_by_asserts

pub returns-clause-only : goal.returns-clause-only
returns-clause-only c = one_kept
