use Rattle.std.proofs.Common.{refl}
use Rattle.cov_station.specs.Sources.{has_bad_byte, has_open_comment, has_wide_literal, lexes}
use Rattle.cov_station.specs.Steps.{gives, refuses, runs_out}
use Rattle.cov_station.proofs.source.tokens_of.Goals as goal

pub returns-in-Ok-clause-tokens : goal.returns-in-Ok-clause-tokens
returns-in-Ok-clause-tokens c = gives (lexes c.in-Ok.ensures.tokens) refl

pub returns-in-Err-BadByte-clause-tokens : goal.returns-in-Err-BadByte-clause-tokens
returns-in-Err-BadByte-clause-tokens c = refuses (has_bad_byte (rw c.in-Err-BadByte.field-0-is at c.in-Err-BadByte.ensures.fault))

pub returns-in-Err-OpenComment-clause-tokens : goal.returns-in-Err-OpenComment-clause-tokens
returns-in-Err-OpenComment-clause-tokens c = refuses (has_open_comment (rw c.in-Err-OpenComment.field-0-is at c.in-Err-OpenComment.ensures.fault))

pub returns-in-Err-WideLiteral-clause-tokens : goal.returns-in-Err-WideLiteral-clause-tokens
returns-in-Err-WideLiteral-clause-tokens c = refuses (has_wide_literal (rw c.in-Err-WideLiteral.field-0-is at c.in-Err-WideLiteral.ensures.fault))

pub returns-in-Err-Memory-clause-tokens : goal.returns-in-Err-Memory-clause-tokens
returns-in-Err-Memory-clause-tokens c = runs_out
