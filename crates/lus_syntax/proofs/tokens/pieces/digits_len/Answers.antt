use Rattle.std.proofs.Common.{sym, ◌∙◌}
use Rattle.lus_syntax.proofs.LongestTokens.{digits_longest}
use Rattle.lus_syntax.proofs.tokens.pieces.digits_len.Goals as goal

pub returns-else-is_ascii_digit : goal.returns-else-is_ascii_digit
returns-else-is_ascii_digit c = digits_longest _ _ c.loop-len.invariant.some c.loop-len.invariant.within c.requires.no_letter c.requires.first c.loop-len.invariant.parts (λ h. sym c.is_ascii_digit.ensures.value ∙ c.if-is_ascii_digit.false)
