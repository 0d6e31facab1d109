use Rattle.std.proofs.Common.{sym, ◌∙◌}
use Rattle.lus_syntax.proofs.LongestTokens.{name_longest}
use Rattle.lus_syntax.proofs.tokens.pieces.name_len.Goals as goal

pub returns-else-is_part : goal.returns-else-is_part
returns-else-is_part c = name_longest _ _ c.loop-len.invariant.some c.loop-len.invariant.within c.requires.first c.loop-len.invariant.parts (λ h. sym c.is_part.ensures ∙ c.if-is_part.false)
