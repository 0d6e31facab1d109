use Rattle.std.proofs.Common.{rules, sym, ◌∙◌}
use Rattle.lus_syntax.specs.Cuts.{blank, line, block}
use Rattle.lus_syntax.proofs.tokens.pieces.next_piece.Goals as goal

pub returns-then-is_blank_first : goal.returns-then-is_blank_first
returns-then-is_blank_first c = blank (sym c.is_blank_first.ensures ∙ c.if-is_blank_first.true)

pub returns-then-begins : goal.returns-then-begins
returns-then-begins c = line _ (sym c.begins.ensures ∙ c.if-begins.true) (search rules)

pub returns-in-Some : goal.returns-in-Some
returns-in-Some c = block _ (search rules) (search rules)
