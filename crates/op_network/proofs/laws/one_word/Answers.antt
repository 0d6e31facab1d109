use Rattle.op_network.proofs.Words.{wrap_is_word, wrap_congruent, wrap_only}
use Rattle.op_network.proofs.laws.one_word.Goals as goal

pub returns-clause-word : goal.returns-clause-word
returns-clause-word c = wrap_is_word

pub returns-clause-congruent : goal.returns-clause-congruent
returns-clause-congruent c = wrap_congruent

pub returns-clause-only : goal.returns-clause-only
returns-clause-only c = wrap_only
