use Rattle.lus_syntax.proofs.OneCutting.{one_cutting, ends_all, no_cut_at_fault, one_fault}
use Rattle.lus_syntax.proofs.tokens.lexer.one_cutting.Goals as goal

pub returns-clause-once : goal.returns-clause-once
returns-clause-once c = λ text ts us a b. (one_cutting a b (ends_all text) (ends_all text)).0

pub returns-clause-no_cut_at_fault : goal.returns-clause-no_cut_at_fault
returns-clause-no_cut_at_fault c = λ text fault ts h b. no_cut_at_fault text fault ts h b

pub returns-clause-one_fault : goal.returns-clause-one_fault
returns-clause-one_fault c = λ text fault other e f h k. one_fault text fault other e f h k
