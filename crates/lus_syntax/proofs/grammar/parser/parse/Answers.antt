use Rattle.std.proofs.Common.{refl, arith}
use Rattle.lus_syntax.proofs.Cutting.{token_count}
use Rattle.lus_syntax.proofs.Programs.{program_taken, fault_place}
use Rattle.lus_syntax.proofs.grammar.parser.parse.Goals as goal

pub overflow_cast-result-in-Err-Stuck : goal.overflow_cast-result-in-Err-Stuck
overflow_cast-result-in-Err-Stuck c = let h = token_count c.requires.tokens in omega arith

pub returns-in-Ok-clause-ok : goal.returns-in-Ok-clause-ok
returns-in-Ok-clause-ok c = program_taken c.args.text.now c.in-Ok.ensures

pub returns-in-Err-Stuck-clause-refused : goal.returns-in-Err-Stuck-clause-refused
returns-in-Err-Stuck-clause-refused c = fault_place c.args.text.now _ (rw c.in-Err-Stuck.field-0-is at c.in-Err-Stuck.ensures) refl
