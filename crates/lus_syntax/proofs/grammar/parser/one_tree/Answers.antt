use Rattle.lus_syntax.proofs.Programs.{one_program, one_place, tree_or_fault}
use Rattle.lus_syntax.proofs.grammar.parser.one_tree.Goals as goal

pub returns : goal.returns
returns c = record { tree = one_program; place = one_place; apart = tree_or_fault }
