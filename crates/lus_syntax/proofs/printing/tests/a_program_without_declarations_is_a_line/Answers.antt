use Rattle.lus_syntax.proofs.PrintedTexts.{empty_tree}
use Rattle.lus_syntax.proofs.printing.tests.a_program_without_declarations_is_a_line.Goals as goal

pub print-requires : goal.print-requires
print-requires g c = record { tree = empty_tree _ c.new-decls.ensures }
