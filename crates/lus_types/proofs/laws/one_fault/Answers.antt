use Rattle.lus_types.specs.Views.{name_given}
use Rattle.lus_types.specs.Typing.{walk}
use Rattle.lus_types.proofs.FirstFault.{one_fault, not_both}
use Rattle.lus_types.proofs.laws.one_fault.Goals as goal

pub returns-clause-one : goal.returns-clause-one
returns-clause-one c = λ k l at other a b. one_fault c.args.ast.now.decls (walk c.args.ast.now c.args.width (name_given c.args.main)) k l at other a b

pub returns-clause-not_both : goal.returns-clause-not_both
returns-clause-not_both c = λ k at a fine. not_both c.args.ast.now.decls (walk c.args.ast.now c.args.width (name_given c.args.main)) k at a fine
