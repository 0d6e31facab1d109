use Rattle.std.proofs.Common.{◌∙◌, sym}
use Rattle.cnf_form.specs.Marks.{marked}
use Rattle.cnf_form.proofs.MarkFacts.{added_once}
use Rattle.cnf_form.proofs.builder.ClauseBuilder.add.Goals as goal

pub invariant_of-self-in-Ok : goal.invariant_of-self-in-Ok
invariant_of-self-in-Ok c =
    added_once (marked c.self.inside.marks) (marked c.mark.new.self) c.self.inside.lits c.add.new.self c.args.lit
    c.self.invariant.0 c.self.invariant.1 (sym c.is_marked.ensures ∙ c.if-is_marked.false) c.in_ok-add.ensures.ok c.in-Ok.ensures.ok
