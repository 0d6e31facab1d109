use Rattle.std.proofs.Common.{IsTrue, subst, sym}
use Rattle.cnf_form.specs.Lits.{below}
use Rattle.cnf_form.specs.Shape.{Shape}
use Rattle.bit_blast.proofs.Gates.{next_below}
use Rattle.bit_blast.proofs.maker.push_all.Goals as goal

pub push-requires-clause-inside : goal.push-requires-clause-inside
push-requires-clause-inside c =
    let i = c.loop-clause.invariant in
    subst (λ (f : Shape). IsTrue (below f.vars c.in-Some.clause)) (sym i.2) (next_below _ _ _ _ _ _ i.3 c.in-Some.ensures.steps.0 c.requires.inside)
