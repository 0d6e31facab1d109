use Rattle.std.proofs.Common.{ap, arith}
use Rattle.cnf_form.specs.Shape.{Shape}
use Rattle.cnf_form.proofs.Below.{IsFormula_grow}
use Rattle.cnf_form.proofs.formula.Formula.grow.Goals as goal

pub invariant_of-self : goal.invariant_of-self
invariant_of-self c =
    let same = ap (λ (s : Shape). s.vars) c.self.view_is in
    IsFormula_grow c.self.inside.vars c.args.vars c.self.inside.clauses c.self.invariant (omega (arith, same, c.requires.rises)) c.requires.few
