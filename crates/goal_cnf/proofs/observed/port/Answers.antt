use Rattle.std.proofs.Common.{sym, subst}
use Rattle.goal_cnf.proofs.Passing.{AnyBelow, unmasked_below}
use Rattle.goal_cnf.proofs.Tagging.{any_later}
use Rattle.goal_cnf.proofs.observed.port.Goals as goal

pub passage-requires-clause-unmasked : goal.passage-requires-clause-unmasked
passage-requires-clause-unmasked c =
    subst (AnyBelow c.args.maker.now.vars) (sym c.unmasked-u.ensures)
    (any_later c.args.un.now.formula.vars c.args.maker.now.vars _ (unmasked_below c.args.un.now c.args.t c.args.un.now.formula.vars c.args.form c.args.port.port c.requires.ready) c.requires.grown)
