use Rattle.std.proofs.Common.{arith}
use Rattle.bit_blast.proofs.Gates.{clauses_within, made_part, some_kept}
use Rattle.bit_blast.proofs.maker.Maker.gate.Goals as goal

pub push_all-requires-clause-inside : goal.push_all-requires-clause-inside
push_all-requires-clause-inside c = clauses_within _ _ _ c.args.gate _ c.self.view_is _ c.vars-var.ensures.vars c.grow.ensures c.in_ok-clauses.ensures c.requires

pub invariant_of-self : goal.invariant_of-self
invariant_of-self c = made_part _ _ _ c.args.gate _ _ c.vars-var.ensures.vars c.grow.ensures c.in_err-push_all.ensures.some c.in_ok-clauses.ensures c.self.invariant (omega (arith, c.if-var-eq-MOST_VARS.false, c.vars-var.ensures.formula.0))

pub returns-in_err-push_all-clause-kept : goal.returns-in_err-push_all-clause-kept
returns-in_err-push_all-clause-kept c = some_kept _ _ _ _ c.args.gate _ _ c.self.view_is c.vars-var.ensures.vars c.grow.ensures c.in_err-push_all.ensures.some c.in_ok-clauses.ensures c.vars-var.ensures.formula.2 c.requires (omega (arith, c.if-var-eq-MOST_VARS.false, c.vars-var.ensures.formula.0))

pub invariant_of-self-2 : goal.invariant_of-self-2
invariant_of-self-2 c = made_part _ _ _ c.args.gate _ _ c.vars-var.ensures.vars c.grow.ensures c.in_ok-push_all.ensures.some c.in_ok-clauses.ensures c.self.invariant (omega (arith, c.if-var-eq-MOST_VARS.false, c.vars-var.ensures.formula.0))

pub returns-clause-kept : goal.returns-clause-kept
returns-clause-kept c = some_kept _ _ _ _ c.args.gate _ _ c.self.view_is c.vars-var.ensures.vars c.grow.ensures c.in_ok-push_all.ensures.some c.in_ok-clauses.ensures c.vars-var.ensures.formula.2 c.requires (omega (arith, c.if-var-eq-MOST_VARS.false, c.vars-var.ensures.formula.0))
