use Rattle.std.proofs.Common.{◌≡◌, ◌∙◌, ap, get_or, arith}
use Rattle.cnf_form.specs.declared.lit.Lit.{Lit}
use Rattle.cnf_form.proofs.LitFacts.{turned_var}
use Rattle.sat_core.proofs.Marking.{below-at, no_lit}
use Rattle.sat_core.proofs.look.look.Goals as goal

pub is_set-requires : goal.is_set-requires
is_set-requires c =
    let b = below-at _ c.args.clause.now c.loop-lit.lit-index no_lit c.requires (omega arith) in
    let e : c.negated.result.var ≡ (get_or c.args.clause.now c.loop-lit.lit-index no_lit).var = ap (λ (y : Lit). y.var) c.negated.ensures ∙ turned_var _ in
    omega arith
