use Rattle.std.proofs.Common.{◌∙◌, ◌+◌, ◌∷◌, ◌≤◌, ◌≡◌, [], ℕ, List, sym, ap, map, refl, subst}
use Rattle.std.specs.Prelude.{All, IfOk, None, Some, option_map}
use Rattle.std.specs.Borrow.{Bor}
use Rattle.node_expand.specs.declared.limits.TheConstants.{MANY}
use Rattle.node_expand.specs.Known.{called, results_at}
use Rattle.node_expand.specs.Making.{callees_of, node_of, program_of}
use Rattle.node_expand.proofs.RightValues.{call_values, single_value, small_at}
use Rattle.node_expand.proofs.right.values_of.Goals as goal

pub shifted-requires-clause-small : goal.shifted-requires-clause-small
shifted-requires-clause-small c =
    let tables = c.args.scope.now.tables.now in
    subst (All (λ k. k ≤ MANY)) (sym c.results_at-results.ensures) (small_at tables.results c.node_named.result tables.small)

pub returns-in-Some : goal.returns-in-Some
returns-in-Some c = λ at first.
    let scope = c.args.scope.now in
    let f = c.in-Some.name.now in
    let is : called c.args.expr.now ≡ Some f = sym c.called.ensures ∙ ap (option_map (λ (n : Bor (List ℕ)). n.now)) c.in-Some.is in
    subst (λ v. IfOk c.shifted.result (λ values. values ≡ v))
    (ap (map (λ k. c.args.inner + k)) (c.results_at-results.ensures ∙ ap (results_at scope.tables.now.results) c.node_named.ensures)
    ∙ sym (call_values (program_of scope) (node_of scope) (callees_of scope) scope.places.now c.args.expr.now f at c.args.inner is))
    c.shifted.ensures

pub returns-in-None : goal.returns-in-None
returns-in-None c = λ at first.
    let scope = c.args.scope.now in
    let is : called c.args.expr.now ≡ None = sym c.called.ensures ∙ ap (option_map (λ (n : Bor (List ℕ)). n.now)) c.in-None.is in
    subst (λ v. IfOk c.one_value.result (λ values. values ≡ v))
    (single_value (program_of scope) (node_of scope) (callees_of scope) scope.places.now c.args.expr.now at c.args.inner c.args.first (c.args.first ∷ []) is first refl)
    c.one_value.ensures
