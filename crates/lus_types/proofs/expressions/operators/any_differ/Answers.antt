use Rattle.std.proofs.Common.{◌≡◌, List, [], ◌∷◌, false, Option, drop, refl, sym, ap, ◌∙◌}
use Rattle.std.proofs.lemmas.List.{drop_all}
use Rattle.op_network.specs.declared.value.Ty.{Ty}
use Rattle.lus_types.specs.Types as spec
use Rattle.lus_types.proofs.expressions.operators.any_differ.Goals as goal

none_left : (tys : List (Option Ty)) → spec.any_differ tys [] ≡ false
none_left [] = refl
none_left (ty ∷ tys) = refl

pub returns-else-i-second : goal.returns-else-i-second
returns-else-i-second c = sym (c.loop-i.invariant ∙ ap (spec.any_differ (drop c.loop-i.i c.args.first.now)) (drop_all c.loop-i.i c.args.second.now c.if-i-second.false) ∙ none_left (drop c.loop-i.i c.args.first.now))
