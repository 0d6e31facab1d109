use Rattle.std.proofs.Common.{◌≡◌, ◌∙◌, [], sym}
use Rattle.lus_types.specs.Names.{globals}
use Rattle.lus_types.specs.Values.{values_from}
use Rattle.lus_types.specs.Views.{globals_seen, name_given}
use Rattle.lus_types.proofs.Accepted.{begun}
use Rattle.lus_types.proofs.FinePrograms.{small_choices}
use Rattle.lus_types.proofs.Main.{main_place}
use Rattle.lus_types.proofs.typed.type_check.Goals as goal

pub values_of-requires-clause-small : goal.values_of-requires-clause-small
values_of-requires-clause-small c = λ x ty i h.
    small_choices c.args.ast.decls c.args.width (λ o k. c.in_ok-checked.ensures.accepted.0 o (begun _ _ o k)) x ty i (sym (c.in_ok-checked.ensures.names x) ∙ h)

pub invariant_of-result-clause-fine : goal.invariant_of-result-clause-fine
invariant_of-result-clause-fine c = λ o i. c.in_ok-checked.ensures.accepted.0 o (begun _ _ o i)

pub invariant_of-result-clause-is_main : goal.invariant_of-result-clause-is_main
invariant_of-result-clause-is_main c = main_place c.args.ast.decls (name_given c.args.main) c.in_ok-checked.checked.main c.in_ok-checked.ensures.accepted.1

pub invariant_of-result-clause-their_values : goal.invariant_of-result-clause-their_values
invariant_of-result-clause-their_values c =
    let g_is : globals_seen c.in_ok-checked.checked.globals ≡ globals c.args.ast.decls = λ i x. c.in_ok-checked.ensures.names x i in
    c.in_ok-values.ensures.ok ∙ (λ i. values_from c.args.width (g_is i) [] (c.as_slice.ensures i))

pub invariant_of-result-clause-tree : goal.invariant_of-result-clause-tree
invariant_of-result-clause-tree c = ∣ c.requires.tree ∣₁
