use Rattle.std.proofs.Common.{◌≡◌, ◌∙◌, [], List, ap, false, get_or, sym, subst, true}
use Rattle.std.specs.Prelude.{position}
use Rattle.std.proofs.lemmas.List.Folds.{list_any_at}
use Rattle.std.proofs.lemmas.List.Quantifiers.{position-Some}
use Rattle.op_network.specs.declared.test.Test.{Test}
use Rattle.score_table.specs.Tables.{Tabled, has_name, is_kept, without}
use Rattle.score_table.proofs.Answering.{seen}
use Rattle.score_table.proofs.TestNames.{named, none_placed, others, taken_out}
use Rattle.score_table.proofs.table.Table.withdraw.Goals as goal

pub returns-in_default-clause-not_found : goal.returns-in_default-clause-not_found
returns-in_default-clause-not_found c =
    let name = c.args.name.now in
    subst (λ (table : Tabled). is_kept table.tests name ≡ false) c.self.view_is
    (none_placed c.self.inside.kept.tests.items name (ap (position (has_name name)) (sym c.as_slice.ensures.value) ∙ sym c.place_of.ensures ∙ c.in_default.is))

pub returns-clause-found : goal.returns-clause-found
returns-clause-found c =
    let name = c.args.name.now in
    let tests = c.self.inside.kept.tests.items in
    let d : Test = record { name = []; instants = 0; values = [] } in
    let at = position-Some (has_name name) tests c.in-Some.place d (ap (position (has_name name)) (sym c.as_slice.ensures.value) ∙ sym c.place_of.ensures ∙ c.in-Some.is) in
    subst (λ (table : Tabled). is_kept table.tests name ≡ true) c.self.view_is (list_any_at (has_name name) tests c.in-Some.place d at.0 at.1)

pub returns-clause-ok : goal.returns-clause-ok
returns-clause-ok c =
    let name = c.args.name.now in
    let tests = c.self.inside.kept.tests.items in
    let d : Test = record { name = []; instants = 0; values = [] } in
    let at = position-Some (has_name name) tests c.in-Some.place d (ap (position (has_name name)) (sym c.as_slice.ensures.value) ∙ sym c.place_of.ensures ∙ c.in-Some.is) in
    let left = c.take_out.ensures.tests ∙ taken_out tests c.in-Some.place d c.self.invariant.tests.apart at.0 ∙ ap (λ n. others n tests) (sym (named name (get_or tests c.in-Some.place d) at.1)) in
    subst (λ (table : Tabled). seen c.self.inside.network c.self.inside.plan c.take_out.new.kept ≡ without table name) c.self.view_is
    (ap (λ (l : List Test). let table : Tabled = record { network = c.self.inside.network; plan = c.self.inside.plan; tests = l } in table) left)
