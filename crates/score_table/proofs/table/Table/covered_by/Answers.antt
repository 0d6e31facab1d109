use Rattle.std.proofs.Common.{◌≡◌, ◌<◌, ap, arith, length, sym, subst}
use Rattle.std.specs.Prelude.{None, All}
use Rattle.score_table.specs.declared.row.TestRow.{TestRow}
use Rattle.score_table.specs.Coverage.{first_covering}
use Rattle.score_table.specs.Tables.{OfRuns, Tabled}
use Rattle.score_table.proofs.Answering.{first_told, none_told}
use Rattle.score_table.proofs.KeptTests.{all_wide}
use Rattle.score_table.proofs.OneTestRun.{rows_long}
use Rattle.score_table.proofs.table.Table.covered_by.Goals as goal

pub returns-then-o-duties : goal.returns-then-o-duties
returns-then-o-duties c =
    let size = ap length c.duties.ensures in
    let past = c.if-o-duties.true in
    subst (λ (table : Tabled). OfRuns table (λ runs. None ≡ first_covering runs c.args.o)) c.self.view_is
    (none_told c.self.inside.network c.self.inside.plan c.self.inside.kept c.args.o (omega (arith, size, past)))

pub first_with-requires-clause-few : goal.first_with-requires-clause-few
first_with-requires-clause-few c =
    let inside = c.self.inside in
    let long = rows_long inside.network.network inside.plan inside.kept.tests.items inside.kept.rows.items c.self.invariant.tests.rows in
    let few = c.self.invariant.tests.few in
    let size = ap length c.as_slice.ensures.value in
    omega (arith, long, few, size)

pub first_with-requires-clause-within : goal.first_with-requires-clause-within
first_with-requires-clause-within c =
    let inside = c.self.inside in
    let wide = all_wide inside.network.network inside.plan inside.kept c.self.invariant.tests in
    let size = ap length c.duties.ensures in
    let within = c.if-o-duties.false in
    λ k d lt. subst (λ n. c.args.o < n) (sym (subst (All (λ (row : TestRow). length row.covered ≡ length inside.plan.duties)) (sym c.as_slice.ensures.value) wide k d lt)) (omega (arith, size, within))

pub returns : goal.returns
returns c =
    subst (λ (table : Tabled). OfRuns table (λ runs. c.first_with.result ≡ first_covering runs c.args.o)) c.self.view_is
    (first_told c.self.inside.network c.self.inside.plan c.self.inside.kept c.self.inside.watch c.args.o c.as_slice.result.now c.first_with.result c.self.invariant c.as_slice.ensures.value c.first_with.ensures)
