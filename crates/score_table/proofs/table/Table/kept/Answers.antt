use Rattle.std.proofs.Common.{◌≡◌, ap, arith, length, subst}
use Rattle.std.specs.Prelude.{Some, slice_get}
use Rattle.op_network.specs.declared.test.Test.{Test}
use Rattle.op_network.specs.Admissible.{IsKeptOf}
use Rattle.score_table.specs.Tables.{Tabled}
use Rattle.score_table.proofs.Answering.{kept_told}
use Rattle.score_table.proofs.OneTestRun.{rows_long}
use Rattle.score_table.proofs.table.Table.kept.Goals as goal

pub kept_at-requires : goal.kept_at-requires
kept_at-requires c =
    let inside = c.self.inside in
    let long = rows_long inside.network.network inside.plan inside.kept.tests.items inside.kept.rows.items c.self.invariant.tests.rows in
    let size = ap length c.as_slice.ensures.value in
    let seen = ap (λ (table : Tabled). length table.tests) c.self.view_is in
    let within = c.requires in
    omega (arith, long, size, seen, within)

pub returns : goal.returns
returns c =
    let inside = c.self.inside in
    let long = rows_long inside.network.network inside.plan inside.kept.tests.items inside.kept.rows.items c.self.invariant.tests.rows in
    let size = ap length c.as_slice.ensures.value in
    let seen = ap (λ (table : Tabled). length table.tests) c.self.view_is in
    let within = c.requires in
    subst (λ (table : Tabled). (test : Test) → slice_get table.tests c.args.i ≡ Some test → IsKeptOf table.network.network test c.kept_at.result) c.self.view_is
    (kept_told inside.network inside.plan inside.kept inside.watch c.as_slice.result.now c.args.i c.kept_at.result c.self.invariant c.as_slice.ensures.value (omega (arith, long, size, seen, within)) c.kept_at.ensures)
