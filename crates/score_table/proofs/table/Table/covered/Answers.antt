use Rattle.std.proofs.Common.{◌≡◌, ap, arith, length, subst}
use Rattle.std.proofs.Common.{nat_lt}
use Rattle.std.proofs.lemmas.Bool.{le-ltb}
use Rattle.score_table.specs.Coverage.{is_covered_at}
use Rattle.score_table.specs.Tables.{OfRuns, Tabled}
use Rattle.score_table.proofs.Answering.{covered_told, nothing_told}
use Rattle.score_table.proofs.KeptTests.{kept_wide}
use Rattle.score_table.proofs.table.Table.covered.Goals as goal

pub get-requires : goal.get-requires
get-requires c =
    let inside = c.self.inside in
    let wide = kept_wide inside.network.network inside.plan inside.kept c.self.invariant.tests in
    let size = ap length c.duties.ensures in
    let within = c.if-o-duties.true in
    omega (arith, wide, size, within)

pub returns-then-o-duties : goal.returns-then-o-duties
returns-then-o-duties c =
    let inside = c.self.inside in
    let size = ap length c.duties.ensures in
    let within = c.if-o-duties.true in
    subst (λ (table : Tabled). OfRuns table (λ runs. c.get.result ≡ is_covered_at runs c.args.o)) c.self.view_is
    (covered_told inside.network inside.plan inside.kept inside.watch c.args.o c.get.result c.self.invariant (omega (arith, size, within)) c.get.ensures)

pub returns-else-o-duties : goal.returns-else-o-duties
returns-else-o-duties c =
    let inside = c.self.inside in
    let size = ap length c.duties.ensures in
    let past = c.if-o-duties.false in
    subst (λ (table : Tabled). OfRuns table (λ runs. nat_lt c.args.o (length c.duties.result.now) ≡ is_covered_at runs c.args.o)) c.self.view_is
    (nothing_told inside.network inside.plan inside.kept c.args.o (nat_lt c.args.o (length c.duties.result.now)) (omega (arith, size, past)) (le-ltb c.args.o (length c.duties.result.now) (omega (arith, past))))
