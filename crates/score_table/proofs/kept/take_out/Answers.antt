use Rattle.std.proofs.Common.{◌≡◌, ◌∙◌, ◌-◌, suc, ap, arith, cond, drop, false, length, sym, subst, take}
use Rattle.std.specs.Prelude.{All}
use Rattle.std.specs.Str.{bytes_eq}
use Rattle.std.proofs.lemmas.List.Elements.{All-append, All-drop, All-take}
use Rattle.op_network.specs.declared.test.Test.{Test}
use Rattle.score_table.specs.declared.row.TestRow.{TestRow}
use Rattle.score_table.specs.Names.{holds}
use Rattle.score_table.specs.Rows.{union_of}
use Rattle.score_table.proofs.KeptTests.{all_wide, kept_wide, take_out}
use Rattle.score_table.proofs.OneTestRun.{rows_long}
use Rattle.score_table.proofs.kept.take_out.Goals as goal

pub remove-row-requires : goal.remove-row-requires
remove-row-requires c =
    let kept = c.args.kept.now in
    let long = rows_long c.requires.some.0 c.requires.some.1 kept.tests.items kept.rows.items c.requires.some.2.rows in
    let rows = kept.rows.ok.0 in
    let tests = kept.tests.ok.0 in
    let within = c.requires.within in
    omega (arith, long, rows, tests, within)

pub unite-requires : goal.unite-requires
unite-requires c =
    let kept = c.args.kept.now in
    let h = c.requires.some.2 in
    let wide = subst (λ n. All (λ (row : TestRow). length row.covered ≡ n) kept.rows.items) (sym (kept_wide c.requires.some.0 c.requires.some.1 kept h)) (all_wide c.requires.some.0 c.requires.some.1 kept h) in
    let P : TestRow → Type 0 = λ row. length row.covered ≡ length kept.covered in
    subst (All P) (sym (c.as_slice.ensures.value ∙ c.remove-row.ensures.items))
    (All-append P (take c.args.place kept.rows.items) (drop (suc c.args.place) kept.rows.items) (All-take P c.args.place kept.rows.items wide) (All-drop P (suc c.args.place) kept.rows.items wide))

pub returns-clause-kept : goal.returns-clause-kept
returns-clause-kept c = λ parts plan h.
    let kept = c.args.kept.now in
    let tests = kept.tests.ok.0 in
    let within = c.requires.within in
    take_out parts plan kept _ c.args.place c.remove-test.result h (omega (arith, tests, within)) c.remove-test.ensures.items c.remove-row.ensures.items
    (λ other. c.drop_name.ensures other ∙ ap (λ name. cond (bytes_eq name other) false (holds kept.names other)) (c.bytes.ensures ∙ ap (λ (test : Test). test.name) c.remove-test.ensures.value))
    (c.unite.ensures ∙ ap (union_of (length kept.covered)) c.as_slice.ensures.value)
    (ap (λ (test : Test). kept.instants - test.instants) c.remove-test.ensures.value)
