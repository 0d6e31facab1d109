use Rattle.std.proofs.Common.{◌∙◌, ◌++◌, ◌∷◌, [], ◌+◌, ap, arith, cond, true}
use Rattle.std.specs.Str.{bytes_eq}
use Rattle.cov_base.specs.BitRow.{either}
use Rattle.score_table.specs.Names.{holds}
use Rattle.score_table.proofs.KeptTests.{accepted, put_last}
use Rattle.score_table.proofs.kept.append.Goals as goal

pub overflow_add-kept : goal.overflow_add-kept
overflow_add-kept c =
    let short = (accepted c.args.kept.now.tests.items c.args.test c.requires.accepted).short in
    let same = c.make_room.ensures.instants in
    let sum = c.requires.sum in
    omega (arith, short, same, sum)

pub returns-clause-kept : goal.returns-clause-kept
returns-clause-kept c = λ parts plan h fit is.
    put_last parts plan c.args.kept.now (record { tests = c.put_last-2.new.items; rows = c.put_last.new.items; names = c.make_room.new.kept.names; covered = c.or_with.new.self; instants = c.make_room.new.kept.instants + c.args.test.instants }) c.args.test c.args.row h c.requires.accepted fit is
    (c.put_last-2.ensures ∙ ap (λ l. l ++ c.args.test ∷ []) c.make_room.ensures.tests)
    (c.put_last.ensures ∙ ap (λ l. l ++ c.args.row ∷ []) c.make_room.ensures.rows)
    (λ other. c.in-Ok.ensures.names other ∙ ap (λ name. cond (bytes_eq name other) true (holds c.args.kept.now.names other)) c.bytes.ensures)
    (c.or_with.ensures ∙ ap (λ bits. either bits c.args.row.covered) c.make_room.ensures.covered)
    (ap (λ n. n + c.args.test.instants) c.make_room.ensures.instants)
