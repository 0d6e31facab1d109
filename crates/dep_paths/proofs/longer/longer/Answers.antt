use Rattle.std.proofs.Common.{arith}
use Rattle.std.proofs.lemmas.List.{nil_from_length}
use Rattle.std.proofs.lemmas.Result.{err_from_is_err_and}
use Rattle.dep_paths.specs.Levels.{row_at}
use Rattle.dep_paths.proofs.Growth.{longer_step, longer_too_many, longer_all}
use Rattle.dep_paths.proofs.longer.longer.Goals as goal

pub loop-path-preserved : goal.loop-path-preserved
loop-path-preserved c = record {
  whole = longer_step (row_at c.args.rows.now) c.args.level c.loop-path.next c.add_from.new.next c.loop-path.rest.items c.pop.new.self.items c.in-Some.path c.loop-path.invariant.whole c.in-Some.ensures.items c.in_ok-add_from.ensures.ok;
  few = c.in_ok-add_from.ensures.few;
}

pub returns-in_err-add_from-clause-many : goal.returns-in_err-add_from-clause-many
returns-in_err-add_from-clause-many c = λ many.
    let p = err_from_is_err_and c.from_residual.result c.from_residual.ensures.1 in
    longer_too_many (row_at c.args.rows.now) c.args.level c.loop-path.next c.loop-path.rest.items c.pop.new.self.items c.in-Some.path c.loop-path.invariant.whole c.in-Some.ensures.items
    (c.in_err-add_from.ensures.many (cc (p.1, p.2, many)))

pub returns-clause-ok : goal.returns-clause-ok
returns-clause-ok c = longer_all (row_at c.args.rows.now) c.args.level c.loop-path.next c.loop-path.rest.items c.loop-path.invariant.whole (nil_from_length c.loop-path.rest.items (omega (arith, c.loop-path.rest.ok, c.in_default.ensures.cases.0)))
