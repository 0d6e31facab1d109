use Rattle.std.proofs.Common.{◌-◌, Err, ap, sym, subst, arith}
use Rattle.dep_paths.specs.Near.{IsTable}
use Rattle.dep_paths.proofs.Counts.{list_of, more_than, not_many}
use Rattle.dep_paths.proofs.paths.list.Goals as goal

pub returns-in-Ok-levels-clause-paths : goal.returns-in-Ok-levels-clause-paths
returns-in-Ok-levels-clause-paths c =
    let table = subst (IsTable (c.args.n - 1) c.args.net.now) (sym c.as_slice.ensures) c.in-Ok.ensures.table in
    list_of c.args.net.now c.as_slice.result.now c.args.n c.in-Ok-levels.paths (omega arith) c.distances.ensures.closed table c.in-Ok-levels.ensures.ok

pub returns-in-Ok-levels-clause-exact : goal.returns-in-Ok-levels-clause-exact
returns-in-Ok-levels-clause-exact c = λ more.
    let table = subst (IsTable (c.args.n - 1) c.args.net.now) (sym c.as_slice.ensures) c.in-Ok.ensures.table in
    let list = list_of c.args.net.now c.as_slice.result.now c.args.n c.in-Ok-levels.paths (omega arith) c.distances.ensures.closed table c.in-Ok-levels.ensures.ok in
    absurd (not_many c.args.net.now c.args.n c.in-Ok-levels.paths list c.in-Ok-levels.ensures.few more)

pub returns-in-Err-TooMany-clause-many : goal.returns-in-Err-TooMany-clause-many
returns-in-Err-TooMany-clause-many c = λ _.
    let table = subst (IsTable (c.args.n - 1) c.args.net.now) (sym c.as_slice.ensures) c.in-Ok.ensures.table in
    more_than c.args.net.now c.as_slice.result.now c.args.n (omega arith) c.distances.ensures.closed table (c.in-Err-TooMany.ensures.many (ap Err c.in-Err-TooMany.field-0-is))
