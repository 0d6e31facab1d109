use Rattle.std.proofs.Common.{◌≡◌, ◌-◌, ◌+◌, sym, subst, arith}
use Rattle.std.proofs.lemmas.Result.{IfOk-weaker}
use Rattle.dep_paths.specs.Levels.{AreReaderRows, longer_paths, row_at, level}
use Rattle.dep_paths.proofs.Levels.{level_next}
use Rattle.dep_paths.proofs.Counts.{level_can}
use Rattle.dep_paths.proofs.walk.next_level.Goals as goal

pub returns-in-Ok-clause-next : goal.returns-in-Ok-clause-next
returns-in-Ok-clause-next c =
    let net = c.args.net.now in
    let rows = c.as_slice.result.now in
    let are = subst (AreReaderRows net.edges c.args.near.now (c.args.n - 2 - c.args.steps)) (sym c.as_slice.ensures) c.in-Ok.ensures in
    IfOk-weaker c.longer.result (λ next. next ≡ longer_paths (row_at rows) c.args.level) (λ next. next ≡ level net c.args.near.now c.args.n (c.args.steps + 1))
    (λ next is. level_next net c.args.near.now c.args.n c.args.steps rows c.args.level next are c.requires.level is) c.longer.ensures.ok

pub returns-in-Ok-clause-completable : goal.returns-in-Ok-clause-completable
returns-in-Ok-clause-completable c =
    let net = c.args.net.now in
    let rows = c.as_slice.result.now in
    let are = subst (AreReaderRows net.edges c.args.near.now (c.args.n - 2 - c.args.steps)) (sym c.as_slice.ensures) c.in-Ok.ensures in
    level_can net c.args.near.now c.args.n c.args.steps rows c.args.level c.longer.result (omega arith) (omega arith) c.requires.closed c.requires.table are c.requires.level c.longer.ensures.ok
