use Rattle.std.proofs.Common.{arith, get_or}
use Rattle.std.proofs.lemmas.List.{get_or_default}
use Rattle.std.proofs.lemmas.Result.{err_from_is_err_and}
use Rattle.op_network.specs.declared.edge.EdgeId.{EdgeId}
use Rattle.dep_paths.proofs.Levels.{starts_all, starts_too_many}
use Rattle.dep_paths.proofs.walk.starts.Goals as goal

pub returns-in_err-add_start-clause-many : goal.returns-in_err-add_start-clause-many
returns-in_err-add_start-clause-many c = λ many.
    let p = err_from_is_err_and c.from_residual.result c.from_residual.ensures.1 in
    let d : EdgeId = record { 0 = 0 } in
    let inputs = c.args.inputs.now in
    let i = c.loop-input.input-index in
    starts_too_many c.args.near.now c.args.room inputs c.loop-input.paths i (get_or inputs i d) (omega arith) (get_or_default inputs i d (get_or inputs i d) (omega arith)) c.loop-input.invariant.so_far
    (c.in_err-add_start.ensures.many (cc (p.1, p.2, many)))

pub returns-clause-ok : goal.returns-clause-ok
returns-clause-ok c = starts_all c.args.near.now c.args.room c.args.inputs.now c.loop-input.paths c.loop-input.input-index (omega arith) c.loop-input.invariant.so_far
