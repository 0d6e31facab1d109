use Rattle.std.proofs.Common.{◌≡◌, ◌≢◌, Some, sym, ◌∙◌, rules}
use Rattle.std.proofs.lemmas.Result.{on_ok_weaker}
use Rattle.op_network.proofs.Found.{below_pushed, below_skipped}
use Rattle.op_network.proofs.readers.add_port.Goals as goal

pub returns-then-eq : goal.returns-then-eq
returns-then-eq c =
    let reads : c.operand.result ≡ Some c.args.e = search rules in
    on_ok_weaker c.add.result (below_pushed c.args.edges.now c.args.e c.args.reader c.args.port c.args.found.now c.add.new.self c.requires.before (sym c.operand.ensures ∙ reads)) c.add.ensures.ok

pub returns-else-eq : goal.returns-else-eq
returns-else-eq c =
    let other : c.operand.result ≢ Some c.args.e = search rules in
    below_skipped c.args.edges.now c.args.e c.args.reader c.args.port c.args.found.now c.requires.before (λ reads. other (c.operand.ensures ∙ reads))
