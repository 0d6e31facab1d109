use Rattle.lus_causality.specs.Causality.{operands_now}
use Rattle.lus_causality.proofs.Searching.{further}
use Rattle.lus_causality.proofs.Seeing.{one_listed}
use Rattle.lus_causality.proofs.seen.see_operands.Goals as goal

pub loop-port-preserved : goal.loop-port-preserved
loop-port-preserved c = record {
  list = c.in_ok-see.ensures.list;
  further = further c.args.seen.now c.loop-port.seen c.see.new.seen c.loop-port.invariant.further c.in_ok-see.ensures.further;
  listed = one_listed (operands_now c.args.network.now.edges c.args.b) c.loop-port.port c.operand_now.result c.loop-port.seen c.see.new.seen c.operand_now.ensures.operand c.in_ok-see.ensures.further c.in_ok-see.ensures.listed c.loop-port.invariant.listed;
}
