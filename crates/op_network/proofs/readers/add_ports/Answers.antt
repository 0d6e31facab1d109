use Rattle.std.proofs.Common.{arith}
use Rattle.op_network.proofs.Found.{below_next}
use Rattle.op_network.proofs.readers.add_ports.Goals as goal

pub returns : goal.returns
returns c = below_next c.args.edges.now c.args.e c.args.reader c.loop-port.port c.loop-port.found c.loop-port.invariant (omega arith)
