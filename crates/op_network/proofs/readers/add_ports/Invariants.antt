use Rattle.op_network.specs.Readers.{IsReaderListBelow}
use Rattle.op_network.proofs.readers.add_ports.Given as goal

abbrev pub invariant-loop-port : goal.invariant-loop-port
invariant-loop-port l = IsReaderListBelow l.edges l.e l.reader.0 l.port l.found
