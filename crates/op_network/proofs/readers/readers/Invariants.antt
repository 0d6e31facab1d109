use Rattle.op_network.specs.Readers.{IsReaderListBelow}
use Rattle.op_network.proofs.readers.readers.Given as goal

abbrev pub invariant-loop-reader : goal.invariant-loop-reader
invariant-loop-reader l = IsReaderListBelow l.edges l.e l.reader 0 l.found
