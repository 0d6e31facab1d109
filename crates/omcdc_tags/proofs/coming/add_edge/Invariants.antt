use Rattle.omcdc_tags.specs.Rows.{Adds, ComesBelow}
use Rattle.omcdc_tags.proofs.coming.add_edge.Given as goal

abbrev pub invariant-loop-port : goal.invariant-loop-port
invariant-loop-port l = Adds l.initial.work l.work (ComesBelow l.net.edges l.table l.frame l.t l.rows l.starts l.edge l.port)
