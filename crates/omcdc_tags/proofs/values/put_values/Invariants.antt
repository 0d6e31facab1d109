use Rattle.std.proofs.Common.{◌≡◌, ◌*◌, length}
use Rattle.omcdc_tags.specs.Rows.{ValuesBelow}
use Rattle.omcdc_tags.proofs.values.put_values.Given as goal

abbrev pub invariant-loop-i : goal.invariant-loop-i
invariant-loop-i l = record {
  size : length l.values ≡ 2 * length l.ports;
  done : ValuesBelow l.net.edges l.ports l.frame l.i l.values;
}
