use Rattle.std.proofs.Common.{◌≡◌, ◌↔◌, ◌-◌, ◌*◌, length, All}
use Rattle.op_network.specs.Run.{rows}
use Rattle.op_network.specs.Valid.{FitsRow}
use Rattle.op_network.proofs.fits.fit_rows.Given as goal

abbrev pub invariant-loop-instant : goal.invariant-loop-instant
invariant-loop-instant l = record {
  size : length l.rest ≡ (l.instants - l._instant) * length l.parts.inputs;
  same : All (FitsRow l.parts) (rows (length l.parts.inputs) (l.instants - l._instant) l.rest) ↔ All (FitsRow l.parts) (rows (length l.parts.inputs) l.instants l.values);
}
