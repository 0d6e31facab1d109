use Rattle.std.proofs.Common.{◌≡◌, ◌≤◌, ◌-◌, length, take}
use Rattle.cov_base.specs.Bytes.{Appends, SameTold}
use Rattle.cov_base.proofs.sink.put_all.Given as goal

abbrev pub invariant-loop-done : goal.invariant-loop-done
invariant-loop-done g l =
    record {
      within : l.done ≤ length l.piece;
      written : Appends (g.O.Sink.written l.fn.out) (take l.done l.piece) (g.O.Sink.written l.out);
      well : g.O.Sink.faults l.out ≡ g.O.Sink.faults l.fn.out;
      told : SameTold (g.O.Sink.written l.fn.out) (g.O.Sink.written l.out);
    }

abbrev pub decreases-loop-done : goal.decreases-loop-done
decreases-loop-done g l = length l.piece - l.done
