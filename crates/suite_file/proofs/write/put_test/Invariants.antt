use Rattle.std.proofs.Common.{◌≡◌, ◌++◌, ◌-◌, ◌*◌, map, length}
use Rattle.op_network.specs.Run.{rows}
use Rattle.suite_file.specs.Written.{test_records, text_of, instant_record}
use Rattle.suite_file.specs.Writing.{written, IsWriting}
use Rattle.suite_file.proofs.write.put_test.Given as goal

abbrev pub invariant-loop-instant : goal.invariant-loop-instant
invariant-loop-instant l = (written l.fn.writer ++ text_of (test_records l.fn.parts l.fn.test) ≡ written l.writer ++ text_of (map (instant_record l.fn.parts l.fn.test.name) (rows (length l.fn.parts.inputs) (l.fn.test.instants - l._instant) l.rest)))
    × (length l.rest ≡ (l.fn.test.instants - l._instant) * length l.fn.parts.inputs) × IsWriting l.writer
