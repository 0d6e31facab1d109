use Rattle.std.proofs.Common.{◌≡◌, None, arith}
use Rattle.cnf_form.specs.Marks.{marked, marks_of}
use Rattle.proof_check.specs.Check.{hints_fault}
use Rattle.proof_check.specs.Table.{reads}
use Rattle.proof_check.proofs.Tables.{put_done}
use Rattle.proof_check.proofs.check.take_step.Goals as goal

pub returns-in-Ok-clause-ok : goal.returns-in-Ok-clause-ok
returns-in-Ok-clause-ok c =
    let marks : marked c.mark_all.new.marks ≡ marks_of c.in-Put.clause = rw c.lits.ensures.lits at c.in_ok-mark_all-in-Put.ensures in
    let none : hints_fault (reads c.args.table.now) (marks_of c.in-Put.clause) c.in-Put.hints ≡ None = rw (marks, c.as_slice.ensures) at c.in_ok-follow-in-Put.ensures.ok in
    put_done _ _ _ _ _ _ _ _ c.in-Put.is c.from.ensures (omega arith) none c.in-Ok.ensures.updates.0
