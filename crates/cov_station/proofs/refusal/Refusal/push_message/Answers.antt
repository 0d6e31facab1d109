use Rattle.std.proofs.Common.{◌≡◌, ◌++◌, OnOk, subst, sym, ap, ◌∙◌, codes}
use Rattle.cov_station.specs.Refusals.{message_of, numbered}
use Rattle.cov_station.proofs.refusal.Refusal.push_message.Goals as goal

pub returns-in-CannotRead-clause-line : goal.returns-in-CannotRead-clause-line
returns-in-CannotRead-clause-line c =
    let e : codes "cannot read " ++ c.bytes-in-CannotRead.result.now ≡ message_of c.args.self.now = ap (λ name. codes "cannot read " ++ name) c.bytes-in-CannotRead.ensures ∙ sym (ap message_of c.in-CannotRead.is) in
    subst (λ message. OnOk c.push_name-in-CannotRead.result (c.push_name-in-CannotRead.new.line ≡ c.args.line.now ++ message)) e c.push_name-in-CannotRead.ensures

pub returns-in-RefusedStep-clause-line : goal.returns-in-RefusedStep-clause-line
returns-in-RefusedStep-clause-line c =
    let front = codes "proof refused at step " in
    let e : numbered front c.in-RefusedStep.at c.step_fault.result.now ≡ message_of c.args.self.now = ap (numbered front c.in-RefusedStep.at) c.step_fault.ensures ∙ sym (ap message_of c.in-RefusedStep.is) in
    subst (λ message. OnOk c.push_fault-in-RefusedStep.result (c.push_fault-in-RefusedStep.new.line ≡ c.args.line.now ++ message)) e c.push_fault-in-RefusedStep.ensures
