use Rattle.std.proofs.Common.{rules, arith, ◌≡◌, sym, subst}
use Rattle.std.specs.Prelude.{Err}
use Rattle.cov_base.specs.Files as base
use Rattle.cov_station.specs.declared.refusal.Refusal.TheVariants.{NoFile, CannotRead}
use Rattle.cov_station.specs.Files.{Reads, lacks_file, fails_to_read}
use Rattle.cov_station.specs.Steps.{Does, Same, refuses, runs_out}
use Rattle.cov_station.proofs.ChainSteps.{ran_out}
use Rattle.cov_station.proofs.FileReads.{too_long, whole}
use Rattle.cov_station.proofs.files.read_file.Goals as goal

pub returns-in-Ok-clause-answer : goal.returns-in-Ok-clause-answer
returns-in-Ok-clause-answer g c =
    let read : base.Reads (g.S.Store.files c.args.store.now) c.args.name.now c.args.most c.new-bytes.result c.read.new.into = search rules in
    too_long c.args.most c.new-bytes.result c.read.new.into read c.new-bytes.ensures (omega arith)

pub returns-in-Ok-2-clause-answer : goal.returns-in-Ok-2-clause-answer
returns-in-Ok-2-clause-answer g c =
    let read : base.Reads (g.S.Store.files c.args.store.now) c.args.name.now c.args.most c.new-bytes.result c.read.new.into = search rules in
    whole c.args.most c.new-bytes.result c.read.new.into read c.new-bytes.ensures (omega arith)

pub returns-in_err-from_bytes-in-Err-Missing-clause-answer :
    goal.returns-in_err-from_bytes-in-Err-Missing-clause-answer
returns-in_err-from_bytes-in-Err-Missing-clause-answer g c = ran_out (search rules)

pub returns-in-Err-Missing-clause-answer : goal.returns-in-Err-Missing-clause-answer
returns-in-Err-Missing-clause-answer g c =
    let lacks : base.Lacks (g.S.Store.files c.args.store.now) c.args.name.now = search rules in
    let e : c.in_ok-from_bytes-in-Err-Missing.field-0 ≡ c.args.name.now = search rules in
    subst (λ name. Does (Reads (g.S.Store.files c.args.store.now) c.args.name.now c.args.most) Same (Err (NoFile name))) (sym e) (refuses (lacks_file lacks))

pub returns-in_err-from_bytes-in-Err-Failed-clause-answer :
    goal.returns-in_err-from_bytes-in-Err-Failed-clause-answer
returns-in_err-from_bytes-in-Err-Failed-clause-answer g c = ran_out (search rules)

pub returns-in-Err-Failed-clause-answer : goal.returns-in-Err-Failed-clause-answer
returns-in-Err-Failed-clause-answer g c =
    let e : c.in_ok-from_bytes-in-Err-Failed.field-0 ≡ c.args.name.now = search rules in
    subst (λ name. Does (Reads (g.S.Store.files c.args.store.now) c.args.name.now c.args.most) Same (Err (CannotRead name))) (sym e) (refuses fails_to_read)

pub returns-clause-answer : goal.returns-clause-answer
returns-clause-answer g c = runs_out
