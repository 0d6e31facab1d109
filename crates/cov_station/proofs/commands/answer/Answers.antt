use Rattle.std.proofs.Common.{rules, subst, sym}
use Rattle.cov_words.specs.Jobs.{asked}
use Rattle.cov_station.specs.Chains.{Answers}
use Rattle.cov_station.specs.Commands.{chain_by, chain_of}
use Rattle.cov_station.specs.Steps.{Does, Same}
use Rattle.cov_station.proofs.ChainSteps.{refused, stopped, went_on}
use Rattle.cov_station.proofs.commands.answer.Goals as goal

pub returns-in_err-job-clause-answer : goal.returns-in_err-job-clause-answer
returns-in_err-job-clause-answer g c = refused (search rules) (stopped c.in_err-job.ensures.answer)

pub returns-in-Run-clause-answer : goal.returns-in-Run-clause-answer
returns-in-Run-clause-answer g c = went_on c.in_ok-job.ensures.answer λ job a is.
    subst (λ job. Does (Answers (chain_of (g.S.Store.files c.args.store.now) job)) Same c.run_command.result) (sym is)
    (subst (λ verb. Does (Answers (chain_by verb (g.S.Store.files c.args.store.now) (asked c.in_ok-job.job))) Same c.run_command.result) (sym c.in-Run.is) c.run_command.ensures.answer)

pub returns-in-Score-clause-answer : goal.returns-in-Score-clause-answer
returns-in-Score-clause-answer g c = went_on c.in_ok-job.ensures.answer λ job a is.
    subst (λ job. Does (Answers (chain_of (g.S.Store.files c.args.store.now) job)) Same c.score_command.result) (sym is)
    (subst (λ verb. Does (Answers (chain_by verb (g.S.Store.files c.args.store.now) (asked c.in_ok-job.job))) Same c.score_command.result) (sym c.in-Score.is) c.score_command.ensures.answer)

pub returns-in-Verify-clause-answer : goal.returns-in-Verify-clause-answer
returns-in-Verify-clause-answer g c = went_on c.in_ok-job.ensures.answer λ job a is.
    subst (λ job. Does (Answers (chain_of (g.S.Store.files c.args.store.now) job)) Same c.verify_command.result) (sym is)
    (subst (λ verb. Does (Answers (chain_by verb (g.S.Store.files c.args.store.now) (asked c.in_ok-job.job))) Same c.verify_command.result) (sym c.in-Verify.is) c.verify_command.ensures.answer)
