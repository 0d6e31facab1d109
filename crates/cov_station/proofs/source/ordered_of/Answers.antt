use Rattle.std.proofs.Common.{rules, ◌∙◌, subst}
use Rattle.lus_causality.specs.Causality.{HasNoCycle}
use Rattle.op_network.specs.declared.edge.Parts.{Parts}
use Rattle.cov_station.specs.Sources.{is_causal}
use Rattle.cov_station.specs.Steps.{gives}
use Rattle.cov_station.proofs.ChainSteps.{ran_out}
use Rattle.cov_station.proofs.SourceSteps.{unordered}
use Rattle.cov_station.proofs.source.ordered_of.Goals as goal

pub returns-in_err-refusal_of-in-Err : goal.returns-in_err-refusal_of-in-Err
returns-in_err-refusal_of-in-Err c = λ source is. ran_out (search rules)

pub returns-in-Ok : goal.returns-in-Ok
returns-in-Ok c = λ source is.
    gives (is_causal (subst (λ (parts : Parts). HasNoCycle parts.edges) is.network c.in-Ok.ensures.no_cycle))
    (record {
      network = c.in-Ok.ensures.network ∙ is.network;
      keeps = is.keeps;
      streams = is.streams;
      variables = is.variables;
    })

pub returns-in_ok-refusal_of-in-Err : goal.returns-in_ok-refusal_of-in-Err
returns-in_ok-refusal_of-in-Err c = λ source is.
    unordered source c.in-Err.fault.network c.in-Err.fault.cause _
    (c.in-Err.ensures.returned ∙ is.network)
    (rw c.in-Err.ensures.returned c.in-Err.ensures.cause)
    c.in_ok-refusal_of-in-Err.ensures
