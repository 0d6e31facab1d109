use Rattle.std.proofs.Common.{◌≤◌, ap, length, subst}
use Rattle.std.specs.Prelude.{Err}
use Rattle.op_network.specs.declared.edge.Parts.{Parts}
use Rattle.op_network.specs.declared.limits.TheConstants.{MOST_EDGES}
use Rattle.cov_station.specs.Sources.{expands, has_many_edges, is_too_deep}
use Rattle.cov_station.specs.Steps.{gives, refuses, runs_out}
use Rattle.cov_station.proofs.source.network_of.Goals as goal

pub returns-in-Ok : goal.returns-in-Ok
returns-in-Ok c =
    let shallow = c.in-Ok.ensures.nested in
    gives
    (expands shallow (subst (λ (parts : Parts). length parts.edges ≤ MOST_EDGES) c.in-Ok.ensures.network c.parts.ensures.valid.few))
    (record {
      network = c.in-Ok.ensures.network;
      keeps = c.expansion_keeps_streams.ensures shallow;
      streams = c.main_has_its_streams.ensures shallow;
      variables = c.network_has_main_ports.ensures shallow;
    })

pub returns-in-Err-Depth : goal.returns-in-Err-Depth
returns-in-Err-Depth c = refuses (is_too_deep (c.in-Err-Depth.ensures.deep (ap Err c.in-Err-Depth.field-0-is)))

pub returns-in-Err-Edges : goal.returns-in-Err-Edges
returns-in-Err-Edges c =
    let edges = c.in-Err-Edges.field-0-is in
    refuses (has_many_edges (c.in-Err-Edges.ensures.shallow (ap Err edges)) (c.in-Err-Edges.ensures.many (ap Err edges)))

pub returns-in-Err-Memory : goal.returns-in-Err-Memory
returns-in-Err-Memory c = runs_out
