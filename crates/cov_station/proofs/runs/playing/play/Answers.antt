use Rattle.std.proofs.Common.{ap, ◌∙◌, subst, arith, length, ◌≡◌}
use Rattle.op_network.specs.declared.edge.Parts.{Parts}
use Rattle.op_network.specs.Run.{rows}
use Rattle.cov_station.specs.Playing.{IsPlayed}
use Rattle.cov_station.proofs.Frames.{length-rows, rest_left, row_taken}
use Rattle.cov_station.proofs.runs.playing.play.Goals as goal

pub play_instant-requires-clause-instants : goal.play_instant-requires-clause-instants
play_instant-requires-clause-instants g c =
    let width = length c.args.net.now.network.inputs in
    let done = c.loop-instant.invariant.played.stands.instant ∙ length-rows width c.loop-instant._instant c.args.test.now.values in
    omega (arith, done)

pub loop-instant-preserved : goal.loop-instant-preserved
loop-instant-preserved g c =
    let parts = c.args.net.now.network in
    let width = length parts.inputs in
    let i = c.loop-instant._instant in
    let values = c.args.test.now.values in
    let rest = c.loop-instant.rest.now in
    let same : c.len-width.result ≡ width = c.len-width.ensures ∙ ap (λ (p : Parts). length p.inputs) (c.parts.ensures.same ∙ c.network.ensures) in
    let table = row_taken width c.len-width.result i values rest c.split_at.result.0.now same c.loop-instant.invariant.rest c.split_at.ensures.front in
    record {
      played = subst (λ table. IsPlayed parts table c.play_instant.new.playing) table
          (c.in_ok-play_instant.ensures.played (rows width i values) c.loop-instant.invariant.played);
      size = c.play_instant.ensures.size;
      rest = rest_left width c.len-width.result i values rest c.split_at.result.1.now same c.loop-instant.invariant.rest c.split_at.ensures.back;
    }

pub returns : goal.returns
returns g c =
    let parts = c.args.net.now.network in
    let all : c.loop-instant._instant ≡ c.args.test.now.instants = omega arith in
    subst (λ n. IsPlayed parts (rows (length parts.inputs) n c.args.test.now.values) c.loop-instant.playing) all c.loop-instant.invariant.played
