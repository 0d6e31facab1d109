use Rattle.std.proofs.Common.{◌≡◌, ◌∙◌, refl, length, arith, length-set}
use Rattle.cov_station.proofs.GrowingStreams.{all_longer, none_longer, one_longer}
use Rattle.cov_station.proofs.runs.streams.extend_streams.Goals as goal

pub loop-place-init : goal.loop-place-init
loop-place-init c = record {
  size = refl;
  longer = none_longer c.args.frame.now c.args.ids.now c.args.streams.now;
}

pub loop-place-preserved : goal.loop-place-preserved
loop-place-preserved c = record {
  size = length-set c.loop-place.streams c.loop-place.place c.add.new.self ∙ c.loop-place.invariant.size;
  longer = one_longer c.args.frame.now c.args.ids.now c.args.streams.now c.loop-place.streams c.loop-place.place _
      c.index-streams-place.result c.add.new.self c.value.result (omega arith) c.value.ensures c.in_ok-add.ensures.ok c.loop-place.invariant.longer;
}

pub returns : goal.returns
returns c =
    let all : c.loop-place.place ≡ length c.args.ids.now = omega arith in
    all_longer c.args.frame.now c.args.ids.now c.args.streams.now c.loop-place.streams c.loop-place.place all c.loop-place.invariant.longer
