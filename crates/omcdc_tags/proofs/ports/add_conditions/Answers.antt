use Rattle.std.proofs.Common.{◌<◌, arith, length}
use Rattle.std.proofs.lemmas.Option.{slice_get-get_or}
use Rattle.omcdc_tags.proofs.Placing.{place_more}
use Rattle.omcdc_tags.proofs.ports.add_conditions.Goals as goal

pub loop-condition-preserved : goal.loop-condition-preserved
loop-condition-preserved c =
    let i = c.loop-condition.condition-index in
    let conditions = c.args.conditions.now in
    let within : i < length conditions = omega arith in
    record {
      is_table = c.in_ok-add_condition.ensures.table;
      places = place_more c.args.net.now.edges conditions c.loop-condition.ports c.add_condition.new.ports i _ c.in_ok-add_condition.field-0 c.loop-condition.places c.add.new.self
          c.loop-condition.invariant.places c.in_ok-add_condition.ensures.grows (slice_get-get_or conditions i _ within) c.in_ok-add_condition.ensures.place c.in_ok-add.ensures.ok;
    }
