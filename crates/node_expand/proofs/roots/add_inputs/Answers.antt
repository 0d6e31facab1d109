use Rattle.std.proofs.Common.{◌∷◌, ◌∙◌, [], ap, arith}
use Rattle.std.specs.Prelude.{zip}
use Rattle.std.specs.Option.{option_to_list}
use Rattle.node_expand.specs.NameTables.{with_entries}
use Rattle.node_expand.proofs.Rooted.{inputs_step}
use Rattle.node_expand.proofs.roots.add_inputs.Goals as goal

pub loop-i-preserved : goal.loop-i-preserved
loop-i-preserved c =
    inputs_step c.args.inputs.now c.args.args.now c.loop-i.i c.index-inputs-i.result c.loop-i.places c.add_input.new.places _
    (omega arith) c.index-inputs-i.is
    (c.in_ok-add_input.ensures ∙ ap (λ o. with_entries c.loop-i.places (zip (c.index-inputs-i.result.name ∷ []) (option_to_list o))) c.at.ensures)
    c.loop-i.invariant
