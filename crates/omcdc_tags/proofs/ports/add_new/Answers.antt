use Rattle.std.proofs.Common.{◌∙◌, ap, length, Some}
use Rattle.std.specs.Prelude.{slice_set}
use Rattle.omcdc_tags.proofs.Tables.{table_more}
use Rattle.omcdc_tags.proofs.ports.add_new.Goals as goal

pub returns-clause-table : goal.returns-clause-table
returns-clause-table c =
    let a = c.args in
    table_more _ a.ports.now a.table.now a.port c.count-place.result _ _ c.requires.table c.requires.edge c.requires.port c.requires.new (c.count-place.ensures.count ∙ ap length c.as_slice.ensures) c.in_ok-add.ensures.ok
    (c.put_place.ensures ∙ ap (λ i. slice_set a.table.now i (Some c.count-place.result)) c.index_of.ensures)
