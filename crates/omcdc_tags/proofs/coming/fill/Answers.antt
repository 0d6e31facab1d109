use Rattle.std.proofs.Common.{◌≡◌, ◌<◌, ℕ, arith, length, subst}
use Rattle.op_network.specs.declared.edge.Parts.{Parts}
use Rattle.omcdc_tags.specs.Order.{StandsBefore}
use Rattle.omcdc_tags.specs.Rows.{HaveSize, PutsRow}
use Rattle.omcdc_tags.specs.Tags.{RowsTell}
use Rattle.omcdc_tags.proofs.Columns.{next_row, all_rows}
use Rattle.omcdc_tags.proofs.coming.fill.Goals as goal

pub loop-place-preserved : goal.loop-place-preserved
loop-place-preserved c =
    let a = c.args in
    let edges = a.net.now.network.edges in
    let sequence = c.sequence_of-sequence.result.now in
    let e = c.edge_at-e.result in
    let i = c.loop-place.invariant in
    let rows = c.put_edge.new.rows in
    let work = c.put_edge.new.work in
    let is = c.network-network.ensures in
    let many = i.size.many in
    let edge : e.0 < length edges = c.sequence_of-sequence.ensures.within c.loop-place.place e c.edge_at-e.ensures in
    let within : e.0 < length c.loop-place.rows = omega (arith, edge, many) in
    let put : PutsRow edges a.table.now a.frame.now a.begun a.before.now a.earlier.now c.loop-place.rows a.starts.now e rows =
    subst (λ (net : Parts). PutsRow net.edges a.table.now a.frame.now a.begun a.before.now a.earlier.now c.loop-place.rows a.starts.now e rows) is c.put_edge.ensures.put in
    record {
      size = subst (λ (net : Parts). HaveSize (length net.edges) a.table.now rows a.starts.now work) is c.put_edge.ensures.size;
      earlier = subst (λ (net : Parts). HaveSize (length net.edges) a.table.now a.before.now a.earlier.now work) is c.put_edge.ensures.earlier;
      told = λ ports V t ready.
          next_row edges ports a.table.now V t a.frame.now a.begun a.before.now a.earlier.now a.starts.now c.loop-place.rows rows sequence c.loop-place.place e
          c.sequence_of-sequence.ensures c.edge_at-e.ensures within ready (i.told ports V t ready) put;
    }

pub returns-clause-told : goal.returns-clause-told
returns-clause-told c =
    let a = c.args in
    let edges = a.net.now.network.edges in
    let sequence = c.sequence_of-sequence.result.now in
    let ended : c.loop-place.place ≡ length sequence = omega arith in
    λ ports V t ready. all_rows edges ports V t sequence c.loop-place.rows c.sequence_of-sequence.ensures
    (subst (λ (n : ℕ). RowsTell edges ports V t (StandsBefore sequence n) c.loop-place.rows) ended (c.loop-place.invariant.told ports V t ready))
