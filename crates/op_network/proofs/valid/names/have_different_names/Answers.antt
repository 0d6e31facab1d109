use Rattle.std.proofs.Common.{◌≡◌, length, rules}
use Rattle.op_network.proofs.NameOrder.{differ_by_neighbours}
use Rattle.op_network.proofs.valid.names.have_different_names.Goals as goal

pub returns : goal.returns
returns c =
    let edges = c.args.edges.now in
    let old = c.number_off.new.places in
    let new = c.sort_by_name.new.places in
    let long : length old ≡ length edges = search rules in
    let same = differ_by_neighbours edges old new long c.number_off.ensures c.sort_by_name.ensures.moved c.sort_by_name.ensures.sorted in
    (λ h. same.0 (c.neighbours_differ.ensures.0 h), λ h. c.neighbours_differ.ensures.1 (same.1 h))
