use Rattle.std.proofs.Common.{◌∙◌, ◌+◌, ◌++◌, ◌≤◌, ap, map, refl, arith}
use Rattle.op_network.specs.declared.limits.TheConstants.{MOST_EDGES}
use Rattle.node_expand.specs.declared.draft.Draft.{Draft}
use Rattle.node_expand.specs.declared.here.Here.{Here}
use Rattle.node_expand.specs.Counts.{has_edge, item_size}
use Rattle.node_expand.specs.Drafts.{edges_here}
use Rattle.node_expand.specs.Instances.{item_fragment}
use Rattle.node_expand.specs.Making.{callees_at, node_of, placing, program_of}
use Rattle.node_expand.specs.Roots.{first_root}
use Rattle.node_expand.specs.Variables.{variable_seen}
use Rattle.node_expand.proofs.HereMade.{edges_added}
use Rattle.node_expand.proofs.Knowing.{inner_room, own_room, right_known}
use Rattle.node_expand.proofs.here.make_here.Goals as goal

pub make_right-requires-clause-room : goal.make_right-requires-clause-room
make_right-requires-clause-room c =
    let scope = c.args.scope.now in
    let room : c.len-next.result + item_size (program_of scope) (node_of scope) (callees_at scope.typed.now scope.tables.now) c.args.item.now ≤ MOST_EDGES = let h = c.requires.room in let e = c.len-next.ensures in omega (arith, h, e) in
    own_room scope.typed.now scope.tables.now c.requires.known c.args.below c.requires.deep (node_of scope) c.args.item.now c.requires.nested
    c.right_of-expr.result.now c.len-next.result c.id_count.result c.right_of-expr.ensures room c.id_count.ensures

pub make_right-requires-clause-inner : goal.make_right-requires-clause-inner
make_right-requires-clause-inner c =
    let scope = c.args.scope.now in
    let room : c.len-next.result + item_size (program_of scope) (node_of scope) (callees_at scope.typed.now scope.tables.now) c.args.item.now ≤ MOST_EDGES = let h = c.requires.room in let e = c.len-next.ensures in omega (arith, h, e) in
    inner_room scope.typed.now scope.tables.now c.requires.known c.args.below c.requires.deep (node_of scope) c.args.item.now c.requires.nested
    c.right_of-expr.result.now c.len-next.result c.id_count.result c.own_count.result c.right_of-expr.ensures room c.id_count.ensures c.own_count.ensures

pub returns : goal.returns
returns c =
    let scope = c.args.scope.now in
    let p = program_of scope in
    let node = node_of scope in
    let full = callees_at scope.typed.now scope.tables.now in
    let item = c.args.item.now in
    let expr = c.right_of-expr.result.now in
    let old = c.args.draft.now in
    let right = c.in_ok-right.right in
    let roots = c.in_ok-roots.roots in
    let new : Draft = record { edges = c.add_edges.new.edges; asserts = c.add_assert.new.asserts } in
    let here : Here = record { root = c.in_ok-root.root; calls = right.calls } in
    let room : c.len-next.result + item_size p node full item ≤ MOST_EDGES = let h = c.requires.room in let e = c.len-next.ensures in omega (arith, h, e) in
    let at = c.len-next.result + c.id_count.result in
    let same = right_known scope.typed.now scope.tables.now c.requires.known c.args.below c.requires.deep node item c.requires.nested
    scope.places.now expr c.len-next.result c.id_count.result c.own_count.result at (at + c.own_count.result) c.right_of-expr.ensures room c.id_count.ensures c.own_count.ensures refl refl in
    edges_added p node full scope.places.now c.args.prefix.now c.args.asserted c.args.k item old new (placing scope expr at (at + c.own_count.result)) right roots c.in_ok-root.root c.is_asserted-asserted.result c.has_edge-is_root.result c.len-next.result here
    c.len-next.ensures (same ∙ ap (λ n. item_fragment p node full scope.places.now n item) c.len-next.ensures) c.in_ok-right.ensures
    c.in_ok-roots.ensures (c.in_ok-root.ensures ∙ ap (λ x. c.args.prefix.now ++ x) (c.first_name.ensures ∙ ap first_root c.as_slice.ensures))
    c.is_asserted-asserted.ensures (c.has_edge-is_root.ensures ∙ ap (has_edge p node) c.right_of-expr.ensures)
    (c.in_ok-add_edges.ensures ∙ (λ i. old.edges ++ edges_here c.args.prefix.now (c.bytes.ensures i) c.is_asserted-asserted.result c.has_edge-is_root.result (map variable_seen (c.as_slice-2.ensures i)) right.values right.gates))
    c.in_ok-add_assert.ensures refl refl
