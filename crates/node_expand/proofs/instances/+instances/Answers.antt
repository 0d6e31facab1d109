use Rattle.std.proofs.Common.{rules, ◌+◌, ◌-◌, ◌∙◌, [], ap, arith, length, refl, subst, sym}
use Rattle.std.proofs.lemmas.List.{length-map}
use Rattle.std.proofs.lemmas.Result.{on_ok_weaker}
use Rattle.lus_types.specs.Names.{globals}
use Rattle.node_expand.specs.Counts.{nodes_called_in}
use Rattle.node_expand.specs.declared.outlines.Outline.{Outline}
use Rattle.lus_syntax.specs.declared.ast.Item.{Item}
use Rattle.std.proofs.Common.{List}
use Rattle.node_expand.specs.Drafts.{bare}
use Rattle.node_expand.specs.Instances.{instance_prefix}
use Rattle.node_expand.specs.Known.{root_places}
use Rattle.node_expand.specs.Law.{program_in}
use Rattle.node_expand.specs.Making.{AreNested, callees_at, node_of, program_of}
use Rattle.node_expand.specs.NameTables.{with_entries}
use Rattle.node_expand.specs.Outlines.{outline}
use Rattle.node_expand.specs.Variables.{names_of}
use Rattle.std.specs.Prelude.{zip}
use Rattle.node_expand.proofs.InstanceKnown.{instance_known, instance_room, node_room, places_known}
use Rattle.node_expand.proofs.InstancesMade.{calls_next, here_nested, here_room, item_added, item_nested, item_room, items_next, same_instance, same_instances}
use Rattle.node_expand.proofs.Unrolled.{node_below}
use Rattle.node_expand.proofs.instances.+instances.Goals as goal

pub make_instance-places_of-requires : goal.make_instance-places_of-requires
make_instance-places_of-requires t c =
    let p = program_in c.args.typed.now in
    let nb = node_below p c.args.depth c.args.name.now c.requires.nested in
    let is = c.callee_at-callee.ensures nb.node (c.place_named.ensures nb.node nb.found) in
    ap (λ (l : List Outline). length l) is.outlines ∙ length-map nb.node.items (outline p (globals c.args.typed.now.ast.decls) (bare nb.node)) ∙ sym (ap (λ (l : List Item). length l) is.items)

pub make_instance-returns : goal.make_instance-returns
make_instance-returns t c =
    let typed = c.args.typed.now in
    let tables = c.args.tables.now in
    let p = program_in typed in
    let f = c.args.name.now in
    let nb = node_below p c.args.depth f c.requires.nested in
    let callee = c.callee_at-callee.result in
    let is = c.callee_at-callee.ensures nb.node (c.place_named.ensures nb.node nb.found) in
    let at = length c.args.draft.now.edges in
    let below = subst (λ d. AreNested typed d (nodes_called_in nb.node.items)) refl nb.below in
    let room = node_room typed tables c.requires.known c.args.depth c.requires.deep f nb.node at c.requires.nested nb.found c.requires.room in
    on_ok_weaker c.make_items.result
    (λ k. instance_known typed tables c.requires.known c.args.depth c.requires.deep f nb.node callee c.args.args.now c.args.prefix.now c.args.asserted _ c.args.draft.now c.make_items.new.draft c.requires.nested nb.found is
    (places_known typed tables c.requires.known (c.args.depth - 1) (omega (arith, c.requires.deep)) f nb.node callee c.args.args.now at c.in_ok-places.places nb.found is below room
    (c.in_ok-places.ensures ∙ (λ i. with_entries (with_entries [] (zip (names_of (c.as_slice-2.ensures i)) c.args.args.now)) (root_places (c.as_slice.ensures i) (c.len-start.ensures i) callee.items.now callee.outlines.now))))
    k)
    c.make_items.ensures

pub make_instances-loop-i-preserved : goal.make_instances-loop-i-preserved
make_instances-loop-i-preserved t c =
    let full = callees_at c.args.typed.now c.args.tables.now in
    let call = c.index-calls-i.result in
    let root = c.args.root.now in
    calls_next (program_in c.args.typed.now) c.args.depth full root c.args.asserted c.args.calls.now c.args.draft.now c.loop-i.i c.loop-i.draft c.make_instance.new.draft call (omega arith) c.index-calls-i.is c.loop-i.invariant
    (same_instance full c.bytes-name.result.now call.node c.as_slice.result.now call.args c.bytes.result.now (instance_prefix root call.node (c.loop-i.i + 1)) c.args.asserted c.loop-i.draft c.make_instance.new.draft
    c.bytes-name.ensures c.as_slice.ensures (c.bytes.ensures ∙ c.in_ok-prefix.ensures ∙ ap (λ x. instance_prefix root x (c.loop-i.i + 1)) c.bytes-name.ensures)
    c.in_ok-make_instance.ensures)

pub make_item-returns : goal.make_item-returns
make_item-returns t c =
    let scope = c.args.scope.now in
    let full = callees_at scope.typed.now scope.tables.now in
    let here = c.in_ok-here.here in
    on_ok_weaker c.make_instances.result
    (λ k. item_added (program_of scope) (node_of scope) full scope.places.now c.args.prefix.now c.args.asserted c.args.k c.args.item.now c.args.draft.now c.make_here.new.draft c.make_instances.new.draft here c.is_asserted-asserted.result
    c.is_asserted-asserted.ensures c.in_ok-here.ensures
    (same_instances full c.bytes.result.now here.root c.is_asserted-asserted.result c.as_slice.result.now here.calls c.make_here.new.draft c.make_instances.new.draft c.bytes.ensures c.as_slice.ensures k))
    c.make_instances.ensures

pub make_items-loop-i-preserved : goal.make_items-loop-i-preserved
make_items-loop-i-preserved t c =
    let scope = c.args.scope.now in
    items_next (program_of scope) (node_of scope) c.args.below (callees_at scope.typed.now scope.tables.now) scope.places.now c.args.prefix.now c.args.asserted c.args.items.now c.args.draft.now c.loop-i.i c.loop-i.assertions c.next_count-assertions.result c.loop-i.draft c.make_item.new.draft c.index-items-i.result
    (omega arith) c.index-items-i.is c.loop-i.invariant c.in_ok-make_item.ensures c.next_count-assertions.ensures.next c.next_count-assertions.ensures.few

pub make_instance-make_items-requires : goal.make_instance-make_items-requires
make_instance-make_items-requires t c = (
  search rules,
  (
    c.requires.known,
    (
      omega arith,
      (
        let p = program_in c.args.typed.now in
            let nb = node_below p c.args.depth c.args.name.now c.requires.nested in
            let is = c.callee_at-callee.ensures nb.node (c.place_named.ensures nb.node nb.found) in
            subst (λ l. AreNested c.args.typed.now (c.args.depth - 1) (nodes_called_in l)) (sym is.items) nb.below,
        let p = program_in c.args.typed.now in
            let nb = node_below p c.args.depth c.args.name.now c.requires.nested in
            let is = c.callee_at-callee.ensures nb.node (c.place_named.ensures nb.node nb.found) in
            instance_room c.args.typed.now c.args.tables.now c.requires.known c.args.depth c.requires.deep c.args.name.now nb.node c.callee_at-callee.result (length c.args.draft.now.edges) c.requires.nested nb.found is c.requires.room,
      ),
    ),
  ),
)

pub make_item-make_instances-requires : goal.make_item-make_instances-requires
make_item-make_instances-requires t c = (
  search rules,
  (
    c.requires.known,
    (
      omega arith,
      (
        let scope = c.args.scope.now in
            here_nested (program_of scope) (program_of scope) (node_of scope) c.args.below (callees_at scope.typed.now scope.tables.now) scope.places.now c.args.prefix.now c.args.asserted c.args.k c.args.item.now c.args.draft.now c.make_here.new.draft c.in_ok-here.here c.as_slice.result.now
            c.as_slice.ensures c.in_ok-here.ensures c.requires.nested,
        let scope = c.args.scope.now in
            here_room (program_of scope) (node_of scope) (callees_at scope.typed.now scope.tables.now) scope.places.now c.args.prefix.now c.args.asserted c.args.k c.args.item.now c.args.draft.now c.make_here.new.draft c.in_ok-here.here c.as_slice.result.now
            c.as_slice.ensures c.in_ok-here.ensures c.requires.room,
      ),
    ),
  ),
)

pub make_items-make_item-requires : goal.make_items-make_item-requires
make_items-make_item-requires t c = (
  search rules,
  (
    c.requires.known,
    (
      omega arith,
      (
        let scope = c.args.scope.now in
            item_nested (program_of scope) (node_of scope) c.args.below (callees_at scope.typed.now scope.tables.now) scope.places.now c.args.prefix.now c.args.asserted c.args.items.now c.args.draft.now c.loop-i.i c.loop-i.assertions c.loop-i.draft c.index-items-i.result
            (omega arith) c.index-items-i.is c.loop-i.invariant,
        let scope = c.args.scope.now in
            item_room (program_of scope) (node_of scope) c.args.below (callees_at scope.typed.now scope.tables.now) scope.places.now c.args.prefix.now c.args.asserted c.args.items.now c.args.draft.now c.loop-i.i c.loop-i.assertions c.loop-i.draft c.index-items-i.result
            (omega arith) c.index-items-i.is c.loop-i.invariant,
      ),
    ),
  ),
)
