use Rattle.std.proofs.Common.{◌≡◌, ◌<◌, ◌+◌, ◌∙◌, ap, sym, subst, arith, get_or, length, take, slice_set}
use Rattle.std.proofs.lemmas.List.{length-set, get_or_default}
use Rattle.op_network.specs.declared.edge.EdgeId.{EdgeId}
use Rattle.op_network.specs.declared.edge.Parts.{Parts}
use Rattle.dep_paths.specs.Has.{Has}
use Rattle.dep_paths.specs.Near.{AreMarked}
use Rattle.dep_paths.proofs.Table.{sound_mark, marked_more, Has-get_or, all_set}
use Rattle.dep_paths.proofs.near.mark.Goals as goal

pub loop-output-preserved : goal.loop-output-preserved
loop-output-preserved c =
    let net = c.args.net.now in
    let near = c.loop-output.near in
    let items = c.as_slice-output-items.result.now in
    let i = c.loop-output.output-index in
    let d : EdgeId = record { 0 = 0 } in
    let o = get_or items i d in
    let same : items ≡ net.outputs = c.as_slice-output-items.ensures ∙ ap (λ (p : Parts). p.outputs) c.parts.ensures.same in
    let has : Has net.outputs o = subst (λ es. Has es o) same (Has-get_or items i d (omega arith)) in
    let below : o.0 < length near = omega (arith, c.requires.closed.outputs o has, c.loop-output.invariant.long) in
    record {
      long = length-set near o.0 0 ∙ c.loop-output.invariant.long;
      all = all_set near o.0 0 (omega arith) c.loop-output.invariant.all;
      sound = sound_mark net near o has below c.loop-output.invariant.sound;
      marked = subst (λ es. AreMarked (slice_set near o.0 0) (take (i + 1) es)) same
          (marked_more items near i o (omega arith) (get_or_default items i d o (omega arith)) below (subst (λ es. AreMarked near (take i es)) (sym same) c.loop-output.invariant.marked));
    }
