use Rattle.std.proofs.Common.{◌≡◌, ◌∙◌, ◌++◌, ◌∷◌, [], Bool, ◌<◌, List, length, sym, subst}
use Rattle.std.specs.List.{All}
use Rattle.op_network.specs.declared.edge.EdgeId.{EdgeId}
use Rattle.op_network.specs.declared.edge.Parts.{Parts}
use Rattle.omcdc_tags.specs.Rows.{JoinsRows, Ready, sets_of}
use Rattle.omcdc_tags.specs.Tags.{AreReached, AreValues}
use Rattle.omcdc_tags.proofs.Standing.{ready_of, stands_next, joined_observed}
use Rattle.omcdc_tags.proofs.sets.TagSets.step.Goals as goal

pub returns-clause-stands : goal.returns-clause-stands
returns-clause-stands c = λ V stands.
    let net = c.args.net.now.network in
    let ports = c.args.ports.now in
    let table = c.args.table.now in
    let frame = c.args.frame.now in
    let old = c.args.self.now in
    let starts = c.put_values.new.values in
    let rows : c.as_slice.result.now ≡ old.reached = c.as_slice.ensures ∙ c.swap.ensures.y_after in
    let values : c.swap-2.new.y ≡ old.values = c.swap-2.ensures.y_after in
    let fresh : AreValues net.edges ports frame starts = subst (λ (n : Parts). AreValues n.edges ports frame starts) c.network.ensures c.put_values.ensures.values in
    let ready : Ready net.edges ports table (V ++ frame ∷ []) (length V) frame old.begun c.as_slice.result.now c.swap-2.new.y starts =
    subst (λ (before : List (List Bool)). Ready net.edges ports table (V ++ frame ∷ []) (length V) frame old.begun before c.swap-2.new.y starts) (sym rows)
    (subst (λ (earlier : List Bool). Ready net.edges ports table (V ++ frame ∷ []) (length V) frame old.begun old.reached earlier starts) (sym values)
    (ready_of net ports table V frame (sets_of old) starts c.requires.placed stands fresh)) in
    let told : AreReached net.edges ports (V ++ frame ∷ []) (length V) c.fill.new.rows = c.fill.ensures.told ports (V ++ frame ∷ []) (length V) ready in
    let joins : JoinsRows net.outputs c.fill.new.rows c.join_outputs.new.joined =
    subst (λ (os : List EdgeId). JoinsRows os c.fill.new.rows c.join_outputs.new.joined) c.outputs_of.ensures.same
    (subst (λ (made : List (List Bool)). JoinsRows c.outputs_of.result.now made c.join_outputs.new.joined) c.as_slice-2.ensures c.join_outputs.ensures.joins) in
    let inside : All (λ (e : EdgeId). e.0 < length net.edges) net.outputs =
    subst (λ (os : List EdgeId). All (λ (e : EdgeId). e.0 < length net.edges) os) c.outputs_of.ensures.same c.outputs_of.ensures.within in
    stands_next net ports V frame c.fill.new.rows c.join_outputs.new.joined starts fresh told
    (joined_observed net ports (V ++ frame ∷ []) (length V) c.fill.new.rows c.join_outputs.new.joined inside told joins)
