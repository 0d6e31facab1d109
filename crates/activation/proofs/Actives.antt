-- After a step, what stood for some frames stands for them with the new one at the end.
use Rattle.std.proofs.Common.{◌≡◌, ◌∙◌, ℕ, zero, suc, ◌+◌, ◌-◌, Bool, true, false, List, [], ◌∷◌, ◌++◌, Option, Some, length, slice_get, refl, sym, ap, subst, arith, length-append}
use Rattle.std.specs.Prelude.{if◌then◌else◌, nat_le, slice_index_or}
use Rattle.std.specs.Option.{option_map_or}
use Rattle.std.proofs.lemmas.Option.{get_or_from_slice_get}
use Rattle.op_network.specs.declared.edge.Edge.{Edge}
use Rattle.op_network.specs.declared.value.Value.{Value}
use Rattle.dep_paths.specs.declared.path.Path.{Path}
use Rattle.dep_paths.specs.declared.path.Pin.{Pin}
use Rattle.dep_paths.specs.declared.path.Step.{Step}
use Rattle.dep_paths.specs.Activation.{Frames, enters, is_active}
use Rattle.activation.specs.declared.passage.Passage.{Passage}
use Rattle.activation.specs.declared.passage.Passage.TheVariants.{Shut, Now}
use Rattle.activation.specs.declared.tree.Gate.{Gate}
use Rattle.activation.specs.declared.tree.Node.{Node}
use Rattle.activation.specs.Acts.{Kept, StandsFor, StepsBy}
use Rattle.activation.specs.Passing.{AreFlags, ArePassages, flag_by, flag_of, passage_of}
use Rattle.activation.specs.Tree.{Tree, IsNodeOf, start_gate, step_gate}
use Rattle.activation.proofs.Frames.{active_before, last_frame}
use Rattle.activation.proofs.Steps.{gate_flag, pinned_allowed}

open_flag : (b : Bool) → flag_by (if b then Now else Shut) true true ≡ b
open_flag true = refl
open_flag false = refl

module _ (edges : List Edge) (V : Frames) (frame : List Value) (old : Kept) (stands : StandsFor edges V old) (now : List Bool) (passages : List Passage) (pass : ArePassages edges frame (nat_le 1 (length V)) old.tree.gates passages) where
  abbrev W : Frames
  W = V ++ frame ∷ []

  at_gate : (g : ℕ) (gate : Gate) → slice_get old.tree.gates g ≡ Some gate → slice_index_or passages g Shut ≡ passage_of edges frame (nat_le 1 (length V)) gate
  at_gate g gate there = get_or_from_slice_get passages g (passage_of edges frame (nat_le 1 (length V)) gate) Shut (pass.each g gate there)

  -- a flag of the instant before, where there is one
  earlier : (p : Path) (pin : Option Pin) (k i : ℕ) → IsNodeOf old.tree p pin k i → nat_le 1 (length V) ≡ true → is_active edges W p pin k (length V - 1) ≡ slice_index_or old.flags i false
  earlier p pin k i node some =
      let last : length V ≡ (length V - 1) + 1 = grind (arith, some) in
      active_before edges V frame p pin k (length V - 1) (omega (arith, last))
      ∙ sym (get_or_from_slice_get old.flags i (is_active edges V p pin k (length V - 1)) false (stands.flags (length V - 1) last p pin k i node))

  module _ (each : (i : ℕ) (node : Node) → slice_get old.tree.nodes i ≡ Some node → slice_get now i ≡ Some (flag_of passages old.flags now node)) where
    flag_now : (p : Path) (pin : Option Pin) (k i : ℕ) → IsNodeOf old.tree p pin k i → slice_get now i ≡ Some (is_active edges W p pin k (length V))
    unfolding is_active
    flag_now p pin zero i node =
        each i _ node.there
        ∙ ap (λ (passage : Passage). Some (flag_by passage true true)) (at_gate node.gate_place (start_gate p pin) node.has_gate)
        ∙ ap Some (open_flag _ ∙ sym (pinned_allowed W frame (length V) (last_frame V frame) pin 0 p.start))
    flag_now p pin (suc k) i h =
        let was = get_or_from_slice_get now h.parent (is_active edges W p pin k (length V)) false (flag_now p pin k h.parent h.before) in
        each i _ h.node.there
        ∙ ap (λ (passage : Passage). Some (flag_by passage (slice_index_or now h.parent false) (slice_index_or old.flags h.parent false))) (at_gate h.node.gate_place (step_gate h.step pin (suc k)) h.node.has_gate)
        ∙ ap Some (sym (gate_flag W frame (length V) (last_frame V frame) (λ u. is_active edges W p pin k u) (slice_index_or now h.parent false) (slice_index_or old.flags h.parent false) (sym was) (earlier p pin k h.parent h.before) pin (suc k) h.step.edge (slice_get edges h.step.edge.0) h.step.port))
        ∙ ap (λ (o : Option Step). Some (option_map_or (enters edges pin (suc k) W (λ u. is_active edges W p pin k u) (length V)) o false)) (sym h.taken)

-- the flags of all nodes make it stand for the frames with the new one
stands_more : (edges : List Edge) (frame : List Value) (old new : Kept) (passages : List Passage) → new.tree ≡ old.tree → new.begun ≡ true → ArePassages edges frame old.begun old.tree.gates passages → AreFlags old.tree.nodes passages old.flags new.flags → (V : Frames) → StandsFor edges V old → StandsFor edges (V ++ frame ∷ []) new
stands_more edges frame old new passages tree begun pass flags V stands = record {
  begun = begun ∙ sym (grind (arith, longer));
  flags = λ t size p pin k i node.
      let now : length V ≡ t = omega (arith, size, longer) in
      flag_now edges V frame old stands new.flags passages (subst (λ (b : Bool). ArePassages edges frame b old.tree.gates passages) stands.begun pass) flags.each p pin k i (subst (λ (tree : Tree). IsNodeOf tree p pin k i) tree node)
      ∙ ap (λ (u : ℕ). Some (is_active edges (V ++ frame ∷ []) p pin k u)) now;
}
  where
    longer : length (V ++ frame ∷ []) ≡ length V + 1
    longer = length-append V (frame ∷ [])

-- the same of the fields
pub stands_after : (edges : List Edge) (frame : List Value) (tree : Tree) (goals : List (Option ℕ)) (before flags : List Bool) (begun : Bool) (passages : List Passage) (old : Kept) → record { tree = tree; goals = goals; flags = before; begun = begun } ≡ old → ArePassages edges frame begun tree.gates passages → AreFlags tree.nodes passages before flags → StepsBy edges frame old (record { tree = tree; goals = goals; flags = flags; begun = true })
stands_after edges frame tree goals before flags begun passages old is pass all =
    subst (λ (k : Kept). StepsBy edges frame k (record { tree = tree; goals = goals; flags = flags; begun = true })) is (stands_more edges frame (record { tree = tree; goals = goals; flags = before; begun = begun }) (record { tree = tree; goals = goals; flags = flags; begun = true }) passages refl refl pass all)

-- before the first frame
pub stands_for_none : (edges : List Edge) (kept : Kept) → kept.begun ≡ false → StandsFor edges [] kept
stands_for_none edges kept is = record { begun = is; flags = λ t size. absurd (omega (arith, size)) }
