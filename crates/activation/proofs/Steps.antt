-- What passes a gate, by the frame of an instant alone.
use Rattle.std.proofs.Common.{◌≡◌, ◌∙◌, ℕ, zero, suc, ◌-◌, Bool, true, false, not, ◌&&◌, List, Option, Some, None, refl, sym, ap, arith}
use Rattle.std.specs.Prelude.{◌||◌, ◌==◌, if◌then◌else◌, nat_le}
use Rattle.std.specs.Option.{option_map_or}
use Rattle.op_network.specs.declared.edge.Edge.{Edge}
use Rattle.op_network.specs.declared.edge.EdgeId.{EdgeId}
use Rattle.op_network.specs.declared.form.Form.{Form}
use Rattle.op_network.specs.declared.form.Form.TheVariants.{Arrow, Pre}
use Rattle.op_network.specs.declared.value.Value.{Value}
use Rattle.op_network.specs.Operators.{at_edge, form_of, step_by}
use Rattle.dep_paths.specs.declared.path.Pin.{Pin}
use Rattle.dep_paths.specs.Activation.{Frames, frame_at, has_truth, is_pinned, passes_by}
use Rattle.activation.specs.declared.passage.Passage.{Passage}
use Rattle.activation.specs.declared.passage.Passage.TheVariants.{Shut, Earlier}
use Rattle.activation.specs.Passing.{flag_by, is_allowed, passage_by, passage_if, passage_into}
use Rattle.activation.specs.Tree.{pin_at}

flag_if : (b now earlier : Bool) → (b && now) ≡ flag_by (passage_if b) now earlier
flag_if true now earlier = refl
flag_if false now earlier = refl

first_instant : (t : ℕ) → (t == 0) ≡ not (nat_le 1 t)
first_instant zero = refl
first_instant (suc t) = grind arith

later_instant : (t : ℕ) → nat_le 1 (suc t) ≡ true
later_instant t = grind arith

-- an instant of frames W with this frame, at which the shorter path is active as `now` says, and as `earlier`
-- says at the instant before, if there is one
module _ (W : Frames) (frame : List Value) (t : ℕ) (is : frame_at W t ≡ frame) where
  pin_allows : (b truth : Bool) (e : EdgeId) → (not b || has_truth truth (at_edge frame e)) ≡ is_allowed (if b then Some truth else None) frame e
  pin_allows true truth e = refl
  pin_allows false truth e = refl

  pub pinned_allowed : (pin : Option Pin) (place : ℕ) (e : EdgeId) → is_pinned pin place e W t ≡ is_allowed (pin_at pin place) frame e
  pinned_allowed None place e = refl
  pinned_allowed (Some pin) place e = ap (λ (f : List Value). not (place == pin.place) || has_truth pin.value (at_edge f e)) is ∙ pin_allows (place == pin.place) pin.value e

  module _ (shorter : ℕ → Bool) (now earlier : Bool) (at_now : shorter t ≡ now) (at_earlier : nat_le 1 t ≡ true → shorter (t - 1) ≡ earlier) where
    by_step : (form : Form) (port : ℕ) → (step_by form port (frame_at W t) && shorter t) ≡ flag_by (passage_if (step_by form port frame)) now earlier
    by_step form port = ap (λ (f : List Value). step_by form port f && shorter t) is ∙ ap (λ (b : Bool). step_by form port frame && b) at_now ∙ flag_if (step_by form port frame) now earlier

    by_delay : (a : EdgeId) (port u : ℕ) → t ≡ u → passes_by (Pre a) port W shorter u ≡ flag_by (passage_by (Pre a) port frame (nat_le 1 u)) now earlier
    by_delay a port zero same = refl
    by_delay a port (suc u) same =
        let later : nat_le 1 t ≡ true = ap (nat_le 1) same ∙ later_instant u in
        let back : t - 1 ≡ u = omega (arith, same) in
        ap shorter (sym back) ∙ at_earlier later ∙ ap (λ (b : Bool). flag_by (if b then Earlier else Shut) now earlier) (sym (later_instant u))

    pub passes_flag : (form : Form) (port : ℕ) → passes_by form port W shorter t ≡ flag_by (passage_by form port frame (nat_le 1 t)) now earlier
    passes_flag (Arrow a b) zero = ap (λ (c : Bool). c && shorter t) (first_instant t) ∙ ap (λ (c : Bool). not (nat_le 1 t) && c) at_now ∙ flag_if (not (nat_le 1 t)) now earlier
    passes_flag (Arrow a b) (suc port) = ap (λ (c : Bool). nat_le 1 t && c) at_now ∙ flag_if (nat_le 1 t) now earlier
    passes_flag (Pre a) port = by_delay a port t refl
    passes_flag form port = by_step form port

    into_edge : (edge : Option Edge) (port : ℕ) → option_map_or (λ (e : Edge). passes_by (form_of e.op) port W shorter t) edge false ≡ flag_by (passage_into (Some port) edge frame (nat_le 1 t)) now earlier
    into_edge None port = refl
    into_edge (Some edge) port = passes_flag (form_of edge.op) port

    if_allowed : (b : Bool) (passage : Passage) → (b && flag_by passage now earlier) ≡ flag_by (if b then passage else Shut) now earlier
    if_allowed true passage = refl
    if_allowed false passage = refl

    -- a step with its pin is active as its gate tells
    pub gate_flag : (pin : Option Pin) (place : ℕ) (e : EdgeId) (edge : Option Edge) (port : ℕ) → (is_pinned pin place e W t && option_map_or (λ (x : Edge). passes_by (form_of x.op) port W shorter t) edge false) ≡ flag_by (if is_allowed (pin_at pin place) frame e then passage_into (Some port) edge frame (nat_le 1 t) else Shut) now earlier
    gate_flag pin place e edge port =
        ap (λ (b : Bool). b && option_map_or (λ (x : Edge). passes_by (form_of x.op) port W shorter t) edge false) (pinned_allowed pin place e)
        ∙ ap (λ (b : Bool). is_allowed (pin_at pin place) frame e && b) (into_edge edge port)
        ∙ if_allowed (is_allowed (pin_at pin place) frame e) (passage_into (Some port) edge frame (nat_le 1 t))
