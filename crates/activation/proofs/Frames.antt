-- A frame more changes nothing at the instants before it.
use Rattle.std.proofs.Common.{◌≡◌, ◌∙◌, ℕ, zero, suc, ◌<◌, Bool, false, not, ◌&&◌, List, [], ◌∷◌, ◌++◌, Option, Some, None, length, slice_get, refl, ap, arith}
use Rattle.std.specs.Prelude.{◌||◌, ◌==◌, nat_le}
use Rattle.std.specs.Option.{option_map_or}
use Rattle.std.proofs.Math.ListN.{get_or-append}
use Rattle.std.proofs.Math.Seq.{get_or-append_seam}
use Rattle.op_network.specs.declared.edge.Edge.{Edge}
use Rattle.op_network.specs.declared.edge.EdgeId.{EdgeId}
use Rattle.op_network.specs.declared.form.Form.{Form}
use Rattle.op_network.specs.declared.form.Form.TheVariants.{Arrow, Pre}
use Rattle.op_network.specs.declared.value.Value.{Value}
use Rattle.op_network.specs.Operators.{at_edge, form_of, step_by}
use Rattle.dep_paths.specs.declared.path.Path.{Path}
use Rattle.dep_paths.specs.declared.path.Pin.{Pin}
use Rattle.dep_paths.specs.declared.path.Step.{Step}
use Rattle.dep_paths.specs.Activation.{Frames, enters, frame_at, has_truth, is_active, is_pinned, passes_by}

-- the frame at the end
pub last_frame : (V : Frames) (frame : List Value) → frame_at (V ++ frame ∷ []) (length V) ≡ frame
last_frame V frame = get_or-append_seam V frame [] []

pub option_map_or-same : {A B : Type 0} (f g : A → B) (o : Option A) (d : B) → ((a : A) → f a ≡ g a) → option_map_or f o d ≡ option_map_or g o d
option_map_or-same f g None d same = refl
option_map_or-same f g (Some a) d same = same a

-- two lists of frames that agree below an instant
module _ (V W : Frames) (n : ℕ) (agree : (t : ℕ) → t < n → frame_at V t ≡ frame_at W t) where
  pinned_same : (pin : Option Pin) (place : ℕ) (e : EdgeId) (t : ℕ) → t < n → is_pinned pin place e V t ≡ is_pinned pin place e W t
  pinned_same None place e t below = refl
  pinned_same (Some pin) place e t below = ap (λ (frame : List Value). not (place == pin.place) || has_truth pin.value (at_edge frame e)) (agree t below)

  module _ (r s : ℕ → Bool) (same : (t : ℕ) → t < n → r t ≡ s t) where
    both : (t : ℕ) (form : Form) (port : ℕ) → t < n → (step_by form port (frame_at V t) && r t) ≡ (step_by form port (frame_at W t) && s t)
    both t form port below = ap (λ (b : Bool). step_by form port (frame_at V t) && b) (same t below) ∙ ap (λ (frame : List Value). step_by form port frame && s t) (agree t below)

    passes_same : (form : Form) (port t : ℕ) → t < n → passes_by form port V r t ≡ passes_by form port W s t
    passes_same (Arrow a b) zero t below = ap (λ (b : Bool). t == 0 && b) (same t below)
    passes_same (Arrow a b) (suc port) t below = ap (λ (b : Bool). nat_le 1 t && b) (same t below)
    passes_same (Pre a) port zero below = refl
    passes_same (Pre a) port (suc t) below = same t (omega (arith, below))
    passes_same form port t below = both t form port below

    enters_same : (edges : List Edge) (pin : Option Pin) (place t : ℕ) → t < n → (step : Step) → enters edges pin place V r t step ≡ enters edges pin place W s t step
    enters_same edges pin place t below step =
        ap (λ (b : Bool). b && option_map_or (λ (edge : Edge). passes_by (form_of edge.op) step.port V r t) (slice_get edges step.edge.0) false) (pinned_same pin place step.edge t below)
        ∙ ap (λ (b : Bool). is_pinned pin place step.edge W t && b) (option_map_or-same _ _ (slice_get edges step.edge.0) false (λ (edge : Edge). passes_same (form_of edge.op) step.port t below))

  pub active_same : (edges : List Edge) (p : Path) (pin : Option Pin) (k t : ℕ) → t < n → is_active edges V p pin k t ≡ is_active edges W p pin k t
  unfolding is_active
  active_same edges p pin zero t below = pinned_same pin 0 p.start t below
  active_same edges p pin (suc k) t below = option_map_or-same _ _ (slice_get p.steps k) false (λ (step : Step). enters_same (λ u. is_active edges V p pin k u) (λ u. is_active edges W p pin k u) (λ u under. active_same edges p pin k u under) edges pin (suc k) t below step)

-- a path is active at an instant before the last frame exactly as without this frame
pub active_before : (edges : List Edge) (V : Frames) (frame : List Value) (p : Path) (pin : Option Pin) (k t : ℕ) → t < length V → is_active edges (V ++ frame ∷ []) p pin k t ≡ is_active edges V p pin k t
active_before edges V frame p pin k t below = active_same (V ++ frame ∷ []) V (length V) (λ u under. get_or-append V (frame ∷ []) [] u under) edges p pin k t below
