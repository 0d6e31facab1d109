-- When a path is activated (after Lakehal and Parissis), and with it what an obligation pins.
use Rattle.std.specs.Prelude.{ℕ, zero, suc, Bool, true, false, not, ◌&&◌, ◌||◌, ◌==◌, cond, List, [], Option, Some, None, length, slice_get, slice_index_or, nat_le}
use Rattle.std.specs.Option.{option_map_or}
use Rattle.op_network.specs.declared.edge.Edge.{Edge}
use Rattle.op_network.specs.declared.edge.EdgeId.{EdgeId}
use Rattle.op_network.specs.declared.edge.Op.{Op}
use Rattle.op_network.specs.declared.form.Form.{Form}
use Rattle.op_network.specs.declared.form.Form.TheVariants.{Arrow, Pre}
use Rattle.op_network.specs.declared.value.Value.{Value}
use Rattle.op_network.specs.declared.value.Value.TheVariants.{Truth, Word, Choice}
use Rattle.op_network.specs.Operators.{at_edge, form_of, step_by}
use Rattle.dep_paths.specs.declared.path.Obligation.{Obligation}
use Rattle.dep_paths.specs.declared.path.Obligation.TheVariants.{Bc, Ecc, Mcc, Omc}
use Rattle.dep_paths.specs.declared.path.Path.{Path}
use Rattle.dep_paths.specs.declared.path.Pin.{Pin}
use Rattle.dep_paths.specs.declared.path.Step.{Step}

-- the frames of a run, one for each instant from 0
abbrev pub Frames : Type 0
Frames = List (List Value)

abbrev pub frame_at : Frames → ℕ → List Value
frame_at frames t = slice_index_or frames t []

-- Whether a path is active at t after a step through this port; `shorter` tells at which instants the path
-- without the step is. An ordinary port asks the shorter path and the step condition at t; port 0 of `Arrow`
-- the shorter path at t and t = 0, port 1 the shorter path at t and t >= 1; `Pre` asks t >= 1 and the
-- shorter path at the instant before.
abbrev pub passes_by : Form → ℕ → Frames → (ℕ → Bool) → ℕ → Bool
passes_by (Arrow a b) zero frames shorter t = t == 0 && shorter t
passes_by (Arrow a b) (suc port) frames shorter t = nat_le 1 t && shorter t
passes_by (Pre a) port frames shorter zero = false
passes_by (Pre a) port frames shorter (suc t) = shorter t
passes_by form port frames shorter t = step_by form port (frame_at frames t) && shorter t

abbrev pub passes : Op → ℕ → Frames → (ℕ → Bool) → ℕ → Bool
passes op port frames shorter t = passes_by (form_of op) port frames shorter t

-- whether a value is this truth
abbrev pub has_truth : Bool → Value → Bool
has_truth truth (Truth b) = cond truth b (not b)
has_truth truth (Word w) = false
has_truth truth (Choice c) = false

-- what a pin asks of the edge at a place of the path: its value at t, where it pins this place
abbrev pub is_pinned : Option Pin → ℕ → EdgeId → Frames → ℕ → Bool
is_pinned None place e frames t = true
is_pinned (Some pin) place e frames t = not (place == pin.place) || has_truth pin.value (at_edge (frame_at frames t) e)

-- the step that stands at a place of a path is active at t, and what the pin asks of its edge holds
abbrev pub enters : List Edge → Option Pin → ℕ → Frames → (ℕ → Bool) → ℕ → Step → Bool
enters edges pin place frames shorter t s = is_pinned pin place s.edge frames t && option_map_or (λ (edge : Edge). passes edge.op s.port frames shorter t) (slice_get edges s.edge.0) false

-- The path's first k steps are active at t, by recursion on the last of them. A path of one edge has no
-- step: it is active at every instant at which the pin allows it.
unfoldable pub is_active : List Edge → Frames → Path → Option Pin → ℕ → ℕ → Bool
is_active edges frames p pin zero t = is_pinned pin 0 p.start frames t
is_active edges frames p pin (suc k) t = option_map_or (enters edges pin (suc k) frames (λ u. is_active edges frames p pin k u) t) (slice_get p.steps k) false

-- the path at a place of a list is active at t, with what the pin asks
abbrev pub is_activated : List Edge → List Path → Frames → ℕ → Option Pin → ℕ → Bool
is_activated edges paths frames place pin t = option_map_or (λ (p : Path). is_active edges frames p pin (length p.steps) t) (slice_get paths place) false

-- the pin of an elementary condition: the path's first edge has this value; none for a plain obligation
abbrev pub first_pin : Option Bool → Option Pin
first_pin None = None
first_pin (Some value) = Some (record { place = 0; value = value })

-- The path of an obligation is active at t, with what it pins. One on a condition has no path.
abbrev pub activates : List Edge → List Path → Frames → Obligation → ℕ → Bool
activates edges paths frames (Bc path) t = is_activated edges paths frames path None t
activates edges paths frames (Ecc path value) t = is_activated edges paths frames path (first_pin value) t
activates edges paths frames (Mcc path pin) t = is_activated edges paths frames path pin t
activates edges paths frames (Omc condition value) t = false
