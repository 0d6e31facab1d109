-- What is active with a pin is active without.
use Rattle.std.proofs.Common.{◌≡◌, ◌==◌, ℕ, zero, suc, Bool, true, false, ◌&&◌, List, Option, Some, None, length, slice_get, refl, nat_le}
use Rattle.std.specs.Option.{option_map_or}
use Rattle.std.proofs.lemmas.Bool.{and_parts, and_from}
use Rattle.op_network.specs.declared.edge.Edge.{Edge}
use Rattle.op_network.specs.declared.form.Form.{Form}
use Rattle.op_network.specs.declared.form.Form.TheVariants.{Input, Const, One, Two, Ite, Arrow, Pre}
use Rattle.op_network.specs.Operators.{form_of, step_by}
use Rattle.dep_paths.specs.declared.path.Path.{Path}
use Rattle.dep_paths.specs.declared.path.Pin.{Pin}
use Rattle.dep_paths.specs.declared.path.Step.{Step}
use Rattle.dep_paths.specs.Activation.{Frames, enters, frame_at, is_activated, is_active, passes, passes_by}

-- where the first is true, the second is
abbrev UpTo : (ℕ → Bool) → (ℕ → Bool) → Type 0
UpTo a b = (t : ℕ) → a t ≡ true → b t ≡ true

and_up : (x y z : Bool) → (y ≡ true → z ≡ true) → (x && y) ≡ true → (x && z) ≡ true
and_up x y z up h = let both = and_parts x y h in and_from x z both.0 (up both.1)

some_up : {A : Type 0} (f g : A → Bool) (o : Option A) → ((a : A) → f a ≡ true → g a ≡ true) → option_map_or f o false ≡ true → option_map_or g o false ≡ true
some_up f g None up h = h
some_up f g (Some a) up h = up a h

passes_up : (form : Form) (port : ℕ) (frames : Frames) (a b : ℕ → Bool) → UpTo a b → (t : ℕ) → passes_by form port frames a t ≡ true → passes_by form port frames b t ≡ true
passes_up (Arrow x y) zero frames a b up t h = and_up (t == 0) (a t) (b t) (up t) h
passes_up (Arrow x y) (suc port) frames a b up t h = and_up (nat_le 1 t) (a t) (b t) (up t) h
passes_up (Pre x) port frames a b up zero h = h
passes_up (Pre x) port frames a b up (suc t) h = up t h
passes_up (Input i) port frames a b up t h = up t h
passes_up (Const v) port frames a b up t h = up t h
passes_up (One o x) port frames a b up t h = up t h
passes_up (Two o x y) port frames a b up t h = and_up (step_by (Two o x y) port (frame_at frames t)) (a t) (b t) (up t) h
passes_up (Ite x y z) port frames a b up t h = and_up (step_by (Ite x y z) port (frame_at frames t)) (a t) (b t) (up t) h

enters_up : (edges : List Edge) (pin : Option Pin) (place : ℕ) (frames : Frames) (a b : ℕ → Bool) → UpTo a b → (t : ℕ) (s : Step) → enters edges pin place frames a t s ≡ true → enters edges None place frames b t s ≡ true
enters_up edges pin place frames a b up t s h =
    some_up (λ (edge : Edge). passes edge.op s.port frames a t) (λ (edge : Edge). passes edge.op s.port frames b t) (slice_get edges s.edge.0)
    (λ edge. passes_up (form_of edge.op) s.port frames a b up t)
    (and_parts _ _ h).1

pub active_without : (edges : List Edge) (frames : Frames) (p : Path) (pin : Option Pin) (k t : ℕ) → is_active edges frames p pin k t ≡ true → is_active edges frames p None k t ≡ true
unfolding is_active
active_without edges frames p pin zero t h = refl
active_without edges frames p pin (suc k) t h =
    some_up (enters edges pin (suc k) frames (λ u. is_active edges frames p pin k u) t) (enters edges None (suc k) frames (λ u. is_active edges frames p None k u) t) (slice_get p.steps k)
    (enters_up edges pin (suc k) frames (λ u. is_active edges frames p pin k u) (λ u. is_active edges frames p None k u) (active_without edges frames p pin k) t)
    h

pub activated_without : (edges : List Edge) (paths : List Path) (frames : Frames) (place : ℕ) (pin : Option Pin) (t : ℕ) → is_activated edges paths frames place pin t ≡ true → is_activated edges paths frames place None t ≡ true
activated_without edges paths frames place pin t h =
    some_up (λ (p : Path). is_active edges frames p pin (length p.steps) t) (λ (p : Path). is_active edges frames p None (length p.steps) t) (slice_get paths place)
    (λ p. active_without edges frames p pin (length p.steps) t)
    h
