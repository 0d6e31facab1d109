-- Whether an obligation is met at an instant rests on the frames up to it alone.
use Rattle.std.proofs.Common.{◌≡◌, ◌==◌, ℕ, zero, suc, ◌<◌, ◌≤◌, Bool, false, not, ◌&&◌, ◌||◌, List, [], ◌∷◌, length, take, refl, ap, ap₂, arith, sym, ◌∙◌, true, ◌++◌, Option, Some, None}
use Rattle.std.specs.Prelude.{slice_get, nat_le}
use Rattle.std.specs.Option.{option_map_or}
use Rattle.op_network.specs.declared.edge.Edge.{Edge}
use Rattle.op_network.specs.declared.edge.EdgeId.{EdgeId}
use Rattle.op_network.specs.declared.form.Form.{Form}
use Rattle.op_network.specs.declared.form.Form.TheVariants.{Input, Const, One, Two, Ite, Arrow, Pre}
use Rattle.op_network.specs.Operators.{form_of, at_edge, step_by}
use Rattle.dep_paths.specs.declared.path.Obligation.{Obligation}
use Rattle.dep_paths.specs.declared.path.Obligation.TheVariants.{Bc, Ecc, Mcc, Omc}
use Rattle.dep_paths.specs.declared.path.Path.{Path}
use Rattle.dep_paths.specs.declared.path.Pin.{Pin}
use Rattle.dep_paths.specs.Activation.{Frames, frame_at, passes_by, passes, has_truth, is_pinned, enters, is_active, is_activated, activates, first_pin}
use Rattle.dep_paths.specs.Coverage.{Met, Observes}
use Rattle.dep_paths.specs.Criteria.{LaterFramesChangeNothing}
use Rattle.dep_paths.specs.Duties.{Planned}
use Rattle.dep_paths.proofs.Prefix.{AgreeBelow, agree_back, agree_more, reaches_both}
use Rattle.op_network.specs.declared.edge.Parts.{Parts}

-- two lists have the same frames up to an instant
abbrev pub AlikeTo : ℕ → Frames → Frames → Type 0
AlikeTo t f g = (s : ℕ) → s ≤ t → frame_at f s ≡ frame_at g s

earlier : (t u : ℕ) (f g : Frames) → u ≤ t → AlikeTo t f g → AlikeTo u f g
earlier t u f g le h s les = h s (omega arith)

some_alike : {A : Type 0} (f g : A → Bool) (o : Option A) → ((a : A) → f a ≡ g a) → option_map_or f o false ≡ option_map_or g o false
some_alike f g None h = refl
some_alike f g (Some a) h = h a

pinned_alike : (pin : Option Pin) (place : ℕ) (e : EdgeId) (f g : Frames) (t : ℕ) → AlikeTo t f g → is_pinned pin place e f t ≡ is_pinned pin place e g t
pinned_alike None place e f g t h = refl
pinned_alike (Some pin) place e f g t h = ap (λ frame. not (place == pin.place) || has_truth pin.value (at_edge frame e)) (h t (omega arith))

passes_alike : (form : Form) (port : ℕ) (f g : Frames) (a b : ℕ → Bool) (t : ℕ) → AlikeTo t f g → ((u : ℕ) → u ≤ t → a u ≡ b u) → passes_by form port f a t ≡ passes_by form port g b t
passes_alike (Arrow x y) zero f g a b t h k = ap (λ z. t == 0 && z) (k t (omega arith))
passes_alike (Arrow x y) (suc port) f g a b t h k = ap (λ z. nat_le 1 t && z) (k t (omega arith))
passes_alike (Pre x) port f g a b zero h k = refl
passes_alike (Pre x) port f g a b (suc t) h k = k t (omega arith)
passes_alike (Input i) port f g a b t h k = k t (omega arith)
passes_alike (Const v) port f g a b t h k = k t (omega arith)
passes_alike (One o x) port f g a b t h k = k t (omega arith)
passes_alike (Two o x y) port f g a b t h k = ap₂ (λ frame z. step_by (Two o x y) port frame && z) (h t (omega arith)) (k t (omega arith))
passes_alike (Ite x y z) port f g a b t h k = ap₂ (λ frame w. step_by (Ite x y z) port frame && w) (h t (omega arith)) (k t (omega arith))

active_alike : (edges : List Edge) (f g : Frames) (p : Path) (pin : Option Pin) (k t : ℕ) → AlikeTo t f g → is_active edges f p pin k t ≡ is_active edges g p pin k t
unfolding is_active
active_alike edges f g p pin zero t h = pinned_alike pin 0 p.start f g t h
active_alike edges f g p pin (suc k) t h =
    some_alike (enters edges pin (suc k) f (λ u. is_active edges f p pin k u) t) (enters edges pin (suc k) g (λ u. is_active edges g p pin k u) t) (slice_get p.steps k)
    (λ s. ap₂ (λ x y. x && y) (pinned_alike pin (suc k) s.edge f g t h)
    (some_alike (λ (edge : Edge). passes edge.op s.port f (λ u. is_active edges f p pin k u) t) (λ (edge : Edge). passes edge.op s.port g (λ u. is_active edges g p pin k u) t) (slice_get edges s.edge.0)
    (λ edge. passes_alike (form_of edge.op) s.port f g (λ u. is_active edges f p pin k u) (λ u. is_active edges g p pin k u) t h
    (λ u le. active_alike edges f g p pin k u (earlier t u f g le h)))))

activated_alike : (edges : List Edge) (paths : List Path) (f g : Frames) (place : ℕ) (pin : Option Pin) (t : ℕ) → AlikeTo t f g → is_activated edges paths f place pin t ≡ is_activated edges paths g place pin t
activated_alike edges paths f g place pin t h =
    some_alike (λ (p : Path). is_active edges f p pin (length p.steps) t) (λ (p : Path). is_active edges g p pin (length p.steps) t) (slice_get paths place)
    (λ p. active_alike edges f g p pin (length p.steps) t h)

activates_alike : (edges : List Edge) (paths : List Path) (f g : Frames) (o : Obligation) (t : ℕ) → AlikeTo t f g → activates edges paths f o t ≡ activates edges paths g o t
activates_alike edges paths f g (Bc path) t h = activated_alike edges paths f g path None t h
activates_alike edges paths f g (Ecc path value) t h = activated_alike edges paths f g path (first_pin value) t h
activates_alike edges paths f g (Mcc path pin) t h = activated_alike edges paths f g path pin t h
activates_alike edges paths f g (Omc condition value) t h = refl

-- ---- met

alike_below : (f g : Frames) (n t : ℕ) → AgreeBelow f g n → t < n → AlikeTo t f g
alike_below f g n t agree below s le = agree.same s (omega (arith, below, le))

by_activation : (edges : List Edge) (paths : List Path) (f g : Frames) (o : Obligation) (n t : ℕ) → AgreeBelow f g n → t < n → activates edges paths f o t ≡ true → activates edges paths g o t ≡ true
by_activation edges paths f g o n t agree below met = sym (activates_alike edges paths f g o t (alike_below f g n t agree below)) ∙ met

-- what is met below an instant rests on the frames below it alone
pub met_both : (net : Parts) (plan : Planned) (f g : Frames) (o : Obligation) (n t : ℕ) → AgreeBelow f g n → t < n → Met net plan f o t → Met net plan g o t
met_both net plan f g (Bc path) n t agree below met = by_activation net.edges plan.paths f g (Bc path) n t agree below met
met_both net plan f g (Ecc path value) n t agree below met = by_activation net.edges plan.paths f g (Ecc path value) n t agree below met
met_both net plan f g (Mcc path pin) n t agree below met = by_activation net.edges plan.paths f g (Mcc path pin) n t agree below met
met_both net plan f g (Omc place value) n t agree below met = record {
  condition = met.condition;
  listed = met.listed;
  observed = record {
    output = met.observed.output;
    listed = met.observed.listed;
    reaches = reaches_both net.edges f g n (record { condition = met.condition; value = value }) met.observed.output t agree below met.observed.reaches;
  };
}

pub met_more : LaterFramesChangeNothing
met_more net plan frames more duty t below = (
  met_both net plan frames (frames ++ more) duty (length frames) t (agree_more frames more) below,
  met_both net plan (frames ++ more) frames duty (length frames) t (agree_back frames (frames ++ more) (length frames) (agree_more frames more)) below,
)

-- ---- the first frames

pub frame_take : (frames : Frames) (n s : ℕ) → s < n → frame_at (take n frames) s ≡ frame_at frames s
frame_take frames zero s lt = absurd (omega arith)
frame_take [] (suc n) s lt = refl
frame_take (f ∷ frames) (suc n) zero lt = refl
frame_take (f ∷ frames) (suc n) (suc s) lt = frame_take frames n s (omega arith)

pub agree_first : (frames : Frames) (n : ℕ) → AgreeBelow (take n frames) frames n
agree_first frames n = record { same = frame_take frames n }
