-- The flag of an obligation's node tells whether it is met.
use Rattle.std.proofs.Common.{◌≡◌, ◌∙◌, ℕ, ◌+◌, ◌<◌, false, List, Option, Some, None, length, get_or, refl, sym, ap}
use Rattle.std.specs.Prelude.{IsSome}
use Rattle.std.specs.Option.{option_map_or}
use Rattle.std.proofs.lemmas.Option.{get_or_from_slice_get, slice_get-get_or}
use Rattle.op_network.specs.declared.edge.Edge.{Edge}
use Rattle.dep_paths.specs.declared.path.Obligation.{Obligation}
use Rattle.dep_paths.specs.declared.path.Obligation.TheVariants.{Bc, Ecc, Mcc, Omc}
use Rattle.dep_paths.specs.declared.path.Path.{Path}
use Rattle.dep_paths.specs.declared.path.Pin.{Pin}
use Rattle.dep_paths.specs.Activation.{Frames, is_active, activates}
use Rattle.activation.specs.Acts.{IsGoal, Kept, StandsFor, TellsMet, path_of, pin_of, place_of}
use Rattle.activation.specs.Passing.{goal_flag}

-- an obligation on a path, by its path and pin
met_by_path : (edges : List Edge) (paths : List Path) (frames : Frames) (duty : Obligation) (t : ℕ) → IsSome (place_of duty) → activates edges paths frames duty t ≡ option_map_or (λ (p : Path). is_active edges frames p (pin_of duty) (length p.steps) t) (path_of paths duty) false
met_by_path edges paths frames (Bc path) t some = refl
met_by_path edges paths frames (Ecc path value) t some = refl
met_by_path edges paths frames (Mcc path pin) t some = refl
met_by_path edges paths frames (Omc condition value) t some = absurd (cc)

module _ (edges : List Edge) (frames : Frames) (kept : Kept) (t : ℕ) (stands : StandsFor edges frames kept) (last : length frames ≡ t + 1) where
  goal_tells : (path : Option Path) (pin : Option Pin) (goal : Option ℕ) → IsGoal kept.tree path pin goal → goal_flag kept.flags goal ≡ option_map_or (λ (p : Path). is_active edges frames p pin (length p.steps) t) path false
  goal_tells None pin goal is = ap (goal_flag kept.flags) is
  goal_tells (Some p) pin None is = absurd is
  goal_tells (Some p) pin (Some i) is = get_or_from_slice_get kept.flags i _ false (stands.flags t last p pin (length p.steps) i is)

some_value : {X : Type 0} (x y : X) → Some x ≡ Some y → x ≡ y
some_value x y same = cc

-- the answer at place o
pub tells_met : (kept : Kept) (o : ℕ) (d : Option ℕ) → o < length kept.goals → TellsMet kept o (goal_flag kept.flags (get_or kept.goals o d))
tells_met kept o d within edges plan frames t duty made stands last there some =
    let has = made.goals o duty there in
    let same : get_or kept.goals o d ≡ has.goal = some_value _ _ (sym (slice_get-get_or kept.goals o d within) ∙ has.there) in
    ap (goal_flag kept.flags) same
    ∙ goal_tells edges frames kept t stands last (path_of plan.paths duty) (pin_of duty) has.goal has.is_goal
    ∙ sym (met_by_path edges plan.paths frames duty t some)
