-- How obligations are printed.
use Rattle.std.specs.Prelude.{ℕ, if◌then◌else◌, Bool, List, [], ◌∷◌, ◌++◌, Option, Some, None}
use Rattle.std.specs.Prelude.{codes, decimal, slice_get}
use Rattle.std.specs.List.{flat_map}
use Rattle.std.specs.Option.{option_map_or}
use Rattle.dep_paths.specs.declared.path.Condition.{Condition}
use Rattle.dep_paths.specs.declared.path.Obligation.{Obligation}
use Rattle.dep_paths.specs.declared.path.Obligation.TheVariants.{Bc, Ecc, Mcc, Omc}
use Rattle.dep_paths.specs.declared.path.Path.{Path}
use Rattle.dep_paths.specs.declared.path.Pin.{Pin}
use Rattle.dep_paths.specs.declared.path.Step.{Step}
use Rattle.dep_paths.specs.Activation.{first_pin}
use Rattle.dep_paths.specs.Criteria.{criterion_of}
use Rattle.dep_paths.specs.Duties.{Planned}
use Rattle.op_network.specs.declared.edge.Edge.{Edge}
use Rattle.op_network.specs.declared.edge.EdgeId.{EdgeId}
use Rattle.op_network.specs.Valid.{name_at}
use Rattle.cov_report.specs.Scores.{criterion_name}

-- a port of an edge
abbrev pub port_text : List Edge → EdgeId → ℕ → List ℕ
port_text edges e port = name_at edges e.0 ++ 58 ∷ decimal port

-- a step's edge and port
abbrev pub step_text : List Edge → Step → List ℕ
step_text edges s = codes " > " ++ port_text edges s.edge s.port

-- where a path starts, and its steps
abbrev pub path_text : List Edge → Path → List ℕ
path_text edges p = name_at edges p.start.0 ++ flat_map (step_text edges) p.steps

-- the path at a place of the plan
abbrev pub path_at : List Edge → Planned → ℕ → List ℕ
path_at edges plan place = option_map_or (path_text edges) (slice_get plan.paths place) []

-- the condition at a place of the plan
abbrev pub condition_at : List Edge → Planned → ℕ → List ℕ
condition_at edges plan place =
    option_map_or (λ (c : Condition). port_text edges c.edge c.port)
    (slice_get plan.conditions place) []

-- a truth behind a space
abbrev pub truth_text : Bool → List ℕ
truth_text value = if value then codes " true" else codes " false"

-- the place that is pinned, if one is, and its truth
abbrev pub pin_text : Option Pin → List ℕ
pin_text None = []
pin_text (Some pin) = codes " at " ++ (decimal pin.place ++ truth_text pin.value)

-- what an obligation asks for
abbrev pub asked_text : List Edge → Planned → Obligation → List ℕ
asked_text edges plan (Bc path) = path_at edges plan path
asked_text edges plan (Ecc path value) = path_at edges plan path ++ pin_text (first_pin value)
asked_text edges plan (Mcc path pin) = path_at edges plan path ++ pin_text pin
asked_text edges plan (Omc condition value) = condition_at edges plan condition ++ truth_text value

-- an obligation: its criterion, and what it asks for
abbrev pub duty_text : List Edge → Planned → Obligation → List ℕ
duty_text edges plan duty =
    criterion_name (criterion_of duty) ++ 32 ∷ asked_text edges plan duty

-- the obligation at a place of the plan
abbrev pub duty_at : List Edge → Planned → ℕ → List ℕ
duty_at edges plan o = option_map_or (duty_text edges plan) (slice_get plan.duties o) []
