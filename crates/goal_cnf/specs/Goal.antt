-- The formula of a goal: the unrolled network, and then, instant by instant, whether the obligation
-- is met, whether the inputs so far are admissible, and whether both hold.
use Rattle.std.specs.Prelude.{ℕ, suc, Bool, ◌-◌, List, [], ◌∷◌, ◌++◌, length, Option, Some, None, slice_get}
use Rattle.cnf_form.specs.declared.lit.Lit.{Lit}
use Rattle.cnf_form.specs.Shape.{Shape, shape}
use Rattle.op_network.specs.declared.edge.Edge.{Edge}
use Rattle.op_network.specs.declared.edge.EdgeId.{EdgeId}
use Rattle.op_network.specs.declared.edge.Parts.{Parts}
use Rattle.bit_blast.specs.Circuit.{Circuit, Entry, Require, after, yes, no, with_entries}
use Rattle.bit_blast.specs.Circuit as gate
use Rattle.unroll_cnf.specs.Unrolled.{Table, only, first_part}
use Rattle.dep_paths.specs.declared.path.Condition.{Condition}
use Rattle.dep_paths.specs.declared.path.Obligation.{Obligation}
use Rattle.dep_paths.specs.declared.path.Obligation.TheVariants.{Bc, Ecc, Mcc, Omc}
use Rattle.dep_paths.specs.declared.path.Path.{Path}
use Rattle.dep_paths.specs.declared.path.Pin.{Pin}
use Rattle.dep_paths.specs.Activation.{first_pin}
use Rattle.dep_paths.specs.Duties.{Planned}
use Rattle.goal_cnf.specs.Observation.{observation}
use Rattle.goal_cnf.specs.Activity.{lit_at, unchanged, path_circuit}

-- ---- met

-- `no`, alone
abbrev pub never : Circuit (List Lit)
never = record { entries = []; result = no 0 ∷ [] }

abbrev pub activation_in : ℕ → List Edge → Option Pin → Option Path → Table → Option (List Lit)
    → Circuit (List Lit)
activation_in n edges pin None now before = never
activation_in n edges pin (Some p) now before = path_circuit n edges pin p now before

-- the path at a place of the list
abbrev pub activation : ℕ → List Edge → List Path → ℕ → Option Pin → Table → Option (List Lit)
    → Circuit (List Lit)
activation n edges paths place pin now before =
    activation_in n edges pin (slice_get paths place) now before

-- the condition at a place of the list, with a value
abbrev pub observation_in : ℕ → Parts → List EdgeId → Bool → Option Condition → Table
    → Option (List Lit) → Circuit (List Lit)
observation_in n parts order value None now before = never
observation_in n parts order value (Some c) now before =
    observation n parts.edges order parts.outputs (record { condition = c; value = value }) now before

-- The literals of an obligation at an instant, behind those of the instant before, if there is one.
-- The last of them tells whether it is met.
abbrev pub met_circuit : ℕ → Parts → List EdgeId → Planned → Obligation → Table
    → Option (List Lit) → Circuit (List Lit)
met_circuit n parts order plan (Bc path) now before =
    activation n parts.edges plan.paths path None now before
met_circuit n parts order plan (Ecc path value) now before =
    activation n parts.edges plan.paths path (first_pin value) now before
met_circuit n parts order plan (Mcc path pin) now before =
    activation n parts.edges plan.paths path pin now before
met_circuit n parts order plan (Omc condition value) now before =
    observation_in n parts order value (slice_get plan.conditions condition) now before

abbrev pub last_lit : List Lit → Lit
last_lit ls = lit_at ls (length ls - 1)

-- ---- admissible

-- the literal `adm` and each assert edge's bit, in order
abbrev pub adm_circuit : ℕ → Table → Lit → List EdgeId → Circuit Lit
adm_circuit n now adm [] = unchanged adm
adm_circuit n now adm (s ∷ asserts) =
    let rest = adm_circuit (suc n) now (yes n) asserts in
    record { entries = gate.And adm (only (now s.0)) ∷ rest.entries; result = rest.result }

-- ---- hit

-- The literals `hit` of the instants with these words, behind the literals of the obligation and
-- `adm` of the instant before.
abbrev pub hits : Parts → List EdgeId → Planned → Obligation → ℕ → Option (List Lit) → Lit → List Table
    → Circuit (List Lit)
hits parts order plan o n before adm [] = record { entries = []; result = [] }
hits parts order plan o n before adm (now ∷ words) =
    let met = met_circuit n parts order plan o now before in
    let admitted = adm_circuit (after n met.entries) now adm parts.asserts in
    let v = after (after n met.entries) admitted.entries in
    let rest = hits parts order plan o (suc v) (Some met.result) admitted.result words in
    record {
      entries =
          met.entries ++ (admitted.entries
          ++ (gate.And admitted.result (last_lit met.result) ∷ rest.entries));
      result = yes v ∷ rest.result;
    }

-- the literals `hit` of k instants, behind the unrolled network
abbrev pub goal_hits : Parts → List EdgeId → Planned → Obligation → ℕ → Circuit (List Lit)
goal_hits parts order plan o k =
    let one = first_part parts order k in
    hits parts order plan o (after 0 one.entries) None (yes 0) one.result

-- the whole formula, whose last clause has all hits in order
abbrev pub goal_entries : Parts → List EdgeId → Planned → Obligation → ℕ → List Entry
goal_entries parts order plan o k =
    let goal = goal_hits parts order plan o k in
    (first_part parts order k).entries ++ (goal.entries ++ Require goal.result ∷ [])

abbrev pub goal_formula : Parts → List EdgeId → Planned → Obligation → ℕ → Shape
goal_formula parts order plan o k =
    with_entries (shape 0 []) (goal_entries parts order plan o k)
