-- What the code of a goal asks of the unrolled network, and of the literals that are there.
use Rattle.std.specs.Prelude.{◌≡◌, ℕ, ◌+◌, ◌<◌, ◌≤◌, Bool, List, length, Option, Some, None, All, slice_get}
use Rattle.std.specs.Option.{option_map_or}
use Rattle.cnf_form.specs.declared.lit.Lit.{Lit}
use Rattle.op_network.specs.declared.edge.EdgeId.{EdgeId}
use Rattle.op_network.specs.declared.edge.Parts.{Parts}
use Rattle.op_network.specs.declared.form.Form.{Form}
use Rattle.op_network.specs.declared.form.Form.TheVariants.{Two, Ite}
use Rattle.op_network.specs.Operators.{operands_of}
use Rattle.op_network.specs.Valid.{IsValid}
use Rattle.bit_blast.specs.Made.{IsBelow}
use Rattle.unroll_cnf.specs.Made.{AreWords, Streams, word_at}
use Rattle.unroll_cnf.specs.Unrolled.{only}
use Rattle.dep_paths.specs.declared.limits.TheConstants.{MOST_LENGTH}
use Rattle.dep_paths.specs.declared.path.Condition.{Condition}
use Rattle.dep_paths.specs.declared.path.Obligation.{Obligation}
use Rattle.dep_paths.specs.declared.path.Obligation.TheVariants.{Bc, Ecc, Mcc, Omc}
use Rattle.dep_paths.specs.declared.path.Path.{Path}
use Rattle.dep_paths.specs.declared.path.Step.{Step}
use Rattle.dep_paths.specs.Duties.{Planned}
use Rattle.dep_paths.specs.Observed.{Tag}
use Rattle.goal_cnf.specs.declared.formula.Goal.{Goal}
use Rattle.goal_cnf.specs.Activity.{lit_at}
use Rattle.goal_cnf.specs.Goal.{goal_formula, goal_hits}

-- ---- bits

-- the edge has a word of at least one bit at the instant
pub record HasBit (un : Streams) (t : ℕ) (e : EdgeId) : Type 0 where
  pub edge : e.0 < un.edges
  pub instant : t < un.instants
  pub some : 1 ≤ length (word_at un.words t e.0)

-- and its first bit is of a variable below n
pub record HasBitBelow (un : Streams) (t n : ℕ) (e : EdgeId) : Type 0 where
  pub bit : HasBit un t e
  pub below : (only (word_at un.words t e.0)).var < n

-- the operands that the step conditions of an operator read have
abbrev pub HasConditionBits : Streams → ℕ → ℕ → Form → Type 0
HasConditionBits un t n (Two o a b) = HasBitBelow un t n a × HasBitBelow un t n b
HasConditionBits un t n (Ite a b c) = HasBitBelow un t n a
HasConditionBits un t n _ = Unit {0}

-- the words of a valid network's edges, at each instant, are of variables of the formula
pub record AreStreams (parts : Parts) (un : Streams) : Type 0 where
  pub valid : IsValid parts
  pub edges : un.edges ≡ length parts.edges
  pub rows : length un.words ≡ un.instants
  pub words : All (AreWords parts un.formula.vars) un.words
  pub some : 0 < un.formula.vars

-- the instant is one of those, and the formula has grown to n variables
pub record CanRead (parts : Parts) (un : Streams) (t n : ℕ) : Type 0 where
  pub streams : AreStreams parts un
  pub instant : t < un.instants
  pub grown : un.formula.vars ≤ n

-- ---- literals of an instant

-- so many literals, of variables below n
pub record AreLits (count n : ℕ) (lits : List Lit) : Type 0 where
  pub size : length lits ≡ count
  pub below : IsBelow n lits

-- so are those of the instant before, if there is one
abbrev pub ArePast : ℕ → ℕ → Option (List Lit) → Type 0
ArePast size n None = Unit {0}
ArePast size n (Some lits) = AreLits size n lits

-- there is one at a place
abbrev pub HasPlace : Option (List Lit) → ℕ → Type 0
HasPlace None place = Unit {0}
HasPlace (Some lits) place = place < length lits

-- and it is of a variable below n
abbrev pub HasPastLit : ℕ → Option (List Lit) → ℕ → Type 0
HasPastLit n None place = Unit {0}
HasPastLit n (Some lits) place = (place < length lits) × ((lit_at lits place).var < n)

-- ---- paths and conditions

-- a path has edges of the network, at most 64
pub record IsPathIn (parts : Parts) (p : Path) : Type 0 where
  pub start : p.start.0 < length parts.edges
  pub steps : All (λ (s : Step). s.edge.0 < length parts.edges) p.steps
  pub short : length p.steps < MOST_LENGTH

-- a condition is a port of the network
pub record IsConditionIn (parts : Parts) (c : Condition) : Type 0 where
  pub edge : c.edge.0 < length parts.edges
  pub port : c.port < length (operands_of parts.edges c.edge)

-- so are those of a plan
pub record IsPlanIn (parts : Parts) (plan : Planned) : Type 0 where
  pub paths : All (IsPathIn parts) plan.paths
  pub conditions : All (IsConditionIn parts) plan.conditions

-- the path or the condition of an obligation is one of the plan's
abbrev pub IsListed : Planned → Obligation → Type 0
IsListed plan (Bc path) = path < length plan.paths
IsListed plan (Ecc path value) = path < length plan.paths
IsListed plan (Mcc path pin) = path < length plan.paths
IsListed plan (Omc condition value) = condition < length plan.conditions

-- how many literals the path at a place has at an instant: one for each of its places
abbrev pub path_lits : List Path → ℕ → ℕ
path_lits paths place = option_map_or (λ (p : Path). length p.steps + 1) (slice_get paths place) 1

-- how many an obligation has
abbrev pub lits_of : Parts → Planned → Obligation → ℕ
lits_of parts plan (Bc path) = path_lits plan.paths path
lits_of parts plan (Ecc path value) = path_lits plan.paths path
lits_of parts plan (Mcc path pin) = path_lits plan.paths path
lits_of parts plan (Omc condition value) = length parts.edges + 2

abbrev pub tag_of : Condition → Bool → Tag
tag_of condition value = record { condition = condition; value = value }

-- ---- the goal

-- the formula of an obligation within k instants, and its hits
pub record IsGoalOf (parts : Parts) (order : List EdgeId) (plan : Planned) (o : Obligation)
    (k : ℕ) (goal : Goal) : Type 0 where
  pub formula : goal.formula ≡ goal_formula parts order plan o k
  pub hits : goal.hits ≡ (goal_hits parts order plan o k).result

-- those of the obligation at a place of the plan
pub record IsGoal (parts : Parts) (order : List EdgeId) (plan : Planned) (place k : ℕ)
    (goal : Goal) : Type 0 where
  pub duty : Obligation
  pub listed : slice_get plan.duties place ≡ Some duty
  pub is : IsGoalOf parts order plan duty k goal
