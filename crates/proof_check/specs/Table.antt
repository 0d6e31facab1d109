-- What the code keeps of the clauses that are present, and how its answers are told.
use Rattle.std.specs.Prelude.{◌≡◌, ℕ, ◌⊎◌, nat_eq, List, Option, Some, Result, Ok, Err, option_map}
use Rattle.std.specs.Borrow.{Bor}
use Rattle.std.specs.HashMap.{HashMap, get}
use Rattle.cnf_form.specs.declared.lit.Lit.{Lit}
use Rattle.proof_check.specs.declared.step.StepKind.{StepKind}
use Rattle.proof_check.specs.declared.step.VerifyFault.{VerifyFault}
use Rattle.proof_check.specs.declared.step.VerifyFault.TheVariants.{Refused, Memory}
use Rattle.proof_check.specs.declared.fault.StepFault.{StepFault}
use Rattle.proof_check.specs.declared.fault.StepFault.TheVariants.{Kind, Memory as NoMemory}
use Rattle.proof_check.specs.Check.{Clauses, State}

-- the clauses of a map from ids
unfoldable pub reads : {S : Type 0} → HashMap ℕ (Bor (List Lit)) S → Clauses
reads table k = option_map (λ clause. clause.now) (get nat_eq table k)

abbrev pub state : {S : Type 0} → HashMap ℕ (Bor (List Lit)) S → ℕ → State
state table last = record { present = reads table; last = last }

-- a clause that was lent, or a fault
abbrev pub lent : Result (Bor (List Lit)) StepKind → Result (List Lit) StepKind
lent (Ok clause) = Ok clause.now
lent (Err kind) = Err kind

-- want of memory, or the fault that was found
abbrev pub IsFault : Option StepKind → StepFault → Type 0
IsFault found (Kind kind) = found ≡ Some kind
IsFault found NoMemory = Unit {0}

-- want of memory, or the fault in place of a state
abbrev pub IsFaultOf : Result State StepKind → StepFault → Type 0
IsFaultOf next (Kind kind) = next ≡ Err kind
IsFaultOf next NoMemory = Unit {0}

-- the fault of a proof whose step of this number has this one
abbrev pub fault_at : ℕ → StepFault → VerifyFault
fault_at n (Kind kind) = Refused n kind
fault_at n NoMemory = Memory

-- want of memory, or the first refusal
abbrev pub IsRefusal : Option VerifyFault → VerifyFault → Type 0
IsRefusal first fault = (fault ≡ Memory) ⊎ (first ≡ Some fault)
