-- The check of a proof, step by step. It speaks of marks on literals alone, and not of what is true.
use Rattle.std.specs.Prelude.{◌≡◌, ℕ, zero, suc, ◌+◌, ℤ, pos, negsuc, nat_eq, nat_le, length, Bool, false, not, cond, List, [], ◌∷◌, Option, Some, None, is_some, Result, Ok, Err, ok_or}
use Rattle.std.specs.List.{filter, slice_get}
use Rattle.cnf_form.specs.declared.lit.Lit.{Lit}
use Rattle.cnf_form.specs.Lines.{is_nil}
use Rattle.cnf_form.specs.Lits.{turned}
use Rattle.cnf_form.specs.Marks.{with_mark, marks_of}
use Rattle.proof_check.specs.declared.step.StepKind.{StepKind}
use Rattle.proof_check.specs.declared.step.StepKind.TheVariants.{OldId, UnknownId, RatHint, NotUnit, Satisfied, NotClosed, NoEmpty}
use Rattle.proof_check.specs.declared.step.ProofStep.{ProofStep}
use Rattle.proof_check.specs.declared.step.ProofStep.TheVariants.{Put, Delete}
use Rattle.proof_check.specs.declared.step.VerifyFault.{VerifyFault}
use Rattle.proof_check.specs.declared.step.VerifyFault.TheVariants.{Refused}

-- ---- clauses by their ids

-- the clause that an id names, where one is present
abbrev pub Clauses : Type 0
Clauses = ℕ → Option (List Lit)

-- the clauses of a formula have the ids from 1 on
abbrev pub numbered : List (List Lit) → Clauses
numbered clauses zero = None
numbered clauses (suc k) = slice_get clauses k

-- with another clause, or none, under one id
abbrev pub with_id : ℕ → Option (List Lit) → Clauses → Clauses
with_id id clause present = λ k. cond (nat_eq id k) clause (present k)

-- the clause that a hint names, or the hint's fault
abbrev pub named : Clauses → ℤ → Result (List Lit) StepKind
named present (pos id) = ok_or (present id) UnknownId
named present (negsuc n) = Err RatHint

-- ---- the hints of an addition, under the marks of the literals that are false

-- the literals of a clause that aren't false
abbrev pub open_lits : (Lit → Bool) → List Lit → List Lit
open_lits falses clause = filter (λ l. not (falses l)) clause

-- the one literal that isn't false, which a hint before the last sets true, or the hint's fault
abbrev pub sole : (Lit → Bool) → List Lit → Result Lit StepKind
sole falses [] = Err NotUnit
sole falses (l ∷ []) = cond (falses (turned l)) (Err Satisfied) (Ok l)
sole falses (l ∷ k ∷ more) = Err NotUnit

-- the fault of the last hint: none where all literals are false
abbrev pub closed : List Lit → Option StepKind
closed [] = None
closed (l ∷ more) = Some NotClosed

-- the fault of what follows from a value, or the fault in its place
abbrev pub fault_then : {A : Type 0} → (A → Option StepKind) → Result A StepKind → Option StepKind
fault_then next (Ok a) = next a
fault_then next (Err kind) = Some kind

-- the first fault of hints, taken in order
abbrev pub hints_fault : Clauses → (Lit → Bool) → List ℤ → Option StepKind
hints_fault present falses [] = Some NotClosed
hints_fault present falses (hint ∷ later) =
    fault_then (λ clause.
    cond (is_nil later)
    (closed (open_lits falses clause))
    (fault_then
    (λ l. hints_fault present (with_mark (turned l) falses) later)
    (sole falses (open_lits falses clause))))
    (named present hint)

-- ---- one step

-- what is present, and the greatest id of the formula and of what was added
pub record State : Type 0 where
  pub present : Clauses
  pub last : ℕ

-- without the clauses of these ids, if each is present at its turn
abbrev pub removed : List ℕ → Clauses → Option Clauses
removed [] present = Some present
removed (id ∷ ids) present =
    cond (is_some (present id)) (removed ids (with_id id None present)) None

abbrev pub deleted : State → Option Clauses → Result State StepKind
deleted s None = Err UnknownId
deleted s (Some present) = Ok (record { present = present; last = s.last })

abbrev pub added : ℕ → List Lit → State → Option StepKind → Result State StepKind
added id clause s None = Ok (record { present = with_id id (Some clause) s.present; last = id })
added id clause s (Some kind) = Err kind

-- the state behind a step, or the step's fault
abbrev pub turn : State → ProofStep → Result State StepKind
turn s (Put id clause hints) =
    cond (nat_le id s.last) (Err OldId)
    (added id clause s (hints_fault s.present (marks_of clause) hints))
turn s (Delete ids) = deleted s (removed ids s.present)

-- ---- the whole

-- an addition of the empty clause
abbrev pub is_end : ProofStep → Bool
is_end (Put id clause hints) = is_nil clause
is_end (Delete ids) = false

-- the first refusal of steps that are numbered from n on, up to the first empty clause
abbrev pub refusal : ℕ → State → List ProofStep → Option VerifyFault
refusal n s [] = Some (Refused n NoEmpty)
refusal n s (step ∷ later) = elim (turn s step) [
  | Err kind ↦ Some (Refused n kind)
  | Ok next ↦ cond (is_end step) None (refusal (n + 1) next later)
]

abbrev pub start : List (List Lit) → State
start clauses = record { present = numbered clauses; last = length clauses }

-- the first refusal of a proof
abbrev pub first_refusal : List (List Lit) → List ProofStep → Option VerifyFault
first_refusal clauses steps = refusal 1 (start clauses) steps

abbrev pub Accepted : List (List Lit) → List ProofStep → Type 0
Accepted clauses steps = first_refusal clauses steps ≡ None
