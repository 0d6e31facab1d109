-- The proof of a text in LRAT, or its first fault.
use Rattle.std.specs.Prelude.{◌≡◌, ◌⊎◌, ℕ, ℤ, pos, ◌-ℤ◌, ◌+◌, ◌==◌, nat_lt, cond, List, [], ◌∷◌, ◌++◌, codes, Option, Some, None, Result, Ok, Err}
use Rattle.std.specs.Str.{bytes_eq}
use Rattle.cnf_form.specs.declared.lit.Lit.{Lit}
use Rattle.cnf_form.specs.declared.number.Number.{Number}
use Rattle.cnf_form.specs.Dimacs.{lit_of}
use Rattle.cnf_form.specs.Limits.{most_vars}
use Rattle.cnf_form.specs.Lines.{Text, and_then, is_skipped, lines, words}
use Rattle.cnf_form.specs.Lits.{with_lit}
use Rattle.cnf_form.specs.Numbers.{number_of, natural_of}
use Rattle.proof_check.specs.declared.lrat.LratFault.{LratFault}
use Rattle.proof_check.specs.declared.lrat.LratFault.TheVariants.{Bad, Memory}
use Rattle.proof_check.specs.declared.lrat.LratKind.TheVariants.{BadWord, NoZero, Extra}
use Rattle.proof_check.specs.declared.step.ProofStep.{ProofStep}
use Rattle.proof_check.specs.declared.step.ProofStep.TheVariants.{Put, Delete}

-- ---- what words name

-- a number of at least 1
abbrev pub nonzero : Option ℕ → Option ℕ
nonzero None = None
nonzero (Some n) = cond (n == 0) None (Some n)

-- an id: 1 to 4,294,967,295
abbrev pub id_of : Text → Option ℕ
id_of word = nonzero (natural_of word)

-- ---- a list up to its 0

-- what has been read of a line, and the words behind it
pub record Listed (A : Type 0) : Type 0 where
  pub items : List A
  pub rest : List Text

-- one more item, at the end
abbrev pub at_end : {A : Type 0} → A → List A → List A
at_end x xs = xs ++ x ∷ []

-- the items behind those found, up to the 0; `item` is what a nonzero number is, and `add` adds it
abbrev pub listed : {A : Type 0} → (Number → Option A) → (A → List A → List A) → ℕ → List A → List Text → Result (Listed A) LratFault
listed item add line found [] = Err (Bad line NoZero)
listed item add line found (word ∷ later) = elim (number_of word) [
  | None ↦ Err (Bad line BadWord)
  | Some n ↦ cond (n.size == 0) (Ok (record { items = found; rest = later }))
      (elim (item n) [ None ↦ Err (Bad line BadWord) | Some x ↦ listed item add line (add x found) later ])
]

-- a literal's size is at most 2,000,000
abbrev pub as_lit : Number → Option Lit
as_lit n = cond (nat_lt most_vars n.size) None (Some (lit_of n))

-- a hint may be negative
abbrev pub as_hint : Number → Option ℤ
as_hint n = Some (cond n.negative (pos 0 -ℤ pos n.size) (pos n.size))

-- an id may not
abbrev pub as_id : Number → Option ℕ
as_id n = cond n.negative None (Some n.size)

-- ---- a step

abbrev pub ended : ℕ → ProofStep → List Text → Result ProofStep LratFault
ended line step [] = Ok step
ended line step (word ∷ later) = Err (Bad line Extra)

-- `lits 0 hints 0`
abbrev pub addition : ℕ → ℕ → List Text → Result ProofStep LratFault
addition line id text =
    and_then (λ c.
    and_then (λ h. ended line (Put id c.items h.items) h.rest) (listed as_hint at_end line [] c.rest))
    (listed as_lit with_lit line [] text)

-- `ids 0`
abbrev pub deletion : ℕ → List Text → Result ProofStep LratFault
deletion line text =
    and_then (λ f. ended line (Delete f.items) f.rest) (listed as_id at_end line [] text)

-- what stands behind the id
abbrev pub behind_id : ℕ → ℕ → List Text → Result ProofStep LratFault
behind_id line id [] = addition line id []
behind_id line id (word ∷ later) =
    cond (bytes_eq word (codes "d")) (deletion line later) (addition line id (word ∷ later))

abbrev pub with_id : ℕ → Option ℕ → List Text → Result ProofStep LratFault
with_id line None later = Err (Bad line BadWord)
with_id line (Some id) later = behind_id line id later

-- `id lits 0 hints 0`, or `id d ids 0`
abbrev pub step_of : ℕ → List Text → Result ProofStep LratFault
step_of line [] = Err (Bad line NoZero)
step_of line (word ∷ later) = with_id line (id_of word) later

-- ---- the whole

-- the steps of lines behind so many, after those that are given
abbrev pub steps_from : ℕ → List ProofStep → List Text → Result (List ProofStep) LratFault
steps_from number steps [] = Ok steps
steps_from number steps (line ∷ later) = cond (is_skipped line)
    (steps_from (number + 1) steps later)
    (and_then
    (λ step. steps_from (number + 1) (steps ++ step ∷ []) later)
    (step_of (number + 1) (words line)))

abbrev pub proof_of : Text → Result (List ProofStep) LratFault
proof_of text = steps_from 0 [] (lines text)

-- ---- what the reader answers

-- these items are listed, and behind them stand the words of this text
abbrev pub Lists : {A : Type 0} → Result (Listed A) LratFault → List A → Text → Type 0
Lists read items rest = read ≡ Ok (record { items = items; rest = words rest })

-- want of memory, or the fault of what is read
abbrev pub IsFaultOf : {A : Type 0} → Result A LratFault → LratFault → Type 0
IsFaultOf read fault = (fault ≡ Memory) ⊎ (read ≡ Err fault)
