-- What a maker's formula is, and what a call makes of it.
use Rattle.std.specs.Prelude.{◌≡◌, ℕ, ◌<◌, ◌≤◌, ◌+◌, ◌*◌, ◌++◌, length, List, ◌∷◌, [], Some, Result, Err, slice_get, All}
use Rattle.cnf_form.specs.declared.lit.Lit.{Lit}
use Rattle.cnf_form.specs.Limits.{most_vars}
use Rattle.cnf_form.specs.Shape.{Shape, shape}
use Rattle.bit_blast.specs.declared.fault.BlastFault.{BlastFault}
use Rattle.bit_blast.specs.declared.gate.Gate.{Gate}
use Rattle.bit_blast.specs.declared.gate.Gate.TheVariants as gate
use Rattle.bit_blast.specs.Circuit.{Entry, Free, And, Or, Xor, Ite, Require, yes, after, with_entries, Circuit}
use Rattle.bit_blast.specs.Limits.{most_required, clauses_per_var}

-- ---- a maker's formula

-- the first clause says that variable 0 is true
abbrev pub HasYes : List (List Lit) → Type 0
HasYes clauses = slice_get clauses 0 ≡ Some (yes 0 ∷ [])

-- at most 100,000,000 clauses and 16 for each variable, variable 0 is true, and at most 2,000,000
-- variables
abbrev pub IsMade : Shape → Type 0
IsMade f =
    (length f.clauses ≤ most_required + clauses_per_var * f.vars)
    × (0 < f.vars) × HasYes f.clauses × (f.vars ≤ most_vars)

-- variable 0 alone, which is true
abbrev pub first_formula : Shape
first_formula = with_entries (shape 0 []) (Free ∷ Require (yes 0 ∷ []) ∷ [])

-- the literals of a word are of variables below n
abbrev pub IsBelow : ℕ → List Lit → Type 0
IsBelow n a = All (λ (l : Lit). l.var < n) a

-- ---- calls

-- A call made a circuit: the formula has its entries, and the result is the circuit's.
pub record Makes (R : Type 0) (old new : Shape) (circuit : Circuit R) (result : R) : Type 0 where
  pub made : new ≡ with_entries old circuit.entries
  pub gives : result ≡ circuit.result

-- a call made a circuit that is given from the next variable, and answered its result
abbrev pub Adds : {R : Type 0} → Shape → Shape → (ℕ → Circuit R) → R → Type 0
Adds {R} old new circuit result = Makes R old new (circuit old.vars) result

-- where a call answers that the formula is full
abbrev pub IfFull : {R : Type 0} → Result R BlastFault → Type 0 → Type 0
IfFull result P = result ≡ Err BlastFault.Full → P

-- with a circuit the variables would pass 2,000,000
abbrev pub Overfills : {R : Type 0} → Shape → (ℕ → Circuit R) → Type 0
Overfills f circuit = most_vars < after f.vars (circuit f.vars).entries

-- ---- one gate

abbrev pub entry_of : Gate → Entry
entry_of (gate.And a b) = And a b
entry_of (gate.Or a b) = Or a b
entry_of (gate.Xor a b) = Xor a b
entry_of (gate.Ite c a b) = Ite c a b

-- a formula with some first ones of the clauses
pub record AddsSome (f g : Shape) (clauses : List (List Lit)) : Type 0 where
  pub some : List (List Lit)
  pub rest : List (List Lit)
  pub all : some ++ rest ≡ clauses
  pub is : g ≡ shape f.vars (f.clauses ++ some)
