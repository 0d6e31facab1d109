-- The values of a circuit's variables under an assignment.
use Rattle.std.specs.Prelude.{◌≡◌, ℕ, Bool, true, ◌&&◌, ◌||◌, cond, List, [], ◌∷◌, nat_eq}
use Rattle.cnf_form.specs.Lits.{truth, holds}
use Rattle.bit_blast.specs.Circuit.{Entry, Free, And, Or, Xor, Ite, Require, behind}
use Rattle.bit_blast.specs.Meaning.{differ, ReadsBelow}

-- the value of an entry's variable; a free one keeps its value
abbrev pub value_of : (ℕ → Bool) → ℕ → Entry → Bool
value_of v n Free = v n
value_of v n (And a b) = truth v a && truth v b
value_of v n (Or a b) = truth v a || truth v b
value_of v n (Xor a b) = differ (truth v a) (truth v b)
value_of v n (Ite c a b) = cond (truth v c) (truth v a) (truth v b)
value_of v n (Require c) = v n

-- each gate's variable has the gate's value
abbrev pub Obeys : (ℕ → Bool) → ℕ → List Entry → Type 0
Obeys v n [] = Unit {0}
Obeys v n (e ∷ es) = (v n ≡ value_of v n e) × Obeys v (behind n e) es

-- each required clause has a true literal
abbrev pub Meets : (ℕ → Bool) → List Entry → Type 0
Meets v [] = Unit {0}
Meets v (Require c ∷ es) = (holds v c ≡ true) × Meets v es
Meets v (Free ∷ es) = Meets v es
Meets v (And a b ∷ es) = Meets v es
Meets v (Or a b ∷ es) = Meets v es
Meets v (Xor a b ∷ es) = Meets v es
Meets v (Ite c a b ∷ es) = Meets v es

-- an assignment with the value of one variable set
abbrev pub assign : (ℕ → Bool) → ℕ → Bool → ℕ → Bool
assign v n b k = cond (nat_eq k n) b (v k)

-- the assignment in which each gate's variable has the gate's value, in turn
abbrev pub extend : (ℕ → Bool) → ℕ → List Entry → ℕ → Bool
extend v n [] = v
extend v n (e ∷ es) = extend (assign v n (value_of v n e)) (behind n e) es

-- each entry reads variables that stand before its own
abbrev pub IsOrdered : ℕ → List Entry → Type 0
IsOrdered n [] = Unit {0}
IsOrdered n (e ∷ es) = ReadsBelow n e × IsOrdered (behind n e) es

-- a free variable or a gate
abbrev pub IsGate : Entry → Type 0
IsGate Free = Unit {0}
IsGate (And a b) = Unit {0}
IsGate (Or a b) = Unit {0}
IsGate (Xor a b) = Unit {0}
IsGate (Ite c a b) = Unit {0}
IsGate (Require c) = ⊥

-- gates alone, each of which reads variables that stand before its own
abbrev pub AreGates : ℕ → List Entry → Type 0
AreGates n [] = Unit {0}
AreGates n (e ∷ es) = IsGate e × ReadsBelow n e × AreGates (behind n e) es
