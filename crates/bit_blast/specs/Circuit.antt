-- Circuits: what is added to a formula, one entry after the other.
use Rattle.std.specs.Prelude.{ℕ, suc, true, false, List, [], ◌∷◌, ◌++◌}
use Rattle.cnf_form.specs.declared.lit.Lit.{Lit}
use Rattle.cnf_form.specs.Lits.{turned, with_lit}
use Rattle.cnf_form.specs.Shape.{Shape}

-- An entry is a free variable, a gate, or a clause that is required. A free variable and a gate take
-- the next variable; that of a gate is its result.
pub data Entry : Type 0 where
  Free : Entry
  And : Lit → Lit → Entry
  Or : Lit → Lit → Entry
  Xor : Lit → Lit → Entry
  Ite : Lit → Lit → Lit → Entry
  Require : List Lit → Entry

-- the literal of a variable, and its negation
abbrev pub yes : ℕ → Lit
yes v = record { var = v; positive = true }

abbrev pub no : ℕ → Lit
no v = record { var = v; positive = false }

-- literals that are kept, and then those of a list that aren't among them, each once
abbrev pub once_after : List Lit → List Lit → List Lit
once_after kept [] = kept
once_after kept (l ∷ ls) = once_after (with_lit l kept) ls

-- each literal of a list once
unfoldable pub once : List Lit → List Lit
once ls = once_after [] ls

-- the clause of two literals, and that of three
abbrev pub two : Lit → Lit → List Lit
two a b = once (a ∷ b ∷ [])

abbrev pub three : Lit → Lit → Lit → List Lit
three a b c = once (a ∷ b ∷ c ∷ [])

-- the clauses of an entry whose variable is v
abbrev pub clauses_of : ℕ → Entry → List (List Lit)
clauses_of v Free = []
clauses_of v (And a b) = two (no v) a ∷ two (no v) b ∷ three (yes v) (turned a) (turned b) ∷ []
clauses_of v (Or a b) = two (yes v) (turned a) ∷ two (yes v) (turned b) ∷ three (no v) a b ∷ []
clauses_of v (Xor a b) =
    three (no v) a b ∷ three (no v) (turned a) (turned b)
    ∷ three (yes v) (turned a) b ∷ three (yes v) a (turned b) ∷ []
clauses_of v (Ite c a b) =
    three (no v) (turned c) a ∷ three (yes v) (turned c) (turned a)
    ∷ three (no v) c b ∷ three (yes v) c (turned b) ∷ []
clauses_of v (Require c) = c ∷ []

-- the next variable behind an entry
abbrev pub behind : ℕ → Entry → ℕ
behind n (Require c) = n
behind n Free = suc n
behind n (And a b) = suc n
behind n (Or a b) = suc n
behind n (Xor a b) = suc n
behind n (Ite c a b) = suc n

-- a formula with one entry more
abbrev pub with_entry : Shape → Entry → Shape
with_entry f e = record { vars = behind f.vars e; clauses = f.clauses ++ clauses_of f.vars e }

-- a formula with the entries of a circuit
abbrev pub with_entries : Shape → List Entry → Shape
with_entries f [] = f
with_entries f (e ∷ es) = with_entries (with_entry f e) es

-- the next variable behind the entries of a circuit
abbrev pub after : ℕ → List Entry → ℕ
after n [] = n
after n (e ∷ es) = after (behind n e) es

-- the entries of a circuit, and the literals of its result
pub record Circuit (R : Type 0) : Type 0 where
  pub entries : List Entry
  pub result : R
