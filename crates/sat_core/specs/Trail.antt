-- The trail of a solver: the literals that it set true, the oldest first.
use Rattle.std.specs.Prelude.{◌≡◌, ℕ, ◌<◌, ◌≢◌, Bool, true, false, List, [], ◌++◌, map, take, slice_index_or, length, Option, Some, None}
use Rattle.std.specs.List.{AllByRecursion}
use Rattle.cnf_form.specs.declared.lit.Lit.{Lit}
use Rattle.cnf_form.specs.Lits.{same, turned, is_in, no_twice, below}
use Rattle.cnf_form.specs.Marks.{marks_of}
use Rattle.proof_check.specs.declared.step.ProofStep.{ProofStep}
use Rattle.proof_check.specs.declared.step.ProofStep.TheVariants.{Put, Delete}
use Rattle.proof_check.specs.Check.{open_lits}
use Rattle.proof_check.specs.Spent.{IsIdle}
use Rattle.sat_core.specs.declared.trail.Entry.{Entry}

abbrev pub no_entry : Entry
no_entry = record { lit = record { var = 0; positive = false }; reason = None }

abbrev pub lit_at : List Entry → ℕ → Lit
lit_at t k = (slice_index_or t k no_entry).lit

abbrev pub reason_at : List Entry → ℕ → Option ℕ
reason_at t k = (slice_index_or t k no_entry).reason

abbrev pub lits : List Entry → List Lit
lits t = map (λ (e : Entry). e.lit) t

-- ---- clauses

abbrev pub put_clause : ProofStep → List Lit
put_clause (Put id clause hints) = clause
put_clause (Delete ids) = []

-- the clauses of the formula and then those of the log
abbrev pub clauses_of : List (List Lit) → List ProofStep → List (List Lit)
clauses_of formula log = formula ++ map put_clause log

abbrev pub clause : List (List Lit) → ℕ → List Lit
clause cs r = slice_index_or cs r []

-- the clauses have no literal twice and no variable past the last
pub record IsWell (vars : ℕ) (cs : List (List Lit)) : Type 0 where
  pub once : (r : ℕ) → r < length cs → no_twice (clause cs r) ≡ true
  pub inside : (r : ℕ) → r < length cs → below vars (clause cs r) ≡ true

-- a literal is false where these are true
abbrev pub is_false : List Lit → Lit → Bool
is_false trues x = is_in (turned x) trues

-- propagation from these literals does nothing at all clauses
abbrev pub AreIdle : List Lit → List (List Lit) → Type 0
AreIdle trues cs = AllByRecursion (IsIdle (marks_of trues)) cs

-- all literals of the clause at a place are false
pub record IsClosed (cs : List (List Lit)) (trues : List Lit) (r : ℕ) : Type 0 where
  pub here : r < length cs
  pub none : open_lits (is_false trues) (clause cs r) ≡ []

-- ---- the trail

-- no two entries have one variable
abbrev pub Apart : (ℕ → Lit) → ℕ → Type 0
Apart lit n = (i k : ℕ) → i < n → k < i → (lit k).var ≢ (lit i).var

-- a literal that is false by the trail before n
abbrev pub IsFalseBy : (ℕ → Lit) → ℕ → Lit → Type 0
IsFalseBy lit n x = (k : ℕ) × (k < n) × (x ≡ turned (lit k))

-- the literal follows from the clause r where the first i entries stand
pub record IsReason (cs : List (List Lit)) (lit : ℕ → Lit) (i : ℕ) (l : Lit) (r : ℕ) : Type 0 where
  pub inside : r < length cs
  pub there : is_in l (clause cs r) ≡ true
  pub others :
      (x : Lit) → is_in x (clause cs r) ≡ true → same x l ≡ false → IsFalseBy lit i x

-- Each literal is of a variable of its own, and follows from its reason. Before each decision propagation was complete.
pub record IsTrail (vars : ℕ) (cs : List (List Lit)) (t : List Entry) : Type 0 where
  pub within : (k : ℕ) → k < length t → (lit_at t k).var < vars
  pub apart : Apart (lit_at t) (length t)
  pub reasons :
      (i r : ℕ) → i < length t → reason_at t i ≡ Some r → IsReason cs (lit_at t) i (lit_at t i) r
  pub complete :
      (i : ℕ) → i < length t → reason_at t i ≡ None → AreIdle (lits (take i t)) cs

abbrev pub place_of : List (Option ℕ) → Lit → Option ℕ
place_of places x = slice_index_or places x.var None

-- the place of each variable in the trail
pub record IsPlaced (vars : ℕ) (t : List Entry) (places : List (Option ℕ)) : Type 0 where
  pub long : length places ≡ vars
  pub to :
      (x : Lit) (k : ℕ) → place_of places x ≡ Some k → (k < length t) × ((lit_at t k).var ≡ x.var)
  pub from : (k : ℕ) → k < length t → place_of places (lit_at t k) ≡ Some k
