-- What is learnt from a conflict: the walk back along the trail, its clause, and the place to go back to.
use Rattle.std.specs.Prelude.{◌≡◌, ℕ, ◌+◌, ◌<◌, ◌≤◌, ℤ, Bool, true, false, List, length, None}
use Rattle.cnf_form.specs.declared.lit.Lit.{Lit}
use Rattle.cnf_form.specs.Lits.{turned, is_in, no_twice}
use Rattle.proof_check.specs.Check.{Clauses, hints_fault, numbered}
use Rattle.proof_check.specs.Spent.{is_linked, stands_in}
use Rattle.sat_core.specs.declared.lesson.Lesson.{Lesson}
use Rattle.sat_core.specs.declared.trail.Entry.{Entry}
use Rattle.sat_core.specs.Marks.{at}
use Rattle.sat_core.specs.Trail.{lit_at, reason_at, clause, IsFalseBy}

-- each literal of the clause is false, one of them from `from` on
pub record IsConflict (cs : List (List Lit)) (t : List Entry) (r from : ℕ) : Type 0 where
  pub here : r < length cs
  pub falses :
      (x : Lit) → is_in x (clause cs r) ≡ true → IsFalseBy (lit_at t) (length t) x
  pub late : Lit
  pub place : ℕ
  pub late_in : is_in late (clause cs r) ≡ true
  pub late_is : late ≡ turned (lit_at t place)
  pub late_low : from ≤ place
  pub late_high : place < length t

-- ---- the walk

-- the literals that are marked are false
abbrev pub Covers : (ℕ → Lit) → (ℕ → Bool) → ℕ → (Lit → Bool) → Type 0
Covers lit seen i falses = (k : ℕ) → k < i → seen k ≡ true → falses (turned (lit k)) ≡ true

-- what is false is false by the trail before i
abbrev pub IsFrom : (ℕ → Lit) → ℕ → (Lit → Bool) → Type 0
IsFrom lit i falses = (x : Lit) → falses x ≡ true → IsFalseBy lit i x

-- the hints lead to a conflict, and each serves it
pub record IsGood (present : Clauses) (falses : Lit → Bool) (hints : List ℤ) : Type 0 where
  pub accepted : hints_fault present falses hints ≡ None
  pub linked : is_linked present falses hints ≡ true

-- wherever the marked literals before i are false, these hints are good
abbrev pub Leads : Clauses → (ℕ → Lit) → (ℕ → Bool) → ℕ → List ℤ → Type 0
Leads present lit seen i hints =
    (falses : Lit → Bool) → Covers lit seen i falses → IsFrom lit i falses
    → IsGood present falses hints

-- the walk back stops at the one marked place from `from` on
pub record HasWalked (cs : List (List Lit)) (t : List Entry) (from stop : ℕ)
    (seen : List Bool) (hints : List ℤ) : Type 0 where
  pub leads : Leads (numbered cs) (lit_at t) (at seen) (stop + 1) hints
  pub stand :
      (k : ℕ) → at seen k ≡ true → stands_in (numbered cs) hints (turned (lit_at t k)) ≡ true
  pub low : from ≤ stop
  pub high : stop < length t
  pub here : at seen stop ≡ true
  pub alone : (k : ℕ) → from ≤ k → (k ≡ stop → ⊥) → at seen k ≡ false

-- ---- the clause

-- the negations of the marked literals before n
pub record IsPart (t : List Entry) (n : ℕ) (seen : List Bool) (c : List Lit) : Type 0 where
  pub from :
      (x : Lit) → is_in x c ≡ true
      → (k : ℕ) × (k < n) × (x ≡ turned (lit_at t k)) × (at seen k ≡ true)
  pub all : (k : ℕ) → k < n → at seen k ≡ true → is_in (turned (lit_at t k)) c ≡ true
  pub once : no_twice c ≡ true

-- ---- the return

-- the place to go back to: a decision, after which no literal of the clause was set but the one at the stop
pub record IsCut (t : List Entry) (seen : List Bool) (from cut : ℕ) : Type 0 where
  pub low : cut ≤ from
  pub decided : reason_at t cut ≡ None
  pub clear : (k : ℕ) → cut ≤ k → k < from → at seen k ≡ false
  pub least :
      (i : ℕ) → i < cut → reason_at t i ≡ None
      → (k : ℕ) × (i ≤ k) × (k < from) × (at seen k ≡ true)

-- all entries follow
abbrev pub HasNoDecision : List Entry → Type 0
HasNoDecision t = (k : ℕ) → k < length t → reason_at t k ≡ None → ⊥

-- no decision stands behind this one
pub record IsLastDecision (t : List Entry) (from : ℕ) : Type 0 where
  pub inside : from < length t
  pub decided : reason_at t from ≡ None
  pub last : (k : ℕ) → from < k → k < length t → reason_at t k ≡ None → ⊥

-- the clause that is learnt from a conflict, its hints, the literal that it sets, and the place to go back to
pub record IsLesson (cs : List (List Lit)) (t : List Entry) (from : ℕ)
    (lesson : Lesson) : Type 0 where
  pub stop : ℕ
  pub seen : List Bool
  pub walked : HasWalked cs t from stop seen lesson.hints
  pub part : IsPart t (stop + 1) seen lesson.clause
  pub cutting : IsCut t seen from lesson.cut
  pub lit_is : lesson.lit ≡ turned (lit_at t stop)
