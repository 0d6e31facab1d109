-- The steps of the loops over a clause and over hints.
use Rattle.std.proofs.Common.{◌≡◌, ℕ, ◌+◌, ◌<◌, ◌≤◌, ℤ, pos, length, take, drop, get_or, Bool, true, false, List, [], ◌∷◌, Option, Some, None, Ok, Err, refl, ◌∙◌}
use Rattle.std.proofs.lemmas.List.{take_more, at_drop_more, at_drop_all}
use Rattle.cnf_form.specs.declared.lit.Lit.{Lit}
use Rattle.cnf_form.specs.Lines.{is_nil}
use Rattle.cnf_form.specs.Lits.{turned}
use Rattle.cnf_form.specs.Marks.{with_mark, marks_of}
use Rattle.cnf_form.proofs.MarkFacts.{marks_of_push}
use Rattle.proof_check.specs.declared.step.StepKind.{StepKind}
use Rattle.proof_check.specs.Check.{Clauses, named, open_lits, sole, closed, hints_fault}

-- ---- a clause

pub open_marked : (falses : Lit → Bool) (ls : List Lit) (i : ℕ) (d : Lit) → i < length ls → falses (get_or ls i d) ≡ true → open_lits falses (drop i ls) ≡ open_lits falses (drop (i + 1) ls)
open_marked falses ls i d h e = at_drop_more (open_lits falses) ls i d h ∙ rw e refl

pub open_unmarked : (falses : Lit → Bool) (ls : List Lit) (i : ℕ) (d : Lit) → i < length ls → falses (get_or ls i d) ≡ false → open_lits falses (drop i ls) ≡ get_or ls i d ∷ open_lits falses (drop (i + 1) ls)
open_unmarked falses ls i d h e = at_drop_more (open_lits falses) ls i d h ∙ rw e refl

pub open_end : (falses : Lit → Bool) (ls : List Lit) (i : ℕ) → length ls ≤ i → open_lits falses (drop i ls) ≡ []
open_end falses ls i h = at_drop_all (open_lits falses) ls i h

pub ruleset opens = (open_marked, open_unmarked, open_end)

-- what was found, at the front
abbrev pub behind : Option Lit → List Lit → List Lit
behind None ls = ls
behind (Some l) ls = l ∷ ls

-- ---- the literals of a clause, one by one

pub marks_of_more : (ls : List Lit) (i : ℕ) (d : Lit) → i < length ls → marks_of (take (i + 1) ls) ≡ with_mark (get_or ls i d) (marks_of (take i ls))
marks_of_more ls i d h = rw (take_more ls i d h) (marks_of_push (take i ls) (get_or ls i d))

-- ---- hints

is_nil_drop : (hs : List ℤ) (n : ℕ) → n < length hs → is_nil (drop n hs) ≡ false
is_nil_drop hs n h = at_drop_more is_nil hs n (pos 0) h

is_nil_end : (hs : List ℤ) (n : ℕ) → length hs ≤ n → is_nil (drop n hs) ≡ true
is_nil_end hs n h = at_drop_all is_nil hs n h

module _ (present : Clauses) (falses : Lit → Bool) (hints : List ℤ) (i : ℕ) (lt : i < length hints) where
  pub hint_bad : (h : ℤ) (kind : StepKind) → h ≡ get_or hints i h → named present h ≡ Err kind → hints_fault present falses (drop i hints) ≡ Some kind
  hint_bad h kind eh en = at_drop_more (hints_fault present falses) hints i h lt ∙ rw (← eh, en) refl

  pub hint_last : (h : ℤ) (c : List Lit) → h ≡ get_or hints i h → named present h ≡ Ok c → length hints ≤ i + 1 → hints_fault present falses (drop i hints) ≡ closed (open_lits falses c)
  hint_last h c eh en le = at_drop_more (hints_fault present falses) hints i h lt ∙ rw (← eh, en, is_nil_end hints (i + 1) le) refl

  pub hint_refused : (h : ℤ) (c : List Lit) (kind : StepKind) → h ≡ get_or hints i h → named present h ≡ Ok c → i + 1 < length hints → sole falses (open_lits falses c) ≡ Err kind → hints_fault present falses (drop i hints) ≡ Some kind
  hint_refused h c kind eh en more es = at_drop_more (hints_fault present falses) hints i h lt ∙ rw (← eh, en, is_nil_drop hints (i + 1) more, es) refl

  pub hint_more : (h : ℤ) (c : List Lit) (l : Lit) → h ≡ get_or hints i h → named present h ≡ Ok c → i + 1 < length hints → sole falses (open_lits falses c) ≡ Ok l
      → hints_fault present falses (drop i hints) ≡ hints_fault present (with_mark (turned l) falses) (drop (i + 1) hints)
  hint_more h c l eh en more es = at_drop_more (hints_fault present falses) hints i h lt ∙ rw (← eh, en, is_nil_drop hints (i + 1) more, es) refl
