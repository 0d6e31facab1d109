-- Marks at the places of the trail, and how many of them stand from a place on.
use Rattle.std.specs.Prelude.{◌≡◌, ℕ, zero, suc, ◌+◌, Bool, true, false, cond, List, [], ◌∷◌, slice_set, slice_index_or, Option, Some, None}
use Rattle.cnf_form.specs.declared.lit.Lit.{Lit}
use Rattle.cnf_form.specs.Lits.{same, is_in}
use Rattle.sat_core.specs.Trail.{place_of}

abbrev pub bit : Bool → ℕ
bit b = cond b 1 0

abbrev pub at : List Bool → ℕ → Bool
at xs k = slice_index_or xs k false

-- how many marks stand from a place on
abbrev pub open_from : ℕ → List Bool → ℕ
open_from zero [] = 0
open_from zero (x ∷ xs) = bit x + open_from zero xs
open_from (suc p) [] = 0
open_from (suc p) (x ∷ xs) = open_from p xs

-- with a mark at a place, where there is one
abbrev pub marked_at : Option ℕ → List Bool → List Bool
marked_at None xs = xs
marked_at (Some k) xs = slice_set xs k true

-- a literal is the one to be left out
abbrev pub skipped : Option Lit → Lit → Bool
skipped None x = false
skipped (Some l) x = same x l

-- what is marked once the literals of a clause were, but for one
pub record AreMarked (places : List (Option ℕ)) (ls : List Lit) (skip : Option Lit)
    (old new : List Bool) : Type 0 where
  pub kept : (k : ℕ) → at old k ≡ true → at new k ≡ true
  pub done :
      (x : Lit) (k : ℕ) → is_in x ls ≡ true → skipped skip x ≡ false → place_of places x ≡ Some k
      → at new k ≡ true
  pub only :
      (k : ℕ) → at new k ≡ true → at old k ≡ false
      → (x : Lit) × (is_in x ls ≡ true) × (skipped skip x ≡ false) × (place_of places x ≡ Some k)
