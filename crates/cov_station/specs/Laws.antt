-- What a chain determines, and what `verify` shows.
use Rattle.std.specs.Prelude.{◌≡◌, ◌≤◌, ◌⊎◌, ℕ, Bool, List, Option, Result, Ok}
use Rattle.std.specs.Result.{IsErrAnd}
use Rattle.cnf_form.specs.Dimacs.{formula_of}
use Rattle.cnf_form.specs.Shape.{IsUnsatisfiable, Shape}
use Rattle.cov_base.specs.Files.{Files}
use Rattle.dep_paths.specs.Duties.{Planned}
use Rattle.lus_types.specs.Names.{Name}
use Rattle.op_network.specs.declared.limits.TheConstants.{LEAST_WIDTH, MOST_WIDTH}
use Rattle.op_network.specs.declared.test.Test.{Test}
use Rattle.cov_station.specs.declared.refusal.Refusal.{Refusal}
use Rattle.cov_station.specs.declared.refusal.Refusal.TheVariants.{CannotRead}
use Rattle.cov_station.specs.Files.{HasFile}
use Rattle.cov_station.specs.RunText.{RunText}
use Rattle.cov_station.specs.ScoreText.{ScoreText}
use Rattle.cov_station.specs.Sources.{Compiles, Source}

-- a file could not be read
abbrev pub IsReadFault : Refusal → Type 0
IsReadFault (CannotRead name) = Unit {0}
IsReadFault _ = ⊥

-- two answers are the same, unless one is that a file could not be read
abbrev pub Agree : {A : Type 0} → Result A Refusal → Result A Refusal → Type 0
Agree a b = IsErrAnd a IsReadFault ⊎ (IsErrAnd b IsReadFault ⊎ (a ≡ b))

-- a source that compiles has one text of `run` over tests
abbrev pub HasOneRunText : Type 0
HasOneRunText =
    (text : List ℕ) (width : ℕ) (main : Option Name) (source : Source) → LEAST_WIDTH ≤ width → width ≤ MOST_WIDTH
    → Compiles text width main (Ok source)
    → (tests : List Test) (a b : List ℕ) → RunText source tests a → RunText source tests b → a ≡ b

-- and one text of `score` over a plan and tests, as JSON or not
abbrev pub HasOneScoreText : Type 0
HasOneScoreText =
    (text : List ℕ) (width : ℕ) (main : Option Name) (source : Source) → LEAST_WIDTH ≤ width → width ≤ MOST_WIDTH
    → Compiles text width main (Ok source)
    → (plan : Planned) (tests : List Test) (json : Bool) (a b : List ℕ)
    → ScoreText source plan tests json a → ScoreText source plan tests json b → a ≡ b

-- the file holds a formula that no assignment satisfies
pub record HoldsUnsatisfiable (files : Option Files) (name : Name) : Type 0 where
  pub text : List ℕ
  pub held : HasFile files name text
  pub formula : Shape
  pub is : formula_of text ≡ Ok formula
  pub unsatisfiable : IsUnsatisfiable formula
