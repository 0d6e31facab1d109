-- What a sink took.
use Rattle.std.specs.Prelude.{◌≡◌, ℕ, ◌<◌, List, ◌++◌, length, take, Option, Some, IfSome, is_some}
use Rattle.cov_base.specs.Files.{Rose}

-- where the sink tells its bytes, they are those before and these
abbrev pub Appends : Option (List ℕ) → List ℕ → Option (List ℕ) → Type 0
Appends old bytes new = IfSome old (λ written. new ≡ Some (written ++ bytes))

-- the sink tells its bytes now if it did before, and only then
abbrev pub SameTold : Option (List ℕ) → Option (List ℕ) → Type 0
SameTold old new = is_some new ≡ is_some old

-- a front of these bytes, and not all, was put, and the count of faults rose
pub record BreaksOff (old new : Option (List ℕ)) (faults faults' : ℕ) (bytes : List ℕ) : Type 0 where
  pub put : ℕ
  pub short : put < length bytes
  pub front : Appends old (take put bytes) new
  pub rose : Rose faults faults'
