-- The names of the tests, as the table keeps them, for its own functions.
use Rattle.std.specs.Prelude.{ℕ, Bool, List}
use Rattle.std.specs.BTreeSet.{BTreeSet, contains_by}
use Rattle.std.specs.Cmp.Lexicographic.{slice_cmp}
use Rattle.std.specs.Global.{Vec}
use Rattle.std.specs.Ordering.{nat_cmp}

-- a set has a name, byte by byte
abbrev pub holds : BTreeSet (Vec ℕ) → List ℕ → Bool
holds names name = contains_by (λ key. slice_cmp nat_cmp name key.items) names
