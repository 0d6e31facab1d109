-- Names that the reader keeps, for its own functions.
use Rattle.std.specs.Prelude.{◌≡◌, ℕ, Bool, true, false, ◌||◌, List, [], ◌∷◌, ◌++◌, map}
use Rattle.std.specs.BTreeSet.{BTreeSet, contains_by}
use Rattle.std.specs.Cmp.Lexicographic.{slice_cmp}
use Rattle.std.specs.Global.{Vec}
use Rattle.std.specs.Ordering.{nat_cmp}
use Rattle.std.specs.Str.{bytes_eq}
use Rattle.suite_file.specs.Records.{Text}
use Rattle.suite_file.specs.Tables.{Numbering, number_of}

-- a table finds what these entries have, the first of a name
abbrev pub IsTableOf : Numbering → Numbering → Type 0
IsTableOf entries table = (name : Text) → number_of table name ≡ number_of entries name

-- a name goes last with its number where it is new, and else the table stays
abbrev pub Adds : Bool → Numbering → Numbering → Text → ℕ → Type 0
Adds true old new name number = new ≡ old ++ (name, number) ∷ []
Adds false old new name number = new ≡ old

-- what a map holds, as a table
abbrev pub entries_seen : List (Vec ℕ × ℕ) → Numbering
entries_seen entries = map (λ entry. (entry.0.items, entry.1)) entries

-- a set has a name, byte by byte
abbrev pub holds : BTreeSet (Vec ℕ) → Text → Bool
holds names name = contains_by (λ key. slice_cmp nat_cmp name key.items) names

-- a set has one name more, or had it already
pub record Keeps (old new : BTreeSet (Vec ℕ)) (name : Text) : Type 0 where
  pub keeps : (other : Text) → holds new other ≡ (bytes_eq other name || holds old other)
