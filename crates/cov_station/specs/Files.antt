-- Reading files.
use Rattle.std.specs.Prelude.{◌≡◌, ℕ, ◌<◌, ◌≤◌, List, length, Option, Some, IfSome, Result, Ok, Err}
use Rattle.cov_base.specs.Files.{Files, Counts, Lacks, OnlyMissingRose, OnlyReadsRose}
use Rattle.cov_station.specs.declared.refusal.Quantity.TheVariants.{Bytes}
use Rattle.cov_station.specs.declared.refusal.Refusal.{Refusal}
use Rattle.cov_station.specs.declared.refusal.Refusal.TheVariants.{NoFile, CannotRead, OverLimit, Memory}

-- the store has these bytes under the name, where it tells its files
abbrev pub HasFile : Option Files → List ℕ → List ℕ → Type 0
HasFile files name bytes = IfSome files (λ told. told name ≡ Some bytes)

-- a file of at most so many bytes is read
pub data Reads (files : Option Files) (name : List ℕ) (most : ℕ) : Result (List ℕ) Refusal → Type 0 where
  reads_whole : (bytes : List ℕ) → HasFile files name bytes → length bytes ≤ most → Reads files name most (Ok bytes)
  lacks_file : Lacks files name → Reads files name most (Err (NoFile name))
  fails_to_read : Reads files name most (Err (CannotRead name))
  is_too_long : (bytes : List ℕ) → HasFile files name bytes → most < length bytes → Reads files name most (Err (OverLimit Bytes most))

-- The counts of the store, which rose only where a file is missing or could not be read; at want of memory
-- they are open.
abbrev pub CountedFor : Refusal → Counts → Counts → Type 0
CountedFor (NoFile name) old new = OnlyMissingRose old new
CountedFor (CannotRead name) old new = OnlyReadsRose old new
CountedFor Memory old new = Unit {0}
CountedFor _ old new = new ≡ old

abbrev pub Counted : {A : Type 0} → Result A Refusal → Counts → Counts → Type 0
Counted (Ok a) old new = new ≡ old
Counted (Err why) old new = CountedFor why old new
