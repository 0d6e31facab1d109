-- What a store's files are, what its calls do to them, and how its counts go.
use Rattle.std.specs.Prelude.{◌≡◌, ◌≢◌, ℕ, ◌+◌, ◌<◌, ◌≤◌, ◌⊎◌, List, ◌++◌, take, Option, Some, None, IfSome}

-- the bytes under each name
abbrev pub Files : Type 0
Files = List ℕ → Option (List ℕ)

-- where the files are told, none has this name
abbrev pub Lacks : Option Files → List ℕ → Type 0
Lacks files name = IfSome files (λ told. told name ≡ None)

-- the first bytes of a file were added, at most one more than max; where the files are told, it has this name
pub record Reads (files : Option Files) (name : List ℕ) (max : ℕ) (old new : List ℕ) : Type 0 where
  pub bytes : List ℕ
  pub held : IfSome files (λ told. told name ≡ Some bytes)
  pub added : new ≡ old ++ take (max + 1) bytes

-- each file but this one is as before
abbrev pub KeepsOthers : List ℕ → Files → Files → Type 0
KeepsOthers name old new = (other : List ℕ) → other ≢ name → new other ≡ old other

-- the file holds these bytes now, and each other is as before
pub record Writes (name bytes : List ℕ) (old new : Files) : Type 0 where
  pub written : new name ≡ Some bytes
  pub others : KeepsOthers name old new

-- what holds of the files before and after, where the store tells them; it tells them always or never
abbrev pub BothTold : Option Files → Option Files → (Files → Files → Type 0) → Type 0
BothTold (Some old) (Some new) P = P old new
BothTold None None P = Unit {0}
BothTold (Some old) None P = ⊥
BothTold None (Some new) P = ⊥

-- a count rose; at the greatest number it stays
abbrev pub Rose : ℕ → ℕ → Type 0
Rose old new = (old < new) ⊎ (0xFFFF_FFFF_FFFF_FFFF ≤ new)

-- how often a file was missing, a read failed and a write failed
pub record Counts : Type 0 where
  pub missing : ℕ
  pub reads : ℕ
  pub writes : ℕ

pub record NeverFall (old new : Counts) : Type 0 where
  pub missing : old.missing ≤ new.missing
  pub reads : old.reads ≤ new.reads
  pub writes : old.writes ≤ new.writes

-- the count of missing files rose, and the others are as before
pub record OnlyMissingRose (old new : Counts) : Type 0 where
  pub missing : Rose old.missing new.missing
  pub reads : new.reads ≡ old.reads
  pub writes : new.writes ≡ old.writes

-- the count of failed reads rose, and the others are as before
pub record OnlyReadsRose (old new : Counts) : Type 0 where
  pub missing : new.missing ≡ old.missing
  pub reads : Rose old.reads new.reads
  pub writes : new.writes ≡ old.writes

-- the count of failed writes rose, and the others are as before
pub record OnlyWritesRose (old new : Counts) : Type 0 where
  pub missing : new.missing ≡ old.missing
  pub reads : new.reads ≡ old.reads
  pub writes : Rose old.writes new.writes
