-- What a read of a file shows of its length.
use Rattle.std.proofs.Common.{◌≡◌, ℕ, ◌+◌, ◌<◌, ◌≤◌, List, [], ◌++◌, length, take, ap, ◌∙◌, arith, subst, sym}
use Rattle.std.proofs.lemmas.List.{take_all, length-take}
use Rattle.std.specs.Prelude.{Option, Ok, Err}
use Rattle.cov_base.specs.Files as base
use Rattle.cov_base.specs.Files.{Files}
use Rattle.cov_station.specs.declared.refusal.Quantity.TheVariants.{Bytes}
use Rattle.cov_station.specs.declared.refusal.Refusal.TheVariants.{OverLimit}
use Rattle.cov_station.specs.Files.{Reads, reads_whole, is_too_long}
use Rattle.cov_station.specs.Steps.{Does, Same, gives, refuses}

longer : (max : ℕ) (new bytes : List ℕ) → new ≡ take (max + 1) bytes → max < length new → max < length bytes
longer max new bytes e over = let h = length-take (max + 1) bytes in let k : length new ≡ length (take (max + 1) bytes) = ap length e in omega arith

shorter : (max : ℕ) (new bytes : List ℕ) → new ≡ take (max + 1) bytes → length new ≤ max → length bytes ≤ max
shorter max new bytes e short = let h = length-take (max + 1) bytes in let k : length new ≡ length (take (max + 1) bytes) = ap length e in omega arith

added : {files : Option Files} {name : List ℕ} (max : ℕ) (old new : List ℕ) (r : base.Reads files name max old new) → old ≡ [] → new ≡ take (max + 1) r.bytes
added max old new r none = r.added ∙ ap (λ l. l ++ take (max + 1) r.bytes) none

-- a file is too long where a read with room for one byte more than the most fills it
pub too_long : {files : Option Files} {name : List ℕ} (max : ℕ) (old new : List ℕ) → base.Reads files name max old new → old ≡ [] → max < length new → Does (Reads files name max) Same (Err (OverLimit Bytes max))
too_long max old new r none over = refuses (is_too_long r.bytes r.held (longer max new r.bytes (added max old new r none) over))

-- else it was read whole
pub whole : {files : Option Files} {name : List ℕ} (max : ℕ) (old new : List ℕ) → base.Reads files name max old new → old ≡ [] → length new ≤ max → Does (Reads files name max) Same (Ok new)
whole max old new r none short =
    let e = added max old new r none in
    let few = shorter max new r.bytes e short in
    gives (reads_whole r.bytes r.held few) (e ∙ take_all (max + 1) r.bytes (omega arith))

-- what was read is within the most
pub short : {files : Option Files} {name bytes : List ℕ} {most : ℕ} → Does (Reads files name most) Same (Ok bytes) → length bytes ≤ most
short {most = most} (gives (reads_whole bytes held few) same) = subst (λ bytes. length bytes ≤ most) (sym same) few
