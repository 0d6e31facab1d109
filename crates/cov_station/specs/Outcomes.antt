-- How a call ends, with what it did to the store's counts and to the sink.
use Rattle.std.specs.Prelude.{◌≡◌, ◌≢◌, ◌≤◌, ◌⊎◌, ℕ, List, Option, Some, None, Result, Ok, Err}
use Rattle.cov_base.specs.Bytes.{Appends, BreaksOff, SameTold}
use Rattle.cov_base.specs.Files.{Files, Counts, NeverFall}
use Rattle.cov_station.specs.declared.refusal.Refusal.{Refusal}
use Rattle.cov_station.specs.declared.status.Status.{Status}
use Rattle.cov_station.specs.declared.status.Status.TheVariants.{Done, Usage, Missing, ReadFault, Source, Limit, Unreadable, Refused, WriteFault, Memory}
use Rattle.cov_station.specs.Chains.{Chain, Answers, IsReady}
use Rattle.cov_station.specs.Files.{Counted}
use Rattle.cov_station.specs.Refusals.{status_of, line_of}

-- the text of a command, or its refusal
abbrev pub Answer : Type 0
Answer = Result (List ℕ) Refusal

abbrev pub status : Answer → Status
status (Ok bytes) = Done
status (Err why) = status_of why

-- the command's text, or the one line of a refusal
abbrev pub text : Answer → List ℕ
text (Ok bytes) = bytes
text (Err why) = line_of why

-- the store and the sink, as far as they are told
pub record Outside : Type 0 where
  pub files : Option Files
  pub counts : Counts
  pub written : Option (List ℕ)
  pub faults : ℕ

abbrev pub outside : Option Files → Counts → Option (List ℕ) → ℕ → Outside
outside files counts written faults = record { files = files; counts = counts; written = written; faults = faults }

-- A command ends with its answer, whose text is put whole; or the put breaks off; or memory is short, and
-- nothing is put.
pub data Ends (chain : Chain) (old new : Outside) (end : Status) : Type 0 where
  ends_whole : (a : Answer) → Answers chain a → end ≡ status a → end ≢ Memory → Counted a old.counts new.counts
      → Appends old.written (text a) new.written → new.faults ≡ old.faults → Ends chain old new end
  ends_broken : (a : Answer) → Answers chain a → end ≡ WriteFault → Counted a old.counts new.counts
      → BreaksOff old.written new.written old.faults new.faults (text a) → Ends chain old new end
  ends_short : end ≡ Memory → new.written ≡ old.written → new.faults ≡ old.faults → Ends chain old new end

-- all files are as before, no count falls, and the sink tells its bytes just if it did before
pub record Keeps (old new : Outside) : Type 0 where
  pub files : new.files ≡ old.files
  pub counts : NeverFall old.counts new.counts
  pub told : SameTold old.written new.written
  pub faults : old.faults ≤ new.faults

-- a read or a write failed, or memory is short
abbrev pub IsFault : Status → Type 0
IsFault status = (status ≡ ReadFault) ⊎ ((status ≡ WriteFault) ⊎ (status ≡ Memory))

-- the due status, unless there is a fault
abbrev pub IsOrFault : Status → Status → Type 0
IsOrFault due end = IsFault end ⊎ (end ≡ due)

-- Over a store that tells its files: where the command has an answer that is no read fault, it ends with that status, and
-- where all its steps go through it ends Done, unless a read or a put fails or memory is short.
abbrev pub IsDue : (Option Files → Chain) → Option Files → Status → Type 0
IsDue chain None end = Unit {0}
IsDue chain (Some told) end = ((a : Answer) → Answers (chain (Some told)) a → IsFault (status a) ⊎ IsOrFault (status a) end)
    × (IsReady (chain (Some told)) → IsOrFault Done end)

-- Putting a text ended with the status that is due, or broke off.
pub data IsPut (written written' : Option (List ℕ)) (faults faults' : ℕ) (bytes : List ℕ) (due end : Status) : Type 0 where
  put_whole : end ≡ due → Appends written bytes written' → faults' ≡ faults → IsPut written written' faults faults' bytes due end
  put_broken : end ≡ WriteFault → BreaksOff written written' faults faults' bytes → IsPut written written' faults faults' bytes due end

-- the statuses of a refusal that the words and the files determine
abbrev pub IsRefusal : Status → Type 0
IsRefusal Usage = Unit {0}
IsRefusal Missing = Unit {0}
IsRefusal Source = Unit {0}
IsRefusal Limit = Unit {0}
IsRefusal Unreadable = Unit {0}
IsRefusal Refused = Unit {0}
IsRefusal _ = ⊥
