-- What a call of the station shows of the program's end.
use Rattle.std.proofs.Common.{◌≡◌, ◌≤◌, ℕ, List, refl, subst, le_refl, inl, inr}
use Rattle.std.specs.Prelude.{Option, Some, None, Result, Ok, Err, IfOk, IfErr}
use Rattle.cov_base.specs.Files.{Files}
use Rattle.cov_station.specs.declared.status.Status.{Status}
use Rattle.cov_station.specs.declared.status.Status.TheVariants.{Memory}
use Rattle.cov_station.specs.Codes.{code_of}
use Rattle.cov_station.specs.Commands.{station}
use Rattle.cov_station.specs.Outcomes.{Ends, IsDue, Keeps, Outside, ends_short}
use Rattle.lustrocov.specs.Calls.{IsCall}

pub called : {words words' : List (List ℕ)} {old new : Outside} {status : Status} {code : ℕ} → words ≡ words' → code ≡ code_of status
    → Ends (station words old.files) old new status → IsDue (station words) old.files status → Keeps old new → IsCall words' old new code
called {old = old} {new = new} {status = status} {code = code} same number ends due keeps =
    subst (λ words. IsCall words old new code) same (record { status = status; number = number; ends = ends; due = due; keeps = keeps })

due_short : (words : List (List ℕ)) (files : Option Files) → IsDue (station words) files Memory
due_short words None = tt
due_short words (Some told) = (λ a h. inr (inl (inr (inr refl))), λ ready. inl (inr (inr refl)))

-- the program ends for want of memory before the station is called
pub short_call : (words : List (List ℕ)) (at : Outside) (code : ℕ) → code ≡ code_of Memory → IsCall words at at code
short_call words at code number = record {
  status = Memory;
  number = number;
  ends = ends_short refl refl refl;
  due = due_short words at.files;
  keeps = record {
    files = refl;
    counts = record { missing = le_refl _; reads = le_refl _; writes = le_refl _ };
    told = refl;
    faults = le_refl _;
  };
}

pub if_given : {A E : Type 0} (given : Result A E) (P : A → Type 0) → ((a : A) → given ≡ Ok a → P a) → IfOk given P
if_given (Ok a) P f = f a refl
if_given (Err e) P f = tt

pub if_lacking : {A E : Type 0} (given : Result A E) (P : E → Type 0) → ((e : E) → given ≡ Err e → P e) → IfErr given P
if_lacking (Ok a) P f = tt
if_lacking (Err e) P f = f e refl
