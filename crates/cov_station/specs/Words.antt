-- What the words ask for.
use Rattle.std.specs.Prelude.{◌≡◌, ℕ, Bool, true, false, List, Some, None, Result, Ok, Err}
use Rattle.cov_words.specs.declared.job.Verb.{Verb}
use Rattle.cov_words.specs.declared.job.Verb.TheVariants as verb
use Rattle.cov_words.specs.Jobs.{Asked, meaning}
use Rattle.cov_station.specs.declared.refusal.Refusal.{Refusal}
use Rattle.cov_station.specs.declared.refusal.Refusal.TheVariants.{Usage}

-- the commands that are done as yet
abbrev pub is_served : Verb → Bool
is_served verb.Run = true
is_served verb.Score = true
is_served verb.Verify = true
is_served _ = false

abbrev pub is_done_yet : Asked → Bool
is_done_yet job = is_served job.verb

-- the job that the words name
pub data Asks (words : List (List ℕ)) : Result Asked Refusal → Type 0 where
  asks : {job : Asked} → meaning words ≡ Some job → is_done_yet job ≡ true → Asks words (Ok job)
  asks_nothing : meaning words ≡ None → Asks words (Err Usage)
  asks_too_early : (job : Asked) → meaning words ≡ Some job → is_done_yet job ≡ false → Asks words (Err Usage)
