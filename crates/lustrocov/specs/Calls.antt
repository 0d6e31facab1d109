-- How a call of the program ends.
use Rattle.std.specs.Prelude.{◌≡◌, ℕ, List}
use Rattle.cov_station.specs.declared.status.Status.{Status}
use Rattle.cov_station.specs.Codes.{code_of}
use Rattle.cov_station.specs.Commands.{station}
use Rattle.cov_station.specs.Outcomes.{Ends, IsDue, Keeps, Outside}

-- The program ends with the number of the status with which the station's call over these words ends.
pub record IsCall (words : List (List ℕ)) (old new : Outside) (code : ℕ) : Type 0 where
  pub status : Status
  pub number : code ≡ code_of status
  pub ends : Ends (station words old.files) old new status
  pub due : IsDue (station words) old.files status
  pub keeps : Keeps old new
