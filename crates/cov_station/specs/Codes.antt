-- The statuses as numbers, with which the program ends.
use Rattle.std.specs.Prelude.{ℕ}
use Rattle.cov_station.specs.declared.status.Status.{Status}
use Rattle.cov_station.specs.declared.status.Status.TheVariants.{Done, Usage, Missing, ReadFault, Source, Limit, Unreadable, Refused, WriteFault, Memory}

abbrev pub code_of : Status → ℕ
code_of Done = 0
code_of Usage = 1
code_of Missing = 2
code_of ReadFault = 3
code_of Source = 4
code_of Limit = 5
code_of Unreadable = 6
code_of Refused = 7
code_of WriteFault = 8
code_of Memory = 9
