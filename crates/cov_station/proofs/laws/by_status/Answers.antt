use Rattle.cov_station.specs.Commands.{station}
use Rattle.cov_station.proofs.Statuses.{done_of, refused_of, read_fault_of, write_fault_of, memory_of}
use Rattle.cov_station.proofs.laws.by_status.Goals as goal

pub returns-clause-done : goal.returns-clause-done
returns-clause-done c words files = done_of (station words files)

pub returns-clause-refused : goal.returns-clause-refused
returns-clause-refused c words files = refused_of (station words files)

pub returns-clause-read_fault : goal.returns-clause-read_fault
returns-clause-read_fault c words files = read_fault_of (station words files)

pub returns-clause-write_fault : goal.returns-clause-write_fault
returns-clause-write_fault c words files = write_fault_of (station words files)

pub returns-clause-memory : goal.returns-clause-memory
returns-clause-memory c words files = memory_of (station words files)
