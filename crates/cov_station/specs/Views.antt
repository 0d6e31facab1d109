-- What stands in the code for a source and for a job.
use Rattle.std.specs.Prelude.{◌≡◌, List, Some}
use Rattle.cov_words.specs.declared.job.Job.{Job}
use Rattle.cov_words.specs.Jobs.{Asked, asked}
use Rattle.lus_causality.specs.declared.ordered.OrderCause.{OrderCause}
use Rattle.lus_causality.specs.declared.ordered.OrderCause.TheVariants as cause
use Rattle.lus_causality.specs.Ordered.{Causal}
use Rattle.lus_types.specs.declared.typed.Typed.{Typed}
use Rattle.lus_types.specs.Programs.{Node}
use Rattle.node_expand.specs.Law.{HasItsStreamsIn, KeepsStreamsIn, main_name, program_in}
use Rattle.node_expand.specs.Ports.{HasPorts}
use Rattle.op_network.specs.declared.edge.Edge.{Edge}
use Rattle.op_network.specs.declared.edge.Parts.{Parts}
use Rattle.cov_station.specs.declared.refusal.Refusal.{Refusal}
use Rattle.cov_station.specs.declared.refusal.Refusal.TheVariants.{Cycle, Memory}
use Rattle.cov_station.specs.Sources.{Source, name_of, net}

-- the source that a typed program is
abbrev pub source_in : Typed → Source
source_in typed = record { program = program_in typed; main = main_name typed }

abbrev pub IsTyped : Source → Typed → Type 0
IsTyped source typed = source ≡ source_in typed

-- The network is that of the source. It runs exactly where the source does, and in each of its runs the variables of
-- main have the source's streams. Its inputs and outputs have the names and the types of main's.
pub record IsExpansionOf (source : Source) (parts : Parts) : Type 0 where
  pub network : parts ≡ net source
  pub keeps : KeepsStreamsIn source.program source.main (net source)
  pub streams : HasItsStreamsIn source.program source.main (net source)
  pub variables : (main : Node) → source.program.node source.main ≡ Some main → HasPorts (net source) main

-- the same of a network with an order of its edges
pub record IsNetworkOf (source : Source) (ordered : Causal) : Type 0 where
  pub network : ordered.network ≡ net source
  pub keeps : KeepsStreamsIn source.program source.main (net source)
  pub streams : HasItsStreamsIn source.program source.main (net source)
  pub variables : (main : Node) → source.program.node source.main ≡ Some main → HasPorts (net source) main

-- why edges have no order, as a refusal
abbrev pub cycle_refusal : List Edge → OrderCause → Refusal
cycle_refusal edges (cause.Cycle e) = Cycle (name_of edges e)
cycle_refusal edges cause.Memory = Memory

abbrev pub IsJobOf : Asked → Job → Type 0
IsJobOf job it = job ≡ asked it
