-- What contracts see of a store in memory.
use Rattle.std.specs.Prelude.{Option, Some}
use Rattle.std.specs.BTreeMap.{get_by_text}
use Rattle.cov_base.specs.declared.mem_store.MemStore.{MemStore}
use Rattle.cov_base.specs.Files.{Files, Counts}
use Rattle.cov_base.specs.Plans.{Plan}

-- its files, which it tells
abbrev pub files_of : MemStore → Option Files
files_of store = Some (λ name. get_by_text store.files name)

abbrev pub counts_of : MemStore → Counts
counts_of store = record { missing = store.missing; reads = store.reads; writes = store.writes }

-- its calls that fail, and the number of the next
abbrev pub plan_of : MemStore → Plan
plan_of store = record { failing = store.plan.failing; next = store.plan.next }
