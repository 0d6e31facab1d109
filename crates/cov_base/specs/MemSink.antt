-- What contracts see of a sink in memory.
use Rattle.std.specs.Prelude.{ℕ, ◌-◌, List, length, Option, Some}
use Rattle.cov_base.specs.declared.mem_sink.MemSink.{MemSink}
use Rattle.cov_base.specs.Plans.{Plan}

-- the bytes that it took, which it tells
abbrev pub written_of : MemSink → Option (List ℕ)
written_of sink = Some sink.bytes.items

-- how often it failed
abbrev pub faults_of : MemSink → ℕ
faults_of sink = sink.faults

-- the greatest number of bytes that one put takes
abbrev pub chunk_of : MemSink → ℕ
chunk_of sink = sink.chunk

-- how many more bytes it takes in all: it holds at most 16 MiB
abbrev pub room_of : MemSink → ℕ
room_of sink = 0x100_0000 - length sink.bytes.items

-- its puts that fail, and the number of the next
abbrev pub plan_of : MemSink → Plan
plan_of sink = record { failing = sink.plan.failing; next = sink.plan.next }
