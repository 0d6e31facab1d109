-- The reads of a network's edges at the instant itself, as chains.
use Rattle.std.specs.Prelude.{Contains, ◌≡◌, ℕ, ◌<◌, List, length, take, Option, Some, None, slice_get, slice_index_or}
use Rattle.op_network.specs.declared.edge.EdgeId.{EdgeId}
use Rattle.op_network.specs.declared.edge.Edge.{Edge}
use Rattle.lus_causality.specs.declared.readers.Read.{Read}
use Rattle.lus_causality.specs.declared.readers.Readers.{Readers}
use Rattle.lus_causality.specs.Causality.{operands_now}

-- a read of an edge, before the chain of its reads so far
abbrev pub read_by : Readers → EdgeId → EdgeId → Read
read_by readers o reader = record { reader = reader; next = slice_index_or readers.first o.0 None }

-- the chain from a place has a read by this edge
pub data Reaches (reads : List Read) (f : EdgeId) : Option ℕ → Type 0 where
  at : (s : ℕ) (read : Read) → slice_get reads s ≡ Some read → read.reader ≡ f
      → Reaches reads f (Some s)
  on : (s : ℕ) (read : Read) → slice_get reads s ≡ Some read → Reaches reads f read.next
      → Reaches reads f (Some s)

-- a place, if there is one, stands before another
abbrev pub StandsBefore : Option ℕ → ℕ → Type 0
StandsBefore None s = Unit {0}
StandsBefore (Some t) s = t < s

-- the reads of the edges before an edge, and of its first ports
pub record AreReadsBelow (edges : List Edge) (k p : ℕ) (readers : Readers) : Type 0 where
  pub size : length readers.first ≡ length edges
  pub firsts : (o : ℕ) → StandsBefore (slice_index_or readers.first o None) (length readers.reads)
  pub nexts : (s : ℕ) (read : Read) → slice_get readers.reads s ≡ Some read
      → StandsBefore read.next s
  pub within : (s : ℕ) (read : Read) → slice_get readers.reads s ≡ Some read
      → read.reader.0 < length edges
  pub each : (f o : EdgeId) → f.0 < k → Contains (operands_now edges f) o
      → Reaches readers.reads f (slice_index_or readers.first o.0 None)
  pub last : (f o : EdgeId) → f.0 ≡ k → Contains (take p (operands_now edges f)) o
      → Reaches readers.reads f (slice_index_or readers.first o.0 None)

-- each read stands in the chain of the edge that it reads
pub record AreReads (edges : List Edge) (readers : Readers) : Type 0 where
  pub size : length readers.first ≡ length edges
  pub firsts : (o : ℕ) → StandsBefore (slice_index_or readers.first o None) (length readers.reads)
  pub nexts : (s : ℕ) (read : Read) → slice_get readers.reads s ≡ Some read
      → StandsBefore read.next s
  pub within : (s : ℕ) (read : Read) → slice_get readers.reads s ≡ Some read
      → read.reader.0 < length edges
  pub each : (f o : EdgeId) → f.0 < length edges → Contains (operands_now edges f) o
      → Reaches readers.reads f (slice_index_or readers.first o.0 None)
