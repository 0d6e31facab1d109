-- Streams, what operators make of them, and streams as rows of values.
use Rattle.std.specs.Prelude.{◌≡◌, ℕ, zero, suc, Bool, false, List, [], ◌∷◌, length, map, drop}
use Rattle.std.specs.List.{AllByRecursion, list_all}
use Rattle.op_network.specs.declared.value.Value.{Value}
use Rattle.op_network.specs.declared.value.Value.TheVariants.{Truth}
use Rattle.op_network.specs.Values.{is_true}

-- the values of the first instants, in order
abbrev pub Stream : Type 0
Stream = List Value

-- each of these streams has n values
abbrev pub HaveLength : ℕ → List Stream → Type 0
HaveLength n streams = AllByRecursion (λ (s : Stream). length s ≡ n) streams

-- ---- operators; one with one operand maps its stream

-- two operands, instant by instant
abbrev pub binary_stream : (Value → Value → Value) → Stream → Stream → Stream
binary_stream f [] b = []
binary_stream f (v ∷ a) [] = []
binary_stream f (v ∷ a) (w ∷ b) = f v w ∷ binary_stream f a b

-- three operands, instant by instant
abbrev pub ternary_stream : (Value → Value → Value → Value) → Stream → Stream → Stream → Stream
ternary_stream f [] b c = []
ternary_stream f (v ∷ a) [] c = []
ternary_stream f (v ∷ a) (w ∷ b) [] = []
ternary_stream f (v ∷ a) (w ∷ b) (x ∷ c) = f v w x ∷ ternary_stream f a b c

-- `a -> b`: the value of a at instant 0, and from instant 1 on those of b
abbrev pub arrow_stream : Stream → Stream → Stream
arrow_stream [] b = []
arrow_stream (v ∷ a) [] = []
arrow_stream (v ∷ a) (w ∷ b) = v ∷ b

-- `pre a`: this value at instant 0, and later the value of a at the instant before
abbrev pub pre_stream : Value → Stream → Stream
pre_stream v [] = []
pre_stream v (w ∷ a) = v ∷ pre_stream w a

-- ---- rows

-- the value at instant 0
abbrev pub first_value : Stream → Value
first_value [] = Truth false
first_value (v ∷ s) = v

-- at each of n instants, the value of each of these streams
abbrev pub rows_of : ℕ → List Stream → List (List Value)
rows_of zero streams = []
rows_of (suc n) streams = map first_value streams ∷ rows_of n (map (drop 1) streams)

-- at each of n instants, whether all of these streams are true
abbrev pub all_true : ℕ → List Stream → List Bool
all_true n streams = map (list_all is_true) (rows_of n streams)
