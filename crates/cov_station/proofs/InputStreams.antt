-- The streams of a test's inputs, from its values row by row.
use Rattle.std.proofs.Common.{◌≡◌, ℕ, zero, suc, ◌+◌, ◌-◌, ◌*◌, ◌≤◌, List, [], ◌∷◌, length, map, take, drop, replicate, refl, ap, ap₂, ◌∙◌, arith, length-drop}
use Rattle.std.proofs.Math.Nat.{suc-mul}
use Rattle.std.proofs.lemmas.List.{length-replicate, length-take-le}
use Rattle.node_expand.specs.Streams.{HaveLength, Stream, first_value, rows_of}
use Rattle.op_network.specs.declared.value.Value.{Value}
use Rattle.op_network.specs.Run.{rows}

-- a value before each of these streams
abbrev led_by : List Value → List Stream → List Stream
led_by [] streams = []
led_by (v ∷ row) [] = []
led_by (v ∷ row) (s ∷ streams) = (v ∷ s) ∷ led_by row streams

-- the streams whose values stand row by row
abbrev pub columns : ℕ → ℕ → List Value → List Stream
columns width zero values = replicate width []
columns width (suc n) values = led_by (take width values) (columns width n (drop width values))

led_count : (row : List Value) (streams : List Stream) → length row ≡ length streams → length (led_by row streams) ≡ length streams
led_count [] [] same = refl
led_count [] (s ∷ streams) same = absurd (omega (arith, same))
led_count (v ∷ row) [] same = absurd (omega (arith, same))
led_count (v ∷ row) (s ∷ streams) same = ap suc (led_count row streams (omega (arith, same)))

led_first : (row : List Value) (streams : List Stream) → length row ≡ length streams → map first_value (led_by row streams) ≡ row
led_first [] [] same = refl
led_first [] (s ∷ streams) same = absurd (omega (arith, same))
led_first (v ∷ row) [] same = absurd (omega (arith, same))
led_first (v ∷ row) (s ∷ streams) same = ap (λ (l : List Value). v ∷ l) (led_first row streams (omega (arith, same)))

led_rest : (row : List Value) (streams : List Stream) → length row ≡ length streams → map (drop 1) (led_by row streams) ≡ streams
led_rest [] [] same = refl
led_rest [] (s ∷ streams) same = absurd (omega (arith, same))
led_rest (v ∷ row) [] same = absurd (omega (arith, same))
led_rest (v ∷ row) (s ∷ streams) same = ap (λ (l : List Stream). s ∷ l) (led_rest row streams (omega (arith, same)))

led_long : (n : ℕ) (row : List Value) (streams : List Stream) → length row ≡ length streams → HaveLength n streams → HaveLength (suc n) (led_by row streams)
led_long n [] [] same long = tt
led_long n [] (s ∷ streams) same long = absurd (omega (arith, same))
led_long n (v ∷ row) [] same long = absurd (omega (arith, same))
led_long n (v ∷ row) (s ∷ streams) same long = (ap suc long.0, led_long n row streams (omega (arith, same)) long.1)

empty_long : (width : ℕ) → HaveLength 0 (replicate width [])
empty_long zero = tt
empty_long (suc width) = (refl, empty_long width)

row_long : (width n : ℕ) (values : List Value) → length values ≡ suc n * width → length (take width values) ≡ width
row_long width n values size = let product = suc-mul n width in length-take-le width values (omega (arith, size, product))

rest_long : (width n : ℕ) (values : List Value) → length values ≡ suc n * width → length (drop width values) ≡ n * width
rest_long width n values size = let product = suc-mul n width in let rest = length-drop width values in omega (arith, size, product, rest)

pub columns_count : (width n : ℕ) (values : List Value) → length values ≡ n * width → length (columns width n values) ≡ width
columns_count width zero values size = length-replicate width []
columns_count width (suc n) values size =
    let rest = columns_count width n (drop width values) (rest_long width n values size) in
    let row = row_long width n values size in
    let same : length (take width values) ≡ length (columns width n (drop width values)) = omega (arith, row, rest) in
    led_count (take width values) (columns width n (drop width values)) same ∙ rest

same_count : (width n : ℕ) (values : List Value) → length values ≡ suc n * width → length (take width values) ≡ length (columns width n (drop width values))
same_count width n values size =
    let rest = columns_count width n (drop width values) (rest_long width n values size) in
    let row = row_long width n values size in
    omega (arith, row, rest)

pub columns_long : (width n : ℕ) (values : List Value) → length values ≡ n * width → HaveLength n (columns width n values)
columns_long width zero values size = empty_long width
columns_long width (suc n) values size =
    led_long n (take width values) (columns width n (drop width values)) (same_count width n values size)
    (columns_long width n (drop width values) (rest_long width n values size))

pub columns_rows : (width n : ℕ) (values : List Value) → length values ≡ n * width → rows_of n (columns width n values) ≡ rows width n values
columns_rows width zero values size = refl
columns_rows width (suc n) values size =
    let same = same_count width n values size in
    ap₂ (λ (row : List Value) (l : List (List Value)). row ∷ l)
    (led_first (take width values) (columns width n (drop width values)) same)
    (ap (rows_of n) (led_rest (take width values) (columns width n (drop width values)) same) ∙ columns_rows width n (drop width values) (rest_long width n values size))
