-- The circuits of the operators on words. A word is the list of its literals, least bit first. Each
-- circuit is given from the next variable n, and its gates take n, n + 1 and so on.
use Rattle.std.specs.Prelude.{ℕ, zero, suc, List, [], ◌∷◌, ◌++◌, ◌-◌, take, map, length, replicate}
use Rattle.cnf_form.specs.declared.lit.Lit.{Lit}
use Rattle.cnf_form.specs.Lits.{turned}
use Rattle.bit_blast.specs.Circuit.{Entry, Free, And, Or, Xor, Ite, yes, no, after, Circuit}

-- so many free variables
abbrev pub fresh : ℕ → ℕ → Circuit (List Lit)
fresh n zero = record { entries = []; result = [] }
fresh n (suc bits) =
    let rest = fresh (suc n) bits in
    record { entries = Free ∷ rest.entries; result = yes n ∷ rest.result }

-- bit by bit, the first word where the condition is true, else the second
abbrev pub ite : ℕ → Lit → List Lit → List Lit → Circuit (List Lit)
ite n c (a ∷ p) (b ∷ q) =
    let rest = ite (suc n) c p q in
    record { entries = Ite c a b ∷ rest.entries; result = yes n ∷ rest.result }
ite n c _ _ = record { entries = []; result = [] }

-- ---- sums

-- The gates of one bit of a sum: x = xor(a, b), the sum xor(x, c), and the next carry
-- or(and(a, b), and(x, c)).
abbrev pub adder : ℕ → Lit → Lit → Lit → List Entry
adder n a b c =
    Xor a b ∷ Xor (yes n) c
    ∷ And a b ∷ And (yes n) c ∷ Or (yes (suc (suc n))) (yes (suc (suc (suc n)))) ∷ []

-- the variables of the sum and of the next carry
abbrev pub adder_sum : ℕ → ℕ
adder_sum n = suc n

abbrev pub adder_carry : ℕ → ℕ
adder_carry n = suc (suc (suc (suc n)))

-- the sum of two words and a carry, bit by bit
abbrev pub sum : ℕ → List Lit → List Lit → Lit → Circuit (List Lit)
sum n (a ∷ p) (b ∷ q) c =
    let rest = sum (suc (adder_carry n)) p q (yes (adder_carry n)) in
    record { entries = adder n a b c ++ rest.entries; result = yes (adder_sum n) ∷ rest.result }
sum n _ _ c = record { entries = []; result = [] }

-- the negation of each bit
abbrev pub inverted : List Lit → List Lit
inverted a = map turned a

-- a word with the literal `no` at each of so many bits
abbrev pub nothing : ℕ → List Lit
nothing bits = replicate bits (no 0)

abbrev pub add : ℕ → List Lit → List Lit → Circuit (List Lit)
add n a b = sum n a b (no 0)

abbrev pub subtract : ℕ → List Lit → List Lit → Circuit (List Lit)
subtract n a b = sum n a (inverted b) (yes 0)

abbrev pub negate : ℕ → List Lit → Circuit (List Lit)
negate n a = sum n (nothing (length a)) (inverted a) (yes 0)

-- ---- products

-- the gates `and` of each bit of a word and one bit
abbrev pub masked : ℕ → List Lit → Lit → Circuit (List Lit)
masked n [] b = record { entries = []; result = [] }
masked n (a ∷ p) b =
    let rest = masked (suc n) p b in
    record { entries = And a b ∷ rest.entries; result = yes n ∷ rest.result }

-- a row of a product: a shifted up by so many bits where b is true; what would stand past the last
-- bit is left out
abbrev pub row : ℕ → List Lit → ℕ → Lit → Circuit (List Lit)
row n a shift b =
    let low = masked n (take (length a - shift) a) b in
    record { entries = low.entries; result = nothing shift ++ low.result }

-- r and one row
abbrev pub with_row : ℕ → List Lit → ℕ → Lit → List Lit → Circuit (List Lit)
with_row n a shift b r =
    let one = row n a shift b in
    let total = sum (after n one.entries) r one.result (no 0) in
    record { entries = one.entries ++ total.entries; result = total.result }

-- r and the rows of the bits of a second word, the first of which is shifted up by so many bits
abbrev pub rows : ℕ → List Lit → ℕ → List Lit → List Lit → Circuit (List Lit)
rows n a shift [] r = record { entries = []; result = r }
rows n a shift (b ∷ q) r =
    let one = row n a shift b in
    let total = sum (after n one.entries) r one.result (no 0) in
    let rest = rows (after (after n one.entries) total.entries) a (suc shift) q total.result in
    record { entries = one.entries ++ (total.entries ++ rest.entries); result = rest.result }

abbrev pub multiply : ℕ → List Lit → List Lit → Circuit (List Lit)
multiply n a b = rows n a 0 b (nothing (length a))

-- ---- comparisons

-- the gates of one bit of an equality: e and not xor(a, b)
abbrev pub equal_gates : ℕ → Lit → Lit → Lit → List Entry
equal_gates n a b e = Xor a b ∷ And e (no n) ∷ []

-- whether two words are equal, behind the literal of the bits before
abbrev pub equal_from : ℕ → List Lit → List Lit → Lit → Circuit Lit
equal_from n (a ∷ p) (b ∷ q) e =
    let rest = equal_from (suc (suc n)) p q (yes (suc n)) in
    record { entries = equal_gates n a b e ++ rest.entries; result = rest.result }
equal_from n _ _ e = record { entries = []; result = e }

abbrev pub equal : ℕ → List Lit → List Lit → Circuit Lit
equal n a b = equal_from n a b (yes 0)

-- the gates of one bit of an order: x where a and b differ, else l
abbrev pub less_gates : ℕ → Lit → Lit → Lit → Lit → List Entry
less_gates n a b x l = Xor a b ∷ Ite (yes n) x l ∷ []

-- Whether the first word is less, behind the literal of the bits before. At the last bit, the sign,
-- the words are exchanged.
abbrev pub less_from : ℕ → List Lit → List Lit → Lit → Circuit Lit
less_from n (a ∷ []) (b ∷ []) l =
    record { entries = less_gates n a b a l; result = yes (suc n) }
less_from n (a ∷ p) (b ∷ q) l =
    let rest = less_from (suc (suc n)) p q (yes (suc n)) in
    record { entries = less_gates n a b b l ++ rest.entries; result = rest.result }
less_from n _ _ l = record { entries = []; result = l }

abbrev pub less : ℕ → List Lit → List Lit → Circuit Lit
less n a b = less_from n a b (no 0)
