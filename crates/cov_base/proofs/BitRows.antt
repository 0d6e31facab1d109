-- One bit of some words, and the list of the first.
use Rattle.std.proofs.Common.{◌≡◌, ◌≢◌, ⊎_elim, ℕ, ◌+◌, ◌*◌, ◌/◌, ◌%◌, ◌^◌, ◌<◌, ◌≤◌, Bool, true, false, ◌||◌, cond, List, ◌++◌, length, zip, take, drop, replicate, refl, ap, sym, ◌∙◌, arith, slice_index, slice_set, slice_index_or, nat_eq, bit_or, bit_and, count_ones, w64, count_by, max, zero, suc}
use Rattle.std.specs.Int.{bit_at}
use Rattle.std.proofs.lemmas.Bool.{cases_eq}
use Rattle.std.proofs.Math.Seq.{take-append_seam}
use Rattle.std.proofs.lemmas.Nat.Bits.{bit_at_set_same, bit_at_set_other, shr_and_one, bit_at-zero, bit_at_or, bit_at-lt}
use Rattle.std.proofs.lemmas.List.{length-take-le, get_or-set_same, get_or-set_other, ext_get_or, length-set, get_or-replicate, length-replicate, length-map, get_or-map, get_or-take}
use Rattle.std.proofs.lemmas.Slice.Zip.{length-zip, get_or-zip}
use Rattle.std.proofs.lemmas.Nat.{ones_cat, ones-le, zero_from_ones, mod-pow-add, pow_pos, one_shl}
use Rattle.std.proofs.lemmas.List.Sums.{count_by-le-length}
use Rattle.std.proofs.Math.Nat.{eq-zero-or-pos}
use Rattle.std.proofs.lemmas.List.FromFn.{length-map-range_with_len, get_or-map-range_with_len, sum_by-map-range_with_len_more}
use Rattle.cov_base.specs.BitRow.{bit_of, row_of, either}

-- ---- one bit, before and after a word is written

bit_in_new_word : (words : List ℕ) (word at k : ℕ) → k / 64 ≡ at → at < length words → bit_of (slice_set words at word) k ≡ nat_eq (bit_at word (k % 64)) 1
unfolding bit_of
bit_in_new_word words word at k e h = rw e (ap (λ v. nat_eq (bit_at v (k % 64)) 1) (get_or-set_same words at word 0 h))

pub bit_in_other_word : (words : List ℕ) (word at k : ℕ) → k / 64 ≢ at → bit_of (slice_set words at word) k ≡ bit_of words k
unfolding bit_of
bit_in_other_word words word at k h = ap (λ v. nat_eq (bit_at v (k % 64)) 1) (get_or-set_other words at (k / 64) word 0 h)

bit_in_word : (words : List ℕ) (at k : ℕ) → k / 64 ≡ at → bit_of words k ≡ nat_eq (bit_at (slice_index words at) (k % 64)) 1
unfolding bit_of
bit_in_word words at k e = rw e refl

pub bit_read : (words : List ℕ) (i : ℕ) → nat_eq (bit_and (slice_index_or words (i / 64) 0 / 2 ^ (i % 64)) 1) 1 ≡ bit_of words i
unfolding bit_of
bit_read words i = ap (λ v. nat_eq v 1) (shr_and_one (slice_index_or words (i / 64) 0) (i % 64))

-- ---- one bit is set

apart_in_word : (k i : ℕ) → k ≢ i → k / 64 ≡ i / 64 → k % 64 ≢ i % 64
apart_in_word k i apart e h = apart (omega arith)

pub bit_set : (words : List ℕ) (i word : ℕ) → i / 64 < length words → bit_of (slice_set words (i / 64) (bit_or word (1 * 2 ^ (i % 64) % 18446744073709551616))) i ≡ true
bit_set words i word h =
    bit_in_new_word words _ (i / 64) i refl h ∙ ap (λ v. nat_eq v 1) (bit_at_set_same w64 word (i % 64) (omega arith))

pub bit_kept_by_set : (words : List ℕ) (i word : ℕ) → i / 64 < length words → word ≡ slice_index_or words (i / 64) 0 → (k : ℕ) → k ≢ i → bit_of (slice_set words (i / 64) (bit_or word (1 * 2 ^ (i % 64) % 18446744073709551616))) k ≡ bit_of words k
bit_kept_by_set words i word h read k apart =
    ⊎_elim
    (λ e. bit_in_new_word words _ (i / 64) k e h
    ∙ ap (λ v. nat_eq v 1) (bit_at_set_other w64 word (i % 64) (omega arith) (k % 64) (apart_in_word k i apart e))
    ∙ ap (λ v. nat_eq (bit_at v (k % 64)) 1) read
    ∙ sym (bit_in_word words (i / 64) k e))
    (λ elsewhere. bit_in_other_word words _ (i / 64) k elsewhere)
    (cases_eq (k / 64) (i / 64))

-- ---- a word is joined with another

or_test : (a b : ℕ) → a < 2 → b < 2 → nat_eq (max a b) 1 ≡ (nat_eq a 1 || nat_eq b 1)
or_test zero zero p q = refl
or_test zero (suc zero) p q = refl
or_test (suc zero) zero p q = refl
or_test (suc zero) (suc zero) p q = refl
or_test (suc (suc a)) b p q = absurd (omega arith)
or_test zero (suc (suc b)) p q = absurd (omega arith)
or_test (suc zero) (suc (suc b)) p q = absurd (omega arith)

pub bit_joined : (words others : List ℕ) (at k : ℕ) → k / 64 ≡ at → at < length words → bit_of (slice_set words at (bit_or (slice_index_or words at 0) (slice_index_or others at 0))) k ≡ (bit_of words k || bit_of others k)
bit_joined words others at k e h =
    let a = slice_index words at in
    let b = slice_index others at in
    bit_in_new_word words (bit_or a b) at k e h
    ∙ ap (λ v. nat_eq v 1) (bit_at_or a b (k % 64))
    ∙ or_test (bit_at a (k % 64)) (bit_at b (k % 64)) (bit_at-lt a (k % 64)) (bit_at-lt b (k % 64))
    ∙ sym (ap (λ v. v || bit_of others k) (bit_in_word words at k e) ∙ ap (λ v. nat_eq (bit_at a (k % 64)) 1 || v) (bit_in_word others at k e))

-- ---- the list of the first bits

pub row_length : (words : List ℕ) (bits : ℕ) → length (row_of words bits) ≡ bits
row_length words bits = length-map-range_with_len (bit_of words) 0 bits

pub bit_of_row : (words : List ℕ) (bits i : ℕ) → i < bits → slice_index_or (row_of words bits) i false ≡ bit_of words i
bit_of_row words bits i h = get_or-map-range_with_len (bit_of words) 0 bits i i false h (omega arith)

-- a list is a row if it has as many items and each is the row's bit
row_is : (words : List ℕ) (bits : ℕ) (list : List Bool) → length list ≡ bits → ((i : ℕ) → i < bits → bit_of words i ≡ slice_index_or list i false) → row_of words bits ≡ list
row_is words bits list len each =
    ext_get_or false (row_of words bits) list (row_length words bits ∙ sym len)
    (λ i h. let below : i < bits = omega (arith, row_length words bits) in bit_of_row words bits i below ∙ each i below)

pub row_after_set : (old new : List ℕ) (bits i : ℕ) → i < bits → bit_of new i ≡ true → ((k : ℕ) → k ≢ i → bit_of new k ≡ bit_of old k) → row_of new bits ≡ slice_set (row_of old bits) i true
row_after_set old new bits i h here others =
    row_is new bits (slice_set (row_of old bits) i true) (length-set (row_of old bits) i true ∙ row_length old bits)
    (λ k below. ⊎_elim
    (λ e. rw e (here ∙ sym (get_or-set_same (row_of old bits) i true false (omega (arith, row_length old bits)))))
    (λ apart. others k apart ∙ sym (get_or-set_other (row_of old bits) i k true false apart ∙ bit_of_row old bits k below))
    (cases_eq k i))

zero_bit : (n i : ℕ) → i / 64 < n → bit_of (replicate n 0) i ≡ false
unfolding bit_of
zero_bit n i h =
    ap (λ v. nat_eq (bit_at v (i % 64)) 1) (get_or-replicate n (i / 64) 0 0 h) ∙ ap (λ v. nat_eq v 1) (bit_at-zero (i % 64))

pub row_of_zeros : (n bits : ℕ) → bits ≤ 64 * n → row_of (replicate n 0) bits ≡ replicate bits false
row_of_zeros n bits fits =
    row_is (replicate n 0) bits (replicate bits false) (length-replicate bits false)
    (λ i below. zero_bit n i (omega arith) ∙ sym (get_or-replicate bits i false false below))

pub length-either : (row other : List Bool) → length row ≡ length other → length (either row other) ≡ length row
length-either row other same = length-map (zip row other) _ ∙ length-zip row other ∙ omega arith

pub get_or-either : (row other : List Bool) (i : ℕ) → i < length row → i < length other → slice_index_or (either row other) i false ≡ (slice_index_or row i false || slice_index_or other i false)
get_or-either row other i h h' =
    get_or-map (λ (pair : Bool × Bool). pair.0 || pair.1) (zip row other) i (false, false) false (omega (arith, length-zip row other))
    ∙ ap (λ (pair : Bool × Bool). pair.0 || pair.1) (get_or-zip row other i (false, false) h h')

pub row_after_join : (old others new : List ℕ) (bits : ℕ) → ((k : ℕ) → k < bits → bit_of new k ≡ (bit_of old k || bit_of others k)) → row_of new bits ≡ either (row_of old bits) (row_of others bits)
row_after_join old others new bits joined =
    let len = row_length old bits in
    let len' = row_length others bits in
    row_is new bits (either (row_of old bits) (row_of others bits))
    (length-either (row_of old bits) (row_of others bits) (len ∙ sym len') ∙ len)
    (λ k below. joined k below ∙ ap (λ v. v || bit_of others k) (sym (bit_of_row old bits k below)) ∙ ap (λ v. slice_index_or (row_of old bits) k false || v) (sym (bit_of_row others bits k below))
    ∙ sym (get_or-either (row_of old bits) (row_of others bits) k (omega arith) (omega arith)))

bit_of_front : (words : List ℕ) (n i : ℕ) → i / 64 < n → bit_of (take n words) i ≡ bit_of words i
unfolding bit_of
bit_of_front words n i h = ap (λ v. nat_eq (bit_at v (i % 64)) 1) (get_or-take n words (i / 64) 0 h)

row_of_front : (words : List ℕ) (n : ℕ) → n ≤ length words → row_of (take n words) (64 * n) ≡ row_of words (64 * n)
row_of_front words n h =
    row_is (take n words) (64 * n) (row_of words (64 * n)) (row_length words (64 * n))
    (λ i below. bit_of_front words n i (omega arith) ∙ sym (bit_of_row words (64 * n) i below))

-- ---- how many of the first bits are 1

ones_of_bit : (bit : ℕ) → bit < 2 → count_ones bit ≡ cond (nat_eq bit 1) 1 0
ones_of_bit zero h = omega (arith, ones-le 0 0 (omega arith))
ones_of_bit (suc zero) h =
    ⊎_elim
    (λ none. let impossible : 1 ≡ 0 = zero_from_ones 1 none in absurd (omega arith))
    (λ some. omega (arith, ones-le 1 1 (omega arith)))
    (eq-zero-or-pos (count_ones 1))
ones_of_bit (suc (suc bit)) h = absurd (omega arith)

-- one more bit of a word
ones_of_front : (word j : ℕ) → count_ones (word % 2 ^ suc j) ≡ count_ones (word % 2 ^ j) + cond (nat_eq (bit_at word j) 1) 1 0
ones_of_front word j =
    let power : 0 < 2 ^ j = pow_pos j in
    let one : suc j ≡ 1 + j = omega arith in
    let parts : count_ones (word % 2 ^ suc j) ≡ count_ones (bit_at word j) + count_ones (word % 2 ^ j) =
    ap (λ k. count_ones (word % 2 ^ k)) one ∙ ap count_ones (mod-pow-add word 1 j) ∙ ones_cat j (bit_at word j) (word % 2 ^ j) (omega arith)
    in
    let bit = ones_of_bit (bit_at word j) (bit_at-lt word j) in
    omega arith

ones_of_last : (words : List ℕ) (at j bits : ℕ) → bits ≡ 64 * at + j → j ≤ 64 → count_by (λ bit. bit) (row_of words bits) ≡ count_by (λ bit. bit) (row_of words (64 * at)) + count_ones (slice_index words at % 2 ^ j)
ones_of_last words at zero bits e h =
    let same : bits ≡ 64 * at = omega arith in
    let nothing : slice_index words at % 2 ^ 0 ≡ 0 = omega arith in
    rw same (rw nothing (omega (arith, ones-le 0 0 (omega arith))))
ones_of_last words at (suc j) bits e h =
    let n = 64 * at + j in
    let word = slice_index words at in
    let more : bits ≡ n + 1 = omega arith in
    let place : n % 64 ≡ j = omega arith in
    let bit : bit_of words n ≡ nat_eq (bit_at word j) 1 =
    bit_in_word words at n (omega arith) ∙ ap (λ k. nat_eq (bit_at word k) 1) place
    in
    let last : count_by (λ b. b) (row_of words bits) ≡ count_by (λ b. b) (row_of words n) + cond (nat_eq (bit_at word j) 1) 1 0 =
    rw more (sum_by-map-range_with_len_more (λ b. cond b 1 0) (bit_of words) 0 n n (omega arith) ∙ ap (λ b. count_by (λ c. c) (row_of words n) + cond b 1 0) bit)
    in
    let before = ones_of_last words at j n refl (omega arith) in
    let front = ones_of_front word j in
    omega arith

pub ones_of_word : (words : List ℕ) (at : ℕ) → slice_index words at < 18446744073709551616 → count_by (λ bit. bit) (row_of words (64 * (at + 1))) ≡ count_by (λ bit. bit) (row_of words (64 * at)) + count_ones (slice_index words at)
ones_of_word words at h =
    let whole : slice_index words at % 2 ^ 64 ≡ slice_index words at = omega arith in
    ones_of_last words at 64 (64 * (at + 1)) (omega arith) (omega arith) ∙ ap (λ w. count_by (λ bit. bit) (row_of words (64 * at)) + count_ones w) whole

-- the whole words, and the front of the last
pub ones_of_row : (words : List ℕ) (bits : ℕ) → bits < 64 * length words → count_by (λ bit. bit) (row_of (take (bits / 64) words) (64 * length (take (bits / 64) words))) + count_ones (slice_index_or words (bits / 64) 0 % (1 * 2 ^ (bits % 64) % 18446744073709551616)) ≡ count_by (λ bit. bit) (row_of words bits)
ones_of_row words bits h =
    let whole = bits / 64 in
    let len : length (take whole words) ≡ whole = length-take-le whole words (omega arith) in
    let power : 1 * 2 ^ (bits % 64) % 18446744073709551616 ≡ 2 ^ (bits % 64) = one_shl (bits % 64) 64 (omega arith) in
    rw (len, power) (ap (λ row. count_by (λ bit. bit) row + count_ones (slice_index words whole % 2 ^ (bits % 64))) (row_of_front words whole (omega arith))
    ∙ sym (ones_of_last words whole (bits % 64) bits (omega arith) (omega arith)))

pub ones_within : (words : List ℕ) (bits : ℕ) → count_by (λ bit. bit) (row_of words bits) ≤ bits
ones_within words bits = omega (arith, count_by-le-length (λ (bit : Bool). bit) (row_of words bits), row_length words bits)

-- ---- words after the loan of a slice of them
pub items_lent : (old new : List ℕ) → length new ≡ length old → take (length old) (new ++ drop (length new) old) ≡ new
items_lent old new e = rw (← e) (take-append_seam new (drop (length new) old))
