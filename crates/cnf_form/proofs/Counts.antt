-- How many words a text has, and how many clauses a formula so far.
use Rattle.std.proofs.Common.{◌≡◌, ◌≤◌, ◌+◌, ◌-◌, ◌*◌, ℕ, Bool, true, false, not, ◌&&◌, eqb, nat_lt, get_or, List, [], ◌∷◌, ◌++◌, length, map, length-take, length-append, Option, Some, None, Result, Ok, Err, ◌⊎◌, inl, inr, refl, arith}
use Rattle.std.specs.List.{filter, slice_split, onto_first}
use Rattle.cnf_form.specs.declared.dimacs.DimacsFault.{DimacsFault}
use Rattle.cnf_form.specs.declared.number.Number.{Number}
use Rattle.cnf_form.specs.Limits.{most_bytes, most_clauses}
use Rattle.cnf_form.specs.Lines.{Text, is_nil, is_feed, is_blank, is_comment, without_return, without_empty_end, lines, words}
use Rattle.cnf_form.specs.Dimacs.{Partial, with_number, with_word, with_words, with_line}
use Rattle.cnf_form.specs.Numbers.{number_of}
use Rattle.cnf_form.proofs.Cuts.{part}

-- ---- the words of a text

-- the bytes of parts, and one more for each
abbrev room : List Text → ℕ
room [] = 0
room (p ∷ ps) = length p + 1 + room ps

room_first : (x : ℕ) (ps : List Text) → is_nil ps ≡ false → room (onto_first x ps) ≡ room ps + 1
room_first x [] h = absurd (cc h)
room_first x (p ∷ ps) h = omega arith

room_split : (p : ℕ → Bool) (text : Text) → room (slice_split p text) ≡ length text + 1
room_split p [] = refl
room_split p (x ∷ text) = go (p x) refl (room_split p text)
  where
    go : (b : Bool) → p x ≡ b → room (slice_split p text) ≡ length text + 1 → room (slice_split p (x ∷ text)) ≡ length (x ∷ text) + 1
    go true e h = rw e (omega (arith, h))
    go false e h = rw e (omega (arith, room_first x (slice_split p text) (part p text), h))

-- each part that isn't empty has a byte
some_parts : (ps : List Text) → 2 * length (filter (λ part. not (is_nil part)) ps) ≤ room ps
some_parts [] = omega arith
some_parts ([] ∷ ps) = omega (arith, some_parts ps)
some_parts ((b ∷ p) ∷ ps) = omega (arith, some_parts ps)

words_few : (line : Text) → 2 * length (words line) ≤ length line + 1
words_few line = omega (arith, some_parts (slice_split is_blank line), room_split is_blank line)

-- the number of words of lines
abbrev pub words_in : List Text → ℕ
words_in [] = 0
words_in (line ∷ later) = length (words line) + words_in later

words_in_few : (ls : List Text) → 2 * words_in ls ≤ room ls
words_in_few [] = omega arith
words_in_few (line ∷ later) = omega (arith, words_few line, words_in_few later)

length_returnless : (line : Text) → length (without_return line) ≤ length line
length_returnless line = go (eqb (get_or line (length line - 1) 0) 13) refl
  where
    go : (b : Bool) → eqb (get_or line (length line - 1) 0) 13 ≡ b → length (without_return line) ≤ length line
    go true e = rw e (omega (arith, length-take (length line - 1) line))
    go false e = rw e (omega arith)

room_returnless : (ls : List Text) → room (map without_return ls) ≤ room ls
room_returnless [] = omega arith
room_returnless (line ∷ later) = omega (arith, length_returnless line, room_returnless later)

room_end : (ps : List Text) → room (without_empty_end ps) ≤ room ps
room_end [] = omega arith
room_end (p ∷ ps) = go (is_nil p && is_nil ps) refl (room_end ps)
  where
    go : (b : Bool) → (is_nil p && is_nil ps) ≡ b → room (without_empty_end ps) ≤ room ps → room (without_empty_end (p ∷ ps)) ≤ room (p ∷ ps)
    go true e h = rw e (omega arith)
    go false e h = rw e (omega (arith, h))

-- a text has fewer words than a formula may have clauses
pub few_words : (text : Text) → length text ≤ most_bytes → words_in (lines text) ≤ most_clauses
few_words text h =
    omega (arith, h, words_in_few (lines text), room_returnless (without_empty_end (slice_split is_feed text)), room_end (slice_split is_feed text), room_split is_feed text)

-- ---- the clauses of a formula so far

err_ok : {A P : Type 0} (e : DimacsFault) (a : A) → Err e ≡ Ok a → P
err_ok e a h = cc

with_number_few : (line : ℕ) (r s : Partial) (n : Option Number) → with_number line r n ≡ Ok s → length s.clauses ≤ length r.clauses + 1
with_number_few line r s None h = err_ok _ _ h
with_number_few line r s (Some n) h = go (nat_lt r.vars n.size) (eqb n.size 0) refl refl
  where
    go : (a b : Bool) → nat_lt r.vars n.size ≡ a → eqb n.size 0 ≡ b → length s.clauses ≤ length r.clauses + 1
    go true b e f = err_ok _ _ (rw e at h)
    go false true e f = let q = rw (e, f) at h in let is : s.clauses ≡ r.clauses ++ r.current ∷ [] = cc q in rw is (omega (arith, length-append r.clauses (r.current ∷ [])))
    go false false e f = let q = rw (e, f) at h in let is : s.clauses ≡ r.clauses = cc q in rw is (omega arith)

-- a word ends at most one clause
pub with_word_few : (line : ℕ) (r s : Partial) (word : Text) → with_word line r word ≡ Ok s → length s.clauses ≤ length r.clauses + 1
with_word_few line r s word h = with_number_few line r s (number_of word) h

result_cases : {A E : Type 0} (r : Result A E) → ((a : A) × (r ≡ Ok a)) ⊎ ((e : E) × (r ≡ Err e))
result_cases (Ok a) = inl (a, refl)
result_cases (Err e) = inr (e, refl)

with_words_few : (line : ℕ) (r s : Partial) (ws : List Text) → with_words line r ws ≡ Ok s → length s.clauses ≤ length r.clauses + length ws
with_words_few line r s [] h = let is : r ≡ s = cc h in rw is (omega arith)
with_words_few line r s (word ∷ later) h = elim (result_cases (with_word line r word)) [
  | inl q ↦ omega (arith, with_word_few line r q.0 word q.1, with_words_few line q.0 s later (rw q.1 at h))
  | inr q ↦ err_ok _ _ (rw q.1 at h)
]

-- a line ends at most as many clauses as it has words
pub with_line_few : (number : ℕ) (r s : Partial) (line : Text) → with_line number r line ≡ Ok s → length s.clauses ≤ length r.clauses + length (words line)
with_line_few number r s line h = go (is_comment line) refl
  where
    go : (b : Bool) → is_comment line ≡ b → length s.clauses ≤ length r.clauses + length (words line)
    go true e = let q = rw e at h in let is : r ≡ s = cc q in rw is (omega arith)
    go false e = with_words_few number r s (words line) (rw e at h)
