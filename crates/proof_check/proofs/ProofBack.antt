-- A proof that is written is read again.
use Rattle.std.proofs.Common.{◌≡◌, ◌+◌, ◌∙◌, ℕ, ℤ, pos, negsuc, suc, true, false, not, eqb, List, [], ◌∷◌, ◌++◌, codes, map, Option, Some, Ok, refl, sym, ap, subst, inl, inr, arith, IsTrue}
use Rattle.std.specs.Prelude.{decimal, ◌-ℤ◌}
use Rattle.std.specs.Fmt.{signed_decimal}
use Rattle.std.specs.List.{list_all, AllByRecursion}
use Rattle.std.proofs.lemmas.Bool.{ne_eqb, le-ltb}
use Rattle.std.proofs.lemmas.Int.{ints}
use Rattle.std.specs.Str.{bytes_eq}
use Rattle.std.proofs.lemmas.Slice.Eq.{bytes_eq-Decides}
use Rattle.std.proofs.lemmas.Bool.{cases_Bool}
use Rattle.std.proofs.lemmas.List.{append_assoc, append-nil}
use Rattle.cnf_form.specs.declared.lit.Lit.{Lit}
use Rattle.cnf_form.specs.declared.number.Number.{Number}
use Rattle.cnf_form.specs.Limits.{most_vars}
use Rattle.cnf_form.specs.Lines.{Text, is_nil, is_comment, unwords}
use Rattle.cnf_form.specs.Lits.{with_lit, no_twice}
use Rattle.cnf_form.specs.Numbers.{number_of}
use Rattle.cnf_form.specs.Written.{lit_text}
use Rattle.cnf_form.proofs.TextBack.{is_plain, is_word, lines_back, words_back, unwords_plain, word_on, number, number_back, minus_back, natural_back, decimal_word, minus_word, decimal_first}
use Rattle.cnf_form.proofs.FormulaBack.{lit_word, lit_number, lit_back, not_in_front, first_byte}
use Rattle.proof_check.specs.declared.step.ProofStep.{ProofStep}
use Rattle.proof_check.specs.declared.step.ProofStep.TheVariants.{Put, Delete}
use Rattle.proof_check.specs.Lrat.{id_of, at_end, listed, as_lit, as_hint, as_id, addition, deletion, behind_id, step_of, steps_from}
use Rattle.proof_check.specs.Written.{step_words, step_line, IsId, IsHint, IsWritable, IsStep, IsReadAgain}

-- ---- one item

-- the text of x is a word, and names a number other than 0 that is the item x
record IsWritten {A : Type 0} (item : Number → Option A) (text : A → Text) (x : A) : Type 0 where
  word : is_word (text x) ≡ true
  n : Number
  named : number_of (text x) ≡ Some n
  some : eqb n.size 0 ≡ false
  is : item n ≡ Some x

lit_written : (l : Lit) → IsWritable l → IsWritten as_lit lit_text l
lit_written l h = record {
  word = lit_word l most_vars h (omega arith);
  n = number (not l.positive) (l.var + 1);
  named = lit_number l most_vars h (omega arith);
  some = ne_eqb (l.var + 1) 0 (λ q. omega (arith, q));
  is = rw (le-ltb most_vars (l.var + 1) (omega (arith, h)), lit_back l) refl;
}

below_zero : (n : ℕ) → pos 0 -ℤ pos (suc n) ≡ negsuc n
below_zero n = omega (arith, ints)

hint_written : (z : ℤ) → IsHint z → IsWritten as_hint signed_decimal z
hint_written (pos n) h = record {
  word = decimal_word n h.1;
  n = number false n;
  named = number_back n h.1;
  some = ne_eqb n 0 (λ q. omega (arith, q, h.0));
  is = refl;
}
hint_written (negsuc n) h = record {
  word = minus_word (suc n) h.1;
  n = number true (suc n);
  named = minus_back (suc n) h.1;
  some = ne_eqb (suc n) 0 (λ q. omega (arith, q));
  is = ap Some (below_zero n);
}

id_written : (n : ℕ) → IsId n → IsWritten as_id decimal n
id_written n h = record {
  word = decimal_word n h.1;
  n = number false n;
  named = number_back n h.1;
  some = ne_eqb n 0 (λ q. omega (arith, q, h.0));
  is = refl;
}

each : {A : Type 0} {P Q : A → Type 0} → ((x : A) → P x → Q x) → (xs : List A) → AllByRecursion P xs → AllByRecursion Q xs
each f [] h = h
each f (x ∷ xs) h = (f x h.0, each f xs h.1)

-- ---- a list up to its 0

listed_back : {A : Type 0} (item : Number → Option A) (add : A → List A → List A) (P : List A → Type 0) (text : A → Text)
    → ((front : List A) (x : A) (later : List A) → P (front ++ x ∷ later) → add x front ≡ front ++ x ∷ [])
    → (line : ℕ) (rest : List Text) (found xs : List A) → AllByRecursion (IsWritten item text) xs → P (found ++ xs)
    → listed item add line found (map text xs ++ codes "0" ∷ rest) ≡ Ok (record { items = found ++ xs; rest = rest })
listed_back item add P text adds line rest found [] w p = ap (λ t. Ok (record { items = t; rest = rest })) (sym (append-nil found))
listed_back item add P text adds line rest found (x ∷ xs) w p =
    let h = w.0 in
    let e : (found ++ x ∷ []) ++ xs ≡ found ++ x ∷ xs = append_assoc found (x ∷ []) xs in
    rw (h.named, listed, h.some, h.is, adds found x xs p)
    (listed_back item add P text adds line rest (found ++ x ∷ []) xs w.1 (subst P (sym e) p)
    ∙ ap (λ t. Ok (record { items = t; rest = rest })) e)

adds_lit : (front : List Lit) (l : Lit) (later : List Lit) → IsTrue (no_twice (front ++ l ∷ later)) → with_lit l front ≡ front ++ l ∷ []
adds_lit front l later t = rw (not_in_front front l later t) refl

-- ---- a step

words_of : {A : Type 0} (item : Number → Option A) (text : A → Text) (xs : List A) (rest : List Text) → AllByRecursion (IsWritten item text) xs → list_all is_word rest ≡ true
    → list_all is_word (map text xs ++ codes "0" ∷ rest) ≡ true
words_of item text [] rest w h = h
words_of item text (x ∷ xs) rest w h = rw (w.0.word) (words_of item text xs rest w.1 h)

step_is_words : (step : ProofStep) → IsStep step → list_all is_word (step_words step) ≡ true
step_is_words (Put id clause hints) h =
    rw (decimal_word id h.0.1)
    (words_of as_lit lit_text clause (map signed_decimal hints ++ codes "0" ∷ []) (each lit_written clause h.1)
    (words_of as_hint signed_decimal hints [] (each hint_written hints h.3) refl))
step_is_words (Delete ids) h = words_of as_id decimal ids [] (each id_written ids h) refl

id_back : (n : ℕ) → IsId n → id_of (decimal n) ≡ Some n
id_back n h = rw (natural_back n h.1, ne_eqb n 0 (λ q. omega (arith, q, h.0))) refl

addition_back : (line id : ℕ) (clause : List Lit) (hints : List ℤ) → IsStep (Put id clause hints)
    → addition line id (map lit_text clause ++ codes "0" ∷ (map signed_decimal hints ++ codes "0" ∷ [])) ≡ Ok (Put id clause hints)
addition_back line id clause hints h =
    rw (
      listed_back as_lit with_lit (λ ls. IsTrue (no_twice ls)) lit_text adds_lit line (map signed_decimal hints ++ codes "0" ∷ []) [] clause (each lit_written clause h.1) h.2,
      listed_back as_hint at_end (λ xs. Unit {0}) signed_decimal (λ front x later u. refl) line [] [] hints (each hint_written hints h.3) _,
    ) refl

deletion_back : (line : ℕ) (ids : List ℕ) → AllByRecursion IsId ids → deletion line (map decimal ids ++ codes "0" ∷ []) ≡ Ok (Delete ids)
deletion_back line ids h = rw (listed_back as_id at_end (λ xs. Unit {0}) decimal (λ front x later u. refl) line [] [] ids (each id_written ids h) _) refl

-- a word that names a number isn't `d`
no_d : (word : Text) (n : Number) → number_of word ≡ Some n → bytes_eq word (codes "d") ≡ false
no_d word n e = elim (cases_Bool (bytes_eq word (codes "d"))) [
  | inl q ↦ let d : word ≡ codes "d" = (bytes_eq-Decides word (codes "d")).0 q in absurd (cc (rw d at e))
  | inr q ↦ q
]

lit_no_d : (l : Lit) → IsWritable l → bytes_eq (lit_text l) (codes "d") ≡ false
lit_no_d l h = no_d (lit_text l) (number (not l.positive) (l.var + 1)) (lit_number l most_vars h (omega arith))

-- the words behind the id of an addition don't begin with `d`
not_d : (line id : ℕ) (clause : List Lit) (rest : List Text) → AllByRecursion IsWritable clause
    → behind_id line id (map lit_text clause ++ codes "0" ∷ rest) ≡ addition line id (map lit_text clause ++ codes "0" ∷ rest)
not_d line id [] rest h = refl
not_d line id (l ∷ clause) rest h = rw (lit_no_d l h.0) refl

step_back : (line : ℕ) (step : ProofStep) → IsStep step → step_of line (step_words step) ≡ Ok step
step_back line (Put id clause hints) h =
    rw (id_back id h.0, not_d line id clause (map signed_decimal hints ++ codes "0" ∷ []) h.1) (addition_back line id clause hints h)
step_back line (Delete ids) h = deletion_back line ids h

no_comment : (step : ProofStep) → IsStep step → is_comment (unwords (step_words step)) ≡ false
no_comment (Put id clause hints) h =
    rw (word_on (decimal id) (map lit_text clause) (codes "0") (map signed_decimal hints ++ codes "0" ∷ []))
    (first_byte (decimal id ++ 32 ∷ unwords (map lit_text clause ++ codes "0" ∷ (map signed_decimal hints ++ codes "0" ∷ [])))
    (decimal_first id (32 ∷ unwords (map lit_text clause ++ codes "0" ∷ (map signed_decimal hints ++ codes "0" ∷ []))) h.0.1))
no_comment (Delete ids) h = refl

some_words : (step : ProofStep) → is_nil (step_words step) ≡ false
some_words (Put id clause hints) = refl
some_words (Delete ids) = refl

steps_back : (number : ℕ) (done steps : List ProofStep) → AllByRecursion IsStep steps → steps_from number done (map step_line steps) ≡ Ok (done ++ steps)
steps_back number done [] h = ap Ok (sym (append-nil done))
steps_back number done (step ∷ steps) h =
    rw (no_comment step h.0, words_back (step_words step) (step_is_words step h.0), some_words step, step_back (number + 1) step h.0)
    (steps_back (number + 1) (done ++ step ∷ []) steps h.1 ∙ ap Ok (append_assoc done (step ∷ []) steps))

all_plain : (steps : List ProofStep) → AllByRecursion IsStep steps → list_all is_plain (map step_line steps) ≡ true
all_plain [] h = refl
all_plain (step ∷ steps) h = rw (unwords_plain (step_words step) (step_is_words step h.0)) (all_plain steps h.1)

pub read_again : IsReadAgain
read_again steps h = rw (lines_back (map step_line steps) (all_plain steps h)) (steps_back 0 [] steps h)
