-- What is written piece by piece.
use Rattle.std.proofs.Common.{◌≡◌, ◌+◌, ◌<◌, ◌∙◌, ℕ, suc, ℤ, pos, negsuc, true, false, arith, List, [], ◌∷◌, ◌++◌, codes, length, drop, map, refl, sym}
use Rattle.std.specs.Prelude.{◌-ℤ◌}
use Rattle.std.specs.Fmt.{signed_decimal}
use Rattle.std.proofs.lemmas.Int.{ints}
use Rattle.std.proofs.Common.{slice_index_or}
use Rattle.std.proofs.lemmas.List.{append_assoc, append-nil}
use Rattle.cnf_form.specs.declared.lit.Lit.{Lit}
use Rattle.cnf_form.specs.Shape.{Shape}
use Rattle.cnf_form.specs.Lines.{Text, unwords, unlines}
use Rattle.cnf_form.specs.Written.{lit_text, clause_words, clause_line, header_words, formula_text}
use Rattle.cnf_form.proofs.Places.{at_index}
use Rattle.cnf_form.proofs.TextBack.{word_on}

-- a literal's number, as a signed one
pub signed_positive : (l : Lit) (z : ℤ) → l.positive ≡ true → z ≡ pos (l.var + 1) → signed_decimal z ≡ lit_text l
signed_positive l z p e = rw (e, p) refl

minus : (n : ℕ) → pos 0 -ℤ pos (n + 1) ≡ negsuc n
minus n = omega (arith, ints)

pub signed_negative : (l : Lit) (z : ℤ) → l.positive ≡ false → z ≡ pos 0 -ℤ pos (l.var + 1) → signed_decimal z ≡ lit_text l
signed_negative l z p e = let k : suc l.var ≡ l.var + 1 = omega arith in rw (e, minus l.var, p, k) refl

pub lit_more : (all old : Text) (lits : List Lit) (i : ℕ) (d : Lit) → i < length lits → all ≡ old ++ (unwords (clause_words (drop i lits)) ++ codes "\n")
    → all ≡ ((old ++ lit_text (slice_index_or lits i d)) ++ codes " ") ++ (unwords (clause_words (drop (i + 1) lits)) ++ codes "\n")
lit_more all old lits i d h e =
    let w = lit_text (slice_index_or lits i d) in
    let r = unwords (clause_words (drop (i + 1) lits)) in
    e ∙ rw (at_index lits i d h, word_on w (map lit_text (drop (i + 1) lits)) (codes "0") [], append_assoc w (32 ∷ r) (codes "\n"), append_assoc (old ++ w) (codes " ") (r ++ codes "\n"), append_assoc old w (codes " " ++ (r ++ codes "\n"))) refl

pub clause_end : (old all : Text) → all ≡ old ++ (unwords (clause_words []) ++ codes "\n") → old ++ codes "0\n" ≡ all
clause_end old all e = sym e

pub header_pieces : (old v c : Text) → ((((old ++ codes "p cnf ") ++ v) ++ codes " ") ++ c) ++ codes "\n" ≡ old ++ (unwords (codes "p" ∷ codes "cnf" ∷ v ∷ c ∷ []) ++ codes "\n")
header_pieces old v c =
    rw (
      append_assoc (((old ++ codes "p cnf ") ++ v) ++ codes " ") c (codes "\n"),
      append_assoc ((old ++ codes "p cnf ") ++ v) (codes " ") (c ++ codes "\n"),
      append_assoc (old ++ codes "p cnf ") v (codes " " ++ (c ++ codes "\n")),
      append_assoc old (codes "p cnf ") (v ++ (codes " " ++ (c ++ codes "\n"))),
      append_assoc v (32 ∷ c) (codes "\n"),
    ) refl

-- a line with a line feed behind it, at the front of lines
line_on : (line : Text) (later : List Text) → unlines (line ∷ later) ≡ (line ++ codes "\n") ++ unlines later
line_on line later = sym (append_assoc line (codes "\n") (unlines later))

pub clauses_first : (old : Text) (f : Shape) → old ++ formula_text f ≡ (old ++ (unwords (header_words f) ++ codes "\n")) ++ unlines (map clause_line f.clauses)
clauses_first old f =
    rw (line_on (unwords (header_words f)) (map clause_line f.clauses))
    (sym (append_assoc old (unwords (header_words f) ++ codes "\n") (unlines (map clause_line f.clauses))))

pub clause_more : (all old : Text) (cs : List (List Lit)) (i : ℕ) (d : List Lit) → i < length cs → all ≡ old ++ unlines (map clause_line (drop i cs))
    → all ≡ (old ++ (clause_line (slice_index_or cs i d) ++ codes "\n")) ++ unlines (map clause_line (drop (i + 1) cs))
clause_more all old cs i d h e =
    let line = clause_line (slice_index_or cs i d) in
    let later = map clause_line (drop (i + 1) cs) in
    e ∙ rw (at_index cs i d h, line_on line later) (sym (append_assoc old (line ++ codes "\n") (unlines later)))

pub no_more : (all old : Text) → all ≡ old ++ unlines [] → all ≡ old
no_more all old e = e ∙ append-nil old
