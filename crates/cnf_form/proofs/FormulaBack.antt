-- A formula that is written is read again.
use Rattle.std.proofs.Common.{◌≡◌, ◌<◌, ◌≤◌, ◌+◌, ◌-◌, ◌∙◌, ℕ, Bool, true, false, not, nat_lt, ltb, eqb, List, [], ◌∷◌, ◌++◌, codes, length, map, get_or, Some, Ok, refl, sym, ap, subst, arith, IsTrue}
use Rattle.std.specs.Prelude.{decimal}
use Rattle.std.specs.List.{list_all}
use Rattle.std.proofs.lemmas.Bool.{and_parts, or_parts, ne_eqb, eq-eqb}
use Rattle.std.proofs.lemmas.Bool.Decides.{nat_tests}
use Rattle.std.proofs.lemmas.List.{append_assoc, append-nil}
use Rattle.cnf_form.specs.declared.lit.Lit.{Lit}
use Rattle.cnf_form.specs.Limits.{most_vars}
use Rattle.cnf_form.specs.Lines.{Text, is_comment, lines, unwords}
use Rattle.cnf_form.specs.Lits.{same, is_in, no_twice, below, all_below}
use Rattle.cnf_form.specs.Numbers.{number_of}
use Rattle.cnf_form.specs.Shape.{Shape, IsFormula, shape}
use Rattle.cnf_form.specs.Dimacs.{Partial, header_of, lit_of, with_word, with_words, with_line, clauses_from}
use Rattle.cnf_form.specs.Written.{lit_text, clause_words, clause_line, header_words, formula_text, IsReadAgain}
use Rattle.cnf_form.proofs.LitFacts.{same-swap, no_longer}
use Rattle.cnf_form.proofs.TextBack.{is_plain, is_word, lines_back, words_back, unwords_plain, word_on, number, number_back, minus_back, natural_back, decimal_word, minus_word, decimal_first}

abbrev so_far : ℕ → List (List Lit) → List Lit → Partial
so_far vars clauses current = record { vars = vars; clauses = clauses; current = current }

ltb_is : (m n : ℕ) → IsTrue (ltb m n) → m < n
ltb_is m n t = grind (arith, nat_tests)

not_below : (m n : ℕ) → n ≤ m → nat_lt m n ≡ false
not_below m n h = grind (arith, nat_tests)

-- ---- literals

pub lit_word : (l : Lit) (n : ℕ) → l.var < n → n ≤ most_vars → is_word (lit_text l) ≡ true
lit_word l n h u = go l.positive refl
  where
    go : (p : Bool) → l.positive ≡ p → is_word (lit_text l) ≡ true
    go true e = rw e (decimal_word (l.var + 1) (omega (arith, h, u)))
    go false e = rw e (minus_word (l.var + 1) (omega (arith, h, u)))

pub lit_number : (l : Lit) (n : ℕ) → l.var < n → n ≤ most_vars → number_of (lit_text l) ≡ Some (number (not l.positive) (l.var + 1))
lit_number l n h u = go l.positive refl
  where
    go : (p : Bool) → l.positive ≡ p → number_of (lit_text l) ≡ Some (number (not l.positive) (l.var + 1))
    go true e = rw e (number_back (l.var + 1) (omega (arith, h, u)))
    go false e = rw e (minus_back (l.var + 1) (omega (arith, h, u)))

not-not : (b : Bool) → not (not b) ≡ b
not-not true = refl
not-not false = refl

one_less : (n : ℕ) → (n + 1) - 1 ≡ n
one_less n = omega arith

pub lit_back : (l : Lit) → lit_of (number (not l.positive) (l.var + 1)) ≡ l
lit_back l = λ i. record { var = one_less l.var i; positive = not-not l.positive i }

-- ---- clauses

lits_words : (n : ℕ) (lits : List Lit) → IsTrue (below n lits) → n ≤ most_vars → list_all is_word (clause_words lits) ≡ true
lits_words n [] b u = refl
lits_words n (l ∷ lits) b u =
    rw (lit_word l n (ltb_is l.var n ((and_parts (ltb l.var n) (below n lits) b).0)) u) (lits_words n lits ((and_parts (ltb l.var n) (below n lits) b).1) u)

apart : (k l : Lit) (front later : List Lit) → is_in k (front ++ l ∷ later) ≡ false → same k l ≡ false
apart k l [] later e = (or_parts (same k l) (is_in k later) e).0
apart k l (b ∷ front) later e = apart k l front later (or_parts (same k b) (is_in k (front ++ l ∷ later)) e).1

pub not_in_front : (front : List Lit) (l : Lit) (later : List Lit) → IsTrue (no_twice (front ++ l ∷ later)) → is_in l front ≡ false
not_in_front [] l later t = refl
not_in_front (k ∷ front) l later t =
    let here = no_longer (is_in k (front ++ l ∷ later)) (and_parts (not (is_in k (front ++ l ∷ later))) (no_twice (front ++ l ∷ later)) t).0 in
    rw (same-swap l k, apart k l front later here) (not_in_front front l later ((and_parts (not (is_in k (front ++ l ∷ later))) (no_twice (front ++ l ∷ later)) t).1))

next_lit : (n line : ℕ) (done : List (List Lit)) (front : List Lit) (l : Lit) → l.var < n → n ≤ most_vars → is_in l front ≡ false
    → with_word line (so_far n done front) (lit_text l) ≡ Ok (so_far n done (front ++ l ∷ []))
next_lit n line done front l h u a =
    rw (lit_number l n h u, not_below n (l.var + 1) (omega (arith, h)), ne_eqb (l.var + 1) 0 (λ q. omega (arith, q)), lit_back l, a) refl

pub clause_back : (n line : ℕ) (done : List (List Lit)) (front lits : List Lit) → IsTrue (below n lits) → n ≤ most_vars → IsTrue (no_twice (front ++ lits))
    → with_words line (so_far n done front) (clause_words lits) ≡ Ok (so_far n (done ++ (front ++ lits) ∷ []) [])
clause_back n line done front [] b u t = rw (not_below n 0 (omega arith), append-nil front) refl
clause_back n line done front (l ∷ lits) b u t =
    let h = ltb_is l.var n ((and_parts (ltb l.var n) (below n lits) b).0) in
    let e : (front ++ l ∷ []) ++ lits ≡ front ++ l ∷ lits = append_assoc front (l ∷ []) lits in
    rw (next_lit n line done front l h u (not_in_front front l lits t))
    (clause_back n line done (front ++ l ∷ []) lits ((and_parts (ltb l.var n) (below n lits) b).1) u (subst (λ x. IsTrue (no_twice x)) (sym e) t)
    ∙ ap (λ x. Ok (so_far n (done ++ x ∷ []) [])) e)

pub first_byte : (text : Text) → eqb (get_or text 0 0) 99 ≡ false → is_comment text ≡ false
first_byte [] h = refl
first_byte (b ∷ text) h = h

lit_first : (l : Lit) (rest : Text) (n : ℕ) → l.var < n → n ≤ most_vars → is_comment (lit_text l ++ rest) ≡ false
lit_first l rest n h u = go l.positive refl
  where
    go : (p : Bool) → l.positive ≡ p → is_comment (lit_text l ++ rest) ≡ false
    go true e = rw e (first_byte (decimal (l.var + 1) ++ rest) (decimal_first (l.var + 1) rest (omega (arith, h, u))))
    go false e = rw e refl

no_comment : (n : ℕ) (lits : List Lit) → IsTrue (below n lits) → n ≤ most_vars → is_comment (unwords (clause_words lits)) ≡ false
no_comment n [] b u = refl
no_comment n (l ∷ lits) b u = rw (word_on (lit_text l) (map lit_text lits) (codes "0") []) (lit_first l (32 ∷ unwords (clause_words lits)) n (ltb_is l.var n ((and_parts (ltb l.var n) (below n lits) b).0)) u)

line_back : (n line : ℕ) (done : List (List Lit)) (lits : List Lit) → IsTrue (below n lits) → n ≤ most_vars → IsTrue (no_twice lits)
    → with_line line (so_far n done []) (unwords (clause_words lits)) ≡ Ok (so_far n (done ++ lits ∷ []) [])
line_back n line done lits b u t = rw (no_comment n lits b u, words_back (clause_words lits) (lits_words n lits b u)) (clause_back n line done [] lits b u t)

clauses_back : (n number : ℕ) (done cs : List (List Lit)) → IsTrue (all_below n cs) → n ≤ most_vars → list_all no_twice cs ≡ true
    → clauses_from (length (done ++ cs)) number (so_far n done []) (map clause_line cs) ≡ Ok (shape n (done ++ cs))
clauses_back n number done [] b u a =
    let e = append-nil done in
    rw (eq-eqb (length done) (length (done ++ [])) (sym (ap length e))) (ap (λ x. Ok (shape n x)) (sym e))
clauses_back n number done (lits ∷ cs) b u a =
    let e : (done ++ lits ∷ []) ++ cs ≡ done ++ lits ∷ cs = append_assoc done (lits ∷ []) cs in
    let here = and_parts (below n lits) (all_below n cs) b in
    let once = and_parts (no_twice lits) (list_all no_twice cs) a in
    rw (line_back n (number + 1) done lits here.0 u once.0)
    (subst (λ x. clauses_from (length x) (number + 1) (so_far n (done ++ lits ∷ []) []) (map clause_line cs) ≡ Ok (shape n x)) e
    (clauses_back n (number + 1) (done ++ lits ∷ []) cs here.1 u once.1))

-- ---- the whole

all_plain : (n : ℕ) (cs : List (List Lit)) → IsTrue (all_below n cs) → n ≤ most_vars → list_all is_plain (map clause_line cs) ≡ true
all_plain n [] b u = refl
all_plain n (lits ∷ cs) b u =
    rw (unwords_plain (clause_words lits) (lits_words n lits ((and_parts (below n lits) (all_below n cs) b).0) u)) (all_plain n cs ((and_parts (below n lits) (all_below n cs) b).1) u)

header_is_word : (f : Shape) → IsFormula f → list_all is_word (header_words f) ≡ true
header_is_word f h = rw (decimal_word f.vars (let v = h.0 in omega (arith, v)), decimal_word (length f.clauses) (let c = h.1 in omega (arith, c))) refl

header_back : (f : Shape) → IsFormula f → header_of (header_words f) ≡ Some (record { vars = f.vars; count = length f.clauses })
header_back f h = rw (natural_back f.vars (let v = h.0 in omega (arith, v)), natural_back (length f.clauses) (let c = h.1 in omega (arith, c))) refl

lines_of : (f : Shape) → IsFormula f → lines (formula_text f) ≡ unwords (header_words f) ∷ map clause_line f.clauses
lines_of f h = lines_back (unwords (header_words f) ∷ map clause_line f.clauses)
    (rw (unwords_plain (header_words f) (header_is_word f h)) (all_plain f.vars f.clauses h.2 h.0))

pub read_again : IsReadAgain
read_again f h =
    rw (lines_of f h, words_back (header_words f) (header_is_word f h), header_back f h, not_below most_vars f.vars h.0)
    (clauses_back f.vars 1 [] f.clauses h.2 h.0 h.3)
