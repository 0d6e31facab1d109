-- Formulas that grow, and literals below a number of variables.
use Rattle.std.proofs.Common.{◌≡◌, ◌<◌, ◌≤◌, ◌∙◌, ℕ, ltb, Bool, true, false, List, [], ◌∷◌, ◌++◌, length, length-append, refl, arith}
use Rattle.std.specs.List.{list_all}
use Rattle.std.proofs.lemmas.Bool.{and_from, and_parts, lt-ltb}
use Rattle.std.proofs.lemmas.Bool.Decides.{nat_tests}
use Rattle.std.proofs.lemmas.List.Folds.{list_all-append}
use Rattle.cnf_form.specs.declared.lit.Lit.{Lit}
use Rattle.cnf_form.specs.Limits.{most_vars, most_clauses}
use Rattle.cnf_form.specs.Lits.{is_in, no_twice, with_lit, below}
use Rattle.cnf_form.specs.Shape.{IsFormula, shape}

-- what passes a test passes a weaker one
list_all_weaker : {X : Type 0} (p q : X → Bool) → ((x : X) → p x ≡ true → q x ≡ true) → (xs : List X) → list_all p xs ≡ true → list_all q xs ≡ true
list_all_weaker p q h [] t = refl
list_all_weaker p q h (x ∷ xs) t =
    let s = and_parts (p x) (list_all p xs) t in
    and_from (q x) (list_all q xs) (h x s.0) (list_all_weaker p q h xs s.1)

pub list_all_push : {X : Type 0} (p : X → Bool) (xs : List X) (x : X) → list_all p xs ≡ true → p x ≡ true → list_all p (xs ++ x ∷ []) ≡ true
list_all_push p xs x h t = list_all-append p xs (x ∷ []) ∙ and_from (list_all p xs) (list_all p (x ∷ [])) h (and_from (p x) true t refl)

ltb_more : (x m n : ℕ) → m ≤ n → ltb x m ≡ true → ltb x n ≡ true
ltb_more x m n le t = grind (arith, nat_tests)

below_more : (c : List Lit) (m n : ℕ) → m ≤ n → below m c ≡ true → below n c ≡ true
below_more c m n le t = list_all_weaker (λ (l : Lit). ltb l.var m) (λ (l : Lit). ltb l.var n) (λ l. ltb_more l.var m n le) c t

pub below_with : (n : ℕ) (lits : List Lit) (l : Lit) → below n lits ≡ true → l.var < n → below n (with_lit l lits) ≡ true
below_with n lits l t h = go (is_in l lits) refl
  where
    go : (b : Bool) → is_in l lits ≡ b → below n (with_lit l lits) ≡ true
    go true e = rw e t
    go false e = rw e (list_all_push (λ (k : Lit). ltb k.var n) lits l t (lt-ltb l.var n h))

pub IsFormula_grow : (m n : ℕ) (clauses : List (List Lit)) → IsFormula (shape m clauses) → m ≤ n → n ≤ most_vars → IsFormula (shape n clauses)
IsFormula_grow m n clauses f le few =
    (few, f.1, list_all_weaker (below m) (below n) (λ c. below_more c m n le) clauses f.2, f.3)

pub IsFormula_push : (n : ℕ) (clauses : List (List Lit)) (c : List Lit) → IsFormula (shape n clauses) → length clauses < most_clauses → below n c ≡ true → no_twice c ≡ true → IsFormula (shape n (clauses ++ c ∷ []))
IsFormula_push n clauses c f few b once =
    let k = length-append clauses (c ∷ []) in
    (f.0, omega (arith, k, few), list_all_push (below n) clauses c f.2 b, list_all_push no_twice clauses c f.3 once)
