-- Lists of literals, each once.
use Rattle.std.proofs.Common.{◌≡◌, ℕ, zero, suc, ◌+◌, ◌<◌, ◌≤◌, Bool, true, false, not, ◌&&◌, ◌||◌, cond, List, [], ◌∷◌, ◌++◌, length, drop, get_or, refl, sym, ap, ◌∙◌, inl, inr, arith, add-one}
use Rattle.std.proofs.Math.Seq.{drop-cons}
use Rattle.std.proofs.lemmas.Bool.{and_parts, false≢true, cases_Bool}
use Rattle.cnf_form.specs.declared.lit.Lit.{Lit}
use Rattle.cnf_form.specs.Lits.{same, is_in, no_twice}
use Rattle.cnf_form.proofs.LitFacts.{same-swap}
use Rattle.bit_blast.specs.Circuit.{once_after}

pub is_in_next : (x : Lit) (ls : List Lit) (i : ℕ) (d : Lit) → i < length ls → is_in x (drop i ls) ≡ (same x (get_or ls i d) || is_in x (drop (i + 1) ls))
is_in_next x ls i d lt = rw (add-one, drop-cons ls i d lt) refl

pub is_in_end : (x : Lit) (ls : List Lit) (i : ℕ) → length ls ≤ i → is_in x (drop i ls) ≡ false
is_in_end x ls i le = rw (drop_past ls i le) refl
  where
    drop_past : (ls : List Lit) (i : ℕ) → length ls ≤ i → drop i ls ≡ []
    drop_past [] zero le = refl
    drop_past [] (suc i) le = refl
    drop_past (l ∷ ls) zero le = absurd (omega arith)
    drop_past (l ∷ ls) (suc i) le = drop_past ls i (omega arith)

is_in-append : (x : Lit) (ls : List Lit) (l : Lit) → is_in x (ls ++ l ∷ []) ≡ (is_in x ls || same x l)
is_in-append x [] l = go (same x l)
  where
    go : (b : Bool) → (b || false) ≡ b
    go true = refl
    go false = refl
is_in-append x (k ∷ ls) l = ap (λ t. same x k || t) (is_in-append x ls l) ∙ go (same x k) (is_in x ls) (same x l)
  where
    go : (a b c : Bool) → (a || (b || c)) ≡ ((a || b) || c)
    go true b c = refl
    go false b c = refl

-- a literal that isn't kept may be added
pub no_twice-push : (ls : List Lit) (l : Lit) → is_in l ls ≡ false → no_twice ls ≡ true → no_twice (ls ++ l ∷ []) ≡ true
no_twice-push [] l i n = refl
no_twice-push (k ∷ ls) l i n =
    let p = and_parts (not (is_in k ls)) (no_twice ls) n in
    rw (is_in-append k ls l, same-swap k l, no_twice-push ls l (second (same l k) (is_in l ls) i) p.1) (go (is_in k ls) (same l k) p.0 (first (same l k) (is_in l ls) i))
  where
    first : (a b : Bool) → (a || b) ≡ false → a ≡ false
    first true b e = e
    first false b e = refl

    second : (a b : Bool) → (a || b) ≡ false → b ≡ false
    second true b e = absurd (false≢true (sym e))
    second false b e = e

    go : (a b : Bool) → not a ≡ true → b ≡ false → (not (a || b) && true) ≡ true
    go true b p q = absurd (false≢true p)
    go false true p q = absurd (false≢true (sym q))
    go false false p q = refl

pub once_next : (kept ls : List Lit) (i : ℕ) (d : Lit) → i < length ls → once_after kept (drop i ls) ≡ once_after (cond (is_in (get_or ls i d) kept) kept (kept ++ get_or ls i d ∷ [])) (drop (i + 1) ls)
once_next kept ls i d lt = rw (add-one, drop-cons ls i d lt) refl

pub once_end : (kept ls : List Lit) (i : ℕ) → length ls ≤ i → once_after kept (drop i ls) ≡ kept
once_end kept ls i le = rw (drop_past ls i le) refl
  where
    drop_past : (ls : List Lit) (i : ℕ) → length ls ≤ i → drop i ls ≡ []
    drop_past [] zero le = refl
    drop_past [] (suc i) le = refl
    drop_past (l ∷ ls) zero le = absurd (omega arith)
    drop_past (l ∷ ls) (suc i) le = drop_past ls i (omega arith)

pub kept_once : (kept : List Lit) (l : Lit) → no_twice kept ≡ true → no_twice (cond (is_in l kept) kept (kept ++ l ∷ [])) ≡ true
kept_once kept l n = elim (cases_Bool (is_in l kept)) [
  | inl e ↦ rw e n
  | inr e ↦ rw e (no_twice-push kept l e n)
]
