-- Loops that make a circuit: what is made so far, and what the rest makes.
use Rattle.std.proofs.Common.{◌≡◌, ℕ, zero, suc, ◌+◌, ◌-◌, ◌<◌, ◌≤◌, List, [], ◌∷◌, ◌++◌, length, drop, get_or, refl, sym, ap, ap₂, ◌∙◌, ◌≢◌, length-drop, cond, nat_eq, true, false, subst, arith, add-one, append_assoc, append-nil}
use Rattle.std.proofs.Math.Seq.{drop-cons}
use Rattle.std.proofs.lemmas.Bool.Decides.{nat_tests}
use Rattle.cnf_form.specs.declared.lit.Lit.{Lit}
use Rattle.cnf_form.specs.Shape.{Shape}
use Rattle.bit_blast.specs.Circuit.{Entry, Free, And, Xor, Ite, yes, no, with_entries, after, Circuit}
use Rattle.bit_blast.specs.Made.{Makes}
use Rattle.bit_blast.specs.Meaning.{Extends}
use Rattle.bit_blast.specs.Words.{fresh, ite, adder, adder_sum, adder_carry, sum, masked, equal_from, less_from}
use Rattle.bit_blast.proofs.Circuits.{extends_refl, extends_then, vars-with_entries, with_entries-append, after-append, after_more}

-- The formula g is made from f by a front of the entries, and the rest of them is left.
pub record Rest (f g : Shape) (whole rest : List Entry) : Type 0 where
  pub extends : Extends f g
  pub made : with_entries f whole ≡ with_entries g rest

pub rest_start : (f : Shape) (whole : List Entry) → Rest f f whole whole
rest_start f whole = record { extends = extends_refl f; made = refl }

pub rest_step : {f g : Shape} {whole rest : List Entry} (h : Shape) (es left : List Entry) → Rest f g whole rest → rest ≡ es ++ left → h ≡ with_entries g es → Extends g h → Rest f h whole left
rest_step {f} {g} h es left r e m x = record {
  extends = extends_then r.extends x;
  made = r.made ∙ (ap (with_entries g) e ∙ (with_entries-append g es left ∙ ap (λ (y : Shape). with_entries y left) (sym m)));
}

pub rest_end : {f g : Shape} {whole rest : List Entry} → Rest f g whole rest → rest ≡ [] → g ≡ with_entries f whole
rest_end {f} {g} r e = sym (r.made ∙ ap (with_entries g) e)

pub rest_vars : {f g : Shape} {whole rest : List Entry} → Rest f g whole rest → after f.vars whole ≡ after g.vars rest
rest_vars {f} {g} {whole} {rest} r = sym (vars-with_entries f whole) ∙ (ap (λ (y : Shape). y.vars) r.made ∙ vars-with_entries g rest)

pub rest_full : {f g : Shape} {whole rest : List Entry} (n : ℕ) (es left : List Entry) → Rest f g whole rest → rest ≡ es ++ left → n < after g.vars es → n < after f.vars whole
rest_full {f} {g} n es left r e lt = omega (arith, rest_vars r, ap (after g.vars) e, after-append g.vars es left, after_more (after g.vars es) left)

-- ---- sums

pub drop_past : (ls : List Lit) (i : ℕ) → length ls ≤ i → drop i ls ≡ []
drop_past [] zero le = refl
drop_past [] (suc i) le = refl
drop_past (l ∷ ls) zero le = absurd (omega arith)
drop_past (l ∷ ls) (suc i) le = drop_past ls i (omega arith)

pub sum_next : (n : ℕ) (p q : List Lit) (c : Lit) (i : ℕ) (d : Lit) → i < length p → i < length q →
    sum n (drop i p) (drop i q) c ≡ record { entries = adder n (get_or p i d) (get_or q i d) c ++ (sum (suc (adder_carry n)) (drop (i + 1) p) (drop (i + 1) q) (yes (adder_carry n))).entries; result = yes (adder_sum n) ∷ (sum (suc (adder_carry n)) (drop (i + 1) p) (drop (i + 1) q) (yes (adder_carry n))).result }
sum_next n p q c i d l m = rw (add-one, drop-cons p i d l, drop-cons q i d m) refl

-- a sum that has its first bits
pub record SumSoFar (f g : Shape) (a b : List Lit) (first : Lit) (i : ℕ) (c : Lit) (word : List Lit) : Type 0 where
  pub rest : Rest f g (sum f.vars a b first).entries (sum g.vars (drop i a) (drop i b) c).entries
  pub carry : c.var < g.vars
  pub result : (sum f.vars a b first).result ≡ word ++ (sum g.vars (drop i a) (drop i b) c).result

pub sum_start : (f : Shape) (a b : List Lit) (c : Lit) → c.var < f.vars → SumSoFar f f a b c 0 c []
sum_start f a b c lt = record { rest = rest_start f (sum f.vars a b c).entries; carry = lt; result = refl }

pub sum_step : {f g : Shape} {a b : List Lit} {first : Lit} {i : ℕ} {c : Lit} {word : List Lit} (d : Lit) (h : Shape) (bit next : Lit) (longer : List Lit) →
    SumSoFar f g a b first i c word → i < length a → length a ≡ length b →
    h ≡ with_entries g (adder g.vars (get_or a i d) (get_or b i d) c) → Extends g h → bit ≡ yes (adder_sum g.vars) → next ≡ yes (adder_carry g.vars) → longer ≡ word ++ bit ∷ [] →
    SumSoFar f h a b first (i + 1) next longer
sum_step {f} {g} {a} {b} {first} {i} {c} {word} d h bit next longer s lt e m x p q l =
    let lt2 : i < length b = omega arith in
    let n = sum_next g.vars a b c i d lt lt2 in
    let v : h.vars ≡ suc (adder_carry g.vars) = ap (λ (y : Shape). y.vars) m in
    let left = sum (suc (adder_carry g.vars)) (drop (i + 1) a) (drop (i + 1) b) (yes (adder_carry g.vars)) in
    let same : sum h.vars (drop (i + 1) a) (drop (i + 1) b) next ≡ left = rw (v, q) refl in
    record {
      rest = subst (λ (z : Circuit (List Lit)). Rest f h (sum f.vars a b first).entries z.entries) (sym same)
          (rest_step h (adder g.vars (get_or a i d) (get_or b i d) c) left.entries s.rest (ap (λ (z : Circuit (List Lit)). z.entries) n) m x);
      carry = rw (v, q) (omega arith);
      result = s.result ∙ (ap (λ (z : Circuit (List Lit)). word ++ z.result) n
          ∙ (sym (append_assoc word (yes (adder_sum g.vars) ∷ []) left.result)
          ∙ rw (same, l, p) refl));
    }

pub sum_end : {f g : Shape} {a b : List Lit} {first : Lit} {i : ℕ} {c : Lit} {word : List Lit} → SumSoFar f g a b first i c word → length a ≤ i → Makes (List Lit) f g (sum f.vars a b first) word
sum_end {f} {g} {a} {b} {first} {i} {c} {word} s le =
    let none : sum g.vars (drop i a) (drop i b) c ≡ record { entries = []; result = [] } = rw (drop_past a i le) refl in
    record {
      made = rest_end s.rest (ap (λ (z : Circuit (List Lit)). z.entries) none);
      gives = sym (s.result ∙ (ap (λ (z : Circuit (List Lit)). word ++ z.result) none ∙ append-nil word));
    }

pub sum_full : {f g : Shape} {a b : List Lit} {first : Lit} {i : ℕ} {c : Lit} {word : List Lit} (n : ℕ) (d : Lit) → SumSoFar f g a b first i c word → i < length a → length a ≡ length b → n < after g.vars (adder g.vars (get_or a i d) (get_or b i d) c) → n < after f.vars (sum f.vars a b first).entries
sum_full {f} {g} {a} {b} {first} {i} {c} n d s lt e full =
    let lt2 : i < length b = omega arith in
    rest_full n (adder g.vars (get_or a i d) (get_or b i d) c) _ s.rest (ap (λ (z : Circuit (List Lit)). z.entries) (sum_next g.vars a b c i d lt lt2)) full

-- ---- loops that push the literals of a word

-- the circuit `whole` has made its first bits, and `rest` is left of it
pub record SoFar (f g : Shape) (whole rest : Circuit (List Lit)) (word : List Lit) : Type 0 where
  pub left : Rest f g whole.entries rest.entries
  pub result : whole.result ≡ word ++ rest.result

pub so_far_start : (f : Shape) (whole : Circuit (List Lit)) → SoFar f f whole whole []
so_far_start f whole = record { left = rest_start f whole.entries; result = refl }

pub so_far_step : {f g : Shape} {whole rest : Circuit (List Lit)} {word : List Lit} (h : Shape) (es : List Entry) (some : List Lit) (left : Circuit (List Lit)) (longer : List Lit) →
    SoFar f g whole rest word → rest ≡ record { entries = es ++ left.entries; result = some ++ left.result } → h ≡ with_entries g es → Extends g h → longer ≡ word ++ some → SoFar f h whole left longer
so_far_step {word = word} h es some left longer s e m x l = record {
  left = rest_step h es left.entries s.left (ap (λ (z : Circuit (List Lit)). z.entries) e) m x;
  result = s.result ∙ (ap (λ (z : Circuit (List Lit)). word ++ z.result) e ∙ (sym (append_assoc word some left.result) ∙ ap (λ z. z ++ left.result) (sym l)));
}

pub so_far_full : {f g : Shape} {whole rest : Circuit (List Lit)} {word : List Lit} (n : ℕ) (es : List Entry) (some : List Lit) (left : Circuit (List Lit)) →
    SoFar f g whole rest word → rest ≡ record { entries = es ++ left.entries; result = some ++ left.result } → n < after g.vars es → n < after f.vars whole.entries
so_far_full n es some left s e lt = rest_full n es left.entries s.left (ap (λ (z : Circuit (List Lit)). z.entries) e) lt

pub so_far_end : {f g : Shape} {whole rest : Circuit (List Lit)} {word : List Lit} → SoFar f g whole rest word → rest ≡ record { entries = []; result = [] } → Makes (List Lit) f g whole word
so_far_end {word = word} s e = record {
  made = rest_end s.left (ap (λ (z : Circuit (List Lit)). z.entries) e);
  gives = sym (s.result ∙ (ap (λ (z : Circuit (List Lit)). word ++ z.result) e ∙ append-nil word));
}

pub ite_next : (n m : ℕ) (c : Lit) (p q : List Lit) (i : ℕ) (d : Lit) → m ≡ suc n → i < length p → i < length q →
    ite n c (drop i p) (drop i q) ≡ record { entries = (Ite c (get_or p i d) (get_or q i d) ∷ []) ++ (ite m c (drop (i + 1) p) (drop (i + 1) q)).entries; result = (yes n ∷ []) ++ (ite m c (drop (i + 1) p) (drop (i + 1) q)).result }
ite_next n m c p q i d e l k = rw (add-one, drop-cons p i d l, drop-cons q i d k, e) refl

pub ite_end : (n : ℕ) (c : Lit) (p q : List Lit) (i : ℕ) → length p ≤ i → ite n c (drop i p) (drop i q) ≡ record { entries = []; result = [] }
ite_end n c p q i le = rw (drop_past p i le) refl

pub masked_next : (n m : ℕ) (p : List Lit) (b : Lit) (i : ℕ) (d : Lit) → m ≡ suc n → i < length p →
    masked n (drop i p) b ≡ record { entries = (And (get_or p i d) b ∷ []) ++ (masked m (drop (i + 1) p) b).entries; result = (yes n ∷ []) ++ (masked m (drop (i + 1) p) b).result }
masked_next n m p b i d e l = rw (add-one, drop-cons p i d l, e) refl

pub masked_end : (n : ℕ) (p : List Lit) (b : Lit) (i : ℕ) → length p ≤ i → masked n (drop i p) b ≡ record { entries = []; result = [] }
masked_end n p b i le = rw (drop_past p i le) refl

-- ---- loops that make one literal

pub record LitSoFar (f g : Shape) (whole rest : Circuit Lit) : Type 0 where
  pub left : Rest f g whole.entries rest.entries
  pub result : whole.result ≡ rest.result

pub lit_start : (f : Shape) (whole : Circuit Lit) → LitSoFar f f whole whole
lit_start f whole = record { left = rest_start f whole.entries; result = refl }

pub lit_step : {f g : Shape} {whole rest : Circuit Lit} (h : Shape) (es : List Entry) (left : Circuit Lit) →
    LitSoFar f g whole rest → rest ≡ record { entries = es ++ left.entries; result = left.result } → h ≡ with_entries g es → Extends g h → LitSoFar f h whole left
lit_step h es left s e m x = record {
  left = rest_step h es left.entries s.left (ap (λ (z : Circuit Lit). z.entries) e) m x;
  result = s.result ∙ ap (λ (z : Circuit Lit). z.result) e;
}

pub lit_full : {f g : Shape} {whole rest : Circuit Lit} (n : ℕ) (es : List Entry) (left : Circuit Lit) →
    LitSoFar f g whole rest → rest ≡ record { entries = es ++ left.entries; result = left.result } → n < after g.vars es → n < after f.vars whole.entries
lit_full n es left s e lt = rest_full n es left.entries s.left (ap (λ (z : Circuit Lit). z.entries) e) lt

pub lit_end : {f g : Shape} {whole rest : Circuit Lit} (l : Lit) → LitSoFar f g whole rest → rest ≡ record { entries = []; result = l } → Makes Lit f g whole l
lit_end l s e = record {
  made = rest_end s.left (ap (λ (z : Circuit Lit). z.entries) e);
  gives = sym (s.result ∙ ap (λ (z : Circuit Lit). z.result) e);
}

pub equal_next : (n m : ℕ) (p q : List Lit) (e next : Lit) (i : ℕ) (d : Lit) → m ≡ suc (suc n) → next ≡ yes (suc n) → i < length p → i < length q →
    equal_from n (drop i p) (drop i q) e ≡ record { entries = (Xor (get_or p i d) (get_or q i d) ∷ And e (no n) ∷ []) ++ (equal_from m (drop (i + 1) p) (drop (i + 1) q) next).entries; result = (equal_from m (drop (i + 1) p) (drop (i + 1) q) next).result }
equal_next n m p q e next i d v w l k = rw (add-one, drop-cons p i d l, drop-cons q i d k, v, w) refl

pub equal_end : (n : ℕ) (p q : List Lit) (e : Lit) (i : ℕ) → length p ≤ i → equal_from n (drop i p) (drop i q) e ≡ record { entries = []; result = e }
equal_end n p q e i le = rw (drop_past p i le) refl

pub less_next : (n m : ℕ) (p q : List Lit) (l chosen next : Lit) (i : ℕ) (d : Lit) → m ≡ suc (suc n) → next ≡ yes (suc n) → (i + 1 ≡ length p → chosen ≡ get_or p i d) → (i + 1 ≢ length p → chosen ≡ get_or q i d) → i < length p → length p ≡ length q →
    less_from n (drop i p) (drop i q) l ≡ record { entries = (Xor (get_or p i d) (get_or q i d) ∷ Ite (yes n) chosen l ∷ []) ++ (less_from m (drop (i + 1) p) (drop (i + 1) q) next).entries; result = (less_from m (drop (i + 1) p) (drop (i + 1) q) next).result }
less_next n m p q l chosen next i d v w last inner k e =
    let k2 : i < length q = omega arith in
    ap₂ (λ x y. less_from n x y l) (drop-cons p i d k) (drop-cons q i d k2)
    ∙ (go (drop (suc i) p) (drop (suc i) q) (get_or p i d) (get_or q i d) (omega (arith, length-drop (suc i) p, length-drop (suc i) q)) (λ z. last (omega (arith, ap length z, length-drop (suc i) p))) (λ z. inner (λ y. z (short p i (omega arith))))
    ∙ rw (add-one, v, w) refl)
  where
    short : (ls : List Lit) (i : ℕ) → length ls ≤ suc i → drop (suc i) ls ≡ []
    short ls i le = drop_past ls (suc i) le

    go : (x y : List Lit) (a b : Lit) → length x ≡ length y → (x ≡ [] → chosen ≡ a) → ((x ≡ [] → ⊥) → chosen ≡ b) →
        less_from n (a ∷ x) (b ∷ y) l ≡ record { entries = Xor a b ∷ Ite (yes n) chosen l ∷ (less_from (suc (suc n)) x y (yes (suc n))).entries; result = (less_from (suc (suc n)) x y (yes (suc n))).result }
    go [] [] a b s f g = rw (f refl) refl
    go [] (y ∷ ys) a b s f g = absurd (omega arith)
    go (x ∷ xs) [] a b s f g = absurd (omega arith)
    go (x ∷ xs) (y ∷ ys) a b s f g = rw (g (λ z. cc)) refl

pub less_end : (n : ℕ) (p q : List Lit) (l : Lit) (i : ℕ) → length p ≤ i → less_from n (drop i p) (drop i q) l ≡ record { entries = []; result = l }
less_end n p q l i le = rw (drop_past p i le) refl

pub chosen_last : (chosen a b : Lit) (x y : ℕ) → chosen ≡ cond (nat_eq x y) a b → x ≡ y → chosen ≡ a
chosen_last chosen a b x y e q = let t : nat_eq x y ≡ true = grind (arith, nat_tests) in e ∙ rw t refl

pub chosen_inner : (chosen a b : Lit) (x y : ℕ) → chosen ≡ cond (nat_eq x y) a b → x ≢ y → chosen ≡ b
chosen_inner chosen a b x y e q = let t : nat_eq x y ≡ false = grind (arith, nat_tests) in e ∙ rw t refl

pub fresh_next : (n m b i : ℕ) → m ≡ suc n → i < b → fresh n (b - i) ≡ record { entries = (Free ∷ []) ++ (fresh m (b - (i + 1))).entries; result = (yes n ∷ []) ++ (fresh m (b - (i + 1))).result }
fresh_next n m b i e lt = ap (fresh n) (let k : b - i ≡ suc (b - (i + 1)) = omega arith in k) ∙ rw e refl

pub fresh_end : (n b i : ℕ) → b ≤ i → fresh n (b - i) ≡ record { entries = []; result = [] }
fresh_end n b i le = ap (fresh n) (let k : b - i ≡ 0 = omega arith in k)
