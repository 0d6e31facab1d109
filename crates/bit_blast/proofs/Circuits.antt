-- The laws of circuits: what satisfies a formula with a circuit's clauses gives each gate its value, and each assignment
-- extends to one that does.
use Rattle.std.proofs.Common.{◌≡◌, ℕ, suc, ◌+◌, ◌*◌, ◌<◌, ◌≤◌, length, length-append, ltb, Bool, true, false, not, ◌&&◌, ◌||◌, cond, List, [], ◌∷◌, ◌++◌, refl, sym, ap, ap₂, ◌∙◌, subst, ◌⊎◌, inl, inr, arith, IsTrue, append_assoc}
use Rattle.std.specs.Bool.{beq}
use Rattle.std.proofs.lemmas.Bool.{and_parts, or_cases, false≢true, cases_Bool}
use Rattle.std.proofs.lemmas.Bool.Decides.{nat_tests}
use Rattle.cnf_form.specs.declared.lit.Lit.{Lit}
use Rattle.cnf_form.specs.Limits.{most_vars}
use Rattle.cnf_form.specs.Lits.{same, is_in, truth, holds, satisfies, below, all_below}
use Rattle.cnf_form.specs.Shape.{Shape, Satisfies}
use Rattle.bit_blast.specs.Circuit.{Entry, Free, And, Or, Xor, Ite, Require, yes, no, once, once_after, clauses_of, behind, with_entry, with_entries, after}
use Rattle.bit_blast.specs.Limits.{clauses_per_var}
use Rattle.bit_blast.specs.Meaning.{differ, ReadsBelow, Agree, Extends}
use Rattle.bit_blast.proofs.Values.{value_of, Obeys, Meets, assign, extend, IsOrdered, IsGate, AreGates}
use Rattle.cnf_form.proofs.LitFacts.{same-true, truth-turned}

-- ---- each literal once

or-assoc : (a b c : Bool) → ((a || b) || c) ≡ (a || (b || c))
or-assoc true b c = refl
or-assoc false b c = refl

or-false : (a : Bool) → (a || false) ≡ a
or-false true = refl
or-false false = refl

holds-append : (v : ℕ → Bool) (c d : List Lit) → holds v (c ++ d) ≡ (holds v c || holds v d)
holds-append v [] d = refl
holds-append v (l ∷ c) d = ap (λ x. truth v l || x) (holds-append v c d) ∙ sym (or-assoc (truth v l) (holds v c) (holds v d))

-- a literal that is kept is true only where the kept ones are
absorbed : (v : ℕ → Bool) (kept : List Lit) (l : Lit) → is_in l kept ≡ true → (holds v kept || truth v l) ≡ holds v kept
absorbed v [] l i = absurd (false≢true i)
absorbed v (k ∷ kept) l i =
    elim (or_cases (same l k) (is_in l kept) i) [
      | inl s ↦ subst (λ (x : Lit). (holds v (x ∷ kept) || truth v l) ≡ holds v (x ∷ kept)) (same-true l k s) (go (truth v l) (holds v kept))
      | inr t ↦ or-assoc (truth v k) (holds v kept) (truth v l) ∙ ap (λ x. truth v k || x) (absorbed v kept l t)
    ]
  where
    go : (a b : Bool) → ((a || b) || a) ≡ (a || b)
    go true b = refl
    go false true = refl
    go false false = refl

holds-once_after : (v : ℕ → Bool) (kept ls : List Lit) → holds v (once_after kept ls) ≡ (holds v kept || holds v ls)
holds-once_after v kept [] = sym (or-false (holds v kept))
holds-once_after v kept (l ∷ ls) = elim (cases_Bool (is_in l kept)) [
  | inl e ↦ rw e (holds-once_after v kept ls ∙ (ap (λ x. x || holds v ls) (sym (absorbed v kept l e)) ∙ or-assoc (holds v kept) (truth v l) (holds v ls)))
  | inr e ↦ rw e (holds-once_after v (kept ++ l ∷ []) ls
      ∙ (ap (λ x. x || holds v ls) (holds-append v kept (l ∷ []) ∙ ap (λ x. holds v kept || x) (or-false (truth v l)))
      ∙ or-assoc (holds v kept) (truth v l) (holds v ls)))
]

pub holds-once : (v : ℕ → Bool) (ls : List Lit) → holds v (once ls) ≡ holds v ls
unfolding once
holds-once v ls = holds-once_after v [] ls

-- ---- the clauses of a gate

pub truth-yes : (v : ℕ → Bool) (n : ℕ) → truth v (yes n) ≡ v n
unfolding truth
truth-yes v n = go (v n)
  where
    go : (b : Bool) → beq b true ≡ b
    go true = refl
    go false = refl

pub truth-no : (v : ℕ → Bool) (n : ℕ) → truth v (no n) ≡ not (v n)
unfolding truth
truth-no v n = go (v n)
  where
    go : (b : Bool) → beq b false ≡ not b
    go true = refl
    go false = refl

and_table : (x a b : Bool) → ((not x || (a || false)) && ((not x || (b || false)) && ((x || (not a || (not b || false))) && true))) ≡ beq x (a && b)
and_table true true true = refl
and_table true true false = refl
and_table true false true = refl
and_table true false false = refl
and_table false true true = refl
and_table false true false = refl
and_table false false true = refl
and_table false false false = refl

or_table : (x a b : Bool) → ((x || (not a || false)) && ((x || (not b || false)) && ((not x || (a || (b || false))) && true))) ≡ beq x (a || b)
or_table true true true = refl
or_table true true false = refl
or_table true false true = refl
or_table true false false = refl
or_table false true true = refl
or_table false true false = refl
or_table false false true = refl
or_table false false false = refl

xor_table : (x a b : Bool) → ((not x || (a || (b || false))) && ((not x || (not a || (not b || false))) && ((x || (not a || (b || false))) && ((x || (a || (not b || false))) && true)))) ≡ beq x (differ a b)
xor_table true true true = refl
xor_table true true false = refl
xor_table true false true = refl
xor_table true false false = refl
xor_table false true true = refl
xor_table false true false = refl
xor_table false false true = refl
xor_table false false false = refl

ite_table : (x c a b : Bool) → ((not x || (not c || (a || false))) && ((x || (not c || (not a || false))) && ((not x || (c || (b || false))) && ((x || (c || (not b || false))) && true)))) ≡ beq x (cond c a b)
ite_table true true true b = refl
ite_table true true false b = refl
ite_table true false a true = refl
ite_table true false a false = refl
ite_table false true true b = refl
ite_table false true false b = refl
ite_table false false a true = refl
ite_table false false a false = refl

-- whether an entry is as it should be under an assignment
entry_test : (ℕ → Bool) → ℕ → Entry → Bool
entry_test v n Free = true
entry_test v n (And a b) = beq (v n) (truth v a && truth v b)
entry_test v n (Or a b) = beq (v n) (truth v a || truth v b)
entry_test v n (Xor a b) = beq (v n) (differ (truth v a) (truth v b))
entry_test v n (Ite c a b) = beq (v n) (cond (truth v c) (truth v a) (truth v b))
entry_test v n (Require c) = holds v c

and-true : (b : Bool) → (b && true) ≡ b
and-true true = refl
and-true false = refl

-- the clauses of an entry say just that
tested : (v : ℕ → Bool) (n : ℕ) (e : Entry) → satisfies v (clauses_of n e) ≡ entry_test v n e
unfolding entry_test
tested v n Free = refl
tested v n (And a b) = simp (holds-once, truth-yes, truth-no, truth-turned) (and_table (v n) (truth v a) (truth v b))
tested v n (Or a b) = simp (holds-once, truth-yes, truth-no, truth-turned) (or_table (v n) (truth v a) (truth v b))
tested v n (Xor a b) = simp (holds-once, truth-yes, truth-no, truth-turned) (xor_table (v n) (truth v a) (truth v b))
tested v n (Ite c a b) = simp (holds-once, truth-yes, truth-no, truth-turned) (ite_table (v n) (truth v c) (truth v a) (truth v b))
tested v n (Require c) = and-true (holds v c)

-- ---- the clauses of a circuit

and-assoc : (a b c : Bool) → ((a && b) && c) ≡ (a && (b && c))
and-assoc true b c = refl
and-assoc false b c = refl

pub satisfies-append : (v : ℕ → Bool) (c d : List (List Lit)) → satisfies v (c ++ d) ≡ (satisfies v c && satisfies v d)
satisfies-append v [] d = refl
satisfies-append v (l ∷ c) d = ap (λ x. holds v l && x) (satisfies-append v c d) ∙ sym (and-assoc (holds v l) (satisfies v c) (satisfies v d))

beq-eq : (a b : Bool) → beq a b ≡ true → a ≡ b
beq-eq true true e = refl
beq-eq false false e = refl
beq-eq true false e = cc
beq-eq false true e = cc

eq-beq : (a b : Bool) → a ≡ b → beq a b ≡ true
eq-beq true b e = subst (λ x. beq true x ≡ true) e refl
eq-beq false b e = subst (λ x. beq false x ≡ true) e refl

both_true : (a b : Bool) → a ≡ true → b ≡ true → (a && b) ≡ true
both_true a b p q = rw (p, q) refl

-- what a test of an entry says
tested_value : (v : ℕ → Bool) (n : ℕ) (e : Entry) → entry_test v n e ≡ true → v n ≡ value_of v n e
unfolding entry_test
tested_value v n Free t = refl
tested_value v n (And a b) t = beq-eq _ _ t
tested_value v n (Or a b) t = beq-eq _ _ t
tested_value v n (Xor a b) t = beq-eq _ _ t
tested_value v n (Ite c a b) t = beq-eq _ _ t
tested_value v n (Require c) t = refl

meets_first : (v : ℕ → Bool) (n : ℕ) (e : Entry) (es : List Entry) → entry_test v n e ≡ true → Meets v es → Meets v (e ∷ es)
unfolding entry_test
meets_first v n Free es t m = m
meets_first v n (And a b) es t m = m
meets_first v n (Or a b) es t m = m
meets_first v n (Xor a b) es t m = m
meets_first v n (Ite c a b) es t m = m
meets_first v n (Require c) es t m = (t, m)

meets_rest : (v : ℕ → Bool) (e : Entry) (es : List Entry) → Meets v (e ∷ es) → Meets v es
meets_rest v Free es m = m
meets_rest v (And a b) es m = m
meets_rest v (Or a b) es m = m
meets_rest v (Xor a b) es m = m
meets_rest v (Ite c a b) es m = m
meets_rest v (Require c) es m = m.1

test_holds : (v : ℕ → Bool) (n : ℕ) (e : Entry) (es : List Entry) → v n ≡ value_of v n e → Meets v (e ∷ es) → entry_test v n e ≡ true
unfolding entry_test
test_holds v n Free es o m = refl
test_holds v n (And a b) es o m = eq-beq _ _ o
test_holds v n (Or a b) es o m = eq-beq _ _ o
test_holds v n (Xor a b) es o m = eq-beq _ _ o
test_holds v n (Ite c a b) es o m = eq-beq _ _ o
test_holds v n (Require c) es o m = m.0

-- what satisfies a formula with a circuit satisfies the formula, gives each gate its value and meets each clause
pub record IsModel (v : ℕ → Bool) (f : Shape) (es : List Entry) : Type 0 where
  pub front : Satisfies v f
  pub obeys : Obeys v f.vars es
  pub meets : Meets v es

pub model_of : (v : ℕ → Bool) (f : Shape) (es : List Entry) → Satisfies v (with_entries f es) → IsModel v f es
model_of v f [] s = record { front = s; obeys = tt; meets = tt }
model_of v f (e ∷ es) s =
    let r = model_of v (with_entry f e) es s in
    let p = and_parts (satisfies v f.clauses) (satisfies v (clauses_of f.vars e)) (sym (satisfies-append v f.clauses (clauses_of f.vars e)) ∙ r.front) in
    let t : entry_test v f.vars e ≡ true = sym (tested v f.vars e) ∙ p.1 in
    record { front = p.0; obeys = (tested_value v f.vars e t, r.obeys); meets = meets_first v f.vars e es t r.meets }

pub satisfied_by : (v : ℕ → Bool) (f : Shape) (es : List Entry) → IsModel v f es → Satisfies v (with_entries f es)
satisfied_by v f [] m = m.front
satisfied_by v f (e ∷ es) m =
    satisfied_by v (with_entry f e) es (record {
      front = satisfies-append v f.clauses (clauses_of f.vars e) ∙ both_true _ _ m.front (tested v f.vars e ∙ test_holds v f.vars e es m.obeys.0 m.meets);
      obeys = m.obeys.1;
      meets = meets_rest v e es m.meets;
    })

pub vars-with_entries : (f : Shape) (es : List Entry) → (with_entries f es).vars ≡ after f.vars es
vars-with_entries f [] = refl
vars-with_entries f (e ∷ es) = vars-with_entries (with_entry f e) es

pub with_entries-append : (f : Shape) (c d : List Entry) → with_entries f (c ++ d) ≡ with_entries (with_entries f c) d
with_entries-append f [] d = refl
with_entries-append f (e ∷ c) d = with_entries-append (with_entry f e) c d

pub after-append : (n : ℕ) (c d : List Entry) → after n (c ++ d) ≡ after (after n c) d
after-append n [] d = refl
after-append n (e ∷ c) d = after-append (behind n e) c d

pub obeys_parts : (v : ℕ → Bool) (n : ℕ) (c d : List Entry) → Obeys v n (c ++ d) → Obeys v n c × Obeys v (after n c) d
obeys_parts v n [] d o = (tt, o)
obeys_parts v n (e ∷ c) d o = let r = obeys_parts v (behind n e) c d o.1 in ((o.0, r.0), r.1)

pub obeys_both : (v : ℕ → Bool) (n : ℕ) (c d : List Entry) → Obeys v n c → Obeys v (after n c) d → Obeys v n (c ++ d)
obeys_both v n [] d p q = q
obeys_both v n (e ∷ c) d p q = (p.0, obeys_both v (behind n e) c d p.1 q)

-- ---- extension

pub behind_more : (n : ℕ) (e : Entry) → n ≤ behind n e
behind_more n Free = omega arith
behind_more n (And a b) = omega arith
behind_more n (Or a b) = omega arith
behind_more n (Xor a b) = omega arith
behind_more n (Ite c a b) = omega arith
behind_more n (Require c) = omega arith

pub after_more : (n : ℕ) (es : List Entry) → n ≤ after n es
after_more n [] = omega arith
after_more n (e ∷ es) = omega (arith, behind_more n e, after_more (behind n e) es)

assigned_other : (v : ℕ → Bool) (n : ℕ) (b : Bool) (k : ℕ) → k < n → assign v n b k ≡ v k
assigned_other v n b k lt = grind (arith, nat_tests)

assigned_same : (v : ℕ → Bool) (n : ℕ) (b : Bool) → assign v n b n ≡ b
assigned_same v n b = grind (arith, nat_tests)

pub extend_keeps : (v : ℕ → Bool) (n : ℕ) (es : List Entry) (k : ℕ) → k < n → extend v n es k ≡ v k
extend_keeps v n [] k lt = refl
extend_keeps v n (e ∷ es) k lt =
    let le = behind_more n e in
    let lt2 : k < behind n e = omega arith in
    extend_keeps (assign v n (value_of v n e)) (behind n e) es k lt2 ∙ assigned_other v n (value_of v n e) k lt

pub truth-agree : (n : ℕ) (v w : ℕ → Bool) (l : Lit) → Agree n v w → l.var < n → truth v l ≡ truth w l
unfolding truth
truth-agree n v w l a lt = ap (λ x. beq x l.positive) (a l.var lt)

-- the value of a gate rests on what it reads
pub value-agree : (n : ℕ) (v w : ℕ → Bool) (e : Entry) → ReadsBelow n e → Agree n v w → v n ≡ w n → value_of v n e ≡ value_of w n e
value-agree n v w Free r a h = h
value-agree n v w (And x y) r a h = ap₂ (λ p q. p && q) (truth-agree n v w x a r.0) (truth-agree n v w y a r.1)
value-agree n v w (Or x y) r a h = ap₂ (λ p q. p || q) (truth-agree n v w x a r.0) (truth-agree n v w y a r.1)
value-agree n v w (Xor x y) r a h = ap₂ differ (truth-agree n v w x a r.0) (truth-agree n v w y a r.1)
value-agree n v w (Ite c x y) r a h = rw (truth-agree n v w c a r.0, truth-agree n v w x a r.1, truth-agree n v w y a r.2) refl
value-agree n v w (Require c) r a h = h

-- what a gate gives doesn't rest on its own variable
pub gate_value : (n : ℕ) (v w : ℕ → Bool) (e : Entry) → ReadsBelow n e → Agree n v w → w n ≡ value_of v n e → w n ≡ value_of w n e
gate_value n v w Free r a h = refl
gate_value n v w (And x y) r a h = h ∙ ap₂ (λ p q. p && q) (truth-agree n v w x a r.0) (truth-agree n v w y a r.1)
gate_value n v w (Or x y) r a h = h ∙ ap₂ (λ p q. p || q) (truth-agree n v w x a r.0) (truth-agree n v w y a r.1)
gate_value n v w (Xor x y) r a h = h ∙ ap₂ differ (truth-agree n v w x a r.0) (truth-agree n v w y a r.1)
gate_value n v w (Ite c x y) r a h = h ∙ rw (truth-agree n v w c a r.0, truth-agree n v w x a r.1, truth-agree n v w y a r.2) refl
gate_value n v w (Require c) r a h = refl

-- a gate's variable keeps its value
set_value : (v : ℕ → Bool) (n : ℕ) (e : Entry) (es : List Entry) → behind n e ≡ suc n → extend v n (e ∷ es) n ≡ value_of v n e
set_value v n e es b =
    let lt : n < behind n e = omega arith in
    extend_keeps (assign v n (value_of v n e)) (behind n e) es n lt ∙ assigned_same v n (value_of v n e)

first_obeys : (v : ℕ → Bool) (n : ℕ) (e : Entry) (es : List Entry) → ReadsBelow n e → extend v n (e ∷ es) n ≡ value_of (extend v n (e ∷ es)) n e
first_obeys v n Free es r = refl
first_obeys v n (And a b) es r = gate_value n v _ (And a b) r (λ k lt. sym (extend_keeps v n (And a b ∷ es) k lt)) (set_value v n (And a b) es refl)
first_obeys v n (Or a b) es r = gate_value n v _ (Or a b) r (λ k lt. sym (extend_keeps v n (Or a b ∷ es) k lt)) (set_value v n (Or a b) es refl)
first_obeys v n (Xor a b) es r = gate_value n v _ (Xor a b) r (λ k lt. sym (extend_keeps v n (Xor a b ∷ es) k lt)) (set_value v n (Xor a b) es refl)
first_obeys v n (Ite c a b) es r = gate_value n v _ (Ite c a b) r (λ k lt. sym (extend_keeps v n (Ite c a b ∷ es) k lt)) (set_value v n (Ite c a b) es refl)
first_obeys v n (Require c) es r = refl

pub extend_obeys : (v : ℕ → Bool) (n : ℕ) (es : List Entry) → IsOrdered n es → Obeys (extend v n es) n es
extend_obeys v n [] o = tt
extend_obeys v n (e ∷ es) o = (first_obeys v n e es o.0, extend_obeys (assign v n (value_of v n e)) (behind n e) es o.1)

-- ---- clauses under assignments that agree

test_below : (x n : ℕ) (b : Bool) → IsTrue (ltb x n && b) → x < n
test_below x n b t = grind (arith, nat_tests)

test_rest : (a b : Bool) → IsTrue (a && b) → IsTrue b
test_rest true b t = t
test_rest false b t = absurd (grind arith)

test_first : (a b : Bool) → IsTrue (a && b) → IsTrue a
test_first true b t = grind arith
test_first false b t = t

pub holds-agree : (n : ℕ) (v w : ℕ → Bool) (c : List Lit) → Agree n v w → IsTrue (below n c) → holds v c ≡ holds w c
holds-agree n v w [] a t = refl
holds-agree n v w (l ∷ c) a t = ap₂ (λ p q. p || q) (truth-agree n v w l a (test_below l.var n (below n c) t)) (holds-agree n v w c a (test_rest (ltb l.var n) (below n c) t))

pub satisfies-agree : (n : ℕ) (v w : ℕ → Bool) (cs : List (List Lit)) → Agree n v w → IsTrue (all_below n cs) → satisfies v cs ≡ satisfies w cs
satisfies-agree n v w [] a t = refl
satisfies-agree n v w (c ∷ cs) a t = ap₂ (λ p q. p && q) (holds-agree n v w c a (test_first (below n c) (all_below n cs) t)) (satisfies-agree n v w cs a (test_rest (below n c) (all_below n cs) t))

-- ---- a circuit of gates alone

pub gates_ordered : (n : ℕ) (es : List Entry) → AreGates n es → IsOrdered n es
gates_ordered n [] g = tt
gates_ordered n (e ∷ es) g = (g.1, gates_ordered (behind n e) es g.2)

pub gates_meet : (v : ℕ → Bool) (n : ℕ) (es : List Entry) → AreGates n es → Meets v es
gates_meet v n [] g = tt
gates_meet v n (Free ∷ es) g = gates_meet v (suc n) es g.2
gates_meet v n (And a b ∷ es) g = gates_meet v (suc n) es g.2
gates_meet v n (Or a b ∷ es) g = gates_meet v (suc n) es g.2
gates_meet v n (Xor a b ∷ es) g = gates_meet v (suc n) es g.2
gates_meet v n (Ite c a b ∷ es) g = gates_meet v (suc n) es g.2
gates_meet v n (Require c ∷ es) g = absurd g.0

pub gates_both : (n : ℕ) (c d : List Entry) → AreGates n c → AreGates (after n c) d → AreGates n (c ++ d)
gates_both n [] d p q = q
gates_both n (e ∷ c) d p q = (p.0, p.1, gates_both (behind n e) c d p.2 q)

-- ---- how many clauses

-- the required clauses of a circuit
abbrev pub required : List Entry → ℕ
required [] = 0
required (Require c ∷ es) = suc (required es)
required (Free ∷ es) = required es
required (And a b ∷ es) = required es
required (Or a b ∷ es) = required es
required (Xor a b ∷ es) = required es
required (Ite c a b ∷ es) = required es

-- at most four clauses for each variable that is added, and the required ones
pub clauses_counted : (f : Shape) (es : List Entry) → length (with_entries f es).clauses + 4 * f.vars ≤ length f.clauses + required es + 4 * after f.vars es
clauses_counted f [] = omega arith
clauses_counted f (Free ∷ es) = omega (arith, clauses_counted (with_entry f Free) es, length-append f.clauses (clauses_of f.vars Free))
clauses_counted f (And a b ∷ es) = omega (arith, clauses_counted (with_entry f (And a b)) es, length-append f.clauses (clauses_of f.vars (And a b)))
clauses_counted f (Or a b ∷ es) = omega (arith, clauses_counted (with_entry f (Or a b)) es, length-append f.clauses (clauses_of f.vars (Or a b)))
clauses_counted f (Xor a b ∷ es) = omega (arith, clauses_counted (with_entry f (Xor a b)) es, length-append f.clauses (clauses_of f.vars (Xor a b)))
clauses_counted f (Ite c a b ∷ es) = omega (arith, clauses_counted (with_entry f (Ite c a b)) es, length-append f.clauses (clauses_of f.vars (Ite c a b)))
clauses_counted f (Require c ∷ es) = omega (arith, clauses_counted (with_entry f (Require c)) es, length-append f.clauses (c ∷ []))

none_required : (n : ℕ) (es : List Entry) → AreGates n es → required es ≡ 0
none_required n [] g = refl
none_required n (Free ∷ es) g = none_required (suc n) es g.2
none_required n (And a b ∷ es) g = none_required (suc n) es g.2
none_required n (Or a b ∷ es) g = none_required (suc n) es g.2
none_required n (Xor a b ∷ es) g = none_required (suc n) es g.2
none_required n (Ite c a b ∷ es) g = none_required (suc n) es g.2
none_required n (Require c ∷ es) g = absurd g.0

gates_few : (f : Shape) (es : List Entry) → AreGates f.vars es → length (with_entries f es).clauses + clauses_per_var * f.vars ≤ length f.clauses + clauses_per_var * (with_entries f es).vars
gates_few f es g = omega (arith, clauses_counted f es, none_required f.vars es g, vars-with_entries f es, after_more f.vars es)

part_few : (f : Shape) (e : Entry) (some rest : List (List Lit)) → some ++ rest ≡ clauses_of f.vars e → IsGate e → length (f.clauses ++ some) + clauses_per_var * f.vars ≤ length f.clauses + clauses_per_var * behind f.vars e
part_few f Free some rest c g = omega (arith, length-append f.clauses some, length-append some rest, ap length c)
part_few f (And a b) some rest c g = omega (arith, length-append f.clauses some, length-append some rest, ap length c)
part_few f (Or a b) some rest c g = omega (arith, length-append f.clauses some, length-append some rest, ap length c)
part_few f (Xor a b) some rest c g = omega (arith, length-append f.clauses some, length-append some rest, ap length c)
part_few f (Ite x a b) some rest c g = omega (arith, length-append f.clauses some, length-append some rest, ap length c)
part_few f (Require x) some rest c g = absurd g

-- ---- what a circuit adds constrains no old variable

pub extends_refl : (f : Shape) → Extends f f
extends_refl f = record { vars = omega arith; few = omega arith; room = λ h. h; front = λ v s. s; model = λ v s. (v, (λ k lt. refl), s) }

pub extends_trans : (f g h : Shape) → Extends f g → Extends g h → Extends f h
extends_trans f g h p q = record {
  vars = omega (arith, p.vars, q.vars);
  few = omega (arith, p.few, q.few);
  room = λ r. q.room (p.room r);
  front = λ v s. p.front v (q.front v s);
  model = λ v s.
      let m = p.model v s in
      let r = q.model m.0 m.2 in
      (r.0, (λ k lt. m.1 k lt ∙ r.1 k (omega (arith, p.vars))), r.2);
}

pub extends_then : {f g h : Shape} → Extends f g → Extends g h → Extends f h
extends_then {f} {g} {h} p q = extends_trans f g h p q

pub gates_extend : (f : Shape) (es : List Entry) → IsTrue (all_below f.vars f.clauses) → AreGates f.vars es → after f.vars es ≤ most_vars → Extends f (with_entries f es)
gates_extend f es t g within = record {
  vars = omega (arith, vars-with_entries f es, after_more f.vars es);
  few = gates_few f es g;
  room = λ r. omega (arith, vars-with_entries f es, within);
  front = λ v s. (model_of v f es s).front;
  model = λ v s.
      let w = extend v f.vars es in
      let agree : Agree f.vars v w = λ k lt. sym (extend_keeps v f.vars es k lt) in (
        w,
        agree,
        satisfied_by w f es (record {
          front = sym (satisfies-agree f.vars v w f.clauses agree t) ∙ s;
          obeys = extend_obeys v f.vars es (gates_ordered f.vars es g);
          meets = gates_meet w f.vars es g;
        }),
      );
}

-- nor do some first clauses of a gate
pub part_extends : (f : Shape) (e : Entry) (some rest : List (List Lit)) → some ++ rest ≡ clauses_of f.vars e → IsTrue (all_below f.vars f.clauses) → IsGate e → ReadsBelow f.vars e → behind f.vars e ≤ most_vars → Extends f (record { vars = behind f.vars e; clauses = f.clauses ++ some })
part_extends f e some rest c t g r within =
    let whole = gates_extend f (e ∷ []) t (g, r, tt) within in
    record {
      vars = behind_more f.vars e;
      few = part_few f e some rest c g;
      room = λ h. within;
      front = λ v s. (and_parts (satisfies v f.clauses) (satisfies v some) (sym (satisfies-append v f.clauses some) ∙ s)).0;
      model = λ v s.
          let m = whole.model v s in (
            m.0,
            m.1,
            (and_parts (satisfies m.0 (f.clauses ++ some)) (satisfies m.0 rest)
                (sym (satisfies-append m.0 (f.clauses ++ some) rest) ∙ (ap (satisfies m.0) (append_assoc f.clauses some rest ∙ ap (λ x. f.clauses ++ x) c) ∙ m.2))).0,
          );
    }

-- ---- the values of the variables follow from those of the free ones

abbrev pub AgreeFree : ℕ → List Entry → (ℕ → Bool) → (ℕ → Bool) → Type 0
AgreeFree n [] v w = Unit {0}
AgreeFree n (Free ∷ es) v w = (v n ≡ w n) × AgreeFree (suc n) es v w
AgreeFree n (And a b ∷ es) v w = AgreeFree (suc n) es v w
AgreeFree n (Or a b ∷ es) v w = AgreeFree (suc n) es v w
AgreeFree n (Xor a b ∷ es) v w = AgreeFree (suc n) es v w
AgreeFree n (Ite c a b ∷ es) v w = AgreeFree (suc n) es v w
AgreeFree n (Require c ∷ es) v w = AgreeFree n es v w

agree_more : (n : ℕ) (v w : ℕ → Bool) → Agree n v w → v n ≡ w n → Agree (suc n) v w
agree_more n v w a e k lt = elim (ℕ-cases k n lt) [ inl l ↦ a k l | inr q ↦ subst (λ j. v j ≡ w j) (sym q) e ]
  where
    ℕ-cases : (k n : ℕ) → k < suc n → (k < n) ⊎ (k ≡ n)
    ℕ-cases k n lt = grind arith

pub one_extension : (v w : ℕ → Bool) (n : ℕ) (es : List Entry) → IsOrdered n es → Agree n v w → AgreeFree n es v w → Obeys v n es → Obeys w n es → Agree (after n es) v w
one_extension v w n [] o a f p q = a
one_extension v w n (Free ∷ es) o a f p q = one_extension v w (suc n) es o.1 (agree_more n v w a f.0) f.1 p.1 q.1
one_extension v w n (And x y ∷ es) o a f p q = one_extension v w (suc n) es o.1 (agree_more n v w a (p.0 ∙ (ap₂ (λ b c. b && c) (truth-agree n v w x a o.0.0) (truth-agree n v w y a o.0.1) ∙ sym q.0))) f p.1 q.1
one_extension v w n (Or x y ∷ es) o a f p q = one_extension v w (suc n) es o.1 (agree_more n v w a (p.0 ∙ (ap₂ (λ b c. b || c) (truth-agree n v w x a o.0.0) (truth-agree n v w y a o.0.1) ∙ sym q.0))) f p.1 q.1
one_extension v w n (Xor x y ∷ es) o a f p q = one_extension v w (suc n) es o.1 (agree_more n v w a (p.0 ∙ (ap₂ differ (truth-agree n v w x a o.0.0) (truth-agree n v w y a o.0.1) ∙ sym q.0))) f p.1 q.1
one_extension v w n (Ite c x y ∷ es) o a f p q = one_extension v w (suc n) es o.1 (agree_more n v w a (p.0 ∙ (rw (truth-agree n v w c a o.0.0, truth-agree n v w x a o.0.1, truth-agree n v w y a o.0.2) refl ∙ sym q.0))) f p.1 q.1
one_extension v w n (Require c ∷ es) o a f p q = one_extension v w n es o.1 a f p.1 q.1
