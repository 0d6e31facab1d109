-- What the code that makes a gate needs: its clauses are few and of variables that there are, and some of them constrain
-- no old variable.
use Rattle.std.proofs.Common.{◌≡◌, ℕ, suc, ◌+◌, ◌<◌, ◌≤◌, ltb, Bool, true, false, ◌&&◌, List, [], ◌∷◌, ◌++◌, length, refl, sym, ap, ◌∙◌, subst, inl, inr, arith, IsTrue, length-append, add-one, append-nil}
use Rattle.std.proofs.lemmas.Bool.{cases_Bool}
use Rattle.std.proofs.lemmas.Bool.Decides.{nat_tests}
use Rattle.cnf_form.specs.declared.lit.Lit.{Lit}
use Rattle.cnf_form.specs.Limits.{most_vars}
use Rattle.cnf_form.specs.Lits.{turned, is_in, below, all_below}
use Rattle.cnf_form.specs.Shape.{Shape}
use Rattle.bit_blast.specs.Circuit.{Free, yes, no, once, once_after, clauses_of, behind, with_entry}
use Rattle.bit_blast.specs.Limits.{most_required}
use Rattle.bit_blast.specs.Made.{HasYes, IsMade, entry_of, AddsSome}
use Rattle.bit_blast.specs.Meaning.{ReadsBelow, Extends}
use Rattle.bit_blast.proofs.Values.{IsGate}
use Rattle.bit_blast.specs.declared.gate.Gate.{Gate}
use Rattle.bit_blast.specs.declared.gate.Gate.TheVariants as gate
use Rattle.bit_blast.proofs.Circuits

first : (a b : Bool) → IsTrue (a && b) → IsTrue a
first true b p = grind arith
first false b p = p

second : (a b : Bool) → IsTrue (a && b) → IsTrue b
second true b p = p
second false b p = absurd (grind arith)

both : (a b : Bool) → IsTrue a → IsTrue b → IsTrue (a && b)
both true b p q = q
both false b p q = p

all_below-rest : (n : ℕ) (cs ds : List (List Lit)) → IsTrue (all_below n (cs ++ ds)) → IsTrue (all_below n ds)
all_below-rest n [] ds t = t
all_below-rest n (c ∷ cs) ds t = all_below-rest n cs ds (second (below n c) (all_below n (cs ++ ds)) t)

pub next_below : (n : ℕ) (front left rest all : List (List Lit)) (c : List Lit) → front ++ left ≡ all → left ≡ c ∷ rest → IsTrue (all_below n all) → IsTrue (below n c)
next_below n front left rest all c e f t =
    first (below n c) (all_below n rest)
    (subst (λ x. IsTrue (all_below n x)) f (all_below-rest n front left (subst (λ x. IsTrue (all_below n x)) (sym e) t)))

below-append : (n : ℕ) (c : List Lit) (l : Lit) → IsTrue (below n c) → IsTrue (ltb l.var n) → IsTrue (below n (c ++ l ∷ []))
below-append n [] l t b = both (ltb l.var n) true b t
below-append n (k ∷ c) l t b = both (ltb k.var n) (below n (c ++ l ∷ [])) (first (ltb k.var n) (below n c) t) (below-append n c l (second (ltb k.var n) (below n c) t) b)

below-once_after : (n : ℕ) (kept ls : List Lit) → IsTrue (below n kept) → IsTrue (below n ls) → IsTrue (below n (once_after kept ls))
below-once_after n kept [] t u = t
below-once_after n kept (l ∷ ls) t u = elim (cases_Bool (is_in l kept)) [
  | inl e ↦ rw e (below-once_after n kept ls t (second (ltb l.var n) (below n ls) u))
  | inr e ↦ rw e (below-once_after n (kept ++ l ∷ []) ls (below-append n kept l t (first (ltb l.var n) (below n ls) u)) (second (ltb l.var n) (below n ls) u))
]

below-once : (n : ℕ) (ls : List Lit) → IsTrue (below n ls) → IsTrue (below n (once ls))
unfolding once
below-once n ls u = below-once_after n [] ls (grind arith) u

-- a clause of one literal
pub below_one : (n : ℕ) (c : List Lit) (l : Lit) → c ≡ l ∷ [] → l.var < n → IsTrue (below n c)
below_one n c l e lt =
    subst (λ (x : List Lit). IsTrue (below n x)) (sym e) (both (ltb l.var n) true (let t : IsTrue (ltb l.var n) = grind (arith, nat_tests) in t) (grind arith))

test : (x n : ℕ) → x < n → IsTrue (ltb x (suc n))
test x n lt = grind (arith, nat_tests)

own : (n : ℕ) → IsTrue (ltb n (suc n))
own n = grind (arith, nat_tests)

turned_test : (a : Lit) (n : ℕ) → a.var < n → IsTrue (ltb (turned a).var (suc n))
unfolding turned
turned_test a n lt = test a.var n lt

two_below : (n : ℕ) (x a : Lit) → IsTrue (ltb x.var n) → IsTrue (ltb a.var n) → IsTrue (below n (once (x ∷ a ∷ [])))
two_below n x a p q = below-once n (x ∷ a ∷ []) (both (ltb x.var n) (ltb a.var n && true) p (both (ltb a.var n) true q (grind arith)))

three_below : (n : ℕ) (x a b : Lit) → IsTrue (ltb x.var n) → IsTrue (ltb a.var n) → IsTrue (ltb b.var n) → IsTrue (below n (once (x ∷ a ∷ b ∷ [])))
three_below n x a b p q r = below-once n (x ∷ a ∷ b ∷ []) (both (ltb x.var n) (ltb a.var n && (ltb b.var n && true)) p (both (ltb a.var n) (ltb b.var n && true) q (both (ltb b.var n) true r (grind arith))))

all_three : (n : ℕ) (c d e : List Lit) → IsTrue (below n c) → IsTrue (below n d) → IsTrue (below n e) → IsTrue (all_below n (c ∷ d ∷ e ∷ []))
all_three n c d e p q r = both (below n c) _ p (both (below n d) _ q (both (below n e) true r (grind arith)))

all_four : (n : ℕ) (c d e f : List Lit) → IsTrue (below n c) → IsTrue (below n d) → IsTrue (below n e) → IsTrue (below n f) → IsTrue (all_below n (c ∷ d ∷ e ∷ f ∷ []))
all_four n c d e f p q r s = both (below n c) _ p (all_three n d e f q r s)

pub clauses_inside : (n : ℕ) (g : Gate) → ReadsBelow n (entry_of g) → IsTrue (all_below (suc n) (clauses_of n (entry_of g)))
clauses_inside n (gate.And a b) r = all_three (suc n) _ _ _
    (two_below (suc n) (no n) a (own n) (test a.var n r.0))
    (two_below (suc n) (no n) b (own n) (test b.var n r.1))
    (three_below (suc n) (yes n) (turned a) (turned b) (own n) (turned_test a n r.0) (turned_test b n r.1))
clauses_inside n (gate.Or a b) r = all_three (suc n) _ _ _
    (two_below (suc n) (yes n) (turned a) (own n) (turned_test a n r.0))
    (two_below (suc n) (yes n) (turned b) (own n) (turned_test b n r.1))
    (three_below (suc n) (no n) a b (own n) (test a.var n r.0) (test b.var n r.1))
clauses_inside n (gate.Xor a b) r = all_four (suc n) _ _ _ _
    (three_below (suc n) (no n) a b (own n) (test a.var n r.0) (test b.var n r.1))
    (three_below (suc n) (no n) (turned a) (turned b) (own n) (turned_test a n r.0) (turned_test b n r.1))
    (three_below (suc n) (yes n) (turned a) b (own n) (turned_test a n r.0) (test b.var n r.1))
    (three_below (suc n) (yes n) a (turned b) (own n) (test a.var n r.0) (turned_test b n r.1))
clauses_inside n (gate.Ite c a b) r = all_four (suc n) _ _ _ _
    (three_below (suc n) (no n) (turned c) a (own n) (turned_test c n r.0) (test a.var n r.1))
    (three_below (suc n) (yes n) (turned c) (turned a) (own n) (turned_test c n r.0) (turned_test a n r.1))
    (three_below (suc n) (no n) c b (own n) (test c.var n r.0) (test b.var n r.2))
    (three_below (suc n) (yes n) c (turned b) (own n) (test c.var n r.0) (turned_test b n r.2))

pub clauses_few : (n : ℕ) (g : Gate) → length (clauses_of n (entry_of g)) ≤ 4
clauses_few n (gate.And a b) = omega arith
clauses_few n (gate.Or a b) = omega arith
clauses_few n (gate.Xor a b) = omega arith
clauses_few n (gate.Ite c a b) = omega arith

pub is_gate : (g : Gate) → IsGate (entry_of g)
is_gate (gate.And a b) = tt
is_gate (gate.Or a b) = tt
is_gate (gate.Xor a b) = tt
is_gate (gate.Ite c a b) = tt

pub one_variable : (n : ℕ) (g : Gate) → behind n (entry_of g) ≡ suc n
one_variable n (gate.And a b) = refl
one_variable n (gate.Or a b) = refl
one_variable n (gate.Xor a b) = refl
one_variable n (gate.Ite c a b) = refl

pub yes_kept : (cs ds : List (List Lit)) → HasYes cs → HasYes (cs ++ ds)
yes_kept [] ds h = cc
yes_kept (c ∷ cs) ds h = h

-- a formula with some of a gate's clauses, behind its variable
pub some_extend : (f h : Shape) (g : Gate) → AddsSome (record { vars = suc f.vars; clauses = f.clauses }) h (clauses_of f.vars (entry_of g)) → IsTrue (all_below f.vars f.clauses) → ReadsBelow f.vars (entry_of g) → suc f.vars ≤ most_vars → Extends f h
some_extend f h g a t r within =
    subst (λ (x : Shape). Extends f x) (sym a.is)
    (subst (λ n. Extends f (record { vars = n; clauses = f.clauses ++ a.some })) (one_variable f.vars g)
    (Circuits.part_extends f (entry_of g) a.some a.rest a.all t (is_gate g) r (omega (arith, one_variable f.vars g))))

-- what a maker keeps, behind some of a gate's clauses
pub made_part : (f g h : Shape) (gate : Gate) (cs : List (List Lit)) (n : ℕ) → n ≡ f.vars → g ≡ record { vars = n + 1; clauses = f.clauses } → AddsSome g h cs → cs ≡ clauses_of n (entry_of gate) → IsMade f → n < most_vars → IsMade h
made_part f g h gate cs n v e a c m lt =
    subst IsMade (sym (a.is ∙ ap (λ (x : Shape). record { vars = x.vars; clauses = x.clauses ++ a.some }) e)) (
      omega (arith, length-append f.clauses a.some, length-append a.some a.rest, ap length a.all, ap length c, clauses_few n gate),
      omega arith,
      yes_kept f.clauses a.some m.2,
      omega arith,
    )

pub some_kept : (f old g h : Shape) (gate : Gate) (cs : List (List Lit)) (n : ℕ) → f ≡ old → n ≡ f.vars → g ≡ record { vars = n + 1; clauses = f.clauses } → AddsSome g h cs → cs ≡ clauses_of n (entry_of gate) → IsTrue (all_below f.vars f.clauses) → ReadsBelow old.vars (entry_of gate) → n < most_vars → Extends old h
some_kept f old g h gate cs n o v e a c t r lt =
    subst (λ (x : Shape). Extends x h) o
    (some_extend f h gate
    (subst (λ k. AddsSome (record { vars = suc k; clauses = f.clauses }) h (clauses_of k (entry_of gate))) v
    (subst (λ (x : Shape). AddsSome x h (clauses_of n (entry_of gate))) (e ∙ (λ i. record { vars = add-one n i; clauses = f.clauses })) (subst (AddsSome g h) c a)))
    t (subst (λ (x : Shape). ReadsBelow x.vars (entry_of gate)) (sym o) r) (omega (arith, v)))

pub clauses_within : (f old g : Shape) (gate : Gate) (cs : List (List Lit)) → f ≡ old → (n : ℕ) → n ≡ f.vars → g ≡ record { vars = n + 1; clauses = f.clauses } → cs ≡ clauses_of n (entry_of gate) → ReadsBelow old.vars (entry_of gate) → IsTrue (all_below g.vars cs)
clauses_within f old g gate cs o n v e c r =
    subst (λ (x : Shape). IsTrue (all_below x.vars cs)) (sym e)
    (subst (λ k. IsTrue (all_below k cs)) (sym (add-one n))
    (subst (λ x. IsTrue (all_below (suc n) x)) (sym c)
    (clauses_inside n gate (subst (λ k. ReadsBelow k (entry_of gate)) (sym (v ∙ ap (λ (x : Shape). x.vars) o)) r))))

-- a free variable adds no clause
pub free_is : (f : Shape) → with_entry f Free ≡ record { vars = f.vars + 1; clauses = f.clauses }
free_is f = λ i. record { vars = sym (add-one f.vars) i; clauses = append-nil f.clauses i }

pub free_made : (n : ℕ) (cs : List (List Lit)) → IsMade (record { vars = n; clauses = cs }) → n < most_vars → IsMade (record { vars = n + 1; clauses = cs })
free_made n cs m lt = (omega (arith, m.0), omega arith, m.2, omega arith)

pub free_extends : (f : Shape) → IsTrue (all_below f.vars f.clauses) → f.vars < most_vars → Extends f (record { vars = f.vars + 1; clauses = f.clauses })
free_extends f t lt = subst (λ (g : Shape). Extends f g) (free_is f) (Circuits.gates_extend f (Free ∷ []) t (tt, tt, tt) (omega arith))

pub required_made : (f : Shape) (c : List Lit) → IsMade f → length f.clauses < most_required → IsMade (record { vars = f.vars; clauses = f.clauses ++ c ∷ [] })
required_made f c m lt = (omega (arith, length-append f.clauses (c ∷ [])), m.1, yes_kept f.clauses (c ∷ []) m.2, m.3)
