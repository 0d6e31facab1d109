-- What a call that made a circuit says of the assignments that satisfy the formula.
use Rattle.std.proofs.Common.{◌≡◌, ℕ, ◌<◌, ◌≤◌, Bool, true, false, ◌||◌, List, [], ◌∷◌, length, refl, sym, ap, ◌∙◌, subst, arith, ◌*◌}
use Rattle.std.proofs.lemmas.Bool.{and_parts}
use Rattle.std.proofs.lemmas.List.Elements.{All-nil, All-cons}
use Rattle.cnf_form.specs.declared.lit.Lit.{Lit}
use Rattle.cnf_form.specs.Limits.{most_vars}
use Rattle.cnf_form.specs.Lits.{truth, holds, satisfies}
use Rattle.cnf_form.specs.Shape.{Shape, Satisfies}
use Rattle.bit_blast.specs.Answers.{IsBoth, IsEither, IsOneOf, IsEquality, IsOrder, IsChoice, IsSum, IsDifference, IsProduct, IsNegation}
use Rattle.bit_blast.specs.Costs.{TakesUpTo, sum_cost, product_cost, equality_cost, order_cost}
use Rattle.bit_blast.specs.Circuit.{And, Or, Xor, yes, no, with_entry, after, Circuit}
use Rattle.bit_blast.specs.Made.{HasYes, IsBelow, Makes}
use Rattle.bit_blast.specs.Meaning.{Extends}
use Rattle.bit_blast.specs.Numbers.{bits, number}
use Rattle.bit_blast.specs.Words.{fresh, ite, sum, inverted, nothing, add, subtract, negate, multiply, equal_from, equal, less_from, less}
use Rattle.bit_blast.proofs.Circuits.{IsModel, model_of, truth-yes, vars-with_entries}
use Rattle.bit_blast.proofs.Made.{Within, within, within_more, within_nothing, within_inverted, within_sum, within_ite, within_fresh, length-ite, length-fresh, after-sum, after-ite, after-fresh, after-equal, after-less, after-rows}
use Rattle.bit_blast.proofs.Sums
use Rattle.bit_blast.proofs.Products
use Rattle.bit_blast.proofs.Comparisons

or-none : (a : Bool) → (a || false) ≡ true → a ≡ true
or-none true e = refl
or-none false e = e

-- variable 0 is true in each model
pub first_true : (v : ℕ → Bool) (cs : List (List Lit)) → HasYes cs → satisfies v cs ≡ true → v 0 ≡ true
first_true v [] h s = cc
first_true v (c ∷ cs) h s =
    let e : c ≡ yes 0 ∷ [] = cc in
    sym (truth-yes v 0) ∙ or-none (truth v (yes 0)) (sym (ap (holds v) e) ∙ (and_parts (holds v c) (satisfies v cs) s).0)

pub yes_true : (v : ℕ → Bool) (cs : List (List Lit)) → HasYes cs → satisfies v cs ≡ true → truth v (yes 0) ≡ true
yes_true v cs h s = truth-yes v 0 ∙ first_true v cs h s

pub below_from_within : (n : ℕ) (a : List Lit) → Within n a → IsBelow n a
below_from_within n [] w = All-nil (λ (x : Lit). x.var < n)
below_from_within n (l ∷ a) w = All-cons (λ (x : Lit). x.var < n) l a w.0 (below_from_within n a w.1)

pub made_model : (R : Type 0) (v : ℕ → Bool) (f g : Shape) (c : Circuit R) (r : R) → Makes R f g c r → Satisfies v g → IsModel v f c.entries
made_model R v f g c r m s = model_of v f c.entries (subst (Satisfies v) m.made s)

pub made_vars : (R : Type 0) (f g : Shape) (c : Circuit R) (r : R) → Makes R f g c r → g.vars ≡ after f.vars c.entries
made_vars R f g c r m = ap (λ (x : Shape). x.vars) m.made ∙ vars-with_entries f c.entries

-- the literals of a word that was made are of the new variables
made_below : (f g : Shape) (c : Circuit (List Lit)) (w : List Lit) → Makes (List Lit) f g c w → Within (after f.vars c.entries) c.result → IsBelow g.vars w
made_below f g c w m k =
    subst (IsBelow g.vars) (sym m.gives) (subst (λ n. IsBelow n c.result) (sym (made_vars (List Lit) f g c w m)) (below_from_within _ _ k))

pub sum_below : (f g : Shape) (a b w : List Lit) (c : Lit) → Makes (List Lit) f g (sum f.vars a b c) w → length a ≡ length b → IsBelow g.vars w
sum_below f g a b w c m e =
    made_below f g (sum f.vars a b c) w m (within_sum f.vars a b c e)

pub sum_size : (f g : Shape) (a b w : List Lit) (c : Lit) → Makes (List Lit) f g (sum f.vars a b c) w → length a ≡ length b → length w ≡ length a
sum_size f g a b w c m e = ap length m.gives ∙ Sums.length-sum f.vars a b c e

pub add_law : (f g : Shape) (a b w : List Lit) → Makes (List Lit) f g (sum f.vars a b (no 0)) w → HasYes f.clauses → length a ≡ length b → IsSum g a b w
add_law f g a b w m h e v s =
    let k = made_model (List Lit) v f g (add f.vars a b) w m s in
    ap (number v) m.gives ∙ Sums.add_number v f.vars a b (first_true v f.clauses h k.front) e k.obeys

pub subtract_law : (f g : Shape) (a b w : List Lit) → Makes (List Lit) f g (subtract f.vars a b) w → HasYes f.clauses → length a ≡ length b → IsDifference g a b w
subtract_law f g a b w m h e v s =
    let k = made_model (List Lit) v f g (subtract f.vars a b) w m s in
    ap (number v) m.gives ∙ Sums.subtract_number v f.vars a b (first_true v f.clauses h k.front) e k.obeys

pub negate_law : (f g : Shape) (a w : List Lit) → Makes (List Lit) f g (negate f.vars a) w → HasYes f.clauses → IsNegation g a w
negate_law f g a w m h v s =
    let k = made_model (List Lit) v f g (negate f.vars a) w m s in
    ap (number v) m.gives ∙ Sums.negate_number v f.vars a (first_true v f.clauses h k.front) k.obeys

pub multiply_law : (f g : Shape) (a b w : List Lit) → Makes (List Lit) f g (multiply f.vars a b) w → HasYes f.clauses → length a ≡ length b → IsProduct g a b w
multiply_law f g a b w m h e v s =
    let k = made_model (List Lit) v f g (multiply f.vars a b) w m s in
    ap (number v) m.gives ∙ Products.multiply_number v f.vars a b (first_true v f.clauses h k.front) e k.obeys

pub ite_law : (f g : Shape) (c : Lit) (a b w : List Lit) → Makes (List Lit) f g (ite f.vars c a b) w → length a ≡ length b → IsChoice g c a b w
ite_law f g c a b w m e v s =
    ap (bits v) m.gives ∙ Comparisons.ite_bits v f.vars c a b e (made_model (List Lit) v f g (ite f.vars c a b) w m s).obeys

pub less_law : (f g : Shape) (a b : List Lit) (l : Lit) → Makes Lit f g (less f.vars a b) l → HasYes f.clauses → length a ≡ length b → 1 ≤ length a → IsOrder g a b l
less_law f g a b l m h e some v s =
    let k = made_model Lit v f g (less f.vars a b) l m s in
    ap (truth v) m.gives ∙ Comparisons.less_number v f.vars a b (first_true v f.clauses h k.front) e some k.obeys

equal_here : (f g : Shape) (a b : List Lit) (l : Lit) → Makes Lit f g (equal f.vars a b) l → HasYes f.clauses → length a ≡ length b → IsEquality g a b l
equal_here f g a b l m h e v s =
    let k = made_model Lit v f g (equal f.vars a b) l m s in
    let one = first_true v f.clauses h k.front in (
      λ t. Comparisons.equal_yes v f.vars a b one e k.obeys (sym (ap (truth v) m.gives) ∙ t),
      λ t. ap (truth v) m.gives ∙ Comparisons.equal_no v f.vars a b one e k.obeys t,
    )

pub equal_law : (f g : Shape) (a b p q : List Lit) (y l : Lit) → p ≡ a → q ≡ b → y ≡ yes 0 → Makes Lit f g (equal_from f.vars p q y) l → HasYes f.clauses → length a ≡ length b → IsEquality g a b l
equal_law f g a b p q y l i j k m h e =
    equal_here f g a b l (subst (λ (c : Circuit Lit). Makes Lit f g c l) (rw (i, j, k) refl) m) h e

pub length_inverted : (a : List Lit) → length (inverted a) ≡ length a
length_inverted a = Sums.length-inverted a

pub inverted_below : (n : ℕ) (a : List Lit) → IsBelow n a → IsBelow n (inverted a)
inverted_below n a b = below_from_within n (inverted a) (within_inverted n a (within n a b))

pub length_nothing : (k : ℕ) → length (nothing k) ≡ k
length_nothing k = Sums.length-nothing k

pub nothing_below : (n k : ℕ) → 0 < n → IsBelow n (nothing k)
nothing_below n k lt = below_from_within n (nothing k) (within_nothing n k lt)

-- the literals of a word stay below the variables
pub below_later : (f g : Shape) (a : List Lit) → Extends f g → IsBelow f.vars a → IsBelow g.vars a
below_later f g a x b = below_from_within g.vars a (within_more f.vars g.vars a x.vars (within f.vars a b))

-- ---- sizes

pub room_kept : (f g : Shape) → Extends f g → f.vars ≤ most_vars → g.vars ≤ most_vars
room_kept f g x le = x.room le

pub fresh_length : (f g : Shape) (bits : ℕ) (w : List Lit) → Makes (List Lit) f g (fresh f.vars bits) w → length w ≡ bits
fresh_length f g bits w m = ap length m.gives ∙ length-fresh f.vars bits

pub fresh_below : (f g : Shape) (bits : ℕ) (w : List Lit) → Makes (List Lit) f g (fresh f.vars bits) w → IsBelow g.vars w
fresh_below f g bits w m = made_below f g (fresh f.vars bits) w m (within_fresh f.vars bits)

pub fresh_takes : (f g : Shape) (bits : ℕ) (w : List Lit) → Makes (List Lit) f g (fresh f.vars bits) w → TakesUpTo f g bits
fresh_takes f g bits w m = omega (arith, made_vars (List Lit) f g (fresh f.vars bits) w m, after-fresh f.vars bits)

pub ite_length : (f g : Shape) (c : Lit) (a b w : List Lit) → Makes (List Lit) f g (ite f.vars c a b) w → length a ≡ length b → length w ≡ length a
ite_length f g c a b w m e = ap length m.gives ∙ length-ite f.vars c a b e

pub ite_below : (f g : Shape) (c : Lit) (a b w : List Lit) → Makes (List Lit) f g (ite f.vars c a b) w → IsBelow g.vars w
ite_below f g c a b w m = made_below f g (ite f.vars c a b) w m (within_ite f.vars c a b)

pub ite_takes : (f g : Shape) (c : Lit) (a b w : List Lit) → Makes (List Lit) f g (ite f.vars c a b) w → length a ≡ length b → TakesUpTo f g (length a)
ite_takes f g c a b w m e = omega (arith, made_vars (List Lit) f g (ite f.vars c a b) w m, after-ite f.vars c a b e)

pub sum_takes : (f g : Shape) (a b w : List Lit) (c : Lit) → Makes (List Lit) f g (sum f.vars a b c) w → length a ≡ length b → TakesUpTo f g (sum_cost (length a))
sum_takes f g a b w c m e = omega (arith, made_vars (List Lit) f g (sum f.vars a b c) w m, after-sum f.vars a b c e)

pub product_takes : (f g : Shape) (a b w : List Lit) → Makes (List Lit) f g (multiply f.vars a b) w → length a ≡ length b → TakesUpTo f g (product_cost (length a))
product_takes f g a b w m e =
    let z = Sums.length-nothing (length a) in
    omega (arith, made_vars (List Lit) f g (multiply f.vars a b) w m, after-rows f.vars a 0 b (nothing (length a)) z (omega arith), ap (λ x. length a * x) e)

pub equal_takes : (f g : Shape) (a b : List Lit) (y l : Lit) → Makes Lit f g (equal_from f.vars a b y) l → length a ≡ length b → TakesUpTo f g (equality_cost (length a))
equal_takes f g a b y l m e = omega (arith, made_vars Lit f g (equal_from f.vars a b y) l m, after-equal f.vars a b y e)

pub less_takes : (f g : Shape) (a b : List Lit) (y l : Lit) → Makes Lit f g (less_from f.vars a b y) l → length a ≡ length b → TakesUpTo f g (order_cost (length a))
less_takes f g a b y l m e = omega (arith, made_vars Lit f g (less_from f.vars a b y) l m, after-less f.vars a b y e)

-- ---- single gates

pub and_value : (f : Shape) (a b : Lit) → IsBoth (with_entry f (And a b)) a b (yes f.vars)
and_value f a b v s = truth-yes v f.vars ∙ (model_of v f (And a b ∷ []) s).obeys.0

pub or_value : (f : Shape) (a b : Lit) → IsEither (with_entry f (Or a b)) a b (yes f.vars)
or_value f a b v s = truth-yes v f.vars ∙ (model_of v f (Or a b ∷ []) s).obeys.0

pub xor_value : (f : Shape) (a b : Lit) → IsOneOf (with_entry f (Xor a b)) a b (yes f.vars)
xor_value f a b v s = truth-yes v f.vars ∙ (model_of v f (Xor a b ∷ []) s).obeys.0
