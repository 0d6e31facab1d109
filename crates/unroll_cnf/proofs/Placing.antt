-- The circuits of the operators, by arity: gates alone, and results of variables that there are.
use Rattle.std.proofs.Common.{◌≡◌, ℕ, zero, suc, ◌+◌, ◌-◌, ◌^◌, ◌<◌, ◌≤◌, Bool, true, false, List, [], ◌∷◌, ◌++◌, length, map, take, sym, ◌∙◌, subst, inl, inr, arith, Some, length-append, length-take}
use Rattle.std.specs.Prelude.{nat_le}
use Rattle.std.proofs.lemmas.Bool.{cases_Bool}
use Rattle.cnf_form.specs.declared.lit.Lit.{Lit}
use Rattle.cnf_form.specs.Lits.{turned}
use Rattle.cnf_form.proofs.LitFacts.{turned_var}
use Rattle.op_network.specs.declared.edge.Parts.{Parts}
use Rattle.op_network.specs.declared.form.Unary.{Unary}
use Rattle.op_network.specs.declared.form.Unary.TheVariants as one
use Rattle.op_network.specs.declared.form.Binary.{Binary}
use Rattle.op_network.specs.declared.form.Binary.TheVariants as two
use Rattle.op_network.specs.declared.value.Ty.{Ty}
use Rattle.op_network.specs.declared.value.Ty.TheVariants as type
use Rattle.op_network.specs.Operators.{binary_type}
use Rattle.bit_blast.specs.Circuit.{yes, no, after}
use Rattle.bit_blast.specs.Words.{sum, masked, rows, nothing, inverted, equal_from, less_from}
use Rattle.bit_blast.proofs.Values.{AreGates}
use Rattle.bit_blast.proofs.Circuits.{after-append}
use Rattle.bit_blast.proofs.Made.{Within, within_nothing, within_inverted, within_sum, gates_sum, gates_equal, gates_less, gates_rows}
use Rattle.bit_blast.proofs.Sums.{length-sum, length-nothing, length-inverted}
use Rattle.bit_blast.proofs.Products.{length-masked}
use Rattle.unroll_cnf.specs.Sizes.{bits_from, bits_of, enumerators}
use Rattle.unroll_cnf.specs.Values.{constant}
use Rattle.unroll_cnf.specs.Unrolled.{only, unary_circuit, binary_circuit}
use Rattle.unroll_cnf.proofs.Operators.{over_types, alike_types}

pub only_below : (m : ℕ) (a : List Lit) → 0 < m → Within m a → (only a).var < m
only_below m [] lt p = lt
only_below m (l ∷ a) lt p = p.0

pub turned_below : (m : ℕ) (l : Lit) → l.var < m → (turned l).var < m
turned_below m l lt = omega (arith, turned_var l)

pub constants_within : (m : ℕ) (bs : List Bool) → 0 < m → Within m (map constant bs)
constants_within m [] lt = tt
constants_within m (true ∷ bs) lt = (lt, constants_within m bs lt)
constants_within m (false ∷ bs) lt = (lt, constants_within m bs lt)

from_more : (n from more : ℕ) → from ≤ bits_from n from more
from_more n from zero = omega arith
from_more n from (suc more) = elim (cases_Bool (nat_le n (2 ^ from))) [
  | inl e ↦ rw e (omega arith)
  | inr e ↦ rw e (omega (arith, from_more n (suc from) more))
]

-- a word has a bit
pub bits_some : (parts : Parts) (a : Ty) → 1 ≤ parts.width → 1 ≤ bits_of parts a
bits_some parts type.Truth wide = omega arith
bits_some parts type.Word wide = wide
bits_some parts (type.Choice c) wide = from_more (enumerators parts.choices c) 1 7

-- both operands have one type
pub binary_same : (o : Binary) (a b ty : Ty) → binary_type o a b ≡ Some ty → a ≡ b
binary_same two.And a b ty t = let e = over_types type.Truth type.Truth a b ty t in e.0 ∙ sym e.1
binary_same two.Or a b ty t = let e = over_types type.Truth type.Truth a b ty t in e.0 ∙ sym e.1
binary_same two.Xor a b ty t = let e = over_types type.Truth type.Truth a b ty t in e.0 ∙ sym e.1
binary_same two.Imp a b ty t = let e = over_types type.Truth type.Truth a b ty t in e.0 ∙ sym e.1
binary_same two.Eq a b ty t = (alike_types type.Truth a b ty t).0
binary_same two.Ne a b ty t = (alike_types type.Truth a b ty t).0
binary_same two.Lt a b ty t = let e = over_types type.Word type.Truth a b ty t in e.0 ∙ sym e.1
binary_same two.Le a b ty t = let e = over_types type.Word type.Truth a b ty t in e.0 ∙ sym e.1
binary_same two.Gt a b ty t = let e = over_types type.Word type.Truth a b ty t in e.0 ∙ sym e.1
binary_same two.Ge a b ty t = let e = over_types type.Word type.Truth a b ty t in e.0 ∙ sym e.1
binary_same two.Add a b ty t = let e = over_types type.Word type.Word a b ty t in e.0 ∙ sym e.1
binary_same two.Sub a b ty t = let e = over_types type.Word type.Word a b ty t in e.0 ∙ sym e.1
binary_same two.Mul a b ty t = let e = over_types type.Word type.Word a b ty t in e.0 ∙ sym e.1

-- ---- gates

pub unary_gates : (n : ℕ) (o : Unary) (p : List Lit) → 0 < n → Within n p → AreGates n (unary_circuit n o p).entries
unary_gates n one.Id p h w = tt
unary_gates n one.Not p h w = tt
unary_gates n one.Neg p h w =
    gates_sum n (nothing (length p)) (inverted p) (yes 0) (length-nothing (length p) ∙ sym (length-inverted p)) (within_nothing n (length p) h) (within_inverted n p w) h

pub binary_gates : (n : ℕ) (o : Binary) (p q : List Lit) → 0 < n → length p ≡ length q → Within n p → Within n q → AreGates n (binary_circuit n o p q).entries
binary_gates n two.And p q h e w x = (tt, (only_below n p h w, only_below n q h x), tt)
binary_gates n two.Or p q h e w x = (tt, (only_below n p h w, only_below n q h x), tt)
binary_gates n two.Xor p q h e w x = (tt, (only_below n p h w, only_below n q h x), tt)
binary_gates n two.Imp p q h e w x = (tt, (turned_below n (only p) (only_below n p h w), only_below n q h x), tt)
binary_gates n two.Eq p q h e w x = gates_equal n p q (yes 0) e w x h
binary_gates n two.Ne p q h e w x = gates_equal n p q (yes 0) e w x h
binary_gates n two.Lt p q h e w x = gates_less n p q (no 0) e w x h
binary_gates n two.Ge p q h e w x = gates_less n p q (no 0) e w x h
binary_gates n two.Gt p q h e w x = gates_less n q p (no 0) (sym e) x w h
binary_gates n two.Le p q h e w x = gates_less n q p (no 0) (sym e) x w h
binary_gates n two.Add p q h e w x = gates_sum n p q (no 0) e w x h
binary_gates n two.Sub p q h e w x = gates_sum n p (inverted q) (yes 0) (e ∙ sym (length-inverted q)) w (within_inverted n q x) h
binary_gates n two.Mul p q h e w x = gates_rows n p 0 q (nothing (length p)) (length-nothing (length p)) (omega arith) h w x (within_nothing n (length p) h)

-- ---- results

equal_below : (n : ℕ) (p q : List Lit) (e : Lit) → length p ≡ length q → e.var < n → (equal_from n p q e).result.var < after n (equal_from n p q e).entries
equal_below n [] q e s lt = lt
equal_below n (a ∷ p) [] e s lt = absurd (omega arith)
equal_below n (a ∷ p) (b ∷ q) e s lt = equal_below (suc (suc n)) p q (yes (suc n)) (omega arith) (omega arith)

less_below : (n : ℕ) (p q : List Lit) (l : Lit) → length p ≡ length q → 1 ≤ length p → (less_from n p q l).result.var < after n (less_from n p q l).entries
less_below n [] q l e some = absurd (omega arith)
less_below n (a ∷ p) [] l e some = absurd (omega arith)
less_below n (a ∷ []) (b ∷ []) l e some = omega arith
less_below n (a ∷ []) (b ∷ b2 ∷ q) l e some = absurd (omega arith)
less_below n (a ∷ a2 ∷ p) (b ∷ []) l e some = absurd (omega arith)
less_below n (a ∷ a2 ∷ p) (b ∷ b2 ∷ q) l e some = less_below (suc (suc n)) (a2 ∷ p) (b2 ∷ q) (yes (suc n)) (omega arith) (omega arith)

within_rows : (n : ℕ) (a : List Lit) (s : ℕ) (q r : List Lit) → length r ≡ length a → s + length q ≤ length a → Within n r → Within (after n (rows n a s q r).entries) (rows n a s q r).result
within_rows n a s [] r e le w = w
within_rows n a s (b ∷ q) r e le w =
    let front = take (length a - s) a in
    let row = masked n front b in
    let m = after n row.entries in
    let total = sum m r (nothing s ++ row.result) (no 0) in
    let t = after m total.entries in
    let rest = rows t a (suc s) q total.result in
    let front_length : length front ≡ length a - s = omega (arith, length-take (length a - s) a) in
    let size : length r ≡ length (nothing s ++ row.result) =
    omega (arith, length-append (nothing s) row.result, length-nothing s, length-masked n front b, front_length) in
    let i = within_rows t a (suc s) q total.result (length-sum m r (nothing s ++ row.result) (no 0) size ∙ e) (omega arith) (within_sum m r (nothing s ++ row.result) (no 0) size) in
    subst (λ k. Within k rest.result) (sym (after-append n row.entries (total.entries ++ rest.entries) ∙ after-append m total.entries rest.entries)) i

pub unary_within : (n : ℕ) (o : Unary) (p : List Lit) → Within n p → Within (after n (unary_circuit n o p).entries) (unary_circuit n o p).result
unary_within n one.Id p w = w
unary_within n one.Not p w = within_inverted n p w
unary_within n one.Neg p w = within_sum n (nothing (length p)) (inverted p) (yes 0) (length-nothing (length p) ∙ sym (length-inverted p))

pub binary_within : (n : ℕ) (o : Binary) (p q : List Lit) → 0 < n → length p ≡ length q → 1 ≤ length p → Within (after n (binary_circuit n o p q).entries) (binary_circuit n o p q).result
binary_within n two.And p q h e some = (omega arith, tt)
binary_within n two.Or p q h e some = (omega arith, tt)
binary_within n two.Xor p q h e some = (omega arith, tt)
binary_within n two.Imp p q h e some = (omega arith, tt)
binary_within n two.Eq p q h e some = (equal_below n p q (yes 0) e h, tt)
binary_within n two.Ne p q h e some = (turned_below _ (equal_from n p q (yes 0)).result (equal_below n p q (yes 0) e h), tt)
binary_within n two.Lt p q h e some = (less_below n p q (no 0) e some, tt)
binary_within n two.Ge p q h e some = (turned_below _ (less_from n p q (no 0)).result (less_below n p q (no 0) e some), tt)
binary_within n two.Gt p q h e some = (less_below n q p (no 0) (sym e) (omega arith), tt)
binary_within n two.Le p q h e some = (turned_below _ (less_from n q p (no 0)).result (less_below n q p (no 0) (sym e) (omega arith)), tt)
binary_within n two.Add p q h e some = within_sum n p q (no 0) e
binary_within n two.Sub p q h e some = within_sum n p (inverted q) (yes 0) (e ∙ sym (length-inverted q))
binary_within n two.Mul p q h e some = within_rows n p 0 q (nothing (length p)) (length-nothing (length p)) (omega arith) (within_nothing n (length p) h)
