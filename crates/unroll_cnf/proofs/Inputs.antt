-- The word of an input: its bits, and the clauses that exclude the numbers of no enumerator.
use Rattle.std.proofs.Common.{◌≡◌, ℕ, zero, suc, ◌+◌, ◌-◌, ◌^◌, ◌<◌, ◌≤◌, Bool, true, false, not, ◌&&◌, ltb, IsTrue, List, [], ◌∷◌, ◌++◌, length, map, refl, sym, ap, ap₂, ◌∙◌, subst, inl, inr, arith}
use Rattle.std.specs.Prelude.{All}
use Rattle.std.specs.List.{range_with_len}
use Rattle.std.proofs.lemmas.Bool.{cases_Bool, or_left, or_right}
use Rattle.std.proofs.lemmas.Bool.Decides.{nat_tests}
use Rattle.cnf_form.specs.declared.lit.Lit.{Lit}
use Rattle.cnf_form.specs.Lits.{truth, turned, holds, below}
use Rattle.cnf_form.proofs.LitFacts.{truth-turned}
use Rattle.op_network.specs.declared.edge.Parts.{Parts}
use Rattle.op_network.specs.declared.value.Ty.{Ty}
use Rattle.op_network.specs.declared.value.Ty.TheVariants as type
use Rattle.op_network.specs.declared.value.Value.{Value}
use Rattle.op_network.specs.declared.value.Value.TheVariants as value
use Rattle.op_network.specs.Valid.{HasType, IsChoice}
use Rattle.bit_blast.specs.Circuit.{Entry, Require, after}
use Rattle.bit_blast.specs.Words.{fresh}
use Rattle.bit_blast.specs.Numbers.{bits, unsigned}
use Rattle.bit_blast.proofs.Values.{Obeys, Meets, assign, extend, value_of, AreGates}
use Rattle.bit_blast.proofs.Values as circuit
use Rattle.bit_blast.proofs.Circuits.{truth-yes, gates_ordered, after-append}
use Rattle.bit_blast.proofs.Made.{Within, within_fresh, gates_fresh}
use Rattle.unroll_cnf.specs.Sizes.{bits_of, enumerators}
use Rattle.unroll_cnf.specs.Values.{digits, value_bits, excluding, excluded}
use Rattle.unroll_cnf.specs.Unrolled.{input_circuit}
use Rattle.unroll_cnf.proofs.Bits.{length-digits, unsigned-digits, choice_fits}
use Rattle.unroll_cnf.proofs.Typed.{enumerator_below, few_enumerators}
use Rattle.unroll_cnf.proofs.Agreement.{ordered_both}

abbrev pub fill : (ℕ → Bool) → ℕ → List Bool → ℕ → Bool
fill v n [] = v
fill v n (b ∷ bs) = fill (assign v n b) (suc n) bs

pub assigned_other : (v : ℕ → Bool) (n : ℕ) (b : Bool) (k : ℕ) → k < n → assign v n b k ≡ v k
assigned_other v n b k lt = grind (arith, nat_tests)

pub assigned_same : (v : ℕ → Bool) (n : ℕ) (b : Bool) → assign v n b n ≡ b
assigned_same v n b = grind (arith, nat_tests)

pub fill_keeps : (v : ℕ → Bool) (n : ℕ) (bs : List Bool) (k : ℕ) → k < n → fill v n bs k ≡ v k
fill_keeps v n [] k lt = refl
fill_keeps v n (b ∷ bs) k lt = fill_keeps (assign v n b) (suc n) bs k (omega arith) ∙ assigned_other v n b k lt

pub fill_bits : (v : ℕ → Bool) (n : ℕ) (bs : List Bool) → bits (fill v n bs) (fresh n (length bs)).result ≡ bs
fill_bits v n [] = refl
fill_bits v n (b ∷ bs) =
    ap₂ (λ (x : Bool) (y : List Bool). x ∷ y)
    (truth-yes (fill (assign v n b) (suc n) bs) n ∙ (fill_keeps (assign v n b) (suc n) bs n (omega arith) ∙ assigned_same v n b))
    (fill_bits (assign v n b) (suc n) bs)

pub fresh_obeys : (w : ℕ → Bool) (n b : ℕ) (es : List Entry) → Obeys w (n + b) es → Obeys w n ((fresh n b).entries ++ es)
fresh_obeys w n zero es o = subst (λ x. Obeys w x es) (omega arith) o
fresh_obeys w n (suc b) es o = (refl, fresh_obeys w (suc n) b es (subst (λ x. Obeys w x es) (omega arith) o))

pub fresh_meets : (w : ℕ → Bool) (n b : ℕ) (es : List Entry) → Meets w es → Meets w ((fresh n b).entries ++ es)
fresh_meets w n zero es m = m
fresh_meets w n (suc b) es m = fresh_meets w (suc n) b es m

-- a clause that excludes some bits is true of other bits
pub excluding_true : (v : ℕ → Bool) (a : List Lit) (bs : List Bool) → length a ≡ length bs → (bits v a ≡ bs → ⊥) → holds v (excluding a bs) ≡ true
excluding_true v [] [] e ne = absurd (ne refl)
excluding_true v [] (b ∷ bs) e ne = absurd (omega arith)
excluding_true v (l ∷ a) [] e ne = absurd (omega arith)
excluding_true v (l ∷ a) (true ∷ bs) e ne = elim (cases_Bool (truth v l)) [
  | inl t ↦ or_right (truth v (turned l)) _ (excluding_true v a bs (omega arith) (λ q. ne (ap₂ (λ (x : Bool) (y : List Bool). x ∷ y) t q)))
  | inr t ↦ or_left (truth v (turned l)) _ (truth-turned v l ∙ ap not t)
]
excluding_true v (l ∷ a) (false ∷ bs) e ne = elim (cases_Bool (truth v l)) [
  | inl t ↦ or_left (truth v l) _ t
  | inr t ↦ or_right (truth v l) _ (excluding_true v a bs (omega arith) (λ q. ne (ap₂ (λ (x : Bool) (y : List Bool). x ∷ y) t q)))
]

pub excluded_from : (w : ℕ → Bool) (a : List Lit) (b k from many : ℕ) → length a ≡ b → bits w a ≡ digits b k → k < from → from + many ≤ 2 ^ b → Meets w (map (λ x. Require (excluding a (digits b x))) (range_with_len from many))
excluded_from w a b k from zero l e lt le = tt
excluded_from w a b k from (suc many) l e lt le = (
  excluding_true w a (digits b from) (l ∙ sym (length-digits b from))
      (λ q. let z : k ≡ from = sym (unsigned-digits b k (omega arith)) ∙ (ap unsigned (sym e ∙ q) ∙ unsigned-digits b from (omega arith)) in omega arith),
  excluded_from w a b k (from + 1) many l e (omega arith) (omega arith),
)

pub requires_obey : (w : ℕ → Bool) (n : ℕ) (f : ℕ → List Lit) (from many : ℕ) → Obeys w n (map (λ x. Require (f x)) (range_with_len from many))
requires_obey w n f from zero = tt
requires_obey w n f from (suc many) = (refl, requires_obey w n f (from + 1) many)

pub after_requires : (n : ℕ) (f : ℕ → List Lit) (from many : ℕ) → after n (map (λ x. Require (f x)) (range_with_len from many)) ≡ n
after_requires n f from zero = refl
after_requires n f from (suc many) = after_requires n f (from + 1) many

pub excluding_below : (m : ℕ) (a : List Lit) (bs : List Bool) → Within m a → IsTrue (below m (excluding a bs))
unfolding turned
excluding_below m [] bs p = grind arith
excluding_below m (l ∷ a) [] p = grind arith
excluding_below m (l ∷ a) (true ∷ bs) p = both (ltb l.var m) _ (grind (arith, nat_tests, p.0)) (excluding_below m a bs p.1)
  where
    both : (a b : Bool) → IsTrue a → IsTrue b → IsTrue (a && b)
    both true b p q = q
    both false b p q = p
excluding_below m (l ∷ a) (false ∷ bs) p = both (ltb l.var m) _ (grind (arith, nat_tests, p.0)) (excluding_below m a bs p.1)
  where
    both : (a b : Bool) → IsTrue a → IsTrue b → IsTrue (a && b)
    both true b p q = q
    both false b p q = p

pub requires_ordered : (m : ℕ) (a : List Lit) (b from many : ℕ) → Within m a → circuit.IsOrdered m (map (λ x. Require (excluding a (digits b x))) (range_with_len from many))
requires_ordered m a b from zero p = tt
requires_ordered m a b from (suc many) p = (excluding_below m a (digits b from) p, requires_ordered m a b (from + 1) many p)

module _ (parts : Parts) where
  pub excluded_obeys : (w : ℕ → Bool) (m : ℕ) (ty : Ty) (a : List Lit) → Obeys w m (excluded parts ty a)
  excluded_obeys w m type.Truth a = tt
  excluded_obeys w m type.Word a = tt
  excluded_obeys w m (type.Choice c) a = requires_obey w m (λ x. excluding a (digits (bits_of parts (type.Choice c)) x)) (enumerators parts.choices c) _

  pub after_excluded : (m : ℕ) (ty : Ty) (a : List Lit) → after m (excluded parts ty a) ≡ m
  after_excluded m type.Truth a = refl
  after_excluded m type.Word a = refl
  after_excluded m (type.Choice c) a = after_requires m (λ x. excluding a (digits (bits_of parts (type.Choice c)) x)) (enumerators parts.choices c) (2 ^ bits_of parts (type.Choice c) - enumerators parts.choices c)

  pub excluded_meets : (w : ℕ → Bool) (x : Value) (ty : Ty) (a : List Lit) → All IsChoice parts.choices → HasType parts x ty → length a ≡ bits_of parts ty → bits w a ≡ value_bits parts x ty → Meets w (excluded parts ty a)
  excluded_meets w x type.Truth a few h l e = tt
  excluded_meets w x type.Word a few h l e = tt
  excluded_meets w (value.Choice k) (type.Choice c) a few h l e =
      let f = choice_fits (enumerators parts.choices c) (few_enumerators parts.choices c few) in
      excluded_from w a (bits_of parts (type.Choice c)) k (enumerators parts.choices c) _ l e (enumerator_below parts.choices c k h) (omega arith)
  excluded_meets w (value.Truth b) (type.Choice c) a few h l e = absurd h
  excluded_meets w (value.Word z) (type.Choice c) a few h l e = absurd h

  pub excluded_ordered : (m : ℕ) (ty : Ty) (a : List Lit) → Within m a → circuit.IsOrdered m (excluded parts ty a)
  excluded_ordered m type.Truth a p = tt
  excluded_ordered m type.Word a p = tt
  excluded_ordered m (type.Choice c) a p = requires_ordered m a (bits_of parts (type.Choice c)) (enumerators parts.choices c) (2 ^ bits_of parts (type.Choice c) - enumerators parts.choices c) p

  pub input_ordered : (m : ℕ) (ty : Ty) → circuit.IsOrdered m (input_circuit parts m ty).entries
  input_ordered m ty =
      let a = fresh m (bits_of parts ty) in
      ordered_both m a.entries (excluded parts ty a.result) (gates_ordered m a.entries (gates_fresh m (bits_of parts ty)))
      (excluded_ordered (after m a.entries) ty a.result (within_fresh m (bits_of parts ty)))

  pub after_input : (m : ℕ) (ty : Ty) → after m (input_circuit parts m ty).entries ≡ after m (fresh m (bits_of parts ty)).entries
  after_input m ty =
      let a = fresh m (bits_of parts ty) in
      after-append m a.entries (excluded parts ty a.result) ∙ after_excluded (after m a.entries) ty a.result
