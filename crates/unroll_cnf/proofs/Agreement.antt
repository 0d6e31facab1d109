-- Entries, clauses and words under assignments that agree on the variables that are there.
use Rattle.std.proofs.Common.{◌≡◌, ℕ, suc, Bool, List, [], ◌∷◌, ◌++◌, refl, sym, ap₂, ◌∙◌, arith}
use Rattle.cnf_form.specs.declared.lit.Lit.{Lit}
use Rattle.bit_blast.specs.Circuit.{Entry, Free, Require, Circuit, after, behind, yes, no}
use Rattle.bit_blast.specs.Circuit as gate
use Rattle.bit_blast.specs.Meaning.{Agree, ReadsBelow}
use Rattle.bit_blast.specs.Numbers.{bits}
use Rattle.bit_blast.proofs.Values.{Obeys, Meets, assign, extend, value_of, AreGates}
use Rattle.bit_blast.proofs.Values as circuit
use Rattle.bit_blast.proofs.Circuits.{gate_value, truth-agree, holds-agree, after_more}
use Rattle.bit_blast.proofs.Made.{Within}

entry_agree : (n : ℕ) (v w : ℕ → Bool) (e : Entry) → ReadsBelow n e → Agree (behind n e) v w → v n ≡ value_of v n e → w n ≡ value_of w n e
entry_agree n v w Free r a h = refl
entry_agree n v w (gate.And x y) r a h = gate_value n v w (gate.And x y) r (λ k lt. a k (omega arith)) (sym (a n (omega arith)) ∙ h)
entry_agree n v w (gate.Or x y) r a h = gate_value n v w (gate.Or x y) r (λ k lt. a k (omega arith)) (sym (a n (omega arith)) ∙ h)
entry_agree n v w (gate.Xor x y) r a h = gate_value n v w (gate.Xor x y) r (λ k lt. a k (omega arith)) (sym (a n (omega arith)) ∙ h)
entry_agree n v w (gate.Ite c x y) r a h = gate_value n v w (gate.Ite c x y) r (λ k lt. a k (omega arith)) (sym (a n (omega arith)) ∙ h)
entry_agree n v w (Require c) r a h = refl

pub obeys_agree : (n : ℕ) (v w : ℕ → Bool) (es : List Entry) → circuit.IsOrdered n es → Agree (after n es) v w → Obeys v n es → Obeys w n es
obeys_agree n v w [] o a h = tt
obeys_agree n v w (e ∷ es) o a h =
    let more = after_more (behind n e) es in
    (entry_agree n v w e o.0 (λ k lt. a k (omega arith)) h.0, obeys_agree (behind n e) v w es o.1 a h.1)

pub meets_agree : (n : ℕ) (v w : ℕ → Bool) (es : List Entry) → circuit.IsOrdered n es → Agree (after n es) v w → Meets v es → Meets w es
meets_agree n v w [] o a h = tt
meets_agree n v w (Free ∷ es) o a h = meets_agree (suc n) v w es o.1 a h
meets_agree n v w (gate.And x y ∷ es) o a h = meets_agree (suc n) v w es o.1 a h
meets_agree n v w (gate.Or x y ∷ es) o a h = meets_agree (suc n) v w es o.1 a h
meets_agree n v w (gate.Xor x y ∷ es) o a h = meets_agree (suc n) v w es o.1 a h
meets_agree n v w (gate.Ite c x y ∷ es) o a h = meets_agree (suc n) v w es o.1 a h
meets_agree n v w (Require c ∷ es) o a h =
    let more = after_more n es in
    (sym (holds-agree n v w c (λ k lt. a k (omega arith)) o.0) ∙ h.0, meets_agree n v w es o.1 a h.1)

pub bits_agree : (n : ℕ) (v w : ℕ → Bool) (a : List Lit) → Within n a → Agree n v w → bits v a ≡ bits w a
bits_agree n v w [] p g = refl
bits_agree n v w (l ∷ a) p g = ap₂ (λ (x : Bool) (y : List Bool). x ∷ y) (truth-agree n v w l g p.0) (bits_agree n v w a p.1 g)

pub meets_both : (v : ℕ → Bool) (c d : List Entry) → Meets v c → Meets v d → Meets v (c ++ d)
meets_both v [] d p q = q
meets_both v (Free ∷ c) d p q = meets_both v c d p q
meets_both v (gate.And x y ∷ c) d p q = meets_both v c d p q
meets_both v (gate.Or x y ∷ c) d p q = meets_both v c d p q
meets_both v (gate.Xor x y ∷ c) d p q = meets_both v c d p q
meets_both v (gate.Ite z x y ∷ c) d p q = meets_both v c d p q
meets_both v (Require z ∷ c) d p q = (p.0, meets_both v c d p.1 q)

pub ordered_both : (n : ℕ) (c d : List Entry) → circuit.IsOrdered n c → circuit.IsOrdered (after n c) d → circuit.IsOrdered n (c ++ d)
ordered_both n [] d p q = q
ordered_both n (e ∷ c) d p q = (p.0, ordered_both (behind n e) c d p.1 q)
