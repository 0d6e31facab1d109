-- Which value the operand of each port has.
use Rattle.std.proofs.Common.{◌≡◌, ◌∙◌, ◌⊎◌, ⊎_elim, inl, inr, ◌↔◌, ℕ, ◌+◌, ◌*◌, ◌<◌, Bool, true, false, List, Some, sym, ap, subst, arith, length, replicate, slice_get}
use Rattle.std.proofs.lemmas.Bool.{cases_eq}
use Rattle.std.proofs.lemmas.Option.{slice_get_within}
use Rattle.op_network.specs.declared.edge.Edge.{Edge}
use Rattle.op_network.specs.declared.value.Value.{Value}
use Rattle.dep_paths.specs.declared.path.Condition.{Condition}
use Rattle.omcdc_tags.specs.Rows.{Adds, ValuesBelow}
use Rattle.omcdc_tags.specs.Tags.{AreValues, OperandHas, has_bit, bit_of_tag}
use Rattle.omcdc_tags.proofs.Marking.{unmarked}
use Rattle.omcdc_tags.proofs.Columns.{same_condition}

pub no_starts : (edges : List Edge) (ports : List Condition) (frame : List Value) (n : ℕ) → ValuesBelow edges ports frame 0 (replicate n false)
no_starts edges ports frame n = record { done = λ j c v below there. absurd (omega (arith, below)); rest = λ k past bit. unmarked n k bit }

pub whole_starts : (edges : List Edge) (ports : List Condition) (frame : List Value) (n : ℕ) (values : List Bool) → n ≡ length ports → ValuesBelow edges ports frame n values → AreValues edges ports frame values
whole_starts edges ports frame n values same s = record { each = λ i c v there. s.done i c v (omega (arith, same, slice_get_within ports i c there)) there }

far : (i j : ℕ) (v : Bool) → j < i → (bit_of_tag j v ≡ 2 * i) ⊎ (bit_of_tag j v ≡ 2 * i + 1) → ⊥
far i j true below (inl h) = omega (arith, below, h)
far i j true below (inr h) = omega (arith, below, h)
far i j false below (inl h) = omega (arith, below, h)
far i j false below (inr h) = omega (arith, below, h)

here : (edges : List Edge) (ports : List Condition) (frame : List Value) (i j : ℕ) (c : Condition) (yes_ no_ : Bool) (old mid new : List Bool) (v : Bool) → j ≡ i → ValuesBelow edges ports frame i old
    → ((k : ℕ) → has_bit new k ≡ true → (has_bit old k ≡ true) ⊎ (((k ≡ 2 * i) × (yes_ ≡ true)) ⊎ ((k ≡ 2 * i + 1) × (no_ ≡ true))))
    → (yes_ ≡ true) ↔ OperandHas edges frame true c → (no_ ≡ true) ↔ OperandHas edges frame false c
    → Adds old mid (λ k. (k ≡ 2 * i) × (yes_ ≡ true)) → Adds mid new (λ k. (k ≡ 2 * i + 1) × (no_ ≡ true)) → (has_bit new (bit_of_tag j v) ≡ true) ↔ OperandHas edges frame v c
here edges ports frame i j c yes_ no_ old mid new true same s split on off first second = (
  λ h. ⊎_elim (λ o. absurd (s.rest (2 * j) (omega (arith, same)) o)) (λ both. ⊎_elim (λ y. on.0 y.1) (λ n. absurd (omega (arith, same, n.0))) both) (split (2 * j) h),
  λ has. (second.each (2 * j)).1 (inl ((first.each (2 * j)).1 (inr (omega (arith, same), on.1 has)))),
)
here edges ports frame i j c yes_ no_ old mid new false same s split on off first second = (
  λ h. ⊎_elim (λ o. absurd (s.rest (2 * j + 1) (omega (arith, same)) o)) (λ both. ⊎_elim (λ y. absurd (omega (arith, same, y.0))) (λ n. off.0 n.1) both) (split (2 * j + 1) h),
  λ has. (second.each (2 * j + 1)).1 (inr (omega (arith, same), off.1 has)),
)

-- the values of the operand of one port more
pub next_start : (edges : List Edge) (ports : List Condition) (frame : List Value) (i : ℕ) (c : Condition) (yes_ no_ : Bool) (old mid new : List Bool) → ValuesBelow edges ports frame i old → slice_get ports i ≡ Some c
    → (yes_ ≡ true) ↔ OperandHas edges frame true c → (no_ ≡ true) ↔ OperandHas edges frame false c
    → Adds old mid (λ k. (k ≡ 2 * i) × (yes_ ≡ true)) → Adds mid new (λ k. (k ≡ 2 * i + 1) × (no_ ≡ true)) → ValuesBelow edges ports frame (i + 1) new
next_start edges ports frame i c yes_ no_ old mid new s there on off first second =
    let split : (k : ℕ) → has_bit new k ≡ true → (has_bit old k ≡ true) ⊎ (((k ≡ 2 * i) × (yes_ ≡ true)) ⊎ ((k ≡ 2 * i + 1) × (no_ ≡ true))) =
    λ k h. ⊎_elim (λ m. ⊎_elim (λ o. inl o) (λ y. inr (inl y)) ((first.each k).0 m)) (λ n. inr (inr n)) ((second.each k).0 h) in
    let keeps : (k : ℕ) → has_bit old k ≡ true → has_bit new k ≡ true = λ k h. (second.each k).1 (inl ((first.each k).1 (inl h))) in
    record {
      done = λ j d v below at. ⊎_elim
          (λ same.
          let equal : d ≡ c = same_condition d c (sym at ∙ ap (λ (n : ℕ). slice_get ports n) same ∙ there) in
          subst (λ (x : Condition). (has_bit new (bit_of_tag j v) ≡ true) ↔ OperandHas edges frame v x) (sym equal) (here edges ports frame i j c yes_ no_ old mid new v same s split on off first second))
          (λ apart.
          let earlier : j < i = omega (arith, below, apart) in (
            λ h. ⊎_elim (λ o. (s.done j d v earlier at).0 o) (λ both. ⊎_elim (λ y. absurd (far i j v earlier (inl y.0))) (λ n. absurd (far i j v earlier (inr n.0))) both) (split (bit_of_tag j v) h),
            λ has. keeps (bit_of_tag j v) ((s.done j d v earlier at).1 has),
          ))
          (cases_eq j i);
      rest = λ k past h. ⊎_elim (λ o. s.rest k (omega (arith, past)) o) (λ both. ⊎_elim (λ y. omega (arith, past, y.0)) (λ n. omega (arith, past, n.0)) both) (split k h);
    }
