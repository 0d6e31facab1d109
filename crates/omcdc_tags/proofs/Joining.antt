-- The rows of the outputs, joined one by one.
use Rattle.std.proofs.Common.{◌≡◌, ◌∙◌, ⊎_elim, inl, inr, ℕ, ◌+◌, Bool, true, false, ◌↔◌, List, Some, sym, subst, arith, length, replicate, slice_get}
use Rattle.std.proofs.lemmas.Bool.{cases_eq}
use Rattle.op_network.specs.declared.edge.EdgeId.{EdgeId}
use Rattle.omcdc_tags.specs.Rows.{Adds, JoinsRows, OutputHasBelow}
use Rattle.omcdc_tags.specs.Tags.{has_bit, row_at}
use Rattle.omcdc_tags.proofs.Adding.{adds_none, adds_both}
use Rattle.omcdc_tags.proofs.Marking.{some_same, unmarked}

pub none_joined : (outputs : List EdgeId) (rows : List (List Bool)) (row : List Bool) → Adds row row (OutputHasBelow outputs rows 0)
none_joined outputs rows row = adds_none row (OutputHasBelow outputs rows 0) (λ k o. omega (arith, o.before))

pub one_joined : (outputs : List EdgeId) (rows : List (List Bool)) (n : ℕ) (e : EdgeId) (old mid new : List Bool) → slice_get outputs n ≡ Some e → Adds old mid (OutputHasBelow outputs rows n) → Adds mid new (λ k. has_bit (row_at rows e) k ≡ true)
    → Adds old new (OutputHasBelow outputs rows (n + 1))
one_joined outputs rows n e old mid new there first second =
    adds_both old mid new (OutputHasBelow outputs rows n) (λ k. has_bit (row_at rows e) k ≡ true) (OutputHasBelow outputs rows (n + 1)) first second
    (λ k. (
      λ o. ⊎_elim
          (λ same. inr (subst (λ (x : EdgeId). has_bit (row_at rows x) k ≡ true) (some_same o.output e (sym o.there ∙ subst (λ (j : ℕ). slice_get outputs j ≡ Some e) (sym same) there)) o.has))
          (λ apart. inl (record { place = o.place; output = o.output; before = omega (arith, o.before, apart); there = o.there; has = o.has }))
          (cases_eq o.place n),
      λ h. ⊎_elim
          (λ o. record { place = o.place; output = o.output; before = omega (arith, o.before); there = o.there; has = o.has })
          (λ has. record { place = n; output = e; before = omega arith; there = there; has = has })
          h,
    ))

pub all_joined : (outputs : List EdgeId) (rows : List (List Bool)) (n m : ℕ) (row : List Bool) → m ≡ length outputs → Adds (replicate n false) row (OutputHasBelow outputs rows m) → JoinsRows outputs rows row
all_joined outputs rows n m row whole adds = record {
  each = λ k. subst (λ (l : ℕ). (has_bit row k ≡ true) ↔ OutputHasBelow outputs rows l k) whole
      (λ h. ⊎_elim (λ old. absurd (unmarked n k old)) (λ o. o) ((adds.each k).0 h), λ o. (adds.each k).1 (inr o));
}
