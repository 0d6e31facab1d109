-- A record's name, step by step.
use Rattle.std.proofs.Common.{◌≡◌, ◌+◌, ◌∙◌, ℕ, true, false, nat_eq, List, [], ◌∷◌, length, Some, Ok, Err, ◌≤◌, ◌-◌, inl, inr, refl, sym, arith}
use Rattle.std.proofs.lemmas.Bool.{eqb-true, eq-eqb}
use Rattle.std.proofs.lemmas.Bool.Decides.{eqb_tells}
use Rattle.std.specs.Prelude.{slice_get}
use Rattle.op_network.specs.declared.test.Test.{Test}
use Rattle.suite_file.specs.declared.header.Layout.{Layout}
use Rattle.suite_file.specs.declared.fault.SuiteFault.TheVariants as fault
use Rattle.suite_file.specs.declared.fault.SuiteKind.TheVariants as kind
use Rattle.suite_file.specs.Records.{Text}
use Rattle.suite_file.specs.Suites.{name_in, is_name, has_ended}

pub wide : (n m : ℕ) → 1 ≤ n → nat_eq (n - 1) m ≡ nat_eq n (m + 1)
wide n m h = elim (eqb_tells (n - 1) m) [
  | inl t ↦ t.0 ∙ sym (eq-eqb n (m + 1) (omega (arith, h, t.1)))
  | inr t ↦ elim (eqb_tells n (m + 1)) [
    | inl u ↦ absurd (t.1 (omega (arith, u.1)))
    | inr u ↦ t.0 ∙ sym u.0
  ]
]

pub narrow : (m : ℕ) → false ≡ nat_eq 0 (m + 1)
narrow m = elim (eqb_tells 0 (m + 1)) [
  | inl u ↦ absurd (omega (arith, u.1))
  | inr u ↦ sym u.0
]

pub is_wide : (n m : ℕ) → nat_eq n m ≡ true → n ≡ m
is_wide n m h = eqb-true n m h

pub bad_width : (layout : Layout) (row : ℕ) (ended : List Test) (fields : List Text) → nat_eq (length fields) (length layout.types + 1) ≡ false
    → name_in layout row ended fields ≡ Err (fault.Bad row 0 kind.Width)
bad_width layout row ended [] h = refl
bad_width layout row ended (name ∷ rest) h = rw h refl

pub bad_name : (layout : Layout) (row : ℕ) (ended : List Test) (fields : List Text) (name : Text) → nat_eq (length fields) (length layout.types + 1) ≡ true → Some name ≡ slice_get fields 0
    → is_name name ≡ false → name_in layout row ended fields ≡ Err (fault.Bad row 0 kind.BadName)
bad_name layout row ended [] name h e f = absurd (cc e)
bad_name layout row ended (x ∷ rest) name h e f = let q : name ≡ x = cc e in rw (h, sym q, f) refl

pub split_test : (layout : Layout) (row : ℕ) (ended : List Test) (fields : List Text) (name : Text) → nat_eq (length fields) (length layout.types + 1) ≡ true → Some name ≡ slice_get fields 0
    → is_name name ≡ true → has_ended ended name ≡ true → name_in layout row ended fields ≡ Err (fault.Bad row 0 kind.SplitTest)
split_test layout row ended [] name h e f s = absurd (cc e)
split_test layout row ended (x ∷ rest) name h e f s = let q : name ≡ x = cc e in rw (h, sym q, f, s) refl

pub has_name : (layout : Layout) (row : ℕ) (ended : List Test) (fields : List Text) (name : Text) → nat_eq (length fields) (length layout.types + 1) ≡ true → Some name ≡ slice_get fields 0
    → is_name name ≡ true → has_ended ended name ≡ false → name_in layout row ended fields ≡ Ok name
has_name layout row ended [] name h e f s = absurd (cc e)
has_name layout row ended (x ∷ rest) name h e f s = let q : name ≡ x = cc e in rw (h, sym q, f, s) refl
