-- The rows of a test, one after another.
use Rattle.std.proofs.Common.{◌≡◌, ◌↔◌, ℕ, zero, suc, ◌+◌, ◌-◌, ◌*◌, ◌<◌, ◌≤◌, List, [], ◌∷◌, length, take, drop, refl, ap, sym, ◌∙◌, subst, arith, suc-mul, All}
use Rattle.std.specs.List.{AllByRecursion}
use Rattle.std.proofs.lemmas.List.{length-drop}
use Rattle.std.proofs.lemmas.List.Elements.{All-from_recursion, All-cons, All-head, All-tail}
use Rattle.op_network.specs.declared.edge.Parts.{Parts}
use Rattle.op_network.specs.declared.value.Value.{Value}
use Rattle.op_network.specs.Run.{rows}
use Rattle.op_network.specs.Valid.{FitsRow}

empty_fits : (parts : Parts) (row : List Value) → length parts.inputs ≡ 0 → row ≡ [] → FitsRow parts row
empty_fits parts row none is = (ap length is ∙ sym none, λ i e v a b. cc)

all_empty : (parts : Parts) (n : ℕ) (values : List Value) → length parts.inputs ≡ 0 → AllByRecursion (FitsRow parts) (rows 0 n values)
all_empty parts zero values none = tt
all_empty parts (suc n) values none = (empty_fits parts (take 0 values) none refl, all_empty parts n (drop 0 values) none)

-- without inputs each row is empty
pub no_inputs : (parts : Parts) (n : ℕ) (values : List Value) → length parts.inputs ≡ 0 → All (FitsRow parts) (rows (length parts.inputs) n values)
no_inputs parts n values none = subst (λ w. All (FitsRow parts) (rows w n values)) (sym none) (All-from_recursion (FitsRow parts) (rows 0 n values) (all_empty parts n values none))

rows_more : (w n i : ℕ) (values : List Value) → i < n → rows w (n - i) values ≡ take w values ∷ rows w (n - (i + 1)) (drop w values)
rows_more w n i values below = let e : n - i ≡ suc (n - (i + 1)) = omega arith in ap (λ m. rows w m values) e

pub no_rows : (P : List Value → Type 0) (w n i : ℕ) (values : List Value) → n ≤ i → All P (rows w (n - i) values)
no_rows P w n i values past = let e : n - i ≡ 0 = omega arith in let none : rows w (n - i) values ≡ [] = ap (λ m. rows w m values) e in subst (All P) (sym none) (λ k d within. absurd (omega arith))

pub row_fits : (P : List Value → Type 0) (whole : Type 0) (w n i : ℕ) (rest row later : List Value) → i < n → row ≡ take w rest → later ≡ drop w rest → P row
    → (All P (rows w (n - i) rest) ↔ whole) → (All P (rows w (n - (i + 1)) later) ↔ whole)
row_fits P whole w n i rest row later below is after fits same =
    let cut : rows w (n - i) rest ≡ row ∷ rows w (n - (i + 1)) later = rows_more w n i rest below ∙ ap (λ r. r ∷ rows w (n - (i + 1)) (drop w rest)) (sym is) ∙ ap (λ r. row ∷ rows w (n - (i + 1)) r) (sym after) in (
      (λ h. same.0 (subst (All P) (sym cut) (All-cons P row (rows w (n - (i + 1)) later) fits h))),
      (λ h. All-tail P row (rows w (n - (i + 1)) later) (subst (All P) cut (same.1 h))),
    )

pub row_fails : (P : List Value → Type 0) (whole : Type 0) (w n i : ℕ) (rest row : List Value) → i < n → row ≡ take w rest → (P row → ⊥)
    → (All P (rows w (n - i) rest) ↔ whole) → whole → ⊥
row_fails P whole w n i rest row below is fails same h = fails (subst P (sym is) (All-head P (take w rest) (rows w (n - (i + 1)) (drop w rest)) (subst (All P) (rows_more w n i rest below) (same.1 h))))

times_more : (n i w : ℕ) → i < n → (n - i) * w ≡ (n - (i + 1)) * w + w
times_more n i w below = let e : n - i ≡ suc (n - (i + 1)) = omega arith in rw e (simp suc-mul (omega arith))

-- so many rows begin with a row
pub row_within : (n i w : ℕ) (rest : List Value) → i < n → length rest ≡ (n - i) * w → w ≤ length rest
row_within n i w rest below size = omega (arith, times_more n i w below)

pub rest_size : (n i w : ℕ) (rest later : List Value) → i < n → length rest ≡ (n - i) * w → later ≡ drop w rest → length later ≡ (n - (i + 1)) * w
rest_size n i w rest later below size after = omega (arith, times_more n i w below, ap length after, length-drop w rest)
