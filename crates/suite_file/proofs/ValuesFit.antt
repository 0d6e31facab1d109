-- The values that fields name are of their types.
use Rattle.std.proofs.Common.{◌≡◌, ◌<◌, ◌≤◌, ◌+◌, ◌-◌, ◌^◌, ◌∙◌, ℕ, zero, suc, Bool, true, false, ◌&&◌, cond, nat_le, List, [], ◌∷◌, ◌++◌, length, Option, Some, None, Ok, refl, sym, subst, arith, codes}
use Rattle.std.specs.Prelude.{pos}
use Rattle.op_network.specs.declared.edge.Parts.{Parts}
use Rattle.suite_file.specs.Records.{Text}
use Rattle.std.specs.Option.{option_map_or}
use Rattle.std.proofs.Common.{◌||◌}
use Rattle.suite_file.specs.Suites.{cells_from}
use Rattle.suite_file.specs.Values.{is_numeral, number}
use Rattle.std.specs.Prelude.{◌-ℤ◌}
use Rattle.std.proofs.Common.{get_or}
use Rattle.std.specs.Prelude.{slice_get}
use Rattle.std.specs.Str.{bytes_eq}
use Rattle.std.proofs.lemmas.Int.{ints}
use Rattle.std.proofs.Math.Pow.{pow_mono}
use Rattle.op_network.specs.Valid.{HasType}
use Rattle.op_network.specs.declared.value.Ty.{Ty}
use Rattle.op_network.specs.declared.value.Ty.TheVariants as type
use Rattle.op_network.specs.declared.value.Value.{Value}
use Rattle.op_network.specs.declared.value.Value.TheVariants.{Truth, Word, Choice as Enumerator}
use Rattle.suite_file.specs.Values.{enumerator_from, value_of}
use Rattle.suite_file.proofs.Digits.{is_within}
use Rattle.std.proofs.Common.{◌==◌, nat_lt, Err}
use Rattle.op_network.specs.declared.edge.Choice.{Choice}
use Rattle.suite_file.specs.Values.{word_of, enumerator_of}
use Rattle.suite_file.proofs.Inputs.{append_assoc, append_none}

-- ---- values that fields name are of their types

truth_typed : (parts : Parts) (a b : Bool) (v : Value) → cond a (Some (Truth false)) (cond b (Some (Truth true)) None) ≡ Some v → HasType parts v type.Truth
truth_typed parts true b v e = let q : Truth false ≡ v = cc e in subst (λ x. HasType parts x type.Truth) q tt
truth_typed parts false true v e = let q : Truth true ≡ v = cc e in subst (λ x. HasType parts x type.Truth) q tt
truth_typed parts false false v e = absurd (cc e)

half_some : (width : ℕ) → 1 ≤ 2 ^ (width - 1)
half_some width = pow_mono {i = 0} {j = width - 1} (omega arith)

minus_typed : (parts : Parts) (digits : Text) (v : Value) → cond (is_numeral digits && nat_le (number digits) (2 ^ (parts.width - 1))) (Some (Word (pos 0 -ℤ pos (number digits)))) None ≡ Some v → HasType parts v type.Word
minus_typed parts digits v e = go (is_numeral digits) (nat_le (number digits) (2 ^ (parts.width - 1))) refl e
  where
    go : (a b : Bool) → nat_le (number digits) (2 ^ (parts.width - 1)) ≡ b → cond (a && b) (Some (Word (pos 0 -ℤ pos (number digits)))) None ≡ Some v → HasType parts v type.Word
    go true true h f =
        let q : Word (pos 0 -ℤ pos (number digits)) ≡ v = cc f in
        let low = is_within (number digits) (2 ^ (parts.width - 1)) h in
        let some = half_some parts.width in
        subst (λ x. HasType parts x type.Word) q (omega (arith, ints, low, some), omega (arith, ints, low, some))
    go true false h f = absurd (cc f)
    go false b h f = absurd (cc f)

plain_typed : (parts : Parts) (digits : Text) (v : Value) → cond (is_numeral digits && nat_lt (number digits) (2 ^ (parts.width - 1))) (Some (Word (pos (number digits)))) None ≡ Some v → HasType parts v type.Word
plain_typed parts digits v e = go (is_numeral digits) (nat_lt (number digits) (2 ^ (parts.width - 1))) refl e
  where
    go : (a b : Bool) → nat_lt (number digits) (2 ^ (parts.width - 1)) ≡ b → cond (a && b) (Some (Word (pos (number digits)))) None ≡ Some v → HasType parts v type.Word
    go true true h f =
        let q : Word (pos (number digits)) ≡ v = cc f in
        let low = is_within (suc (number digits)) (2 ^ (parts.width - 1)) h in
        subst (λ x. HasType parts x type.Word) q (omega (arith, ints, low), omega (arith, ints, low))
    go true false h f = absurd (cc f)
    go false b h f = absurd (cc f)

word_typed : (parts : Parts) (text : Text) (v : Value) → word_of parts.width text ≡ Some v → HasType parts v type.Word
word_typed parts [] v e = absurd (cc e)
word_typed parts (b ∷ text) v e = go (b == 45) e
  where
    go : (t : Bool) → cond t (cond (is_numeral text && nat_le (number text) (2 ^ (parts.width - 1))) (Some (Word (pos 0 -ℤ pos (number text)))) None)
        (cond (is_numeral (b ∷ text) && nat_lt (number (b ∷ text)) (2 ^ (parts.width - 1))) (Some (Word (pos (number (b ∷ text))))) None) ≡ Some v → HasType parts v type.Word
    go true f = minus_typed parts text v f
    go false f = plain_typed parts (b ∷ text) v f

place_of : (j : ℕ) (names : List Text) (text : Text) (v : Value) → enumerator_from j names text ≡ Some v → (k : ℕ) × (v ≡ Enumerator (j + k)) × (k < length names)
place_of j [] text v e = absurd (cc e)
place_of j (name ∷ names) text v e = go (bytes_eq text name) (place_of (suc j) names text v) e
  where
    go : (t : Bool) → (enumerator_from (suc j) names text ≡ Some v → (k : ℕ) × (v ≡ Enumerator (suc j + k)) × (k < length names)) → cond t (Some (Enumerator j)) (enumerator_from (suc j) names text) ≡ Some v
        → (k : ℕ) × (v ≡ Enumerator (j + k)) × (k < suc (length names))
    go true more f = let q : Enumerator j ≡ v = cc f in let none : j + 0 ≡ j = omega arith in (0, rw none (sym q), omega arith)
    go false more f =
        let m = more f in
        let next : j + suc m.0 ≡ suc j + m.0 = omega arith in
        (suc m.0, rw next m.1, omega (arith, m.2))

choice_typed : (parts : Parts) (c : ℕ) (text : Text) (v : Value) → enumerator_of (slice_get parts.choices c) text ≡ Some v → HasType parts v (type.Choice c)
choice_typed parts c text v e = go (slice_get parts.choices c) refl e
  where
    go : (o : Option Choice) → slice_get parts.choices c ≡ o → enumerator_of o text ≡ Some v → HasType parts v (type.Choice c)
    go None h f = absurd (cc f)
    go (Some choice) h f =
        let p = place_of 0 choice.names text v f in
        let q : Enumerator (0 + p.0) ≡ v = sym p.1 in
        let z : 0 + p.0 ≡ p.0 = omega arith in
        subst (λ x. HasType parts x (type.Choice c)) q (choice, h, rw z p.2)

value_typed : (parts : Parts) (ty : Ty) (text : Text) (v : Value) → value_of parts ty text ≡ Some v → HasType parts v ty
value_typed parts type.Truth text v e = truth_typed parts (bytes_eq text (codes "0") || bytes_eq text (codes "false")) (bytes_eq text (codes "1") || bytes_eq text (codes "true")) v e
value_typed parts type.Word text v e = word_typed parts text v e
value_typed parts (type.Choice c) text v e = choice_typed parts c text v e

-- ---- the cells of a record are of their columns' types

abbrev pub AreOf : Parts → List Ty → List Value → Type 0
AreOf parts [] [] = Unit {0}
AreOf parts [] (v ∷ vs) = ⊥
AreOf parts (ty ∷ types) [] = ⊥
AreOf parts (ty ∷ types) (v ∷ vs) = HasType parts v ty × AreOf parts types vs

pub cells_typed : (parts : Parts) (before : List Value) (c : ℕ) (types : List Ty) (fields : List Text) (cells : List Value) → cells_from parts before c types fields ≡ Ok cells → (vs : List Value) × (cells ≡ before ++ vs) × AreOf parts types vs
cells_typed parts before c [] fields cells e = let q : before ≡ cells = cc e in ([], sym (append_none before ∙ q), tt)
cells_typed parts before c (ty ∷ types) [] cells e = absurd (cc e)
cells_typed parts before c (ty ∷ types) (field ∷ fields) cells e = go (value_of parts ty field) refl (λ v. cells_typed parts (before ++ v ∷ []) (suc c) types fields cells) e
  where
    go : (o : Option Value) → value_of parts ty field ≡ o → ((v : Value) → cells_from parts (before ++ v ∷ []) (suc c) types fields ≡ Ok cells → (vs : List Value) × (cells ≡ (before ++ v ∷ []) ++ vs) × AreOf parts types vs)
        → option_map_or (λ v. cells_from parts (before ++ v ∷ []) (suc c) types fields) o (Err c) ≡ Ok cells → (vs : List Value) × (cells ≡ before ++ vs) × AreOf parts (ty ∷ types) vs
    go None h more f = absurd (cc f)
    go (Some v) h more f = let m = more v f in (v ∷ m.0, m.1 ∙ append_assoc before (v ∷ []) m.0, (value_typed parts ty field v h, m.2))

pub cell_typed : (parts : Parts) (types : List Ty) (vs : List Value) (k : ℕ) (ty : Ty) → AreOf parts types vs → slice_get types k ≡ Some ty → HasType parts (get_or vs k (Truth false)) ty
cell_typed parts [] vs k ty h e = absurd (cc e)
cell_typed parts (t ∷ types) [] k ty h e = absurd h
cell_typed parts (t ∷ types) (v ∷ vs) zero ty h e = let q : t ≡ ty = cc e in subst (HasType parts v) q h.0
cell_typed parts (t ∷ types) (v ∷ vs) (suc k) ty h e = cell_typed parts types vs k ty h.1 e
