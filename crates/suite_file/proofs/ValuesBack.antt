-- A value's text is read as the value.
use Rattle.std.proofs.Common.{◌≡◌, ◌≢◌, ◌<◌, ◌≤◌, ◌+◌, ◌-◌, ◌^◌, ◌∙◌, ℕ, zero, suc, Bool, true, false, nat_le, List, [], ◌∷◌, length, Some, refl, sym, ap, subst, arith}
use Rattle.std.specs.Prelude.{decimal, pos}
use Rattle.std.specs.List.{list_all}
use Rattle.std.proofs.lemmas.Bool.{false≢true}
use Rattle.op_network.specs.declared.edge.Parts.{Parts}
use Rattle.suite_file.specs.Records.{Text}
use Rattle.suite_file.specs.Values.{is_numeral, is_digit, number, number_from}
use Rattle.std.specs.Prelude.{◌-ℤ◌}
use Rattle.std.specs.Int.{IsInRange}
use Rattle.std.proofs.lemmas.Bool.{ne_eqb}
use Rattle.std.proofs.lemmas.Fmt.{decimal_nonempty, digits_decimal, digits_value-decimal}
use Rattle.std.proofs.lemmas.Str.Parse.{IsDigitsTest, FoldsDigits, IsNumeralModel, numerals_by_fold}
use Rattle.std.proofs.Common.{slice_index_or, ℤ, negsuc, All, AllPairs}
use Rattle.std.specs.Prelude.{slice_get}
use Rattle.std.specs.Str.{bytes_eq}
use Rattle.std.proofs.lemmas.Int.{ints}
use Rattle.std.proofs.Math.Pow.{pow_mono}
use Rattle.std.proofs.lemmas.Slice.Eq.{bytes_eq-Decides}
use Rattle.std.proofs.lemmas.Option.{slice_get_within, get_or_from_slice_get, slice_get-get_or}
use Rattle.op_network.specs.Values.{IsWord}
use Rattle.op_network.specs.Valid.{HasType, IsEnumerator, IsChoice, IsValid}
use Rattle.op_network.specs.declared.value.Ty.{Ty}
use Rattle.op_network.specs.declared.value.Ty.TheVariants as type
use Rattle.op_network.specs.declared.value.Value.{Value}
use Rattle.op_network.specs.declared.value.Value.TheVariants.{Truth, Word, Choice as Enumerator}
use Rattle.suite_file.specs.Values.{word_below, enumerator_from, value_of}
use Rattle.suite_file.specs.Written.{value_text}
use Rattle.suite_file.proofs.Digits.{within, is_within}
use Rattle.suite_file.proofs.Solid.{both}

-- ---- values

digit_in : (b : ℕ) → 48 ≤ b → b ≤ 57 → is_digit b ≡ true
digit_in b l u = rw (within 48 b l, within b 57 u) refl

pub in_digit : (b : ℕ) → is_digit b ≡ true → IsInRange 48 57 b
in_digit b h = let s = both (nat_le 48 b) (nat_le b 57) h in (is_within 48 b s.0, is_within b 57 s.1)

tells : IsDigitsTest (λ ds. list_all is_digit ds ≡ true)
tells = record {
  empty = refl;
  parts = λ c cs h. let s = both (is_digit c) (list_all is_digit cs) h in (in_digit c s.0, s.1);
  more = λ c cs r h. rw (digit_in c r.0 r.1, h) refl;
}

folds : FoldsDigits number_from
folds = record { empty = λ n. refl; more = λ n c cs r. refl }

pub numerals : IsNumeralModel (λ ds. list_all is_digit ds ≡ true) (number_from 0)
numerals = numerals_by_fold (λ ds. list_all is_digit ds ≡ true) tells number_from folds

some_numeral : (ds : Text) → 0 < length ds → list_all is_digit ds ≡ true → is_numeral ds ≡ true
some_numeral [] l h = absurd (omega arith)
some_numeral (d ∷ ds) l h = h

decimal_back : (n : ℕ) → n < 2 ^ 64 → (is_numeral (decimal n) ≡ true) × (number (decimal n) ≡ n)
decimal_back n h = (some_numeral (decimal n) (decimal_nonempty n h) (digits_decimal numerals n h), digits_value-decimal numerals n h)

plain_word : (half n : ℕ) (digits : Text) → is_numeral digits ≡ true → number digits ≡ n → n < half → word_below half digits ≡ Some (Word (pos n))
plain_word half n [] h e l = absurd (false≢true h)
plain_word half n (d ∷ digits) h e l =
    let range = in_digit d (both (is_digit d) (list_all is_digit digits) h).0 in
    rw (ne_eqb d 45 (λ q. omega (arith, range.0, q)), h, e, within (suc n) half l) refl

minus_word : (half n : ℕ) (digits : Text) → is_numeral digits ≡ true → number digits ≡ n → n ≤ half → word_below half (45 ∷ digits) ≡ Some (Word (pos 0 -ℤ pos n))
minus_word half n digits h e l = rw (h, e, within n half l) refl

truth_back : (parts : Parts) (b : Bool) → value_of parts type.Truth (value_text parts type.Truth (Truth b)) ≡ Some (Truth b)
truth_back parts true = refl
truth_back parts false = refl

pub half_small : (width : ℕ) → 1 ≤ width → width ≤ 32 → 2 ^ (width - 1) ≤ 2 ^ 31
half_small width l u = pow_mono {i = width - 1} {j = 31} (omega arith)

below_zero : (n : ℕ) → pos 0 -ℤ pos (suc n) ≡ negsuc n
below_zero n = omega (arith, ints)

word_back : (parts : Parts) (w : ℤ) → 1 ≤ parts.width → parts.width ≤ 32 → IsWord parts.width w → value_of parts type.Word (value_text parts type.Word (Word w)) ≡ Some (Word w)
word_back parts (pos n) l u h =
    let small = half_small parts.width l u in
    let below : n < 2 ^ (parts.width - 1) = omega (arith, ints, h.1) in
    let d = decimal_back n (omega (arith, small, below)) in
    plain_word (2 ^ (parts.width - 1)) n (decimal n) d.0 d.1 below
word_back parts (negsuc n) l u h =
    let small = half_small parts.width l u in
    let below : suc n ≤ 2 ^ (parts.width - 1) = omega (arith, ints, h.0) in
    let d = decimal_back (suc n) (omega (arith, small, below)) in
    minus_word (2 ^ (parts.width - 1)) (suc n) (decimal (suc n)) d.0 d.1 below ∙ ap (λ z. Some (Word z)) (below_zero n)

apart_tail : (x : Text) (xs : List Text) → AllPairs (λ a b. a ≢ b) (x ∷ xs) → AllPairs (λ a b. a ≢ b) xs
apart_tail x xs h = λ i j d lt w. h (suc i) (suc j) d (omega arith) (omega arith)

pub same_text : (a b : Text) → a ≡ b → bytes_eq a b ≡ true
same_text a b e = (bytes_eq-Decides a b).1 e

pub other_text : (a b : Text) → a ≢ b → bytes_eq a b ≡ false
other_text a b n = not_from_Decides' (bytes_eq a b) refl
  where
    not_from_Decides' : (t : Bool) → bytes_eq a b ≡ t → t ≡ false
    not_from_Decides' true e = absurd (n ((bytes_eq-Decides a b).0 e))
    not_from_Decides' false e = refl

enumerator_back : (j k : ℕ) (names : List Text) (name : Text) → AllPairs (λ a b. a ≢ b) names → slice_get names k ≡ Some name → enumerator_from j names name ≡ Some (Enumerator (j + k))
enumerator_back j k [] name h e = absurd (cc e)
enumerator_back j zero (x ∷ xs) name h e =
    let q : x ≡ name = cc e in
    let none : j + 0 ≡ j = omega arith in
    rw (same_text name x (sym q), none) refl
enumerator_back j (suc k) (x ∷ xs) name h e =
    let there : k < length xs = slice_get_within xs k name e in
    let is : slice_index_or xs k name ≡ name = get_or_from_slice_get xs k name name e in
    let differ : x ≢ name = subst (λ t. x ≢ t) is (h 0 (suc k) name (omega arith) (omega (arith, there))) in
    let next : suc j + k ≡ j + suc k = omega arith in
    rw (other_text name x (λ q. differ (sym q)), ← next) (enumerator_back (suc j) k xs name (apart_tail x xs h) e)

zero_plus : (k : ℕ) → 0 + k ≡ k
zero_plus k = omega arith

choice_back : (parts : Parts) (c k : ℕ) → All IsChoice parts.choices → IsEnumerator parts.choices c k → value_of parts (type.Choice c) (value_text parts (type.Choice c) (Enumerator k)) ≡ Some (Enumerator k)
choice_back parts c k valid h =
    let choice = h.0 in
    let name = slice_index_or choice.names k [] in
    let is : slice_get choice.names k ≡ Some name = slice_get-get_or choice.names k [] h.2 in
    let good : IsChoice choice = subst IsChoice (get_or_from_slice_get parts.choices c choice choice h.1) (valid c choice (slice_get_within parts.choices c choice h.1)) in
    rw (h.1, is) (subst (λ t. enumerator_from 0 choice.names name ≡ Some (Enumerator t)) (zero_plus k) (enumerator_back 0 k choice.names name good.apart is))

pub value_back : (parts : Parts) (ty : Ty) (v : Value) → IsValid parts → HasType parts v ty → value_of parts ty (value_text parts ty v) ≡ Some v
value_back parts type.Truth (Truth b) valid h = truth_back parts b
value_back parts type.Truth (Word w) valid h = absurd h
value_back parts type.Truth (Enumerator k) valid h = absurd h
value_back parts type.Word (Truth b) valid h = absurd h
value_back parts type.Word (Word w) valid h = word_back parts w (omega (arith, valid.narrowest)) valid.widest h
value_back parts type.Word (Enumerator k) valid h = absurd h
value_back parts (type.Choice c) (Truth b) valid h = absurd h
value_back parts (type.Choice c) (Word w) valid h = absurd h
value_back parts (type.Choice c) (Enumerator k) valid h = choice_back parts c k valid.choices h
