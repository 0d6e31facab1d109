-- A test is its rows.
use Rattle.std.proofs.Common.{◌≡◌, ◌<◌, ◌+◌, ◌*◌, ◌∙◌, ℕ, zero, suc, Bool, true, false, not, ◌&&◌, List, [], ◌∷◌, ◌++◌, length, map, drop, take, Option, Some, None, refl, sym, ap, ap₂, arith}
use Rattle.std.proofs.lemmas.Bool.{false≢true}
use Rattle.op_network.specs.declared.edge.Parts.{Parts}
use Rattle.op_network.specs.declared.test.Test.{Test}
use Rattle.suite_file.specs.Records.{Text}
use Rattle.op_network.specs.declared.edge.EdgeId.{EdgeId}
use Rattle.std.proofs.lemmas.List.Elements.{All-head, All-tail}
use Rattle.std.proofs.Common.{suc-mul}
use Rattle.std.proofs.lemmas.List.{length-drop}
use Rattle.suite_file.proofs.Ended.{ended_last}
use Rattle.std.proofs.Common.{◌||◌}
use Rattle.op_network.specs.Run.{rows}
use Rattle.suite_file.specs.Suites.{has_ended, is_full, with_instant, so_far, all_tests, is_current, longer, first_instant}
use Rattle.std.proofs.Common.{All}
use Rattle.std.specs.Str.{bytes_eq}
use Rattle.op_network.specs.Valid.{IsValid, FitsRow}
use Rattle.op_network.specs.declared.value.Value.{Value}
use Rattle.suite_file.specs.Written.{instant_record, texts_of}
use Rattle.suite_file.proofs.Writable.{Each}
use Rattle.suite_file.proofs.Digits.{beyond}
use Rattle.suite_file.proofs.Inputs.{AreTyped, append_assoc, append_none, inputs_are, typed_from}
use Rattle.suite_file.proofs.ValuesBack.{other_text, same_text}

-- ---- records behind a header, one by one

pub typed_size : (parts : Parts) (inputs : List EdgeId) (row : List Value) → AreTyped parts inputs row → (length row ≡ length inputs) × (length (texts_of parts inputs row) ≡ length inputs)
typed_size parts [] [] h = (refl, refl)
typed_size parts [] (v ∷ row) h = absurd h
typed_size parts (e ∷ inputs) [] h = absurd h
typed_size parts (e ∷ inputs) (v ∷ row) h = let s = typed_size parts inputs row h.1 in (omega (arith, s.0), omega (arith, s.1))

pub size_map : {A B : Type 0} (f : A → B) (xs : List A) → length (map f xs) ≡ length xs
size_map f [] = refl
size_map f (x ∷ xs) = omega (arith, size_map f xs)

-- the records of one test, as records with these rows
abbrev pub lines : Parts → Text → List (List Value) → List (List Text)
lines parts name vs = map (instant_record parts name) vs

abbrev pub with_rows : Test → List (List Value) → Test
with_rows test [] = test
with_rows test (v ∷ vs) = with_rows (longer test v) vs

pub neither : (a b : Bool) → (a || b) ≡ false → (a ≡ false) × (b ≡ false)
neither true b h = absurd (false≢true (sym h))
neither false b h = (refl, h)

-- a new name: the test at hand ends
pub begins : (ended : List Test) (current : Option Test) (name : Text) (v : List Value) → has_ended (all_tests ended current) name ≡ false
    → (with_instant ended current name v ≡ so_far (all_tests ended current) (Some (first_instant name v))) × (has_ended ended name ≡ false)
begins ended None name v h = (refl, h)
begins ended (Some test) name v h =
    let s = split_any ended test name h in
    (rw s.1 refl, s.0)
  where
    split_any : (ended : List Test) (test : Test) (name : Text) → has_ended (ended ++ test ∷ []) name ≡ false → (has_ended ended name ≡ false) × (bytes_eq test.name name ≡ false)
    split_any ended test name h =
        let o = neither (has_ended ended name) (bytes_eq name test.name) (sym (ended_last ended test name) ∙ h) in
        (o.0, other_text test.name name (λ e. absurd (false≢true (sym o.1 ∙ same_text name test.name (sym e)))))

pub fits_below : (ended : List Test) (current : Option Test) (name : Text) → length (all_tests ended current) < 210000 → is_full ended current name ≡ false
fits_below ended current name h = rw (beyond 210000 (length (all_tests ended current)) h) (and_false (not (is_current current name)))
  where
    and_false : (b : Bool) → (b && false) ≡ false
    and_false true = refl
    and_false false = refl

-- a test is its first row with the others
abbrev pub joined : List (List Value) → List Value
joined [] = []
joined (v ∷ vs) = v ++ joined vs

pub rows_joined : (w n : ℕ) (values : List Value) → length values ≡ n * w → joined (rows w n values) ≡ values
rows_joined w zero values h = sym (is_nil values (omega (arith, h)))
  where
    is_nil : (xs : List Value) → length xs ≡ 0 → xs ≡ []
    is_nil [] h = refl
    is_nil (x ∷ xs) h = absurd (omega (arith, h))
rows_joined w (suc n) values h =
    let more : suc n * w ≡ n * w + w = simp suc-mul (omega arith) in
    let size : length (drop w values) ≡ n * w = omega (arith, h, more, length-drop w values) in
    ap (λ t. take w values ++ t) (rows_joined w n (drop w values) size) ∙ whole w values
  where
    whole : (w : ℕ) (xs : List Value) → take w xs ++ drop w xs ≡ xs
    whole zero xs = refl
    whole (suc w) [] = refl
    whole (suc w) (x ∷ xs) = ap (λ t. x ∷ t) (whole w xs)

pub with_rows_is : (test : Test) (vs : List (List Value)) → with_rows test vs ≡ record test { instants = test.instants + length vs; values = test.values ++ joined vs }
with_rows_is test [] =
    let same : test.instants ≡ test.instants + 0 = omega arith in
    ap₂ (λ (i : ℕ) (x : List Value). record test { instants = i; values = x }) same (sym (append_none test.values))
with_rows_is test (v ∷ vs) =
    let more : test.instants + 1 + length vs ≡ test.instants + suc (length vs) = omega arith in
    with_rows_is (longer test v) vs ∙ ap₂ (λ (i : ℕ) (x : List Value). record test { instants = i; values = x }) more (append_assoc test.values v (joined vs))

pub rows_size : (w n : ℕ) (values : List Value) → length (rows w n values) ≡ n
rows_size w zero values = refl
rows_size w (suc n) values = omega (arith, rows_size w n (drop w values))

pub rows_typed : (parts : Parts) (rs : List (List Value)) → IsValid parts → All (FitsRow parts) rs → Each (AreTyped parts parts.inputs) rs
rows_typed parts [] valid h = tt
rows_typed parts (r ∷ rs) valid h =
    let fits = All-head (FitsRow parts) r rs h in
    (typed_from parts parts.inputs r (inputs_are parts valid) fits.0 fits.1, rows_typed parts rs valid (All-tail (FitsRow parts) r rs h))
