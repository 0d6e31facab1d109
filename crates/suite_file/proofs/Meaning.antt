-- The tests that are read mean what the records hold.
use Rattle.std.proofs.Common.{◌≡◌, ◌+◌, ◌∙◌, ℕ, suc, Bool, true, false, cond, List, [], ◌∷◌, ◌++◌, length, map, Option, Some, None, Ok, Err, refl, sym, ap, subst, arith}
use Rattle.std.specs.Prelude.{Result}
use Rattle.std.specs.List.{AllZip}
use Rattle.std.specs.Str.{bytes_eq}
use Rattle.std.proofs.lemmas.Slice.Eq.{bytes_eq-Decides}
use Rattle.op_network.specs.Run.{rows}
use Rattle.op_network.specs.Valid.{IsValid, FitsTest}
use Rattle.op_network.specs.declared.edge.Parts.{Parts}
use Rattle.op_network.specs.declared.test.Test.{Test}
use Rattle.op_network.specs.declared.value.Value.{Value}
use Rattle.suite_file.specs.declared.fault.SuiteFault.{SuiteFault}
use Rattle.suite_file.specs.declared.header.Layout.{Layout}
use Rattle.suite_file.specs.Meaning.{AreRecordsOf, IsInstant, all_instants, instants}
use Rattle.suite_file.specs.Records.{Text, suite_records}
use Rattle.suite_file.specs.Suites.{SoFar, all_tests, and_then, first_instant, layout_of, longer, so_far, suite_of, tests_from, tests_in, tests_of, with_instant, with_record}
use Rattle.suite_file.proofs.Inputs.{append_assoc, append_none}
use Rattle.suite_file.proofs.TestRows.{typed_size}
use Rattle.suite_file.proofs.LayoutMeans.{IsLayoutOf, layout_means}
use Rattle.suite_file.proofs.LayoutFits.{AreLaid, layout_laid}
use Rattle.suite_file.proofs.Fitting.{CurrentFits, Stands, record_taken, rows_last, step}

map_last : {A B : Type 0} (f : A → B) (xs : List A) (x : A) → map f (xs ++ x ∷ []) ≡ map f xs ++ f x ∷ []
map_last f [] x = refl
map_last f (y ∷ xs) x = ap (λ t. f y ∷ t) (map_last f xs x)

pub zip_last : {A B : Type 0} (R : A → B → Type 0) (xs : List A) (ys : List B) (x : A) (y : B) → AllZip R xs ys → R x y → AllZip R (xs ++ x ∷ []) (ys ++ y ∷ [])
zip_last R [] [] x y h r = (r, tt)
zip_last R [] (b ∷ ys) x y h r = absurd h
zip_last R (a ∷ xs) [] x y h r = absurd h
zip_last R (a ∷ xs) (b ∷ ys) x y h r = (h.0, zip_last R xs ys x y h.1 r)

-- ---- instants of tests that grow

all_last : (parts : Parts) (ended : List Test) (test : Test) → all_instants parts (ended ++ test ∷ []) ≡ all_instants parts ended ++ instants parts test
all_last parts [] test = append_none (instants parts test)
all_last parts (x ∷ ended) test = ap (λ t. instants parts x ++ t) (all_last parts ended test) ∙ sym (append_assoc (instants parts x) (all_instants parts ended) (instants parts test))

first_one : (parts : Parts) (name : Text) (v : List Value) → length v ≡ length parts.inputs → instants parts (first_instant name v) ≡ (name, v) ∷ []
first_one parts name v size = ap (λ (r : List (List Value)). map (λ values. (name, values)) r) (rows_last (length parts.inputs) 0 [] v (omega arith) size)

one_more : (parts : Parts) (test : Test) (v : List Value) → FitsTest parts test → length v ≡ length parts.inputs → instants parts (longer test v) ≡ instants parts test ++ (test.name, v) ∷ []
one_more parts test v fits size =
    let next : test.instants + 1 ≡ suc test.instants = omega arith in
    rw next (ap (λ (r : List (List Value)). map (λ values. (test.name, values)) r) (rows_last (length parts.inputs) test.instants test.values v fits.size size)
    ∙ map_last (λ (values : List Value). (test.name, values)) (rows (length parts.inputs) test.instants test.values) v)

abbrev pub so_far_instants : Parts → SoFar → List (Text × List Value)
so_far_instants parts s = all_instants parts (all_tests s.ended s.current)

pub after_one : (parts : Parts) (ended : List Test) (current : Option Test) (name : Text) (v : List Value) → CurrentFits parts ended current → length v ≡ length parts.inputs
    → so_far_instants parts (with_instant ended current name v) ≡ all_instants parts (all_tests ended current) ++ (name, v) ∷ []
after_one parts ended None name v fits size = all_last parts ended (first_instant name v) ∙ ap (λ t. all_instants parts ended ++ t) (first_one parts name v size)
after_one parts ended (Some test) name v fits size = go (bytes_eq test.name name) refl
  where
    go : (b : Bool) → bytes_eq test.name name ≡ b
        → so_far_instants parts (cond b (so_far ended (Some (longer test v))) (so_far (ended ++ test ∷ []) (Some (first_instant name v)))) ≡ all_instants parts (ended ++ test ∷ []) ++ (name, v) ∷ []
    go true q =
        let same : test.name ≡ name = (bytes_eq-Decides test.name name).0 q in
        all_last parts ended (longer test v) ∙ ap (λ t. all_instants parts ended ++ t) (one_more parts test v fits.0 size)
        ∙ sym (append_assoc (all_instants parts ended) (instants parts test) ((test.name, v) ∷ []))
        ∙ ap (λ t. t ++ (test.name, v) ∷ []) (sym (all_last parts ended test))
        ∙ ap (λ n. all_instants parts (ended ++ test ∷ []) ++ (n, v) ∷ []) same
    go false q = all_last parts (ended ++ test ∷ []) (first_instant name v) ∙ ap (λ t. all_instants parts (ended ++ test ∷ []) ++ t) (first_one parts name v size)

-- ---- records that are taken, one by one

means_from : (parts : Parts) (names : List Text) (taken : Layout) (row : ℕ) (ended : List Test) (current : Option Test) (before records : List (List Text)) (tests : List Test) → IsLayoutOf parts names taken
    → AreLaid parts taken.types parts.inputs taken.places → Stands parts row ended current → AllZip (IsInstant parts names) (all_instants parts (all_tests ended current)) before
    → tests_from parts taken (suc row) (so_far ended current) records ≡ Ok tests → AllZip (IsInstant parts names) (all_instants parts tests) (before ++ records)
means_from parts names taken row ended current before [] tests y l s z e =
    let q : all_tests ended current ≡ tests = cc e in
    subst (λ (t : List Test). AllZip (IsInstant parts names) (all_instants parts t) (before ++ [])) q (subst (AllZip (IsInstant parts names) (all_instants parts (all_tests ended current))) (sym (append_none before)) z)
means_from parts names taken row ended current before (fields ∷ records) tests y l s z e = go (with_record parts taken (suc row) (so_far ended current) fields) refl
    (λ after t u. means_from parts names taken (suc row) after.ended after.current (before ++ fields ∷ []) records tests y l t u) e
  where
    go : (r : Result SoFar SuiteFault) → with_record parts taken (suc row) (so_far ended current) fields ≡ r
        → ((after : SoFar) → Stands parts (suc row) after.ended after.current → AllZip (IsInstant parts names) (so_far_instants parts after) (before ++ fields ∷ [])
        → tests_from parts taken (suc (suc row)) after records ≡ Ok tests → AllZip (IsInstant parts names) (all_instants parts tests) ((before ++ fields ∷ []) ++ records))
        → and_then (λ after. tests_from parts taken (suc (suc row)) after records) r ≡ Ok tests → AllZip (IsInstant parts names) (all_instants parts tests) (before ++ fields ∷ records)
    go (Err x) q more f = absurd (cc f)
    go (Ok after) q more f =
        let a = record_taken parts names taken (suc row) (so_far ended current) after fields y l q in
        let size = (typed_size parts parts.inputs a.values a.typed).0 in
        let grown : so_far_instants parts after ≡ all_instants parts (all_tests ended current) ++ (a.name, a.values) ∷ []
        = ap (so_far_instants parts) (sym a.is) ∙ after_one parts ended current a.name a.values s.now size in
        let all = subst (λ t. AllZip (IsInstant parts names) t (before ++ fields ∷ [])) (sym grown) (zip_last (IsInstant parts names) (all_instants parts (all_tests ended current)) before (a.name, a.values) fields z a.instant) in
        subst (AllZip (IsInstant parts names) (all_instants parts tests)) (append_assoc before (fields ∷ []) records) (more after (step parts names fields (suc row) row ended current after a s) all f)

pub suite_means : (parts : Parts) (bytes : Text) (tests : List Test) → IsValid parts → suite_of parts bytes ≡ Ok tests → AreRecordsOf parts (suite_records bytes) tests
suite_means parts bytes tests valid e = go (suite_records bytes) e
  where
    under : (header : List Text) (records : List (List Text)) (r : Result Layout SuiteFault) → layout_of parts header ≡ r → and_then (λ layout. tests_in parts layout records) r ≡ Ok tests → AreRecordsOf parts (header ∷ records) tests
    under header records (Err x) q f = absurd (cc f)
    under header records (Ok taken) q f =
        let m = layout_means parts header taken q in
        record {
          columns = m.0;
          body = records;
          header = ap (λ t. t ∷ records) m.1;
          inputs = m.2.columns;
          each = means_from parts m.0 taken 0 [] None [] records tests m.2 (layout_laid parts header taken valid q) (record { writable = tt; now = tt; few = omega arith; count = refl }) tt f;
        }

    go : (rs : List (List Text)) → tests_of parts rs ≡ Ok tests → AreRecordsOf parts rs tests
    go [] f = absurd (cc f)
    go (header ∷ records) f = under header records (layout_of parts header) refl f
