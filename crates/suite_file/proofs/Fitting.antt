-- What is read fits the network.
use Rattle.std.proofs.Common.{◌≡◌, ◌≢◌, ◌≤◌, ◌+◌, ◌*◌, ◌∙◌, ℕ, zero, suc, Bool, true, false, not, ◌&&◌, cond, nat_le, List, [], ◌∷◌, ◌++◌, length, drop, take, Option, Some, None, Ok, refl, sym, ap, ap₂, subst, arith}
use Rattle.std.proofs.lemmas.Bool.{false≢true}
use Rattle.op_network.specs.declared.edge.Parts.{Parts}
use Rattle.op_network.specs.declared.test.Test.{Test}
use Rattle.suite_file.specs.Records.{Text, suite_records}
use Rattle.op_network.specs.declared.edge.EdgeId.{EdgeId}
use Rattle.op_network.specs.Valid.{type_of}
use Rattle.std.proofs.Common.{suc-mul}
use Rattle.std.proofs.lemmas.List.{length-drop}
use Rattle.suite_file.proofs.Ended.{ended_last}
use Rattle.op_network.specs.declared.edge.Edge.{Edge}
use Rattle.suite_file.specs.declared.header.Layout.{Layout}
use Rattle.std.proofs.Common.{nat_eq}
use Rattle.op_network.specs.Run.{rows}
use Rattle.suite_file.specs.Suites.{tests_of, is_name, has_ended, is_full, with_record, with_instant, so_far, arranged, tests_from, all_tests, longer, first_instant, layout_of, type_at, cells_from}
use Rattle.suite_file.proofs.Places.{length_last}
use Rattle.std.proofs.Common.{All}
use Rattle.std.specs.Prelude.{slice_get}
use Rattle.std.specs.Str.{bytes_eq}
use Rattle.op_network.specs.Valid.{HasType, IsValid, FitsRow, FitsTest}
use Rattle.op_network.specs.declared.value.Ty.{Ty}
use Rattle.op_network.specs.declared.value.Value.{Value}
use Rattle.suite_file.specs.Suites.{AreOfSuite}
use Rattle.suite_file.proofs.Writable.{Each, AreWritable, Readable, instants_in, of_suite}
use Rattle.std.specs.Prelude.{Result}
use Rattle.std.proofs.Common.{nat_lt, Err}
use Rattle.suite_file.specs.Suites.{suite_of}
use Rattle.suite_file.specs.declared.fault.SuiteFault.{SuiteFault}
use Rattle.suite_file.specs.declared.fault.SuiteFault.TheVariants as fault
use Rattle.suite_file.specs.declared.fault.SuiteKind.TheVariants as kind
use Rattle.suite_file.specs.Suites.{and_then, SoFar, name_in, cells_in, cells_or_fault, with_cells}
use Rattle.suite_file.proofs.Digits.{is_beyond}
use Rattle.std.proofs.lemmas.List.{length-append}
use Rattle.std.proofs.lemmas.List.Elements.{All-cons, All-push}
use Rattle.suite_file.proofs.Inputs.{AreTyped}
use Rattle.std.proofs.lemmas.Bool.{eqb-true}
use Rattle.suite_file.specs.Meaning.{IsInstant}
use Rattle.suite_file.proofs.LayoutMeans.{AreRead, IsLayoutOf, all_given, cells_read, layout_means, layout_size}
use Rattle.suite_file.proofs.LayoutFits.{AreLaid, arranged_typed, layout_laid}
use Rattle.suite_file.proofs.TestRows.{neither, typed_size}
use Rattle.suite_file.proofs.ValuesBack.{other_text, same_text}
use Rattle.suite_file.proofs.ValuesFit.{AreOf, cells_typed}

-- ---- a record that is taken

-- what a record adds
pub record Adds (parts : Parts) (names fields : List Text) (row : ℕ) (before : SoFar) (after : SoFar) : Type 0 where
  pub name : Text
  pub values : List Value
  pub typed : AreTyped parts parts.inputs values
  pub named : is_name name ≡ true
  pub fresh : has_ended before.ended name ≡ false
  pub room : is_full before.ended before.current name ≡ false
  pub few : row ≤ 7400000
  pub is : with_instant before.ended before.current name values ≡ after
  pub instant : IsInstant parts names (name, values) fields

-- what is known of a name that is taken
abbrev IsTaken : Layout → List Test → List Text → Text → Type 0
IsTaken taken ended fields name = (is_name name ≡ true) × (has_ended ended name ≡ false) × (length fields ≡ length taken.types + 1) × (slice_get fields 0 ≡ Some name)

name_taken : (taken : Layout) (row : ℕ) (ended : List Test) (fields : List Text) (name : Text) → name_in taken row ended fields ≡ Ok name → IsTaken taken ended fields name
name_taken taken row ended [] name e = absurd (cc e)
name_taken taken row ended (x ∷ fields) name e = go (nat_eq (length (x ∷ fields)) (length taken.types + 1)) (is_name x) (has_ended ended x) refl refl refl e
  where
    go : (a b c : Bool) → nat_eq (length (x ∷ fields)) (length taken.types + 1) ≡ a → is_name x ≡ b → has_ended ended x ≡ c
        → cond a (cond b (cond c (Err (fault.Bad row 0 kind.SplitTest)) (Ok x)) (Err (fault.Bad row 0 kind.BadName))) (Err (fault.Bad row 0 kind.Width)) ≡ Ok name
        → IsTaken taken ended (x ∷ fields) name
    go true true false w h k f =
        let q : x ≡ name = cc f in
        (subst (λ n. is_name n ≡ true) q h, subst (λ n. has_ended ended n ≡ false) q k, eqb-true (length (x ∷ fields)) (length taken.types + 1) w, ap (λ n. Some n) q)
    go true true true w h k f = absurd (cc f)
    go true false c w h k f = absurd (cc f)
    go false b c w h k f = absurd (cc f)

pub record_taken : (parts : Parts) (names : List Text) (taken : Layout) (row : ℕ) (before after : SoFar) (fields : List Text) → IsLayoutOf parts names taken → AreLaid parts taken.types parts.inputs taken.places
    → with_record parts taken row before fields ≡ Ok after → Adds parts names fields row before after
record_taken parts columns taken row before after fields layout l e = names (name_in taken row before.ended fields) refl e
  where
    limits : (name : Text) (values : List Value) → AreTyped parts parts.inputs values → IsTaken taken before.ended fields name → IsInstant parts columns (name, values) fields
        → (a b : Bool) → is_full before.ended before.current name ≡ a → nat_lt 7400000 row ≡ b
        → cond a (Err fault.Tests) (cond b (Err fault.Instants) (Ok (with_instant before.ended before.current name values))) ≡ Ok after → Adds parts columns fields row before after
    limits name values t n i false false x y f = record { name = name; values = values; typed = t; named = n.0; fresh = n.1; room = x; few = omega (arith, is_beyond (suc 7400000) row y); is = cc f; instant = i }
    limits name values t n i true b x y f = absurd (cc f)
    limits name values t n i false true x y f = absurd (cc f)

    cells : (name : Text) → IsTaken taken before.ended fields name → (r : Result (List Value) ℕ) → cells_from parts [] 1 taken.types (drop 1 fields) ≡ r
        → and_then (with_cells taken row before name) (cells_or_fault row r) ≡ Ok after → Adds parts columns fields row before after
    cells name n (Err c) q f = absurd (cc f)
    cells name n (Ok vs) q f =
        let c = cells_typed parts [] 1 taken.types (drop 1 fields) vs q in
        let t = arranged_typed parts taken.types vs parts.inputs taken.places (subst (AreOf parts taken.types) (sym c.1) c.2) l in
        let r = cells_read parts [] 1 taken.types (drop 1 fields) vs q in
        let given = all_given parts columns fields taken.types vs parts.inputs taken.places (subst (AreRead parts taken.types (drop 1 fields)) (sym r.1) r.2) l layout.numbers in
        let i : IsInstant parts columns (name, arranged taken.places vs) fields
        = record { width = n.2 ∙ ap (λ k. k + 1) (layout_size parts columns taken layout); name = n.3; values = given } in
        limits name (arranged taken.places vs) t n i (is_full before.ended before.current name) (nat_lt 7400000 row) refl refl f

    names : (r : Result Text SuiteFault) → name_in taken row before.ended fields ≡ r → and_then (λ name. and_then (with_cells taken row before name) (cells_in parts taken.types row fields)) r ≡ Ok after → Adds parts columns fields row before after
    names (Err x) q f = absurd (cc f)
    names (Ok name) q f = cells name (name_taken taken row before.ended fields name q) (cells_from parts [] 1 taken.types (drop 1 fields)) refl f

-- ---- tests that grow

fits_row : (parts : Parts) (row : List Value) → AreTyped parts parts.inputs row → FitsRow parts row
fits_row parts row t = ((typed_size parts parts.inputs row t).0, λ i e v a b ty k. rw (← known parts e ty k) (at parts parts.inputs row i e v t a b))
  where
    known : (parts : Parts) (e : EdgeId) (ty : Ty) → type_of parts.edges e ≡ Some ty → type_at parts.edges e.0 ≡ ty
    known parts e ty k = go (slice_get parts.edges e.0) refl
      where
        go : (o : Option Edge) → slice_get parts.edges e.0 ≡ o → type_at parts.edges e.0 ≡ ty
        go None q = let bad : None ≡ Some ty = rw q at k in absurd (cc bad)
        go (Some edge) q = let is : Some edge.ty ≡ Some ty = rw q at k in rw q (cc is)

    at : (parts : Parts) (inputs : List EdgeId) (row : List Value) (i : ℕ) (e : EdgeId) (v : Value) → AreTyped parts inputs row → slice_get inputs i ≡ Some e → slice_get row i ≡ Some v → HasType parts v (type_at parts.edges e.0)
    at parts [] row i e v t a b = absurd (cc a)
    at parts (d ∷ inputs) [] i e v t a b = absurd t
    at parts (d ∷ inputs) (w ∷ row) zero e v t a b = let p : d ≡ e = cc a in let q : w ≡ v = cc b in subst (λ (x : EdgeId). HasType parts v (type_at parts.edges x.0)) p (subst (λ x. HasType parts x (type_at parts.edges d.0)) q t.0)
    at parts (d ∷ inputs) (w ∷ row) (suc i) e v t a b = at parts inputs row i e v t.1 a b

pub rows_last : (w n : ℕ) (values row : List Value) → length values ≡ n * w → length row ≡ w → rows w (suc n) (values ++ row) ≡ rows w n values ++ row ∷ []
rows_last w zero values row h k = let none : values ≡ [] = is_nil values (omega (arith, h)) in rw none (ap (λ r. r ∷ []) (whole w row (omega (arith, k))))
  where
    is_nil : (xs : List Value) → length xs ≡ 0 → xs ≡ []
    is_nil [] h = refl
    is_nil (x ∷ xs) h = absurd (omega (arith, h))

    whole : (w : ℕ) (xs : List Value) → length xs ≤ w → take w xs ≡ xs
    whole zero [] h = refl
    whole zero (x ∷ xs) h = absurd (omega (arith, h))
    whole (suc w) [] h = refl
    whole (suc w) (x ∷ xs) h = ap (λ t. x ∷ t) (whole w xs (omega (arith, h)))
rows_last w (suc n) values row h k =
    let more : suc n * w ≡ n * w + w = simp suc-mul (omega arith) in
    let size : length (drop w values) ≡ n * w = omega (arith, h, more, length-drop w values) in
    ap₂ (λ (x : List Value) (y : List (List Value)). x ∷ y) (take_front w values row (omega (arith, h, more))) (ap (rows w (suc n)) (drop_front w values row (omega (arith, h, more))) ∙ rows_last w n (drop w values) row size k)
  where
    take_front : (w : ℕ) (xs ys : List Value) → w ≤ length xs → take w (xs ++ ys) ≡ take w xs
    take_front zero xs ys h = refl
    take_front (suc w) [] ys h = absurd (omega (arith, h))
    take_front (suc w) (x ∷ xs) ys h = ap (λ t. x ∷ t) (take_front w xs ys (omega (arith, h)))

    drop_front : (w : ℕ) (xs ys : List Value) → w ≤ length xs → drop w (xs ++ ys) ≡ drop w xs ++ ys
    drop_front zero xs ys h = refl
    drop_front (suc w) [] ys h = absurd (omega (arith, h))
    drop_front (suc w) (x ∷ xs) ys h = drop_front w xs ys (omega (arith, h))

-- ---- all tests so far

abbrev pub CurrentFits : Parts → List Test → Option Test → Type 0
CurrentFits parts ended None = Unit {0}
CurrentFits parts ended (Some test) = FitsTest parts test × (is_name test.name ≡ true) × (has_ended ended test.name ≡ false)

each_push : {A : Type 0} (P : A → Type 0) (xs : List A) (x : A) → Each P xs → P x → Each P (xs ++ x ∷ [])
each_push P [] x h p = (p, tt)
each_push P (y ∷ xs) x h p = (h.0, each_push P xs x h.1 p)

writable_last : (parts : Parts) (ended : List Test) (test : Test) → AreWritable parts ended → FitsTest parts test → is_name test.name ≡ true → has_ended ended test.name ≡ false → AreWritable parts (ended ++ test ∷ [])
writable_last parts [] test w f n h = (f, n, tt, tt)
writable_last parts (x ∷ ended) test w f n h =
    let o = neither (bytes_eq test.name x.name) (has_ended ended test.name) h in
    (w.0, w.1, each_push (λ (later : Test). later.name ≢ x.name) ended test w.2 (λ e. absurd (false≢true (sym o.0 ∙ same_text test.name x.name e))), writable_last parts ended test w.3 f n o.1)

pub all_writable : (parts : Parts) (ended : List Test) (current : Option Test) → AreWritable parts ended → CurrentFits parts ended current → AreWritable parts (all_tests ended current)
all_writable parts ended None w c = w
all_writable parts ended (Some test) w c = writable_last parts ended test w c.0 c.1 c.2

instants_last : (ended : List Test) (test : Test) → instants_in (ended ++ test ∷ []) ≡ instants_in ended + test.instants
instants_last [] test = omega arith
instants_last (x ∷ ended) test = omega (arith, instants_last ended test)

first_fits : (parts : Parts) (name : Text) (v : List Value) → AreTyped parts parts.inputs v → FitsTest parts (first_instant name v)
first_fits parts name v t =
    let size = (typed_size parts parts.inputs v t).0 in
    let one : 1 * length parts.inputs ≡ length parts.inputs = omega arith in
    record {
      some = omega arith;
      size = omega (arith, size, one);
      each = subst (All (FitsRow parts)) (sym (rows_last (length parts.inputs) 0 [] v (omega arith) size)) (All-cons (FitsRow parts) v [] (fits_row parts v t) (λ k d within. absurd (omega arith)));
    }

longer_fits : (parts : Parts) (test : Test) (v : List Value) → FitsTest parts test → AreTyped parts parts.inputs v → FitsTest parts (longer test v)
longer_fits parts test v f t =
    let size = (typed_size parts parts.inputs v t).0 in
    let w = length parts.inputs in
    let next : test.instants + 1 ≡ suc test.instants = omega arith in
    let more : suc test.instants * w ≡ test.instants * w + w = simp suc-mul (omega arith) in
    record {
      some = omega arith;
      size = rw next (omega (arith, length-append test.values v, f.size, size, more));
      each = rw next (subst (All (FitsRow parts)) (sym (rows_last w test.instants test.values v f.size size)) (All-push (FitsRow parts) (rows w test.instants test.values) v f.each (fits_row parts v t)));
    }

pub record Stands (parts : Parts) (before : ℕ) (ended : List Test) (current : Option Test) : Type 0 where
  pub writable : AreWritable parts ended
  pub now : CurrentFits parts ended current
  pub few : length (all_tests ended current) ≤ 210000
  pub count : instants_in (all_tests ended current) ≡ before

pub step : (parts : Parts) (names fields : List Text) (row before : ℕ) (ended : List Test) (current : Option Test) (after : SoFar) → Adds parts names fields row (so_far ended current) after → Stands parts before ended current → Stands parts (suc before) after.ended after.current
step parts names fields row before ended None after a s =
    let room = is_beyond 210000 (length ended) a.room in
    subst (λ (x : SoFar). Stands parts (suc before) x.ended x.current) a.is (record {
      writable = s.writable;
      now = (first_fits parts a.name a.values a.typed, a.named, a.fresh);
      few = omega (arith, room, length_last ended (first_instant a.name a.values));
      count = omega (arith, s.count, instants_last ended (first_instant a.name a.values));
    })
step parts names fields row before ended (Some test) after a s = subst (λ (x : SoFar). Stands parts (suc before) x.ended x.current) a.is (go (bytes_eq test.name a.name) refl a.room)
  where
    go : (t : Bool) → bytes_eq test.name a.name ≡ t → (not t && nat_le 210000 (length (ended ++ test ∷ []))) ≡ false
        → Stands parts (suc before) (cond t (so_far ended (Some (longer test a.values))) (so_far (ended ++ test ∷ []) (Some (first_instant a.name a.values)))).ended
        (cond t (so_far ended (Some (longer test a.values))) (so_far (ended ++ test ∷ []) (Some (first_instant a.name a.values)))).current
    go true q room = record {
      writable = s.writable;
      now = (longer_fits parts test a.values s.now.0 a.typed, s.now.1, s.now.2);
      few = omega (arith, s.few, length_last ended test, length_last ended (longer test a.values));
      count = omega (arith, s.count, instants_last ended test, instants_last ended (longer test a.values));
    }
    go false q room =
        let full = is_beyond 210000 (length (ended ++ test ∷ [])) room in
        let apart : bytes_eq a.name test.name ≡ false = other_text a.name test.name (λ e. absurd (false≢true (sym q ∙ same_text test.name a.name (sym e)))) in
        record {
          writable = writable_last parts ended test s.writable s.now.0 s.now.1 s.now.2;
          now = (first_fits parts a.name a.values a.typed, a.named, ended_last ended test a.name ∙ rw (a.fresh, apart) refl);
          few = omega (arith, full, length_last (ended ++ test ∷ []) (first_instant a.name a.values));
          count = omega (arith, s.count, instants_last (ended ++ test ∷ []) (first_instant a.name a.values));
        }

fits_from : (parts : Parts) (names : List Text) (taken : Layout) (row : ℕ) (ended : List Test) (current : Option Test) (records : List (List Text)) (tests : List Test) → IsLayoutOf parts names taken → AreLaid parts taken.types parts.inputs taken.places
    → Stands parts row ended current → row ≤ 7400000 → tests_from parts taken (suc row) (so_far ended current) records ≡ Ok tests → Readable parts tests
fits_from parts names taken row ended current [] tests y l s few e = let q : all_tests ended current ≡ tests = cc e in subst (Readable parts) q (all_writable parts ended current s.writable s.now, s.few, omega (arith, s.count, few))
fits_from parts names taken row ended current (fields ∷ records) tests y l s few e = go (with_record parts taken (suc row) (so_far ended current) fields) refl
    (λ after t u. fits_from parts names taken (suc row) after.ended after.current records tests y l t u) e
  where
    go : (r : Result SoFar SuiteFault) → with_record parts taken (suc row) (so_far ended current) fields ≡ r
        → ((after : SoFar) → Stands parts (suc row) after.ended after.current → suc row ≤ 7400000 → tests_from parts taken (suc (suc row)) after records ≡ Ok tests → Readable parts tests)
        → and_then (λ after. tests_from parts taken (suc (suc row)) after records) r ≡ Ok tests → Readable parts tests
    go (Err x) q more f = absurd (cc f)
    go (Ok after) q more f = let a = record_taken parts names taken (suc row) (so_far ended current) after fields y l q in more after (step parts names fields (suc row) row ended current after a s) a.few f

pub suite_fits : (parts : Parts) (bytes : Text) (tests : List Test) → IsValid parts → suite_of parts bytes ≡ Ok tests → AreOfSuite parts tests
suite_fits parts bytes tests valid e = of_suite parts tests (go (suite_records bytes) e)
  where
    under : (records : List (List Text)) (r : Result Layout SuiteFault) → (header : List Text) → layout_of parts header ≡ r → and_then (λ layout. tests_from parts layout 1 (so_far [] None) records) r ≡ Ok tests → Readable parts tests
    under records (Err x) header q f = absurd (cc f)
    under records (Ok taken) header q f = let m = layout_means parts header taken q in fits_from parts m.0 taken 0 [] None records tests m.2 (layout_laid parts header taken valid q) (record { writable = tt; now = tt; few = omega arith; count = refl }) (omega arith) f

    go : (rs : List (List Text)) → tests_of parts rs ≡ Ok tests → Readable parts tests
    go [] f = absurd (cc f)
    go (header ∷ records) f = under records (layout_of parts header) header refl f
