-- What is refused has a first fault.
use Rattle.std.proofs.Common.{◌≡◌, ◌<◌, ◌≤◌, ◌+◌, ◌∙◌, ℕ, suc, Bool, true, false, cond, nat_eq, nat_lt, List, [], ◌∷◌, ◌++◌, length, Option, Some, None, Ok, Err, refl, sym, ap, subst, inl, inr, arith, codes}
use Rattle.std.specs.Prelude.{Result}
use Rattle.std.specs.List.{AllZip}
use Rattle.std.proofs.lemmas.Bool.{eqb-true, eqb-false}
use Rattle.op_network.specs.Valid.{IsValid}
use Rattle.op_network.specs.declared.edge.Parts.{Parts}
use Rattle.op_network.specs.declared.test.Test.{Test}
use Rattle.op_network.specs.declared.value.Value.{Value}
use Rattle.suite_file.specs.declared.fault.SuiteFault.{SuiteFault}
use Rattle.suite_file.specs.declared.fault.SuiteFault.TheVariants as fault
use Rattle.suite_file.specs.declared.fault.SuiteKind.{SuiteKind}
use Rattle.suite_file.specs.declared.fault.SuiteKind.TheVariants as kind
use Rattle.suite_file.specs.declared.header.Layout.{Layout}
use Rattle.suite_file.specs.Meaning.{AreColumns, IsInstant, all_instants}
use Rattle.suite_file.specs.Records.{Text, suite_records}
use Rattle.suite_file.specs.Refusals.{IsNamed, IsRefusal, MayRefuse, IsSound, IsTestTooMany, IsWide, RecordFault, StandsAt, wrong_width, bad_name, split_test, bad_value, no_header, bad_header, bad_record, too_many_tests, too_many_instants}
use Rattle.suite_file.specs.Suites.{AreOfSuite, IsFaultOf, SoFar, all_tests, and_then, arranged, cells_from, cells_in, cells_or_fault, has_ended, is_full, is_name, layout_of, so_far, suite_of, tests_from, tests_in, tests_of, with_cells, with_instant, with_record}
use Rattle.suite_file.proofs.CellFaults.{CellsTo, all_cells, reads_cell, stops}
use Rattle.suite_file.proofs.Digits.{is_within}
use Rattle.suite_file.proofs.Fitting.{Stands, all_writable, record_taken, step}
use Rattle.suite_file.proofs.HeaderFaults.{header_at_fault}
use Rattle.suite_file.proofs.Inputs.{append_assoc}
use Rattle.suite_file.proofs.Lasts.{Begun, begun_after, ended_is, full_is, not_ended, not_too_many}
use Rattle.suite_file.proofs.LayoutFits.{AreLaid, layout_laid}
use Rattle.suite_file.proofs.LayoutMeans.{IsLayoutOf, cells_read, layout_means, layout_size}
use Rattle.suite_file.proofs.Meaning.{after_one, so_far_instants, zip_last}
use Rattle.suite_file.proofs.Places.{length_last}
use Rattle.suite_file.proofs.TestRows.{typed_size}
use Rattle.suite_file.proofs.Writable.{of_suite}

-- ---- a record that is refused

-- why a record is refused, behind those of these tests
pub data Why (parts : Parts) (names : List Text) (row : ℕ) (tests : List Test) (fields : List Text) : SuiteFault → Type 0 where
  has_fault : (c : ℕ) (k : SuiteKind) → RecordFault parts names tests fields c k → Why parts names row tests fields (fault.Bad row c k)
  has_tests : (name : Text) → IsSound parts names tests fields name → IsTestTooMany tests name → Why parts names row tests fields fault.Tests
  has_instants : (name : Text) → IsSound parts names tests fields name → (IsTestTooMany tests name → ⊥) → 7400000 < row → Why parts names row tests fields fault.Instants

record_why : (parts : Parts) (names : List Text) (taken : Layout) (row : ℕ) (ended : List Test) (current : Option Test) (fields : List Text) (e : SuiteFault) → IsLayoutOf parts names taken
    → Begun ended current → length (all_tests ended current) ≤ 210000 → with_record parts taken row (so_far ended current) fields ≡ Err e → Why parts names row (all_tests ended current) fields e
record_why parts names taken row ended current [] e l b few f =
    let size = layout_size parts names taken l in
    let is : fault.Bad row 0 kind.Width ≡ e = cc f in
    subst (Why parts names row (all_tests ended current) []) is (has_fault 0 kind.Width (wrong_width (λ w. absurd (omega (arith, w)))))
record_why parts names taken row ended current (name ∷ fields) e l b few f =
    width (nat_eq (length (name ∷ fields)) (length taken.types + 1)) (is_name name) (has_ended ended name) refl refl refl f
  where
    tests : List Test
    tests = all_tests ended current

    limits : (vs : List Value) → IsSound parts names tests (name ∷ fields) name → has_ended ended name ≡ false → (x y : Bool) → is_full ended current name ≡ x → nat_lt 7400000 row ≡ y
        → cond x (Err fault.Tests) (cond y (Err fault.Instants) (Ok (with_instant ended current name (arranged taken.places vs)))) ≡ Err e → Why parts names row tests (name ∷ fields) e
    limits vs s h true y p q f =
        let is : fault.Tests ≡ e = cc f in
        subst (Why parts names row tests (name ∷ fields)) is (has_tests name s (full_is ended current name h few p))
    limits vs s h false true p q f =
        let is : fault.Instants ≡ e = cc f in
        subst (Why parts names row tests (name ∷ fields)) is (has_instants name s (not_too_many ended current name p) (omega (arith, is_within 7400001 row q)))
    limits vs s h false false p q f = absurd (cc f)

    cells : length fields ≡ length taken.types → IsNamed names tests (name ∷ fields) name → has_ended ended name ≡ false → (r : Result (List Value) ℕ) → cells_from parts [] 1 taken.types fields ≡ r
        → and_then (with_cells taken row (so_far ended current) name) (cells_or_fault row r) ≡ Err e → Why parts names row tests (name ∷ fields) e
    cells size n h (Err c) q f =
        let at = stops parts [] 1 taken.types fields c size q in
        let place : suc at.k ≡ c = omega (arith, at.place) in
        let is : fault.Bad row (suc at.k) kind.BadValue ≡ e = ap (λ (d : ℕ). fault.Bad row d kind.BadValue) place ∙ cc f in
        subst (Why parts names row tests (name ∷ fields)) is (has_fault (suc at.k) kind.BadValue
        (bad_value name at.k n (λ k w. let m = at.values k w in (m.0, reads_cell parts names taken (name ∷ fields) k (Some m.0) l m.1)) (reads_cell parts names taken (name ∷ fields) at.k None l at.none)))
    cells size n h (Ok vs) q f =
        let r = cells_read parts [] 1 taken.types fields vs q in
        let all : CellsTo parts taken.types fields (length taken.types) = all_cells parts taken.types fields r.0 r.2 in
        let width = layout_size parts names taken l in
        let s : IsSound parts names tests (name ∷ fields) name
        = record { named = n; values = λ k w. let m = all k (omega (arith, width, w)) in (m.0, reads_cell parts names taken (name ∷ fields) k (Some m.0) l m.1) } in
        limits vs s h (is_full ended current name) (nat_lt 7400000 row) refl refl f

    width : (a c d : Bool) → nat_eq (length (name ∷ fields)) (length taken.types + 1) ≡ a → is_name name ≡ c → has_ended ended name ≡ d
        → and_then (λ n. and_then (with_cells taken row (so_far ended current) n) (cells_in parts taken.types row (name ∷ fields)))
        (cond a (cond c (cond d (Err (fault.Bad row 0 kind.SplitTest)) (Ok name)) (Err (fault.Bad row 0 kind.BadName))) (Err (fault.Bad row 0 kind.Width))) ≡ Err e
        → Why parts names row tests (name ∷ fields) e
    width false c d p q r f =
        let is : fault.Bad row 0 kind.Width ≡ e = cc f in
        let size = layout_size parts names taken l in
        subst (Why parts names row tests (name ∷ fields)) is (has_fault 0 kind.Width
        (wrong_width (λ w. eqb-false (length (name ∷ fields)) (length taken.types + 1) p (omega (arith, w, size)))))
    width true c d p q r f = named c d q r f
      where
        wide : IsWide names (name ∷ fields) name
        wide = record { width = eqb-true (length (name ∷ fields)) (length taken.types + 1) p ∙ ap (λ n. n + 1) (layout_size parts names taken l); first = refl }

        size : length fields ≡ length taken.types
        size = let w = eqb-true (length (name ∷ fields)) (length taken.types + 1) p in omega (arith, w)

        named : (c d : Bool) → is_name name ≡ c → has_ended ended name ≡ d
            → and_then (λ n. and_then (with_cells taken row (so_far ended current) n) (cells_in parts taken.types row (name ∷ fields)))
            (cond c (cond d (Err (fault.Bad row 0 kind.SplitTest)) (Ok name)) (Err (fault.Bad row 0 kind.BadName))) ≡ Err e
            → Why parts names row tests (name ∷ fields) e
        named false d q r f =
            let is : fault.Bad row 0 kind.BadName ≡ e = cc f in
            subst (Why parts names row tests (name ∷ fields)) is (has_fault 0 kind.BadName (bad_name name wide q))
        named true true q r f =
            let is : fault.Bad row 0 kind.SplitTest ≡ e = cc f in
            subst (Why parts names row tests (name ∷ fields)) is (has_fault 0 kind.SplitTest (split_test name wide q (ended_is ended current name b r)))
        named true false q r f =
            cells size (record { wide = wide; is = q; not_ended = not_ended ended current name b r }) r (cells_from parts [] 1 taken.types fields) refl f

-- ---- records, one by one

stands_at : (parts : Parts) (names : List Text) (row : ℕ) (tests : List Test) (before : List (List Text)) (fields : List Text) (records : List (List Text)) → AreColumns parts names → AreOfSuite parts tests
    → AllZip (IsInstant parts names) (all_instants parts tests) before → row ≡ suc (length before) → StandsAt parts ((codes "test" ∷ names) ∷ (before ++ fields ∷ records)) row names tests fields
stands_at parts names row tests before fields records columns suite z size = record { before = before; later = records; all = refl; number = size; inputs = columns; suite = suite; each = z }

-- a text is refused for the record that is
refusal : (parts : Parts) (names : List Text) (row : ℕ) (tests : List Test) (before : List (List Text)) (fields : List Text) (records : List (List Text)) (e : SuiteFault) → AreColumns parts names → AreOfSuite parts tests
    → row ≤ 7400000 → length before ≡ row → AllZip (IsInstant parts names) (all_instants parts tests) before → Why parts names (suc row) tests fields e → IsRefusal parts ((codes "test" ∷ names) ∷ (before ++ fields ∷ records)) e
refusal parts names row tests before fields records _ columns suite few size z (has_fault c k h) = bad_record (suc row) names tests fields c k (stands_at parts names (suc row) tests before fields records columns suite z (omega (arith, size))) h
refusal parts names row tests before fields records _ columns suite few size z (has_tests name s m) = too_many_tests (suc row) names tests fields name (stands_at parts names (suc row) tests before fields records columns suite z (omega (arith, size))) s m
refusal parts names row tests before fields records _ columns suite few size z (has_instants name s n w) = too_many_instants names tests fields name (stands_at parts names (suc 7400000) tests before fields records columns suite z (omega (arith, size, few, w))) s n

refuses_from : (parts : Parts) (names : List Text) (taken : Layout) (row : ℕ) (ended : List Test) (current : Option Test) (before records : List (List Text)) (e : SuiteFault) → IsLayoutOf parts names taken → AreLaid parts taken.types parts.inputs taken.places
    → Stands parts row ended current → Begun ended current → row ≤ 7400000 → length before ≡ row → AllZip (IsInstant parts names) (all_instants parts (all_tests ended current)) before
    → tests_from parts taken (suc row) (so_far ended current) records ≡ Err e → IsRefusal parts ((codes "test" ∷ names) ∷ (before ++ records)) e
refuses_from parts names taken row ended current before [] e y l s b few size z f = absurd (cc f)
refuses_from parts names taken row ended current before (fields ∷ records) e y l s b few size z f = go (with_record parts taken (suc row) (so_far ended current) fields) refl
    (λ after t u v w x. refuses_from parts names taken (suc row) after.ended after.current (before ++ fields ∷ []) records e y l t u v w x) f
  where
    go : (r : Result SoFar SuiteFault) → with_record parts taken (suc row) (so_far ended current) fields ≡ r
        → ((after : SoFar) → Stands parts (suc row) after.ended after.current → Begun after.ended after.current → suc row ≤ 7400000 → length (before ++ fields ∷ []) ≡ suc row
        → AllZip (IsInstant parts names) (so_far_instants parts after) (before ++ fields ∷ []) → tests_from parts taken (suc (suc row)) after records ≡ Err e
        → IsRefusal parts ((codes "test" ∷ names) ∷ ((before ++ fields ∷ []) ++ records)) e)
        → and_then (λ after. tests_from parts taken (suc (suc row)) after records) r ≡ Err e → IsRefusal parts ((codes "test" ∷ names) ∷ (before ++ fields ∷ records)) e
    go (Err x) q more f =
        let same : x ≡ e = cc f in
        let suite = of_suite parts (all_tests ended current) (all_writable parts ended current s.writable s.now, s.few, omega (arith, s.count, few)) in
        refusal parts names row (all_tests ended current) before fields records e y.columns suite few size z (record_why parts names taken (suc row) ended current fields e y b s.few (q ∙ ap (λ t. Err t) same))
    go (Ok after) q more f =
        let a = record_taken parts names taken (suc row) (so_far ended current) after fields y l q in
        let width = (typed_size parts parts.inputs a.values a.typed).0 in
        let grown : so_far_instants parts after ≡ all_instants parts (all_tests ended current) ++ (a.name, a.values) ∷ []
        = ap (so_far_instants parts) (sym a.is) ∙ after_one parts ended current a.name a.values s.now width in
        let all = subst (λ t. AllZip (IsInstant parts names) t (before ++ fields ∷ [])) (sym grown) (zip_last (IsInstant parts names) (all_instants parts (all_tests ended current)) before (a.name, a.values) fields z a.instant) in
        let begun : Begun after.ended after.current = subst (λ (x : SoFar). Begun x.ended x.current) a.is (begun_after ended current a.name a.values) in
        subst (λ (t : List (List Text)). IsRefusal parts ((codes "test" ∷ names) ∷ t) e) (append_assoc before (fields ∷ []) records)
        (more after (step parts names fields (suc row) row ended current after a s) begun a.few (omega (arith, size, length_last before fields)) all f)

pub suite_refuses : (parts : Parts) (bytes : Text) (e : SuiteFault) → IsValid parts → suite_of parts bytes ≡ Err e → IsRefusal parts (suite_records bytes) e
suite_refuses parts bytes e valid h = go (suite_records bytes) h
  where
    under : (header : List Text) (records : List (List Text)) (r : Result Layout SuiteFault) → layout_of parts header ≡ r → and_then (λ layout. tests_in parts layout records) r ≡ Err e → IsRefusal parts (header ∷ records) e
    under header records (Err x) q f =
        let same : x ≡ e = cc f in
        let m = header_at_fault parts header e (q ∙ ap (λ t. Err t) same) in
        subst (IsRefusal parts (header ∷ records)) m.is (bad_header header records m.column m.kind_of refl m.fault_is)
    under header records (Ok taken) q f =
        let m = layout_means parts header taken q in
        subst (λ t. IsRefusal parts (t ∷ records) e) (sym m.1)
        (refuses_from parts m.0 taken 0 [] None [] records e m.2 (layout_laid parts header taken valid q) (record { writable = tt; now = tt; few = omega arith; count = refl }) refl (omega arith) refl tt f)

    go : (rs : List (List Text)) → tests_of parts rs ≡ Err e → IsRefusal parts rs e
    go [] f = let is : fault.Bad 0 0 kind.NoHeader ≡ e = cc f in subst (IsRefusal parts []) is (no_header refl)
    go (header ∷ records) f = under header records (layout_of parts header) refl f

-- a fault of a text is that of its records, or want of memory
pub may_refuse : (parts : Parts) (bytes : Text) (e : SuiteFault) → IsValid parts → IsFaultOf (suite_of parts bytes) e → MayRefuse parts (suite_records bytes) e
may_refuse parts bytes e valid h = elim h [
  | inl m ↦ inl m
  | inr r ↦ inr (suite_refuses parts bytes e valid r)
]
