-- Records with a first fault are refused for it.
use Rattle.std.proofs.Common.{◌≡◌, ◌≢◌, ◌≤◌, ◌+◌, ◌∙◌, ℕ, suc, true, false, nat_eq, List, [], ◌∷◌, ◌++◌, length, drop, Option, Some, None, Ok, Err, refl, sym, ap, subst, inl, inr, arith, codes}
use Rattle.std.specs.Prelude.{slice_get}
use Rattle.std.specs.List.{AllZip}
use Rattle.std.proofs.lemmas.Bool.{eq-eqb}
use Rattle.std.proofs.lemmas.List.{length-append}
use Rattle.std.proofs.lemmas.Option.{slice_get_within}
use Rattle.op_network.specs.Run.{rows}
use Rattle.std.proofs.lemmas.Bool.Decides.{eqb_tells}
use Rattle.op_network.specs.Valid.{IsValid}
use Rattle.op_network.specs.declared.edge.Parts.{Parts}
use Rattle.op_network.specs.declared.test.Test.{Test}
use Rattle.op_network.specs.declared.value.Ty.{Ty}
use Rattle.op_network.specs.declared.value.Value.{Value}
use Rattle.suite_file.specs.declared.fault.SuiteFault.{SuiteFault}
use Rattle.suite_file.specs.declared.fault.SuiteFault.TheVariants as fault
use Rattle.suite_file.specs.declared.fault.SuiteKind.{SuiteKind}
use Rattle.suite_file.specs.declared.header.Layout.{Layout}
use Rattle.suite_file.specs.Meaning.{IsInstant, all_instants, instants}
use Rattle.suite_file.specs.Records.{Text, suite_records}
use Rattle.suite_file.specs.Refusals.{IsNamed, IsRefusal, IsRefused, IsSound, IsTestTooMany, IsWide, RecordFault, StandsAt, wrong_width, bad_name, split_test, bad_value, no_header, bad_header, bad_record, too_many_tests, too_many_instants}
use Rattle.suite_file.specs.Suites.{SoFar, all_tests, cells_from, has_ended, name_in, so_far, tests_from, tests_of, with_record}
use Rattle.suite_file.specs.Values.{value_of}
use Rattle.suite_file.proofs.Accepting.{Ground, cells_exist, layout_taken, test_taken, zip_split}
use Rattle.suite_file.proofs.CellFaults.{CellAt, cell_reads, stopped}
use Rattle.suite_file.proofs.Ended.{ended_last}
use Rattle.suite_file.proofs.HeaderFaults.{header_refused}
use Rattle.suite_file.proofs.Inputs.{append_assoc, append_none, each_all, each_both, each_map}
use Rattle.suite_file.proofs.Lasts.{Begun, has_room, is_ended, is_too_many, still_open}
use Rattle.suite_file.proofs.LayoutFits.{layout_laid}
use Rattle.suite_file.proofs.LayoutMeans.{IsLayoutOf, layout_means, layout_size}
use Rattle.suite_file.proofs.Places.{length_last}
use Rattle.suite_file.proofs.Steps.{bad_name as name_refused, bad_width, has_name, split_test as name_split}
use Rattle.suite_file.proofs.TestRows.{rows_size, size_map}
use Rattle.suite_file.proofs.ValuesBack.{other_text}
use Rattle.suite_file.proofs.Writable.{AreWritable, Each, instants_in, readable}

-- ---- the tests so far

-- what stands after these tests behind others
abbrev state_of : List Test → Option Test → List Test → SoFar
state_of ended current [] = so_far ended current
state_of ended current (test ∷ tests) = state_of (all_tests ended current) (Some test) tests

state_last : (ended : List Test) (current : Option Test) (front : List Test) (last : Test) → state_of ended current (front ++ last ∷ []) ≡ so_far (all_tests ended current ++ front) (Some last)
state_last ended current [] last = ap (λ (t : List Test). so_far t (Some last)) (sym (append_none (all_tests ended current)))
state_last ended current (x ∷ front) last =
    state_last (all_tests ended current) (Some x) front last ∙ ap (λ (t : List Test). so_far t (Some last)) (append_assoc (all_tests ended current) (x ∷ []) front)

-- tests are those that ended and the one at hand
record Halves (tests : List Test) : Type 0 where
  ended : List Test
  current : Option Test
  begun : Begun ended current
  all : all_tests ended current ≡ tests
  state : state_of [] None tests ≡ so_far ended current

halves : (tests : List Test) → Halves tests
halves [] = record { ended = []; current = None; begun = refl; all = refl; state = refl }
halves (x ∷ tests) =
    let m = last_of x tests in
    record { ended = m.0; current = Some m.1; begun = tt; all = m.2; state = ap (state_of [] None) (sym m.2) ∙ state_last [] None m.0 m.1 }
  where
    last_of : (x : Test) (tests : List Test) → (front : List Test) × (last : Test) × (front ++ last ∷ [] ≡ x ∷ tests)
    last_of x [] = ([], x, refl)
    last_of x (y ∷ tests) = let m = last_of y tests in (x ∷ m.0, m.1, ap (λ t. x ∷ t) m.2)

-- records of tests are taken, and what comes behind them is read on
read_on : (parts : Parts) (names : List Text) (taken : Layout) (row : ℕ) (ended : List Test) (current : Option Test) (tests : List Test) (body later : List (List Text)) → Ground parts names taken
    → AllZip (IsInstant parts names) (all_instants parts tests) body → AreWritable parts tests
    → Each (λ (test : Test). has_ended (all_tests ended current) test.name ≡ false) tests → length (all_tests ended current) + length tests ≤ 210000 → row + instants_in tests ≤ 7400001
    → tests_from parts taken row (so_far ended current) (body ++ later) ≡ tests_from parts taken (row + instants_in tests) (state_of ended current tests) later
read_on parts names taken row ended current [] [] later g z w fresh room few = let here : row ≡ row + 0 = omega arith in ap (λ (n : ℕ). tests_from parts taken n (so_far ended current) later) here
read_on parts names taken row ended current [] (f ∷ body) later g z w fresh room few = absurd z
read_on parts names taken row ended current (test ∷ tests) body later g z w fresh room few =
    let before = all_tests ended current in
    let others : Each (λ (other : Test). has_ended (before ++ test ∷ []) other.name ≡ false) tests
    = each_map (λ (other : Test). (has_ended before other.name ≡ false) × (other.name ≢ test.name)) (λ (other : Test). has_ended (before ++ test ∷ []) other.name ≡ false) tests
    (λ other p. ended_last before test other.name ∙ rw (p.0, other_text other.name test.name p.1) refl)
    (each_both (λ (other : Test). has_ended before other.name ≡ false) (λ (other : Test). other.name ≢ test.name) tests fresh.1 w.2) in
    let m = zip_split (IsInstant parts names) (instants parts test) (all_instants parts tests) body z in
    let place : row + test.instants + instants_in tests ≡ row + (test.instants + instants_in tests) = omega arith in
    ap (λ (r : List (List Text)). tests_from parts taken row (so_far ended current) r) (ap (λ t. t ++ later) m.2 ∙ append_assoc m.0 m.1 later)
    ∙ test_taken parts names taken row ended current test m.0 (m.1 ++ later) g m.3 w.0 w.1 fresh.0 (omega (arith, room)) (omega (arith, few))
    ∙ read_on parts names taken (row + test.instants) before (Some test) tests m.1 later g m.4 w.3 others (omega (arith, room, length_last before test)) (omega (arith, few))
    ∙ ap (λ (n : ℕ). tests_from parts taken n (state_of before (Some test) tests) later) place

-- ---- a record at fault

is_wide : (parts : Parts) (names : List Text) (taken : Layout) (fields : List Text) (name : Text) → IsLayoutOf parts names taken → IsWide names fields name → nat_eq (length fields) (length taken.types + 1) ≡ true
is_wide parts names taken fields name l w = eq-eqb (length fields) (length taken.types + 1) (w.width ∙ ap (λ n. n + 1) (sym (layout_size parts names taken l)))

is_named : (parts : Parts) (names : List Text) (taken : Layout) (row : ℕ) (ended : List Test) (current : Option Test) (fields : List Text) (name : Text) → IsLayoutOf parts names taken → Begun ended current
    → IsNamed names (all_tests ended current) fields name → name_in taken row ended fields ≡ Ok name
is_named parts names taken row ended current fields name l b n =
    has_name taken row ended fields name (is_wide parts names taken fields name l n.wide) (sym n.wide.first) n.is (still_open ended current name b n.not_ended)

record_at_fault : (parts : Parts) (names : List Text) (taken : Layout) (row : ℕ) (ended : List Test) (current : Option Test) (fields : List Text) (c : ℕ) (k : SuiteKind) → IsLayoutOf parts names taken → Begun ended current
    → RecordFault parts names (all_tests ended current) fields c k → with_record parts taken row (so_far ended current) fields ≡ Err (fault.Bad row c k)
record_at_fault parts names taken row ended current fields _ _ l b (wrong_width n) =
    let size = layout_size parts names taken l in
    rw (bad_width taken row ended fields (narrow (length fields) (length taken.types + 1) (λ e. n (omega (arith, e, size))))) refl
  where
    narrow : (a m : ℕ) → (a ≡ m → ⊥) → nat_eq a m ≡ false
    narrow a m n = elim (eqb_tells a m) [
      | inl t ↦ absurd (n t.1)
      | inr t ↦ t.0
    ]
record_at_fault parts names taken row ended current fields _ _ l b (bad_name name w h) = rw (name_refused taken row ended fields name (is_wide parts names taken fields name l w) (sym w.first) h) refl
record_at_fault parts names taken row ended current fields _ _ l b (split_test name w h e) = rw (name_split taken row ended fields name (is_wide parts names taken fields name l w) (sym w.first) h (is_ended ended current name b e)) refl
record_at_fault parts names taken row ended current fields _ _ l b (bad_value name k n h r) =
    let place : 1 + k ≡ suc k = omega arith in
    let cells : cells_from parts [] 1 taken.types (drop 1 fields) ≡ Err (suc k)
    = stopped parts [] 1 taken.types (drop 1 fields) k (λ j w. let m = h j w in (m.0, cell_reads parts names taken fields j (Some m.0) l m.1)) (cell_reads parts names taken fields k None l r) ∙ ap (λ (d : ℕ). Err d) place in
    rw (is_named parts names taken row ended current fields name l b n, cells) refl

-- the values of a record without a fault
sound_cells : (parts : Parts) (names : List Text) (taken : Layout) (tests : List Test) (fields : List Text) (name : Text) → IsLayoutOf parts names taken → IsSound parts names tests fields name
    → (vs : List Value) × (cells_from parts [] 1 taken.types (drop 1 fields) ≡ Ok vs)
sound_cells parts names taken tests [] name l s = let bad : None ≡ Some name = s.named.wide.first in absurd (cc bad)
sound_cells parts names taken tests (x ∷ fields) name l s =
    let width = layout_size parts names taken l in
    let size : length fields ≡ length taken.types = omega (arith, s.named.wide.width, width) in
    let m = cells_exist parts [] 1 taken.types fields size (λ k ty field a b.
    let v = s.values k (omega (arith, slice_get_within taken.types k ty a, width)) in
    let c = cell_reads parts names taken (x ∷ fields) k (Some v.0) l v.1 in
    (v.0, same_cell parts taken.types fields k ty field v.0 c a b)) in
    (m.0, m.1)
  where
    same_cell : (parts : Parts) (types : List Ty) (fields : List Text) (k : ℕ) (ty : Ty) (field : Text) (v : Value) → CellAt parts types fields k (Some v) → slice_get types k ≡ Some ty → slice_get fields k ≡ Some field → value_of parts ty field ≡ Some v
    same_cell parts types fields k ty field v c a b =
        let t : Some c.ty ≡ Some ty = sym c.typed ∙ a in
        let f : Some c.field ≡ Some field = sym c.there ∙ b in
        let t_is : c.ty ≡ ty = cc t in
        let f_is : c.field ≡ field = cc f in
        ap (λ (y : Ty). value_of parts y field) (sym t_is) ∙ ap (value_of parts c.ty) (sym f_is) ∙ c.read

test_refused : (parts : Parts) (names : List Text) (taken : Layout) (row : ℕ) (ended : List Test) (current : Option Test) (fields : List Text) (name : Text) → IsLayoutOf parts names taken → Begun ended current
    → IsSound parts names (all_tests ended current) fields name → IsTestTooMany (all_tests ended current) name → with_record parts taken row (so_far ended current) fields ≡ Err fault.Tests
test_refused parts names taken row ended current fields name l b s m =
    let cells = sound_cells parts names taken (all_tests ended current) fields name l s in
    rw (is_named parts names taken row ended current fields name l b s.named, cells.1, is_too_many ended current name m) refl

instant_refused : (parts : Parts) (names : List Text) (taken : Layout) (ended : List Test) (current : Option Test) (fields : List Text) (name : Text) → IsLayoutOf parts names taken → Begun ended current
    → length (all_tests ended current) ≤ 210000 → IsSound parts names (all_tests ended current) fields name → (IsTestTooMany (all_tests ended current) name → ⊥) → with_record parts taken (suc 7400000) (so_far ended current) fields ≡ Err fault.Instants
instant_refused parts names taken ended current fields name l b few s n =
    let cells = sound_cells parts names taken (all_tests ended current) fields name l s in
    let room = has_room ended current name (still_open ended current name b s.named.not_ended) few n in
    rw (is_named parts names taken (suc 7400000) ended current fields name l b s.named, cells.1, room) refl

-- ---- the whole

zip_size : {A B : Type 0} (R : A → B → Type 0) (xs : List A) (ys : List B) → AllZip R xs ys → length xs ≡ length ys
zip_size R [] [] h = refl
zip_size R [] (y ∷ ys) h = absurd h
zip_size R (x ∷ xs) [] h = absurd h
zip_size R (x ∷ xs) (y ∷ ys) h = ap suc (zip_size R xs ys h.1)

how_many : (parts : Parts) (tests : List Test) → length (all_instants parts tests) ≡ instants_in tests
how_many parts [] = refl
how_many parts (test ∷ tests) =
    let one : length (instants parts test) ≡ test.instants
    = size_map (λ values. (test.name, values)) (rows (length parts.inputs) test.instants test.values) ∙ rows_size (length parts.inputs) test.instants test.values in
    omega (arith, length-append (instants parts test) (all_instants parts tests), one, how_many parts tests)

-- the record that stands there is refused for this, so the records are
refused_at : (parts : Parts) (records : List (List Text)) (row : ℕ) (columns : List Text) (tests : List Test) (fields : List Text) (e : SuiteFault) → IsValid parts → StandsAt parts records row columns tests fields
    → ((taken : Layout) (ended : List Test) (current : Option Test) → IsLayoutOf parts columns taken → Begun ended current → all_tests ended current ≡ tests → with_record parts taken row (so_far ended current) fields ≡ Err e)
    → tests_of parts records ≡ Err e
refused_at parts records row columns tests fields e valid at h =
    let readable_tests = readable parts tests at.suite in
    let w = readable_tests.0 in let few = readable_tests.1 in let short = readable_tests.2 in
    let l = layout_taken parts columns at.inputs in
    let m = layout_means parts (codes "test" ∷ columns) l.0 l.1 in
    let same : m.0 ≡ columns = cc (sym m.1) in
    let layout : IsLayoutOf parts columns l.0 = subst (λ n. IsLayoutOf parts n l.0) same m.2 in
    let g : Ground parts columns l.0 = record { valid = valid; columns = at.inputs; layout = layout; laid = layout_laid parts (codes "test" ∷ columns) l.0 valid l.1 } in
    let s = halves tests in
    let place : 1 + instants_in tests ≡ row = omega (arith, at.number, how_many parts tests, zip_size (IsInstant parts columns) (all_instants parts tests) at.before at.each) in
    let on : tests_from parts l.0 1 (so_far [] None) (at.before ++ fields ∷ at.later) ≡ tests_from parts l.0 row (so_far s.ended s.current) (fields ∷ at.later)
    = read_on parts columns l.0 1 [] None tests at.before (fields ∷ at.later) g at.each w (each_all (λ (test : Test). has_ended [] test.name ≡ false) tests (λ test. refl)) (omega (arith, few)) (omega (arith, short))
    ∙ ap (λ (n : ℕ). tests_from parts l.0 n (state_of [] None tests) (fields ∷ at.later)) place ∙ ap (λ (t : SoFar). tests_from parts l.0 row t (fields ∷ at.later)) s.state in
    let here : with_record parts l.0 row (so_far s.ended s.current) fields ≡ Err e = h l.0 s.ended s.current layout s.begun s.all in
    ap (λ (r : List (List Text)). tests_of parts r) at.all ∙ rw l.1 (on ∙ rw here refl)

pub refused : IsRefused
refused parts bytes e valid h = by (suite_records bytes) e h
  where
    by : (records : List (List Text)) (e : SuiteFault) → IsRefusal parts records e → tests_of parts records ≡ Err e
    by records _ (no_header none) = ap (tests_of parts) none
    by records _ (bad_header first later c k all f) = ap (tests_of parts) all ∙ rw (header_refused parts first c k f) refl
    by records _ (bad_record row columns tests fields c k at f) = refused_at parts records row columns tests fields (fault.Bad row c k) valid at
        (λ taken ended current l b is. record_at_fault parts columns taken row ended current fields c k l b (subst (λ (t : List Test). RecordFault parts columns t fields c k) (sym is) f))
    by records _ (too_many_tests row columns tests fields name at s m) = refused_at parts records row columns tests fields fault.Tests valid at
        (λ taken ended current l b is. test_refused parts columns taken row ended current fields name l b (subst (λ (t : List Test). IsSound parts columns t fields name) (sym is) s) (subst (λ (t : List Test). IsTestTooMany t name) (sym is) m))
    by records _ (too_many_instants columns tests fields name at s n) = refused_at parts records (suc 7400000) columns tests fields fault.Instants valid at
        (λ taken ended current l b is. instant_refused parts columns taken ended current fields name l b (omega (arith, ap length is, at.suite.few)) (subst (λ (t : List Test). IsSound parts columns t fields name) (sym is) s) (subst (λ (t : List Test). IsTestTooMany t name → ⊥) (sym is) n))
