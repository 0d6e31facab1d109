-- A test has one run, and so the rows are those of the runs.
use Rattle.std.proofs.Common.{◌≡◌, ℕ, zero, suc, List, [], ◌∷◌, ◌++◌, length, get_or, map, refl, sym, ap, ap₂, subst, ◌∙◌}
use Rattle.std.specs.Prelude.{Some, slice_get, remove, All}
use Rattle.std.specs.List.{AllZip}
use Rattle.std.proofs.lemmas.List.Elements.{All-cons, All-nil}
use Rattle.dep_paths.specs.Activation.{Frames}
use Rattle.dep_paths.specs.Coverage.{KeptRun}
use Rattle.dep_paths.specs.Duties.{Planned}
use Rattle.lus_causality.specs.Causality.{HasNoCycle}
use Rattle.lus_causality.proofs.Runs.{one_run}
use Rattle.op_network.specs.declared.edge.Parts.{Parts}
use Rattle.op_network.specs.declared.test.Test.{Test}
use Rattle.op_network.specs.Admissible.{IsKeptOf}
use Rattle.op_network.specs.Valid.{IsValid}
use Rattle.stream_run.proofs.Keeping.{one_kept}
use Rattle.score_table.specs.declared.row.TestRow.{TestRow}
use Rattle.score_table.specs.Rows.{IsRowOf, row_of}
use Rattle.score_table.specs.Runs.{AreMarks, AreTestRuns, IsTestRun, TestRun, kept_run, test_rows}
use Rattle.score_table.proofs.Marks.{marks_long, one_marks}

pub one_test_run : (parts : Parts) (plan : Planned) (test : Test) (a b : TestRun) → IsValid parts → HasNoCycle parts.edges → IsTestRun parts plan test a → IsTestRun parts plan test b → a ≡ b
one_test_run parts plan test a b valid acyclic h k =
    let frames = one_run parts (test_rows parts test) a.frames b.frames valid acyclic h.ran k.ran in
    let kept = one_kept parts (test_rows parts test) a.kept b.kept h.kept k.kept in
    let ran : kept_run a ≡ kept_run b = ap₂ (λ (f : Frames) n. let run : KeptRun = record { frames = f; kept = n } in run) frames kept in
    let covered = one_marks parts plan (kept_run b) a.covered b.covered (subst (λ (run : KeptRun). AreMarks parts plan run a.covered) ran h.marks) k.marks in
    ap₂ (λ (run : KeptRun) marks. let whole : TestRun = record { frames = run.frames; kept = run.kept; covered = marks } in whole) ran covered

-- tests have one list of runs
pub one_list : (parts : Parts) (plan : Planned) (tests : List Test) (a b : List TestRun) → IsValid parts → HasNoCycle parts.edges → AreTestRuns parts plan tests a → AreTestRuns parts plan tests b → a ≡ b
one_list parts plan [] [] [] valid acyclic h k = refl
one_list parts plan [] [] (v ∷ b) valid acyclic h k = absurd k
one_list parts plan [] (u ∷ a) b valid acyclic h k = absurd h
one_list parts plan (t ∷ tests) [] b valid acyclic h k = absurd h
one_list parts plan (t ∷ tests) (u ∷ a) [] valid acyclic h k = absurd k
one_list parts plan (t ∷ tests) (u ∷ a) (v ∷ b) valid acyclic h k = ap₂ (λ x l. x ∷ l) (one_test_run parts plan t u v valid acyclic h.0 k.0) (one_list parts plan tests a b valid acyclic h.1 k.1)

-- the rows are those of the runs
pub rows_are : (parts : Parts) (plan : Planned) (tests : List Test) (rows : List TestRow) (runs : List TestRun) → IsValid parts → HasNoCycle parts.edges → AllZip (IsRowOf parts plan) tests rows → AreTestRuns parts plan tests runs → rows ≡ map row_of runs
rows_are parts plan [] [] [] valid acyclic h k = refl
rows_are parts plan [] [] (u ∷ runs) valid acyclic h k = absurd k
rows_are parts plan [] (r ∷ rows) runs valid acyclic h k = absurd h
rows_are parts plan (t ∷ tests) [] runs valid acyclic h k = absurd h
rows_are parts plan (t ∷ tests) (r ∷ rows) [] valid acyclic h k = absurd k
rows_are parts plan (t ∷ tests) (r ∷ rows) (u ∷ runs) valid acyclic h k =
    ap₂ (λ x l. x ∷ l) (h.0.is ∙ ap row_of (one_test_run parts plan t h.0.run u valid acyclic h.0.ran k.0)) (rows_are parts plan tests rows runs valid acyclic h.1 k.1)

-- tests with their rows have runs
pub runs_of : (parts : Parts) (plan : Planned) (tests : List Test) (rows : List TestRow) → AllZip (IsRowOf parts plan) tests rows → (runs : List TestRun) × AreTestRuns parts plan tests runs × (rows ≡ map row_of runs)
runs_of parts plan [] [] h = ([], tt, refl)
runs_of parts plan [] (r ∷ rows) h = absurd h
runs_of parts plan (t ∷ tests) [] h = absurd h
runs_of parts plan (t ∷ tests) (r ∷ rows) h = let rest = runs_of parts plan tests rows h.1 in (h.0.run ∷ rest.0, (h.0.ran, rest.1), ap₂ (λ x l. x ∷ l) h.0.is rest.2)

-- how many instants count, by the row at a place
pub kept_of : (parts : Parts) (plan : Planned) (tests : List Test) (rows : List TestRow) (i : ℕ) (test : Test) (row : TestRow) → AllZip (IsRowOf parts plan) tests rows → slice_get tests i ≡ Some test → slice_get rows i ≡ Some row → IsKeptOf parts test row.kept
kept_of parts plan [] rows i test row h t r = absurd (cc)
kept_of parts plan (x ∷ tests) [] i test row h t r = absurd h
kept_of parts plan (x ∷ tests) (y ∷ rows) zero test row h t r =
    let same : x ≡ test = cc in
    let count : row.kept ≡ h.0.run.kept = ap (λ (z : TestRow). z.kept) (let e : row ≡ y = cc in e) ∙ ap (λ (z : TestRow). z.kept) h.0.is in
    subst (λ n. IsKeptOf parts test n) (sym count) (subst (λ (z : Test). IsKeptOf parts z h.0.run.kept) same h.0.ran.kept)
kept_of parts plan (x ∷ tests) (y ∷ rows) (suc i) test row h t r = kept_of parts plan tests rows i test row h.1 t r

-- the rows are as many as the tests
pub rows_long : (parts : Parts) (plan : Planned) (tests : List Test) (rows : List TestRow) → AllZip (IsRowOf parts plan) tests rows → length rows ≡ length tests
rows_long parts plan [] [] h = refl
rows_long parts plan [] (r ∷ rows) h = absurd h
rows_long parts plan (t ∷ tests) [] h = absurd h
rows_long parts plan (t ∷ tests) (r ∷ rows) h = ap suc (rows_long parts plan tests rows h.1)

-- one test more with its row
pub rows_more : (parts : Parts) (plan : Planned) (tests : List Test) (rows : List TestRow) (test : Test) (row : TestRow) → AllZip (IsRowOf parts plan) tests rows → IsRowOf parts plan test row → AllZip (IsRowOf parts plan) (tests ++ test ∷ []) (rows ++ row ∷ [])
rows_more parts plan [] [] test row h k = (k, tt)
rows_more parts plan [] (r ∷ rows) test row h k = absurd h
rows_more parts plan (t ∷ tests) [] test row h k = absurd h
rows_more parts plan (t ∷ tests) (r ∷ rows) test row h k = (h.0, rows_more parts plan tests rows test row h.1 k)

-- a test is taken out with its row
pub rows_less : (parts : Parts) (plan : Planned) (tests : List Test) (rows : List TestRow) (i : ℕ) → AllZip (IsRowOf parts plan) tests rows → AllZip (IsRowOf parts plan) (remove tests i) (remove rows i)
rows_less parts plan [] [] i h = none i
  where
    none : (i : ℕ) → AllZip (IsRowOf parts plan) (remove [] i) (remove [] i)
    none zero = tt
    none (suc i) = tt
rows_less parts plan [] (r ∷ rows) i h = absurd h
rows_less parts plan (t ∷ tests) [] i h = absurd h
rows_less parts plan (t ∷ tests) (r ∷ rows) zero h = h.1
rows_less parts plan (t ∷ tests) (r ∷ rows) (suc i) h = (h.0, rows_less parts plan tests rows i h.1)

-- a row has a bit for each obligation
pub row_wide : (parts : Parts) (plan : Planned) (test : Test) (row : TestRow) → IsRowOf parts plan test row → length row.covered ≡ length plan.duties
row_wide parts plan test row h = ap (λ (r : TestRow). length r.covered) h.is ∙ marks_long parts plan (kept_run h.run) h.run.covered h.ran.marks

pub rows_wide : (parts : Parts) (plan : Planned) (tests : List Test) (rows : List TestRow) → AllZip (IsRowOf parts plan) tests rows → All (λ (row : TestRow). length row.covered ≡ length plan.duties) rows
rows_wide parts plan [] [] h = All-nil (λ (row : TestRow). length row.covered ≡ length plan.duties)
rows_wide parts plan [] (r ∷ rows) h = absurd h
rows_wide parts plan (t ∷ tests) [] h = absurd h
rows_wide parts plan (t ∷ tests) (r ∷ rows) h = All-cons (λ (row : TestRow). length row.covered ≡ length plan.duties) r rows (row_wide parts plan t r h.0) (rows_wide parts plan tests rows h.1)

-- the marks of each run are right
pub all_marked : (parts : Parts) (plan : Planned) (tests : List Test) (runs : List TestRun) → AreTestRuns parts plan tests runs → All (λ (run : TestRun). AreMarks parts plan (kept_run run) run.covered) runs
all_marked parts plan [] [] h = All-nil (λ (run : TestRun). AreMarks parts plan (kept_run run) run.covered)
all_marked parts plan [] (u ∷ runs) h = absurd h
all_marked parts plan (t ∷ tests) [] h = absurd h
all_marked parts plan (t ∷ tests) (u ∷ runs) h = All-cons (λ (run : TestRun). AreMarks parts plan (kept_run run) run.covered) u runs h.0.marks (all_marked parts plan tests runs h.1)

-- each run has a mark for each obligation
pub runs_wide : (parts : Parts) (plan : Planned) (tests : List Test) (runs : List TestRun) → AreTestRuns parts plan tests runs → All (λ (run : TestRun). length run.covered ≡ length plan.duties) runs
runs_wide parts plan tests runs h = λ k d lt. let run = get_or runs k d in marks_long parts plan (kept_run run) run.covered (all_marked parts plan tests runs h k d lt)
