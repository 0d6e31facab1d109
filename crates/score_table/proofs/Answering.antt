-- What a table answers, from what is kept.
use Rattle.std.proofs.Common.{◌≡◌, ◌<◌, ◌≤◌, ℕ, Bool, false, List, length, get_or, map, sym, ap, ap₂, subst, ◌∙◌}
use Rattle.std.specs.Prelude.{Option, None, Some, count_by, position, slice_get, zip}
use Rattle.dep_paths.specs.declared.path.Criterion.{Criterion}
use Rattle.dep_paths.specs.declared.path.Obligation.{Obligation}
use Rattle.dep_paths.specs.declared.path.Score.{Score}
use Rattle.dep_paths.specs.Duties.{Planned}
use Rattle.lus_causality.specs.Ordered.{Causal}
use Rattle.lus_causality.proofs.Frames.{found_at}
use Rattle.op_network.specs.declared.edge.Parts.{Parts}
use Rattle.op_network.specs.declared.test.Test.{Test}
use Rattle.op_network.specs.Admissible.{IsKeptOf}
use Rattle.score_table.specs.declared.kept.Kept.{Kept}
use Rattle.score_table.specs.declared.row.TestRow.{TestRow}
use Rattle.score_table.specs.declared.watch.Watch.{Watch}
use Rattle.score_table.specs.Coverage.{first_covering, is_covered_at, is_covered_of, is_of, marks_of, score_of}
use Rattle.score_table.specs.Rows.{IsTable, row_of, union_of}
use Rattle.score_table.specs.Runs.{AreTestRuns, TestRun}
use Rattle.score_table.specs.Tables.{OfRuns, Tabled}
use Rattle.score_table.proofs.OneTestRun.{kept_of, rows_are, runs_of, runs_wide}
use Rattle.score_table.proofs.Unions.{covered_is, first_is, none_covered, none_first, union_is}

-- what contracts see
abbrev pub seen : Causal → Planned → Kept → Tabled
seen network plan kept = record { network = network; plan = plan; tests = kept.tests.items }

-- the rows are those of the runs
rows_of : (parts : Parts) (plan : Planned) (kept : Kept) (watch : Watch) (runs : List TestRun) → IsTable parts plan kept watch → AreTestRuns parts plan kept.tests.items runs → kept.rows.items ≡ map row_of runs
rows_of parts plan kept watch runs h is = rows_are parts plan kept.tests.items kept.rows.items runs h.valid h.acyclic h.tests.rows is

-- the bits are those of the runs
bits_of : (parts : Parts) (plan : Planned) (kept : Kept) (watch : Watch) (runs : List TestRun) → IsTable parts plan kept watch → AreTestRuns parts plan kept.tests.items runs → kept.covered ≡ marks_of plan runs
bits_of parts plan kept watch runs h is = h.tests.covered ∙ ap (union_of (length plan.duties)) (rows_of parts plan kept watch runs h is) ∙ union_is plan runs (runs_wide parts plan kept.tests.items runs is)

pub score_told : (network : Causal) (plan : Planned) (kept : Kept) (watch : Watch) (criterion : Criterion) (score : Score) (duties : List Obligation) → IsTable network.network plan kept watch → duties ≡ plan.duties
    → score.total ≡ count_by (is_of criterion) duties → score.covered ≡ count_by (is_covered_of criterion) (zip duties kept.covered)
    → OfRuns (seen network plan kept) (λ runs. score ≡ score_of plan runs criterion)
score_told network plan kept watch criterion score duties h same total count = λ runs is.
    ap₂ (λ m n. let s : Score = record { covered = m; total = n } in s)
    (count ∙ ap₂ (λ (l : List Obligation) bits. count_by (is_covered_of criterion) (zip l bits)) same (bits_of network.network plan kept watch runs h is))
    (total ∙ ap (count_by (is_of criterion)) same)

pub covered_told : (network : Causal) (plan : Planned) (kept : Kept) (watch : Watch) (o : ℕ) (answer : Bool) → IsTable network.network plan kept watch → o < length plan.duties → answer ≡ get_or kept.covered o false
    → OfRuns (seen network plan kept) (λ runs. answer ≡ is_covered_at runs o)
covered_told network plan kept watch o answer h within bit = λ runs is.
    bit ∙ ap (λ (l : List Bool). get_or l o false) (bits_of network.network plan kept watch runs h is) ∙ covered_is plan runs o within

-- the plan lacks the obligation
pub nothing_told : (network : Causal) (plan : Planned) (kept : Kept) (o : ℕ) (answer : Bool) → length plan.duties ≤ o → answer ≡ false
    → OfRuns (seen network plan kept) (λ runs. answer ≡ is_covered_at runs o)
nothing_told network plan kept o answer past none = λ runs is.
    none ∙ sym (none_covered (length plan.duties) o runs (runs_wide network.network plan kept.tests.items runs is) past)

pub first_told : (network : Causal) (plan : Planned) (kept : Kept) (watch : Watch) (o : ℕ) (rows : List TestRow) (answer : Option ℕ) → IsTable network.network plan kept watch → rows ≡ kept.rows.items
    → answer ≡ position (λ (row : TestRow). get_or row.covered o false) rows
    → OfRuns (seen network plan kept) (λ runs. answer ≡ first_covering runs o)
first_told network plan kept watch o rows answer h same first = λ runs is.
    first ∙ ap (position (λ (row : TestRow). get_or row.covered o false)) (same ∙ rows_of network.network plan kept watch runs h is) ∙ first_is runs o

pub none_told : (network : Causal) (plan : Planned) (kept : Kept) (o : ℕ) → length plan.duties ≤ o
    → OfRuns (seen network plan kept) (λ runs. None ≡ first_covering runs o)
none_told network plan kept o past = λ runs is.
    none_first (length plan.duties) o runs (runs_wide network.network plan kept.tests.items runs is) past

pub runs_told : (network : Causal) (plan : Planned) (kept : Kept) (watch : Watch) → IsTable network.network plan kept watch → (runs : List TestRun) × AreTestRuns network.network plan kept.tests.items runs
runs_told network plan kept watch h = let runs = runs_of network.network plan kept.tests.items kept.rows.items h.tests.rows in (runs.0, runs.1)

pub kept_told : (network : Causal) (plan : Planned) (kept : Kept) (watch : Watch) (rows : List TestRow) (i : ℕ) (answer : ℕ) → IsTable network.network plan kept watch → rows ≡ kept.rows.items → i < length rows
    → ((row : TestRow) → slice_get rows i ≡ Some row → answer ≡ row.kept) → (test : Test) → slice_get kept.tests.items i ≡ Some test → IsKeptOf network.network test answer
kept_told network plan kept watch rows i answer h same lt is test there =
    let row = found_at rows i lt in
    subst (IsKeptOf network.network test) (sym (is row.0 row.1))
    (kept_of network.network plan kept.tests.items kept.rows.items i test row.0 h.tests.rows there (ap (λ (l : List TestRow). slice_get l i) (sym same) ∙ row.1))
