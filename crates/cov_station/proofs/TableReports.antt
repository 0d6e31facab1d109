-- What is reported of a table, test by test and obligation by obligation.
use Rattle.std.proofs.Common.{◌≡◌, ℕ, zero, suc, ◌+◌, ◌<◌, ◌≤◌, Bool, true, false, not, cond, List, [], ◌∷◌, ◌++◌, length, map, take, get_or, filter, refl, sym, ap, subst, ◌∙◌, arith, append-nil}
use Rattle.std.specs.Prelude.{All, Some, slice_get}
use Rattle.std.specs.Prelude.{◌&&◌, nat_le}
use Rattle.std.specs.List.{list_all, range_with_len, zip}
use Rattle.std.proofs.lemmas.Bool.{and_parts}
use Rattle.std.proofs.lemmas.Bool.Decides.{nat_tests}
use Rattle.std.proofs.lemmas.List.Sums.{AllPass-from_list_all}
use Rattle.std.proofs.lemmas.List.{map-append, take_all}
use Rattle.std.proofs.lemmas.List.Elements.{All-append, All-cons, All-nil, filter-append}
use Rattle.std.proofs.lemmas.Option.{slice_get-get_or}
use Rattle.cov_report.specs.declared.json.TestLine.{TestLine}
use Rattle.cov_report.specs.Json.{ArePrintable, IsPrintable, json_line}
use Rattle.cov_report.specs.Scores.{scored}
use Rattle.dep_paths.specs.declared.path.Score.{Score}
use Rattle.dep_paths.specs.Duties.{Planned}
use Rattle.op_network.specs.declared.edge.Parts.{Parts}
use Rattle.op_network.specs.declared.test.Test.{Test}
use Rattle.op_network.specs.Admissible.{IsKeptOf}
use Rattle.op_network.specs.Run.{rows}
use Rattle.score_table.specs.Coverage.{is_covered_at}
use Rattle.score_table.specs.Runs.{AreTestRuns, IsTestRun, TestRun}
use Rattle.score_table.specs.Tables.{OfRuns, Tabled}
use Rattle.suite_file.specs.Suites.{is_name, is_printable}
use Rattle.cov_station.specs.Scores.{NetworkScore, missing_numbers, row_of_test, rows_of_tests, scores_of}
use Rattle.cov_station.specs.Scoring.{number_at}
use Rattle.cov_station.proofs.Below.{one_kept}
use Rattle.cov_station.proofs.TableTexts.{range_more, zip_short}

-- ---- tests

abbrev pub row_at : Test → ℕ → TestLine
row_at test kept = record { name = test.name; instants = test.instants; kept = kept }

-- the rows of the first i tests
abbrev pub first_rows : List Test → List TestRun → ℕ → List TestLine
first_rows tests runs i = map row_of_test (take i (zip tests runs))

same_row : (parts : Parts) (plan : Planned) (test : Test) (run : TestRun) (kept : ℕ) → IsTestRun parts plan test run → IsKeptOf parts test kept → row_at test kept ≡ row_at test run.kept
same_row parts plan test run kept ran is =
    ap (row_at test) (one_kept parts (rows (length parts.inputs) test.instants test.values) kept run.kept is ran.kept)

next_row : (parts : Parts) (plan : Planned) (tests : List Test) (runs : List TestRun) (i : ℕ) (d : Test) (kept : ℕ) → AreTestRuns parts plan tests runs → i < length tests
    → IsKeptOf parts (get_or tests i d) kept → first_rows tests runs i ++ row_at (get_or tests i d) kept ∷ [] ≡ first_rows tests runs (i + 1)
next_row parts plan [] runs i d kept ran lt is = absurd (omega (arith, lt))
next_row parts plan (t ∷ tests) [] i d kept ran lt is = absurd ran
next_row parts plan (t ∷ tests) (r ∷ runs) zero d kept ran lt is = ap (λ (x : TestLine). x ∷ []) (same_row parts plan t r kept ran.0 is)
next_row parts plan (t ∷ tests) (r ∷ runs) (suc i) d kept ran lt is =
    ap (λ (l : List TestLine). row_at t r.kept ∷ l) (next_row parts plan tests runs i d kept ran.1 (omega (arith, lt)) is)
    ∙ ap (first_rows (t ∷ tests) (r ∷ runs)) (next i)
  where
    next : (n : ℕ) → suc (n + 1) ≡ suc n + 1
    next n = omega arith

-- what is reported so far, for the runs of the table
pub record HasFirstRows (table : Tabled) (i : ℕ) (reported : List TestLine) : Type 0 where
  pub each : OfRuns table (λ runs. reported ≡ first_rows table.tests runs i)
  pub names : ArePrintable reported

pub no_row : (table : Tabled) → HasFirstRows table 0 []
no_row table = record { each = λ runs ran. refl; names = All-nil (λ (row : TestLine). IsPrintable row.name) }

pub next_report : (table : Tabled) (items : List Test) (i : ℕ) (test : Test) (kept : ℕ) (row : TestLine) (reported new : List TestLine) → items ≡ table.tests → i < length items → test ≡ get_or items i test
    → ((t : Test) → slice_get table.tests i ≡ Some t → IsKeptOf table.network.network t kept)
    → All (λ (test : Test). IsPrintable test.name) table.tests
    → row ≡ row_at test kept → new ≡ reported ++ row ∷ [] → HasFirstRows table i reported → HasFirstRows table (i + 1) new
next_report table items i test kept row reported new same lt is counted names made added h =
    let within : i < length table.tests = subst (λ (l : List Test). i < length l) same lt in
    let here : test ≡ get_or table.tests i test = is ∙ ap (λ (l : List Test). get_or l i test) same in
    let own = counted (get_or table.tests i test) (slice_get-get_or table.tests i test within) in
    let printable : IsPrintable row.name =
    subst (λ (x : TestLine). IsPrintable x.name) (sym (made ∙ ap (λ (t : Test). row_at t kept) here)) (names i test within) in
    record {
      each = λ runs ran.
          added ∙ ap (λ (x : TestLine). reported ++ x ∷ []) (made ∙ ap (λ (t : Test). row_at t kept) here)
          ∙ ap (λ (l : List TestLine). l ++ row_at (get_or table.tests i test) kept ∷ []) (h.each runs ran)
          ∙ next_row table.network.network table.plan table.tests runs i test kept ran within own;
      names =
          subst ArePrintable (sym added)
          (All-append (λ (row : TestLine). IsPrintable row.name) reported (row ∷ []) h.names
          (All-cons (λ (row : TestLine). IsPrintable row.name) row [] printable (All-nil (λ (row : TestLine). IsPrintable row.name))));
    }

pub all_rows : (table : Tabled) (i : ℕ) (reported : List TestLine) → length table.tests ≤ i → HasFirstRows table i reported
    → OfRuns table (λ runs. reported ≡ rows_of_tests table.tests runs)
all_rows table i reported full h runs ran =
    let short = zip_short table.tests runs in
    h.each runs ran ∙ ap (map row_of_test) (take_all i (zip table.tests runs) (omega (arith, short, full)))

-- ---- obligations

-- the numbers of those of the first n that no run covers
abbrev pub first_numbers : List TestRun → ℕ → List ℕ
first_numbers runs n = map suc (filter (λ o. not (is_covered_at runs o)) (range_with_len 0 n))

one_number : (runs : List TestRun) (o : ℕ) → map suc (filter (λ o. not (is_covered_at runs o)) (o ∷ [])) ≡ number_at runs o
one_number runs o = by (is_covered_at runs o)
  where
    by : (b : Bool) → map suc (cond (not b) (o ∷ []) []) ≡ cond b [] (suc o ∷ [])
    by true = refl
    by false = refl

next_numbers : (runs : List TestRun) (n : ℕ) → first_numbers runs n ++ number_at runs n ≡ first_numbers runs (n + 1)
next_numbers runs n =
    let open' : ℕ → Bool = λ o. not (is_covered_at runs o) in
    ap (λ l. first_numbers runs n ++ l) (sym (one_number runs n))
    ∙ sym (map-append suc (filter open' (range_with_len 0 n)) (filter open' (n ∷ [])))
    ∙ ap (map suc) (sym (filter-append open' (range_with_len 0 n) (n ∷ [])))
    ∙ ap (λ l. map suc (filter open' l)) (sym (range_more n))

pub record HasFirstNumbers (table : Tabled) (n : ℕ) (numbers : List ℕ) : Type 0 where
  pub each : OfRuns table (λ runs. numbers ≡ first_numbers runs n)

pub no_number : (table : Tabled) → HasFirstNumbers table 0 []
no_number table = record { each = λ runs ran. refl }

pub number_more : (table : Tabled) (n : ℕ) (numbers new : List ℕ) → OfRuns table (λ runs. new ≡ numbers ++ number_at runs n)
    → HasFirstNumbers table n numbers → HasFirstNumbers table (n + 1) new
number_more table n numbers new added h = record {
  each = λ runs ran.
      added runs ran ∙ ap (λ l. l ++ number_at runs n) (h.each runs ran) ∙ next_numbers runs n;
}

pub all_numbers : (table : Tabled) (n : ℕ) (numbers : List ℕ) → n ≡ length table.plan.duties → HasFirstNumbers table n numbers
    → OfRuns table (λ runs. numbers ≡ missing_numbers table.plan runs)
all_numbers table n numbers is h runs ran = h.each runs ran ∙ ap (first_numbers runs) is

-- ---- the whole line

pub whole_report : (table : Tabled) (runs : List TestRun) (reported : List TestLine) (scores : List Score) (numbers start text : List ℕ) → AreTestRuns table.network.network table.plan table.tests runs → start ≡ []
    → OfRuns table (λ runs. reported ≡ rows_of_tests table.tests runs)
    → OfRuns table (λ runs. scores ≡ scores_of table.plan runs)
    → OfRuns table (λ runs. numbers ≡ missing_numbers table.plan runs)
    → text ≡ start ++ json_line reported scores numbers
    → NetworkScore table.network.network table.plan table.tests true text
whole_report table runs reported scores numbers start text ran empty first second third is = record {
  runs = runs;
  ran = ran;
  printed =
      is ∙ ap (λ (s : List ℕ). s ++ json_line reported scores numbers) empty
      ∙ ap (λ (l : List TestLine). json_line l scores numbers) (first runs ran)
      ∙ ap (λ (l : List Score). json_line (rows_of_tests table.tests runs) l numbers) (second runs ran)
      ∙ ap (λ (l : List ℕ). json_line (rows_of_tests table.tests runs) (scores_of table.plan runs) l) (third runs ran);
}

-- ---- names

nothing_less : (low high b : ℕ) → (nat_le low b && nat_le b high) ≡ true → (low ≤ b) × (b ≤ high)
nothing_less low high b h = let p = and_parts (nat_le low b) (nat_le b high) h in (grind (arith, nat_tests), grind (arith, nat_tests))

-- the name of a test of a suite is printable
name_printable : (name : List ℕ) → is_name name ≡ true → IsPrintable name
name_printable name h =
    let all = (and_parts _ (list_all is_printable name) h).1 in
    λ k d lt. nothing_less _ _ (get_or name k d) (AllPass-from_list_all is_printable name all k d lt)

pub names_printable : (tests : List Test) → All (λ (test : Test). is_name test.name ≡ true) tests → All (λ (test : Test). IsPrintable test.name) tests
names_printable tests named = λ k d lt. name_printable (get_or tests k d).name (named k d lt)
