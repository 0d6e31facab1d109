-- The text of a table, line by line.
use Rattle.std.proofs.Common.{◌≡◌, ℕ, zero, suc, ◌+◌, ◌<◌, ◌≤◌, Bool, true, false, not, cond, List, [], ◌∷◌, ◌++◌, length, take, get_or, filter, refl, sym, ap, subst, ◌∙◌, arith, append_assoc, append-nil}
use Rattle.std.specs.List.{flat_map, range_with_len, zip}
use Rattle.std.proofs.lemmas.Grind.{flat_map-append}
use Rattle.std.proofs.lemmas.List.{flat_map_more, take_all, take_more}
use Rattle.std.proofs.lemmas.List.Elements.{filter-append}
use Rattle.std.proofs.lemmas.Option.{slice_get-get_or}
use Rattle.std.specs.Prelude.{Some, slice_get}
use Rattle.dep_paths.specs.Duties.{Planned}
use Rattle.op_network.specs.declared.edge.Parts.{Parts}
use Rattle.op_network.specs.declared.test.Test.{Test}
use Rattle.op_network.specs.Admissible.{IsKeptOf}
use Rattle.op_network.specs.Run.{rows}
use Rattle.op_network.specs.declared.edge.Edge.{Edge}
use Rattle.cov_report.specs.Scores.{score_lines}
use Rattle.score_table.specs.Coverage.{is_covered_at}
use Rattle.score_table.specs.Runs.{AreTestRuns, IsTestRun, TestRun}
use Rattle.score_table.specs.Tables.{OfRuns, Tabled}
use Rattle.cov_station.specs.Scores.{NetworkScore, missing_line, missing_lines, scores_of, test_line, test_lines}
use Rattle.cov_station.specs.Scoring.{missing_at}
use Rattle.cov_station.proofs.Below.{one_kept}

-- ---- tests

abbrev pub line_of : Test × TestRun → List ℕ
line_of p = test_line p.0 p.1.kept

-- the lines of the first i tests
abbrev pub first_lines : List Test → List TestRun → ℕ → List ℕ
first_lines tests runs i = flat_map line_of (take i (zip tests runs))

same_line : (parts : Parts) (plan : Planned) (test : Test) (run : TestRun) (kept : ℕ) → IsTestRun parts plan test run → IsKeptOf parts test kept → test_line test kept ≡ test_line test run.kept
same_line parts plan test run kept ran is =
    ap (test_line test) (one_kept parts (rows (length parts.inputs) test.instants test.values) kept run.kept is ran.kept)

next_line : (parts : Parts) (plan : Planned) (tests : List Test) (runs : List TestRun) (i : ℕ) (d : Test) (kept : ℕ) → AreTestRuns parts plan tests runs → i < length tests
    → IsKeptOf parts (get_or tests i d) kept → first_lines tests runs i ++ test_line (get_or tests i d) kept ≡ first_lines tests runs (i + 1)
next_line parts plan [] runs i d kept ran lt is = absurd (omega (arith, lt))
next_line parts plan (t ∷ tests) [] i d kept ran lt is = absurd ran
next_line parts plan (t ∷ tests) (r ∷ runs) zero d kept ran lt is = same_line parts plan t r kept ran.0 is ∙ sym (append-nil (test_line t r.kept))
next_line parts plan (t ∷ tests) (r ∷ runs) (suc i) d kept ran lt is =
    append_assoc (test_line t r.kept) (first_lines tests runs i) (test_line (get_or tests i d) kept)
    ∙ ap (λ l. test_line t r.kept ++ l) (next_line parts plan tests runs i d kept ran.1 (omega (arith, lt)) is)
    ∙ ap (first_lines (t ∷ tests) (r ∷ runs)) (next i)
  where
    next : (n : ℕ) → suc (n + 1) ≡ suc n + 1
    next n = omega arith

-- what is added so far, for the runs of the table
pub record HasFirstLines (table : Tabled) (i : ℕ) (old new : List ℕ) : Type 0 where
  pub each : OfRuns table (λ runs. new ≡ old ++ first_lines table.tests runs i)

pub no_line : (table : Tabled) (text : List ℕ) → HasFirstLines table 0 text text
no_line table text = record { each = λ runs ran. sym (append-nil text) }

line_more : (table : Tabled) (i : ℕ) (d : Test) (kept : ℕ) (old text new : List ℕ) → i < length table.tests → IsKeptOf table.network.network (get_or table.tests i d) kept
    → new ≡ text ++ test_line (get_or table.tests i d) kept → HasFirstLines table i old text → HasFirstLines table (i + 1) old new
line_more table i d kept old text new lt is added h = record {
  each = λ runs ran.
      added ∙ ap (λ t. t ++ test_line (get_or table.tests i d) kept) (h.each runs ran)
      ∙ append_assoc old (first_lines table.tests runs i) (test_line (get_or table.tests i d) kept)
      ∙ ap (λ l. old ++ l) (next_line table.network.network table.plan table.tests runs i d kept ran lt is);
}

pub next_test : (table : Tabled) (items : List Test) (i : ℕ) (test : Test) (kept : ℕ) (old text new : List ℕ) → items ≡ table.tests → i < length items → test ≡ get_or items i test
    → ((t : Test) → slice_get table.tests i ≡ Some t → IsKeptOf table.network.network t kept)
    → new ≡ text ++ test_line test kept → HasFirstLines table i old text → HasFirstLines table (i + 1) old new
next_test table items i test kept old text new same lt is counted added h =
    let within : i < length table.tests = subst (λ (l : List Test). i < length l) same lt in
    let here : test ≡ get_or table.tests i test = is ∙ ap (λ (l : List Test). get_or l i test) same in
    line_more table i test kept old text new within (counted (get_or table.tests i test) (slice_get-get_or table.tests i test within))
    (added ∙ ap (λ (t : Test). text ++ test_line t kept) here) h

pub zip_short : (tests : List Test) (runs : List TestRun) → length (zip tests runs) ≤ length tests
zip_short [] runs = omega arith
zip_short (t ∷ tests) [] = omega arith
zip_short (t ∷ tests) (r ∷ runs) = let h = zip_short tests runs in omega (arith, h)

pub all_lines : (table : Tabled) (i : ℕ) (old new : List ℕ) → length table.tests ≤ i → HasFirstLines table i old new
    → OfRuns table (λ runs. new ≡ old ++ test_lines table.tests runs)
all_lines table i old new full h runs ran =
    let short = zip_short table.tests runs in
    h.each runs ran ∙ ap (λ l. old ++ flat_map line_of l) (take_all i (zip table.tests runs) (omega (arith, short, full)))

-- ---- obligations

next_number : (n : ℕ) → suc n + 1 ≡ suc (n + 1)
next_number n = omega arith

range_from : (a n : ℕ) → range_with_len a (n + 1) ≡ range_with_len a n ++ (a + n) ∷ []
range_from a zero = ap (λ b. b ∷ []) (omega arith)
range_from a (suc n) =
    ap (range_with_len a) (next_number n) ∙ ap (λ l. a ∷ l) (range_from (a + 1) n ∙ ap (λ b. range_with_len (a + 1) n ++ b ∷ []) (omega arith))

pub range_more : (n : ℕ) → range_with_len 0 (n + 1) ≡ range_with_len 0 n ++ n ∷ []
range_more n = range_from 0 n ∙ ap (λ b. range_with_len 0 n ++ b ∷ []) (omega arith)

-- the lines of those of the first n that no run covers
abbrev pub first_missing : List Edge → Planned → List TestRun → ℕ → List ℕ
first_missing edges plan runs n = flat_map (missing_line edges plan) (filter (λ o. not (is_covered_at runs o)) (range_with_len 0 n))

one_missing : (edges : List Edge) (plan : Planned) (runs : List TestRun) (o : ℕ)
    → flat_map (missing_line edges plan) (filter (λ o. not (is_covered_at runs o)) (o ∷ [])) ≡ missing_at edges plan runs o
one_missing edges plan runs o = by (is_covered_at runs o)
  where
    by : (b : Bool) → flat_map (missing_line edges plan) (cond (not b) (o ∷ []) []) ≡ cond b [] (missing_line edges plan o)
    by true = refl
    by false = append-nil (missing_line edges plan o)

next_missing : (edges : List Edge) (plan : Planned) (runs : List TestRun) (n : ℕ) → first_missing edges plan runs n ++ missing_at edges plan runs n ≡ first_missing edges plan runs (n + 1)
next_missing edges plan runs n =
    let line = missing_line edges plan in
    let open' : ℕ → Bool = λ o. not (is_covered_at runs o) in
    ap (λ l. first_missing edges plan runs n ++ l) (sym (one_missing edges plan runs n))
    ∙ sym (flat_map-append line (filter open' (range_with_len 0 n)) (filter open' (n ∷ [])))
    ∙ ap (flat_map line) (sym (filter-append open' (range_with_len 0 n) (n ∷ [])))
    ∙ ap (λ l. flat_map line (filter open' l)) (sym (range_more n))

pub record HasFirstMissing (table : Tabled) (n : ℕ) (old new : List ℕ) : Type 0 where
  pub each : OfRuns table (λ runs. new ≡ old ++ first_missing table.network.network.edges table.plan runs n)

pub none_missing : (table : Tabled) (text : List ℕ) → HasFirstMissing table 0 text text
none_missing table text = record { each = λ runs ran. sym (append-nil text) }

pub missing_more : (table : Tabled) (n : ℕ) (old text new : List ℕ) → OfRuns table (λ runs. new ≡ text ++ missing_at table.network.network.edges table.plan runs n)
    → HasFirstMissing table n old text → HasFirstMissing table (n + 1) old new
missing_more table n old text new added h = record {
  each = λ runs ran.
      added runs ran ∙ ap (λ t. t ++ missing_at table.network.network.edges table.plan runs n) (h.each runs ran)
      ∙ append_assoc old (first_missing table.network.network.edges table.plan runs n) (missing_at table.network.network.edges table.plan runs n)
      ∙ ap (λ l. old ++ l) (next_missing table.network.network.edges table.plan runs n);
}

pub all_missing : (table : Tabled) (n : ℕ) (old new : List ℕ) → n ≡ length table.plan.duties → HasFirstMissing table n old new
    → OfRuns table (λ runs. new ≡ old ++ missing_lines table.network.network.edges table.plan runs)
all_missing table n old new is h runs ran =
    h.each runs ran ∙ ap (λ n. old ++ first_missing table.network.network.edges table.plan runs n) is

-- ---- the whole text

pub whole_text : (table : Tabled) (runs : List TestRun) (start tests scores text : List ℕ) → AreTestRuns table.network.network table.plan table.tests runs → start ≡ []
    → OfRuns table (λ runs. tests ≡ start ++ test_lines table.tests runs)
    → OfRuns table (λ runs. scores ≡ tests ++ score_lines (scores_of table.plan runs))
    → OfRuns table (λ runs. text ≡ scores ++ missing_lines table.network.network.edges table.plan runs)
    → NetworkScore table.network.network table.plan table.tests false text
whole_text table runs start tests scores text ran empty first second third = record {
  runs = runs;
  ran = ran;
  printed =
      third runs ran
      ∙ ap (λ t. t ++ missing_lines table.network.network.edges table.plan runs) (second runs ran ∙ ap (λ t. t ++ score_lines (scores_of table.plan runs)) (first runs ran ∙ ap (λ s. s ++ test_lines table.tests runs) empty))
      ∙ append_assoc (test_lines table.tests runs) (score_lines (scores_of table.plan runs)) (missing_lines table.network.network.edges table.plan runs);
}
