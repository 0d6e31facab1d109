-- What is kept, after a test goes last or is taken out.
use Rattle.std.proofs.Common.{◌≡◌, ◌≢◌, ℕ, suc, ◌+◌, ◌-◌, ◌<◌, ◌≤◌, Bool, true, false, cond, ◌||◌, List, [], ◌∷◌, ◌++◌, length, get_or, take, drop, refl, sym, ap, subst, ◌∙◌, arith, length-append, length-drop}
use Rattle.std.specs.Prelude.{Some, None, All, replicate, nat_le, nat_lt, remove}
use Rattle.std.specs.List.{AllPairs, AllZip}
use Rattle.std.specs.Str.{bytes_eq}
use Rattle.std.proofs.lemmas.Bool.{leb-false, ltb-false}
use Rattle.std.proofs.lemmas.Cmp.{nat_list_eq_equiv}
use Rattle.std.proofs.lemmas.List.{length-take}
use Rattle.std.proofs.lemmas.List.Elements.{All-append, All-drop, All-push, All-take}
use Rattle.std.proofs.lemmas.List.Quantifiers.{all_pairs_push, all_pairs_remove}
use Rattle.std.proofs.lemmas.List.Sums.{fold_push, sum_by_push, sum_by-remove}
use Rattle.cov_base.specs.BitRow.{either}
use Rattle.dep_paths.specs.Duties.{Planned}
use Rattle.op_network.specs.declared.edge.Parts.{Parts}
use Rattle.op_network.specs.declared.test.Test.{Test}
use Rattle.op_network.specs.Valid.{FitsTest}
use Rattle.score_table.specs.declared.fault.AddCause.TheVariants.{AlreadyKept, Full, Instants}
use Rattle.score_table.specs.declared.kept.Kept.{Kept}
use Rattle.score_table.specs.declared.limits.TheConstants.{MOST_INSTANTS, MOST_TESTS}
use Rattle.score_table.specs.declared.row.TestRow.{TestRow}
use Rattle.score_table.specs.Names.{holds}
use Rattle.score_table.specs.Rows.{AreKept, IsRowOf, union_of}
use Rattle.score_table.specs.Tables.{first_refusal, instants_of, is_kept}
use Rattle.score_table.proofs.OneTestRun.{rows_less, rows_more, rows_wide, runs_of, runs_wide}
use Rattle.score_table.proofs.TestNames.{kept_more, names_left, none_named, taken_out}
use Rattle.score_table.proofs.Unions.{marks_of_long, union_is}

-- a test for which there is no reason against keeping it
pub record IsAccepted (tests : List Test) (test : Test) : Type 0 where
  pub new : is_kept tests test.name ≡ false
  pub few : length tests < MOST_TESTS
  pub short : instants_of tests + test.instants ≤ MOST_INSTANTS

pub accepted : (tests : List Test) (test : Test) → first_refusal tests test ≡ None → IsAccepted tests test
accepted tests test none = by (is_kept tests test.name) (nat_le MOST_TESTS (length tests)) (nat_lt MOST_INSTANTS (instants_of tests + test.instants)) refl refl refl none
  where
    by : (a b c : Bool) → is_kept tests test.name ≡ a → nat_le MOST_TESTS (length tests) ≡ b → nat_lt MOST_INSTANTS (instants_of tests + test.instants) ≡ c
        → cond a (Some AlreadyKept) (cond b (Some Full) (cond c (Some Instants) None)) ≡ None → IsAccepted tests test
    by true b c e f g h = absurd (cc)
    by false true c e f g h = absurd (cc)
    by false false true e f g h = absurd (cc)
    by false false false e f g h = record { new = e; few = leb-false MOST_TESTS (length tests) f; short = ltb-false MOST_INSTANTS (instants_of tests + test.instants) g }

-- what the rows cover together has a bit for each obligation
pub kept_wide : (parts : Parts) (plan : Planned) (kept : Kept) → AreKept parts plan kept → length kept.covered ≡ length plan.duties
kept_wide parts plan kept h =
    let runs = runs_of parts plan kept.tests.items kept.rows.items h.rows in
    ap length (h.covered ∙ ap (union_of (length plan.duties)) runs.2 ∙ union_is plan runs.0 (runs_wide parts plan kept.tests.items runs.0 runs.1)) ∙ marks_of_long plan runs.0

-- each row has one
pub all_wide : (parts : Parts) (plan : Planned) (kept : Kept) → AreKept parts plan kept → All (λ (row : TestRow). length row.covered ≡ length plan.duties) kept.rows.items
all_wide parts plan kept h = rows_wide parts plan kept.tests.items kept.rows.items h.rows

-- equal texts are equal either way
turned : (a b : List ℕ) → bytes_eq a b ≡ bytes_eq b a
turned a b = nat_list_eq_equiv.symm a b

or_swap : (a b : Bool) → cond a true b ≡ (b || (a || false))
or_swap true true = refl
or_swap true false = refl
or_swap false true = refl
or_swap false false = refl

-- a test goes last
pub put_last : (parts : Parts) (plan : Planned) (old new : Kept) (test : Test) (row : TestRow) → AreKept parts plan old → first_refusal old.tests.items test ≡ None → FitsTest parts test → IsRowOf parts plan test row
    → new.tests.items ≡ old.tests.items ++ test ∷ [] → new.rows.items ≡ old.rows.items ++ row ∷ [] → ((other : List ℕ) → holds new.names other ≡ cond (bytes_eq test.name other) true (holds old.names other))
    → new.covered ≡ either old.covered row.covered → new.instants ≡ old.instants + test.instants → AreKept parts plan new
put_last parts plan old new test row h none fit is tests rows names covered instants =
    let ok = accepted old.tests.items test none in
    let few = ok.few in
    let size = ap length tests ∙ length-append old.tests.items (test ∷ []) in
    record {
      fit = subst (All (FitsTest parts)) (sym tests) (All-push (FitsTest parts) old.tests.items test h.fit fit);
      rows = subst (λ (l : List Test). AllZip (IsRowOf parts plan) l new.rows.items) (sym tests) (subst (λ (l : List TestRow). AllZip (IsRowOf parts plan) (old.tests.items ++ test ∷ []) l) (sym rows) (rows_more parts plan old.tests.items old.rows.items test row h.rows is));
      names = λ name. names name ∙ ap (cond (bytes_eq test.name name) true) (h.names name) ∙ or_swap (bytes_eq test.name name) (is_kept old.tests.items name)
          ∙ ap (λ b. is_kept old.tests.items name || (b || false)) (turned test.name name) ∙ sym (ap (λ (l : List Test). is_kept l name) tests ∙ kept_more old.tests.items test name);
      apart = subst (AllPairs (λ (a b : Test). a.name ≢ b.name)) (sym tests) (all_pairs_push (λ (a b : Test). a.name ≢ b.name) old.tests.items test h.apart (none_named old.tests.items test.name ok.new));
      covered = covered ∙ ap (λ bits. either bits row.covered) h.covered ∙ sym (ap (union_of (length plan.duties)) rows ∙ fold_push (λ bits (r : TestRow). either bits r.covered) (replicate (length plan.duties) false) old.rows.items row);
      instants = instants ∙ ap (λ n. n + test.instants) h.instants ∙ sym (ap instants_of tests ∙ sum_by_push (λ (t : Test). t.instants) old.tests.items test);
      few = omega (arith, size, few);
      short = let sum = h.instants in let most = ok.short in omega (arith, instants, sum, most);
    }

-- a test is taken out
pub take_out : (parts : Parts) (plan : Planned) (old new : Kept) (i : ℕ) (d : Test) → AreKept parts plan old → i < length old.tests.items
    → new.tests.items ≡ remove old.tests.items i → new.rows.items ≡ remove old.rows.items i → ((other : List ℕ) → holds new.names other ≡ cond (bytes_eq (get_or old.tests.items i d).name other) false (holds old.names other))
    → new.covered ≡ union_of (length old.covered) new.rows.items → new.instants ≡ old.instants - (get_or old.tests.items i d).instants → AreKept parts plan new
take_out parts plan old new i d h lt tests rows names covered instants =
    let name = (get_or old.tests.items i d).name in
    let left = tests ∙ taken_out old.tests.items i d h.apart lt in
    let sum = sum_by-remove (λ (t : Test). t.instants) old.tests.items i d lt in
    let total = ap instants_of tests in
    let size = ap length tests ∙ length-append (take i old.tests.items) (drop (suc i) old.tests.items) in
    let front = length-take i old.tests.items in
    let back = length-drop (suc i) old.tests.items in
    record {
      fit = subst (All (FitsTest parts)) (sym tests) (All-append (FitsTest parts) (take i old.tests.items) (drop (suc i) old.tests.items) (All-take (FitsTest parts) i old.tests.items h.fit) (All-drop (FitsTest parts) (suc i) old.tests.items h.fit));
      rows = subst (λ (l : List Test). AllZip (IsRowOf parts plan) l new.rows.items) (sym tests) (subst (λ (l : List TestRow). AllZip (IsRowOf parts plan) (remove old.tests.items i) l) (sym rows) (rows_less parts plan old.tests.items old.rows.items i h.rows));
      names = λ other. names other ∙ ap (cond (bytes_eq name other) false) (h.names other) ∙ sym (ap (λ (l : List Test). is_kept l other) left ∙ names_left old.tests.items name other);
      apart = subst (AllPairs (λ (a b : Test). a.name ≢ b.name)) (sym tests) (all_pairs_remove (λ (a b : Test). a.name ≢ b.name) old.tests.items i lt h.apart);
      covered = covered ∙ ap (λ n. union_of n new.rows.items) (kept_wide parts plan old h);
      instants = let before = h.instants in omega (arith, instants, before, sum, total);
      few = let before = h.few in omega (arith, size, front, back, before);
      short = let before = h.short in omega (arith, instants, before);
    }
