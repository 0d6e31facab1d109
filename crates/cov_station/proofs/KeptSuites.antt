-- The tests of a suite are kept one after the other: nothing is against the next one.
use Rattle.std.proofs.Common.{◌≡◌, ◌≢◌, ℕ, ◌+◌, ◌<◌, ◌≤◌, false, cond, List, ◌∷◌, ◌++◌, length, get_or, sym, subst, ap, ◌∙◌, arith, length-append}
use Rattle.std.specs.Prelude.{All, None, Some, nat_le, nat_lt}
use Rattle.std.proofs.Math.Seq.{get_or-append_seam}
use Rattle.std.proofs.lemmas.Bool.{false_from_ne_true, le-ltb, lt-leb}
use Rattle.std.proofs.lemmas.List.{get_or_append_left}
use Rattle.std.proofs.lemmas.List.Folds.{list_any_none}
use Rattle.std.proofs.lemmas.List.Sums.{sum_by-append, sum_by-cons}
use Rattle.std.proofs.lemmas.Slice.Eq.{bytes_eq-Decides}
use Rattle.op_network.specs.declared.edge.Parts.{Parts}
use Rattle.op_network.specs.declared.test.Test.{Test}
use Rattle.op_network.specs.Valid.{FitsTest}
use Rattle.score_table.specs.declared.fault.AddCause.TheVariants.{AlreadyKept, Full, Instants}
use Rattle.score_table.specs.declared.limits.TheConstants.{MOST_INSTANTS, MOST_TESTS}
use Rattle.score_table.specs.Tables.{first_refusal, has_name, instants_of, is_kept}
use Rattle.suite_file.specs.Suites.{AreOfSuite}

-- the next one of a list stands behind those before it
before_last : (front rest : List Test) (test : Test) → length front < length (front ++ test ∷ rest)
before_last front rest test = let size = length-append front (test ∷ rest) in let more : length (test ∷ rest) ≡ length rest + 1 = omega arith in omega (arith, size, more)

next_fits : (parts : Parts) (front rest : List Test) (test : Test) → AreOfSuite parts (front ++ test ∷ rest) → FitsTest parts test
next_fits parts front rest test of =
    subst (FitsTest parts) (get_or-append_seam front test rest test) (of.fit (length front) test (before_last front rest test))

other_name : (name : List ℕ) (test : Test) → name ≢ test.name → has_name name test ≡ false
other_name name test differ = false_from_ne_true (has_name name test) (λ h. differ ((bytes_eq-Decides name test.name).0 h))

-- no test before it has its name
new_name : (parts : Parts) (front rest : List Test) (test : Test) → AreOfSuite parts (front ++ test ∷ rest) → is_kept front test.name ≡ false
new_name parts front rest test of = list_any_none (has_name test.name) front each
  where
    each : All (λ t. has_name test.name t ≡ false) front
    each k d less =
        let here : get_or (front ++ test ∷ rest) k d ≡ get_or front k d = get_or_append_left front (test ∷ rest) d k less in
        let last : get_or (front ++ test ∷ rest) (length front) d ≡ test = get_or-append_seam front test rest d in
        let apart = of.apart k (length front) d less (before_last front rest test) in
        other_name test.name (get_or front k d)
        (λ same. apart (ap (λ (t : Test). t.name) here ∙ sym same ∙ ap (λ (t : Test). t.name) (sym last)))

nothing_against : (parts : Parts) (front rest : List Test) (test : Test) → AreOfSuite parts (front ++ test ∷ rest) → first_refusal front test ≡ None
nothing_against parts front rest test of =
    let most : length (front ++ test ∷ rest) ≤ MOST_TESTS = of.few in
    let size = before_last front rest test in
    let parts_of_sum = sum_by-append (λ (t : Test). t.instants) front (test ∷ rest) in
    let head_of_sum = sum_by-cons (λ (t : Test). t.instants) test rest in
    let most_sum : instants_of (front ++ test ∷ rest) ≤ MOST_INSTANTS = of.short in
    let room : nat_le MOST_TESTS (length front) ≡ false = lt-leb MOST_TESTS (length front) (omega (arith, size, most)) in
    let short : nat_lt MOST_INSTANTS (instants_of front + test.instants) ≡ false =
    le-ltb MOST_INSTANTS (instants_of front + test.instants) (omega (arith, parts_of_sum, head_of_sum, most_sum)) in
    ap (λ b. cond b (Some AlreadyKept) (cond (nat_le MOST_TESTS (length front)) (Some Full) (cond (nat_lt MOST_INSTANTS (instants_of front + test.instants)) (Some Instants) None))) (new_name parts front rest test of)
    ∙ (ap (λ b. cond b (Some Full) (cond (nat_lt MOST_INSTANTS (instants_of front + test.instants)) (Some Instants) None)) room
    ∙ ap (λ b. cond b (Some Instants) None) short)

-- the same of a list that is split
whole_is : (parts : Parts) (front left rest all : List Test) (test : Test) → front ++ left ≡ all → left ≡ test ∷ rest → AreOfSuite parts all → AreOfSuite parts (front ++ test ∷ rest)
whole_is parts front left rest all test split next of =
    subst (AreOfSuite parts) (sym split ∙ ap (λ (l : List Test). front ++ l) next) of

pub split_fits : (parts : Parts) (front left rest all : List Test) (test : Test) → front ++ left ≡ all → left ≡ test ∷ rest → AreOfSuite parts all → FitsTest parts test
split_fits parts front left rest all test split next of = next_fits parts front rest test (whole_is parts front left rest all test split next of)

pub split_accepted : (parts : Parts) (front left rest all : List Test) (test : Test) → front ++ left ≡ all → left ≡ test ∷ rest → AreOfSuite parts all → first_refusal front test ≡ None
split_accepted parts front left rest all test split next of = nothing_against parts front rest test (whole_is parts front left rest all test split next of)
