-- The tests of a suite, one by one.
use Rattle.std.proofs.Common.{◌≡◌, ◌≢◌, ◌≤◌, ◌+◌, ℕ, suc, true, List, [], ◌∷◌, length, refl, sym, arith, All, AllPairs}
use Rattle.std.specs.List.{sum_by}
use Rattle.std.proofs.lemmas.List.Elements.{All-nil, All-cons, All-head, All-tail}
use Rattle.std.proofs.lemmas.List.Kept.{AllPairs-cons}
use Rattle.std.proofs.lemmas.List.Sums.{sum_by-cons}
use Rattle.op_network.specs.declared.edge.Parts.{Parts}
use Rattle.op_network.specs.declared.test.Test.{Test}
use Rattle.op_network.specs.Valid.{FitsTest}
use Rattle.suite_file.specs.Suites.{is_name, AreOfSuite}

-- P holds of each element
abbrev pub Each : {A : Type 0} → (A → Type 0) → List A → Type 0
Each P [] = Unit {0}
Each P (x ∷ xs) = P x × Each P xs

-- tests that fit, with names of 1 to 64 printable bytes, each other than those before it
abbrev pub AreWritable : Parts → List Test → Type 0
AreWritable parts [] = Unit {0}
AreWritable parts (test ∷ tests) = FitsTest parts test × (is_name test.name ≡ true) × Each (λ (later : Test). later.name ≢ test.name) tests × AreWritable parts tests

-- how many instants tests have
abbrev pub instants_in : List Test → ℕ
instants_in [] = 0
instants_in (test ∷ tests) = test.instants + instants_in tests

pub each_from : {A : Type 0} (P : A → Type 0) (xs : List A) → All P xs → Each P xs
each_from P [] h = tt
each_from P (x ∷ xs) h = (All-head P x xs h, each_from P xs (All-tail P x xs h))

pub all_from : {A : Type 0} (P : A → Type 0) (xs : List A) → Each P xs → All P xs
all_from P [] h = All-nil P
all_from P (x ∷ xs) h = All-cons P x xs h.0 (all_from P xs h.1)

instants_sum : (tests : List Test) → instants_in tests ≡ sum_by (λ (test : Test). test.instants) tests
instants_sum [] = refl
instants_sum (test ∷ tests) = omega (arith, instants_sum tests, sum_by-cons (λ (test : Test). test.instants) test tests)

abbrev Named : Test → Type 0
Named test = is_name test.name ≡ true

abbrev Apart : Test → Test → Type 0
Apart a b = a.name ≢ b.name

writable_from : (parts : Parts) (tests : List Test) → All (FitsTest parts) tests → All Named tests → AllPairs Apart tests → AreWritable parts tests
writable_from parts [] fit named apart = tt
writable_from parts (test ∷ tests) fit named apart =
    let others : Each (λ (later : Test). later.name ≢ test.name) tests
    = each_from (λ (later : Test). later.name ≢ test.name) tests (λ k d within e. apart 0 (suc k) d (omega arith) (omega (arith, within)) (sym e)) in (
      All-head (FitsTest parts) test tests fit,
      All-head Named test tests named,
      others,
      writable_from parts tests (All-tail (FitsTest parts) test tests fit) (All-tail Named test tests named) (λ i j d before within. apart (suc i) (suc j) d (omega (arith, before)) (omega (arith, within))),
    )

all_fit : (parts : Parts) (tests : List Test) → AreWritable parts tests → All (FitsTest parts) tests
all_fit parts [] w = All-nil (FitsTest parts)
all_fit parts (test ∷ tests) w = All-cons (FitsTest parts) test tests w.0 (all_fit parts tests w.3)

all_named : (parts : Parts) (tests : List Test) → AreWritable parts tests → All Named tests
all_named parts [] w = All-nil Named
all_named parts (test ∷ tests) w = All-cons Named test tests w.1 (all_named parts tests w.3)

all_apart : (parts : Parts) (tests : List Test) → AreWritable parts tests → AllPairs Apart tests
all_apart parts [] w = λ i j d before within. absurd (omega (arith, within))
all_apart parts (test ∷ tests) w =
    AllPairs-cons Apart test tests (λ k d within e. all_from (λ (later : Test). later.name ≢ test.name) tests w.2 k d within (sym e)) (all_apart parts tests w.3)

-- what is within the limits, one by one
abbrev pub Readable : Parts → List Test → Type 0
Readable parts tests = AreWritable parts tests × (length tests ≤ 210000) × (instants_in tests ≤ 7400000)

pub readable : (parts : Parts) (tests : List Test) → AreOfSuite parts tests → Readable parts tests
readable parts tests h = (writable_from parts tests h.fit h.named h.apart, h.few, omega (arith, instants_sum tests, h.short))

pub of_suite : (parts : Parts) (tests : List Test) → Readable parts tests → AreOfSuite parts tests
of_suite parts tests h = record {
  fit = all_fit parts tests h.0;
  named = all_named parts tests h.0;
  apart = all_apart parts tests h.0;
  few = h.1;
  short = omega (arith, instants_sum tests, h.2);
}
