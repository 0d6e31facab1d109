-- Where all obligations of a criterion are covered.
use Rattle.std.proofs.Common.{◌≡◌, ℕ, zero, suc, ◌+◌, ◌<◌, ◌≤◌, Bool, true, false, ◌&&◌, cond, List, [], ◌∷◌, length, get_or, map, refl, sym, ap, subst, ◌∙◌, arith}
use Rattle.std.specs.Prelude.{IsTrue, Some, count_by, slice_get, zip}
use Rattle.std.proofs.lemmas.List.{get_or-map, length-map}
use Rattle.std.proofs.lemmas.List.Folds.{Any-from_list_any, list_any_at}
use Rattle.std.proofs.lemmas.List.Sums.{sum_by-cons}
use Rattle.std.proofs.lemmas.Option.{get_or_from_slice_get, slice_get-get_or, slice_get_within}
use Rattle.dep_paths.specs.declared.path.Criterion.{Criterion}
use Rattle.dep_paths.specs.declared.path.Criterion.TheVariants.{Bc, Ecc, Mcc, Omcdc}
use Rattle.dep_paths.specs.declared.path.Obligation.{Obligation}
use Rattle.dep_paths.specs.Coverage.{Covers, IsCoveredBy, KeptRun}
use Rattle.dep_paths.specs.Criteria.{FullImplies, IsFull, criterion_of}
use Rattle.dep_paths.specs.Duties.{Planned}
use Rattle.op_network.specs.declared.edge.Parts.{Parts}
use Rattle.op_network.specs.declared.test.Test.{Test}
use Rattle.score_table.specs.Coverage.{IsFullScore, covers_at, is_covered_at, is_of, is_same_criterion, marks_of, score_of}
use Rattle.score_table.specs.Laws.{FullScoreImplies}
use Rattle.score_table.specs.Runs.{AreTestRuns, TestRun, kept_run}
use Rattle.score_table.proofs.Marks.{mark_at}
use Rattle.score_table.proofs.OneTestRun.{all_marked}
use Rattle.score_table.proofs.Unions.{covered_is, marks_of_long}

own : (a : Criterion) → is_same_criterion a a ≡ true
own Bc = refl
own Ecc = refl
own Mcc = refl
own Omcdc = refl

same : (a b : Criterion) → is_same_criterion a b ≡ true → b ≡ a
same Bc Bc h = refl
same Bc Ecc h = absurd (cc)
same Bc Mcc h = absurd (cc)
same Bc Omcdc h = absurd (cc)
same Ecc Bc h = absurd (cc)
same Ecc Ecc h = refl
same Ecc Mcc h = absurd (cc)
same Ecc Omcdc h = absurd (cc)
same Mcc Bc h = absurd (cc)
same Mcc Ecc h = absurd (cc)
same Mcc Mcc h = refl
same Mcc Omcdc h = absurd (cc)
same Omcdc Bc h = absurd (cc)
same Omcdc Ecc h = absurd (cc)
same Omcdc Mcc h = absurd (cc)
same Omcdc Omcdc h = refl

-- ---- items with marks

-- an item that passes a test is marked
abbrev pub chosen : {X : Type 0} → (X → Bool) → X × Bool → Bool
chosen p pair = p pair.0 && pair.1

-- each item that passes a test is marked
abbrev pub AllMarked : {X : Type 0} → (X → Bool) → List X → List Bool → Type 0
AllMarked {X} p xs marks = (k : ℕ) (x : X) → slice_get xs k ≡ Some x → IsTrue (p x) → IsTrue (get_or marks k false)

bit_less : (b m : Bool) → cond (b && m) 1 0 ≤ cond b 1 0
bit_less true true = omega arith
bit_less true false = omega arith
bit_less false m = omega arith

few_chosen : {X : Type 0} (p : X → Bool) (xs : List X) (marks : List Bool) → count_by (chosen p) (zip xs marks) ≤ count_by p xs
few_chosen p [] marks = omega arith
few_chosen p (x ∷ xs) [] = omega arith
few_chosen p (x ∷ xs) (m ∷ marks) =
    let one = sum_by-cons (λ pair. cond (chosen p pair) 1 0) (x, m) (zip xs marks) in
    let other = sum_by-cons (λ y. cond (p y) 1 0) x xs in
    let rest = few_chosen p xs marks in
    let bit = bit_less (p x) m in
    omega (arith, one, other, rest, bit)

-- if as many are marked as there are, each is marked
first_marked : (b m : Bool) (n k : ℕ) → n ≤ k → cond (b && m) 1 0 + n ≡ cond b 1 0 + k → IsTrue b → IsTrue m
first_marked true true n k less sums one = refl
first_marked true false n k less sums one = absurd (omega (arith, less, sums))
first_marked false m n k less sums one = absurd (cc)

rest_marked : (b m : Bool) (n k : ℕ) → n ≤ k → cond (b && m) 1 0 + n ≡ cond b 1 0 + k → n ≡ k
rest_marked true true n k less sums = omega (arith, sums)
rest_marked true false n k less sums = absurd (omega (arith, less, sums))
rest_marked false m n k less sums = omega (arith, sums)

both_sums : {X : Type 0} (p : X → Bool) (x : X) (xs : List X) (m : Bool) (marks : List Bool) → count_by (chosen p) (zip (x ∷ xs) (m ∷ marks)) ≡ count_by p (x ∷ xs) → cond (p x && m) 1 0 + count_by (chosen p) (zip xs marks) ≡ cond (p x) 1 0 + count_by p xs
both_sums p x xs m marks h = sym (sum_by-cons (λ pair. cond (chosen p pair) 1 0) (x, m) (zip xs marks)) ∙ h ∙ sum_by-cons (λ z. cond (p z) 1 0) x xs

all_counted : {X : Type 0} (p : X → Bool) (xs : List X) (marks : List Bool) → length marks ≡ length xs → count_by (chosen p) (zip xs marks) ≡ count_by p xs → AllMarked p xs marks
all_counted p [] marks long h k x there passes = absurd (cc)
all_counted p (y ∷ xs) [] long h k x there passes = absurd (omega (arith, long))
all_counted p (y ∷ xs) (m ∷ marks) long h zero x there passes =
    first_marked (p y) m (count_by (chosen p) (zip xs marks)) (count_by p xs) (few_chosen p xs marks) (both_sums p y xs m marks h) (ap p (let is : y ≡ x = cc in is) ∙ passes)
all_counted p (y ∷ xs) (m ∷ marks) long h (suc k) x there passes =
    all_counted p xs marks (omega (arith, long)) (rest_marked (p y) m (count_by (chosen p) (zip xs marks)) (count_by p xs) (few_chosen p xs marks) (both_sums p y xs m marks h)) k x there passes

-- and the other way round
same_bit : (b m : Bool) → (IsTrue b → IsTrue m) → ◌≡◌ {A = ℕ} (cond (b && m) 1 0) (cond b 1 0)
same_bit true m is = ap (λ c. let n : ℕ = cond c 1 0 in n) (is refl)
same_bit false m is = refl

all_count : {X : Type 0} (p : X → Bool) (xs : List X) (marks : List Bool) → length marks ≡ length xs → AllMarked p xs marks → count_by (chosen p) (zip xs marks) ≡ count_by p xs
all_count p [] marks long all = refl
all_count p (x ∷ xs) [] long all = absurd (omega (arith, long))
all_count p (x ∷ xs) (m ∷ marks) long all =
    let one = sum_by-cons (λ pair. cond (chosen p pair) 1 0) (x, m) (zip xs marks) in
    let other = sum_by-cons (λ y. cond (p y) 1 0) x xs in
    let bit = same_bit (p x) m (all 0 x refl) in
    let rest = all_count p xs marks (omega (arith, long)) (λ k y there. all (suc k) y there) in
    omega (arith, one, other, bit, rest)

-- ---- scores

-- the mark of an obligation says whether some run covers it
covered_if : (parts : Parts) (plan : Planned) (tests : List Test) (runs : List TestRun) (k : ℕ) (duty : Obligation) → AreTestRuns parts plan tests runs → slice_get plan.duties k ≡ Some duty → IsTrue (is_covered_at runs k) → IsCoveredBy parts plan (map kept_run runs) duty
covered_if parts plan tests runs k duty are there covered =
    let one = Any-from_list_any (covers_at k) runs covered in
    let i = one.0 in
    let run = one.1 in
    let within = one.2 in
    let at = one.3 in
    let marks = subst (λ (u : TestRun). IsTrue (get_or u.covered k false) → IsCovered u) at (λ bit. (mark_at parts plan (kept_run (get_or runs i run)) (get_or runs i run).covered k duty (all_marked parts plan tests runs are i run within) there).0 bit) in
    record {
      run = kept_run run;
      listed = (i, omega (arith, within, length-map runs kept_run), get_or-map kept_run runs i run (kept_run run) within ∙ ap kept_run at);
      covers = marks one.4;
    }
  where
    IsCovered : TestRun → Type 0
    IsCovered u = Covers parts plan (kept_run u) duty

if_covered : (parts : Parts) (plan : Planned) (tests : List Test) (runs : List TestRun) (k : ℕ) (duty : Obligation) → AreTestRuns parts plan tests runs → slice_get plan.duties k ≡ Some duty → IsCoveredBy parts plan (map kept_run runs) duty → IsTrue (is_covered_at runs k)
if_covered parts plan tests runs k duty are there c =
    let i = c.listed.0 in
    let within : i < length runs = let lt = c.listed.1 in omega (arith, lt, length-map runs kept_run) in
    let d : TestRun = record { frames = []; kept = 0; covered = [] } in
    let run = get_or runs i d in
    let same : kept_run run ≡ c.run = sym (get_or-map kept_run runs i d c.run within) ∙ c.listed.2 in
    list_any_at (covers_at k) runs i d within
    ((mark_at parts plan (kept_run run) run.covered k duty (all_marked parts plan tests runs are i d within) there).1 (subst (λ (r : KeptRun). Covers parts plan r duty) (sym same) c.covers))

-- a full score, and that each of the criterion's obligations is covered
full_is : (parts : Parts) (plan : Planned) (tests : List Test) (runs : List TestRun) (criterion : Criterion) → AreTestRuns parts plan tests runs → IsFullScore (score_of plan runs criterion) → IsFull (IsCoveredBy parts plan (map kept_run runs)) criterion plan.duties
full_is parts plan tests runs criterion are full = λ k d lt is.
    let duty = get_or plan.duties k d in
    let there = slice_get-get_or plan.duties k d lt in
    let marked = all_counted (is_of criterion) plan.duties (marks_of plan runs) (marks_of_long plan runs) full k duty there (ap (is_same_criterion criterion) is ∙ own criterion) in
    covered_if parts plan tests runs k duty are there (sym (covered_is plan runs k lt) ∙ marked)

full_score : (parts : Parts) (plan : Planned) (tests : List Test) (runs : List TestRun) (criterion : Criterion) → AreTestRuns parts plan tests runs → IsFull (IsCoveredBy parts plan (map kept_run runs)) criterion plan.duties → IsFullScore (score_of plan runs criterion)
full_score parts plan tests runs criterion are full =
    all_count (is_of criterion) plan.duties (marks_of plan runs) (marks_of_long plan runs) (λ k duty there asked.
    let lt = slice_get_within plan.duties k duty there in
    let at = get_or_from_slice_get plan.duties k duty duty there in
    covered_is plan runs k lt ∙ if_covered parts plan tests runs k duty are there
    (subst (IsCoveredBy parts plan (map kept_run runs)) at (full k duty lt (ap criterion_of at ∙ same criterion (criterion_of duty) asked))))

-- one criterion follows from another, as it does by what is covered
pub full_follows : (one other : Criterion) → FullImplies one other → FullScoreImplies one other
full_follows one other follows parts plan tests runs of are full =
    full_score parts plan tests runs other are (follows parts plan (map kept_run runs) of (full_is parts plan tests runs one are full))
