-- Scores, from the obligations with their bits.
use Rattle.std.proofs.Common.{◌≡◌, ℕ, ◌+◌, ◌<◌, ◌≤◌, Bool, true, false, ◌&&◌, cond, List, length, get_or, take, refl, sym, ap, ap₂, subst, ◌∙◌, arith}
use Rattle.std.specs.Prelude.{count_by, zip}
use Rattle.std.proofs.lemmas.List.{take_all, take_more}
use Rattle.std.proofs.lemmas.List.Sums.{sum_by_push}
use Rattle.std.proofs.lemmas.Slice.Zip.{get_or-zip, length-zip}
use Rattle.dep_paths.specs.declared.path.Criterion.{Criterion}
use Rattle.dep_paths.specs.declared.path.Obligation.{Obligation}
use Rattle.dep_paths.specs.declared.path.Score.{Score}
use Rattle.score_table.specs.Coverage.{is_covered_of, is_of}

-- one item more
pub count_more : {X : Type 0} (p : X → Bool) (xs : List X) (i n : ℕ) (d : X) → i < length xs → n ≡ count_by p (take i xs) → n + cond (p (get_or xs i d)) 1 0 ≡ count_by p (take (i + 1) xs)
count_more p xs i n d lt so_far = ap (λ m. m + cond (p (get_or xs i d)) 1 0) so_far ∙ sym (ap (count_by p) (take_more xs i d lt) ∙ sum_by_push (λ x. cond (p x) 1 0) (take i xs) (get_or xs i d))

chosen_less : (b : Bool) (n i : ℕ) → n ≤ i → n + cond b 1 0 ≤ i + 1
chosen_less true n i le = omega (arith, le)
chosen_less false n i le = omega (arith, le)

-- the score so far
pub record IsScoredBelow (criterion : Criterion) (duties : List Obligation) (covered : List Bool) (i : ℕ) (score : Score) : Type 0 where
  pub few : score.total ≤ i
  pub fewer : score.covered ≤ i
  pub total_is : score.total ≡ count_by (is_of criterion) (take i duties)
  pub covered_is : score.covered ≡ count_by (is_covered_of criterion) (take i (zip duties covered))

pub scored_none : (criterion : Criterion) (duties : List Obligation) (covered : List Bool) → IsScoredBelow criterion duties covered 0 (record { covered = 0; total = 0 })
scored_none criterion duties covered = record { few = omega arith; fewer = omega arith; total_is = refl; covered_is = refl }

pub scored_more : (criterion : Criterion) (duties : List Obligation) (covered : List Bool) (i : ℕ) (old new : Score) (d : Obligation) (asked bit : Bool) → i < length duties → length covered ≡ length duties
    → asked ≡ is_of criterion (get_or duties i d) → bit ≡ get_or covered i false
    → new.total ≡ old.total + cond asked 1 0 → new.covered ≡ old.covered + cond (asked && bit) 1 0
    → IsScoredBelow criterion duties covered i old → IsScoredBelow criterion duties covered (i + 1) new
scored_more criterion duties covered i old new d asked bit lt size is at total count h =
    let one = total ∙ ap (λ b. old.total + cond b 1 0) is in
    let pair = get_or-zip duties covered i (d, false) lt (omega (arith, lt, size)) in
    let both = count ∙ ap₂ (λ a b. old.covered + cond (a && b) 1 0) is at ∙ ap (λ (p : Obligation × Bool). old.covered + cond (is_covered_of criterion p) 1 0) (sym pair) in
    let long = length-zip duties covered in
    record {
      few = subst (λ n. n ≤ i + 1) (sym total) (chosen_less asked old.total i h.few);
      fewer = subst (λ n. n ≤ i + 1) (sym count) (chosen_less (asked && bit) old.covered i h.fewer);
      total_is = one ∙ count_more (is_of criterion) duties i old.total d lt h.total_is;
      covered_is = both ∙ count_more (is_covered_of criterion) (zip duties covered) i old.covered (d, false) (omega (arith, lt, size, long)) h.covered_is;
    }

-- all obligations are scored
pub scored_all : (criterion : Criterion) (duties : List Obligation) (covered : List Bool) (i : ℕ) (score : Score) → length duties ≤ i → length covered ≡ length duties → IsScoredBelow criterion duties covered i score
    → (score.total ≡ count_by (is_of criterion) duties) × (score.covered ≡ count_by (is_covered_of criterion) (zip duties covered))
scored_all criterion duties covered i score full size h =
    let long = length-zip duties covered in (
      h.total_is ∙ ap (count_by (is_of criterion)) (take_all i duties full),
      h.covered_is ∙ ap (count_by (is_covered_of criterion)) (take_all i (zip duties covered) (omega (arith, full, size, long))),
    )
