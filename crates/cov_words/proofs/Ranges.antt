-- The numbers of a job are in their ranges.
use Rattle.std.proofs.Common.{◌≡◌, ◌≤◌, codes, ℕ, Bool, true, false, cond, List, [], ◌∷◌, arith, refl, subst}
use Rattle.std.specs.Prelude.{◌&&◌, Option, Some, None, nat_le, option_and_then, option_map}
use Rattle.std.specs.Option.{option_map_or}
use Rattle.std.proofs.lemmas.Bool.{leb-true}
use Rattle.clap.specs.Walk.{Row, first_of}
use Rattle.cov_words.specs.declared.job.Verb.{Verb}
use Rattle.cov_words.specs.declared.limits.TheConstants.{DEFAULT_BUDGET, DEFAULT_K, DEFAULT_LENGTH, DEFAULT_WIDTH, LEAST_K, LEAST_LENGTH, LEAST_WIDTH, MOST_BUDGET, MOST_K, MOST_LENGTH, MOST_WIDTH}
use Rattle.cov_words.specs.Commands.{verb_of}
use Rattle.cov_words.specs.Jobs.{Asked, IsInRange, budget_of, is_taken, job_by, job_of, matches, meaning, most_edges_of, most_instants_of, number_of, number_within, width_of}

record IsIn (least most n : ℕ) : Type 0 where
  above : least ≤ n
  below : n ≤ most

both_true : (a b c d : Bool) (v n : ℕ) → cond (a && (b && (c && d))) (Some v) None ≡ Some n → (c ≡ true) × (d ≡ true) × (v ≡ n)
both_true true true true true v n e = (refl, refl, cc)
both_true _ _ _ _ v n e = absurd (cc)

within : (least most v n : ℕ) (a b : Bool) → cond (a && (b && (nat_le least v && nat_le v most))) (Some v) None ≡ Some n → IsIn least most n
within least most v n a b e =
    let h = both_true a b (nat_le least v) (nat_le v most) v n e in
    let low = leb-true least v h.0 in
    let high = leb-true v most h.1 in
    let same = h.2 in
    record { above = omega arith; below = omega arith }

ranged : (least most : ℕ) (text : List ℕ) (n : ℕ) → number_within least most text ≡ Some n → IsIn least most n
ranged least most text n e = within least most _ n _ _ e

given : (least most default n : ℕ) (found : Option (List ℕ)) → least ≤ default → default ≤ most
    → option_map_or (number_within least most) found (Some default) ≡ Some n → IsIn least most n
given least most default n None low high e =
    let same : default ≡ n = cc in
    record { above = omega arith; below = omega arith }
given least most default n (Some text) low high e = ranged least most text n e

-- ---- the numbers of a job

record AreNumbers (make : ℕ → ℕ → ℕ → ℕ → ℕ → Asked) (width most_edges most_instants budget : Option ℕ) (job : Asked) : Type 0 where
  n : ℕ
  w : ℕ
  m : ℕ
  k : ℕ
  b : ℕ
  width_is : width ≡ Some w
  length_is : most_edges ≡ Some m
  instants_are : most_instants ≡ Some k
  budget_is : budget ≡ Some b
  job_is : make n w m k b ≡ job

numbers : (make : ℕ → ℕ → ℕ → ℕ → ℕ → Asked) (number width most_edges most_instants budget : Option ℕ) (job : Asked)
    → option_and_then (λ n. option_and_then (λ w. option_and_then (λ m. option_and_then (λ k. option_map (λ b. make n w m k b) budget) most_instants) most_edges) width) number ≡ Some job
    → AreNumbers make width most_edges most_instants budget job
numbers make (Some n) (Some w) (Some m) (Some k) (Some b) job e =
    record { n = n; w = w; m = m; k = k; b = b; width_is = refl; length_is = refl; instants_are = refl; budget_is = refl; job_is = cc }
numbers make _ _ _ _ _ job e = absurd (cc)

pub found_in_range : (v : Verb) (rows : List Row) (job : Asked) → job_of v rows ≡ Some job → IsInRange job
found_in_range v rows job e =
    let h = numbers _ (number_of v rows) (width_of rows) (most_edges_of rows) (most_instants_of rows) (budget_of rows) job e in
    let width = given LEAST_WIDTH MOST_WIDTH DEFAULT_WIDTH h.w (first_of (codes "width") rows) (omega arith) (omega arith) h.width_is in
    let edges = given LEAST_LENGTH MOST_LENGTH DEFAULT_LENGTH h.m (first_of (codes "length") rows) (omega arith) (omega arith) h.length_is in
    let instants = given LEAST_K MOST_K DEFAULT_K h.k (first_of (codes "k") rows) (omega arith) (omega arith) h.instants_are in
    let budget = given 0 MOST_BUDGET DEFAULT_BUDGET h.b (first_of (codes "budget") rows) (omega arith) (omega arith) h.budget_is in
    subst IsInRange h.job_is
    (record {
      narrowest = width.above;
      widest = width.below;
      shortest = edges.above;
      longest = edges.below;
      fewest = instants.above;
      most = instants.below;
      budget = budget.below;
    })

is_held : (b : Bool) (held : Option Asked) (job : Asked) → cond b held None ≡ Some job → held ≡ Some job
is_held true held job e = e
is_held false held job e = absurd (cc)

by_verb : (found : Option Verb) (args : List (List ℕ)) (job : Asked) → option_and_then (λ v. job_by v args) found ≡ Some job → IsInRange job
by_verb (Some v) args job e = found_in_range v (matches v args) job (is_held (is_taken v args) (job_of v (matches v args)) job e)
by_verb None args job e = absurd (cc)

pub in_range : (words : List (List ℕ)) (job : Asked) → meaning words ≡ Some job → IsInRange job
in_range [] job e = absurd (cc)
in_range (name ∷ args) job e = by_verb (verb_of name) (name ∷ args) job e
