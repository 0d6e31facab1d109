-- The marks of a run: of each obligation of a plan, whether the run covers it.
use Rattle.std.proofs.Common.{◌≡◌, ◌↔◌, ◌⊎◌, inl, inr, ℕ, zero, suc, ◌+◌, Bool, true, false, List, [], ◌∷◌, length, get_or, take, refl, sym, ap, ap₂, subst, arith}
use Rattle.std.specs.Prelude.{IsTrue, Some, replicate, slice_get}
use Rattle.std.specs.List.{AllZip}
use Rattle.std.proofs.lemmas.Bool.{cases_lt}
use Rattle.dep_paths.specs.declared.path.Obligation.{Obligation}
use Rattle.dep_paths.specs.Activation.{Frames}
use Rattle.dep_paths.specs.Coverage.{Covers, KeptRun, Met}
use Rattle.dep_paths.specs.Duties.{Planned}
use Rattle.dep_paths.proofs.Fronts.{agree_first, met_both}
use Rattle.dep_paths.proofs.Prefix.{agree_back}
use Rattle.op_network.specs.declared.edge.Parts.{Parts}
use Rattle.score_table.specs.Runs.{AreMarks, IsMark}

-- ---- truths of a list, each of which says whether something holds of an item

abbrev pub AreTruths : {X : Type 0} → (X → Type 0) → List X → List Bool → Type 0
AreTruths {X} P xs truths = AllZip (λ (x : X) (truth : Bool). IsTrue truth ↔ P x) xs truths

same_truth : (a b : Bool) → (IsTrue a → IsTrue b) → (IsTrue b → IsTrue a) → a ≡ b
same_truth true true to from = refl
same_truth true false to from = sym (to refl)
same_truth false true to from = from refl
same_truth false false to from = refl

-- they are determined
pub one_truths : {X : Type 0} (P : X → Type 0) (xs : List X) (a b : List Bool) → AreTruths P xs a → AreTruths P xs b → a ≡ b
one_truths P [] [] [] h k = refl
one_truths P [] [] (v ∷ b) h k = absurd k
one_truths P [] (u ∷ a) b h k = absurd h
one_truths P (x ∷ xs) [] b h k = absurd h
one_truths P (x ∷ xs) (u ∷ a) [] h k = absurd k
one_truths P (x ∷ xs) (u ∷ a) (v ∷ b) h k = ap₂ (λ y l. y ∷ l) (same_truth u v (λ t. k.0.1 (h.0.0 t)) (λ t. h.0.1 (k.0.0 t))) (one_truths P xs a b h.1 k.1)

pub truths_long : {X : Type 0} (P : X → Type 0) (xs : List X) (truths : List Bool) → AreTruths P xs truths → length truths ≡ length xs
truths_long P [] [] h = refl
truths_long P [] (u ∷ a) h = absurd h
truths_long P (x ∷ xs) [] h = absurd h
truths_long P (x ∷ xs) (u ∷ a) h = ap suc (truths_long P xs a h.1)

pub truth_at : {X : Type 0} (P : X → Type 0) (xs : List X) (truths : List Bool) (k : ℕ) (x : X) → AreTruths P xs truths → slice_get xs k ≡ Some x → IsTrue (get_or truths k false) ↔ P x
truth_at P [] truths k x h there = absurd (cc)
truth_at P (y ∷ xs) [] k x h there = absurd h
truth_at P (y ∷ xs) (u ∷ a) zero x h there = subst (λ z. IsTrue u ↔ P z) (let same : y ≡ x = cc in same) h.0
truth_at P (y ∷ xs) (u ∷ a) (suc k) x h there = truth_at P xs a k x h.1 there

pub truths_from : {X : Type 0} (P : X → Type 0) (xs : List X) (truths : List Bool) → length truths ≡ length xs → ((k : ℕ) (x : X) → slice_get xs k ≡ Some x → IsTrue (get_or truths k false) ↔ P x) → AreTruths P xs truths
truths_from P [] [] long each = tt
truths_from P [] (u ∷ a) long each = absurd (omega (arith, long))
truths_from P (x ∷ xs) [] long each = absurd (omega (arith, long))
truths_from P (x ∷ xs) (u ∷ a) long each = (each 0 x refl, truths_from P xs a (omega (arith, long)) (λ k y there. each (suc k) y there))

-- nothing holds of any
pub no_truths : {X : Type 0} (P : X → Type 0) (xs : List X) → ((x : X) → P x → ⊥) → AreTruths P xs (replicate (length xs) false)
no_truths P [] none = tt
no_truths P (x ∷ xs) none = ((λ no. absurd (cc), λ p. absurd (none x p)), no_truths P xs none)

-- ---- marks

pub one_marks : (parts : Parts) (plan : Planned) (run : KeptRun) (a b : List Bool) → AreMarks parts plan run a → AreMarks parts plan run b → a ≡ b
one_marks parts plan run a b h k = one_truths (Covers parts plan run) plan.duties a b h k

pub marks_long : (parts : Parts) (plan : Planned) (run : KeptRun) (marks : List Bool) → AreMarks parts plan run marks → length marks ≡ length plan.duties
marks_long parts plan run marks h = truths_long (Covers parts plan run) plan.duties marks h

pub mark_at : (parts : Parts) (plan : Planned) (run : KeptRun) (marks : List Bool) (k : ℕ) (duty : Obligation) → AreMarks parts plan run marks → slice_get plan.duties k ≡ Some duty → IsMark parts plan run duty (get_or marks k false)
mark_at parts plan run marks k duty h there = truth_at (Covers parts plan run) plan.duties marks k duty h there

-- a run of which no instant counts
pub no_marks : (parts : Parts) (plan : Planned) (frames : Frames) → AreMarks parts plan (record { frames = frames; kept = 0 }) (replicate (length plan.duties) false)
no_marks parts plan frames =
    let run : KeptRun = record { frames = frames; kept = 0 } in
    no_truths (Covers parts plan run) plan.duties (λ duty c. let counts = c.counts in omega (arith, counts))

-- ---- one instant more

abbrev pub up_to : Frames → ℕ → KeptRun
up_to frames t = record { frames = frames; kept = t }

-- what is met at the instant, by the frames up to it
abbrev pub MetAt : Parts → Planned → Frames → ℕ → Obligation → Type 0
MetAt parts plan frames t duty = Met parts plan (take (t + 1) frames) duty t

met_front : (parts : Parts) (plan : Planned) (frames : Frames) (t : ℕ) (duty : Obligation) → Met parts plan frames duty t → MetAt parts plan frames t duty
met_front parts plan frames t duty met = met_both parts plan frames (take (t + 1) frames) duty (t + 1) t (agree_back (take (t + 1) frames) frames (t + 1) (agree_first frames (t + 1))) (omega arith) met

met_whole : (parts : Parts) (plan : Planned) (frames : Frames) (t : ℕ) (duty : Obligation) → MetAt parts plan frames t duty → Met parts plan frames duty t
met_whole parts plan frames t duty met = met_both parts plan (take (t + 1) frames) frames duty (t + 1) t (agree_first frames (t + 1)) (omega arith) met

covered_before : (parts : Parts) (plan : Planned) (frames : Frames) (t : ℕ) (duty : Obligation) → Covers parts plan (up_to frames (t + 1)) duty → Covers parts plan (up_to frames t) duty ⊎ MetAt parts plan frames t duty
covered_before parts plan frames t duty c = elim (cases_lt c.instant t) [
  | inl before ↦ inl (record { instant = c.instant; counts = before; met = c.met })
  | inr past ↦
      let counts = c.counts in
      let last : c.instant ≡ t = omega (arith, counts, past) in
      inr (met_front parts plan frames t duty (subst (Met parts plan frames duty) last c.met))
]

covered_after : (parts : Parts) (plan : Planned) (frames : Frames) (t : ℕ) (duty : Obligation) → Covers parts plan (up_to frames t) duty ⊎ MetAt parts plan frames t duty → Covers parts plan (up_to frames (t + 1)) duty
covered_after parts plan frames t duty either = elim either [
  | inl c ↦ record { instant = c.instant; counts = let counts = c.counts in omega (arith, counts); met = c.met }
  | inr met ↦ record { instant = t; counts = omega arith; met = met_whole parts plan frames t duty met }
]

-- the marks after one instant more
pub marks_more : (parts : Parts) (plan : Planned) (frames : Frames) (t : ℕ) (marks marks' : List Bool) → AreMarks parts plan (up_to frames t) marks → length marks' ≡ length plan.duties
    → ((k : ℕ) (duty : Obligation) → slice_get plan.duties k ≡ Some duty → IsTrue (get_or marks' k false) ↔ (IsTrue (get_or marks k false) ⊎ MetAt parts plan frames t duty))
    → AreMarks parts plan (up_to frames (t + 1)) marks'
marks_more parts plan frames t marks marks' h long each =
    truths_from (Covers parts plan (up_to frames (t + 1))) plan.duties marks' long (λ k duty there.
    let before = mark_at parts plan (up_to frames t) marks k duty h there in
    let now = each k duty there in (
      λ is. covered_after parts plan frames t duty (elim (now.0 is) [ inl old ↦ inl (before.0 old) | inr met ↦ inr met ]),
      λ c. now.1 (elim (covered_before parts plan frames t duty c) [ inl old ↦ inl (before.1 old) | inr met ↦ inr met ]),
    ))
