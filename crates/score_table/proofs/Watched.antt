-- What a watch tells of the last instant of a run.
use Rattle.std.proofs.Common.{◌≡◌, ◌≢◌, ◌↔◌, inl, inr, ℕ, ◌+◌, ◌-◌, ◌<◌, ◌≤◌, Bool, true, false, List, [], ◌∷◌, length, get_or, refl, sym, ap, subst, ◌∙◌, arith}
use Rattle.std.specs.Prelude.{Option, Some, IsSome, IsTrue, slice_get}
use Rattle.std.proofs.lemmas.Bool.{cases_lt}
use Rattle.std.proofs.lemmas.Option.{slice_get-get_or, slice_get_within}
use Rattle.activation.specs.Acts.{HasGoal, IsMadeFor, Kept, StandsFor, TellsMet, place_of}
use Rattle.dep_paths.specs.declared.path.Condition.{Condition}
use Rattle.dep_paths.specs.declared.path.Obligation.{Obligation}
use Rattle.dep_paths.specs.declared.path.Obligation.TheVariants.{Bc, Ecc, Mcc, Omc}
use Rattle.dep_paths.specs.declared.path.Pin.{Pin}
use Rattle.dep_paths.specs.Activation.{Frames, activates}
use Rattle.dep_paths.specs.Duties.{Planned}
use Rattle.dep_paths.specs.Observed.{IsObserved}
use Rattle.lus_causality.proofs.Frames.{found_at}
use Rattle.omcdc_tags.specs.Tags.{TellsObserved}
use Rattle.op_network.specs.declared.edge.Parts.{Parts}
use Rattle.score_table.specs.declared.watch.Watch.{Watch}
use Rattle.score_table.specs.Watching.{MarksLast, MetLast, TellsMetLast, Watches}

-- it is made for the plan still
pub made_still : (plan : Planned) (old new : Kept) → new.tree ≡ old.tree → new.goals ≡ old.goals → IsMadeFor plan old → IsMadeFor plan new
made_still plan old new tree goals h = record {
  size = ap length goals ∙ h.size;
  goals = λ o duty there.
      subst (λ (l : List (Option ℕ)). HasGoal new.tree l plan.paths duty o) (sym goals)
      (subst (λ t. HasGoal t old.goals plan.paths duty o) (sym tree) (h.goals o duty there));
}

pub last : (frames : Frames) → frames ≢ [] → length frames ≡ (length frames - 1) + 1
last [] some = absurd (some refl)
last (frame ∷ frames) some = omega arith

-- the obligation that was read
pub read : (duties duties' : List Obligation) (o : ℕ) (d duty : Obligation) → duties' ≡ duties → o < length duties → get_or duties' o d ≡ duty → slice_get duties o ≡ Some duty
read duties duties' o d duty same within is = slice_get-get_or duties o d within ∙ ap Some (ap (λ (l : List Obligation). get_or l o d) (sym same) ∙ is)

one_duty : (a b : Obligation) → Some a ≡ Some b → a ≡ b
one_duty a b same = cc

-- an answer for the obligation at a place
pub tells_of : (parts : Parts) (plan : Planned) (frames : Frames) (o : ℕ) (duty : Obligation) (answer : Bool) → slice_get plan.duties o ≡ Some duty → IsTrue answer ↔ MetLast parts plan frames duty → TellsMetLast parts plan frames o answer
tells_of parts plan frames o duty answer there tells = λ other found. subst (λ (d : Obligation). IsTrue answer ↔ MetLast parts plan frames d) (one_duty duty other (sym there ∙ found)) tells

by_equation : (a b : Bool) → a ≡ b → IsTrue a ↔ IsTrue b
by_equation a b same = (λ t. sym same ∙ t, λ t. same ∙ t)

-- the answer for an obligation on a path
activated : (parts : Parts) (plan : Planned) (frames : Frames) (acts : Kept) (o : ℕ) (duty : Obligation) (answer : Bool) → TellsMet acts o answer → IsMadeFor plan acts → StandsFor parts.edges frames acts → frames ≢ []
    → slice_get plan.duties o ≡ Some duty → IsSome (place_of duty) → IsTrue answer ↔ IsTrue (activates parts.edges plan.paths frames duty (length frames - 1))
activated parts plan frames acts o duty answer tells made stands some there on_path =
    by_equation answer (activates parts.edges plan.paths frames duty (length frames - 1)) (tells parts.edges plan frames (length frames - 1) duty made stands (last frames some) there on_path)

pub told_path : (parts : Parts) (plan : Planned) (frames : Frames) (watch : Watch) (o path : ℕ) (answer : Bool) → TellsMet watch.acts o answer → Watches parts plan frames watch → frames ≢ [] → slice_get plan.duties o ≡ Some (Bc path) → TellsMetLast parts plan frames o answer
told_path parts plan frames watch o path answer tells w some there =
    tells_of parts plan frames o (Bc path) answer there (activated parts plan frames watch.acts o (Bc path) answer tells w.made.paths w.active some there refl)

pub told_elementary : (parts : Parts) (plan : Planned) (frames : Frames) (watch : Watch) (o path : ℕ) (value : Option Bool) (answer : Bool) → TellsMet watch.acts o answer → Watches parts plan frames watch → frames ≢ [] → slice_get plan.duties o ≡ Some (Ecc path value) → TellsMetLast parts plan frames o answer
told_elementary parts plan frames watch o path value answer tells w some there =
    tells_of parts plan frames o (Ecc path value) answer there (activated parts plan frames watch.acts o (Ecc path value) answer tells w.made.paths w.active some there refl)

pub told_multiple : (parts : Parts) (plan : Planned) (frames : Frames) (watch : Watch) (o path : ℕ) (pin : Option Pin) (answer : Bool) → TellsMet watch.acts o answer → Watches parts plan frames watch → frames ≢ [] → slice_get plan.duties o ≡ Some (Mcc path pin) → TellsMetLast parts plan frames o answer
told_multiple parts plan frames watch o path pin answer tells w some there =
    tells_of parts plan frames o (Mcc path pin) answer there (activated parts plan frames watch.acts o (Mcc path pin) answer tells w.made.paths w.active some there refl)

-- the answer for a condition of the plan
one_condition : (a b : Condition) → Some a ≡ Some b → a ≡ b
one_condition a b same = cc

pub told_observed : (parts : Parts) (plan : Planned) (frames : Frames) (watch : Watch) (i : ℕ) (value answer : Bool) → TellsObserved watch.tags i value answer → Watches parts plan frames watch → frames ≢ [] → i < length plan.conditions → IsTrue answer ↔ MetLast parts plan frames (Omc i value)
told_observed parts plan frames watch i value answer tells w some within =
    let t = length frames - 1 in
    let found = found_at plan.conditions i within in
    let told = tells parts plan frames t found.0 w.made.conditions w.observed (last frames some) found.1 in (
      λ is. record { condition = found.0; listed = found.1; observed = told.0 is },
      λ met. told.1 (subst (λ (c : Condition). IsObserved parts frames (record { condition = c; value = value }) t) (one_condition met.condition found.0 (sym met.listed ∙ found.1)) met.observed),
    )

-- and for one that the plan lacks
pub told_lacking : (parts : Parts) (plan : Planned) (frames : Frames) (i : ℕ) (value answer : Bool) → length plan.conditions ≤ i → answer ≡ false → IsTrue answer ↔ MetLast parts plan frames (Omc i value)
told_lacking parts plan frames i value answer past lacks = (
  λ is. absurd (cc),
  λ met. let within = slice_get_within plan.conditions i met.condition met.listed in absurd (omega (arith, within, past)),
)

-- ---- marks

pub marked_now : (parts : Parts) (plan : Planned) (frames : Frames) (o : ℕ) (old : Bool) → TellsMetLast parts plan frames o true → MarksLast parts plan frames o old true
marked_now parts plan frames o old tells duty there = (λ t. inr ((tells duty there).0 refl), λ either. refl)

pub not_marked : (parts : Parts) (plan : Planned) (frames : Frames) (o : ℕ) (old : Bool) → TellsMetLast parts plan frames o false → MarksLast parts plan frames o old old
not_marked parts plan frames o old tells duty there = (
  λ t. inl t,
  λ either. elim either [ inl t ↦ t | inr met ↦ let is = (tells duty there).1 met in absurd (cc) ],
)

-- the marks up to a place, with that at the place
pub marked_up_to : (parts : Parts) (plan : Planned) (frames : Frames) (o k : ℕ) (first old new : List Bool) → ((j : ℕ) → j < o → MarksLast parts plan frames j (get_or first j false) (get_or old j false)) → ((j : ℕ) → o ≤ j → get_or old j false ≡ get_or first j false)
    → MarksLast parts plan frames o (get_or old o false) (get_or new o false) → ((j : ℕ) → j ≢ o → get_or new j false ≡ get_or old j false) → k < o + 1 → MarksLast parts plan frames k (get_or first k false) (get_or new k false)
marked_up_to parts plan frames o k first old new before later now others below = elim (cases_lt k o) [
  | inl lt ↦ subst (λ bit. MarksLast parts plan frames k (get_or first k false) bit) (sym (others k (λ e. omega (arith, e, lt)))) (before k lt)
  | inr past ↦
      let last : o ≡ k = omega (arith, below, past) in
      subst (λ j. MarksLast parts plan frames j (get_or first j false) (get_or new j false)) last (subst (λ bit. MarksLast parts plan frames o bit (get_or new o false)) (later o (omega arith)) now)
]
