-- The literals of a path tell where it is active.
use Rattle.std.proofs.Common.{◌≡◌, ℕ, zero, suc, ◌+◌, ◌<◌, ◌≤◌, Bool, true, false, ◌&&◌, List, [], ◌∷◌, length, refl, sym, ap, ◌∙◌, arith, Option, Some, None}
use Rattle.std.specs.Prelude.{slice_get}
use Rattle.std.specs.Option.{option_map, option_map_or}
use Rattle.cnf_form.specs.declared.lit.Lit.{Lit}
use Rattle.cnf_form.specs.Lits.{truth}
use Rattle.op_network.specs.declared.edge.Edge.{Edge}
use Rattle.op_network.specs.declared.edge.Parts.{Parts}
use Rattle.op_network.specs.Valid.{IsValid}
use Rattle.bit_blast.specs.Circuit.{after, yes}
use Rattle.bit_blast.proofs.Values.{Obeys}
use Rattle.bit_blast.proofs.Circuits.{obeys_parts, truth-yes}
use Rattle.unroll_cnf.specs.Laws.{frame_of}
use Rattle.unroll_cnf.specs.Unrolled.{Table, only}
use Rattle.dep_paths.specs.declared.path.Path.{Path}
use Rattle.dep_paths.specs.declared.path.Pin.{Pin}
use Rattle.dep_paths.specs.declared.path.Step.{Step}
use Rattle.dep_paths.specs.Activation.{Frames, frame_at, is_pinned, enters, is_active}
use Rattle.goal_cnf.specs.Activity.{lit_at, pin_circuit, place_circuit, steps_circuit, path_circuit}
use Rattle.goal_cnf.proofs.Places.{and_swap, AllSized, PinsFit, TellsBefore, pin_law, place_law}

-- the literals from a place on tell where the path up to there is active
abbrev pub TellsFrom : List Edge → Frames → Path → Option Pin → (ℕ → Bool) → ℕ → ℕ → List Lit → Type 0
TellsFrom edges frames p pin v t j [] = Unit {0}
TellsFrom edges frames p pin v t j (l ∷ ls) = (truth v l ≡ is_active edges frames p pin j t) × TellsFrom edges frames p pin v t (suc j) ls

-- the literals of all places do
abbrev pub Tells : List Edge → Frames → Path → Option Pin → (ℕ → Bool) → ℕ → List Lit → Type 0
Tells edges frames p pin v t ls = (j : ℕ) → j ≤ length p.steps → truth v (lit_at ls j) ≡ is_active edges frames p pin j t

-- those of the instant before do; at instant 0 there are none
abbrev pub PastTells : List Edge → Frames → Path → Option Pin → (ℕ → Bool) → ℕ → Option (List Lit) → Type 0
PastTells edges frames p pin v zero None = Unit {0}
PastTells edges frames p pin v zero (Some ls) = ⊥
PastTells edges frames p pin v (suc t) None = ⊥
PastTells edges frames p pin v (suc t) (Some ls) = Tells edges frames p pin v t ls

past_at : (edges : List Edge) (frames : Frames) (p : Path) (pin : Option Pin) (v : ℕ → Bool) (t j : ℕ) (before : Option (List Lit)) → j ≤ length p.steps → PastTells edges frames p pin v t before →
    TellsBefore v (λ u. is_active edges frames p pin j u) t (option_map (λ (ls : List Lit). lit_at ls j) before)
past_at edges frames p pin v zero j None le b = tt
past_at edges frames p pin v zero j (Some ls) le b = absurd b
past_at edges frames p pin v (suc t) j None le b = absurd b
past_at edges frames p pin v (suc t) j (Some ls) le b = b j le

tells_at : (edges : List Edge) (frames : Frames) (p : Path) (pin : Option Pin) (v : ℕ → Bool) (t j : ℕ) (ls : List Lit) (i : ℕ) → TellsFrom edges frames p pin v t j ls → i < length ls → truth v (lit_at ls i) ≡ is_active edges frames p pin (j + i) t
tells_at edges frames p pin v t j [] i h lt = absurd (omega arith)
tells_at edges frames p pin v t j (l ∷ ls) zero h lt = let e : j ≡ j + 0 = omega arith in h.0 ∙ ap (λ k. is_active edges frames p pin k t) e
tells_at edges frames p pin v t j (l ∷ ls) (suc i) h lt =
    let e : suc j + i ≡ j + suc i = omega arith in
    tells_at edges frames p pin v t (suc j) ls i h.1 (omega arith) ∙ ap (λ k. is_active edges frames p pin k t) e

active_start : (edges : List Edge) (frames : Frames) (p : Path) (pin : Option Pin) (t : ℕ) → is_pinned pin 0 p.start frames t ≡ is_active edges frames p pin 0 t
unfolding is_active
active_start edges frames p pin t = refl

active_step : (edges : List Edge) (frames : Frames) (p : Path) (pin : Option Pin) (j t : ℕ) (s : Step) → slice_get p.steps j ≡ Some s → enters edges pin (suc j) frames (λ u. is_active edges frames p pin j u) t s ≡ is_active edges frames p pin (suc j) t
unfolding is_active
active_step edges frames p pin j t s is = ap (λ (o : Option Step). option_map_or (enters edges pin (suc j) frames (λ u. is_active edges frames p pin j u) t) o false) (sym is)

pub length_steps : (n : ℕ) (edges : List Edge) (pin : Option Pin) (j : ℕ) (now : Table) (shorter : Lit) (before : Option (List Lit)) (steps : List Step) → length (steps_circuit n edges pin j now shorter before steps).result ≡ length steps
length_steps n edges pin j now shorter before [] = refl
length_steps n edges pin j now shorter before (s ∷ steps) =
    let one = place_circuit n edges pin j s now shorter before in
    ap suc (length_steps (after n one.entries) edges pin (suc j) now one.result before steps)

module _ (parts : Parts) (valid : IsValid parts) (v : ℕ → Bool) (one_true : v 0 ≡ true) (now : Table) (sized : AllSized parts now) (frames : Frames) (t : ℕ) (here : frame_at frames t ≡ frame_of parts v now) (pin : Option Pin) (p : Path) (fits : PinsFit parts pin p) where
  steps_law : (n j : ℕ) (shorter : Lit) (before : Option (List Lit)) (steps : List Step) → j + length steps ≡ length p.steps → ((i : ℕ) → slice_get steps i ≡ slice_get p.steps (j + i)) →
      truth v shorter ≡ is_active parts.edges frames p pin j t → PastTells parts.edges frames p pin v t before → Obeys v n (steps_circuit n parts.edges pin j now shorter before steps).entries →
      TellsFrom parts.edges frames p pin v t (suc j) (steps_circuit n parts.edges pin j now shorter before steps).result
  steps_law n j shorter before [] long same h b o = tt
  steps_law n j shorter before (s ∷ steps) long same h b o =
      let one = place_circuit n parts.edges pin j s now shorter before in
      let rest = steps_circuit (after n one.entries) parts.edges pin (suc j) now one.result before steps in
      let q = obeys_parts v n one.entries rest.entries o in
      let at : j + 0 ≡ j = omega arith in
      let is : slice_get p.steps j ≡ Some s = ap (slice_get p.steps) (sym at) ∙ sym (same 0) in
      let le : j ≤ length p.steps = omega arith in
      let own : truth v one.result ≡ is_active parts.edges frames p pin (suc j) t =
      place_law parts v now sized one_true frames t here valid n pin (suc j) s (slice_get parts.edges s.edge.0) (λ u. is_active parts.edges frames p pin j u) shorter
      (option_map (λ (ls : List Lit). lit_at ls j) before) refl (fits.later j s is) h (past_at parts.edges frames p pin v t j before le b) q.0
      ∙ active_step parts.edges frames p pin j t s is in (
        own,
        steps_law (after n one.entries) (suc j) one.result before steps (omega arith)
            (λ i. let e : j + suc i ≡ suc j + i = omega arith in same (suc i) ∙ ap (slice_get p.steps) e)
            own b q.1,
      )

  pub path_law : (n : ℕ) (before : Option (List Lit)) → PastTells parts.edges frames p pin v t before → Obeys v n (path_circuit n parts.edges pin p now before).entries →
      Tells parts.edges frames p pin v t (path_circuit n parts.edges pin p now before).result
  path_law n before b o j le =
      let one = pin_circuit n pin 0 (only (now p.start.0)) (yes 0) in
      let rest = steps_circuit (after n one.entries) parts.edges pin 0 now one.result before p.steps in
      let q = obeys_parts v n one.entries rest.entries o in
      let first : truth v one.result ≡ is_active parts.edges frames p pin 0 t =
      pin_law parts v now sized one_true frames t here n pin 0 p.start (yes 0) fits.first q.0
      ∙ (and_swap (is_pinned pin 0 p.start frames t) (truth v (yes 0))
      ∙ (ap (λ x. x && is_pinned pin 0 p.start frames t) (truth-yes v 0 ∙ one_true)
      ∙ active_start parts.edges frames p pin t)) in
      let later = steps_law (after n one.entries) 0 one.result before p.steps (omega arith) (λ i. let e : i ≡ 0 + i = omega arith in ap (slice_get p.steps) e) first b q.1 in
      let e : 0 + j ≡ j = omega arith in
      tells_at parts.edges frames p pin v t 0 (one.result ∷ rest.result) j (first, later) (omega (arith, length_steps (after n one.entries) parts.edges pin 0 now one.result before p.steps))
      ∙ ap (λ k. is_active parts.edges frames p pin k t) e
