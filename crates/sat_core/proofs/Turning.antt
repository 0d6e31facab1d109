-- The trail after a clause was learnt.
use Rattle.std.proofs.Common.{◌≡◌, ℕ, ◌+◌, ◌^◌, ◌<◌, ◌≤◌, ◌≢◌, ℤ, Bool, true, false, List, [], ◌∷◌, ◌++◌, take, length, map, Option, Some, None, refl, sym, ap, ◌∙◌, subst, ◌⊎◌, inl, inr, arith, true≢false, length-append, length-take, get_or-take, append_assoc}
use Rattle.std.proofs.lemmas.Bool.{cases_lt, false_from_ne_true}
use Rattle.std.proofs.lemmas.List.{map_push, get_or_append_left, length_push, take-take, get_or_push}
use Rattle.std.proofs.lemmas.Option.{same_Some, none-some}
use Rattle.cnf_form.specs.declared.lit.Lit.{Lit}
use Rattle.cnf_form.specs.Lits.{same, turned, no_twice, below}
use Rattle.cnf_form.specs.Marks.{marks_of}
use Rattle.cnf_form.proofs.LitFacts.{same-refl, turned_var, turned-turned}
use Rattle.proof_check.specs.declared.step.ProofStep.{ProofStep}
use Rattle.proof_check.specs.declared.step.ProofStep.TheVariants.{Put}
use Rattle.proof_check.specs.Check.{numbered}
use Rattle.proof_check.specs.Spent.{IsIdle, IsResolvent}
use Rattle.sat_core.specs.declared.trail.Entry.{Entry}
use Rattle.sat_core.specs.declared.trail.Trail.{Trail}
use Rattle.sat_core.specs.Solving.{entries_of, vars_of, weight, IsFree, IsSolving}
use Rattle.sat_core.specs.declared.lesson.Lesson.{Lesson}
use Rattle.sat_core.specs.Conflicts.{HasWalked, IsPart, IsCut, IsLastDecision, IsLesson}
use Rattle.sat_core.specs.Logs.{HasLearnt}
use Rattle.sat_core.specs.Trail.{no_entry, lit_at, reason_at, lits, clause, place_of, clauses_of, put_clause, is_false, IsReason, IsTrail, IsWell}
use Rattle.sat_core.proofs.ClauseFacts.{length-clauses}
use Rattle.sat_core.proofs.Counting.{placed-few}
use Rattle.sat_core.proofs.Learning.{learnt-good, learnt-resolvent, learnt-new}
use Rattle.sat_core.proofs.Measure.{weigh-turn}
use Rattle.sat_core.proofs.Opens.{two_many}
use Rattle.sat_core.proofs.Trails.{in-before, Trail-cut, Trail-more, Trail-push}

pub option_cases : {A : Type 0} (o : Option A) → (o ≡ None) ⊎ ((x : A) × (o ≡ Some x))
option_cases None = inl refl
option_cases (Some x) = inr (x, refl)

module _ (vars : ℕ) (cs : List (List Lit)) (t : List Entry) (from stop cut : ℕ) (seen : List Bool) (hs : List ℤ) (c : List Lit) (trail : IsTrail vars cs t) (walked : HasWalked cs t from stop seen hs) (learnt : IsPart t (stop + 1) seen c) (lt : from < length t) (cutting : IsCut t seen from cut) where
  -- what stands at k isn't false before i
  open_at : (i k : ℕ) → i ≤ k → k < length t → is_false (lits (take i t)) (turned (lit_at t k)) ≡ false
  open_at i k le lk = false_from_ne_true _ (λ h. (let w = in-before t i (turned (turned (lit_at t k))) h in
      trail.apart k w.0 lk (let l = w.1 in omega arith) (ap (λ (y : Lit). y.var) (sym w.3) ∙ ap (λ (y : Lit). y.var) (turned-turned (lit_at t k)))))

  -- propagation does nothing at the clause at each decision that stays
  stays : (i : ℕ) → i < length (take cut t) → reason_at (take cut t) i ≡ None → IsIdle (marks_of (lits (take i (take cut t)))) c
  stays i li d =
      let ln = length-take cut t in
      let ic : i < cut = omega arith in
      let dd : reason_at t i ≡ None = sym (ap (λ (e : Entry). e.reason) (get_or-take cut t i no_entry ic)) ∙ d in
      let w = cutting.least i ic dd in
      let low = walked.low in let high = walked.high in
      let le : i ≤ cut = omega arith in
      let ik = w.1 in let kf = w.2 in
      let ne : turned (lit_at t w.0) ≡ turned (lit_at t stop) → ⊥ = λ q. trail.apart stop w.0 high (omega arith) (sym (turned_var (lit_at t w.0)) ∙ (ap (λ (y : Lit). y.var) q ∙ turned_var (lit_at t stop))) in
      rw (take-take i cut t le) (inr (two_many (is_false (lits (take i t))) c (turned (lit_at t w.0)) (turned (lit_at t stop)) (learnt.all w.0 (omega arith) w.3) (learnt.all stop (omega arith) walked.here) ne (open_at i w.0 ik (omega arith)) (open_at i stop (let l = cutting.low in omega arith) high)))

  abbrev pub turn_entry : Entry
  turn_entry = record { lit = turned (lit_at t stop); reason = Some (length cs) }

  pub turn-trail : IsTrail vars (cs ++ c ∷ []) (take cut t ++ turn_entry ∷ [])
  turn-trail =
      let ln = length-take cut t in
      let low = walked.low in let high = walked.high in let cl = cutting.low in
      let len : length (take cut t) ≡ cut = omega arith in
      let v = turned_var (lit_at t stop) in
      let tk : (k : ℕ) → k < cut → lit_at (take cut t) k ≡ lit_at t k = λ k lk. ap (λ (e : Entry). e.lit) (get_or-take cut t k no_entry lk) in
      let at_new : clause (cs ++ c ∷ []) (length cs) ≡ c = get_or_push cs c [] (length cs) refl in
      Trail-push vars (cs ++ c ∷ []) (take cut t) turn_entry
      (Trail-more vars cs (take cut t) c (Trail-cut vars cs t cut trail) stays)
      (rw v (trail.within stop high))
      (λ k lk. rw (tk k (omega arith), v) (trail.apart stop k high (omega arith)))
      (λ r e. (let q : r ≡ length cs = sym (same_Some (length cs) r e) in
      subst (λ n. IsReason (cs ++ c ∷ []) (lit_at (take cut t)) (length (take cut t)) (turned (lit_at t stop)) n) (sym q) (record {
        inside = simp length-append (omega arith);
        there = rw at_new (learnt.all stop (omega arith) walked.here);
        others = λ x i s. (let j = (rw at_new at i) in
            let w = learnt.from x j in
            let ws = w.1 in
            let ne : w.0 ≢ stop = λ z. true≢false (sym (same-refl (turned (lit_at t stop))) ∙ (ap (λ y. same y (turned (lit_at t stop))) (sym (w.2 ∙ ap (λ k. turned (lit_at t k)) z)) ∙ s)) in
            let lc : w.0 < cut = elim (cases_lt w.0 cut) [
              | inl l ↦ l
              | inr l ↦ elim (cases_lt w.0 from) [
                | inl m ↦ absurd (true≢false (sym w.3 ∙ cutting.clear w.0 l m))
                | inr m ↦ absurd (true≢false (sym w.3 ∙ walked.alone w.0 m ne))
              ]
            ] in
            (w.0, omega arith, w.2 ∙ ap turned (sym (tk w.0 lc))));
      })))
      (λ e. absurd (none-some (length cs) (sym e)))

-- ---- all that a turn of the solver keeps

pub clauses-push : (f : List (List Lit)) (log : List ProofStep) (s : ProofStep) → clauses_of f (log ++ s ∷ []) ≡ clauses_of f log ++ put_clause s ∷ []
clauses-push f log s = ap (λ cs. f ++ cs) (map_push put_clause log s) ∙ sym (append_assoc f (map put_clause log) (put_clause s ∷ []))

well-push : (vars : ℕ) (cs : List (List Lit)) (c : List Lit) → IsWell vars cs → no_twice c ≡ true → below vars c ≡ true → IsWell vars (cs ++ c ∷ [])
well-push vars cs c w o b =
    let first : (r : ℕ) → r < length cs → clause (cs ++ c ∷ []) r ≡ clause cs r = λ r lt. get_or_append_left cs (c ∷ []) [] r lt in
    let last : (r : ℕ) → r ≡ length cs → clause (cs ++ c ∷ []) r ≡ c = λ r e. get_or_push cs c [] r (sym e) in
    let len : (r : ℕ) → r < length (cs ++ c ∷ []) → (r < length cs) ⊎ (r ≡ length cs) = λ r h. (let l = length_push cs c in elim (cases_lt r (length cs)) [ inl a ↦ inl a | inr a ↦ inr (omega arith) ]) in
    record {
      once = λ r h. elim (len r h) [ inl a ↦ rw (first r a) (w.once r a) | inr a ↦ rw (last r a) o ];
      inside = λ r h. elim (len r h) [ inl a ↦ rw (first r a) (w.inside r a) | inr a ↦ rw (last r a) b ];
    }

module _ (f : List (List Lit)) (log : List ProofStep) (trail : Trail) (from : ℕ) (lesson : Lesson) (s : IsSolving f log trail) (last : IsLastDecision (entries_of trail) from) (w : IsLesson (clauses_of f log) (entries_of trail) from lesson) where
  abbrev t : List Entry
  t = entries_of trail

  abbrev pub next_entry : Entry
  next_entry = record { lit = lesson.lit; reason = Some (length f + length log) }

  abbrev pub next_log : List ProofStep
  next_log = log ++ Put (length f + length log + 1) lesson.clause lesson.hints ∷ []

  pub resolvent : IsResolvent (vars_of trail) (numbered (clauses_of f log)) lesson.clause lesson.hints
  resolvent = learnt-resolvent (vars_of trail) (clauses_of f log) t from w.stop w.seen lesson.hints lesson.clause s.is_trail w.walked w.part

  lit_var : lesson.lit.var ≡ (lit_at t w.stop).var
  lit_var = ap (λ (y : Lit). y.var) w.lit_is ∙ turned_var (lit_at t w.stop)

  cut_inside : lesson.cut < length t
  cut_inside = let a = w.cutting.low in let b = last.inside in omega arith

  pub next-inside : lesson.lit.var < vars_of trail
  next-inside = rw lit_var (s.is_trail.within w.stop w.walked.high)

  pub next-free : (cut : Trail) → entries_of cut ≡ take lesson.cut t → IsFree cut lesson.lit
  next-free cut e = elim (option_cases (place_of cut.places.items lesson.lit)) [
    | inl q ↦ q
    | inr q ↦
        let placed = (rw e at cut.placed) in
        let at_place = placed.to lesson.lit q.0 q.1 in
        let inside = at_place.0 in
        let ln = length-take lesson.cut t in
        let low = w.walked.low in let cl = w.cutting.low in
        let tk : lit_at (take lesson.cut t) q.0 ≡ lit_at t q.0 = ap (λ (e : Entry). e.lit) (get_or-take lesson.cut t q.0 no_entry (omega arith)) in
        absurd (s.is_trail.apart w.stop q.0 w.walked.high (omega arith) (sym (ap (λ (y : Lit). y.var) tk) ∙ (at_place.1 ∙ lit_var)))
  ]

  pub next-learnt : HasLearnt (vars_of trail) f log next_log
  next-learnt = record {
    clause = lesson.clause;
    hints = lesson.hints;
    step = refl;
    accepted = (learnt-good (vars_of trail) (clauses_of f log) t from w.stop w.seen lesson.hints lesson.clause s.is_trail w.walked w.part).accepted;
    resolvent = resolvent;
    fresh = learnt-new (vars_of trail) (clauses_of f log) t from w.stop w.seen lesson.hints lesson.clause s.is_trail w.walked w.part last.inside last.decided;
  }

  module _ (new : Trail) (entries : entries_of new ≡ take lesson.cut t ++ next_entry ∷ []) (vars : vars_of new ≡ vars_of trail) where
    pub next-solving : length f + length log + 2 < 2 ^ 32 → IsSolving f next_log new
    next-solving room =
        let e = clauses-push f log (Put (length f + length log + 1) lesson.clause lesson.hints) in
        let n = length-clauses f log in
        record {
          few = (let l = length_push log (Put (length f + length log + 1) lesson.clause lesson.hints) in omega arith);
          well = rw (vars, e) (well-push (vars_of trail) (clauses_of f log) lesson.clause s.well w.part.once resolvent.inside);
          is_trail = rw (vars, entries, e, ← n, w.lit_is) (turn-trail (vars_of trail) (clauses_of f log) t from w.stop lesson.cut w.seen lesson.hints lesson.clause s.is_trail w.walked w.part last.inside w.cutting);
        }

    pub next-nearer : weight trail < weight new
    next-nearer = rw (vars, entries) (weigh-turn (vars_of trail) t lesson.cut next_entry (length f + length log) cut_inside (placed-few (vars_of trail) t trail.places.items trail.placed) w.cutting.decided refl)
