-- Where all variables are set and propagation does nothing, the bits of the trail satisfy the clauses.
use Rattle.std.proofs.Common.{◌≡◌, ℕ, zero, suc, ◌<◌, get_or, length, Bool, true, false, List, [], ◌∷◌, ◌++◌, Option, None, refl, sym, ap, ◌∙◌, subst, inl, inr, arith, true≢false, append-nil}
use Rattle.std.specs.Bool.{beq}
use Rattle.std.specs.List.{list_all}
use Rattle.std.proofs.lemmas.Bool.{and_from, and_parts}
use Rattle.cnf_form.specs.declared.lit.Lit.{Lit}
use Rattle.cnf_form.specs.Lits.{same, turned, is_in, no_twice, below, truth, holds, satisfies}
use Rattle.cnf_form.specs.Marks.{marks_of}
use Rattle.cnf_form.specs.Shape.{Shape, IsFormula}
use Rattle.cnf_form.proofs.LitFacts.{turned_var, turned-turned, same-refl, of_one_var, holds_by}
use Rattle.proof_check.specs.declared.step.ProofStep.{ProofStep}
use Rattle.proof_check.specs.Spent.{IsIdle, SpentLog}
use Rattle.sat_core.specs.declared.search.Ending.TheVariants.{Full}
use Rattle.sat_core.specs.declared.trail.Entry.{Entry}
use Rattle.sat_core.specs.declared.trail.Trail.{Trail}
use Rattle.sat_core.specs.Bits.{Agree}
use Rattle.sat_core.specs.Logs.{Ends, EndsLog, IsSearching}
use Rattle.sat_core.specs.Solving.{entries_of, vars_of, IsSolving}
use Rattle.sat_core.specs.Trail.{lit_at, lits, place_of, is_false, AreIdle, IsPlaced}
use Rattle.sat_core.specs.Verdicts.{IsModel, IsRefutation}
use Rattle.sat_core.proofs.LogSteps.{IsLog-of, accepted, ends_empty}
use Rattle.sat_core.proofs.Opens.{any_some, many_some, below-in}
use Rattle.sat_core.proofs.Placing.{in-some}
use Rattle.sat_core.proofs.Trails.{whole-in}
use Rattle.sat_core.proofs.Turning.{option_cases}

-- each literal of the trail is true
abbrev Agrees : (ℕ → Bool) → List Entry → Type 0
Agrees v t = (x : Lit) → is_in x (lits t) ≡ true → truth v x ≡ true

module _ (v : ℕ → Bool) (vars : ℕ) (t : List Entry) (places : List (Option ℕ)) (placed : IsPlaced vars t places) (full : (n : ℕ) → n < vars → get_or places n None ≡ None → ⊥) (agrees : Agrees v t) where
  not_false : (x : Lit) → x.var < vars → is_false (lits t) x ≡ false → is_in x (lits t) ≡ true
  not_false x lt f = elim (option_cases (place_of places x)) [
    | inl q ↦ absurd (full x.var lt q)
    | inr q ↦ elim (of_one_var (lit_at t q.0) x (placed.to x q.0 q.1).1) [
      | inl e ↦ in-some vars t places x q.0 placed q.1 ∙ (ap (same (lit_at t q.0)) (sym e) ∙ same-refl (lit_at t q.0))
      | inr e ↦
          let s = in-some vars t places (turned x) q.0 placed (ap (λ n. get_or places n None) (turned_var x) ∙ q.1) in
          let w : turned x ≡ lit_at t q.0 = ap turned (sym e) ∙ turned-turned (lit_at t q.0) in
          absurd (true≢false (sym (same-refl (lit_at t q.0)) ∙ (ap (same (lit_at t q.0)) (sym w) ∙ (sym s ∙ f))))
    ]
  ]

  clause_true : (c : List Lit) → below vars c ≡ true → IsIdle (marks_of (lits t)) c → holds v c ≡ true
  clause_true c b (inl m) = let w = any_some (lits t) c m in holds_by v c w.0 w.1 (agrees w.0 w.2)
  clause_true c b (inr m) = let w = many_some (is_false (lits t)) c m in holds_by v c w.0 w.1 (agrees w.0 (not_false w.0 (below-in vars c w.0 b w.1) w.2))

  found : (f rest : List (List Lit)) → list_all (below vars) f ≡ true → AreIdle (lits t) (f ++ rest) → satisfies v f ≡ true
  found [] rest b a = refl
  found (c ∷ cs) rest b a =
      let p = and_parts (below vars c) (list_all (below vars) cs) b in
      and_from (holds v c) _ (clause_true c p.0 a.0) (found cs rest p.1 a.1)

-- ---- the answers

beq_same : (a : Bool) → beq a a ≡ true
beq_same true = refl
beq_same false = refl

agrees_by : (bits : List Bool) (t : List Entry) → Agree bits t (length t) → Agrees (λ n. get_or bits n false) t
unfolding truth
agrees_by bits t a x i =
    let w = whole-in t x i in
    rw (w.2, a w.0 w.1) (beq_same (lit_at t w.0).positive)

pub is_model : (f : Shape) (log : List ProofStep) (trail : Trail) (budget : ℕ) (bits : List Bool) → IsFormula f → IsSearching f.clauses log trail f.vars budget
    → Ends f.clauses budget log trail Full → length bits ≡ f.vars → Agree bits (entries_of trail) (length (entries_of trail)) → IsModel f bits
is_model f log trail budget bits formula s ends whole agree =
    let size = s.size in
    record {
      whole = whole;
      satisfies = found (λ n. get_or bits n false) f.vars (entries_of trail) trail.places.items
          (subst (λ n. IsPlaced n (entries_of trail) trail.places.items) s.size trail.placed)
          (λ n lt. ends.1 n (omega arith)) (agrees_by bits (entries_of trail) agree) f.clauses _ formula.2 ends.0;
    }

pub is_refutation : (f : Shape) (log : List ProofStep) (trail : Trail) (budget : ℕ) (step : ProofStep) → IsSearching f.clauses log trail f.vars budget → EndsLog f.clauses log step
    → IsRefutation f budget (log ++ step ∷ [])
is_refutation f log trail budget step s e = record {
  accepted = accepted f.vars f.clauses log step s.logged e;
  log = log;
  last = step;
  whole = refl;
  few = s.within;
  added = IsLog-of f.vars _ _ f.clauses log s.logged;
  ends = ends_empty f.clauses log step e;
}

pub is_spent : (f : Shape) (log : List ProofStep) (trail : Trail) (budget : ℕ) → IsSearching f.clauses log trail f.vars budget → length log ≡ budget → SpentLog f budget log
is_spent f log trail budget s e = (e, IsLog-of f.vars _ _ f.clauses log s.logged)

-- ---- the start

all_at : (p : List Lit → Bool) (cs : List (List Lit)) (r : ℕ) → list_all p cs ≡ true → r < length cs → p (get_or cs r []) ≡ true
all_at p [] r h lt = absurd (omega arith)
all_at p (c ∷ cs) zero h lt = (and_parts (p c) (list_all p cs) h).0
all_at p (c ∷ cs) (suc r) h lt = all_at p cs r (and_parts (p c) (list_all p cs) h).1 (omega arith)

pub solving-start : (f : Shape) (trail : Trail) → IsFormula f → entries_of trail ≡ [] → vars_of trail ≡ f.vars → IsSolving f.clauses [] trail
solving-start f trail formula empty vars =
    let few_clauses = formula.1 in
    record {
      few = omega arith;
      well = rw (append-nil f.clauses) (record {
        once = λ r lt. all_at no_twice f.clauses r formula.3 lt;
        inside = λ r lt. rw vars (all_at (below f.vars) f.clauses r formula.2 lt);
      });
      is_trail = rw empty (record {
        within = λ k lt. absurd (omega arith);
        apart = λ i k lt. absurd (omega arith);
        reasons = λ i r lt. absurd (omega arith);
        complete = λ i lt. absurd (omega arith);
      });
    }
