-- The edges of a causal list, fired one behind the other.
use Rattle.std.proofs.Common.{◌≡◌, ◌⊎◌, inl, inr, ⊎_elim, ℕ, zero, suc, ◌<◌, Bool, true, false, List, [], ◌∷◌, length, take, set, get_or, refl, sym, ap, ◌∙◌, subst}
use Rattle.std.proofs.Math.ListN.{length-set}
use Rattle.std.proofs.lemmas.Bool.{cases_eq, cases_Bool}
use Rattle.std.specs.Prelude.{Some, slice_get, replicate}
use Rattle.std.specs.List.{Contains}
use Rattle.op_network.specs.declared.edge.EdgeId.{EdgeId}
use Rattle.op_network.specs.declared.edge.Edge.{Edge}
use Rattle.lus_causality.specs.Causality.{IsCausal, IsFull}
use Rattle.lus_causality.specs.Marks.{IsMarked, IsFree, AreAllMarked}
use Rattle.lus_causality.proofs.Causal.{place_below}
use Rattle.lus_causality.proofs.Chains.{set_other, set_here}
use Rattle.lus_causality.proofs.Growing.{unmarked_at_first, length-unmarked}
use Rattle.lus_causality.proofs.Places.{first as at_first, later, none, parts}
use Rattle.stream_run.specs.Firings.{fired_marks}

set_keeps : (marks : List Bool) (j x : ℕ) → get_or marks x false ≡ true → get_or (set marks j true) x false ≡ true
set_keeps [] j x h = h
set_keeps (m ∷ marks) zero zero h = refl
set_keeps (m ∷ marks) zero (suc x) h = h
set_keeps (m ∷ marks) (suc j) zero h = h
set_keeps (m ∷ marks) (suc j) (suc x) h = set_keeps marks j x h

still_fired : (list : List EdgeId) (marks : List Bool) (x : EdgeId) → IsMarked marks x → IsMarked (fired_marks list marks) x
still_fired [] marks x m = m
still_fired (e ∷ list) marks x m = still_fired list (set marks e.0 true) x (set_keeps marks e.0 x.0 m)

fired_there : (list : List EdgeId) (marks : List Bool) (x : EdgeId) → x.0 < length marks → Contains list x → IsMarked (fired_marks list marks) x
fired_there [] marks x lt i = none x i
fired_there (e ∷ list) marks x lt i = elim (parts x e list i) [
  | inl same ↦ still_fired list (set marks e.0 true) x (subst (λ (y : EdgeId). get_or (set marks y.0 true) x.0 false ≡ true) (sym same) (set_here marks x.0 true false lt))
  | inr k ↦ fired_there list (set marks e.0 true) x (subst (λ n. x.0 < n) (sym (length-set marks e.0 true)) lt) k
]

was_fired : (list : List EdgeId) (marks : List Bool) (x : EdgeId) → IsMarked (fired_marks list marks) x → IsMarked marks x ⊎ Contains list x
was_fired [] marks x m = inl m
was_fired (e ∷ list) marks x m = ⊎_elim
    (λ before. ⊎_elim
    (λ same. inr (at_first x e list (let s : e ≡ x = ap (λ n. record { 0 = n }) (sym same) in s)))
    (λ apart. inl (sym (set_other marks x.0 e.0 true false apart) ∙ before))
    (cases_eq x.0 e.0))
    (λ k. inr (later x e list k))
    (was_fired list (set marks e.0 true) x m)

pub list_is_ready : (edges : List Edge) (list : List EdgeId) (i : ℕ) (e : EdgeId) → IsCausal edges list → slice_get list i ≡ Some e → IsFree edges (fired_marks (take i list) (replicate (length edges) false)) e
list_is_ready edges list i e causal is = record {
  within = (causal i e is).within;
  unmarked = ⊎_elim
      (λ m. absurd (⊎_elim
      (λ before. let u = unmarked_at_first (length edges) e.0 in cc)
      (λ k. (causal i e is).new k)
      (was_fired (take i list) (replicate (length edges) false) e m)))
      (λ u. u)
      (cases_Bool (get_or (fired_marks (take i list) (replicate (length edges) false)) e.0 false));
  operands = record {
    each = λ o k.
        let before = (causal i e is).operands o k in
        let p = place_below o list i before in
        fired_there (take i list) (replicate (length edges) false) o (subst (λ n. o.0 < n) (sym (length-unmarked (length edges))) (causal p.0 o p.2).within) before;
  };
}

pub list_finishes : (edges : List Edge) (list : List EdgeId) → IsFull edges list → AreAllMarked (fired_marks list (replicate (length edges) false))
list_finishes edges list full = record {
  each = λ e lt.
      let within : e.0 < length edges = subst (λ n. e.0 < n) (same_length list (replicate (length edges) false) ∙ length-unmarked (length edges)) lt in
      fired_there list (replicate (length edges) false) e (subst (λ n. e.0 < n) (sym (length-unmarked (length edges))) within) (full e within);
}
  where
    same_length : (list : List EdgeId) (marks : List Bool) → length (fired_marks list marks) ≡ length marks
    same_length [] marks = refl
    same_length (e ∷ list) marks = same_length list (set marks e.0 true) ∙ length-set marks e.0 true
