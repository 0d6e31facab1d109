-- A causal list taken edge by edge: each edge can stand behind those that are done.
use Rattle.std.proofs.Common.{◌≡◌, List, [], ◌∷◌, ◌++◌, length, take, refl, sym, ap, subst, Some, append_assoc}
use Rattle.std.specs.Prelude.{slice_get}
use Rattle.op_network.specs.declared.edge.Edge.{Edge}
use Rattle.op_network.specs.declared.edge.EdgeId.{EdgeId}
use Rattle.lus_causality.specs.Causality.{CanStand, IsCausal}

abbrev pub StandBehind : List Edge → List EdgeId → List EdgeId → Type 0
StandBehind edges done [] = Unit {0}
StandBehind edges done (e ∷ order) = CanStand edges done e × StandBehind edges (done ++ e ∷ []) order

get_behind : (done : List EdgeId) (e : EdgeId) (order : List EdgeId) → slice_get (done ++ e ∷ order) (length done) ≡ Some e
get_behind [] e order = refl
get_behind (d ∷ done) e order = get_behind done e order

take_front : (done order : List EdgeId) → take (length done) (done ++ order) ≡ done
take_front [] order = refl
take_front (d ∷ done) order = ap (λ (l : List EdgeId). d ∷ l) (take_front done order)

pub stand_behind : (edges : List Edge) (done order : List EdgeId) → IsCausal edges (done ++ order) → StandBehind edges done order
stand_behind edges done [] c = tt
stand_behind edges done (e ∷ order) c = (
  subst (λ (l : List EdgeId). CanStand edges l e) (take_front done (e ∷ order)) (c (length done) e (get_behind done e order)),
  stand_behind edges (done ++ e ∷ []) order (subst (IsCausal edges) (sym (append_assoc done (e ∷ []) order)) c),
)
