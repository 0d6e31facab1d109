-- The loops that count costs and ports.
use Rattle.std.proofs.Common.{◌≡◌, ℕ, ◌+◌, ◌*◌, ◌<◌, ◌≤◌, List, [], ◌∷◌, zero, suc, length, map, drop, get_or, refl, sym, ap, ◌∙◌, arith, Option, Some}
use Rattle.std.specs.Prelude.{slice_get, sum}
use Rattle.std.specs.List.{sum_by}
use Rattle.std.proofs.lemmas.List.Sums.{sum-map, sum_by-drop_more}
use Rattle.std.proofs.lemmas.Option.{get_or_from_slice_get}
use Rattle.std.proofs.Math.ListN.{drop_of_length-le}
use Rattle.op_network.specs.declared.edge.Edge.{Edge}
use Rattle.op_network.specs.declared.edge.EdgeId.{EdgeId}
use Rattle.op_network.specs.Operators.{operands, operands_of, operands_in}

-- the first values of a list add up to this total, each being at most `most`
pub record TotalSoFar (most : ℕ) (f : Edge → ℕ) (edges : List Edge) (i total : ℕ) : Type 0 where
  pub is : sum (map f edges) ≡ total + sum_by f (drop i edges)
  pub few : total ≤ i * most

pub total_start : (most : ℕ) (f : Edge → ℕ) (edges : List Edge) → TotalSoFar most f edges 0 0
total_start most f edges = record { is = omega (arith, sum-map f edges); few = omega arith }

pub total_step : (most : ℕ) (f : Edge → ℕ) (edges : List Edge) (i total x : ℕ) (d : Edge) → TotalSoFar most f edges i total → i < length edges → x ≡ f (get_or edges i d) → x ≤ most → TotalSoFar most f edges (i + 1) (total + x)
total_step most f edges i total x d s lt e le = record {
  is = omega (arith, s.is, sum_by-drop_more f edges i d lt, e);
  few = omega (arith, s.few, le);
}

pub total_end : (most : ℕ) (f : Edge → ℕ) (edges : List Edge) (i total : ℕ) → TotalSoFar most f edges i total → length edges ≤ i → total ≡ sum (map f edges)
total_end most f edges i total s le = omega (arith, s.is, ap (sum_by f) (drop_of_length-le edges le))

-- ---- ports

abbrev pub ports_at : Edge → ℕ
ports_at edge = length (operands edge.op)

edge_at : (edges : List Edge) (i : ℕ) → i < length edges → (edge : Edge) × (slice_get edges i ≡ Some edge)
edge_at [] i lt = absurd (omega arith)
edge_at (x ∷ edges) zero lt = (x, refl)
edge_at (x ∷ edges) (suc i) lt = edge_at edges i (omega arith)

pub ports_step : (edges : List Edge) (e : EdgeId) (total x most : ℕ) → TotalSoFar most ports_at edges e.0 total → e.0 < length edges → x ≡ length (operands_of edges e) → x ≤ most → TotalSoFar most ports_at edges (e.0 + 1) (total + x)
ports_step edges e total x most s lt is le =
    let y = edge_at edges e.0 lt in
    total_step most ports_at edges e.0 total x y.0 s lt
    (is ∙ (ap (λ (o : Option Edge). length (operands_in o)) y.1 ∙ ap ports_at (sym (get_or_from_slice_get edges e.0 y.0 y.0 y.1)))) le
