-- The order of paths.
use Rattle.std.proofs.Common.{◌≡◌, ◌≢◌, inl, inr, ℕ, zero, suc, ◌+◌, ◌-◌, ◌<◌, List, [], ◌∷◌, ◌++◌, length, map, refl, ap, sym, ◌∙◌, subst, arith}
use Rattle.std.specs.List.{filter, range_with_len}
use Rattle.std.proofs.lemmas.List.{length_push}
use Rattle.op_network.specs.declared.edge.Edge.{Edge}
use Rattle.op_network.specs.declared.edge.EdgeId.{EdgeId}
use Rattle.op_network.specs.declared.edge.Parts.{Parts}
use Rattle.op_network.specs.Operators.{operands_of}
use Rattle.dep_paths.specs.declared.path.Step.{Step}
use Rattle.dep_paths.specs.declared.path.Path.{Path}
use Rattle.dep_paths.specs.Has.{Has, InOrder}
use Rattle.dep_paths.specs.Paths.{StepBefore, StepsBefore, StartsBefore, Before}
use Rattle.dep_paths.specs.Near.{IsClosed}
use Rattle.dep_paths.specs.Levels.{step_at, steps_into, steps_below, leads_on, readers_of, pushed, start_path, is_near, longer_paths, first_level, level, last_of}
use Rattle.dep_paths.proofs.Lists.{Has-map, InOrder-map, InOrder-filter, InOrder-flat_map, InOrder-range}

step_asym : (s t : Step) → StepBefore s t → StepBefore t s → ⊥
step_asym s t h k = elim h [
  | inl a ↦ elim k [ inl b ↦ omega arith | inr b ↦ omega (arith, b.0) ]
  | inr a ↦ elim k [ inl b ↦ omega (arith, a.0) | inr b ↦ omega (arith, a.1, b.1) ]
]

step_irrefl : (s t : Step) → s ≡ t → StepBefore s t → ⊥
step_irrefl s t e h = let k : StepBefore s s = subst (StepBefore s) (sym e) h in step_asym s s k k

steps_asym : (ss ts : List Step) → StepsBefore ss ts → StepsBefore ts ss → ⊥
steps_asym [] ts h k = h
steps_asym (s ∷ ss) [] h k = h
steps_asym (s ∷ ss) (t ∷ ts) h k = elim h [
  | inl a ↦ elim k [ inl b ↦ step_asym s t a b | inr b ↦ step_irrefl s t (sym b.0) a ]
  | inr a ↦ elim k [ inl b ↦ step_irrefl t s (sym a.0) b | inr b ↦ steps_asym ss ts a.1 b.1 ]
]

starts_asym : (p q : Path) → StartsBefore p q → StartsBefore q p → ⊥
starts_asym p q h k = elim h [
  | inl a ↦ elim k [ inl b ↦ omega arith | inr b ↦ omega (arith, b.0) ]
  | inr a ↦ elim k [ inl b ↦ omega (arith, a.0) | inr b ↦ steps_asym p.steps q.steps a.1 b.1 ]
]

pub before_asym : (p q : Path) → Before p q → Before q p → ⊥
before_asym p q h k = elim h [
  | inl a ↦ elim k [ inl b ↦ omega arith | inr b ↦ omega (arith, b.0) ]
  | inr a ↦ elim k [ inl b ↦ omega (arith, a.0) | inr b ↦ starts_asym p q a.1 b.1 ]
]

pub before_different : (p q : Path) → Before p q → p ≢ q
before_different p q h e = let k : Before p p = subst (Before p) (sym e) h in before_asym p p k k

-- of one length, and in order
pub record Beside (p q : Path) : Type 0 where
  pub long : length p.steps ≡ length q.steps
  pub first : StartsBefore p q

push_after : (ss ts : List Step) (a b : Step) → StepsBefore ss ts → StepsBefore (ss ++ a ∷ []) (ts ++ b ∷ [])
push_after [] ts a b h = absurd h
push_after (s ∷ ss) [] a b h = absurd h
push_after (s ∷ ss) (t ∷ ts) a b h = elim h [ inl d ↦ inl d | inr r ↦ inr (r.0, push_after ss ts a b r.1) ]

push_before : (ss : List Step) (a b : Step) → StepBefore a b → StepsBefore (ss ++ a ∷ []) (ss ++ b ∷ [])
push_before [] a b h = inl h
push_before (s ∷ ss) a b h = inr (refl, push_before ss a b h)

pushed_beside : (p q : Path) (a b : Step) → Beside p q → Beside (pushed p a) (pushed q b)
unfolding pushed
pushed_beside p q a b h = record {
  long = length_push p.steps a ∙ ap (λ n. n + 1) h.long ∙ sym (length_push q.steps b);
  first = elim h.first [ inl d ↦ inl d | inr r ↦ inr (r.0, push_after p.steps q.steps a b r.1) ];
}

pushed_in_order : (p : Path) (a b : Step) → StepBefore a b → Beside (pushed p a) (pushed p b)
unfolding pushed
pushed_in_order p a b h = record {
  long = length_push p.steps a ∙ sym (length_push p.steps b);
  first = inr (refl, push_before p.steps a b h);
}

edge_of_step : (edges : List Edge) (i : ℕ) (s : Step) → Has (steps_into edges i) s → s.edge.0 ≡ i
edge_of_step edges i s h =
    let e : EdgeId = record { 0 = i } in
    let k = Has-map (step_at e) (range_with_len 0 (length (operands_of edges e))) s h in
    ap (λ (t : Step). t.edge.0) (sym k.2)

into_in_order : (edges : List Edge) (i : ℕ) → InOrder StepBefore (steps_into edges i)
into_in_order edges i =
    let e : EdgeId = record { 0 = i } in
    InOrder-map (λ p q. p < q) StepBefore (step_at e) (range_with_len 0 (length (operands_of edges e))) (λ p q lt. inr (refl, lt)) (InOrder-range 0 (length (operands_of edges e)))

steps_in_order : (edges : List Edge) (n : ℕ) → InOrder StepBefore (steps_below edges n)
steps_in_order edges n = InOrder-flat_map (λ i j. i < j) StepBefore (steps_into edges) (range_with_len 0 n)
    (λ i j a b lt ha hb. inl (omega (arith, edge_of_step edges i a ha, edge_of_step edges j b hb))) (into_in_order edges) (InOrder-range 0 n)

pub readers_in_order : (edges : List Edge) (near : List ℕ) (room e : ℕ) → InOrder StepBefore (readers_of edges near room e)
unfolding readers_of
readers_in_order edges near room e = InOrder-filter StepBefore (leads_on edges near room e) (steps_below edges (length edges)) (steps_in_order edges (length edges))

pub longer_in_order : (rows : ℕ → List Step) (ps : List Path) → ((e : ℕ) → InOrder StepBefore (rows e)) → InOrder Beside ps → InOrder Beside (longer_paths rows ps)
unfolding longer_paths
longer_in_order rows ps each h = InOrder-flat_map Beside Beside (λ p. map (pushed p) (rows (last_of p).0)) ps
    (λ p q a b lt ha hb. let x = Has-map (pushed p) (rows (last_of p).0) a ha in let y = Has-map (pushed q) (rows (last_of q).0) b hb in
    subst (λ (c : Path). Beside c b) x.2 (subst (λ (c : Path). Beside (pushed p x.0) c) y.2 (pushed_beside p q x.0 y.0 lt)))
    (λ p. InOrder-map StepBefore Beside (pushed p) (rows (last_of p).0) (λ a b lt. pushed_in_order p a b lt) (each (last_of p).0))
    h

pub start_beside : (i j : EdgeId) → i.0 < j.0 → Beside (start_path i) (start_path j)
unfolding start_path
start_beside i j h = record { long = refl; first = inl h }

first_in_order : (inputs : List EdgeId) (near : List ℕ) (room : ℕ) → InOrder (λ (a b : EdgeId). a.0 < b.0) inputs → InOrder Beside (first_level inputs near room)
unfolding first_level
first_in_order inputs near room order =
    InOrder-map (λ (a b : EdgeId). a.0 < b.0) Beside start_path (filter (is_near near room) inputs) start_beside
    (InOrder-filter (λ (a b : EdgeId). a.0 < b.0) (is_near near room) inputs order)

pub level_in_order : (net : Parts) (near : List ℕ) (n k : ℕ) → IsClosed net → InOrder Beside (level net near n k)
unfolding level
level_in_order net near n zero closed = first_in_order net.inputs near (n - 1) closed.order
level_in_order net near n (suc k) closed = longer_in_order (readers_of net.edges near (n - 2 - k)) (level net near n k) (readers_in_order net.edges near (n - 2 - k)) (level_in_order net near n k closed)

pub beside_different : (p q : Path) → Beside p q → p ≢ q
beside_different p q h e = let k : StartsBefore p p = subst (StartsBefore p) (sym e) h.first in starts_asym p p k k
