-- Each network has a list of its complete paths, for each length: all paths of k steps from the inputs, for each k,
-- and of these the ones that end in an output.
use Rattle.std.proofs.Common.{Some, ◌≡◌, inl, inr, ℕ, zero, suc, ◌+◌, ◌<◌, ◌≤◌, Bool, true, false, cond, List, [], ◌∷◌, ◌++◌, length, map, nat_eq, refl, ap, sym, subst, arith}
use Rattle.std.specs.List.{filter, range_with_len}
use Rattle.std.proofs.lemmas.Bool.{cases_eq, cases_lt, eq-eqb, ne_eqb}
use Rattle.std.proofs.lemmas.List.{length_push}
use Rattle.op_network.specs.declared.edge.Edge.{Edge}
use Rattle.op_network.specs.declared.edge.EdgeId.{EdgeId}
use Rattle.op_network.specs.declared.edge.Parts.{Parts}
use Rattle.dep_paths.specs.declared.path.Step.{Step}
use Rattle.dep_paths.specs.declared.path.Path.{Path}
use Rattle.dep_paths.specs.Has.{Has, InOrder}
use Rattle.dep_paths.specs.Paths.{Follows, operand_of, path_length, IsComplete, Before, IsListOf}
use Rattle.dep_paths.specs.Levels.{readers_of, pushed, start_path, longer_paths, last_of}
use Rattle.dep_paths.proofs.Table.{same_id}
use Rattle.dep_paths.proofs.Lists.{Contains-has, has_contains, pairs_in_order, Has-map, map_has, Has-filter, filter_has, range_has, Has-append, Has-append_left, Has-append_right, InOrder-append, InOrder-filter, InOrder-map, InOrder-range, InOrder-weaker}
use Rattle.dep_paths.proofs.Members.{Has-readers, readers_have, follows_push, follows_parts, Has-longer, longer_has, split_last, pushed_of, start_only}
use Rattle.dep_paths.proofs.Order.{Beside, start_beside, readers_in_order, longer_in_order}
use Rattle.dep_paths.specs.declared.limits.TheConstants.{FAR}

-- whether it is one of the edges
is_one_of : List EdgeId → EdgeId → Bool
is_one_of [] e = false
is_one_of (a ∷ es) e = cond (nat_eq a.0 e.0) true (is_one_of es e)

one_of_has : (es : List EdgeId) (e : EdgeId) → is_one_of es e ≡ true → Has es e
unfolding is_one_of
one_of_has [] e h = cc
one_of_has (a ∷ es) e h = elim (cases_eq a.0 e.0) [
  | inl same ↦ inl (same_id a e same)
  | inr apart ↦ inr (one_of_has es e (rw (ne_eqb a.0 e.0 apart) at h))
]

has_one_of : (es : List EdgeId) (e : EdgeId) → Has es e → is_one_of es e ≡ true
unfolding is_one_of
has_one_of [] e h = absurd h
has_one_of (a ∷ es) e h = elim (cases_eq a.0 e.0) [
  | inl same ↦ rw (eq-eqb a.0 e.0 same) refl
  | inr apart ↦ elim h [
    | inl is ↦ absurd (apart (ap (λ (x : EdgeId). x.0) is))
    | inr later ↦ rw (ne_eqb a.0 e.0 apart) (has_one_of es e later)
  ]
]

-- a number above those of all the edges
above : List EdgeId → ℕ
above [] = 0
above (e ∷ es) = e.0 + 1 + above es

has_below : (es : List EdgeId) (e : EdgeId) → Has es e → e.0 < above es
unfolding above
has_below [] e h = absurd h
has_below (a ∷ es) e h = elim h [
  | inl is ↦ omega (arith, ap (λ (x : EdgeId). x.0) is)
  | inr later ↦ omega (arith, has_below es e later)
]

edge_at : ℕ → EdgeId
edge_at i = record { 0 = i }

-- the edges, each once and in order
sorted : List EdgeId → List EdgeId
sorted es = filter (is_one_of es) (map edge_at (range_with_len 0 (above es)))

Has-sorted : (es : List EdgeId) (e : EdgeId) → Has (sorted es) e → Has es e
unfolding sorted
Has-sorted es e h = one_of_has es e (Has-filter (is_one_of es) (map edge_at (range_with_len 0 (above es))) e h).1

sorted_has : (es : List EdgeId) (e : EdgeId) → Has es e → Has (sorted es) e
unfolding sorted edge_at
sorted_has es e h =
    filter_has (is_one_of es) (map edge_at (range_with_len 0 (above es))) e
    (map_has edge_at (range_with_len 0 (above es)) e.0 (range_has 0 (above es) e.0 (omega arith) (omega (arith, has_below es e h))))
    (has_one_of es e h)

sorted_in_order : (es : List EdgeId) → InOrder (λ (a b : EdgeId). a.0 < b.0) (sorted es)
unfolding sorted edge_at
sorted_in_order es = InOrder-filter (λ (a b : EdgeId). a.0 < b.0) (is_one_of es) (map edge_at (range_with_len 0 (above es)))
    (InOrder-map (λ i j. i < j) (λ (a b : EdgeId). a.0 < b.0) edge_at (range_with_len 0 (above es)) (λ i j lt. lt) (InOrder-range 0 (above es)))

-- all readers of an edge: the empty table has the distance `FAR` everywhere
abbrev all_readers : List Edge → ℕ → List Step
all_readers edges = readers_of edges [] FAR

-- all paths of k steps from the inputs
walks : Parts → ℕ → List Path
walks net zero = map start_path (sorted net.inputs)
walks net (suc k) = longer_paths (all_readers net.edges) (walks net k)

walks_in_order : (net : Parts) (k : ℕ) → InOrder Beside (walks net k)
unfolding walks
walks_in_order net zero = InOrder-map (λ (a b : EdgeId). a.0 < b.0) Beside start_path (sorted net.inputs) start_beside (sorted_in_order net.inputs)
walks_in_order net (suc k) = longer_in_order (all_readers net.edges) (walks net k) (readers_in_order net.edges [] FAR) (walks_in_order net k)

-- a path of k steps from an input
record IsWalk (net : Parts) (k : ℕ) (p : Path) : Type 0 where
  starts : Has net.inputs p.start
  path : Follows net.edges p.start p.steps
  long : length p.steps ≡ k

walk_start : (net : Parts) (e : EdgeId) → Has net.inputs e → IsWalk net zero (start_path e)
unfolding start_path
walk_start net e has = record { starts = has; path = tt; long = refl }

walk_pushed : (net : Parts) (k : ℕ) (p : Path) (s : Step) → IsWalk net k p → operand_of net.edges s ≡ Some (last_of p) → IsWalk net (suc k) (pushed p s)
unfolding pushed
walk_pushed net k p s h reads = record {
  starts = h.starts;
  path = follows_push net.edges p.start p.steps s h.path reads;
  long = omega (arith, length_push p.steps s, h.long);
}

walk_before : (net : Parts) (k : ℕ) (p : Path) (s : Step) → IsWalk net (suc k) (pushed p s) → IsWalk net k p × (operand_of net.edges s ≡ Some (last_of p))
unfolding pushed
walk_before net k p s h =
    let parts = follows_parts net.edges p.start p.steps s h.path in
    (record { starts = h.starts; path = parts.0; long = omega (arith, length_push p.steps s, h.long) }, parts.1)

Has-walks : (net : Parts) (k : ℕ) (p : Path) → Has (walks net k) p → IsWalk net k p
unfolding walks
Has-walks net zero p h =
    let (e, has, is) = Has-map start_path (sorted net.inputs) p h in
    subst (IsWalk net zero) is (walk_start net e (Has-sorted net.inputs e has))
Has-walks net (suc k) q h =
    let (p, s, has, row, is) = Has-longer (all_readers net.edges) (walks net k) q h in
    let reads = Has-readers net.edges [] FAR (last_of p) s row in
    subst (IsWalk net (suc k)) is (walk_pushed net k p s (Has-walks net k p has) reads.0)

walks_start : (net : Parts) (p : Path) → IsWalk net zero p → Has (map start_path (sorted net.inputs)) p
walks_start net p h = subst (Has (map start_path (sorted net.inputs))) (start_only p h.long) (map_has start_path (sorted net.inputs) p.start (sorted_has net.inputs p.start h.starts))

walks_have : (net : Parts) (k : ℕ) (p : Path) → IsWalk net k p → Has (walks net k) p
unfolding walks
walks_have net zero p h = walks_start net p h
walks_have net (suc k) q h =
    let parts = split_last q.steps k h.long in
    let p : Path = record { start = q.start; steps = parts.0 } in
    let s = parts.1 in
    let is : pushed p s ≡ q = pushed_of q.start parts.0 s q.steps parts.2 in
    let before = walk_before net k p s (subst (IsWalk net (suc k)) (sym is) h) in
    let row = readers_have net.edges [] FAR (last_of p) s before.1 (omega arith) in
    subst (Has (longer_paths (all_readers net.edges) (walks net k))) is
    (longer_has (all_readers net.edges) (walks net k) p s (walks_have net k p before.0) row)

ends_in_output : Parts → Path → Bool
ends_in_output net p = is_one_of net.outputs (last_of p)

-- the complete paths of k steps
abbrev ended_walks : Parts → ℕ → List Path
ended_walks net k = filter (ends_in_output net) (walks net k)

-- the complete paths of at most n edges
complete_walks : Parts → ℕ → List Path
complete_walks net zero = []
complete_walks net (suc n) = complete_walks net n ++ ended_walks net n

walk_complete : (net : Parts) (k : ℕ) (p : Path) → IsWalk net k p → ends_in_output net p ≡ true → IsComplete net p
unfolding ends_in_output
walk_complete net k p h ends = record {
  starts = Contains-has net.inputs p.start h.starts;
  path = h.path;
  ends = Contains-has net.outputs (last_of p) (one_of_has net.outputs (last_of p) ends);
}

complete_walk : (net : Parts) (p : Path) → IsComplete net p → IsWalk net (length p.steps) p × (ends_in_output net p ≡ true)
unfolding ends_in_output
complete_walk net p h = (
  record { starts = has_contains net.inputs p.start h.starts; path = h.path; long = refl },
  has_one_of net.outputs (last_of p) (has_contains net.outputs (last_of p) h.ends),
)

Has-complete_walks : (net : Parts) (n : ℕ) (p : Path) → Has (complete_walks net n) p → IsComplete net p × (path_length p ≤ n)
unfolding complete_walks
Has-complete_walks net zero p h = absurd h
Has-complete_walks net (suc n) p h = elim (Has-append (complete_walks net n) (ended_walks net n) p h) [
  | inl fewer ↦ let c = Has-complete_walks net n p fewer in (c.0, omega (arith, c.1))
  | inr last ↦ let f = Has-filter (ends_in_output net) (walks net n) p last in
      let w = Has-walks net n p f.0 in
      (walk_complete net n p w f.1, omega (arith, w.long))
]

complete_walks_have : (net : Parts) (n : ℕ) (p : Path) → IsComplete net p → path_length p ≤ n → Has (complete_walks net n) p
unfolding complete_walks
complete_walks_have net zero p h few = absurd (omega arith)
complete_walks_have net (suc n) p h few = elim (cases_lt (length p.steps) n) [
  | inl fewer ↦ Has-append_left (complete_walks net n) (ended_walks net n) p (complete_walks_have net n p h (omega arith))
  | inr rest ↦ let w = complete_walk net p h in
      let long : length p.steps ≡ n = omega arith in
      Has-append_right (complete_walks net n) (ended_walks net n) p
      (filter_has (ends_in_output net) (walks net n) p (walks_have net n p (subst (λ k. IsWalk net k p) long w.0)) w.1)
]

complete_walks_in_order : (net : Parts) (n : ℕ) → InOrder Before (complete_walks net n)
unfolding complete_walks
complete_walks_in_order net zero = tt
complete_walks_in_order net (suc n) =
    InOrder-append Before (complete_walks net n) (ended_walks net n)
    (complete_walks_in_order net n)
    (InOrder-filter Before (ends_in_output net) (walks net n) (InOrder-weaker Beside Before (walks net n) (λ p q hp hq h. inr (omega (arith, h.long), h.first)) (walks_in_order net n)))
    (λ p q hp hq. let fewer = Has-complete_walks net n p hp in
    let w = Has-walks net n q (Has-filter (ends_in_output net) (walks net n) q hq).0 in
    inl (omega (arith, fewer.1, w.long)))

-- each network has such a list
pub some_list : (net : Parts) (n : ℕ) → (ps : List Path) × IsListOf net n ps
some_list net n =
    let all = complete_walks net n in (
      all,
      record {
        each = λ p. (
          (λ h. Has-complete_walks net n p (has_contains all p h)),
          (λ h. Contains-has all p (complete_walks_have net n p h.0 h.1)),
        );
        order = pairs_in_order Before all (complete_walks_in_order net n);
      },
    )
