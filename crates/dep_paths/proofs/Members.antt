-- Which paths the levels have.
use Rattle.std.proofs.Common.{◌≡◌, inl, inr, ℕ, zero, suc, ◌-◌, ◌<◌, ◌≤◌, true, List, [], ◌∷◌, ◌++◌, Option, Some, None, length, map, nat_le, refl, ap, sym, subst, arith}
use Rattle.std.specs.List.{filter, range_with_len}
use Rattle.std.proofs.lemmas.Bool.{eqb-true, leb-true, le-leb, eq-eqb, cases_lt, and_parts}
use Rattle.std.proofs.lemmas.List.{length_push, nil_from_length}
use Rattle.op_network.specs.declared.edge.Edge.{Edge}
use Rattle.op_network.specs.declared.edge.EdgeId.{EdgeId}
use Rattle.op_network.specs.declared.edge.Parts.{Parts}
use Rattle.op_network.specs.Operators.{operands_of}
use Rattle.dep_paths.specs.declared.path.Step.{Step}
use Rattle.dep_paths.specs.declared.path.Path.{Path}
use Rattle.dep_paths.specs.Has.{Has}
use Rattle.dep_paths.specs.Paths.{Follows, last_edge, operand_of}
use Rattle.dep_paths.specs.Near.{near_at, IsClosed, Leads, IsTable}
use Rattle.dep_paths.specs.Levels.{step_at, steps_into, steps_below, is_operand, leads_on, readers_of, pushed, start_path, is_near, longer_paths, first_level, level, last_of, ends_at, complete_below}
use Rattle.dep_paths.proofs.Table.{same_id, edge_inside, port_inside}
use Rattle.dep_paths.proofs.Growth.{last-push, leads_here}
use Rattle.dep_paths.proofs.Lists.{Has-map, map_has, Has-filter, filter_has, Has-flat_map, flat_map_has, range_has, Has-append, Has-append_left, Has-append_right}
use Rattle.dep_paths.specs.declared.limits.TheConstants.{MOST_LENGTH}

operand_is : (o : Option EdgeId) (e : EdgeId) → is_operand o e.0 ≡ true → o ≡ Some e
operand_is None e h = cc
operand_is (Some a) e h = ap Some (same_id a e (eqb-true a.0 e.0 h))

leads_parts : (edges : List Edge) (near : List ℕ) (room : ℕ) (e : EdgeId) (s : Step) → leads_on edges near room e.0 s ≡ true → (operand_of edges s ≡ Some e) × (near_at near s.edge ≤ room)
unfolding leads_on
leads_parts edges near room e s h =
    let p = and_parts (is_operand (operand_of edges s) e.0) (nat_le (near_at near s.edge) room) h in
    (operand_is (operand_of edges s) e p.0, leb-true (near_at near s.edge) room p.1)

pub Has-readers : (edges : List Edge) (near : List ℕ) (room : ℕ) (e : EdgeId) (s : Step) → Has (readers_of edges near room e.0) s → (operand_of edges s ≡ Some e) × (near_at near s.edge ≤ room)
unfolding readers_of
Has-readers edges near room e s h = leads_parts edges near room e s (Has-filter (leads_on edges near room e.0) (steps_below edges (length edges)) s h).1

pub readers_have : (edges : List Edge) (near : List ℕ) (room : ℕ) (e : EdgeId) (s : Step) → operand_of edges s ≡ Some e → near_at near s.edge ≤ room → Has (readers_of edges near room e.0) s
unfolding readers_of
readers_have edges near room e s reads close =
    filter_has (leads_on edges near room e.0) (steps_below edges (length edges)) s
    (flat_map_has (steps_into edges) (range_with_len 0 (length edges)) s.edge.0 s (range_has 0 (length edges) s.edge.0 (omega arith) (omega (arith, edge_inside edges s e reads)))
    (map_has (step_at s.edge) (range_with_len 0 (length (operands_of edges s.edge))) s.port (range_has 0 (length (operands_of edges s.edge)) s.port (omega arith) (omega (arith, port_inside edges s e reads)))))
    (leads_here edges near room e s reads close)

-- a path of k steps from an input that can be completed within n edges
pub record IsOpen (net : Parts) (near : List ℕ) (n k : ℕ) (p : Path) : Type 0 where
  pub starts : Has net.inputs p.start
  pub path : Follows net.edges p.start p.steps
  pub long : length p.steps ≡ k
  pub close : near_at near (last_of p) ≤ n - 1 - k

pub follows_push : (edges : List Edge) (e : EdgeId) (ss : List Step) (s : Step) → Follows edges e ss → operand_of edges s ≡ Some (last_edge e ss) → Follows edges e (ss ++ s ∷ [])
follows_push edges e [] s h reads = (reads, tt)
follows_push edges e (t ∷ ss) s h reads = (h.0, follows_push edges t.edge ss s h.1 reads)

pub follows_parts : (edges : List Edge) (e : EdgeId) (ss : List Step) (s : Step) → Follows edges e (ss ++ s ∷ []) → Follows edges e ss × (operand_of edges s ≡ Some (last_edge e ss))
follows_parts edges e [] s h = (tt, h.0)
follows_parts edges e (t ∷ ss) s h = let k = follows_parts edges t.edge ss s h.1 in ((h.0, k.0), k.1)

open_pushed : (net : Parts) (near : List ℕ) (n k : ℕ) (p : Path) (s : Step) → IsOpen net near n k p → operand_of net.edges s ≡ Some (last_of p) → near_at near s.edge ≤ n - 2 - k → IsOpen net near n (suc k) (pushed p s)
unfolding pushed
open_pushed net near n k p s h reads close = record {
  starts = h.starts;
  path = follows_push net.edges p.start p.steps s h.path reads;
  long = omega (arith, length_push p.steps s, h.long);
  close = rw (last-push p.start p.steps s) (omega arith);
}

open_start : (net : Parts) (near : List ℕ) (n : ℕ) (e : EdgeId) → Has net.inputs e → is_near near (n - 1) e ≡ true → IsOpen net near n zero (start_path e)
unfolding is_near start_path
open_start net near n e has h = record { starts = has; path = tt; long = refl; close = omega (arith, leb-true (near_at near e) (n - 1) h) }

Has-first : (net : Parts) (near : List ℕ) (n : ℕ) (p : Path) → Has (first_level net.inputs near (n - 1)) p → IsOpen net near n zero p
unfolding first_level
Has-first net near n p h =
    let k = Has-map start_path (filter (is_near near (n - 1)) net.inputs) p h in
    let f = Has-filter (is_near near (n - 1)) net.inputs k.0 k.1 in
    subst (IsOpen net near n zero) k.2 (open_start net near n k.0 f.0 f.1)

pub Has-longer : (rows : ℕ → List Step) (ps : List Path) (q : Path) → Has (longer_paths rows ps) q → (p : Path) × (s : Step) × Has ps p × Has (rows (last_of p).0) s × (pushed p s ≡ q)
unfolding longer_paths
Has-longer rows ps q h =
    let a = Has-flat_map (λ p. map (pushed p) (rows (last_of p).0)) ps q h in
    let b = Has-map (pushed a.0) (rows (last_of a.0).0) q a.2 in
    (a.0, b.0, a.1, b.1, b.2)

pub Has-level : (net : Parts) (near : List ℕ) (n k : ℕ) (p : Path) → Has (level net near n k) p → IsOpen net near n k p
unfolding level
Has-level net near n zero p h = Has-first net near n p h
Has-level net near n (suc k) q h =
    let (p, s, has, row, is) = Has-longer (readers_of net.edges near (n - 2 - k)) (level net near n k) q h in
    let r = Has-readers net.edges near (n - 2 - k) (last_of p) s row in
    subst (IsOpen net near n (suc k)) is (open_pushed net near n k p s (Has-level net near n k p has) r.0 r.1)

pub last_inside : (edges : List Edge) (e : EdgeId) (ss : List Step) → e.0 < length edges → Follows edges e ss → (last_edge e ss).0 < length edges
last_inside edges e [] inside h = inside
last_inside edges e (s ∷ ss) inside h = last_inside edges s.edge ss (edge_inside edges s e h.0) h.1

-- a path of no step is its start
pub start_only : (p : Path) → length p.steps ≡ 0 → start_path p.start ≡ p
unfolding start_path
start_only p h = ap (λ (ss : List Step). let q : Path = record { start = p.start; steps = ss } in q) (sym (nil_from_length p.steps h))

first_has : (net : Parts) (near : List ℕ) (n : ℕ) (p : Path) → IsOpen net near n zero p → Has (first_level net.inputs near (n - 1)) p
unfolding first_level is_near
first_has net near n p h =
    let none : p.steps ≡ [] = nil_from_length p.steps h.long in
    let at : last_of p ≡ p.start = ap (last_edge p.start) none in
    let close : near_at near p.start ≤ n - 1 = omega (arith, h.close, ap (near_at near) at) in
    subst (Has (map start_path (filter (is_near near (n - 1)) net.inputs))) (start_only p h.long)
    (map_has start_path (filter (is_near near (n - 1)) net.inputs) p.start
    (filter_has (is_near near (n - 1)) net.inputs p.start h.starts (le-leb (near_at near p.start) (n - 1) close)))

pub longer_has : (rows : ℕ → List Step) (ps : List Path) (p : Path) (s : Step) → Has ps p → Has (rows (last_of p).0) s → Has (longer_paths rows ps) (pushed p s)
unfolding longer_paths
longer_has rows ps p s h k = flat_map_has (λ p. map (pushed p) (rows (last_of p).0)) ps p (pushed p s) h (map_has (pushed p) (rows (last_of p).0) s k)

last_split : (s : Step) (ss : List Step) → (init : List Step) × (t : Step) × (s ∷ ss ≡ init ++ t ∷ [])
last_split s [] = ([], s, refl)
last_split s (t ∷ ss) = let k = last_split t ss in (s ∷ k.0, k.1, ap (λ r. s ∷ r) k.2)

pub split_last : (ss : List Step) (k : ℕ) → length ss ≡ suc k → (init : List Step) × (t : Step) × (ss ≡ init ++ t ∷ [])
split_last [] k h = absurd (omega arith)
split_last (s ∷ ss) k h = last_split s ss

pub pushed_of : (e : EdgeId) (init : List Step) (s : Step) (ss : List Step) → ss ≡ init ++ s ∷ [] → pushed (record { start = e; steps = init }) s ≡ record { start = e; steps = ss }
unfolding pushed
pushed_of e init s ss h = ap (λ (r : List Step). let q : Path = record { start = e; steps = r } in q) (sym h)

-- what is open with a step more is open without it
open_before : (net : Parts) (near : List ℕ) (n k : ℕ) (p : Path) (s : Step) → n ≤ MOST_LENGTH → suc k < n → IsClosed net → IsTable (n - 1) net near → IsOpen net near n (suc k) (pushed p s)
    → IsOpen net near n k p × (operand_of net.edges s ≡ Some (last_of p)) × (near_at near s.edge ≤ n - 2 - k)
unfolding pushed
open_before net near n k p s small below closed table h =
    let parts = follows_parts net.edges p.start p.steps s h.path in
    let close : near_at near s.edge ≤ n - 2 - k = omega (arith, h.close, ap (near_at near) (last-push p.start p.steps s)) in
    let way = table.sound.way s.edge (omega arith) in
    let leads : Leads net (last_of p) (s ∷ way.0) = record { path = (parts.1, way.1.path); ends = way.1.ends } in
    let inside = last_inside net.edges p.start p.steps (closed.inputs p.start h.starts) parts.0 in
    let least = table.knows.least (last_of p) (s ∷ way.0) inside leads (omega (arith, way.2)) in
    (record { starts = h.starts; path = parts.0; long = omega (arith, length_push p.steps s, h.long); close = omega (arith, least, way.2) }, parts.1, close)

pub level_has : (net : Parts) (near : List ℕ) (n k : ℕ) (p : Path) → n ≤ MOST_LENGTH → k < n → IsClosed net → IsTable (n - 1) net near → IsOpen net near n k p → Has (level net near n k) p
unfolding level
level_has net near n zero p small below closed table h = first_has net near n p h
level_has net near n (suc k) q small below closed table h =
    let parts = split_last q.steps k h.long in
    let p : Path = record { start = q.start; steps = parts.0 } in
    let s = parts.1 in
    let is : pushed p s ≡ q = pushed_of q.start parts.0 s q.steps parts.2 in
    let b = open_before net near n k p s small below closed table (subst (IsOpen net near n (suc k)) (sym is) h) in
    let row = readers_have net.edges near (n - 2 - k) (last_of p) s b.1 b.2 in
    subst (Has (longer_paths (readers_of net.edges near (n - 2 - k)) (level net near n k))) is
    (longer_has (readers_of net.edges near (n - 2 - k)) (level net near n k) p s (level_has net near n k p small (omega arith) closed table b.0) row)

-- a complete path
pub record IsWhole (net : Parts) (p : Path) : Type 0 where
  pub starts : Has net.inputs p.start
  pub leads : Leads net p.start p.steps

open_whole : (net : Parts) (near : List ℕ) (n k : ℕ) (p : Path) → n ≤ MOST_LENGTH → k < n → IsTable (n - 1) net near → IsOpen net near n k p → ends_at near p ≡ true → IsWhole net p
unfolding ends_at
open_whole net near n k p small below table h ends =
    let zero' = eqb-true (near_at near (last_of p)) 0 ends in
    let way = table.sound.way (last_of p) (omega arith) in
    let none : way.0 ≡ [] = nil_from_length way.0 (omega (arith, way.2)) in
    let out : Has net.outputs (last_edge (last_of p) []) = subst (λ ss. Has net.outputs (last_edge (last_of p) ss)) none way.1.ends in
    record { starts = h.starts; leads = record { path = h.path; ends = out } }

whole_open : (net : Parts) (near : List ℕ) (n k : ℕ) (p : Path) → k < n → IsClosed net → IsTable (n - 1) net near → IsWhole net p → length p.steps ≡ k → IsOpen net near n k p × (ends_at near p ≡ true)
unfolding ends_at
whole_open net near n k p below closed table h long =
    let inside = last_inside net.edges p.start p.steps (closed.inputs p.start h.starts) h.leads.path in
    let here : Leads net (last_of p) [] = record { path = tt; ends = h.leads.ends } in
    let least : near_at near (last_of p) ≤ 0 = table.knows.least (last_of p) [] inside here (omega arith) in
    (record { starts = h.starts; path = h.leads.path; long = long; close = omega arith }, eq-eqb (near_at near (last_of p)) 0 (omega arith))

pub Has-complete : (net : Parts) (near : List ℕ) (n k : ℕ) (p : Path) → n ≤ MOST_LENGTH → k ≤ n → IsTable (n - 1) net near → Has (complete_below net near n k) p → IsWhole net p × (length p.steps < k)
unfolding complete_below
Has-complete net near n zero p small below table h = absurd h
Has-complete net near n (suc k) p small below table h = elim (Has-append (complete_below net near n k) (filter (ends_at near) (level net near n k)) p h) [
  | inl l ↦ let r = Has-complete net near n k p small (omega arith) table l in (r.0, omega (arith, r.1))
  | inr l ↦ let f = Has-filter (ends_at near) (level net near n k) p l in
      let o = Has-level net near n k p f.0 in
      (open_whole net near n k p small (omega arith) table o f.1, omega (arith, o.long))
]

pub complete_has : (net : Parts) (near : List ℕ) (n k : ℕ) (p : Path) → n ≤ MOST_LENGTH → k ≤ n → IsClosed net → IsTable (n - 1) net near → IsWhole net p → length p.steps < k → Has (complete_below net near n k) p
unfolding complete_below
complete_has net near n zero p small below closed table h long = absurd (omega arith)
complete_has net near n (suc k) p small below closed table h long = elim (cases_lt (length p.steps) k) [
  | inl lt ↦ Has-append_left (complete_below net near n k) (filter (ends_at near) (level net near n k)) p (complete_has net near n k p small (omega arith) closed table h lt)
  | inr ge ↦ let o = whole_open net near n k p (omega arith) closed table h (omega arith) in
      Has-append_right (complete_below net near n k) (filter (ends_at near) (level net near n k)) p
      (filter_has (ends_at near) (level net near n k) p (level_has net near n k p small (omega arith) closed table o.0) o.1)
]
