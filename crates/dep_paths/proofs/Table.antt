-- The steps of the table of distances.
use Rattle.std.proofs.Common.{◌≡◌, ◌⊎◌, ⊎_elim, inl, inr, ℕ, zero, suc, ◌+◌, ◌<◌, ◌≤◌, List, [], ◌∷◌, ◌++◌, Option, Some, None, length, get_or, take, refl, ap, sym, ◌∙◌, subst, arith, slice_index_or, slice_set, slice_get}
use Rattle.std.proofs.lemmas.Bool.{cases_eq, cases_lt}
use Rattle.std.proofs.lemmas.List.{get_or-set_same, get_or-set_other, get_or_default, take_more, take_all, set_past}
use Rattle.std.proofs.lemmas.Option.{slice_get_within}
use Rattle.op_network.specs.declared.edge.Edge.{Edge}
use Rattle.op_network.specs.declared.edge.EdgeId.{EdgeId}
use Rattle.op_network.specs.declared.edge.Parts.{Parts}
use Rattle.op_network.specs.Operators.{operands_in, operands_of}
use Rattle.dep_paths.specs.declared.path.Step.{Step}
use Rattle.dep_paths.specs.Has.{Has}
use Rattle.dep_paths.specs.Paths.{operand_of}
use Rattle.dep_paths.specs.Near.{near_at, Leads, IsSound, Knows, AllNear, NoneRose, CountsPorts, CountsEdges, AreMarked}
use Rattle.dep_paths.specs.declared.limits.TheConstants.{FAR}

-- an edge is its number
pub same_id : (a b : EdgeId) → a.0 ≡ b.0 → a ≡ b
same_id a b h = ap (λ (n : ℕ). let e : EdgeId = record { 0 = n } in e) h

pub sound_step : (net : Parts) (near : List ℕ) (s : Step) (before : EdgeId) (w : ℕ) → operand_of net.edges s ≡ Some before → IsSound net near → before.0 < length near → s.edge.0 < length near → w ≡ slice_index_or near s.edge.0 0 → w < FAR → IsSound net (slice_set near before.0 (w + 1))
sound_step net near s before w reads sound inside edge is small = record {
  way = λ e close.
      let here : near_at near s.edge ≡ w = get_or_default near s.edge.0 FAR 0 edge ∙ sym is in
      let found = sound.way s.edge (omega arith) in
      ⊎_elim
      (λ same. let now : near_at (slice_set near before.0 (w + 1)) e ≡ w + 1 = rw same (get_or-set_same near before.0 (w + 1) FAR inside) in
      (s ∷ found.0, record { path = (subst (λ a. operand_of net.edges s ≡ Some a) (sym (same_id e before same)) reads, found.1.path); ends = found.1.ends }, omega (arith, found.2)))
      (λ apart. let now : near_at (slice_set near before.0 (w + 1)) e ≡ near_at near e = get_or-set_other near before.0 e.0 (w + 1) FAR apart in
      let old = sound.way e (omega arith) in (old.0, old.1, omega (arith, old.2)))
      (cases_eq e.0 before.0);
}

edge_of : (o : Option Edge) (xs : List Edge) (e p : ℕ) (a : EdgeId) → slice_get xs e ≡ o → slice_get (operands_in o) p ≡ Some a → e < length xs
edge_of None xs e p a is h = cc
edge_of (Some edge) xs e p a is h = slice_get_within xs e edge is

-- what has an operand is an edge
pub edge_inside : (edges : List Edge) (s : Step) (a : EdgeId) → operand_of edges s ≡ Some a → s.edge.0 < length edges
edge_inside edges s a h = edge_of (slice_get edges s.edge.0) edges s.edge.0 s.port a refl h

pub port_inside : (edges : List Edge) (s : Step) (a : EdgeId) → operand_of edges s ≡ Some a → s.port < length (operands_of edges s.edge)
port_inside edges s a h = slice_get_within (operands_of edges s.edge) s.port a h

pub ports_none : (edges : List Edge) (edge : EdgeId) (old new : List ℕ) → CountsPorts edges edge 0 old new
ports_none edges edge old new = record { done = λ p e below reads. absurd (omega arith) }

-- one port more
pub ports_more : (edges : List Edge) (edge : EdgeId) (port : ℕ) (old before new : List ℕ) → CountsPorts edges edge port old before → NoneRose old before → NoneRose before new
    → ((e : EdgeId) → operand_of edges (record { edge = edge; port = port }) ≡ Some e → near_at new e ≤ near_at before edge + 1) → CountsPorts edges edge (port + 1) old new
ports_more edges edge port old before new counted rose lower here = record {
  done = λ p e below reads. ⊎_elim
      (λ same. omega (arith, here e (subst (λ q. operand_of edges (record { edge = edge; port = q }) ≡ Some e) same reads), rose.lower edge))
      (λ apart. omega (arith, counted.done p e (omega arith) reads, lower.lower e))
      (cases_eq p port);
}

pub none_rose : (old : List ℕ) → NoneRose old old
none_rose old = record { lower = λ e. omega arith }

pub rose_more : (old before new : List ℕ) → NoneRose old before → NoneRose before new → NoneRose old new
rose_more old before new a b = record { lower = λ e. omega (arith, a.lower e, b.lower e) }

pub edges_none : (edges : List Edge) (old new : List ℕ) → CountsEdges edges 0 old new
edges_none edges old new = record { done = λ s e below reads. absurd (omega arith) }

-- one edge more
pub edges_more : (edges : List Edge) (edge : ℕ) (ports : ℕ) (old before new : List ℕ) → CountsEdges edges edge old before → NoneRose old before → NoneRose before new
    → ports ≡ length (operands_of edges (record { 0 = edge })) → CountsPorts edges (record { 0 = edge }) ports before new → CountsEdges edges (edge + 1) old new
edges_more edges edge ports old before new counted rose lower is here = record {
  done = λ s e below reads. ⊎_elim
      (λ same.
      let id : s.edge ≡ record { 0 = edge } = same_id s.edge (record { 0 = edge }) same in
      let at : operand_of edges (record { edge = record { 0 = edge }; port = s.port }) ≡ Some e = subst (λ (i : EdgeId). operand_of edges (record { edge = i; port = s.port }) ≡ Some e) id reads in
      let bound = here.done s.port e (omega (arith, is, port_inside edges (record { edge = record { 0 = edge }; port = s.port }) e at)) at in
      omega (arith, bound, rose.lower (record { 0 = edge }), ap (near_at old) id))
      (λ apart. omega (arith, counted.done s e (omega arith) reads, lower.lower e))
      (cases_eq s.edge.0 edge);
}

least_more : (net : Parts) (old new : List ℕ) (r : ℕ) → NoneRose old new → CountsEdges net.edges (length net.edges) old new → Knows r net old → (e : EdgeId) (steps : List Step) → e.0 < length net.edges → Leads net e steps → length steps ≤ r + 1 → near_at new e ≤ length steps
least_more net old new r lower counted knows e [] inside leads few =
    omega (arith, lower.lower e, knows.least e [] inside leads (omega arith))
least_more net old new r lower counted knows e (s ∷ steps) inside leads few =
    let rest : Leads net s.edge steps = record { path = leads.path.1; ends = leads.ends } in
    let at = edge_inside net.edges s e leads.path.0 in
    omega (arith, counted.done s e at leads.path.0, knows.least s.edge steps at rest (omega arith))

-- one step more
pub knows_more : (net : Parts) (old new : List ℕ) (r : ℕ) → NoneRose old new → CountsEdges net.edges (length net.edges) old new → Knows r net old → Knows (r + 1) net new
knows_more net old new r lower counted knows = record { least = least_more net old new r lower counted knows }

least_none : (net : Parts) (near : List ℕ) → AreMarked near net.outputs → (e : EdgeId) (steps : List Step) → e.0 < length net.edges → Leads net e steps → length steps ≤ 0 → near_at near e ≤ length steps
least_none net near marked e [] inside leads few = omega (arith, marked.marked e leads.ends)
least_none net near marked e (s ∷ steps) inside leads few = absurd (omega arith)

pub knows_none : (net : Parts) (near : List ℕ) (n : ℕ) → length net.outputs ≤ n → AreMarked near (take n net.outputs) → Knows 0 net near
knows_none net near n all marked = record { least = least_none net near (subst (AreMarked near) (take_all n net.outputs all) marked) }

pub sound_fresh : (net : Parts) (near : List ℕ) → ((e : EdgeId) → FAR ≤ near_at near e) → IsSound net near
sound_fresh net near fresh = record { way = λ e close. absurd (omega (arith, fresh e)) }

pub sound_mark : (net : Parts) (near : List ℕ) (o : EdgeId) → Has net.outputs o → o.0 < length near → IsSound net near → IsSound net (slice_set near o.0 0)
sound_mark net near o has inside sound = record {
  way = λ e close. ⊎_elim
      (λ same. let now : near_at (slice_set near o.0 0) e ≡ 0 = rw same (get_or-set_same near o.0 0 FAR inside) in
      ([], record { path = tt; ends = subst (Has net.outputs) (sym (same_id e o same)) has }, omega arith))
      (λ apart. let now : near_at (slice_set near o.0 0) e ≡ near_at near e = get_or-set_other near o.0 e.0 0 FAR apart in
      let old = sound.way e (omega arith) in (old.0, old.1, omega (arith, old.2)))
      (cases_eq e.0 o.0);
}

pub Has-get_or : {X : Type 0} (xs : List X) (i : ℕ) (d : X) → i < length xs → Has xs (get_or xs i d)
Has-get_or [] i d h = absurd (omega arith)
Has-get_or (x ∷ xs) zero d h = inl refl
Has-get_or (x ∷ xs) (suc i) d h = inr (Has-get_or xs i d (omega arith))

Has-append : {X : Type 0} (xs ys : List X) (x : X) → Has (xs ++ ys) x → Has xs x ⊎ Has ys x
Has-append [] ys x h = inr h
Has-append (y ∷ xs) ys x h = elim h [ inl e ↦ inl (inl e) | inr r ↦ elim (Has-append xs ys x r) [ inl a ↦ inl (inr a) | inr b ↦ inr b ] ]

pub marked_none : (near : List ℕ) (es : List EdgeId) → AreMarked near (take 0 es)
marked_none near es = record { marked = λ e h. absurd h }

-- one more output is marked
pub marked_more : (outputs : List EdgeId) (near : List ℕ) (i : ℕ) (o : EdgeId) → i < length outputs → o ≡ get_or outputs i o → o.0 < length near → AreMarked near (take i outputs) → AreMarked (slice_set near o.0 0) (take (i + 1) outputs)
marked_more outputs near i o inside is below before = record {
  marked = λ e has. ⊎_elim
      (λ same. rw same (get_or-set_same near o.0 0 FAR below))
      (λ apart. get_or-set_other near o.0 e.0 0 FAR apart ∙ elim (Has-append (take i outputs) (get_or outputs i o ∷ []) e (subst (λ es. Has es e) (take_more outputs i o inside) has)) [
        | inl h ↦ before.marked e h
        | inr h ↦ elim h [ inl t ↦ absurd (apart (ap (λ (x : EdgeId). x.0) (sym t ∙ sym is))) | inr t ↦ absurd t ]
      ])
      (cases_eq e.0 o.0);
}

pub has_at : (xs : List EdgeId) (i : ℕ) (x : EdgeId) → i < length xs → x ≡ get_or xs i x → Has xs x
has_at xs i x h is = subst (Has xs) (sym is) (Has-get_or xs i x h)

pub all_set : (near : List ℕ) (o v : ℕ) → v ≤ FAR → AllNear near → AllNear (slice_set near o v)
all_set near o v small all = record {
  most = λ e. ⊎_elim
      (λ same. rw same (⊎_elim (λ below. omega (arith, get_or-set_same near o v FAR below)) (λ past. rw (set_past near o v past) (all.most (record { 0 = o }))) (cases_lt o (length near))))
      (λ apart. rw (get_or-set_other near o e.0 v FAR apart) (all.most e))
      (cases_eq e.0 o);
}
