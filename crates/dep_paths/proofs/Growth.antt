-- The rows of readers, and paths with a step more.
use Rattle.std.proofs.Common.{◌≡◌, ◌≢◌, ⊎_elim, ℕ, zero, suc, ◌+◌, ◌-◌, ◌<◌, ◌≤◌, Bool, true, false, cond, ◌&&◌, List, [], ◌∷◌, ◌++◌, Some, None, length, get_or, take, drop, map, reverse, refl, ap, sym, append_assoc, ◌∙◌, subst, arith, slice_index_or, slice_set, replicate}
use Rattle.std.specs.List.{flat_map, filter, range_with_len}
use Rattle.std.proofs.lemmas.Bool.{cases_eq, lt-leb, le-leb, eq-eqb, ne_eqb}
use Rattle.std.proofs.lemmas.List.{get_or-set_same, get_or-set_other, get_or_default, take_more, take_all, append-nil, reverse-append, reverse-reverse, map-id, length-append, length-map, take-append-drop}
use Rattle.std.proofs.lemmas.List.FromFn.{map-range_with_len_more}
use Rattle.std.proofs.lemmas.List.Concat.{flat_map-append}
use Rattle.std.proofs.lemmas.List.Elements.{filter-append}
use Rattle.op_network.specs.declared.edge.Edge.{Edge}
use Rattle.op_network.specs.declared.edge.EdgeId.{EdgeId}
use Rattle.op_network.specs.Operators.{operands_of}
use Rattle.dep_paths.specs.declared.path.Step.{Step}
use Rattle.dep_paths.specs.declared.path.Path.{Path}
use Rattle.dep_paths.specs.Paths.{last_edge, operand_of}
use Rattle.dep_paths.specs.Near.{near_at}
use Rattle.dep_paths.specs.Levels.{last_of, step_at, steps_through, steps_into, steps_below, leads_on, readers_of, row_at, AddsReaders, AreReaderRows, pushed, longer_paths}
use Rattle.dep_paths.specs.declared.limits.TheConstants.{MOST_PATHS, FAR}

pub last-push : (e : EdgeId) (ss : List Step) (s : Step) → last_edge e (ss ++ s ∷ []) ≡ s.edge
last-push e [] s = refl
last-push e (t ∷ ss) s = last-push t.edge ss s

pub last_is : (e : EdgeId) (ss : List Step) (d : Step) → 0 < length ss → last_edge e ss ≡ (slice_index_or ss (length ss - 1) d).edge
last_is e ss d h =
    let n = length ss - 1 in
    let split : ss ≡ take n ss ++ get_or ss n d ∷ [] = sym (take_all (n + 1) ss (omega arith)) ∙ take_more ss n d (omega arith) in
    ap (last_edge e) split ∙ last-push e (take n ss) (get_or ss n d)

pub and_no : (a b : Bool) → b ≡ false → (a && b) ≡ false
and_no true b h = h
and_no false b h = refl

pub no_and : (a b : Bool) → a ≡ false → (a && b) ≡ false
no_and a b h = rw h refl

pub and_yes : (a b : Bool) → a ≡ true → b ≡ true → (a && b) ≡ true
and_yes a b h k = rw (h, k) refl

-- a step that nothing reads, or that is too far, leads on to nothing
pub leads_none : (edges : List Edge) (near : List ℕ) (room e : ℕ) (s : Step) → operand_of edges s ≡ None → leads_on edges near room e s ≡ false
unfolding leads_on
leads_none edges near room e s h = rw h refl

pub leads_far : (edges : List Edge) (near : List ℕ) (room e : ℕ) (s : Step) → room < near_at near s.edge → leads_on edges near room e s ≡ false
unfolding leads_on
leads_far edges near room e s h = and_no _ _ (lt-leb (near_at near s.edge) room h)

pub leads_here : (edges : List Edge) (near : List ℕ) (room : ℕ) (a : EdgeId) (s : Step) → operand_of edges s ≡ Some a → near_at near s.edge ≤ room → leads_on edges near room a.0 s ≡ true
unfolding leads_on
leads_here edges near room a s h close = rw h (and_yes _ _ (eq-eqb a.0 a.0 refl) (le-leb (near_at near s.edge) room close))

pub leads_elsewhere : (edges : List Edge) (near : List ℕ) (room : ℕ) (a : EdgeId) (e : ℕ) (s : Step) → operand_of edges s ≡ Some a → e ≢ a.0 → leads_on edges near room e s ≡ false
unfolding leads_on
leads_elsewhere edges near room a e s h apart = rw h (no_and _ _ (ne_eqb a.0 e (λ same. apart (sym same))))

pub nothing_kept : {X : Type 0} (row : List X) (s : X) (b : Bool) → b ≡ false → row ≡ row ++ cond b (s ∷ []) []
nothing_kept row s b h = rw h (sym (append-nil row))

pub row_kept : (edges : List Edge) (near : List ℕ) (rows : List (List Step)) (room : ℕ) (a : EdgeId) (e : ℕ) (s : Step) → operand_of edges s ≡ Some a → near_at near s.edge ≤ room → a.0 < length rows
    → row_at (slice_set rows a.0 (row_at rows a.0 ++ s ∷ [])) e ≡ row_at rows e ++ cond (leads_on edges near room e s) (s ∷ []) []
row_kept edges near rows room a e s reads close inside = ⊎_elim
    (λ same. rw same (get_or-set_same rows a.0 (row_at rows a.0 ++ s ∷ []) [] inside ∙ sym (ap (λ b. row_at rows a.0 ++ cond b (s ∷ []) []) (leads_here edges near room a s reads close))))
    (λ apart. get_or-set_other rows a.0 e (row_at rows a.0 ++ s ∷ []) [] apart ∙ nothing_kept (row_at rows e) s _ (leads_elsewhere edges near room a e s reads apart))
    (cases_eq e a.0)

pub pushed_is : (p : Path) (s : Step) (steps : List Step) → steps ≡ p.steps ++ s ∷ [] → record { start = p.start; steps = steps } ≡ pushed p s
unfolding pushed
pushed_is p s steps h = rw h refl

near_default : (near : List ℕ) (e : EdgeId) → e.0 < length near → near_at near e ≡ slice_index_or near e.0 0
near_default near e h = get_or_default near e.0 FAR 0 h

-- what was read and written is one step more
pub reader_added : (edges : List Edge) (near : List ℕ) (rows : List (List Step)) (room : ℕ) (a : EdgeId) (s : Step) (d new : List Step) → operand_of edges s ≡ Some a → s.edge.0 < length near → slice_index_or near s.edge.0 0 ≤ room → a.0 < length rows
    → new ≡ slice_index_or rows a.0 d ++ s ∷ []
    → AddsReaders edges near room (s ∷ []) rows (slice_set rows a.0 new)
reader_added edges near rows room a s d new reads edge close inside written =
    let now : new ≡ row_at rows a.0 ++ s ∷ [] = written ∙ ap (λ r. r ++ s ∷ []) (get_or_default rows a.0 d [] inside) in
    record { each = λ e. rw now (row_kept edges near rows room a e s reads (omega (arith, near_default near s.edge edge)) inside) }

-- an output is too far
pub reader_far : (edges : List Edge) (near : List ℕ) (rows : List (List Step)) (room : ℕ) (s : Step) → s.edge.0 < length near → room < slice_index_or near s.edge.0 0 → AddsReaders edges near room (s ∷ []) rows rows
reader_far edges near rows room s edge far = record { each = λ e. nothing_kept (row_at rows e) s _ (leads_far edges near room e s (omega (arith, near_default near s.edge edge))) }

pub adds_none : (edges : List Edge) (near : List ℕ) (room : ℕ) (rows : List (List Step)) → AddsReaders edges near room [] rows rows
adds_none edges near room rows = record { each = λ e. sym (append-nil (row_at rows e)) }

pub adds_append : (edges : List Edge) (near : List ℕ) (room : ℕ) (ss ts : List Step) (old mid new : List (List Step)) → AddsReaders edges near room ss old mid → AddsReaders edges near room ts mid new → AddsReaders edges near room (ss ++ ts) old new
adds_append edges near room ss ts old mid new a b = record {
  each = λ e. b.each e ∙ ap (λ r. r ++ filter (leads_on edges near room e) ts) (a.each e) ∙ append_assoc (row_at old e) (filter (leads_on edges near room e) ss) (filter (leads_on edges near room e) ts) ∙ ap (λ r. row_at old e ++ r) (sym (filter-append (leads_on edges near room e) ss ts));
}

pub range_more : (n : ℕ) → range_with_len 0 (n + 1) ≡ range_with_len 0 n ++ n ∷ []
range_more n = sym (map-id (range_with_len 0 (n + 1))) ∙ map-range_with_len_more (λ i. i) 0 n n (omega arith) ∙ ap (λ r. r ++ n ∷ []) (map-id (range_with_len 0 n))

-- one port more
pub through_more : (edges : List Edge) (near : List ℕ) (room : ℕ) (e : EdgeId) (port : ℕ) (old mid new : List (List Step)) → AddsReaders edges near room (steps_through e port) old mid → AddsReaders edges near room (record { edge = e; port = port } ∷ []) mid new → AddsReaders edges near room (steps_through e (port + 1)) old new
through_more edges near room e port old mid new a b = subst (λ ss. AddsReaders edges near room ss old new) (sym (map-range_with_len_more (step_at e) 0 port port (omega arith)))
    (adds_append edges near room (steps_through e port) (step_at e port ∷ []) old mid new a b)

pub through_all : (edges : List Edge) (near : List ℕ) (room : ℕ) (e : EdgeId) (ports n : ℕ) (old new : List (List Step)) → ports ≡ length (operands_of edges e) → ports ≤ n → n ≤ ports → AddsReaders edges near room (steps_through e n) old new → AddsReaders edges near room (steps_into edges e.0) old new
through_all edges near room e ports n old new is low high h = let same : n ≡ length (operands_of edges e) = omega arith in subst (λ m. AddsReaders edges near room (steps_through e m) old new) same h

-- one edge more
pub below_more : (edges : List Edge) (near : List ℕ) (room i : ℕ) (old mid new : List (List Step)) → AddsReaders edges near room (steps_below edges i) old mid → AddsReaders edges near room (steps_into edges i) mid new → AddsReaders edges near room (steps_below edges (i + 1)) old new
below_more edges near room i old mid new a b =
    let more : steps_below edges (i + 1) ≡ steps_below edges i ++ steps_into edges i = ap (flat_map (steps_into edges)) (range_more i) ∙ flat_map-append (steps_into edges) (range_with_len 0 i) (i ∷ []) ∙ ap (λ r. steps_below edges i ++ r) (append-nil (steps_into edges i)) in
    subst (λ ss. AddsReaders edges near room ss old new) (sym more) (adds_append edges near room (steps_below edges i) (steps_into edges i) old mid new a b)

empty_row : (n e : ℕ) → row_at (replicate n []) e ≡ []
empty_row zero e = refl
empty_row (suc n) zero = refl
empty_row (suc n) (suc e) = empty_row n e

pub rows_are : (edges : List Edge) (near : List ℕ) (room n : ℕ) (old rows : List (List Step)) → length edges ≤ n → n ≤ length edges → old ≡ replicate (length edges) [] → AddsReaders edges near room (steps_below edges n) old rows → AreReaderRows edges near room rows
unfolding readers_of
rows_are edges near room n old rows low high fresh h = let same : n ≡ length edges = omega arith in record {
  each = λ e. h.each e ∙ ap (λ r. r ++ filter (leads_on edges near room e) (steps_below edges n)) (ap (λ r. row_at r e) fresh ∙ empty_row (length edges) e) ∙ ap (λ m. filter (leads_on edges near room e) (steps_below edges m)) same;
}

pub longer_none : (rows : ℕ → List Step) → longer_paths rows [] ≡ []
unfolding longer_paths
longer_none rows = refl

pub longer_cons : (rows : ℕ → List Step) (p : Path) (ps : List Path) → longer_paths rows (p ∷ ps) ≡ map (pushed p) (rows (last_of p).0) ++ longer_paths rows ps
unfolding longer_paths
longer_cons rows p ps = refl

reverse_push : (old rest : List Path) (p : Path) → old ≡ rest ++ p ∷ [] → reverse old ≡ p ∷ reverse rest
reverse_push old rest p is = ap reverse is ∙ reverse-append rest (p ∷ [])

-- one path more, the last of those that stand in reverse
pub longer_step : (rows : ℕ → List Step) (whole_level next new old rest : List Path) (p : Path) → next ++ longer_paths rows (reverse old) ≡ longer_paths rows whole_level → old ≡ rest ++ p ∷ [] → new ≡ next ++ map (pushed p) (rows (last_of p).0)
    → new ++ longer_paths rows (reverse rest) ≡ longer_paths rows whole_level
longer_step rows whole_level next new old rest p whole is now =
    ap (λ r. r ++ longer_paths rows (reverse rest)) now ∙ append_assoc next (map (pushed p) (rows (last_of p).0)) (longer_paths rows (reverse rest)) ∙ ap (λ r. next ++ r) (sym (longer_cons rows p (reverse rest)) ∙ ap (longer_paths rows) (sym (reverse_push old rest p is))) ∙ whole

pub longer_too_many : (rows : ℕ → List Step) (whole_level next old rest : List Path) (p : Path) → next ++ longer_paths rows (reverse old) ≡ longer_paths rows whole_level → old ≡ rest ++ p ∷ [] → MOST_PATHS < length next + length (rows (last_of p).0) → MOST_PATHS < length (longer_paths rows whole_level)
longer_too_many rows whole_level next old rest p whole is many =
    let cut = ap (longer_paths rows) (reverse_push old rest p is) ∙ longer_cons rows p (reverse rest) in
    omega (arith, ap length whole, length-append next (longer_paths rows (reverse old)), ap length cut, length-append (map (pushed p) (rows (last_of p).0)) (longer_paths rows (reverse rest)), length-map (rows (last_of p).0) (pushed p))

pub longer_first : (rows : ℕ → List Step) (whole_level rest : List Path) → rest ≡ reverse whole_level → [] ++ longer_paths rows (reverse rest) ≡ longer_paths rows whole_level
longer_first rows whole_level rest is = ap (λ r. longer_paths rows (reverse r)) is ∙ ap (longer_paths rows) (reverse-reverse whole_level)

pub longer_all : (rows : ℕ → List Step) (whole_level next rest : List Path) → next ++ longer_paths rows (reverse rest) ≡ longer_paths rows whole_level → rest ≡ [] → next ≡ longer_paths rows whole_level
longer_all rows whole_level next rest whole none = sym (append-nil next) ∙ ap (λ r. next ++ r) (sym (longer_none rows)) ∙ ap (λ r. next ++ longer_paths rows (reverse r)) (sym none) ∙ whole

-- what passes of the first items is part of what passes
pub filter_too_many : {X : Type 0} (q : X → Bool) (old now xs : List X) (i : ℕ) (x : X) → i < length xs → x ≡ slice_index_or xs i x → now ≡ old ++ filter q (take i xs) → MOST_PATHS < length (now ++ filter q (x ∷ [])) → MOST_PATHS < length (old ++ filter q xs)
filter_too_many q old now xs i x h is was many =
    let more : filter q (take (i + 1) xs) ≡ filter q (take i xs) ++ filter q (x ∷ []) = ap (filter q) (take_more xs i x h) ∙ filter-append q (take i xs) (get_or xs i x ∷ []) ∙ ap (λ y. filter q (take i xs) ++ filter q (y ∷ [])) (sym is) in
    let all : filter q xs ≡ filter q (take (i + 1) xs) ++ filter q (drop (i + 1) xs) = ap (filter q) (sym (take-append-drop (i + 1) xs)) ∙ filter-append q (take (i + 1) xs) (drop (i + 1) xs) in
    omega (arith, length-append old (filter q xs), length-append now (filter q (x ∷ [])), ap length was, length-append old (filter q (take i xs)), ap length all, length-append (filter q (take (i + 1) xs)) (filter q (drop (i + 1) xs)), ap length more, length-append (filter q (take i xs)) (filter q (x ∷ [])))

-- one item more
pub filter_step : {X : Type 0} (q : X → Bool) (old now new xs : List X) (i : ℕ) (x : X) → i < length xs → x ≡ slice_index_or xs i x → now ≡ old ++ filter q (take i xs) → new ≡ now ++ filter q (x ∷ []) → new ≡ old ++ filter q (take (i + 1) xs)
filter_step q old now new xs i x h is was so =
    let more : filter q (take (i + 1) xs) ≡ filter q (take i xs) ++ filter q (x ∷ []) = ap (filter q) (take_more xs i x h) ∙ filter-append q (take i xs) (get_or xs i x ∷ []) ∙ ap (λ y. filter q (take i xs) ++ filter q (y ∷ [])) (sym is) in
    so ∙ ap (λ r. r ++ filter q (x ∷ [])) was ∙ append_assoc old (filter q (take i xs)) (filter q (x ∷ [])) ∙ ap (λ r. old ++ r) (sym more)
