-- One level after another.
use Rattle.std.proofs.Common.{◌≡◌, inl, inr, ℕ, ◌+◌, ◌-◌, ◌<◌, ◌≤◌, Bool, true, cond, List, [], ◌∷◌, ◌++◌, length, get_or, take, drop, map, refl, ap, sym, add-one, ◌∙◌, arith, slice_index_or}
use Rattle.std.specs.List.{filter}
use Rattle.std.proofs.lemmas.List.{take_more, take_all, map-append, length-append, take-append-drop}
use Rattle.std.proofs.lemmas.List.Elements.{filter-append}
use Rattle.op_network.specs.declared.edge.Edge.{Edge}
use Rattle.op_network.specs.declared.edge.EdgeId.{EdgeId}
use Rattle.op_network.specs.declared.edge.Parts.{Parts}
use Rattle.dep_paths.specs.declared.path.Step.{Step}
use Rattle.dep_paths.specs.declared.path.Path.{Path}
use Rattle.dep_paths.specs.Levels.{row_at, readers_of, AreReaderRows, last_of, pushed, is_near, start_path, first_level, longer_paths, ends_at, level, complete_below, IsTooLong}
use Rattle.dep_paths.specs.declared.limits.TheConstants.{MOST_PATHS}

pub start_added : (near : List ℕ) (room : ℕ) (e : EdgeId) (steps : List Step) (old new : List Path) → is_near near room e ≡ true → steps ≡ [] → new ≡ old ++ record { start = e; steps = steps } ∷ [] → new ≡ old ++ map start_path (filter (is_near near room) (e ∷ []))
unfolding start_path
start_added near room e steps old new close none is =
    is ∙ ap (λ (ss : List Step). let p : Path = record { start = e; steps = ss } in old ++ p ∷ []) none ∙ sym (ap (λ b. old ++ map start_path (cond b (e ∷ []) [])) close)

starts_cut : (q : EdgeId → Bool) (es : List EdgeId) (i : ℕ) (e : EdgeId) → i < length es → e ≡ slice_index_or es i e → map start_path (filter q (take (i + 1) es)) ≡ map start_path (filter q (take i es)) ++ map start_path (filter q (e ∷ []))
starts_cut q es i e h is =
    ap (λ r. map start_path (filter q r)) (take_more es i e h) ∙ ap (map start_path) (filter-append q (take i es) (get_or es i e ∷ [])) ∙ map-append start_path (filter q (take i es)) (filter q (get_or es i e ∷ []))
    ∙ ap (λ x. map start_path (filter q (take i es)) ++ map start_path (filter q (x ∷ []))) (sym is)

-- one input more
pub starts_step : (near : List ℕ) (room : ℕ) (es : List EdgeId) (old new : List Path) (i : ℕ) (e : EdgeId) → i < length es → e ≡ slice_index_or es i e → old ≡ map start_path (filter (is_near near room) (take i es)) → new ≡ old ++ map start_path (filter (is_near near room) (e ∷ [])) → new ≡ map start_path (filter (is_near near room) (take (i + 1) es))
starts_step near room es old new i e h is was now = now ∙ ap (λ r. r ++ map start_path (filter (is_near near room) (e ∷ []))) was ∙ sym (starts_cut (is_near near room) es i e h is)

pub starts_all : (near : List ℕ) (room : ℕ) (es : List EdgeId) (ps : List Path) (i : ℕ) → length es ≤ i → ps ≡ map start_path (filter (is_near near room) (take i es)) → ps ≡ first_level es near room
unfolding first_level
starts_all near room es ps i all is = is ∙ ap (λ r. map start_path (filter (is_near near room) r)) (take_all i es all)

pub starts_too_many : (near : List ℕ) (room : ℕ) (es : List EdgeId) (old : List Path) (i : ℕ) (e : EdgeId) → i < length es → e ≡ slice_index_or es i e → old ≡ map start_path (filter (is_near near room) (take i es)) → MOST_PATHS < length (old ++ map start_path (filter (is_near near room) (e ∷ []))) → MOST_PATHS < length (first_level es near room)
unfolding first_level
starts_too_many near room es old i e h is was many =
    let q = is_near near room in
    let now = starts_step near room es old (old ++ map start_path (filter q (e ∷ []))) i e h is was refl in
    let all : map start_path (filter q es) ≡ map start_path (filter q (take (i + 1) es)) ++ map start_path (filter q (drop (i + 1) es)) =
    ap (λ r. map start_path (filter q r)) (sym (take-append-drop (i + 1) es)) ∙ ap (map start_path) (filter-append q (take (i + 1) es) (drop (i + 1) es)) ∙ map-append start_path (filter q (take (i + 1) es)) (filter q (drop (i + 1) es)) in
    omega (arith, ap length now, ap length all, length-append (map start_path (filter q (take (i + 1) es))) (map start_path (filter q (drop (i + 1) es))))

same_rows : (f g : ℕ → List Step) (ps : List Path) → ((e : ℕ) → f e ≡ g e) → longer_paths f ps ≡ longer_paths g ps
unfolding longer_paths
same_rows f g [] h = refl
same_rows f g (p ∷ ps) h = ap (λ r. map (pushed p) r ++ longer_paths f ps) (h (last_of p).0) ∙ ap (λ r. map (pushed p) (g (last_of p).0) ++ r) (same_rows f g ps h)

pub same_readers : (edges : List Edge) (near : List ℕ) (room : ℕ) (rows : List (List Step)) (ps : List Path) → AreReaderRows edges near room rows → longer_paths (row_at rows) ps ≡ longer_paths (readers_of edges near room) ps
same_readers edges near room rows ps are = same_rows (row_at rows) (readers_of edges near room) ps are.each

pub level_zero : (net : Parts) (near : List ℕ) (n : ℕ) → level net near n 0 ≡ first_level net.inputs near (n - 1)
unfolding level
level_zero net near n = refl

level_more : (net : Parts) (near : List ℕ) (n k : ℕ) → level net near n (k + 1) ≡ longer_paths (readers_of net.edges near (n - 2 - k)) (level net near n k)
unfolding level
level_more net near n k = rw (add-one k) refl

pub complete_one : (net : Parts) (near : List ℕ) (n : ℕ) → complete_below net near n 1 ≡ filter (ends_at near) (level net near n 0)
unfolding complete_below
complete_one net near n = refl

complete_more : (net : Parts) (near : List ℕ) (n k : ℕ) → complete_below net near n (k + 1) ≡ complete_below net near n k ++ filter (ends_at near) (level net near n k)
unfolding complete_below
complete_more net near n k = rw (add-one k) refl

pub level_next : (net : Parts) (near : List ℕ) (n k : ℕ) (rows : List (List Step)) (old new : List Path) → AreReaderRows net.edges near (n - 2 - k) rows → old ≡ level net near n k → new ≡ longer_paths (row_at rows) old → new ≡ level net near n (k + 1)
level_next net near n k rows old new are was now = now ∙ same_readers net.edges near (n - 2 - k) rows old are ∙ ap (longer_paths (readers_of net.edges near (n - 2 - k))) was ∙ sym (level_more net near n k)

pub found_next : (net : Parts) (near : List ℕ) (n k : ℕ) (ls old new : List Path) → ls ≡ level net near n k → old ≡ complete_below net near n k → new ≡ old ++ filter (ends_at near) ls → new ≡ complete_below net near n (k + 1)
found_next net near n k ls old new is was now = now ∙ ap (λ r. r ++ filter (ends_at near) ls) was ∙ ap (λ r. complete_below net near n k ++ filter (ends_at near) r) is ∙ sym (complete_more net near n k)

pub too_long_start : (net : Parts) (near : List ℕ) (n : ℕ) → 1 ≤ n → MOST_PATHS < length (first_level net.inputs near (n - 1)) → IsTooLong net near n
too_long_start net near n pos many = record { steps = 0; below = omega arith; long = inl (omega (arith, ap length (level_zero net near n))) }

pub too_long_first : (net : Parts) (near : List ℕ) (n : ℕ) (ls old : List Path) → 1 ≤ n → ls ≡ first_level net.inputs near (n - 1) → old ≡ [] → MOST_PATHS < length (old ++ filter (ends_at near) ls) → IsTooLong net near n
too_long_first net near n ls old pos is none many =
    let e : old ++ filter (ends_at near) ls ≡ complete_below net near n (0 + 1) = rw none (ap (filter (ends_at near)) (is ∙ sym (level_zero net near n)) ∙ sym (complete_one net near n)) in
    record { steps = 0; below = omega arith; long = inr (omega (arith, ap length e)) }

pub too_long_level : (net : Parts) (near : List ℕ) (n k : ℕ) (rows : List (List Step)) (ls : List Path) → k < n - 1 → AreReaderRows net.edges near (n - 2 - k) rows → ls ≡ level net near n k → MOST_PATHS < length (longer_paths (row_at rows) ls) → IsTooLong net near n
too_long_level net near n k rows ls below are is many =
    record { steps = k + 1; below = omega arith; long = inl (omega (arith, ap length (level_next net near n k rows ls _ are is refl))) }

pub too_long_found : (net : Parts) (near : List ℕ) (n k : ℕ) (next old : List Path) → k < n - 1 → old ≡ complete_below net near n (k + 1) → next ≡ level net near n (k + 1) → MOST_PATHS < length (old ++ filter (ends_at near) next) → IsTooLong net near n
too_long_found net near n k next old below was is many =
    record { steps = k + 1; below = omega arith; long = inr (omega (arith, ap length (found_next net near n (k + 1) next old _ is was refl))) }
