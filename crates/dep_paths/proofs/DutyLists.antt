-- The obligations of one path more, and how many they are.
use Rattle.std.proofs.Common.{◌≡◌, ℕ, zero, suc, ◌+◌, ◌*◌, ◌<◌, ◌≤◌, Bool, true, false, if◌then◌else◌, List, [], ◌∷◌, ◌++◌, Option, Some, length, map, take, get_or, refl, ap, sym, ◌∙◌, arith, length-append, add-one}
use Rattle.std.specs.List.{enumerate_from, flat_map, range_with_len}
use Rattle.std.proofs.lemmas.List.{get_or-map, length-map, map-append}
use Rattle.std.proofs.lemmas.List.FromFn.{length-map-range_with_len}
use Rattle.std.proofs.lemmas.Simd.{map-map}
use Rattle.op_network.specs.declared.edge.Edge.{Edge}
use Rattle.op_network.specs.declared.edge.EdgeId.{EdgeId}
use Rattle.dep_paths.specs.declared.path.Condition.{Condition}
use Rattle.dep_paths.specs.declared.path.Obligation.{Obligation}
use Rattle.dep_paths.specs.declared.path.Obligation.TheVariants.{Bc, Ecc, Mcc}
use Rattle.dep_paths.specs.declared.path.Path.{Path}
use Rattle.dep_paths.specs.declared.path.Pin.{Pin}
use Rattle.dep_paths.specs.declared.path.Step.{Step}
use Rattle.dep_paths.specs.Conditions.{conditions, is_truth_edge}
use Rattle.dep_paths.specs.Duties.{basic_coverage, condition_duties, duties, each_or_plain, edges_on, elementary_conditions, elementary_duties, multiple_conditions, multiple_duties, observable_conditions, path_duties, pin_at, pins_at, pins_on, truths_of}
use Rattle.dep_paths.proofs.Numbering.{length_take, numbered_more}

-- ---- pins

-- the edge behind a step
edge_at : (p : Path) (i : ℕ) (d : EdgeId) (s : Step) → i < length p.steps → get_or (edges_on p) (i + 1) d ≡ (get_or p.steps i s).edge
edge_at p i d s h = rw add-one (get_or-map (λ (s : Step). s.edge) p.steps i s d h)

pub length_edges : (p : Path) → length (edges_on p) ≡ length p.steps + 1
length_edges p = omega (arith, length-map p.steps (λ (s : Step). s.edge))

steps_more : (edges : List Edge) (p : Path) (i : ℕ) (s : Step) → i < length p.steps → flat_map (pins_at edges) (enumerate_from 0 (take (i + 1 + 1) (edges_on p))) ≡ flat_map (pins_at edges) (enumerate_from 0 (take (i + 1) (edges_on p))) ++ pins_at edges (i + 1, (get_or p.steps i s).edge)
steps_more edges p i s h =
    numbered_more (pins_at edges) (edges_on p) (i + 1) p.start (omega (arith, length_edges p))
    ∙ ap (λ (e : EdgeId). flat_map (pins_at edges) (enumerate_from 0 (take (i + 1) (edges_on p))) ++ pins_at edges (i + 1, e)) (edge_at p i p.start s h)

-- the pins of the first steps and of the next one
pub pins_more : (edges : List Edge) (p : Path) (items : List Step) (i : ℕ) (s : Step) → items ≡ p.steps → i < length items → flat_map (pins_at edges) (enumerate_from 0 (take (i + 1 + 1) (edges_on p))) ≡ flat_map (pins_at edges) (enumerate_from 0 (take (i + 1) (edges_on p))) ++ pins_at edges (i + 1, (get_or items i s).edge)
pins_more edges p items i s same h =
    steps_more edges p i s (omega (arith, ap (length {A = Step}) same))
    ∙ ap (λ (steps : List Step). flat_map (pins_at edges) (enumerate_from 0 (take (i + 1) (edges_on p))) ++ pins_at edges (i + 1, (get_or steps i s).edge)) (sym same)

-- the same of what comes of each pin
pub mapped_pins_more : (g : Pin → Obligation) (edges : List Edge) (p : Path) (items : List Step) (i : ℕ) (s : Step) → items ≡ p.steps → i < length items → map g (flat_map (pins_at edges) (enumerate_from 0 (take (i + 1 + 1) (edges_on p)))) ≡ map g (flat_map (pins_at edges) (enumerate_from 0 (take (i + 1) (edges_on p)))) ++ map g (pins_at edges (i + 1, (get_or items i s).edge))
mapped_pins_more g edges p items i s same h =
    ap (map g) (pins_more edges p items i s same h)
    ∙ map-append g (flat_map (pins_at edges) (enumerate_from 0 (take (i + 1) (edges_on p)))) (pins_at edges (i + 1, (get_or items i s).edge))

if_few : (b : Bool) → length (if b then true ∷ false ∷ [] else []) ≤ 2
if_few true = omega arith
if_few false = omega arith

pub few_truths : (edges : List Edge) (e : EdgeId) → length (truths_of edges e) ≤ 2
few_truths edges e = if_few (is_truth_edge edges e)

-- how many pins there are by a step more
pub pin_count_more : (edges : List Edge) (p : Path) (items : List Step) (i : ℕ) (s : Step) → items ≡ p.steps → i < length items → length (flat_map (pins_at edges) (enumerate_from 0 (take (i + 1 + 1) (edges_on p)))) ≡ length (flat_map (pins_at edges) (enumerate_from 0 (take (i + 1) (edges_on p)))) + length (truths_of edges (get_or items i s).edge)
pin_count_more edges p items i s same h =
    ap length (pins_more edges p items i s same h)
    ∙ length-append (flat_map (pins_at edges) (enumerate_from 0 (take (i + 1) (edges_on p)))) (pins_at edges (i + 1, (get_or items i s).edge))
    ∙ ap (λ n. length (flat_map (pins_at edges) (enumerate_from 0 (take (i + 1) (edges_on p)))) + n) (length-map (truths_of edges (get_or items i s).edge) (pin_at (i + 1)))

-- ---- one for each, or a plain one

-- where there is one, none is plain
pub none_plain : {X O : Type 0} (f : Option X → O) (xs : List X) → (length (map (λ x. f (Some x)) xs) ≡ 0 → ⊥) → map f (each_or_plain xs) ≡ map (λ x. f (Some x)) xs
none_plain f [] some = absurd (some refl)
none_plain f (x ∷ xs) some = ap (λ ys. f (Some x) ∷ ys) (map-map f Some xs)

pub length_each : {X : Type 0} (xs : List X) (n m : ℕ) → n ≡ length xs → m ≡ length (each_or_plain xs) → (n ≡ 0 → m ≡ 1) × (1 ≤ n → m ≡ n)
length_each [] n m e k = (λ _. k, λ some. omega arith)
length_each (x ∷ xs) n m e k = (λ none. omega arith, λ _. omega (arith, length-map xs Some))

-- ---- how many obligations there are

pub length_elementary : (edges : List Edge) (i j : ℕ) (p : Path) → length (elementary_duties edges (i, p)) ≡ length (elementary_duties edges (j, p))
length_elementary edges i j p = length-map (each_or_plain (truths_of edges p.start)) (Ecc i) ∙ sym (length-map (each_or_plain (truths_of edges p.start)) (Ecc j))

pub length_multiple : (edges : List Edge) (i j : ℕ) (p : Path) → length (multiple_duties edges (i, p)) ≡ length (multiple_duties edges (j, p))
length_multiple edges i j p = length-map (each_or_plain (pins_on edges p)) (Mcc i) ∙ sym (length-map (each_or_plain (pins_on edges p)) (Mcc j))

length_path_duties : (edges : List Edge) (ps : List Path) → length (path_duties edges ps) ≡ length ps + length (elementary_conditions edges ps) + length (multiple_conditions edges ps)
length_path_duties edges ps =
    length-append (basic_coverage ps ++ elementary_conditions edges ps) (multiple_conditions edges ps)
    ∙ ap (λ n. n + length (multiple_conditions edges ps)) (length-append (basic_coverage ps) (elementary_conditions edges ps)
    ∙ ap (λ n. n + length (elementary_conditions edges ps)) (length-map-range_with_len Bc 0 (length ps)))

length_more : {X : Type 0} (f : ℕ × X → List Obligation) (xs : List X) (i : ℕ) (d : X) → i < length xs → length (flat_map f (enumerate_from 0 (take (i + 1) xs))) ≡ length (flat_map f (enumerate_from 0 (take i xs))) + length (f (i, get_or xs i d))
length_more f xs i d h = ap length (numbered_more f xs i d h) ∙ length-append (flat_map f (enumerate_from 0 (take i xs))) (f (i, get_or xs i d))

pub duties_more : (edges : List Edge) (ps : List Path) (i : ℕ) (d : Path) → i < length ps → length (path_duties edges (take (i + 1) ps)) ≡ length (path_duties edges (take i ps)) + (1 + (length (elementary_duties edges (0, get_or ps i d)) + length (multiple_duties edges (0, get_or ps i d))))
duties_more edges ps i d h =
    let p = get_or ps i d in
    omega (
      arith,
      length_path_duties edges (take (i + 1) ps),
      length_path_duties edges (take i ps),
      length_take ps i (omega arith),
      length_take ps (i + 1) (omega arith),
      length_more (elementary_duties edges) ps i d h,
      length_more (multiple_duties edges) ps i d h,
      length_elementary edges i 0 p,
      length_multiple edges i 0 p,
    )

-- there are two for each condition
pub length_observable : (count : ℕ) → length (observable_conditions count) ≡ 2 * count
length_observable count = two 0 count
  where
    two : (first count : ℕ) → length (flat_map condition_duties (range_with_len first count)) ≡ 2 * count
    two first zero = refl
    two first (suc count) = omega (arith, two (first + 1) count)

pub length_duties : (edges : List Edge) (paths : List Path) (found : List Condition) → found ≡ conditions edges → length (duties edges paths) ≡ length (path_duties edges paths) + 2 * length found
length_duties edges paths found are =
    omega (
      arith,
      ap (λ (l : List Condition). length l) are,
      length-append (path_duties edges paths) (observable_conditions (length (conditions edges))),
      length_observable (length (conditions edges)),
    )
