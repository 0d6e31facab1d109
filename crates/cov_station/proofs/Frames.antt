-- The frames of a run that goes on by one instant.
use Rattle.std.proofs.Common.{◌≡◌, ℕ, suc, zero, ◌+◌, ◌*◌, List, [], ◌∷◌, ◌++◌, length, take, drop, refl, sym, ap, ◌∙◌, arith}
use Rattle.std.proofs.lemmas.List.{drop-drop}
use Rattle.std.specs.Prelude.{Option, Some, None}
use Rattle.op_network.specs.declared.edge.Edge.{Edge}
use Rattle.op_network.specs.declared.edge.Parts.{Parts}
use Rattle.op_network.specs.declared.value.Value.{Value}
use Rattle.op_network.specs.Run.{IsRunAfter, rows}
use Rattle.op_network.specs.Valid.{IsValid}
use Rattle.lus_causality.specs.Causality.{HasNoCycle}
use Rattle.lus_causality.specs.Laws.{OneRun}
use Rattle.stream_run.specs.Runs.{Running, StandsFor, last_after}

-- the frames but for the last one, which are those of the rows but for the last
pub record Fronts (width : ℕ) (edges : List Edge) (before : Option (List Value)) (rows frames : List (List Value)) : Type 0 where
  pub front : List (List Value)
  pub last : List Value
  pub all : frames ≡ front ++ last ∷ []
  pub run : IsRunAfter width edges before rows front

front_of : (width : ℕ) (edges : List Edge) (before : Option (List Value)) (rows frames : List (List Value)) (row : List Value)
    → IsRunAfter width edges before (rows ++ row ∷ []) frames → Fronts width edges before rows frames
front_of width edges before [] [] row run = absurd run
front_of width edges before [] (f ∷ []) row run = record { front = []; last = f; all = refl; run = tt }
front_of width edges before [] (f ∷ g ∷ frames) row run = absurd run.1
front_of width edges before (r ∷ rows) [] row run = absurd run
front_of width edges before (r ∷ rows) (f ∷ frames) row run =
    let k = front_of width edges (Some f) rows frames row run.1 in
    record { front = f ∷ k.front; last = k.last; all = ap (λ l. f ∷ l) k.all; run = (run.0, k.run) }

last_more : (before : Option (List Value)) (frames : List (List Value)) (frame : List Value)
    → last_after before (frames ++ frame ∷ []) ≡ Some frame
last_more before [] frame = refl
last_more before (f ∷ frames) frame = last_more (Some f) frames frame

-- in a network without a cycle the frames of one row more are those before, and that of the runner
pub frames_more : (parts : Parts) (rows : List (List Value)) (row : List Value) (old new : Running)
    → OneRun → IsValid parts → HasNoCycle parts.edges
    → (a : StandsFor parts rows old) (b : StandsFor parts (rows ++ row ∷ []) new)
    → b.frames ≡ a.frames ++ new.frame ∷ []
frames_more parts rows row old new one valid acyclic a b =
    let k = front_of parts.width parts.edges None rows b.frames row b.run in
    let same : k.front ≡ a.frames = one parts rows k.front a.frames valid acyclic k.run a.run in
    let last : new.frame ≡ k.last = b.last k.last (ap (last_after None) k.all ∙ last_more None k.front k.last) in
    k.all ∙ ap (λ l. l ++ k.last ∷ []) same ∙ ap (λ f. a.frames ++ f ∷ []) (sym last)

-- one row more of a list of values
pub rows_more : (width i : ℕ) (values : List Value)
    → rows width (i + 1) values ≡ rows width i values ++ take width (drop (i * width) values) ∷ []
rows_more width zero values =
    let none : zero * width ≡ 0 = omega arith in
    ap (λ n. take width (drop n values) ∷ []) (sym none)
rows_more width (suc i) values =
    let n : suc i + 1 ≡ suc (i + 1) = omega arith in
    let m : suc i * width ≡ width + i * width = grind arith in
    ap (λ k. rows width k values) n
    ∙ ap (λ l. take width values ∷ l) (rows_more width i (drop width values))
    ∙ ap (λ l. take width values ∷ (rows width i (drop width values) ++ take width l ∷ [])) (drop-drop (i * width) width values ∙ ap (λ k. drop k values) (sym m))

pub length-rows : (width i : ℕ) (values : List Value) → length (rows width i values) ≡ i
length-rows width zero values = refl
length-rows width (suc i) values = ap suc (length-rows width i (drop width values))

-- a row was taken off the rest
pub row_taken : (width w i : ℕ) (values rest row : List Value) → w ≡ width → rest ≡ drop (i * width) values
    → row ≡ take w rest → rows width i values ++ row ∷ [] ≡ rows width (i + 1) values
row_taken width w i values rest row same left front =
    ap (λ r. rows width i values ++ r ∷ []) (front ∙ ap (λ n. take n rest) same ∙ ap (take width) left)
    ∙ sym (rows_more width i values)

pub rest_left : (width w i : ℕ) (values rest later : List Value) → w ≡ width → rest ≡ drop (i * width) values
    → later ≡ drop w rest → later ≡ drop ((i + 1) * width) values
rest_left width w i values rest later same left back =
    let n : i * width + width ≡ (i + 1) * width = grind arith in
    back ∙ ap (λ m. drop m rest) same ∙ ap (drop width) left ∙ drop-drop width (i * width) values ∙ ap (λ m. drop m values) n
