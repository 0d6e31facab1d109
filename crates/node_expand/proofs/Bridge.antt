-- A network's run is its streams: frames are rows of columns in which each edge has its operator's stream.
use Rattle.std.proofs.Common.{List, None, Option, Some, [], ap, ap₂, arith, drop, false, length, map, refl, replicate, slice_get, slice_index_or, subst, suc, sym, zero, ℕ, ◌∙◌, ◌∷◌, ◌≡◌}
use Rattle.std.proofs.lemmas.List.{length-map}
use Rattle.std.proofs.lemmas.Option.{get_or_from_slice_get}
use Rattle.std.specs.List.{AllByRecursion}
use Rattle.op_network.specs.Operators.{at_edge, binary_value, form_of, if_value, pre_value, unary_value, value_by}
use Rattle.op_network.specs.Run.{IsRunAfter, rows}
use Rattle.op_network.specs.Values.{default}
use Rattle.op_network.specs.declared.edge.Edge.{Edge}
use Rattle.op_network.specs.declared.edge.EdgeId.{EdgeId}
use Rattle.op_network.specs.declared.form.Binary.{Binary}
use Rattle.op_network.specs.declared.form.Form.{Form}
use Rattle.op_network.specs.declared.form.Form.TheVariants.{Arrow, Const, Input, Ite, One, Pre, Two}
use Rattle.op_network.specs.declared.form.Unary.{Unary}
use Rattle.op_network.specs.declared.value.Ty.{Ty}
use Rattle.op_network.specs.declared.value.Value.{Value}
use Rattle.op_network.specs.declared.value.Value.TheVariants.{Truth}
use Rattle.node_expand.specs.Fragments.{edge}
use Rattle.node_expand.specs.Streams.{HaveLength, Stream, arrow_stream, binary_stream, first_value, pre_stream, rows_of, ternary_stream}
use Rattle.node_expand.proofs.Holding.{column, form_stream}

-- the values of an operator over frames, one for each row of inputs
abbrev pub values_along : ℕ → Form → Ty → Option (List Value) → List (List Value) → List (List Value) → Stream
values_along width form ty before [] frames = []
values_along width form ty before (inputs ∷ rows) [] = []
values_along width form ty before (inputs ∷ rows) (now ∷ frames) = value_by width form ty before now inputs ∷ values_along width form ty (Some now) rows frames

-- a run has a frame for each row
pub frame_count : (width : ℕ) (edges : List Edge) (before : Option (List Value)) (rows frames : List (List Value))
    → IsRunAfter width edges before rows frames → length frames ≡ length rows
frame_count width edges before [] [] run = refl
frame_count width edges before [] (now ∷ frames) run = absurd run
frame_count width edges before (inputs ∷ rows) [] run = absurd run
frame_count width edges before (inputs ∷ rows) (now ∷ frames) run = ap suc (frame_count width edges (Some now) rows frames run.1)

-- in a run each column has the values of its operator
pub run_values : (width : ℕ) (edges : List Edge) (before : Option (List Value)) (rows frames : List (List Value))
    → IsRunAfter width edges before rows frames → (k : ℕ) (edge : Edge) → slice_get edges k ≡ Some edge
    → column k frames ≡ values_along width (form_of edge.op) edge.ty before rows frames
run_values width edges before [] [] run k edge found = refl
run_values width edges before [] (now ∷ frames) run k edge found = absurd run
run_values width edges before (inputs ∷ rows) [] run k edge found = absurd run
run_values width edges before (inputs ∷ rows) (now ∷ frames) run k edge found =
    ap₂ (λ v s. v ∷ s) (get_or_from_slice_get now k _ (Truth false) (run.0.values k edge found)) (run_values width edges (Some now) rows frames run.1 k edge found)

found_within : (edges : List Edge) (k : ℕ) (edge : Edge) (now : List Value) → slice_get edges k ≡ Some edge
    → length now ≡ length edges → (v : Value) → slice_index_or now k (Truth false) ≡ v → slice_get now k ≡ Some v
found_within [] k edge now found size v is = absurd (cc found)
found_within (x ∷ edges) k edge [] found size v is = absurd (omega (arith, size))
found_within (x ∷ edges) zero edge (w ∷ now) found size v is = ap Some is
found_within (x ∷ edges) (suc k) edge (w ∷ now) found size v is = found_within edges k edge now found (omega (arith, size)) v is

-- frames whose columns have the values of their operators are a run
pub values_run : (width : ℕ) (edges : List Edge) (before : Option (List Value)) (rows frames : List (List Value))
    → length frames ≡ length rows → AllByRecursion (λ (frame : List Value). length frame ≡ length edges) frames
    → ((k : ℕ) (edge : Edge) → slice_get edges k ≡ Some edge → column k frames ≡ values_along width (form_of edge.op) edge.ty before rows frames)
    → IsRunAfter width edges before rows frames
values_run width edges before [] [] count sizes same = tt
values_run width edges before [] (now ∷ frames) count sizes same = absurd (omega (arith, count))
values_run width edges before (inputs ∷ rows) [] count sizes same = absurd (omega (arith, count))
values_run width edges before (inputs ∷ rows) (now ∷ frames) count sizes same = (
  record { size = sizes.0; values = λ k edge found. found_within edges k edge now found sizes.0 _ (cc (same k edge found)) },
  values_run width edges (Some now) rows frames (omega (arith, count)) sizes.1 (λ k edge found. cc (same k edge found)),
)

-- ---- the values of each form over the frames of a run are its stream over the columns

values_map : (width : ℕ) (o : Unary) (ty : Ty) (a : EdgeId) (before : Option (List Value)) (rows frames : List (List Value))
    → length frames ≡ length rows
    → values_along width (One o a) ty before rows frames ≡ map (unary_value width o) (column a.0 frames)
values_map width o ty a before [] [] count = refl
values_map width o ty a before [] (now ∷ frames) count = absurd (omega (arith, count))
values_map width o ty a before (inputs ∷ rows) [] count = refl
values_map width o ty a before (inputs ∷ rows) (now ∷ frames) count = ap (λ s. unary_value width o (at_edge now a) ∷ s) (values_map width o ty a (Some now) rows frames (omega (arith, count)))

values_pair : (width : ℕ) (o : Binary) (ty : Ty) (a b : EdgeId) (before : Option (List Value)) (rows frames : List (List Value))
    → length frames ≡ length rows
    → values_along width (Two o a b) ty before rows frames ≡ binary_stream (binary_value width o) (column a.0 frames) (column b.0 frames)
values_pair width o ty a b before [] [] count = refl
values_pair width o ty a b before [] (now ∷ frames) count = absurd (omega (arith, count))
values_pair width o ty a b before (inputs ∷ rows) [] count = refl
values_pair width o ty a b before (inputs ∷ rows) (now ∷ frames) count = ap (λ s. binary_value width o (at_edge now a) (at_edge now b) ∷ s) (values_pair width o ty a b (Some now) rows frames (omega (arith, count)))

values_if : (width : ℕ) (ty : Ty) (a b c : EdgeId) (before : Option (List Value)) (rows frames : List (List Value))
    → length frames ≡ length rows
    → values_along width (Ite a b c) ty before rows frames ≡ ternary_stream if_value (column a.0 frames) (column b.0 frames) (column c.0 frames)
values_if width ty a b c before [] [] count = refl
values_if width ty a b c before [] (now ∷ frames) count = absurd (omega (arith, count))
values_if width ty a b c before (inputs ∷ rows) [] count = refl
values_if width ty a b c before (inputs ∷ rows) (now ∷ frames) count = ap (λ s. if_value (at_edge now a) (at_edge now b) (at_edge now c) ∷ s) (values_if width ty a b c (Some now) rows frames (omega (arith, count)))

values_const : (width : ℕ) (ty : Ty) (v : Value) (before : Option (List Value)) (rows frames : List (List Value))
    → length frames ≡ length rows → values_along width (Const v) ty before rows frames ≡ replicate (length rows) v
values_const width ty v before [] [] count = refl
values_const width ty v before [] (now ∷ frames) count = refl
values_const width ty v before (inputs ∷ rows) [] count = absurd (omega (arith, count))
values_const width ty v before (inputs ∷ rows) (now ∷ frames) count = ap (λ s. v ∷ s) (values_const width ty v (Some now) rows frames (omega (arith, count)))

values_input : (width : ℕ) (ty : Ty) (i : ℕ) (before : Option (List Value)) (rows frames : List (List Value))
    → length frames ≡ length rows → values_along width (Input i) ty before rows frames ≡ column i rows
values_input width ty i before [] [] count = refl
values_input width ty i before [] (now ∷ frames) count = refl
values_input width ty i before (inputs ∷ rows) [] count = absurd (omega (arith, count))
values_input width ty i before (inputs ∷ rows) (now ∷ frames) count = ap (λ s. slice_index_or inputs i (Truth false) ∷ s) (values_input width ty i (Some now) rows frames (omega (arith, count)))

-- behind instant 0 an arrow is its second operand
values_later : (width : ℕ) (ty : Ty) (a b : EdgeId) (before : List Value) (rows frames : List (List Value))
    → length frames ≡ length rows → values_along width (Arrow a b) ty (Some before) rows frames ≡ column b.0 frames
values_later width ty a b before [] [] count = refl
values_later width ty a b before [] (now ∷ frames) count = absurd (omega (arith, count))
values_later width ty a b before (inputs ∷ rows) [] count = refl
values_later width ty a b before (inputs ∷ rows) (now ∷ frames) count = ap (λ s. at_edge now b ∷ s) (values_later width ty a b now rows frames (omega (arith, count)))

values_arrow : (width : ℕ) (ty : Ty) (a b : EdgeId) (rows frames : List (List Value)) → length frames ≡ length rows
    → values_along width (Arrow a b) ty None rows frames ≡ arrow_stream (column a.0 frames) (column b.0 frames)
values_arrow width ty a b [] [] count = refl
values_arrow width ty a b [] (now ∷ frames) count = absurd (omega (arith, count))
values_arrow width ty a b (inputs ∷ rows) [] count = refl
values_arrow width ty a b (inputs ∷ rows) (now ∷ frames) count = ap (λ s. at_edge now a ∷ s) (values_later width ty a b now rows frames (omega (arith, count)))

values_pre : (width : ℕ) (ty : Ty) (a : EdgeId) (before : Option (List Value)) (v : Value) → pre_value before ty a ≡ v
    → (rows frames : List (List Value)) → length frames ≡ length rows
    → values_along width (Pre a) ty before rows frames ≡ pre_stream v (column a.0 frames)
values_pre width ty a before v is [] [] count = refl
values_pre width ty a before v is [] (now ∷ frames) count = absurd (omega (arith, count))
values_pre width ty a before v is (inputs ∷ rows) [] count = refl
values_pre width ty a before v is (inputs ∷ rows) (now ∷ frames) count = ap₂ (λ w s. w ∷ s) is (values_pre width ty a (Some now) (at_edge now a) refl rows frames (omega (arith, count)))

-- rows of streams
pub rows_count : (n : ℕ) (streams : List Stream) → length (rows_of n streams) ≡ n
rows_count zero streams = refl
rows_count (suc n) streams = ap suc (rows_count n (map (drop 1) streams))

pub rows_width : (n : ℕ) (streams : List Stream) → AllByRecursion (λ (row : List Value). length row ≡ length streams) (rows_of n streams)
rows_width zero streams = tt
rows_width (suc n) streams = (length-map streams first_value, subst (λ k. AllByRecursion (λ (row : List Value). length row ≡ k) (rows_of n (map (drop 1) streams))) (length-map streams (drop 1)) (rows_width n (map (drop 1) streams)))

-- the k-th stream is the k-th column of the rows
drop_long : (n : ℕ) (streams : List Stream) → HaveLength (suc n) streams → HaveLength n (map (drop 1) streams)
drop_long n [] long = tt
drop_long n ([] ∷ streams) long = absurd (omega (arith, long.0))
drop_long n ((v ∷ s) ∷ streams) long = (omega (arith, long.0), drop_long n streams long.1)

get_now : (n : ℕ) (streams : List Stream) (k : ℕ) (s : Stream) → slice_get streams k ≡ Some s
    → slice_index_or (map first_value streams) k (Truth false) ≡ first_value s
get_now n [] k s found = absurd (cc found)
get_now n (r ∷ streams) zero s found = ap first_value (let f : r ≡ s = cc in f)
get_now n (r ∷ streams) (suc k) s found = get_now n streams k s found

get_dropped : (streams : List Stream) (k : ℕ) (s : Stream) → slice_get streams k ≡ Some s
    → slice_get (map (drop 1) streams) k ≡ Some (drop 1 s)
get_dropped [] k s found = absurd (cc found)
get_dropped (r ∷ streams) zero s found = ap (λ x. Some (drop 1 x)) (let f : r ≡ s = cc in f)
get_dropped (r ∷ streams) (suc k) s found = get_dropped streams k s found

pub column_rows : (n : ℕ) (streams : List Stream) (k : ℕ) (s : Stream) → slice_get streams k ≡ Some s → length s ≡ n
    → column k (rows_of n streams) ≡ s
column_rows zero streams k [] found long = refl
column_rows zero streams k (v ∷ s) found long = absurd (omega (arith, long))
column_rows (suc n) streams k [] found long = absurd (omega (arith, long))
column_rows (suc n) streams k (v ∷ s) found long = ap₂ (λ w r. w ∷ r) (get_now n streams k (v ∷ s) found) (column_rows n (map (drop 1) streams) k s (get_dropped streams k (v ∷ s) found) (omega (arith, long)))

-- over rows of inputs, the values of each form are its stream over the columns
pub form_values : (width n : ℕ) (ins : List Stream) (frames : List (List Value)) → length frames ≡ n
    → (form : Form) (ty : Ty)
    → values_along width form ty None (rows_of n ins) frames ≡ form_stream width n ins (λ k. column k frames) form ty
form_values width n ins frames count (Input i) ty = values_input width ty i None (rows_of n ins) frames (count ∙ sym (rows_count n ins))
form_values width n ins frames count (Const v) ty = values_const width ty v None (rows_of n ins) frames (count ∙ sym (rows_count n ins))
    ∙ ap (λ m. replicate m v) (rows_count n ins)
form_values width n ins frames count (One o a) ty = values_map width o ty a None (rows_of n ins) frames (count ∙ sym (rows_count n ins))
form_values width n ins frames count (Two o a b) ty = values_pair width o ty a b None (rows_of n ins) frames (count ∙ sym (rows_count n ins))
form_values width n ins frames count (Ite a b c) ty = values_if width ty a b c None (rows_of n ins) frames (count ∙ sym (rows_count n ins))
form_values width n ins frames count (Arrow a b) ty = values_arrow width ty a b (rows_of n ins) frames (count ∙ sym (rows_count n ins))
form_values width n ins frames count (Pre a) ty = values_pre width ty a None (default ty) refl (rows_of n ins) frames (count ∙ sym (rows_count n ins))
