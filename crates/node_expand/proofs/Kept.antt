-- The law of expansion: a program runs exactly where its network does.
use Rattle.std.proofs.Common.{Bool, List, None, Some, [], ap, ap₂, arith, false, length, length-append, map, refl, slice_get, subst, suc, sym, zero, ℕ, ◌++◌, ◌+◌, ◌∙◌, ◌∷◌, ◌≡◌}
use Rattle.std.proofs.lemmas.List.{length-map}
use Rattle.std.specs.List.{AllByRecursion}
use Rattle.lus_types.specs.Names.{Name}
use Rattle.lus_types.specs.Programs.{Program, Variable}
use Rattle.op_network.specs.Operators.{form_of}
use Rattle.op_network.specs.Run.{IsRun}
use Rattle.op_network.specs.declared.edge.Edge.{Edge}
use Rattle.op_network.specs.declared.value.Value.{Value}
use Rattle.node_expand.specs.Fragments.{Callees, edge}
use Rattle.node_expand.specs.Instances.{places_from}
use Rattle.node_expand.specs.Law.{KeepsStreamsIn, NetworkRun, stream_in}
use Rattle.node_expand.specs.Nesting.{IsNested, IsWithinDepth}
use Rattle.node_expand.specs.Network.{callees_within, input_edges, inputs_of, network, network_within}
use Rattle.node_expand.specs.NodeRuns.{NodeRun, Runs}
use Rattle.node_expand.specs.Streams.{HaveLength, Stream, all_true, rows_of}
use Rattle.node_expand.specs.declared.limits.TheConstants.{MOST_DEPTH}
use Rattle.node_expand.proofs.Bridge.{column_rows, form_values, frame_count, rows_count, rows_width, run_values, values_run}
use Rattle.node_expand.proofs.ForwardNodes.{ready}
use Rattle.node_expand.proofs.Holding.{Columns, Hold, column, hold_append, hold_at, hold_left, hold_right, op_stream}
use Rattle.node_expand.proofs.Lists.{all_append}
use Rattle.node_expand.proofs.Places.{places_length}
use Rattle.node_expand.proofs.Sizes.{sized}
use Rattle.node_expand.proofs.TraceNodes.{traced}
use Rattle.node_expand.proofs.Traces.{At, at_left, at_place, at_right}
use Rattle.node_expand.proofs.WellFormed.{IsWellFormed}

-- what holds of each edge holds of all, and back
hold_each : (width n : ℕ) (ins : List Stream) (col : Columns) (base : ℕ) (edges : List Edge)
    → ((k : ℕ) (e : Edge) → slice_get edges k ≡ Some e → col (base + k) ≡ op_stream width n ins col e.op e.ty)
    → Hold width n ins col base edges
hold_each width n ins col base [] h = tt
hold_each width n ins col base (e ∷ edges) h = (ap col (omega arith) ∙ h zero e refl, hold_each width n ins col (suc base) edges (λ k f found. ap col (omega arith) ∙ h (suc k) f found))

each_holds : (width n : ℕ) (ins : List Stream) (col : Columns) (base : ℕ) (edges : List Edge)
    → Hold width n ins col base edges → (k : ℕ) (e : Edge) → slice_get edges k ≡ Some e
    → col (base + k) ≡ op_stream width n ins col e.op e.ty
each_holds width n ins col base [] h k e found = absurd (cc found)
each_holds width n ins col base (f ∷ edges) h zero e found = let is : f ≡ e = cc in ap col (omega arith) ∙ h.0
    ∙ ap (λ (x : Edge). op_stream width n ins col x.op x.ty) is
each_holds width n ins col base (f ∷ edges) h (suc k) e found = ap col (omega arith)
    ∙ each_holds width n ins col (suc base) edges h.1 k e found

at_each : (col : Columns) (base : ℕ) (streams : List Stream)
    → ((k : ℕ) (s : Stream) → slice_get streams k ≡ Some s → col (base + k) ≡ s) → At col base streams
at_each col base [] h = tt
at_each col base (s ∷ streams) h = (ap col (omega arith) ∙ h zero s refl, at_each col (suc base) streams (λ k r found. ap col (omega arith) ∙ h (suc k) r found))

each_long : (n : ℕ) (streams : List Stream) → HaveLength n streams → (k : ℕ) (s : Stream) → slice_get streams k ≡ Some s → length s ≡ n
each_long n [] long k s found = absurd (cc found)
each_long n (r ∷ streams) long zero s found = let is : r ≡ s = cc in sym (ap (λ (x : Stream). length x) is) ∙ long.0
each_long n (r ∷ streams) long (suc k) s found = each_long n streams long.1 k s found

-- the streams of the rows of streams are these streams
rows_at : (n : ℕ) (streams : List Stream) → HaveLength n streams → At (λ k. column k (rows_of n streams)) 0 streams
rows_at n streams long = at_each _ 0 streams (λ k s found. ap (λ i. column i (rows_of n streams)) (omega arith) ∙ column_rows n streams k s found (each_long n streams long k s found))

pub inputs_length : (i : ℕ) (inputs : List Variable) → length (input_edges i inputs) ≡ length inputs
inputs_length i [] = refl
inputs_length i (v ∷ inputs) = ap suc (inputs_length (suc i) inputs)

-- input edges have the inputs' streams
inputs_same : (width n : ℕ) (ins all : List Stream) (col : Columns) (i : ℕ) (inputs : List Variable)
    → Hold width n all col i (input_edges i inputs) → length ins ≡ length inputs
    → At (λ k. column k (rows_of n all)) i ins → map col (places_from i inputs) ≡ ins
inputs_same width n [] all col i [] hold count at = refl
inputs_same width n (s ∷ ins) all col i [] hold count at = absurd (omega (arith, count))
inputs_same width n [] all col i (v ∷ inputs) hold count at = absurd (omega (arith, count))
inputs_same width n (s ∷ ins) all col i (v ∷ inputs) hold count at = ap₂ (λ a l. a ∷ l) (hold.0 ∙ at.0) (inputs_same width n ins all col (suc i) inputs hold.1 (omega (arith, count)) at.1)

inputs_hold : (width n : ℕ) (ins all : List Stream) (col : Columns) (i : ℕ) (inputs : List Variable)
    → length ins ≡ length inputs → At (λ k. column k (rows_of n all)) i ins → At col i ins
    → Hold width n all col i (input_edges i inputs)
inputs_hold width n [] all col i [] count at have = tt
inputs_hold width n (s ∷ ins) all col i [] count at have = absurd (omega (arith, count))
inputs_hold width n [] all col i (v ∷ inputs) count at have = absurd (omega (arith, count))
inputs_hold width n (s ∷ ins) all col i (v ∷ inputs) count at have = (have.0 ∙ sym at.0, inputs_hold width n ins all col (suc i) inputs (omega (arith, count)) at.1 have.1)

at_inputs : (col : Columns) (i : ℕ) (inputs : List Variable) (ins : List Stream) → length ins ≡ length inputs
    → At col i ins → map col (places_from i inputs) ≡ ins
at_inputs col i [] [] count at = refl
at_inputs col i [] (s ∷ ins) count at = absurd (omega (arith, count))
at_inputs col i (v ∷ inputs) [] count at = absurd (omega (arith, count))
at_inputs col i (v ∷ inputs) (s ∷ ins) count at = ap₂ (λ a l. a ∷ l) at.0 (at_inputs col (suc i) inputs ins (omega (arith, count)) at.1)

pub columns_same : (frames : List (List Value)) (places : List ℕ) → map (stream_in frames) (map edge places) ≡ map (λ k. column k frames) places
columns_same frames [] = refl
columns_same frames (k ∷ places) = ap (λ l. column k frames ∷ l) (columns_same frames places)

-- In a run of a network the input edges have the inputs' streams, and those of each other edge are its operator's.
pub record RunHolds (width n : ℕ) (ins : List Stream) (frames : List (List Value)) (inputs : List Variable)
    (body : List Edge) : Type 0 where
  pub size : length frames ≡ n
  pub inputs_are : map (λ k. column k frames) (places_from 0 inputs) ≡ ins
  pub body_holds : Hold width n ins (λ k. column k frames) (length inputs) body

pub run_holds : (width n : ℕ) (ins : List Stream) (frames : List (List Value)) (inputs : List Variable)
    (body : List Edge) → length ins ≡ length inputs → HaveLength n ins
    → IsRun width (input_edges 0 inputs ++ body) (rows_of n ins) frames
    → RunHolds width n ins frames inputs body
run_holds width n ins frames inputs body count long run =
    let col : Columns = λ k. column k frames in
    let edges = input_edges 0 inputs ++ body in
    let rows = rows_of n ins in
    let size : length frames ≡ n = frame_count width edges None rows frames run ∙ rows_count n ins in
    let hold : Hold width n ins col 0 edges =
    hold_each width n ins col 0 edges (λ k e found.
    ap col (omega arith)
    ∙ run_values width edges None rows frames run k e found
    ∙ form_values width n ins frames size (form_of e.op) e.ty) in
    let first = hold_left width n ins col 0 (input_edges 0 inputs) body hold in
    let behind = hold_right width n ins col 0 (input_edges 0 inputs) body hold in
    record {
      size = size;
      inputs_are = inputs_same width n ins ins col 0 inputs first count (rows_at n ins long);
      body_holds = hold_at width n ins col body (omega (arith, inputs_length 0 inputs)) behind;
    }

module _ (depth : ℕ) (program : Program) (main : Name) (whole : IsWellFormed program) (nested : IsNested program depth main) (n : ℕ) (ins outs : List Stream) (ok : List Bool) (count : length ins ≡ length (inputs_of (program.node main))) (long : HaveLength n ins) where
  abbrev inputs : List Variable
  inputs = inputs_of (program.node main)

  abbrev callees : Callees
  callees = callees_within program depth

  abbrev body_edges : List Edge
  body_edges = callees.edges main (places_from 0 inputs) [] false (length inputs)

  -- from the network to the source
  network_runs : NetworkRun (network_within depth program main) n ins outs ok → NodeRun program main n ins outs ok
  network_runs r =
      let col : Columns = λ k. column k r.frames in
      let h = run_holds program.width n ins r.frames inputs body_edges count long r.run in
      let known = ready program n ins col (λ k. length-map r.frames _ ∙ h.size) whole depth main nested in
      let run = known.runs (places_from 0 inputs) [] false (length inputs) (places_length 0 inputs) h.body_holds in
      record {
        checks = map col (callees.asserts main (length inputs));
        runs = subst (λ i. Runs program n main i outs (map col (callees.asserts main (length inputs)))) h.inputs_are
            (subst (λ o. Runs program n main (map col (places_from 0 inputs)) o (map col (callees.asserts main (length inputs)))) (sym (r.outputs ∙ columns_same r.frames (callees.results main (length inputs)))) run);
        asserted = r.asserted ∙ ap (all_true n) (columns_same r.frames (callees.asserts main (length inputs)));
      }

  -- from the source to the network
  source_runs : NodeRun program main n ins outs ok → NetworkRun (network_within depth program main) n ins outs ok
  source_runs r =
      let t = traced program n whole depth main ins outs r.checks nested r.runs in
      let all : List Stream = ins ++ t.body in
      let frames : List (List Value) = rows_of n all in
      let col : Columns = λ k. column k frames in
      let at : At col 0 all = rows_at n all (all_append _ ins t.body long t.long) in
      let at_ins = at_left col 0 ins t.body at in
      let at_body : At col (length inputs) t.body = at_place col t.body (omega (arith, count)) (at_right col 0 ins t.body at) in
      let same = at_inputs col 0 inputs ins count at_ins in
      let hold : Hold program.width n ins col 0 (input_edges 0 inputs ++ body_edges) =
      hold_append program.width n ins col 0 (input_edges 0 inputs) body_edges
      (inputs_hold program.width n ins ins col 0 inputs count (rows_at n ins long) at_ins)
      (hold_at program.width n ins col body_edges (omega (arith, inputs_length 0 inputs)) (t.holds col ins (places_from 0 inputs) [] false (length inputs) at_body same)) in
      let sizes : length all ≡ length (network_within depth program main).edges =
      length-append ins t.body
      ∙ ap₂ (λ i j. i + j) (count ∙ sym (inputs_length 0 inputs)) (t.count ∙ sym ((sized program depth main nested).each (places_from 0 inputs) [] false (length inputs)))
      ∙ sym (length-append (input_edges 0 inputs) body_edges) in
      record {
        frames = frames;
        run = values_run program.width (network_within depth program main).edges None (rows_of n ins) frames (rows_count n all ∙ sym (rows_count n ins))
            (subst (λ k. AllByRecursion (λ (row : List Value). length row ≡ k) frames) sizes (rows_width n all))
            (λ k e found. ap col (omega arith) ∙ each_holds program.width n ins col 0 (input_edges 0 inputs ++ body_edges) hold k e found ∙ sym (form_values program.width n ins frames (rows_count n all) (form_of e.op) e.ty));
        outputs = sym (columns_same frames (callees.results main (length inputs)) ∙ t.results col (length inputs) at_body);
        asserted = r.asserted
            ∙ ap (all_true n) (sym (columns_same frames (callees.asserts main (length inputs)) ∙ t.asserts col (length inputs) at_body));
      }

kept_within : (depth : ℕ) (program : Program) (main : Name) → IsWellFormed program → IsNested program depth main
    → KeepsStreamsIn program main (network_within depth program main)
kept_within depth program main whole nested n ins outs ok is = (
  source_runs depth program main whole nested n ins outs ok is.count is.lengths,
  network_runs depth program main whole nested n ins outs ok is.count is.lengths,
)

-- the shut words are opened here alone
pub kept : (program : Program) (main : Name) → IsWellFormed program → IsWithinDepth program main
    → KeepsStreamsIn program main (network program main)
unfolding network IsWithinDepth
kept program main whole nested = kept_within MOST_DEPTH program main whole nested
