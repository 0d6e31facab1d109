-- What is printed of a network's runs is printed of its source's.
use Rattle.std.proofs.Common.{◌≡◌, ℕ, suc, zero, ◌+◌, ◌*◌, List, [], ◌∷◌, ◌++◌, length, map, drop, codes, refl, sym, ap, ◌∙◌, subst, arith, Bool, false, ◌-◌, length-drop, All}
use Rattle.std.specs.Prelude.{Option, Some, None, slice_get, slice_index_or}
use Rattle.std.specs.List.{AllByRecursion, AllZip, list_all}
use Rattle.std.specs.Option.{option_map, option_map_or}
use Rattle.std.proofs.lemmas.List.{length-map, length-take-le}
use Rattle.std.proofs.lemmas.List.Folds.{list_all-map}
use Rattle.lus_causality.specs.Ordered.{Causal}
use Rattle.lus_types.specs.Programs.{Enumeration, Node, Program, Variable}
use Rattle.node_expand.specs.Fragments.{edge}
use Rattle.node_expand.specs.Instances.{places_from}
use Rattle.node_expand.specs.Law.{AreInputs, MainRunsWith, NetworkRun}
use Rattle.node_expand.specs.Network.{choice_of, inputs_of, network}
use Rattle.node_expand.specs.NodeRuns.{NodeRun}
use Rattle.node_expand.specs.Ports.{HasPorts, IsEdgeOf}
use Rattle.node_expand.specs.Streams.{HaveLength, Stream, all_true, first_value, rows_of}
use Rattle.op_network.specs.declared.edge.Edge.{Edge}
use Rattle.op_network.specs.declared.edge.EdgeId.{EdgeId}
use Rattle.op_network.specs.declared.edge.Parts.{Parts}
use Rattle.op_network.specs.declared.test.Test.{Test}
use Rattle.op_network.specs.declared.value.Value.{Value}
use Rattle.op_network.specs.declared.value.Value.TheVariants.{Truth}
use Rattle.op_network.specs.Operators.{at_edge}
use Rattle.op_network.specs.Run.{IsRun, IsRunAfter, rows}
use Rattle.op_network.specs.Valid.{FitsTest, IsValid, name_at}
use Rattle.op_network.specs.Values.{is_true}
use Rattle.cov_report.specs.Values as report
use Rattle.cov_report.specs.Values.{Enumerators, stream_line, type_at}
use Rattle.cov_station.specs.Failures.{failure_line, first_failure}
use Rattle.cov_station.specs.NetworkText as of_network
use Rattle.cov_station.specs.NetworkText.{NetworkText, asserted, edge_lines, input_rows, stream_in}
use Rattle.cov_station.proofs.Columns.{at_input}
use Rattle.cov_station.specs.RunText.{AreInputsOf, RunText, enumerators, inputs, no_tests, more_tests, outputs, outputs_of, test_text, variable_lines}
use Rattle.cov_station.specs.Sources.{Source, net}
use Rattle.cov_station.specs.Views.{IsNetworkOf}

-- ---- streams in frames, as rows

-- the values of these edges in a frame
abbrev row_in : List EdgeId → List Value → List Value
row_in ids frame = map (at_edge frame) ids

streams_at : (frames : List (List Value)) (ids : List EdgeId) → rows_of (length frames) (map (stream_in frames) ids) ≡ map (row_in ids) frames
streams_at [] ids = refl
streams_at (f ∷ frames) ids =
    ap (λ r. r ∷ rows_of (length frames) (map (drop 1) (map (stream_in (f ∷ frames)) ids))) (now ids)
    ∙ ap (λ s. row_in ids f ∷ rows_of (length frames) s) (later ids)
    ∙ ap (λ l. row_in ids f ∷ l) (streams_at frames ids)
  where
    now : (es : List EdgeId) → map first_value (map (stream_in (f ∷ frames)) es) ≡ row_in es f
    now [] = refl
    now (e ∷ es) = ap (λ l. at_edge f e ∷ l) (now es)

    later : (es : List EdgeId) → map (drop 1) (map (stream_in (f ∷ frames)) es) ≡ map (stream_in frames) es
    later [] = refl
    later (e ∷ es) = ap (λ l. stream_in frames e ∷ l) (later es)

streams_long : (frames : List (List Value)) (ids : List EdgeId) (n : ℕ) → length frames ≡ n → HaveLength n (map (stream_in frames) ids)
streams_long frames [] n is = tt
streams_long frames (e ∷ ids) n is = (length-map frames (λ frame. at_edge frame e) ∙ is, streams_long frames ids n is)

-- the streams of the assert edges say where all are true
asserted_is : (parts : Parts) (frames : List (List Value)) → asserted parts frames ≡ all_true (length frames) (map (stream_in frames) parts.asserts)
asserted_is parts frames = each frames ∙ ap (map (list_all is_true)) (sym (streams_at frames parts.asserts))
  where
    each : (fs : List (List Value)) → asserted parts fs ≡ map (list_all is_true) (map (row_in parts.asserts) fs)
    each [] = refl
    each (f ∷ fs) =
        ap (λ b. b ∷ asserted parts fs) (sym (list_all-map is_true (at_edge f) parts.asserts))
        ∙ ap (λ l. list_all is_true (row_in parts.asserts f) ∷ l) (each fs)

-- ---- the rows of a test are those of its inputs' streams

same_row : (value : EdgeId → Value) (ids : List EdgeId) (row : List Value) → length row ≡ length ids
    → ((i : ℕ) (e : EdgeId) → slice_get ids i ≡ Some e → value e ≡ slice_index_or row i (Truth false))
    → map value ids ≡ row
same_row value [] [] size each = refl
same_row value [] (v ∷ row) size each = absurd (omega (arith, size))
same_row value (e ∷ ids) [] size each = absurd (omega (arith, size))
same_row value (e ∷ ids) (v ∷ row) size each =
    ap (λ w. w ∷ map value ids) (each 0 e refl)
    ∙ ap (λ l. v ∷ l) (same_row value ids row (omega (arith, size)) (λ i f there. each (suc i) f there))

same_rows : (parts : Parts) (before : Option (List Value)) (table frames : List (List Value)) → IsValid parts
    → AllByRecursion (λ (row : List Value). length row ≡ length parts.inputs) table
    → IsRunAfter parts.width parts.edges before table frames → map (row_in parts.inputs) frames ≡ table
same_rows parts before [] [] valid sizes run = refl
same_rows parts before [] (f ∷ frames) valid sizes run = absurd run
same_rows parts before (r ∷ table) [] valid sizes run = absurd run
same_rows parts before (r ∷ table) (f ∷ frames) valid sizes run =
    ap (λ l. l ∷ map (row_in parts.inputs) frames)
    (same_row (at_edge f) parts.inputs r sizes.0
    (λ i e there. at_input parts.edges parts.width i e before r f (valid.inputs.numbered i e there) run.0))
    ∙ ap (λ l. r ∷ l) (same_rows parts (Some f) table frames valid sizes.1 run.1)

rows_wide : (width n : ℕ) (values : List Value) → length values ≡ n * width
    → AllByRecursion (λ (row : List Value). length row ≡ width) (rows width n values)
rows_wide width zero values size = tt
rows_wide width (suc n) values size =
    let m : suc n * width ≡ width + n * width = grind arith in (
      length-take-le width values (omega (arith, size, m)),
      rows_wide width n (drop width values) (length-drop width values ∙ left (size ∙ m)),
    )
  where
    left : {k : ℕ} → k ≡ width + n * width → k - width ≡ n * width
    left h = omega (arith, h)

frames_count : (width : ℕ) (edges : List Edge) (before : Option (List Value)) (table frames : List (List Value))
    → IsRunAfter width edges before table frames → length frames ≡ length table
frames_count width edges before [] [] run = refl
frames_count width edges before [] (f ∷ frames) run = absurd run
frames_count width edges before (r ∷ table) [] run = absurd run
frames_count width edges before (r ∷ table) (f ∷ frames) run = ap suc (frames_count width edges (Some f) table frames run.1)

rows_count : (width n : ℕ) (values : List Value) → length (rows width n values) ≡ n
rows_count width zero values = refl
rows_count width (suc n) values = ap suc (rows_count width n (drop width values))

-- ---- lines of edges and of variables

given : {A : Type 0} (f : Edge → A) (found : Option Edge) (x d : A) → option_map f found ≡ Some x → option_map_or f found d ≡ x
given f None x d h = absurd (cc)
given f (Some edge) x d h = cc

same_lines : (parts : Parts) (types : Enumerators) (frames : List (List Value)) (ids : List EdgeId) (variables : List Variable)
    → report.enumerators parts.choices ≡ types → AllZip (IsEdgeOf parts.edges) ids variables
    → edge_lines parts frames ids ≡ variable_lines types variables (map (stream_in frames) ids)
same_lines parts types frames [] [] same each = refl
same_lines parts types frames [] (v ∷ variables) same each = absurd each
same_lines parts types frames (e ∷ ids) [] same each = absurd each
same_lines parts types frames (e ∷ ids) (v ∷ variables) same each =
    let stream = stream_in frames e in
    let name = given (λ (x : Edge). x.name) (slice_get parts.edges e.0) v.name [] each.0.name in
    let ty = given (λ (x : Edge). x.ty) (slice_get parts.edges e.0) v.ty _ each.0.ty in
    ap (λ w. w ++ edge_lines parts frames ids)
    (ap (λ t. stream_line t (name_at parts.edges e.0) (type_at parts.edges e) stream) same
    ∙ ap (λ n. stream_line types n (type_at parts.edges e) stream) name
    ∙ ap (λ t. stream_line types v.name t stream) ty)
    ∙ ap (λ w. stream_line types v.name v.ty stream ++ w) (same_lines parts types frames ids variables same each.1)

-- ---- the network's parts

choices_of : (program : Program) (main : List ℕ) → report.enumerators (network program main).choices ≡ enumerators program
unfolding network
choices_of program main = each program.types
  where
    each : (types : List Enumeration) → report.enumerators (map choice_of types) ≡ map (λ (e : Enumeration). e.names) types
    each [] = refl
    each (t ∷ types) = ap (λ l. t.names ∷ l) (each types)

length-places_from : (next : ℕ) (variables : List Variable) → length (places_from next variables) ≡ length variables
length-places_from next [] = refl
length-places_from next (v ∷ variables) = ap suc (length-places_from (suc next) variables)

inputs_count : (program : Program) (main : List ℕ) → length (network program main).inputs ≡ length (inputs_of (program.node main))
unfolding network
inputs_count program main = length-map (places_from 0 (inputs_of (program.node main))) edge ∙ length-places_from 0 (inputs_of (program.node main))

-- ---- the texts

-- main's run over a test, of which the same is printed
record PrintsSame (source : Source) (test : Test) (text : List ℕ) : Type 0 where
  pub ins : List Stream
  pub outs : List Stream
  pub ok : List Bool
  pub inputs : AreInputsOf source test ins
  pub run : NodeRun source.program source.main test.instants ins outs ok
  pub same : text ≡ test_text source test ins outs ok

same_ports : (source : Source) (parts : Parts) (frames : List (List Value)) (node : Node) (test : Test) (ok : List Bool)
    → source.program.node source.main ≡ Some node → HasPorts parts node
    → report.enumerators parts.choices ≡ enumerators source.program → asserted parts frames ≡ ok
    → of_network.test_text parts test.name frames
    ≡ test_text source test (map (stream_in frames) parts.inputs) (map (stream_in frames) parts.outputs) ok
same_ports source parts frames node test ok found ports types is_ok =
    let begin = codes "test " in
    let edges_of = edge_lines parts frames in
    let lines = variable_lines (enumerators source.program) in
    let ins = map (stream_in frames) parts.inputs in
    let outs = map (stream_in frames) parts.outputs in
    let in_lines : edges_of parts.inputs ≡ lines (inputs source) ins =
    same_lines parts (enumerators source.program) frames parts.inputs node.inputs types ports.inputs
    ∙ ap (λ found. lines (inputs_of found) ins) (sym found) in
    let out_lines : edges_of parts.outputs ≡ lines (outputs source) outs =
    same_lines parts (enumerators source.program) frames parts.outputs node.outputs types ports.outputs
    ∙ ap (λ found. lines (outputs_of found) outs) (sym found) in
    ap (λ w. begin ++ (test.name ++ 10 ∷ (w ++ (edges_of parts.outputs ++ failure_line (first_failure (asserted parts frames)))))) in_lines
    ∙ ap (λ w. begin ++ (test.name ++ 10 ∷ (lines (inputs source) ins ++ (w ++ failure_line (first_failure (asserted parts frames)))))) out_lines
    ∙ ap (λ o. begin ++ (test.name ++ 10 ∷ (lines (inputs source) ins ++ (lines (outputs source) outs ++ failure_line (first_failure o))))) is_ok

prints_same : (source : Source) (ordered : Causal) (test : Test) (frames : List (List Value))
    → IsNetworkOf source ordered → IsValid (net source) → FitsTest (net source) test
    → IsRun (net source).width (net source).edges (input_rows (net source) test) frames
    → PrintsSame source test (of_network.test_text (net source) test.name frames)
prints_same source ordered test frames are valid fits run =
    let parts = net source in
    let program = source.program in
    let main = source.main in
    let n = test.instants in
    let ins = map (stream_in frames) parts.inputs in
    let outs = map (stream_in frames) parts.outputs in
    let ok = all_true n (map (stream_in frames) parts.asserts) in
    let count : length frames ≡ n =
    frames_count parts.width parts.edges None (input_rows parts test) frames run ∙ rows_count (length parts.inputs) n test.values in
    let table : rows_of n ins ≡ input_rows parts test =
    ap (λ m. rows_of m ins) (sym count) ∙ streams_at frames parts.inputs
    ∙ same_rows parts None (input_rows parts test) frames valid (rows_wide (length parts.inputs) n test.values fits.size) run in
    let are_inputs : AreInputs program main n ins = record {
      count = length-map parts.inputs (stream_in frames) ∙ inputs_count program main;
      lengths = streams_long frames parts.inputs n count;
    } in
    let over : IsRun parts.width parts.edges (rows_of n ins) frames = subst (λ rs. IsRun parts.width parts.edges rs frames) (sym table) run in
    let network_run : NetworkRun parts n ins outs ok = record { frames = frames; run = over; outputs = refl; asserted = refl } in
    let main_run : MainRunsWith program main n ins frames = are.streams n ins frames are_inputs over in
    record {
      ins = ins;
      outs = outs;
      ok = ok;
      inputs = record {
        count = are_inputs.count;
        lengths = are_inputs.lengths;
        values = table ∙ ap (λ w. rows w n test.values) (inputs_count program main);
      };
      run = (are.keeps n ins outs ok are_inputs).1 network_run;
      same = same_ports source parts frames main_run.node test ok main_run.found (are.variables main_run.node main_run.found)
          (choices_of program main) (asserted_is parts frames ∙ ap (λ m. all_true m (map (stream_in frames) parts.asserts)) count);
    }

texts_same : (source : Source) (ordered : Causal) (tests : List Test) (text : List ℕ)
    → IsNetworkOf source ordered → IsValid (net source) → AllByRecursion (FitsTest (net source)) tests
    → NetworkText (net source) tests text → RunText source tests text
texts_same source ordered [] [] are valid fit of_network.no_tests = no_tests
texts_same source ordered _ _ are valid fit (of_network.more_tests {test = test} {tests = tests} {text = text} frames run rest) =
    let one = prints_same source ordered test frames are valid fit.0 run in
    subst (λ first. RunText source (test ∷ tests) (first ++ text)) (sym one.same)
    (more_tests one.ins one.outs one.ok one.inputs one.run (texts_same source ordered tests text are valid fit.1 rest))

-- the text of a network's runs is that of its source's
pub network_text : (source : Source) (ordered : Causal) (tests : List Test) (text : List ℕ)
    → IsNetworkOf source ordered → IsValid ordered.network → All (FitsTest ordered.network) tests
    → NetworkText ordered.network tests text → RunText source tests text
network_text source ordered tests text are valid fit printed =
    texts_same source ordered tests text are (subst IsValid are.network valid)
    (by_recursion tests (subst (λ (p : Parts). All (FitsTest p) tests) are.network fit))
    (subst (λ (p : Parts). NetworkText p tests text) are.network printed)
  where
    by_recursion : (ts : List Test) → All (FitsTest (net source)) ts → AllByRecursion (FitsTest (net source)) ts
    by_recursion [] all = tt
    by_recursion (t ∷ ts) all = (all 0 t (omega arith), by_recursion ts (λ k d lt. all (suc k) d (omega (arith, lt))))
