-- The score over the network of a source is the score of the source.
use Rattle.std.proofs.Common.{◌≡◌, ℕ, Bool, ◌*◌, List, [], ◌∷◌, length, map, sym, subst, ap, ◌∙◌, arith}
use Rattle.std.specs.Prelude.{Some}
use Rattle.std.specs.List.{All, AllZip}
use Rattle.std.proofs.lemmas.List.Elements.{All-head, All-tail}
use Rattle.std.proofs.lemmas.Slice.Zip.{AllZip-long}
use Rattle.dep_paths.specs.Duties.{Planned}
use Rattle.lus_causality.specs.Ordered.{Causal}
use Rattle.lus_types.specs.Programs.{Node, Variable}
use Rattle.node_expand.specs.Law.{AreInputs, HasItsStreamsIn, MainRunsWith}
use Rattle.node_expand.specs.Network.{inputs_of}
use Rattle.node_expand.specs.Ports.{HasPorts, IsEdgeOf}
use Rattle.node_expand.specs.Streams.{HaveLength, Stream, rows_of}
use Rattle.op_network.specs.declared.edge.Parts.{Parts}
use Rattle.op_network.specs.declared.test.Test.{Test}
use Rattle.op_network.specs.declared.value.Value.{Value}
use Rattle.op_network.specs.Run.{IsRun, rows}
use Rattle.op_network.specs.Valid.{FitsTest}
use Rattle.score_table.specs.Runs.{IsTestRun, TestRun}
use Rattle.score_table.specs.Tables.{Tabled}
use Rattle.suite_file.specs.Suites.{AreOfSuite}
use Rattle.cov_station.specs.RunText.{AreInputsOf, inputs}
use Rattle.cov_station.specs.Scores.{NetworkScore}
use Rattle.cov_station.specs.ScoreText.{IsSourceRun, ScoreText}
use Rattle.cov_station.specs.Sources.{Source, net}
use Rattle.cov_station.specs.Views.{IsNetworkOf}
use Rattle.cov_station.proofs.InputStreams.{columns, columns_count, columns_long, columns_rows}

-- main is a node of the program: already over no instant it runs with its streams
main_found : (source : Source) (ordered : Causal) → IsNetworkOf source ordered → (node : Node) × (source.program.node source.main ≡ Some node)
main_found source ordered is =
    let width = length (inputs source) in
    let runs = is.streams 0 (columns width 0 []) [] (record { count = columns_count width 0 [] (omega arith); lengths = columns_long width 0 [] (omega arith) }) tt in
    (runs.node, runs.found)

-- the network has as many inputs as main
input_count : (source : Source) (ordered : Causal) → IsNetworkOf source ordered → length (net source).inputs ≡ length (inputs source)
input_count source ordered is =
    let found = main_found source ordered is in
    let ports = is.variables found.0 found.1 in
    sym (AllZip-long (IsEdgeOf (net source).edges) (net source).inputs found.0.inputs ports.inputs)
    ∙ ap (λ main. length (inputs_of main)) (sym found.1)

source_run : (source : Source) (ordered : Causal) (plan : Planned) (test : Test) (run : TestRun) → IsNetworkOf source ordered → FitsTest (net source) test → IsTestRun (net source) plan test run → IsSourceRun source plan test run
source_run source ordered plan test run is fits ran =
    let width = length (inputs source) in
    let count = input_count source ordered is in
    let size : length test.values ≡ test.instants * width = fits.size ∙ ap (λ n. test.instants * n) count in
    let ins = columns width test.instants test.values in
    let values : rows_of test.instants ins ≡ rows (length (net source).inputs) test.instants test.values =
    columns_rows width test.instants test.values size ∙ ap (λ n. rows n test.instants test.values) (sym count) in
    record {
      counted = ran;
      ins = ins;
      inputs = record {
        count = columns_count width test.instants test.values size;
        lengths = columns_long width test.instants test.values size;
        values = columns_rows width test.instants test.values size;
      };
      streams = is.streams test.instants ins run.frames
          (record { count = columns_count width test.instants test.values size; lengths = columns_long width test.instants test.values size })
          (subst (λ (l : List (List Value)). IsRun (net source).width (net source).edges l run.frames) (sym values) ran.ran);
    }

source_runs : (source : Source) (ordered : Causal) (plan : Planned) (tests : List Test) (runs : List TestRun) → IsNetworkOf source ordered → All (FitsTest (net source)) tests → AllZip (IsTestRun (net source) plan) tests runs → AllZip (IsSourceRun source plan) tests runs
source_runs source ordered plan [] [] is fit ran = tt
source_runs source ordered plan [] (r ∷ runs) is fit ran = absurd ran
source_runs source ordered plan (t ∷ tests) [] is fit ran = absurd ran
source_runs source ordered plan (t ∷ tests) (r ∷ runs) is fit ran = (
  source_run source ordered plan t r is (All-head (FitsTest (net source)) t tests fit) ran.0,
  source_runs source ordered plan tests runs is (All-tail (FitsTest (net source)) t tests fit) ran.1,
)

score_of_net : (source : Source) (ordered : Causal) (plan : Planned) (tests : List Test) (json : Bool) (text : List ℕ) → IsNetworkOf source ordered → All (FitsTest (net source)) tests → NetworkScore (net source) plan tests json text → ScoreText source plan tests json text
score_of_net source ordered plan tests json text is fit score = record {
  runs = score.runs;
  ran = source_runs source ordered plan tests score.runs is fit score.ran;
  printed = score.printed;
}

pub source_score : (source : Source) (table : Tabled) (ordered : Causal) (plan : Planned) (tests : List Test) (json : Bool) (text : List ℕ)
    → IsNetworkOf source ordered → AreOfSuite ordered.network tests → table ≡ record { network = ordered; plan = plan; tests = tests }
    → NetworkScore table.network.network table.plan table.tests json text → ScoreText source plan tests json text
source_score source table ordered plan tests json text is of made score =
    let made_score : NetworkScore ordered.network plan tests json text =
    subst (λ (t : Tabled). NetworkScore t.network.network t.plan t.tests json text) made score in
    score_of_net source ordered plan tests json text is
    (subst (λ (parts : Parts). All (FitsTest parts) tests) is.network of.fit)
    (subst (λ (parts : Parts). NetworkScore parts plan tests json text) is.network made_score)
