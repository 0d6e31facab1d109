-- In each run of its network, the main node runs with the streams of its variables' edges.
use Rattle.std.proofs.Common.{List, Option, Some, [], ap, false, length, map, subst, suc, sym, zero, zip, ℕ, ◌++◌, ◌∙◌, ◌≡◌}
use Rattle.std.proofs.lemmas.List.{length-map}
use Rattle.lus_types.specs.Names.{Name}
use Rattle.lus_types.specs.Programs.{Node, Program, names, variables}
use Rattle.op_network.specs.Run.{IsRun}
use Rattle.op_network.specs.declared.edge.EdgeId.{EdgeId}
use Rattle.op_network.specs.declared.edge.Parts.{Parts}
use Rattle.op_network.specs.declared.value.Value.{Value}
use Rattle.node_expand.specs.Counts.{nodes_called_in}
use Rattle.node_expand.specs.Fragments.{Callees, Places, edge, place_of}
use Rattle.node_expand.specs.Instances.{asserts_over, edges_over, places_from, places_over, results_over}
use Rattle.node_expand.specs.Law.{AreInputs, HasItsStreamsIn, main_places, main_places_within, stream_in}
use Rattle.node_expand.specs.Nesting.{IsNested, IsWithinDepth}
use Rattle.node_expand.specs.Network.{callees_within, inputs_of, network, network_within}
use Rattle.node_expand.specs.NodeRuns.{AllHold, Streams}
use Rattle.node_expand.specs.Streams.{HaveLength, Stream, rows_of}
use Rattle.node_expand.specs.declared.limits.TheConstants.{MOST_DEPTH}
use Rattle.node_expand.proofs.Deeper.{agree_each, known_deeper, places_same, shapes}
use Rattle.node_expand.proofs.ForwardNodes.{instance_holds, ready, ready_each}
use Rattle.node_expand.proofs.Holding.{Columns, column}
use Rattle.node_expand.proofs.Kept.{RunHolds, columns_same, run_holds}
use Rattle.node_expand.proofs.Places.{places_length}
use Rattle.node_expand.proofs.Sizes.{sized_all}
use Rattle.node_expand.proofs.WellFormed.{IsWellFormed}

-- in these frames, the streams of the edges at these places
abbrev streams_of : List (List Value) → Places → Streams
streams_of frames places x = stream_in frames (edge (place_of places x))

-- The node runs with the streams of these places, in frames of a network with these outputs and asserts.
pub record RunsAt (program : Program) (node : Node) (n : ℕ) (ins : List Stream) (frames : List (List Value))
    (outputs asserts : List EdgeId) (places : Places) : Type 0 where
  pub inputs_run : map (streams_of frames places) (names node.inputs) ≡ ins
  pub outputs_run : map (streams_of frames places) (names node.outputs) ≡ map (stream_in frames) outputs
  pub lengths : HaveLength n (map (streams_of frames places) (names (variables node)))
  pub holds : AllHold program n node (streams_of frames places) node.items (map (stream_in frames) asserts)

-- the main node, and the nodes that it calls, from which calls are nested less deep
module _ (program : Program) (whole : IsWellFormed program) (depth : ℕ) (main : Name)
    (nested : IsNested program (suc depth) main) (n : ℕ) (ins : List Stream) (frames : List (List Value)) where
  abbrev node : Node
  node = nested.0

  abbrev called : List Name
  called = nodes_called_in node.items

  abbrev callees : Callees
  callees = callees_within program depth

  abbrev col : Columns
  col k = column k frames

  abbrev places : Places
  places = places_over program node callees (places_from 0 node.inputs) (length node.inputs)

  abbrev parts : Parts
  parts = network_within (suc depth) program main

  -- more depth leaves main's places
  same_places : places ≡ main_places_within (suc depth) program node
  same_places =
      let deeper = callees_within program (suc depth) in
      ap (λ rest. zip (names node.inputs) (places_from 0 node.inputs) ++ rest)
      (places_same program callees deeper node (length node.inputs) node.items
      (shapes callees deeper called (agree_each program depth called (known_deeper program depth) nested.2)))

  -- from the edges to the node, where main's name means this
  abbrev Step : Option Node → Type 0
  Step found =
      let inputs = inputs_of found in
      let start = length inputs in
      RunHolds program.width n ins frames inputs
      (edges_over program callees found (places_from 0 inputs) [] false start)
      → RunsAt program node n ins frames (map edge (results_over program callees found start))
      (map edge (asserts_over program callees found start)) places

  node_step : Step (Some node)
  node_step h =
      let long = λ (k : ℕ). length-map frames _ ∙ h.size in
      let start = length node.inputs in
      let r = instance_holds program n ins col long whole callees node (places_from 0 node.inputs) start
      (whole.nodes main node nested.1)
      (ready_each program n ins col long whole depth called (ready program n ins col long whole depth) nested.2)
      (sized_all program depth called nested.2) [] false (places_length 0 node.inputs) h.body_holds in
      record {
        inputs_run = r.inputs ∙ h.inputs_are;
        outputs_run = r.outputs ∙ sym (columns_same frames (results_over program callees (Some node) start));
        lengths = r.lengths;
        holds = subst (AllHold program n node (streams_of frames places) node.items)
            (sym (columns_same frames (asserts_over program callees (Some node) start))) r.items;
      }

  main_runs : AreInputs program main n ins → IsRun program.width parts.edges (rows_of n ins) frames
      → RunsAt program node n ins frames parts.outputs parts.asserts (main_places_within (suc depth) program node)
  main_runs is run =
      let inputs = inputs_of (program.node main) in
      let body = edges_over program callees (program.node main) (places_from 0 inputs) [] false (length inputs) in
      subst (RunsAt program node n ins frames parts.outputs parts.asserts) same_places
      (subst Step (sym nested.1) node_step (run_holds program.width n ins frames inputs body is.count is.lengths run))

-- at any depth
runs_within : (program : Program) → IsWellFormed program → (depth : ℕ) (main : Name) → IsNested program depth main
    → (n : ℕ) (ins : List Stream) (frames : List (List Value)) → AreInputs program main n ins
    → IsRun program.width (network_within depth program main).edges (rows_of n ins) frames
    → (node : Node) × (program.node main ≡ Some node)
    × RunsAt program node n ins frames (network_within depth program main).outputs
    (network_within depth program main).asserts (main_places_within depth program node)
runs_within program whole zero main nested n ins frames is run = absurd nested
runs_within program whole (suc depth) main nested n ins frames is run =
    (nested.0, nested.1, main_runs program whole depth main nested n ins frames is run)

-- the shut words are opened here alone
pub main_streamed : (program : Program) (main : Name) → IsWellFormed program → IsWithinDepth program main
    → HasItsStreamsIn program main (network program main)
unfolding network main_places IsWithinDepth
main_streamed program main whole nested n ins frames is run =
    let r = runs_within program whole MOST_DEPTH main nested n ins frames is run in
    record {
      node = r.0;
      found = r.1;
      inputs = r.2.inputs_run;
      outputs = r.2.outputs_run;
      lengths = r.2.lengths;
      holds = r.2.holds;
    }
