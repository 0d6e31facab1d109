-- The laws of expansion: a program runs exactly where its network does, and with the streams of its variables' edges.
use Rattle.std.specs.Prelude.{◌≡◌, ◌↔◌, ℕ, Bool, List, [], length, map, Some}
use Rattle.std.specs.Option.{option_map_or}
use Rattle.op_network.specs.declared.edge.EdgeId.{EdgeId}
use Rattle.op_network.specs.declared.edge.Parts.{Parts}
use Rattle.op_network.specs.declared.value.Value.{Value}
use Rattle.op_network.specs.Operators.{at_edge}
use Rattle.op_network.specs.Run.{IsRun}
use Rattle.lus_types.specs.declared.typed.Typed.{Typed}
use Rattle.lus_types.specs.Names.{Name}
use Rattle.lus_types.specs.Programs.{Node, Program, names, node_at, program_of, variables}
use Rattle.node_expand.specs.declared.limits.TheConstants.{MOST_DEPTH}
use Rattle.node_expand.specs.Fragments.{Places, edge, place_of}
use Rattle.node_expand.specs.Instances.{places_from, places_over}
use Rattle.node_expand.specs.Nesting.{IsWithinDepth}
use Rattle.node_expand.specs.Network.{callees_within, network, inputs_of}
use Rattle.node_expand.specs.NodeRuns.{AllHold, NodeRun, Streams}
use Rattle.node_expand.specs.Streams.{Stream, HaveLength, all_true, rows_of}

-- the stream of an edge in these frames
abbrev pub stream_in : List (List Value) → EdgeId → Stream
stream_in frames e = map (λ frame. at_edge frame e) frames

-- Some run of the network over these inputs of n instants has these streams at its outputs, and all its assert edges
-- are true just at the instants where `ok` is true.
pub record NetworkRun (parts : Parts) (n : ℕ) (ins outs : List Stream) (ok : List Bool) : Type 0 where
  pub frames : List (List Value)
  pub run : IsRun parts.width parts.edges (rows_of n ins) frames
  pub outputs : outs ≡ map (stream_in frames) parts.outputs
  pub asserted : ok ≡ all_true n (map (stream_in frames) parts.asserts)

-- a stream of n values for each input of main
pub record AreInputs (program : Program) (main : Name) (n : ℕ) (ins : List Stream) : Type 0 where
  pub count : length ins ≡ length (inputs_of (program.node main))
  pub lengths : HaveLength n ins

-- Over any number of instants and any inputs, main runs with these outputs and truths of assertions exactly where some
-- run of the network has them.
abbrev pub KeepsStreamsIn : Program → Name → Parts → Type 0
KeepsStreamsIn program main parts =
    (n : ℕ) (ins outs : List Stream) (ok : List Bool) → AreInputs program main n ins
    → (NodeRun program main n ins outs ok ↔ NetworkRun parts n ins outs ok)

-- ---- the streams of main's variables

-- The places of the edges of the variables of a node as main, in its network where calls are nested at most so deep.
-- More depth than its calls have changes none of them.
abbrev pub main_places_within : ℕ → Program → Node → Places
main_places_within depth program node =
    places_over program node (callees_within program depth) (places_from 0 node.inputs) (length node.inputs)

-- The same where calls are nested as deep as is allowed. This word is shut: seen through, the depth would unroll the
-- recursion.
unfoldable pub main_places : Program → Node → Places
main_places program node = main_places_within MOST_DEPTH program node

-- in frames of the network of this node as main, the streams of the edges of the node's variables
abbrev pub main_streams : Program → Node → List (List Value) → Streams
main_streams program node frames x = stream_in frames (edge (place_of (main_places program node) x))

-- In these frames of the network, main's node runs n instants over these inputs with the streams of its variables'
-- edges: those of its outputs are the network's, and those of all assertions are the streams of the assert edges.
pub record MainRunsWith (program : Program) (main : Name) (n : ℕ) (ins : List Stream) (frames : List (List Value))
    : Type 0 where
  pub node : Node
  pub found : program.node main ≡ Some node
  pub inputs : map (main_streams program node frames) (names node.inputs) ≡ ins
  pub outputs : map (main_streams program node frames) (names node.outputs)
      ≡ map (stream_in frames) (network program main).outputs
  pub lengths : HaveLength n (map (main_streams program node frames) (names (variables node)))
  pub holds : AllHold program n node (main_streams program node frames) node.items
      (map (stream_in frames) (network program main).asserts)

-- Over any number of instants and any inputs, main runs with the streams of its variables' edges in each run of the
-- network.
abbrev pub HasItsStreamsIn : Program → Name → Parts → Type 0
HasItsStreamsIn program main parts =
    (n : ℕ) (ins : List Stream) (frames : List (List Value)) → AreInputs program main n ins
    → IsRun parts.width parts.edges (rows_of n ins) frames → MainRunsWith program main n ins frames

-- ---- of a typed program

-- the name of the node declared at `typed.main`, which means this node in the program (`HasNodes.named`)
abbrev pub main_name : Typed → Name
main_name typed = option_map_or (λ (node : Node). node.name) (node_at typed.ast.decls typed.main) []

-- the program that a typed tree is
abbrev pub program_in : Typed → Program
program_in typed = program_of typed.ast.decls typed.width

-- its calls are nested at most as deep as is allowed
abbrev pub IsShallow : Typed → Type 0
IsShallow typed = IsWithinDepth (program_in typed) (main_name typed)

-- its network keeps its streams
abbrev pub KeepsStreams : Typed → Type 0
KeepsStreams typed = KeepsStreamsIn (program_in typed) (main_name typed) (network (program_in typed) (main_name typed))

-- its main node has its streams in each run of its network
abbrev pub MainHasItsStreams : Typed → Type 0
MainHasItsStreams typed =
    HasItsStreamsIn (program_in typed) (main_name typed) (network (program_in typed) (main_name typed))
