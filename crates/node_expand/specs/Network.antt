-- The network of a program.
use Rattle.std.specs.Prelude.{ℕ, zero, suc, true, false, List, [], ◌∷◌, ◌++◌, length, map, Option}
use Rattle.std.specs.Option.{option_map_or}
use Rattle.op_network.specs.declared.edge.Choice.{Choice}
use Rattle.op_network.specs.declared.edge.Edge.{Edge}
use Rattle.op_network.specs.declared.edge.Op.TheVariants as op
use Rattle.op_network.specs.declared.edge.Parts.{Parts}
use Rattle.lus_types.specs.Names.{Name}
use Rattle.lus_types.specs.Programs.{Enumeration, Node, Program, Variable}
use Rattle.node_expand.specs.declared.limits.TheConstants.{MOST_DEPTH}
use Rattle.node_expand.specs.Fragments.{Callees, edge}
use Rattle.node_expand.specs.Instances.{places_from, size_over, results_over, asserts_over, edges_over}

-- the nodes from which calls are nested at most so deep; a node without calls is 1 deep
abbrev pub callees_within : Program → ℕ → Callees
callees_within program zero = record {
  size = λ g. 0;
  results = λ g start. [];
  asserts = λ g start. [];
  edges = λ g args prefix asserted start. [];
}
callees_within program (suc depth) = record {
  size = λ g. size_over program (callees_within program depth) (program.node g);
  results = λ g. results_over program (callees_within program depth) (program.node g);
  asserts = λ g. asserts_over program (callees_within program depth) (program.node g);
  edges = λ g. edges_over program (callees_within program depth) (program.node g);
}

-- an enumerated type of the program, as one of the network
abbrev pub choice_of : Enumeration → Choice
choice_of e = record { name = e.name; names = e.names }

abbrev pub input_edges : ℕ → List Variable → List Edge
input_edges i [] = []
input_edges i (v ∷ inputs) =
    record { op = op.Input i; ty = v.ty; name = v.name; named = true; asserted = false }
    ∷ input_edges (suc i) inputs

abbrev pub inputs_of : Option Node → List Variable
inputs_of found = option_map_or (λ (node : Node). node.inputs) found []

-- The network of a node as main, from which calls are nested at most so deep: the inputs, and the instance of main over
-- them, whose names have no prefix.
abbrev pub network_within : ℕ → Program → Name → Parts
network_within depth program main =
    let inputs = inputs_of (program.node main) in
    let callees = callees_within program depth in
    record {
      width = program.width;
      choices = map choice_of program.types;
      edges = input_edges 0 inputs ++ callees.edges main (places_from 0 inputs) [] false (length inputs);
      inputs = map edge (places_from 0 inputs);
      outputs = map edge (callees.results main (length inputs));
      asserts = map edge (callees.asserts main (length inputs));
    }

-- The network of a program whose main node has this name, where calls are nested as deep as is allowed. This word is
-- shut: seen through, the depth would unroll the recursion.
unfoldable pub network : Program → Name → Parts
network program main = network_within MOST_DEPTH program main
