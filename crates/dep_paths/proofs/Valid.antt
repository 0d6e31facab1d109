-- What validity says of the edges that a network names.
use Rattle.std.proofs.Common.{◌≡◌, ℕ, ◌<◌, List, Option, Some, None, option_map, length, get_or, slice_get, refl, ap, sym, ◌∙◌, subst, arith}
use Rattle.std.specs.List.{All}
use Rattle.std.proofs.lemmas.List.Elements.{All-contains}
use Rattle.std.proofs.lemmas.Option.{slice_get_within, slice_get-get_or}
use Rattle.op_network.specs.declared.edge.Edge.{Edge}
use Rattle.op_network.specs.declared.edge.EdgeId.{EdgeId}
use Rattle.op_network.specs.declared.edge.Parts.{Parts}
use Rattle.op_network.specs.declared.edge.Op.{Op}
use Rattle.op_network.specs.Valid.{IsValid}
use Rattle.dep_paths.specs.Has.{Has}
use Rattle.dep_paths.specs.Near.{IsClosed}
use Rattle.dep_paths.proofs.Lists.{Contains-has, in_order_pairs}
use Rattle.dep_paths.proofs.Table.{Has-get_or}

has_op : (o : Option Edge) (edges : List Edge) (e : ℕ) (op : Op) → slice_get edges e ≡ o → option_map (λ (edge : Edge). edge.op) o ≡ Some op → e < length edges
has_op None edges e op is h = cc
has_op (Some edge) edges e op is h = slice_get_within edges e edge is

input_inside : (net : Parts) (e : EdgeId) → IsValid net → Has net.inputs e → e.0 < length net.edges
input_inside net e valid has =
    let c = Contains-has net.inputs e has in
    let at : slice_get net.inputs c.0 ≡ Some e = slice_get-get_or net.inputs c.0 e c.1 ∙ ap Some c.2 in
    has_op (slice_get net.edges e.0) net.edges e.0 _ refl (valid.inputs.numbered c.0 e at)

pub closed_of : (net : Parts) → IsValid net → IsClosed net
closed_of net valid = record {
  few = valid.few;
  inputs = λ e has. input_inside net e valid has;
  outputs = λ e has. All-contains (λ (e : EdgeId). e.0 < length net.edges) net.outputs e valid.outputs (Contains-has net.outputs e has);
  order = in_order_pairs (λ (a b : EdgeId). a.0 < b.0) net.inputs valid.inputs.order;
}

pub inputs_near : (net : Parts) (near : List ℕ) (inputs : List EdgeId) → IsClosed net → length near ≡ length net.edges → inputs ≡ net.inputs → All (λ (e : EdgeId). e.0 < length near) inputs
inputs_near net near inputs closed long is = subst (All (λ (e : EdgeId). e.0 < length near)) (sym is)
    (λ k d within. omega (arith, long, closed.inputs (get_or net.inputs k d) (Has-get_or net.inputs k d within)))
