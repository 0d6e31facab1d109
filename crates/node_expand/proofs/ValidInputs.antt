-- The inputs of a network are its edges `Input`, in order.
use Rattle.std.proofs.Common.{◌≡◌, ℕ, zero, suc, ◌+◌, Option, Some, List, [], ◌∷◌, ◌++◌, length, map, slice_get, ap, subst, ◌∙◌, arith}
use Rattle.std.specs.List.{AllByRecursion}
use Rattle.op_network.specs.declared.edge.Edge.{Edge}
use Rattle.op_network.specs.declared.edge.EdgeId.{EdgeId}
use Rattle.op_network.specs.declared.edge.Op.{Op}
use Rattle.op_network.specs.declared.edge.Op.TheVariants as op
use Rattle.op_network.specs.declared.value.Ty.{Ty}
use Rattle.op_network.specs.Operators.{form_of}
use Rattle.op_network.specs.Valid.{HasInputs, op_of}
use Rattle.lus_types.specs.Programs.{Program, Variable}
use Rattle.lus_types.proofs.Identifiers.{in_of_get}
use Rattle.node_expand.specs.Fragments.{edge}
use Rattle.node_expand.specs.Instances.{places_from}
use Rattle.node_expand.specs.Network.{input_edges}
use Rattle.node_expand.proofs.Lists.{all_in}
use Rattle.node_expand.proofs.TypedExprs.{Fits, GivesTypeAt}
use Rattle.node_expand.proofs.ValidLists.{rising_order, rising_places}

-- the i-th input's edge
input_at : (k : ℕ) (inputs : List Variable) (body : List Edge) (i : ℕ) (e : EdgeId)
    → slice_get (map edge (places_from k inputs)) i ≡ Some e
    → (e ≡ edge (k + i)) × (op_of (input_edges k inputs ++ body) i ≡ Some (op.Input (k + i)))
input_at k [] body i e h = absurd (cc h)
input_at k (v ∷ inputs) body zero e h = (let same : e ≡ edge k = cc h in same ∙ ap edge (omega arith), ap (λ n. Some (op.Input n)) (omega arith))
input_at k (v ∷ inputs) body (suc i) e h =
    let w = input_at (suc k) inputs body i e h in
    (w.0 ∙ ap edge (omega arith), w.1 ∙ ap (λ n. Some (op.Input n)) (omega arith))

module _ (program : Program) (at : ℕ → Option Ty) where
  abbrev AllFit : List Edge → Type 0
  AllFit edges = AllByRecursion (λ (e : Edge). Fits program at e.op e.ty) edges

  -- what fits is no input
  no_input : (e : Edge) (i : ℕ) → Fits program at e.op e.ty → e.op ≡ op.Input i → ⊥
  no_input e i fits is = subst (λ (o : Op). GivesTypeAt program at (form_of o) e.ty) is fits.gives

  same_edge : (a b : Edge) → Some a ≡ Some b → a ≡ b
  same_edge a b h = cc h

  input_of : (k i : ℕ) → op.Input k ≡ op.Input i → i ≡ k
  input_of k i h = cc h

  -- an edge `Input` is an input
  is_input : (k : ℕ) (inputs : List Variable) (body : List Edge) → AllFit body → (e : ℕ) (x : Edge)
      → slice_get (input_edges k inputs ++ body) e ≡ Some x → (i : ℕ) → x.op ≡ op.Input i
      → (i ≡ k + e) × (slice_get (map edge (places_from k inputs)) e ≡ Some (edge (k + e)))
  is_input k [] body fits e x h i is = absurd (no_input x i (all_in (λ (y : Edge). Fits program at y.op y.ty) body x fits (in_of_get body e x h)) is)
  is_input k (v ∷ inputs) body fits zero x h i is =
      let own = ap (λ (y : Edge). y.op) (same_edge _ x h) in
      (input_of k i (own ∙ is) ∙ omega arith, ap (λ n. Some (edge n)) (omega arith))
  is_input k (v ∷ inputs) body fits (suc e) x h i is =
      let w = is_input (suc k) inputs body fits e x h i is in
      (w.0 ∙ omega arith, w.1 ∙ ap (λ n. Some (edge n)) (omega arith))

  pub has_inputs : (inputs : List Variable) (body : List Edge) → AllFit body
      → HasInputs (input_edges 0 inputs ++ body) (map edge (places_from 0 inputs))
  has_inputs inputs body fits = record {
    numbered = λ i e h.
        let w = input_at 0 inputs body i e h in
        ap (λ (e : EdgeId). op_of (input_edges 0 inputs ++ body) e.0) (w.0 ∙ ap edge (from_none i)) ∙ w.1
        ∙ ap (λ n. Some (op.Input n)) (from_none i);
    all = λ e x h i is.
        let w = is_input 0 inputs body fits e x h i is in
        let same : i ≡ e = w.0 ∙ from_none e in
        ap (slice_get (map edge (places_from 0 inputs))) same ∙ w.1 ∙ ap (λ n. Some (edge n)) (from_none e);
    order = rising_order 0 (0 + length inputs) (places_from 0 inputs) (rising_places 0 inputs);
  }
    where
      from_none : (n : ℕ) → 0 + n ≡ n
      from_none n = omega arith
