-- The network of a typed program is valid.
use Rattle.std.proofs.Common.{◌≡◌, ◌≢◌, ℕ, zero, suc, ◌+◌, ◌<◌, ◌≤◌, false, Option, Some, List, [], ◌∷◌, length, length-append, map, slice_get, refl, sym, ap, subst, ◌∙◌, arith}
use Rattle.std.proofs.Math.ListN.{get_or-map}
use Rattle.std.proofs.lemmas.List.{length-map}
use Rattle.std.specs.List.{AllByRecursion}
use Rattle.std.specs.Option.{option_map}
use Rattle.std.specs.Prelude.{All, AllPairs}
use Rattle.op_network.specs.declared.edge.Choice.{Choice}
use Rattle.op_network.specs.declared.edge.Edge.{Edge}
use Rattle.op_network.specs.declared.edge.EdgeId.{EdgeId}
use Rattle.op_network.specs.declared.edge.Parts.{Parts}
use Rattle.op_network.specs.declared.form.Form.{Form}
use Rattle.op_network.specs.declared.form.Form.TheVariants.{Arrow, Const, Input, Ite, One, Pre, Two}
use Rattle.op_network.specs.declared.limits.TheConstants.{MOST_EDGES}
use Rattle.op_network.specs.declared.value.Ty.{Ty}
use Rattle.op_network.specs.declared.value.Ty.TheVariants as type
use Rattle.op_network.specs.declared.value.Value.{Value}
use Rattle.op_network.specs.declared.value.Value.TheVariants as value
use Rattle.op_network.specs.Operators.{form_of}
use Rattle.op_network.specs.Valid.{GivesType, HasType, IsChoice, IsName, IsTypeOf as IsNetworkType, IsValid, IsWellTyped, type_of}
use Rattle.op_network.specs.Values.{IsWord}
use Rattle.op_network.proofs.Typing.{typed_inside}
use Rattle.lus_types.specs.Calls.{In, here, there}
use Rattle.lus_types.specs.Facts.{HasFewEnumerators, IsIdentifier, IsTypeOf}
use Rattle.lus_types.specs.Names.{Name}
use Rattle.lus_types.specs.Programs.{Enumeration, Node, Program, Variable, names, types}
use Rattle.lus_types.specs.ProgramTypes.{FitsValue}
use Rattle.lus_types.proofs.Members.{in_left}
use Rattle.node_expand.specs.declared.limits.TheConstants.{MOST_DEPTH}
use Rattle.node_expand.specs.Fragments.{edge}
use Rattle.node_expand.specs.Instances.{places_from}
use Rattle.node_expand.specs.Nesting.{IsNested, IsWithinDepth}
use Rattle.node_expand.specs.Network.{callees_within, choice_of, input_edges, inputs_of, network, network_within}
use Rattle.node_expand.proofs.Lists.{all_append}
use Rattle.node_expand.proofs.Sizes.{sized}
use Rattle.node_expand.proofs.TypedExprs.{Fits, GivesTypeAt, StandAt, outputs_of, stand_at}
use Rattle.node_expand.proofs.TypedNodes.{TypedInstance, edge_types, edges_left, edges_right, instance_typed, parts_at}
use Rattle.node_expand.proofs.UniqueNames.{edge_names, names_apart}
use Rattle.node_expand.proofs.ValidFacts.{IsExpandable}
use Rattle.node_expand.proofs.ValidInputs.{has_inputs}
use Rattle.node_expand.proofs.ValidLists.{all_index, distinct_pairs, edges_index, rising_differ}
use Rattle.node_expand.proofs.ValidNames.{all_at, input_names}
use Rattle.node_expand.proofs.ValidPlaces.{asserts_rise, outputs_differ}
use Rattle.node_expand.proofs.ValidTexts.{edges_named, identifier_name}
use Rattle.node_expand.proofs.ValidTypes.{variable_exists}

-- ---- choices

choice_valid : (e : Enumeration) → HasFewEnumerators e → All IsIdentifier e.names → IsChoice (choice_of e)
choice_valid e few ids = record {
  some = few.some;
  few = few.few;
  names = λ k d h. identifier_name _ (ids k d h);
  apart = distinct_pairs e.names few.distinct;
}

choices_valid : (es : List Enumeration) → ((e : Enumeration) → In e es → IsChoice (choice_of e))
    → AllByRecursion IsChoice (map choice_of es)
choices_valid [] h = tt
choices_valid (e ∷ es) h = (h e here, choices_valid es (λ f i. h f (there i)))

choice_at : (es : List Enumeration) (c : ℕ) (e : Enumeration) → slice_get es c ≡ Some e
    → slice_get (map choice_of es) c ≡ Some (choice_of e)
choice_at [] c e h = absurd (cc h)
choice_at (f ∷ es) zero e h = ap (λ (o : Option Enumeration). option_map choice_of o) h
choice_at (f ∷ es) (suc c) e h = choice_at es c e h

-- ---- types

pub inputs_types : (at : ℕ → Option Ty) (i k : ℕ) (inputs : List Variable)
    → StandAt at k (edge_types (input_edges i inputs)) → map at (places_from k inputs) ≡ map Some (types inputs)
inputs_types at i k [] h = refl
inputs_types at i k (v ∷ inputs) h = λ j. h.0 j ∷ inputs_types at (suc i) (suc k) inputs h.1 j

pub inputs_count : (i : ℕ) (inputs : List Variable) → length (input_edges i inputs) ≡ length inputs
inputs_count i [] = refl
inputs_count i (v ∷ inputs) = ap suc (inputs_count (suc i) inputs)

module _ (program : Program) (parts : Parts) (width : program.width ≡ parts.width) (choices : parts.choices ≡ map choice_of program.types) where
  known_type : (ty : Ty) → IsTypeOf program ty → IsNetworkType parts ty
  known_type type.Truth h = tt
  known_type type.Word h = tt
  known_type (type.Choice c) h = let long = length-map program.types choice_of in let same = ap (λ (cs : List Choice). length cs) choices in omega (arith, h, long, same)

  known_value : (v : Value) (ty : Ty) → FitsValue program v ty → HasType parts v ty
  known_value (value.Truth b) type.Truth h = tt
  known_value (value.Truth b) type.Word h = absurd h
  known_value (value.Truth b) (type.Choice c) h = absurd h
  known_value (value.Word w) type.Truth h = absurd h
  known_value (value.Word w) type.Word h = subst (λ n. IsWord n w) width h
  known_value (value.Word w) (type.Choice c) h = absurd h
  known_value (value.Choice k) type.Truth h = absurd h
  known_value (value.Choice k) type.Word h = absurd h
  known_value (value.Choice k) (type.Choice c) h = (choice_of h.0, ap (λ (cs : List Choice). slice_get cs c) choices ∙ choice_at program.types c h.0 h.1, h.2)

  form_typed : (f : Form) (ty : Ty) → GivesTypeAt program (λ p. type_of parts.edges (edge p)) f ty → GivesType parts f ty
  form_typed (Input i) ty h = absurd h
  form_typed (Const v) ty h = known_value v ty h
  form_typed (One o a) ty h = h
  form_typed (Two o a b) ty h = h
  form_typed (Ite a b c) ty h = h
  form_typed (Arrow a b) ty h = h
  form_typed (Pre a) ty h = h

  abbrev IsFine : Edge → Type 0
  IsFine e = IsNetworkType parts e.ty × IsWellTyped parts e.op e.ty

  inner_fine : (edges : List Edge)
      → AllByRecursion (λ (e : Edge). Fits program (λ p. type_of parts.edges (edge p)) e.op e.ty) edges
      → AllByRecursion IsFine edges
  inner_fine [] h = tt
  inner_fine (e ∷ edges) h = ((known_type e.ty h.0.exists, form_typed (form_of e.op) e.ty h.0.gives), inner_fine edges h.1)

  inputs_fine : (i : ℕ) (inputs : List Variable) → ((v : Variable) → In v inputs → IsTypeOf program v.ty)
      → AllByRecursion IsFine (input_edges i inputs)
  inputs_fine i [] h = tt
  inputs_fine i (v ∷ inputs) h = ((known_type v.ty (h v here), known_type v.ty (h v here)), inputs_fine (suc i) inputs (λ u j. h u (there j)))

fine_types : (P Q : Edge → Type 0) (edges : List Edge) → AllByRecursion (λ e. P e × Q e) edges
    → AllByRecursion P edges × AllByRecursion Q edges
fine_types P Q [] h = (tt, tt)
fine_types P Q (e ∷ edges) h = let rest = fine_types P Q edges h.1 in ((h.0.0, rest.0), (h.0.1, rest.1))

names_pairs : (edges : List Edge) → AllPairs (λ a b. a ≢ b) (edge_names edges) → AllPairs (λ (a b : Edge). a.name ≢ b.name) edges
names_pairs edges h i j d less within same =
    h i j d.name less (omega (arith, length-map edges (λ (e : Edge). e.name)))
    (get_or-map (λ (e : Edge). e.name) edges i d ∙ same ∙ sym (get_or-map (λ (e : Edge). e.name) edges j d))

typed_places : (at : ℕ → Option Ty) (ps : List ℕ) (ts : List Ty) → map at ps ≡ map Some ts
    → AllByRecursion (λ p. (t : Ty) × (at p ≡ Some t)) ps
typed_places at [] ts e = tt
typed_places at (p ∷ ps) [] e = absurd (cc e)
typed_places at (p ∷ ps) (t ∷ ts) e = ((t, let same : at p ≡ Some t = cc e in same), typed_places at ps ts (cc e))

inside : (edges : List Edge) (ps : List ℕ) → AllByRecursion (λ p. (t : Ty) × (type_of edges (edge p) ≡ Some t)) ps
    → AllByRecursion (λ p. p < length edges) ps
inside edges [] h = tt
inside edges (p ∷ ps) h = (typed_inside edges (edge p) h.0.0 h.0.1, inside edges ps h.1)

-- ---- the network

module _ (program : Program) (whole : IsExpandable program) where
  main_input : (depth : ℕ) (main : Name) → IsNested program depth main → (v : Variable)
      → In v (inputs_of (program.node main)) → IsTypeOf program v.ty
  main_input zero main nested v i = absurd nested
  main_input (suc depth) main nested v i =
      let node = nested.0 in
      variable_exists program whole main node nested.1 v (in_left node.inputs _ v (subst (λ (o : Option Node). In v (inputs_of o)) nested.1 i))

  main_identifiers : (depth : ℕ) (main : Name) → IsNested program depth main
      → AllByRecursion IsIdentifier (names (inputs_of (program.node main)))
  main_identifiers zero main nested = absurd nested
  main_identifiers (suc depth) main nested = subst (λ (o : Option Node). AllByRecursion IsIdentifier (names (inputs_of o))) (sym nested.1) (input_names program whole main nested.0 nested.1)

  module _ (depth : ℕ) (main : Name) (nested : IsNested program depth main) (few : length (network_within depth program main).edges ≤ MOST_EDGES) where
    abbrev parts : Parts
    parts = network_within depth program main

    abbrev inputs : List Variable
    inputs = inputs_of (program.node main)

    abbrev body : List Edge
    body = (callees_within program depth).edges main (places_from 0 inputs) [] false (length inputs)

    abbrev at : ℕ → Option Ty
    at p = type_of parts.edges (edge p)

    small : (callees_within program depth).size main ≤ MOST_EDGES
    small = omega (arith, few, length-append (input_edges 0 inputs) body, (sized program depth main nested).each (places_from 0 inputs) [] false (length inputs))

    whole_types : StandAt at 0 (edge_types parts.edges)
    whole_types = parts_at (λ (e : Edge). e.ty) parts.edges parts.edges 0 (λ i. ap at (omega arith))

    body_types : StandAt at (length inputs) (edge_types body)
    body_types = stand_at at (edge_types body) (omega (arith, inputs_count 0 inputs)) (edges_right at 0 (input_edges 0 inputs) body whole_types)

    instance : TypedInstance program whole at (callees_within program depth) main
    instance = instance_typed program whole at depth main nested

    body_fits : AllByRecursion (λ (e : Edge). Fits program at e.op e.ty) body
    body_fits = instance.fits (places_from 0 inputs) [] false (length inputs) body_types (inputs_types at 0 0 inputs (edges_left at 0 (input_edges 0 inputs) body whole_types))

    fine : AllByRecursion (IsFine program parts refl refl) parts.edges
    fine = all_append (IsFine program parts refl refl) (input_edges 0 inputs) body (inputs_fine program parts refl refl 0 inputs (main_input depth main nested)) (inner_fine program parts refl refl body body_fits)

    abbrev results : List ℕ
    results = (callees_within program depth).results main (length inputs)

    abbrev asserts : List ℕ
    asserts = (callees_within program depth).asserts main (length inputs)

    pub valid_within : IsValid parts
    valid_within =
        let both = fine_types (λ e. IsNetworkType parts e.ty) (λ e. IsWellTyped parts e.op e.ty) parts.edges fine in
        record {
          narrowest = whole.width.narrowest;
          widest = whole.width.widest;
          few = few;
          choices = all_index IsChoice parts.choices (choices_valid program.types (λ e i. choice_valid e (all_at HasFewEnumerators program.types whole.choices e i) (all_at (λ (e : Enumeration). All IsIdentifier e.names) program.types whole.identifiers.of_enumerators e i)));
          types = all_index _ parts.edges both.0;
          typed = all_index _ parts.edges both.1;
          names = all_index (λ (e : Edge). IsName e.name) parts.edges (edges_named program whole MOST_EDGES (omega arith) depth main nested small 0 inputs (main_identifiers depth main nested) (places_from 0 inputs) (length inputs));
          apart = names_pairs parts.edges (distinct_pairs (edge_names parts.edges) (names_apart program whole MOST_EDGES (omega arith) depth main nested small));
          inputs = has_inputs program at inputs body body_fits;
          outputs = edges_index (λ (e : EdgeId). e.0 < length parts.edges) results (inside parts.edges results (typed_places at results (types (outputs_of (program.node main))) (instance.results (places_from 0 inputs) [] false (length inputs) body_types)));
          once = outputs_differ program whole depth main nested (length inputs);
          asserts = edges_index (λ (e : EdgeId). type_of parts.edges e ≡ Some type.Truth) asserts (instance.asserts (places_from 0 inputs) [] false (length inputs) body_types);
          asserted_once = rising_differ (length inputs) (length inputs + (callees_within program depth).size main) asserts (asserts_rise program whole depth main nested (length inputs));
        }

-- The network of a typed program whose calls are not nested too deep is valid, if its edges are not too many.
pub network_is_valid : (program : Program) (main : Name) → IsExpandable program → IsWithinDepth program main
    → length (network program main).edges ≤ MOST_EDGES → IsValid (network program main)
unfolding network IsWithinDepth
network_is_valid program main whole nested few = valid_within program whole MOST_DEPTH main nested few
