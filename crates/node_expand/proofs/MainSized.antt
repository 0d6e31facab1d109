-- The main node: whether its calls are nested too deep, how many edges its network has, and the parts of it.
use Rattle.std.proofs.Common.{◌≡◌, ℕ, zero, suc, ◌+◌, ◌≤◌, ◌<◌, get_or, min, false, List, [], ◌∷◌, ◌++◌, length, map, refl, sym, ap, ap₂, ◌∙◌, subst, arith}
use Rattle.std.specs.Prelude.{Option, Some, None, slice_get, option_map}
use Rattle.std.specs.Option.{option_map_or}
use Rattle.std.proofs.lemmas.List.{length-map}
use Rattle.lus_syntax.specs.declared.ast.Decl.{Decl}
use Rattle.lus_syntax.specs.declared.ast.Decl.TheVariants.{TypeDecl, ConstDecl, NodeDecl}
use Rattle.op_network.specs.declared.edge.Edge.{Edge}
use Rattle.op_network.specs.declared.edge.Parts.{Parts}
use Rattle.op_network.specs.declared.limits.TheConstants.{MOST_EDGES}
use Rattle.lus_types.specs.declared.typed.Typed.{Typed}
use Rattle.lus_types.specs.Names.{Name, Globals, globals}
use Rattle.lus_types.specs.Programs as programs
use Rattle.lus_types.specs.Programs.{Node, Program, node_at_place, node_declared}
use Rattle.lus_types.specs.ProgramTypes.{HasNodes, IsTypedProgram}
use Rattle.node_expand.specs.declared.draft.Draft.{Draft}
use Rattle.node_expand.specs.declared.header.Header.{Header}
use Rattle.node_expand.specs.declared.header.Variable.{Variable}
use Rattle.node_expand.specs.declared.limits.TheConstants.{MANY}
use Rattle.node_expand.specs.declared.tables.Tables.{Tables}
use Rattle.node_expand.specs.Drafts.{AddsInstance}
use Rattle.node_expand.specs.Expanding.{AllSmall, IsLarge, IsNetwork, IsReady, IsSmall, IsTooDeep, IsTooLarge, choices_of, edge_behind, inputs_at}
use Rattle.node_expand.specs.Expanding as expanding
use Rattle.node_expand.specs.Fragments.{edge}
use Rattle.node_expand.specs.Headers.{head_of, heads, heads_seen, node_seen}
use Rattle.node_expand.specs.Instances.{places_from}
use Rattle.node_expand.specs.Known.{all_results, results_at}
use Rattle.node_expand.specs.Law.{main_name, program_in}
use Rattle.node_expand.specs.Making.{AreKnown, callees_at}
use Rattle.node_expand.specs.Nesting.{IsNested}
use Rattle.node_expand.specs.Network.{callees_within, input_edges, inputs_of, network_within}
use Rattle.node_expand.specs.Outlines.{Measure, all_outlines, callee, measure_at, measures, number_of}
use Rattle.node_expand.specs.Variables.{variable_seen}
use Rattle.node_expand.proofs.HeadersKnown.{same_at}
use Rattle.node_expand.proofs.Kept.{inputs_length}
use Rattle.node_expand.proofs.KnownTables.{known_results, known_size}
use Rattle.node_expand.proofs.Measured.{IsMeasure, measured}
use Rattle.node_expand.proofs.PartsMade.{choices_are}
use Rattle.node_expand.proofs.Places.{places_map}
use Rattle.node_expand.proofs.Sizes.{sized}

length_append : {A : Type 0} (xs ys : List A) → length (xs ++ ys) ≡ length xs + length ys
length_append [] ys = omega arith
length_append (x ∷ xs) ys = let h = length_append xs ys in omega (arith, h)

-- ---- inputs

declared_inputs : (g : Globals) (d : Decl) → inputs_of (node_declared g (Some d)) ≡ (head_of g d).inputs
declared_inputs g (TypeDecl at name choices) = refl
declared_inputs g (ConstDecl at name ty value) = refl
declared_inputs g (NodeDecl at name inputs outputs locals items) = refl

inputs_of_both : (g : Globals) (h : Option Header) (d : Option Decl) → option_map node_seen h ≡ option_map (head_of g) d → map variable_seen (expanding.inputs_of h) ≡ inputs_of (node_declared g d)
inputs_of_both g None None e = refl
inputs_of_both g None (Some d) e = absurd (cc e)
inputs_of_both g (Some h) None e = absurd (cc e)
inputs_of_both g (Some h) (Some d) e =
    let same : node_seen h ≡ head_of g d = cc in
    ap (λ (n : Node). n.inputs) same ∙ sym (declared_inputs g d)

inputs_seen : (g : Globals) (decls : List Decl) (headers : List Header) (o : Option ℕ) → heads_seen headers ≡ heads g decls
    → map variable_seen (inputs_at headers o) ≡ inputs_of (node_at_place g decls o)
inputs_seen g decls headers None e = refl
inputs_seen g decls headers (Some place) e = inputs_of_both g (slice_get headers place) (slice_get decls place) (same_at g decls headers place e)

-- ---- sizes

pub net_length : (p : Program) (depth : ℕ) (f : Name) → IsNested p depth f → length (network_within depth p f).edges ≡ length (inputs_of (p.node f)) + (callees_within p depth).size f
net_length p depth f nested =
    let inputs = inputs_of (p.node f) in
    length_append (input_edges 0 inputs) _ ∙ ap₂ (λ i j. i + j) (inputs_length 0 inputs) ((sized p depth f nested).each (places_from 0 inputs) [] false (length inputs))

module _ (typed : Typed) (nodes : HasNodes typed.ast.decls typed.width typed.main) (program : IsTypedProgram (program_in typed)) (depth : ℕ) where
  abbrev p : Program
  p = program_in typed

  abbrev g : Globals
  g = globals typed.ast.decls

  main_found : p.node (main_name typed) ≡ Some nodes.main_node
  main_found =
      let name : main_name typed ≡ nodes.main_node.name = ap (λ o. option_map_or (λ (n : Node). n.name) o []) nodes.is_main in
      ap p.node name ∙ nodes.named typed.main nodes.main_node nodes.is_main

  main_measure : (m : Measure) → m ≡ measure_at (measures (all_outlines p g typed.ast.decls) depth) (callee g (main_name typed)) → IsMeasure p depth (main_name typed) m
  main_measure m is = subst (IsMeasure p depth (main_name typed)) (sym is) (measured p g typed.ast.decls (λ f. refl) program depth (main_name typed) nodes.main_node main_found)

  pub too_deep : (m : Measure) → m ≡ measure_at (measures (all_outlines p g typed.ast.decls) depth) (callee g (main_name typed)) → m ≡ None → IsTooDeep typed depth
  too_deep m is none = record { deep = subst (IsMeasure p depth (main_name typed)) none (main_measure m is) }

  input_count : (headers : List Header) (n : ℕ) → heads_seen headers ≡ heads g typed.ast.decls → n ≡ length (inputs_at headers (callee g (main_name typed))) → n ≡ length (inputs_of (p.node (main_name typed)))
  input_count headers n seen is =
      is ∙ sym (length-map (inputs_at headers (callee g (main_name typed))) variable_seen) ∙ ap (λ (l : List programs.Variable). length l) (inputs_seen g typed.ast.decls headers (callee g (main_name typed)) seen)

  large_measure : (m : Measure) (n : ℕ) → IsMeasure p depth (main_name typed) m → n ≡ length (inputs_of (p.node (main_name typed))) → IsLarge m n → IsTooLarge typed depth
  large_measure None n h count large = absurd large
  large_measure (Some m) n h count large =
      let whole = net_length p depth (main_name typed) h.0 in
      let size = h.1 in
      record { nested = h.0; many = omega (arith, whole, size, count, large) }

  pub too_large : (m : Measure) (headers : List Header) (n : ℕ) → m ≡ measure_at (measures (all_outlines p g typed.ast.decls) depth) (callee g (main_name typed)) → heads_seen headers ≡ heads g typed.ast.decls
      → n ≡ length (inputs_at headers (callee g (main_name typed))) → IsLarge m n → IsTooLarge typed depth
  too_large m headers n is seen count large = large_measure m n (main_measure m is) (input_count headers n seen count) large

  small_nested : (m : Measure) (n : ℕ) → IsMeasure p depth (main_name typed) m → IsSmall m n → IsNested p depth (main_name typed)
  small_nested None n h small = absurd small
  small_nested (Some m) n h small = h.0

  small_few : (m : Measure) (n : ℕ) → IsMeasure p depth (main_name typed) m → n ≡ length (inputs_of (p.node (main_name typed))) → IsSmall m n → length (network_within depth p (main_name typed)).edges ≤ MOST_EDGES
  small_few None n h count small = absurd small
  small_few (Some m) n h count small =
      let whole = net_length p depth (main_name typed) h.0 in
      let size = h.1 in
      omega (arith, whole, size, count, small)

  -- all that is found out before edges are made
  pub ready : (m : Measure) (n : ℕ) (tables : Tables) → tables.depth ≡ depth → heads_seen tables.headers ≡ heads g typed.ast.decls → tables.outlines ≡ all_outlines p g typed.ast.decls
      → tables.sizes ≡ measures (all_outlines p g typed.ast.decls) depth → tables.results ≡ all_results p g tables.sizes typed.ast.decls
      → m ≡ measure_at (measures (all_outlines p g typed.ast.decls) depth) (callee g (main_name typed)) → n ≡ length (inputs_at tables.headers (callee g (main_name typed))) → IsSmall m n
      → IsReady typed tables
  ready m n tables deep seen outlines sizes results is count small =
      let same : (f : Name) → p.node f ≡ node_at_place g typed.ast.decls (callee g f) = λ f. refl in
      let here : tables.sizes ≡ measures (all_outlines p g typed.ast.decls) tables.depth = sizes ∙ ap (measures (all_outlines p g typed.ast.decls)) (sym deep) in
      let made : tables.results ≡ all_results p g (measures (all_outlines p g typed.ast.decls) tables.depth) typed.ast.decls = results ∙ ap (λ s. all_results p g s typed.ast.decls) here in
      let known : AreKnown typed tables = record {
        heads = seen;
        outlines = outlines;
        program = program;
        sizes = λ f nested. ap (λ s. measure_at s (callee g f)) here ∙ known_size p g typed.ast.decls same program tables.depth f nested;
        callees = λ f nested few.
            let size = ap (λ s. number_of (measure_at s (callee g f))) here ∙ ap number_of (known_size p g typed.ast.decls same program tables.depth f nested) in
            let cut_off : min ((callees_within p tables.depth).size f) MANY ≡ (callees_within p tables.depth).size f = omega (arith, few) in
            record {
              size = size ∙ cut_off;
              results = λ start. ap (λ r. map (λ k. start + k) (results_at r (callee g f))) made ∙ known_results p g typed.ast.decls same program tables.depth f nested few start;
            };
      } in
      record {
        known = known;
        nested = subst (λ d. IsNested p d (main_name typed)) (sym deep) (small_nested m n (main_measure m is) small);
        few = subst (λ d. length (network_within d p (main_name typed)).edges ≤ MOST_EDGES) (sym deep) (small_few m n (main_measure m is) (input_count tables.headers n seen count) small);
      }

-- ---- the parts

behind_none : (xs : List ℕ) → map (edge_behind 0) xs ≡ map edge xs
behind_none [] = refl
behind_none (x ∷ xs) = let e : 0 + x ≡ x = omega arith in ap₂ (λ n l. edge n ∷ l) e (behind_none xs)

behind_some : (n : ℕ) (xs : List ℕ) → map (edge_behind n) xs ≡ map edge (map (λ k. n + k) xs)
behind_some n [] = refl
behind_some n (x ∷ xs) = ap (λ l. edge (n + x) ∷ l) (behind_some n xs)

pub main_small : (typed : Typed) (tables : Tables) → IsReady typed tables → (callees_at typed tables).size (main_name typed) + length (inputs_of ((program_in typed).node (main_name typed))) ≤ MOST_EDGES
main_small typed tables ready =
    let whole = net_length (program_in typed) tables.depth (main_name typed) ready.nested in
    let few = ready.few in
    omega (arith, whole, few)

pub main_inputs : (typed : Typed) (tables : Tables) (inputs : List Variable) (name : Name) → IsReady typed tables → name ≡ main_name typed → inputs ≡ inputs_at tables.headers (callee (globals typed.ast.decls) name)
    → map variable_seen inputs ≡ inputs_of ((program_in typed).node (main_name typed))
main_inputs typed tables inputs name ready named is =
    ap (map variable_seen) (is ∙ ap (λ x. inputs_at tables.headers (callee (globals typed.ast.decls) x)) named) ∙ inputs_seen (globals typed.ast.decls) typed.ast.decls tables.headers (callee (globals typed.ast.decls) (main_name typed)) ready.known.heads

pub input_room : (typed : Typed) (tables : Tables) (inputs : List Variable) (name : Name) → IsReady typed tables → name ≡ main_name typed → inputs ≡ inputs_at tables.headers (callee (globals typed.ast.decls) name)
    → (callees_at typed tables).size name + length inputs ≤ MOST_EDGES
input_room typed tables inputs name ready named is =
    let small = main_small typed tables ready in
    let count : length inputs ≡ length (inputs_of ((program_in typed).node (main_name typed))) = sym (length-map inputs variable_seen) ∙ ap (λ (l : List programs.Variable). length l) (main_inputs typed tables inputs name ready named is) in
    let size : (callees_at typed tables).size name ≡ (callees_at typed tables).size (main_name typed) = ap (callees_at typed tables).size named in
    omega (arith, small, count, size)

pub parts_are : (typed : Typed) (tables : Tables) (parts : Parts) (inputs : List Variable) (args results : List ℕ) (first last : Draft) (name : Name) → IsReady typed tables
    → parts.width ≡ typed.width → parts.choices ≡ choices_of typed.ast.decls → parts.edges ≡ last.edges → parts.inputs ≡ map (edge_behind 0) args
    → parts.outputs ≡ map (edge_behind (length inputs)) results → parts.asserts ≡ last.asserts
    → name ≡ main_name typed → inputs ≡ inputs_at tables.headers (callee (globals typed.ast.decls) name) → args ≡ places_from 0 inputs → results ≡ results_at tables.results (callee (globals typed.ast.decls) name)
    → first.edges ≡ input_edges 0 (map variable_seen inputs) → first.asserts ≡ []
    → AddsInstance (callees_at typed tables) name args [] false first last
    → IsNetwork typed tables.depth parts
parts_are typed tables parts inputs args results first last name ready width choices edges ins outs asserts named is args_are results_are begun none made =
    let p = program_in typed in
    let g = globals typed.ast.decls in
    let main = main_name typed in
    let full = callees_at typed tables in
    let seen = main_inputs typed tables inputs name ready named is in
    let places : args ≡ places_from 0 (inputs_of (p.node main)) = args_are ∙ sym (places_map variable_seen 0 inputs) ∙ ap (places_from 0) seen in
    let count : length inputs ≡ length (inputs_of (p.node main)) = sym (length-map inputs variable_seen) ∙ ap (λ (l : List programs.Variable). length l) seen in
    let front : first.edges ≡ input_edges 0 (inputs_of (p.node main)) = begun ∙ ap (input_edges 0) seen in
    let at : length first.edges ≡ length (inputs_of (p.node main)) = ap (λ (l : List Edge). length l) front ∙ inputs_length 0 (inputs_of (p.node main)) in
    let small = main_small typed tables ready in
    let results_known = (ready.known.callees main ready.nested (omega (arith, small))).results (length (inputs_of (p.node main))) in
    let edges_same = edges ∙ made.edges ∙ (λ i. front i ++ full.edges (named i) (places i) [] false (at i)) in
    let inputs_same = ins ∙ behind_none args ∙ ap (map edge) places in
    let outputs_same = outs ∙ behind_some (length inputs) results ∙ ap (map edge) ((λ i. map (λ k. count i + k) (results_are i)) ∙ ap (λ x. map (λ k. length (inputs_of (p.node main)) + k) (results_at tables.results (callee g x))) named ∙ results_known) in
    let asserts_same = asserts ∙ made.asserts ∙ (λ i. none i ++ map edge (full.asserts (named i) (at i))) in
    record {
      same = λ i. record {
        width = width i;
        choices = (choices ∙ choices_are typed.ast.decls) i;
        edges = edges_same i;
        inputs = inputs_same i;
        outputs = outputs_same i;
        asserts = asserts_same i;
      };
    }

-- ---- places are small

places_get : (inputs : List Variable) (next k d : ℕ) → k < length (places_from next inputs) → next + length inputs ≤ MANY → get_or (places_from next inputs) k d ≤ MANY
places_get [] next k d less few = absurd (omega (arith, less))
places_get (x ∷ inputs) next zero d less few = omega (arith, few)
places_get (x ∷ inputs) next (suc k) d less few = places_get inputs (suc next) k d (omega (arith, less)) (omega (arith, few))

pub places_small : (inputs : List Variable) (places : List ℕ) → places ≡ places_from 0 inputs → length inputs ≤ MOST_EDGES → AllSmall places
places_small inputs places is few = subst AllSmall (sym is) (λ k d less. places_get inputs 0 k d less (omega (arith, few)))

pub input_few : (typed : Typed) (tables : Tables) (inputs : List Variable) (name : Name) → IsReady typed tables → name ≡ main_name typed → inputs ≡ inputs_at tables.headers (callee (globals typed.ast.decls) name)
    → length inputs ≤ MOST_EDGES
input_few typed tables inputs name ready named is =
    let room = input_room typed tables inputs name ready named is in
    omega (arith, room)

pub begun_count : (edges first : List Edge) (inputs : List Variable) → first ≡ [] → edges ≡ first ++ input_edges 0 (map variable_seen inputs) → length edges ≡ length inputs
begun_count edges first inputs none is =
    ap (λ (l : List Edge). length l) (is ∙ ap (λ l. l ++ input_edges 0 (map variable_seen inputs)) none) ∙ inputs_length 0 (map variable_seen inputs) ∙ length-map inputs variable_seen
