-- The parts of a network, one after the other.
use Rattle.std.proofs.Common.{◌≡◌, ℕ, zero, suc, ◌+◌, ◌≤◌, ◌<◌, min, get_or, List, [], ◌∷◌, ◌++◌, drop, length, map, refl, sym, ap, ◌∙◌, arith, append_assoc, append-nil}
use Rattle.std.specs.Prelude.{All}
use Rattle.std.proofs.lemmas.List.{length-map}
use Rattle.lus_syntax.specs.declared.ast.Decl.{Decl}
use Rattle.lus_syntax.specs.declared.ast.Decl.TheVariants.{TypeDecl, ConstDecl, NodeDecl}
use Rattle.op_network.specs.declared.edge.Edge.{Edge}
use Rattle.lus_types.specs.Names.{Name, Globals, spot_names}
use Rattle.node_expand.specs.Fragments.{place_of}
use Rattle.node_expand.specs.Known.{root_places}
use Rattle.node_expand.specs.NameTables.{with_entries}
use Rattle.lus_types.specs.Programs as program
use Rattle.lus_types.specs.Programs.{Program, enumerations, names}
use Rattle.node_expand.specs.declared.header.Header.{Header}
use Rattle.node_expand.specs.declared.header.Variable.{Variable}
use Rattle.node_expand.specs.declared.limits.TheConstants.{MANY}
use Rattle.node_expand.specs.declared.outlines.Outline.{Outline}
use Rattle.node_expand.specs.Expanding.{choices_of, input_edge}
use Rattle.node_expand.specs.Headers.{head_of, heads, heads_seen, items_of}
use Rattle.node_expand.specs.Instances.{places_from}
use Rattle.node_expand.specs.Known.{all_results, result_places, results_among}
use Rattle.node_expand.specs.Network.{choice_of, input_edges}
use Rattle.node_expand.specs.Outlines.{Measure, all_outlines, outlines_of}
use Rattle.node_expand.specs.Small.{AreSmall}
use Rattle.node_expand.specs.Variables.{names_of, variable_seen}
use Rattle.node_expand.proofs.HeadersKnown.{head_at}
use Rattle.node_expand.proofs.InstanceKnown.{names_seen}

pub choices_are : (decls : List Decl) → choices_of decls ≡ map choice_of (enumerations decls)
choices_are [] = refl
choices_are (TypeDecl at name choices ∷ decls) = ap (λ l. record { name = name.text; names = spot_names choices } ∷ l) (choices_are decls)
choices_are (ConstDecl at name ty value ∷ decls) = choices_are decls
choices_are (NodeDecl at name inputs outputs locals items ∷ decls) = choices_are decls

inputs_more : (inputs : List Variable) (i : ℕ) (k : ℕ) (v : Variable) → i < length inputs → v ≡ get_or inputs i v
    → input_edges k (map variable_seen (drop i inputs)) ≡ input_edge k v ∷ input_edges (suc k) (map variable_seen (drop (suc i) inputs))
inputs_more [] i k v less is = absurd (omega (arith, less))
inputs_more (x ∷ inputs) zero k v less is = ap (λ (w : Variable). input_edge k w ∷ input_edges (suc k) (map variable_seen inputs)) (sym is)
inputs_more (x ∷ inputs) (suc i) k v less is = inputs_more inputs i k v (omega (arith, less)) is

pub inputs_step : (inputs : List Variable) (i : ℕ) (v : Variable) (edges new all : List Edge) → i < length inputs → v ≡ get_or inputs i v
    → new ≡ edges ++ input_edge i v ∷ [] → edges ++ input_edges i (map variable_seen (drop i inputs)) ≡ all
    → new ++ input_edges (i + 1) (map variable_seen (drop (i + 1) inputs)) ≡ all
inputs_step inputs i v edges new all less is made whole =
    let one : i + 1 ≡ suc i = omega arith in
    let rest = input_edges (suc i) (map variable_seen (drop (suc i) inputs)) in
    ap (λ k. new ++ input_edges k (map variable_seen (drop k inputs))) one ∙ ap (λ l. l ++ rest) made ∙ append_assoc edges (input_edge i v ∷ []) rest
    ∙ ap (λ l. edges ++ l) (sym (inputs_more inputs i i v less is)) ∙ whole

places_more : (inputs : List Variable) (i k : ℕ) → i < length inputs → places_from k (drop i inputs) ≡ k ∷ places_from (suc k) (drop (suc i) inputs)
places_more [] i k less = absurd (omega (arith, less))
places_more (x ∷ inputs) zero k less = refl
places_more (x ∷ inputs) (suc i) k less = places_more inputs i k (omega (arith, less))

pub places_step : (inputs : List Variable) (i : ℕ) (places new all : List ℕ) → i < length inputs → new ≡ places ++ i ∷ []
    → places ++ places_from i (drop i inputs) ≡ all → new ++ places_from (i + 1) (drop (i + 1) inputs) ≡ all
places_step inputs i places new all less made whole =
    let one : i + 1 ≡ suc i = omega arith in
    let rest = places_from (suc i) (drop (suc i) inputs) in
    ap (λ k. new ++ places_from k (drop k inputs)) one ∙ ap (λ l. l ++ rest) made ∙ append_assoc places (i ∷ []) rest
    ∙ ap (λ l. places ++ l) (sym (places_more inputs i i less)) ∙ whole

-- ---- results

abbrev pub of_decl : Program → Globals → List Measure → Decl → List ℕ
of_decl p g sizes d = result_places sizes (head_of g d) (items_of d) (outlines_of p g d)

results_more : (p : Program) (g : Globals) (sizes : List Measure) (decls : List Decl) (i : ℕ) (d : Decl) → i < length decls → d ≡ get_or decls i d
    → all_results p g sizes (drop i decls) ≡ of_decl p g sizes d ∷ all_results p g sizes (drop (suc i) decls)
results_more p g sizes [] i d less is = absurd (omega (arith, less))
results_more p g sizes (x ∷ decls) zero d less is = ap (λ y. of_decl p g sizes y ∷ all_results p g sizes decls) (sym is)
results_more p g sizes (x ∷ decls) (suc i) d less is = results_more p g sizes decls i d (omega (arith, less)) is

outlines_at : (p : Program) (g : Globals) (decls : List Decl) (i : ℕ) (d : Decl) (o : List Outline) → i < length decls
    → d ≡ get_or decls i d → o ≡ get_or (all_outlines p g decls) i o → o ≡ outlines_of p g d
outlines_at p g [] i d o less is at = absurd (omega (arith, less))
outlines_at p g (x ∷ decls) zero d o less is at = at ∙ ap (outlines_of p g) (sym is)
outlines_at p g (x ∷ decls) (suc i) d o less is at = outlines_at p g decls i d o (omega (arith, less)) is at

pub outline_count : (p : Program) (g : Globals) (decls : List Decl) (all : List (List Outline)) (i : ℕ) (d : Decl) (o : List Outline) → all ≡ all_outlines p g decls → i < length decls
    → d ≡ get_or decls i d → o ≡ get_or all i o → length o ≡ length (items_of d)
outline_count p g decls all i d o same less is at =
    ap (λ (l : List Outline). length l) (outlines_at p g decls i d o less is (at ∙ ap (λ l. get_or l i o) same)) ∙ length-map (items_of d) _

pub results_step : (p : Program) (g : Globals) (sizes : List Measure) (decls : List Decl) (headers : List Header) (all_of : List (List Outline)) (i : ℕ) (d : Decl) (h : Header) (o : List Outline) (made : List ℕ) (now new all : List (List ℕ))
    → heads_seen headers ≡ heads g decls → all_of ≡ all_outlines p g decls → i < length decls → d ≡ get_or decls i d → h ≡ get_or headers i h → o ≡ get_or all_of i o
    → made ≡ results_among sizes (items_of d) o (names_of h.outputs) → new ≡ now ++ made ∷ []
    → now ++ all_results p g sizes (drop i decls) ≡ all → new ++ all_results p g sizes (drop (i + 1) decls) ≡ all
results_step p g sizes decls headers all_of i d h o made now new all seen same less is h_is o_is result added whole =
    let one : i + 1 ≡ suc i = omega arith in
    let rest = all_results p g sizes (drop (suc i) decls) in
    let outs : names_of h.outputs ≡ names (head_of g d).outputs = names_seen h.outputs ∙ ap (λ (n : program.Node). names n.outputs) (head_at g decls headers i d h seen less is h_is) in
    let outline_is = outlines_at p g decls i d o less is (o_is ∙ ap (λ l. get_or l i o) same) in
    let this : made ≡ of_decl p g sizes d = result ∙ (λ j. results_among sizes (items_of d) (outline_is j) (outs j)) in
    ap (λ k. new ++ all_results p g sizes (drop k decls)) one ∙ ap (λ l. l ++ rest) added ∙ append_assoc now (made ∷ []) rest
    ∙ ap (λ r. now ++ r ∷ rest) this ∙ ap (λ l. now ++ l) (sym (results_more p g sizes decls i d less is)) ∙ whole

small_get : (f : Name → ℕ) (xs : List Name) (k : ℕ) (d : ℕ) → k < length (map (λ x. min (f x) MANY) xs) → get_or (map (λ x. min (f x) MANY) xs) k d ≤ MANY
small_get f [] k d less = absurd (omega (arith, less))
small_get f (x ∷ xs) zero d less = omega arith
small_get f (x ∷ xs) (suc k) d less = small_get f xs k d (omega (arith, less))

small_list : (f : Name → ℕ) (xs : List Name) → All (λ k. k ≤ MANY) (map (λ x. min (f x) MANY) xs)
small_list f xs = λ k d less. small_get f xs k d less

all_small_get : (p : Program) (g : Globals) (sizes : List Measure) (decls : List Decl) (k : ℕ) (d : List ℕ) → k < length (all_results p g sizes decls) → All (λ k. k ≤ MANY) (get_or (all_results p g sizes decls) k d)
all_small_get p g sizes [] k d less = absurd (omega (arith, less))
all_small_get p g sizes (x ∷ decls) zero d less = small_list (λ y. place_of (with_entries [] (root_places sizes 0 (items_of x) (outlines_of p g x))) y) (names (head_of g x).outputs)
all_small_get p g sizes (x ∷ decls) (suc k) d less = all_small_get p g sizes decls k d (omega (arith, less))

pub all_small : (p : Program) (g : Globals) (sizes : List Measure) (decls : List Decl) → AreSmall (all_results p g sizes decls)
all_small p g sizes decls = λ k d less. all_small_get p g sizes decls k d less

drop_whole : {A : Type 0} (xs : List A) (n : ℕ) → n ≡ length xs → drop n xs ≡ []
drop_whole [] zero e = refl
drop_whole [] (suc n) e = absurd (omega (arith, e))
drop_whole (x ∷ xs) zero e = absurd (omega (arith, e))
drop_whole (x ∷ xs) (suc n) e = drop_whole xs n (omega (arith, e))

pub results_done : (p : Program) (g : Globals) (sizes : List Measure) (decls : List Decl) (n : ℕ) (now all : List (List ℕ)) → n ≡ length decls
    → now ++ all_results p g sizes (drop n decls) ≡ all → now ≡ all
results_done p g sizes decls n now all e whole = sym (append-nil now) ∙ ap (λ l. now ++ all_results p g sizes l) (sym (drop_whole decls n e)) ∙ whole
