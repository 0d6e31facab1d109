-- The roots and the other edges of an item, as code adds them.
use Rattle.std.proofs.Common.{◌≡◌, ℕ, ◌+◌, Bool, ◌||◌, List, [], ◌∷◌, ◌++◌, length, map, sym, ap, ◌∙◌, arith}
use Rattle.lus_syntax.specs.declared.ast.Item.{Item}
use Rattle.op_network.specs.declared.edge.Edge.{Edge}
use Rattle.lus_types.specs.Names.{Name}
use Rattle.lus_types.specs.Programs.{Node, Program}
use Rattle.node_expand.specs.declared.draft.Draft.{Draft}
use Rattle.node_expand.specs.declared.header.Variable.{Variable}
use Rattle.node_expand.specs.declared.here.Here.{Here}
use Rattle.node_expand.specs.declared.right.Right.{Right}
use Rattle.node_expand.specs.Counts.{has_edge, right_of}
use Rattle.node_expand.specs.Drafts.{AddsEdges, edges_here}
use Rattle.node_expand.specs.Fragments.{Callees, Fragment, Places, edge}
use Rattle.node_expand.specs.Instances.{first_name, is_assertion, item_fragment, root_asserts, roots_of}
use Rattle.node_expand.specs.Making.{IsRight}
use Rattle.node_expand.specs.Roots.{first_root, item_roots}
use Rattle.node_expand.specs.Variables.{variable_seen}
use Rattle.node_expand.proofs.RootsMade.{first_seen, roots_seen}
use Rattle.node_expand.proofs.Sizes.{ids_of, ids_of_length, owns_of, owns_of_length}

length_append : {A : Type 0} (xs ys : List A) → length (xs ++ ys) ≡ length xs + length ys
length_append [] ys = omega arith
length_append (x ∷ xs) ys = let h = length_append xs ys in omega (arith, h)

pub edges_added : (p : Program) (node : Node) (c : Callees) (places : Places) (prefix : Name) (asserted : Bool) (k : ℕ) (item : Item) (old new : Draft) (f : Fragment) (right : Right) (roots : List Variable) (root : Name) (marked is_root : Bool) (next : ℕ) (here : Here)
    → next ≡ length old.edges → f ≡ item_fragment p node c places (length old.edges) item → IsRight f right
    → roots ≡ item_roots p node k item → root ≡ prefix ++ first_root roots
    → marked ≡ (asserted || is_assertion item) → is_root ≡ has_edge p node (right_of item)
    → new.edges ≡ old.edges ++ edges_here prefix root marked is_root (map variable_seen roots) right.values right.gates
    → new.asserts ≡ old.asserts ++ map edge (root_asserts next item)
    → here.root ≡ root → here.calls ≡ right.calls
    → AddsEdges p node c places prefix asserted k item old new here
edges_added p node c places prefix asserted k item old new f right roots root marked is_root next here n same r rs named m b edges asserts same_root same_calls =
    let at = length old.edges in
    let frag = item_fragment p node c places at item in
    let roots_are : map variable_seen roots ≡ roots_of p node k item = ap (map variable_seen) rs ∙ roots_seen p node k item in
    let root_is : root ≡ prefix ++ first_name (roots_of p node k item) = named ∙ ap (λ x. prefix ++ x) (first_seen roots ∙ ap first_name roots_are) in
    let values : right.values ≡ frag.values = r.values ∙ ap (λ (g : Fragment). g.values) same in
    let gates : right.gates ≡ frag.own = r.own ∙ ap (λ (g : Fragment). g.own) same in
    let whole : new.edges ≡ old.edges ++ (ids_of p node c places prefix asserted at k item ++ owns_of p node c places prefix asserted at k item) =
    edges ∙ (λ i. old.edges ++ edges_here prefix (root_is i) (m i) (b i) (roots_are i) (values i) (gates i)) in
    let ids = ids_of_length p node c places prefix asserted at k item in
    let owns = owns_of_length p node c places prefix asserted at k item in
    let parts = length_append (ids_of p node c places prefix asserted at k item) (owns_of p node c places prefix asserted at k item) in
    let all : length new.edges ≡ at + length (ids_of p node c places prefix asserted at k item ++ owns_of p node c places prefix asserted at k item) =
    ap (λ (l : List Edge). length l) whole ∙ length_append old.edges (ids_of p node c places prefix asserted at k item ++ owns_of p node c places prefix asserted at k item) in
    record {
      edges = edges ∙ (λ i. old.edges ++ edges_here prefix (sym same_root i) (m i) (b i) (roots_are i) (values i) (gates i));
      asserts = asserts ∙ ap (λ q. old.asserts ++ map edge (root_asserts q item)) n;
      size = omega (arith, all, parts, ids, owns);
      root = same_root ∙ root_is;
      calls = same_calls ∙ r.calls ∙ ap (λ (g : Fragment). g.calls) same;
    }
