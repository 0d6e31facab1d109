-- The edges of items and of instances fit their types; the roots of assertions are truths.
use Rattle.std.proofs.Common.{◌≡◌, inl, inr, ℕ, zero, suc, ◌+◌, Bool, true, false, cond, is_some, ◌||◌, Option, Some, None, List, [], ◌∷◌, ◌++◌, length, map, drop, slice_get, refl, sym, ap, ap₂, ◌∙◌, subst, arith}
use Rattle.std.proofs.lemmas.List.{length-map, map-append}
use Rattle.std.specs.List.{AllByRecursion}
use Rattle.std.specs.Option.{option_map}
use Rattle.lus_syntax.specs.declared.ast.Expr.{Expr}
use Rattle.lus_syntax.specs.declared.ast.Item.{Item}
use Rattle.lus_syntax.specs.declared.ast.Item.TheVariants.{Assert, Equation}
use Rattle.lus_syntax.specs.declared.ast.Spot.{Spot}
use Rattle.op_network.specs.declared.edge.Edge.{Edge}
use Rattle.op_network.specs.declared.form.Unary.TheVariants as one
use Rattle.op_network.specs.declared.value.Ty.{Ty}
use Rattle.op_network.specs.declared.value.Ty.TheVariants as type
use Rattle.op_network.specs.Valid.{unary_type_of}
use Rattle.lus_types.specs.declared.types.Constant.{Constant}
use Rattle.lus_types.specs.Calls.{In, here, there}
use Rattle.lus_types.specs.Facts.{IsTypeOf}
use Rattle.lus_types.specs.Names.{Name, entry_of, left_of, spot_names}
use Rattle.lus_types.specs.Programs.{Node, Program, Variable, names, or_outer, or_truth, type_in, type_of_name, types, variables}
use Rattle.lus_types.specs.ProgramTypes.{AreDistinct, HasTypes, IsTypedItem, NamesHaveTypes, more_names, no_names, typed_assertion, typed_equation, types_arrow, types_binary, types_call, types_if, types_name, types_number, types_pre, types_truth, types_unary}
use Rattle.lus_types.proofs.FineHeaders.{in_cases}
use Rattle.lus_types.proofs.Members.{in_left, in_right}
use Rattle.lus_types.proofs.Trees.{Tree, t_call, t_cond, t_name, t_number, t_one, t_truth, t_two, tree_of}
use Rattle.node_expand.specs.Counts.{has_edge, has_edge_level, id_count, inner_place, item_size, nodes_called, nodes_called_in, right_of}
use Rattle.node_expand.specs.Fragments.{Call, Callees, Fragment, Gate, Places, first_type, fragment, name_fragment, nodes_of, place_level, place_of}
use Rattle.node_expand.specs.Instances.{asserts_over, edges_over, id_edges, instance_asserts, instance_edges, instance_prefix, first_name, is_assertion, item_asserts, item_edges, item_fragment, item_places, items_asserts, items_edges, next_assertion, own_edges, places_from, places_over, results_over, root_asserts, roots_of}
use Rattle.node_expand.specs.Names.{constant_in}
use Rattle.node_expand.specs.Nesting.{IsNested}
use Rattle.node_expand.specs.Network.{callees_within, inputs_of}
use Rattle.node_expand.proofs.Counted.{calls_counted}
use Rattle.node_expand.proofs.Folds.{folded_call, folded_if, folded_name, folded_number, folded_one, folded_truth, folded_two}
use Rattle.node_expand.proofs.FragmentTypes.{fragment_type}
use Rattle.node_expand.proofs.Lists.{all_append, all_in, all_left, all_right}
use Rattle.node_expand.proofs.Places.{Compared, compared, other_name, places_map, same_name}
use Rattle.node_expand.proofs.Sizes.{HasSize, ids_of, ids_of_length, inners_of, item_length, owns_of, owns_of_length, sized_all}
use Rattle.node_expand.proofs.TypedExprs.{ArgsTyped, CallsTyped, Fits, GatesFit, StandAt, expr_typed, gate_types, outputs_of, stand_at, stand_left, stand_right}
use Rattle.node_expand.proofs.ValidFacts.{IsExpandable}
use Rattle.node_expand.proofs.ValidRoots.{Rooted, all_found, root_found, variable_found}
use Rattle.node_expand.proofs.ValidTypes.{types_known}
use Rattle.node_expand.proofs.WellFormed.{IsDefining, defining}

abbrev pub edge_types : List Edge → List Ty
edge_types edges = map (λ (e : Edge). e.ty) edges

-- ---- a variable has its type

abbrev pairs : List Variable → List (Name × Ty)
pairs vs = map (λ (v : Variable). (v.name, v.ty)) vs

meets : (v : Variable) (vs : List Variable) → entry_of (pairs (v ∷ vs)) v.name ≡ Some v.ty
meets v vs = step (compared v.name v.name)
  where
    step : Compared v.name v.name → entry_of (pairs (v ∷ vs)) v.name ≡ Some v.ty
    step (same_name e h) = ap (λ b. cond b (Some v.ty) (entry_of (pairs vs) v.name)) h
    step (other_name f h) = absurd (f refl)

skip : (x : Name) (v : Variable) (vs : List Variable) → (x ≡ v.name → ⊥) → entry_of (pairs (v ∷ vs)) x ≡ entry_of (pairs vs) x
skip x v vs d = step (compared x v.name)
  where
    step : Compared x v.name → entry_of (pairs (v ∷ vs)) x ≡ entry_of (pairs vs) x
    step (same_name e h) = absurd (d e)
    step (other_name f h) = ap (λ b. cond b (Some v.ty) (entry_of (pairs vs) x)) h

name_among : (v : Variable) (vs : List Variable) → In v vs → In v.name (names vs)
name_among v vs here = here
name_among v (u ∷ vs) (there i) = there (name_among v vs i)

type_found : (vs : List Variable) → AreDistinct (names vs) → (v : Variable) → In v vs → entry_of (pairs vs) v.name ≡ Some v.ty
type_found [] d v i = elim i [ ]
type_found (u ∷ vs) d v i = elim (in_cases i) [
  | inl same ↦ subst (λ (w : Variable). entry_of (pairs (u ∷ vs)) w.name ≡ Some w.ty) (sym same) (meets u vs)
  | inr j ↦ skip v.name u vs (λ e. d.0 (subst (λ y. In y (names vs)) e (name_among v vs j))) ∙ type_found vs d.1 v j
]

each_type : (f : Name → Option Ty) (vs : List Variable) → ((v : Variable) → In v vs → f v.name ≡ Some v.ty)
    → map f (names vs) ≡ map Some (types vs)
each_type f [] h = refl
each_type f (v ∷ vs) h = ap₂ (λ a l. a ∷ l) (h v here) (each_type f vs (λ u i. h u (there i)))

module _ (program : Program) (node : Node) (distinct : AreDistinct (names (variables node))) where
  typed_name : (v : Variable) → In v (variables node) → type_of_name program node v.name ≡ Some v.ty
  typed_name v i = ap (λ o. or_outer o (program.constant v.name)) (type_found (variables node) distinct v i)

  inputs_typed : map (type_of_name program node) (names node.inputs) ≡ map Some (types node.inputs)
  inputs_typed = each_type (type_of_name program node) node.inputs (λ v i. typed_name v (in_left node.inputs (node.outputs ++ node.locals) v i))

  outputs_typed : map (type_of_name program node) (names node.outputs) ≡ map Some (types node.outputs)
  outputs_typed = each_type (type_of_name program node) node.outputs (λ v i. typed_name v (in_right node.inputs _ v (in_left node.outputs node.locals v i)))

-- ---- an expression with an edge for itself: that edge has its type

module _ (program : Program) (node : Node) (callees : Callees) (table : Places) where
  abbrev Headed : Fragment → Type 0
  Headed m = (rest : List Ty) × (gate_types m.own ≡ m.ty ∷ rest)

  name_headed : (c : Option Constant) (ty : Ty) (place at : ℕ) → is_some c ≡ true → Headed (name_fragment c ty place at)
  name_headed (Some c) ty place at h = ([], refl)
  name_headed None ty place at h = absurd (cc h)

  tree_headed : {e : Expr} → Tree e → has_edge program node e ≡ true → (at inner : ℕ)
      → Headed (fragment program node callees table e at inner)
  tree_headed {e} (t_name x k) h at inner = subst Headed (sym (ap (λ m. m at inner) (folded_name (place_level program node callees table) e x k))) (name_headed (constant_in program node x) _ (place_of table x) at (sym (folded_name (has_edge_level program node) e x k) ∙ h))
  tree_headed {e} (t_number n k) h at inner = subst Headed (sym (ap (λ m. m at inner) (folded_number (place_level program node callees table) e n k))) (_, refl)
  tree_headed {e} (t_truth b k) h at inner = subst Headed (sym (ap (λ m. m at inner) (folded_truth (place_level program node callees table) e b k))) (_, refl)
  tree_headed {e} (t_one o a k p) h at inner = subst Headed (sym (ap (λ m. m at inner) (folded_one (place_level program node callees table) e a o k))) (_, refl)
  tree_headed {e} (t_two o a b k p q) h at inner = subst Headed (sym (ap (λ m. m at inner) (folded_two (place_level program node callees table) e a b o k))) (_, refl)
  tree_headed {e} (t_cond a b c k p q r) h at inner = subst Headed (sym (ap (λ m. m at inner) (folded_if (place_level program node callees table) e a b c k))) (_, refl)
  tree_headed {e} (t_call g args k ps) h at inner = let f : false ≡ true = sym (folded_call (has_edge_level program node) e g args k)
      ∙ h in absurd (cc f)

  pub single_type : {e : Expr} {ts : List Ty} → HasTypes (type_of_name program node) program.node e ts
      → has_edge program node e ≡ true → ts ≡ first_type ts ∷ []
  single_type (types_name x t k is) h = refl
  single_type (types_number n k) h = refl
  single_type (types_truth b k) h = refl
  single_type (types_unary op o a k is gives p) h = refl
  single_type (types_pre a k p) h = refl
  single_type (types_binary op o a b k is gives p q) h = refl
  single_type (types_arrow a b k gives p q) h = refl
  single_type (types_if a b c k gives p q r) h = refl
  single_type {e} (types_call g args callee k found ps) h = let f : false ≡ true = sym (folded_call (has_edge_level program node) e g args k)
      ∙ h in absurd (cc f)

  pub own_headed : (e : Expr) (ts : List Ty) → HasTypes (type_of_name program node) program.node e ts
      → has_edge program node e ≡ true → (at inner : ℕ)
      → (rest : List Ty) × (gate_types (fragment program node callees table e at inner).own ≡ first_type ts ∷ rest)
  own_headed e ts p h at inner =
      let headed = tree_headed (tree_of e) h at inner in
      (headed.0, headed.1 ∙ ap (λ t. t ∷ headed.0) (fragment_type program node callees table p at inner))

-- ---- edges and their types

owns_types : (x : Name) (marked : Bool) (k : ℕ) (gates : List Gate) → edge_types (own_edges x marked k gates) ≡ gate_types gates
owns_types x marked k [] = refl
owns_types x marked k (g ∷ gates) = ap (λ l. g.ty ∷ l) (owns_types x marked (suc k) gates)

-- what the edges of a list have, at their places
pub parts_at : {A : Type 0} (f : Edge → A) (all edges : List Edge) (k : ℕ)
    → ((i : ℕ) → option_map f (slice_get edges i) ≡ option_map f (slice_get all (k + i)))
    → StandAt (λ p. option_map f (slice_get all p)) k (map f edges)
parts_at f all [] k h = tt
parts_at f all (e ∷ edges) k h = (
  ap (λ p. option_map f (slice_get all p)) (plus_none k) ∙ sym (h 0),
  parts_at f all edges (suc k) (λ i. h (suc i) ∙ ap (λ p. option_map f (slice_get all p)) (omega arith)),
)
  where
    plus_none : (n : ℕ) → n ≡ n + 0
    plus_none n = omega arith

-- what stands for the parts of a list of edges
pub parts_left : {A : Type 0} (f : Edge → A) (at : ℕ → Option A) (k : ℕ) (xs ys : List Edge)
    → StandAt at k (map f (xs ++ ys)) → StandAt at k (map f xs)
parts_left f at k xs ys h = stand_left at k (map f xs) (map f ys) (subst (StandAt at k) (map-append f xs ys) h)

pub parts_right : {A : Type 0} (f : Edge → A) (at : ℕ → Option A) (k : ℕ) (xs ys : List Edge) → StandAt at k (map f (xs ++ ys))
    → StandAt at (k + length xs) (map f ys)
parts_right f at k xs ys h =
    stand_at at (map f ys) (ap (λ c. k + c) (length-map xs f))
    (stand_right at k (map f xs) (map f ys) (subst (StandAt at k) (map-append f xs ys) h))

pub edges_left : (at : ℕ → Option Ty) (k : ℕ) (xs ys : List Edge) → StandAt at k (edge_types (xs ++ ys)) → StandAt at k (edge_types xs)
edges_left at k xs ys h = parts_left (λ (e : Edge). e.ty) at k xs ys h

pub edges_right : (at : ℕ → Option Ty) (k : ℕ) (xs ys : List Edge) → StandAt at k (edge_types (xs ++ ys))
    → StandAt at (k + length xs) (edge_types ys)
edges_right at k xs ys h = parts_right (λ (e : Edge). e.ty) at k xs ys h

ids_types : (at : ℕ → Option Ty) (prefix : Name) (marked : Bool) (k : ℕ) (roots : List Variable) (values : List ℕ)
    → StandAt at k (edge_types (id_edges prefix marked roots values))
    → map at (places_from k roots) ≡ map Some (types roots)
ids_types at prefix marked k [] values h = refl
ids_types at prefix marked k (r ∷ roots) values h = ap₂ (λ a l. a ∷ l) h.0 (ids_types at prefix marked (suc k) roots (drop 1 values) h.1)

-- the roots of an equation have the types of its right side
pub roots_typed : (f : Name → Option Ty) (left : List Spot) (ts : List Ty) → NamesHaveTypes f left ts
    → types (map (λ (s : Spot). record { name = s.text; ty = or_truth (f s.text) }) left) ≡ ts
roots_typed f left ts no_names = refl
roots_typed f left ts (more_names {left = spots} {ts = us} h more) = ap₂ (λ t l. t ∷ l) (ap or_truth h) (roots_typed f spots us more)

left_typed : (f : Name → Option Ty) (left : List Spot) (ts : List Ty) → NamesHaveTypes f left ts → map f (spot_names left) ≡ map Some ts
left_typed f left ts no_names = refl
left_typed f left ts (more_names {left = spots} {ts = us} h more) = ap₂ (λ t l. t ∷ l) h (left_typed f spots us more)

module _ (program : Program) (node : Node) where
  -- the right side of an item has the types of its roots
  pub right_typed : (k : ℕ) (item : Item) → IsTypedItem (type_of_name program node) program.node item
      → HasTypes (type_of_name program node) program.node (right_of item) (types (roots_of program node k item))
  right_typed k _ (typed_equation {left = left} {e = e} ts ns p) = subst (HasTypes (type_of_name program node) program.node e) (sym (roots_typed (type_of_name program node) left ts ns)) p
  right_typed k _ (typed_assertion p) = p

  pub ids_of_roots : (k : ℕ) (item : Item)
      → id_count program node item ≡ cond (has_edge program node (right_of item)) 0 (length (roots_of program node k item))
  ids_of_roots k (Assert place e) = refl
  ids_of_roots k (Equation place left e) = ap (λ m. cond (has_edge program node e) 0 m) (sym (length-map left _))

module _ (program : Program) (whole : IsExpandable program) (at : ℕ → Option Ty) where
  abbrev pub EdgesFit : List Edge → Type 0
  EdgesFit edges = AllByRecursion (λ (e : Edge). Fits program at e.op e.ty) edges

  abbrev pub AreTruths : List ℕ → Type 0
  AreTruths places = AllByRecursion (λ p. at p ≡ Some type.Truth) places

  -- the instances of the node fit
  pub record TypedInstance (callees : Callees) (g : Name) : Type 0 where
    pub results : (args : List ℕ) (prefix : Name) (marked : Bool) (start : ℕ)
        → StandAt at start (edge_types (callees.edges g args prefix marked start))
        → map at (callees.results g start) ≡ map Some (types (outputs_of (program.node g)))
    pub asserts : (args : List ℕ) (prefix : Name) (marked : Bool) (start : ℕ)
        → StandAt at start (edge_types (callees.edges g args prefix marked start)) → AreTruths (callees.asserts g start)
    pub fits : (args : List ℕ) (prefix : Name) (marked : Bool) (start : ℕ)
        → StandAt at start (edge_types (callees.edges g args prefix marked start))
        → map at args ≡ map Some (types (inputs_of (program.node g)))
        → EdgesFit (callees.edges g args prefix marked start)

  module _ (callees : Callees) (x : Name) (marked : Bool) where
    next_types : (j start : ℕ) (c : Call) (calls : List Call) → HasSize callees c.node
        → StandAt at start (edge_types (instance_edges callees x marked j start (c ∷ calls)))
        → StandAt at (start + callees.size c.node) (edge_types (instance_edges callees x marked (suc j) (start + callees.size c.node) calls))
    next_types j start c calls size h = stand_at at _ (ap (λ k. start + k) (size.each c.args (instance_prefix x c.node j) marked start)) (edges_right at start (callees.edges c.node c.args (instance_prefix x c.node j) marked start) _ h)

    calls_typed : (j start : ℕ) (calls : List Call) → AllByRecursion (TypedInstance callees) (nodes_of calls)
        → AllByRecursion (HasSize callees) (nodes_of calls)
        → StandAt at start (edge_types (instance_edges callees x marked j start calls))
        → CallsTyped program whole at callees start calls
    calls_typed j start [] all size h = tt
    calls_typed j start (c ∷ calls) all size h = (
      all.0.results c.args (instance_prefix x c.node j) marked start (edges_left at start (callees.edges c.node c.args (instance_prefix x c.node j) marked start) _ h),
      calls_typed (suc j) (start + callees.size c.node) calls all.1 size.1 (next_types j start c calls size.0 h),
    )

    calls_truths : (j start : ℕ) (calls : List Call) → AllByRecursion (TypedInstance callees) (nodes_of calls)
        → AllByRecursion (HasSize callees) (nodes_of calls)
        → StandAt at start (edge_types (instance_edges callees x marked j start calls))
        → AreTruths (instance_asserts callees start (nodes_of calls))
    calls_truths j start [] all size h = tt
    calls_truths j start (c ∷ calls) all size h = all_append (λ p. at p ≡ Some type.Truth) (callees.asserts c.node start) _
        (all.0.asserts c.args (instance_prefix x c.node j) marked start (edges_left at start (callees.edges c.node c.args (instance_prefix x c.node j) marked start) _ h))
        (calls_truths (suc j) (start + callees.size c.node) calls all.1 size.1 (next_types j start c calls size.0 h))

    calls_fit : (j start : ℕ) (calls : List Call) → AllByRecursion (TypedInstance callees) (nodes_of calls)
        → AllByRecursion (HasSize callees) (nodes_of calls)
        → StandAt at start (edge_types (instance_edges callees x marked j start calls))
        → ArgsTyped program whole at calls → EdgesFit (instance_edges callees x marked j start calls)
    calls_fit j start [] all size h args = tt
    calls_fit j start (c ∷ calls) all size h args = all_append _ (callees.edges c.node c.args (instance_prefix x c.node j) marked start) _
        (all.0.fits c.args (instance_prefix x c.node j) marked start (edges_left at start (callees.edges c.node c.args (instance_prefix x c.node j) marked start) _ h) args.0)
        (calls_fit (suc j) (start + callees.size c.node) calls all.1 size.1 (next_types j start c calls size.0 h) args.1)

  ids_fit : (prefix : Name) (marked : Bool) (roots : List Variable) (values : List ℕ)
      → AllByRecursion (IsTypeOf program) (types roots) → map at values ≡ map Some (types roots)
      → EdgesFit (id_edges prefix marked roots values)
  ids_fit prefix marked [] values known e = tt
  ids_fit prefix marked (r ∷ roots) [] known e = absurd (cc e)
  ids_fit prefix marked (r ∷ roots) (v ∷ values) known e =
      let typed : at v ≡ Some r.ty = cc e in
      (record { gives = ap (λ o. unary_type_of one.Id o) typed; exists = known.0 }, ids_fit prefix marked roots values known.1 (cc e))

  owns_fit : (x : Name) (marked : Bool) (k : ℕ) (gates : List Gate) → GatesFit program whole at gates
      → EdgesFit (own_edges x marked k gates)
  owns_fit x marked k [] h = tt
  owns_fit x marked k (g ∷ gates) h = (h.0, owns_fit x marked (suc k) gates h.1)

  -- ---- the items of a node

  module _ (g : Name) (node : Node) (known : program.node g ≡ Some node) (callees : Callees) (table : Places) where
    module _ (prefix : Name) (asserted : Bool) (next k : ℕ) (item : Item) (h : StandAt at next (edge_types (item_edges program node callees table prefix asserted next k item))) where
      abbrev m : Fragment
      m = item_fragment program node callees table next item

      abbrev roots : List Variable
      roots = roots_of program node k item

      abbrev marked : Bool
      marked = asserted || is_assertion item

      own_types : StandAt at (next + id_count program node item) (gate_types m.own)
      own_types =
          stand_at at _ (ap (λ c. next + c) (ids_of_length program node callees table prefix asserted next k item))
          (subst (StandAt at _) (owns_types _ _ _ m.own)
          (edges_left at _ (owns_of program node callees table prefix asserted next k item) _ (edges_right at next (ids_of program node callees table prefix asserted next k item) _ h)))

      inner_types : StandAt at (inner_place program node next item) (edge_types (inners_of program node callees table prefix asserted next k item))
      inner_types =
          stand_at at _ (ap₂ (λ c d. next + c + d) (ids_of_length program node callees table prefix asserted next k item) (owns_of_length program node callees table prefix asserted next k item))
          (edges_right at _ (owns_of program node callees table prefix asserted next k item) _ (edges_right at next (ids_of program node callees table prefix asserted next k item) _ h))

      one_root : (rs : List Variable) → types rs ≡ first_type (types rs) ∷ [] → at next ≡ Some (first_type (types rs))
          → map at (places_from next rs) ≡ map Some (types rs)
      one_root [] e f = refl
      one_root (r ∷ []) e f = ap (λ a. a ∷ []) f
      one_root (r ∷ q ∷ rs) e f = absurd (cc e)

      -- the roots have their types
      roots_at : (p : HasTypes (type_of_name program node) program.node (right_of item) (types roots)) (b : Bool)
          → has_edge program node (right_of item) ≡ b
          → StandAt at next (edge_types (cond b [] (id_edges prefix marked roots m.values)))
          → map at (places_from next roots) ≡ map Some (types roots)
      roots_at p true own ids =
          let headed = own_headed program node callees table (right_of item) (types roots) p own (next + id_count program node item) (inner_place program node next item) in
          let none : id_count program node item ≡ 0 = ids_of_roots program node k item ∙ ap (λ b. cond b 0 (length roots)) own in
          let typed : at (next + id_count program node item) ≡ Some (first_type (types roots)) = (subst (StandAt at (next + id_count program node item)) headed.1 own_types).0 in
          one_root roots (single_type program node callees table p own) (ap at (omega (arith, none)) ∙ typed)
      roots_at p false own ids = ids_types at prefix marked next roots m.values ids

      item_roots : IsTypedItem (type_of_name program node) program.node item → map at (places_from next roots) ≡ map Some (types roots)
      item_roots is = roots_at (right_typed program node k item is) (has_edge program node (right_of item)) refl (edges_left at next (ids_of program node callees table prefix asserted next k item) _ h)

      -- the edges of an item fit where its variables and its instances do
      module _ (bound : (x : Name) (ty : Ty) → type_in node x ≡ Some ty → at (place_of table x) ≡ Some ty) (is : IsTypedItem (type_of_name program node) program.node item)
          (all : AllByRecursion (TypedInstance callees) (nodes_called (right_of item))) (size : AllByRecursion (HasSize callees) (nodes_called (right_of item))) where
        counted : nodes_of m.calls ≡ nodes_called (right_of item)
        counted = calls_counted program node callees table (right_of item) (next + id_count program node item) (inner_place program node next item)

        its_calls : CallsTyped program whole at callees (inner_place program node next item) m.calls
        its_calls = calls_typed callees (prefix ++ first_name roots) marked 1 (inner_place program node next item) m.calls (subst (AllByRecursion (TypedInstance callees)) (sym counted) all) (subst (AllByRecursion (HasSize callees)) (sym counted) size) inner_types

        item_fits : EdgesFit (item_edges program node callees table prefix asserted next k item)
        item_fits =
            let p = right_typed program node k item is in
            let f = expr_typed program whole at g node known callees table bound p (next + id_count program node item) (inner_place program node next item) own_types its_calls in
            all_append _ (ids_of program node callees table prefix asserted next k item) _ (ids_part (has_edge program node (right_of item)) (types_known program whole g node known p) f.1)
            (all_append _ (owns_of program node callees table prefix asserted next k item) _ (owns_fit _ _ _ m.own f.0)
            (calls_fit callees (prefix ++ first_name roots) marked 1 (inner_place program node next item) m.calls (subst (AllByRecursion (TypedInstance callees)) (sym counted) all) (subst (AllByRecursion (HasSize callees)) (sym counted) size) inner_types f.2))
          where
            ids_part : (b : Bool) → AllByRecursion (IsTypeOf program) (types roots)
                → map at m.values ≡ map Some (types roots)
                → EdgesFit (cond b [] (id_edges prefix marked roots m.values))
            ids_part true exist e = tt
            ids_part false exist e = ids_fit prefix marked roots m.values exist e

      -- the roots of its assertions are truths
      root_truths : IsTypedItem (type_of_name program node) program.node item → AreTruths (root_asserts next item)
      root_truths is = step item is (item_roots is)
        where
          step : (i : Item) → IsTypedItem (type_of_name program node) program.node i
              → map at (places_from next (roots_of program node k i)) ≡ map Some (types (roots_of program node k i))
              → AreTruths (root_asserts next i)
          step (Assert place e) typed e' = (cc e', tt)
          step (Equation place left e) typed e' = tt

      item_truths : IsTypedItem (type_of_name program node) program.node item
          → AllByRecursion (TypedInstance callees) (nodes_called (right_of item))
          → AllByRecursion (HasSize callees) (nodes_called (right_of item))
          → AreTruths (item_asserts program node callees next item)
      item_truths is all size =
          let counted : nodes_of m.calls ≡ nodes_called (right_of item) = calls_counted program node callees table (right_of item) (next + id_count program node item) (inner_place program node next item) in
          all_append (λ p. at p ≡ Some type.Truth) (root_asserts next item) _ (root_truths is)
          (subst (λ gs. AreTruths (instance_asserts callees (inner_place program node next item) gs)) counted
          (calls_truths callees (prefix ++ first_name roots) marked 1 (inner_place program node next item) m.calls (subst (AllByRecursion (TypedInstance callees)) (sym counted) all) (subst (AllByRecursion (HasSize callees)) (sym counted) size) inner_types))

    -- the variables that an item defines have their types
    left_at : (prefix : Name) (asserted : Bool) (next k : ℕ) (item : Item)
        → IsTypedItem (type_of_name program node) program.node item
        → StandAt at next (edge_types (item_edges program node callees table prefix asserted next k item))
        → map at (places_from next (left_of item)) ≡ map (type_of_name program node) (left_of item)
    left_at prefix asserted next k (Assert place e) is h = refl
    left_at prefix asserted next k (Equation place left e) (typed_equation ts ns p) h =
        ap (map at) (places_map _ next left ∙ sym (places_map _ next left))
        ∙ item_roots prefix asserted next k (Equation place left e) h (typed_equation ts ns p)
        ∙ ap (map Some) (roots_typed (type_of_name program node) left ts ns) ∙ sym (left_typed (type_of_name program node) left ts ns)

    rest_types : (prefix : Name) (asserted : Bool) (next k : ℕ) (item : Item) (items : List Item)
        → AllByRecursion (HasSize callees) (nodes_called (right_of item))
        → StandAt at next (edge_types (items_edges program node callees table prefix asserted next k (item ∷ items)))
        → StandAt at (next + item_size program node callees item) (edge_types (items_edges program node callees table prefix asserted (next + item_size program node callees item) (next_assertion k item) items))
    rest_types prefix asserted next k item items size h = stand_at at _ (ap (λ c. next + c) (item_length program node callees table prefix asserted next k item size)) (edges_right at next (item_edges program node callees table prefix asserted next k item) _ h)

    items_rooted : (prefix : Name) (asserted : Bool) (next k : ℕ) (items : List Item)
        → AllByRecursion (IsTypedItem (type_of_name program node) program.node) items
        → AllByRecursion (HasSize callees) (nodes_called_in items)
        → StandAt at next (edge_types (items_edges program node callees table prefix asserted next k items))
        → Rooted program node callees at (type_of_name program node) next items
    items_rooted prefix asserted next k [] is size h = tt
    items_rooted prefix asserted next k (item ∷ items) is size h = (
      left_at prefix asserted next k item is.0 (edges_left at next (item_edges program node callees table prefix asserted next k item) _ h),
      items_rooted prefix asserted (next + item_size program node callees item) (next_assertion k item) items is.1 (all_right (HasSize callees) (nodes_called (right_of item)) _ size) (rest_types prefix asserted next k item items (all_left (HasSize callees) (nodes_called (right_of item)) _ size) h),
    )

    items_fit : ((x : Name) (ty : Ty) → type_in node x ≡ Some ty → at (place_of table x) ≡ Some ty)
        → (prefix : Name) (asserted : Bool) (next k : ℕ) (items : List Item)
        → AllByRecursion (IsTypedItem (type_of_name program node) program.node) items
        → AllByRecursion (TypedInstance callees) (nodes_called_in items)
        → AllByRecursion (HasSize callees) (nodes_called_in items)
        → StandAt at next (edge_types (items_edges program node callees table prefix asserted next k items))
        → EdgesFit (items_edges program node callees table prefix asserted next k items)
    items_fit bound prefix asserted next k [] is all size h = tt
    items_fit bound prefix asserted next k (item ∷ items) is all size h =
        let one_size = all_left (HasSize callees) (nodes_called (right_of item)) _ size in
        all_append _ (item_edges program node callees table prefix asserted next k item) _
        (item_fits prefix asserted next k item (edges_left at next (item_edges program node callees table prefix asserted next k item) _ h) bound is.0 (all_left (TypedInstance callees) (nodes_called (right_of item)) _ all) one_size)
        (items_fit bound prefix asserted (next + item_size program node callees item) (next_assertion k item) items is.1 (all_right (TypedInstance callees) (nodes_called (right_of item)) _ all) (all_right (HasSize callees) (nodes_called (right_of item)) _ size) (rest_types prefix asserted next k item items one_size h))

    items_truths : (prefix : Name) (asserted : Bool) (next k : ℕ) (items : List Item)
        → AllByRecursion (IsTypedItem (type_of_name program node) program.node) items
        → AllByRecursion (TypedInstance callees) (nodes_called_in items)
        → AllByRecursion (HasSize callees) (nodes_called_in items)
        → StandAt at next (edge_types (items_edges program node callees table prefix asserted next k items))
        → AreTruths (items_asserts program node callees next items)
    items_truths prefix asserted next k [] is all size h = tt
    items_truths prefix asserted next k (item ∷ items) is all size h =
        let one_size = all_left (HasSize callees) (nodes_called (right_of item)) _ size in
        all_append _ (item_asserts program node callees next item) _
        (item_truths prefix asserted next k item (edges_left at next (item_edges program node callees table prefix asserted next k item) _ h) is.0 (all_left (TypedInstance callees) (nodes_called (right_of item)) _ all) one_size)
        (items_truths prefix asserted (next + item_size program node callees item) (next_assertion k item) items is.1 (all_right (TypedInstance callees) (nodes_called (right_of item)) _ all) (all_right (HasSize callees) (nodes_called (right_of item)) _ size) (rest_types prefix asserted next k item items one_size h))

  -- ---- a node over nodes whose instances fit

  module _ (callees : Callees) (g : Name) (node : Node) (known : program.node g ≡ Some node) (size : AllByRecursion (HasSize callees) (nodes_called_in node.items)) (args : List ℕ) (prefix : Name) (marked : Bool) (start : ℕ)
      (h : StandAt at start (edge_types (edges_over program callees (Some node) args prefix marked start))) where
    abbrev table : Places
    table = places_over program node callees args start

    is : IsDefining program node
    is = defining program node (whole.typed.nodes g node known)

    rooted : Rooted program node callees at (type_of_name program node) start node.items
    rooted = items_rooted g node known callees table prefix marked start 1 node.items is.items size h

    node_results : map at (results_over program callees (Some node) start) ≡ map Some (types node.outputs)
    node_results =
        all_found program node callees at (type_of_name program node) (place_of (item_places program node callees start node.items)) (names node.outputs)
        (λ x i. root_found program node callees at (type_of_name program node) start node.items rooted x (all_in _ (names node.outputs) x is.outputs i))
        ∙ outputs_typed program node (whole.typed.nodes g node known).distinct

    node_truths : AllByRecursion (TypedInstance callees) (nodes_called_in node.items)
        → AreTruths (asserts_over program callees (Some node) start)
    node_truths all = items_truths g node known callees table prefix marked start 1 node.items is.items all size h

    node_fits : AllByRecursion (TypedInstance callees) (nodes_called_in node.items)
        → map at args ≡ map Some (types node.inputs)
        → EdgesFit (edges_over program callees (Some node) args prefix marked start)
    node_fits all ins =
        let same_ins : map at args ≡ map (type_of_name program node) (names node.inputs) = ins ∙ sym (inputs_typed program node (whole.typed.nodes g node known).distinct) in
        items_fit g node known callees table
        (λ x t e. variable_found program node callees at (type_of_name program node) args start same_ins rooted x (is.defined x t e) ∙ ap (λ o. or_outer o (program.constant x)) e)
        prefix marked start 1 node.items is.items all size h

  typed_each : (depth : ℕ) (gs : List Name)
      → ((g : Name) → IsNested program depth g → TypedInstance (callees_within program depth) g)
      → AllByRecursion (IsNested program depth) gs → AllByRecursion (TypedInstance (callees_within program depth)) gs
  typed_each depth [] f all = tt
  typed_each depth (g ∷ gs) f all = (f g all.0, typed_each depth gs f all.1)

  pub instance_typed : (depth : ℕ) (g : Name) → IsNested program depth g → TypedInstance (callees_within program depth) g
  instance_typed zero g nested = absurd nested
  instance_typed (suc depth) g nested =
      let node = nested.0 in
      let callees = callees_within program depth in
      let size = sized_all program depth (nodes_called_in node.items) nested.2 in
      let all = typed_each depth (nodes_called_in node.items) (instance_typed depth) nested.2 in
      record {
        results = λ args prefix marked start. subst (λ (o : Option Node). StandAt at start (edge_types (edges_over program callees o args prefix marked start)) → map at (results_over program callees o start) ≡ map Some (types (outputs_of o))) (sym nested.1)
            (λ h. node_results callees g node nested.1 size args prefix marked start h);
        asserts = λ args prefix marked start. subst (λ (o : Option Node). StandAt at start (edge_types (edges_over program callees o args prefix marked start)) → AreTruths (asserts_over program callees o start)) (sym nested.1)
            (λ h. node_truths callees g node nested.1 size args prefix marked start h all);
        fits = λ args prefix marked start. subst (λ (o : Option Node). StandAt at start (edge_types (edges_over program callees o args prefix marked start)) → map at args ≡ map Some (types (inputs_of o)) → EdgesFit (edges_over program callees o args prefix marked start)) (sym nested.1)
            (λ h ins. node_fits callees g node nested.1 size args prefix marked start h all ins);
      }
