-- Measures are the sizes of instances, or tell that calls are nested too deep.
use Rattle.std.proofs.Common.{◌≡◌, ℕ, zero, suc, ◌+◌, min, List, [], ◌∷◌, ◌++◌, length, map, replicate, refl, sym, ap, ◌∙◌, subst, arith, append_assoc, append-nil}
use Rattle.std.specs.Prelude.{Option, Some, None, slice_get, option_map}
use Rattle.std.specs.List.{AllByRecursion, flat_map}
use Rattle.std.proofs.lemmas.Option.{slice_get-map}
use Rattle.lus_syntax.specs.declared.ast.Decl.{Decl}
use Rattle.lus_syntax.specs.declared.ast.Decl.TheVariants.{TypeDecl, ConstDecl, NodeDecl}
use Rattle.lus_syntax.specs.declared.ast.Expr.{Expr}
use Rattle.lus_syntax.specs.declared.ast.Item.{Item}
use Rattle.lus_syntax.specs.declared.ast.Item.TheVariants.{Assert, Equation}
use Rattle.op_network.specs.declared.value.Ty.{Ty}
use Rattle.lus_types.specs.Names.{Name, Globals}
use Rattle.lus_types.specs.Occurrences.{flat}
use Rattle.lus_types.specs.Programs.{Node, Program, node_at_place, node_declared, type_of_name, variables_of}
use Rattle.lus_types.specs.ProgramTypes.{HasTypes, HaveTypes, IsTypedItem, IsTypedProgram, more_types, no_types, typed_assertion, typed_equation, types_arrow, types_binary, types_call, types_if, types_name, types_number, types_pre, types_truth, types_unary}
use Rattle.node_expand.specs.declared.limits.TheConstants.{MANY}
use Rattle.node_expand.specs.declared.outlines.Outline.{Outline}
use Rattle.node_expand.specs.Counts.{id_count, item_size, items_size, nodes_called, nodes_called_in, nodes_called_level, own_count, right_of}
use Rattle.node_expand.specs.Fragments.{Callees, size_of_all}
use Rattle.node_expand.specs.Headers.{head_of}
use Rattle.node_expand.specs.Instances.{size_over}
use Rattle.node_expand.specs.Nesting.{IsNested}
use Rattle.node_expand.specs.Network.{callees_within}
use Rattle.node_expand.specs.Outlines.{Measure, added, all_added, all_outlines, callee, item_measure, measure_at, measures, node_measure, outline, outlines_of}
use Rattle.node_expand.proofs.Folds.{folded_call, folded_if, folded_name, folded_number, folded_one, folded_truth, folded_two}
use Rattle.node_expand.proofs.Lists.{all_append, all_left, all_right}
use Rattle.node_expand.proofs.PlacesKnown.{callees_are}
use Rattle.node_expand.proofs.WellFormed.{defining}

-- ---- a typed program calls nodes alone

abbrev pub IsNodeName : Program → Name → Type 0
IsNodeName p f = (node : Node) × (p.node f ≡ Some node)

module _ (p : Program) (name_type : Name → Option Ty) where
  abbrev AllNodes : List Name → Type 0
  AllNodes gs = AllByRecursion (IsNodeName p) gs

  at_folded : (e : Expr) (gs : List Name) → nodes_called e ≡ gs → AllNodes gs → AllNodes (nodes_called e)
  at_folded e gs is all = subst AllNodes (sym is) all

  mutual
    calls_nodes : {e : Expr} {ts : List Ty} → HasTypes name_type p.node e ts → AllNodes (nodes_called e)
    calls_nodes {e} (types_name x t k h) = at_folded e [] (folded_name nodes_called_level e x k) tt
    calls_nodes {e} (types_number n k) = at_folded e [] (folded_number nodes_called_level e n k) tt
    calls_nodes {e} (types_truth b k) = at_folded e [] (folded_truth nodes_called_level e b k) tt
    calls_nodes {e} (types_unary op o a k h h' t) = at_folded e (nodes_called a) (folded_one nodes_called_level e a op k) (calls_nodes t)
    calls_nodes {e} (types_pre a k t) = at_folded e (nodes_called a) (folded_one nodes_called_level e a _ k) (calls_nodes t)
    calls_nodes {e} (types_binary op o a b k h h' t u) =
        at_folded e (nodes_called a ++ nodes_called b) (folded_two nodes_called_level e a b op k) (all_append (IsNodeName p) (nodes_called a) (nodes_called b) (calls_nodes t) (calls_nodes u))
    calls_nodes {e} (types_arrow a b k h t u) =
        at_folded e (nodes_called a ++ nodes_called b) (folded_two nodes_called_level e a b _ k) (all_append (IsNodeName p) (nodes_called a) (nodes_called b) (calls_nodes t) (calls_nodes u))
    calls_nodes {e} (types_if a b c k h t u v) =
        at_folded e (nodes_called a ++ (nodes_called b ++ nodes_called c)) (folded_if nodes_called_level e a b c k)
        (all_append (IsNodeName p) (nodes_called a) (nodes_called b ++ nodes_called c) (calls_nodes t) (all_append (IsNodeName p) (nodes_called b) (nodes_called c) (calls_nodes u) (calls_nodes v)))
    calls_nodes {e} (types_call f args callee k h ts) =
        at_folded e (f ∷ flat_map (λ names. names) (map nodes_called args)) (folded_call nodes_called_level e f args k) ((callee, h), args_call_nodes ts)

    args_call_nodes : {es : List Expr} {ts : List Ty} → HaveTypes name_type p.node es ts → AllNodes (flat_map (λ names. names) (map nodes_called es))
    args_call_nodes no_types = tt
    args_call_nodes (more_types {e = e} {es = es} t ts) = all_append (IsNodeName p) (nodes_called e) (flat_map (λ names. names) (map nodes_called es)) (calls_nodes t) (args_call_nodes ts)

  item_calls_nodes : (item : Item) → IsTypedItem name_type p.node item → AllNodes (nodes_called (right_of item))
  item_calls_nodes (Assert at e) (typed_assertion t) = calls_nodes t
  item_calls_nodes (Equation at left e) (typed_equation ts h t) = calls_nodes t

  pub items_call_nodes : (items : List Item) → AllByRecursion (IsTypedItem name_type p.node) items → AllNodes (nodes_called_in items)
  items_call_nodes [] typed = tt
  items_call_nodes (item ∷ items) typed = all_append (IsNodeName p) (nodes_called (right_of item)) (nodes_called_in items) (item_calls_nodes item typed.0) (items_call_nodes items typed.1)

-- ---- sums of measures

-- the measure is of these calls, all of which have P, and of so many edges
abbrev IsSum : (Name → Type 0) → List Name → ℕ → Measure → Type 0
IsSum P gs n None = AllByRecursion P gs → ⊥
IsSum P gs n (Some m) = AllByRecursion P gs × (m ≡ min n MANY)

sum_added : (P : Name → Type 0) (gs hs : List Name) (m n : ℕ) (a b : Measure) → IsSum P gs m a → IsSum P hs n b → IsSum P (gs ++ hs) (m + n) (added a b)
sum_added P gs hs m n None b h k = λ all. h (all_left P gs hs all)
sum_added P gs hs m n (Some i) None h k = λ all. k (all_right P gs hs all)
sum_added P gs hs m n (Some i) (Some j) h k = (all_append P gs hs h.0 k.0, (let a = h.1 in let b = k.1 in omega (arith, a, b)))

sum_same : (P : Name → Type 0) (gs hs : List Name) (m n : ℕ) (a : Measure) → gs ≡ hs → m ≡ n → IsSum P gs m a → IsSum P hs n a
sum_same P gs hs m n a e f h = subst (λ i. IsSum P hs i a) f (subst (λ l. IsSum P l m a) e h)

module _ (P : Name → Type 0) (known : Name → Type 0) (g : Globals) (table : List Measure) (c : Callees) (each : (f : Name) → known f → IsSum P (f ∷ []) (c.size f) (measure_at table (callee g f))) where
  calls_sum : (gs hs : List Name) (n : ℕ) (m : Measure) → AllByRecursion known gs → IsSum P hs n m
      → IsSum P (hs ++ gs) (n + size_of_all c gs) (all_added m (map (measure_at table) (map (callee g) gs)))
  calls_sum [] hs n m all h = sum_same P hs (hs ++ []) n (n + 0) m (sym (append-nil hs)) (let e : n ≡ n + 0 = omega arith in e) h
  calls_sum (f ∷ gs) hs n m all h =
      let e : (n + c.size f) + size_of_all c gs ≡ n + (c.size f + size_of_all c gs) = omega arith in
      sum_same P ((hs ++ f ∷ []) ++ gs) (hs ++ f ∷ gs) ((n + c.size f) + size_of_all c gs) (n + (c.size f + size_of_all c gs)) (all_added (added m (measure_at table (callee g f))) (map (measure_at table) (map (callee g) gs)))
      (append_assoc hs (f ∷ []) gs) e
      (calls_sum gs (hs ++ f ∷ []) (n + c.size f) (added m (measure_at table (callee g f))) all.1
      (sum_added P hs (f ∷ []) n (c.size f) m (measure_at table (callee g f)) h (each f all.0)))

  module _ (p : Program) (node : Node) where
    item_sum : (item : Item) → AllByRecursion known (nodes_called (right_of item)) → IsSum P (nodes_called (right_of item)) (item_size p node c item) (item_measure table (outline p g node item))
    item_sum item all =
        let ids = id_count p node item in
        let own = own_count p node (right_of item) in
        let start : min (min ids MANY + min own MANY) MANY ≡ min (ids + own) MANY = omega arith in
        subst (λ l. IsSum P (nodes_called (right_of item)) (item_size p node c item) (all_added (Some (min (min ids MANY + min own MANY) MANY)) (map (measure_at table) l))) (sym (callees_are g (right_of item)))
        (calls_sum (nodes_called (right_of item)) [] (ids + own) (Some (min (min ids MANY + min own MANY) MANY)) all (tt, start))

    items_sum : (items : List Item) (hs : List Name) (n : ℕ) (m : Measure) → AllByRecursion known (nodes_called_in items) → IsSum P hs n m
        → IsSum P (hs ++ nodes_called_in items) (n + items_size p node c items) (all_added m (map (item_measure table) (map (outline p g node) items)))
    items_sum [] hs n m all h = sum_same P hs (hs ++ []) n (n + 0) m (sym (append-nil hs)) (let e : n ≡ n + 0 = omega arith in e) h
    items_sum (item ∷ items) hs n m all h =
        let here = nodes_called (right_of item) in
        let size = item_size p node c item in
        let rest = items_size p node c items in
        let e : (n + size) + rest ≡ n + (size + rest) = omega arith in
        sum_same P ((hs ++ here) ++ nodes_called_in items) (hs ++ (here ++ nodes_called_in items)) ((n + size) + rest) (n + (size + rest))
        (all_added (added m (item_measure table (outline p g node item))) (map (item_measure table) (map (outline p g node) items)))
        (append_assoc hs here (nodes_called_in items)) e
        (items_sum items (hs ++ here) (n + size) (added m (item_measure table (outline p g node item))) (all_right known here (nodes_called_in items) all)
        (sum_added P hs here n size m (item_measure table (outline p g node item)) h (item_sum item (all_left known here (nodes_called_in items) all))))

    pub node_sum : (items : List Item) → AllByRecursion known (nodes_called_in items) → IsSum P (nodes_called_in items) (items_size p node c items) (node_measure table (map (outline p g node) items))
    node_sum items all =
        let e : 0 + items_size p node c items ≡ items_size p node c items = omega arith in
        let none : 0 ≡ min 0 MANY = omega arith in
        sum_same P (nodes_called_in items) (nodes_called_in items) (0 + items_size p node c items) (items_size p node c items) (node_measure table (map (outline p g node) items)) refl e
        (items_sum items [] 0 (Some 0) all (tt, none))

-- ---- the measure of a node

-- a measure is that of the node's instances, or the node's calls are nested deeper
abbrev pub IsMeasure : Program → ℕ → Name → Measure → Type 0
IsMeasure p depth f None = IsNested p depth f → ⊥
IsMeasure p depth f (Some m) = IsNested p depth f × (m ≡ min ((callees_within p depth).size f) MANY)

one_name : (p : Program) (depth : ℕ) (f : Name) (m : Measure) → IsMeasure p depth f m → IsSum (IsNested p depth) (f ∷ []) ((callees_within p depth).size f) m
one_name p depth f None h = λ all. h all.0
one_name p depth f (Some m) h = ((h.0, tt), h.1)

-- what is known of a node's items is known of the node
node_measured : (p : Program) (depth : ℕ) (f : Name) (node : Node) (m : Measure) → p.node f ≡ Some node
    → IsSum (IsNested p depth) (nodes_called_in node.items) (items_size p node (callees_within p depth) node.items) m → IsMeasure p (suc depth) f m
node_measured p depth f node None found h = λ nested.
    let both : Some nested.0 ≡ Some node = sym nested.1 ∙ found in
    let one : nested.0 ≡ node = cc in
    h (subst (λ (k : Node). AllByRecursion (IsNested p depth) (nodes_called_in k.items)) one nested.2)
node_measured p depth f node (Some m) found h = ((node, found, h.0), h.1 ∙ ap (λ o. min (size_over p (callees_within p depth) o) MANY) (sym found))

none_at : (n : ℕ) (o : Option ℕ) → measure_at (replicate n None) o ≡ None
none_at n None = refl
none_at n (Some place) = step n place
  where
    step : (n place : ℕ) → flat {A = ℕ} (slice_get (replicate n None) place) ≡ None
    step zero place = refl
    step (suc n) zero = refl
    step (suc n) (suc place) = step n place

module _ (p : Program) (g : Globals) (decls : List Decl) (same : (f : Name) → p.node f ≡ node_at_place g decls (callee g f)) (typed : IsTypedProgram p) where
  abbrev outlines : List (List Outline)
  outlines = all_outlines p g decls

  module _ (depth : ℕ) (below : (f : Name) (node : Node) → p.node f ≡ Some node → IsMeasure p depth f (measure_at (measures (all_outlines p g decls) depth) (callee g f))) where
    abbrev table : List Measure
    table = measures (all_outlines p g decls) depth

    declared : (f : Name) (node : Node) (d : Option Decl) → p.node f ≡ Some node → node_declared g d ≡ Some node
        → IsMeasure p (suc depth) f (flat (option_map (node_measure table) (option_map (outlines_of p g) d)))
    declared f node None found is = absurd (cc is)
    declared f node (Some (TypeDecl at name choices)) found is = absurd (cc is)
    declared f node (Some (ConstDecl at name ty value)) found is = absurd (cc is)
    declared f node (Some (NodeDecl at name inputs outputs locals items)) found is =
        let n : Node = record { name = name.text; inputs = variables_of g inputs; outputs = variables_of g outputs; locals = variables_of g locals; items = items } in
        let both : Some n ≡ Some node = is in
        let one : n ≡ node = cc in
        let m = node_measure table (outlines_of p g (NodeDecl at name inputs outputs locals items)) in
        let calls = items_call_nodes p (type_of_name p node) node.items (defining p node (typed.nodes f node found)).items in
        let known : AllByRecursion (IsNodeName p) (nodes_called_in items) = subst (λ (k : Node). AllByRecursion (IsNodeName p) (nodes_called_in k.items)) (sym one) calls in
        let sum : IsSum (IsNested p depth) (nodes_called_in items) (items_size p n (callees_within p depth) items) m =
        node_sum (IsNested p depth) (IsNodeName p) g table (callees_within p depth) (λ h is_node. one_name p depth h (measure_at table (callee g h)) (below h is_node.0 is_node.1)) p (head_of g (NodeDecl at name inputs outputs locals items)) items known in
        node_measured p depth f node m found (subst (λ (k : Node). IsSum (IsNested p depth) (nodes_called_in k.items) (items_size p k (callees_within p depth) k.items) m) one sum)

    at_place : (f : Name) (node : Node) (o : Option ℕ) → p.node f ≡ Some node → node_at_place g decls o ≡ Some node → IsMeasure p (suc depth) f (measure_at (measures (all_outlines p g decls) (suc depth)) o)
    at_place f node None found is = absurd (cc is)
    at_place f node (Some place) found is =
        subst (λ m. IsMeasure p (suc depth) f (flat m))
        (sym (slice_get-map (node_measure table) (all_outlines p g decls) place ∙ ap (option_map (node_measure table)) (slice_get-map (outlines_of p g) decls place)))
        (declared f node (slice_get decls place) found is)

  pub measured : (depth : ℕ) (f : Name) (node : Node) → p.node f ≡ Some node → IsMeasure p depth f (measure_at (measures (all_outlines p g decls) depth) (callee g f))
  measured zero f node found = subst (IsMeasure p zero f) (sym (none_at (length (all_outlines p g decls)) (callee g f))) (λ nested. nested)
  measured (suc depth) f node found = at_place depth (measured depth) f node (callee g f) found (sym (same f) ∙ found)
