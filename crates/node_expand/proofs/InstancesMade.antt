-- Items and instances one behind the other, as code adds them.
use Rattle.std.proofs.Common.{◌≡◌, ℕ, suc, ◌+◌, ◌≤◌, ◌<◌, get_or, Bool, if◌then◌else◌, ◌||◌, List, [], ◌∷◌, ◌++◌, drop, length, map, refl, sym, ap, ap₂, ◌∙◌, subst, arith, append_assoc, append-nil}
use Rattle.std.specs.List.{AllByRecursion}
use Rattle.std.proofs.lemmas.List.{map-append, drop_more}
use Rattle.op_network.specs.declared.limits.TheConstants.{MOST_EDGES}
use Rattle.lus_syntax.specs.declared.ast.Item.{Item}
use Rattle.op_network.specs.declared.edge.EdgeId.{EdgeId}
use Rattle.lus_types.specs.Names.{Name}
use Rattle.lus_types.specs.Programs.{Node, Program}
use Rattle.node_expand.specs.declared.draft.Draft.{Draft}
use Rattle.node_expand.specs.declared.here.Here.{Here}
use Rattle.node_expand.specs.declared.parts.Call.{Call}
use Rattle.node_expand.specs.Counts.{has_edge, inner_place, item_size, items_size, nodes_called, nodes_called_in, right_of}
use Rattle.node_expand.specs.Drafts.{AddsEdges, AddsInstance, AddsInstances, AddsItem, AddsItems, edges_here}
use Rattle.node_expand.specs.Fragments.{Callees, Places, edge, nodes_of, size_of_all}
use Rattle.node_expand.specs.Instances.{first_name, id_edges, instance_asserts, instance_edges, instance_prefix, is_assertion, item_asserts, item_edges, item_fragment, items_asserts, items_edges, next_assertion, own_edges, root_asserts, roots_of}
use Rattle.node_expand.specs.Nesting.{IsNested}
use Rattle.node_expand.proofs.Counted.{calls_counted}
use Rattle.node_expand.proofs.Lists.{all_left, all_right}

-- asserts of two parts
both_asserts : (old mid new : List EdgeId) (a b : List ℕ) → mid ≡ old ++ map edge a → new ≡ mid ++ map edge b → new ≡ old ++ map edge (a ++ b)
both_asserts old mid new a b h k = k ∙ ap (λ l. l ++ map edge b) h ∙ append_assoc old (map edge a) (map edge b) ∙ ap (λ l. old ++ l) (sym (map-append edge a b))

-- ---- instances

pub no_instances : (c : Callees) (root : Name) (asserted : Bool) (j : ℕ) (d : Draft) → AddsInstances c root asserted j [] d d
no_instances c root asserted j d = record { edges = sym (append-nil d.edges); asserts = sym (append-nil d.asserts); size = omega arith }

pub more_instances : (c : Callees) (root : Name) (asserted : Bool) (j : ℕ) (call : Call) (calls : List Call) (old mid new : Draft)
    → AddsInstance c call.node call.args (instance_prefix root call.node j) asserted old mid → AddsInstances c root asserted (suc j) calls mid new
    → AddsInstances c root asserted j (call ∷ calls) old new
more_instances c root asserted j call calls old mid new h g =
    let first = c.edges call.node call.args (instance_prefix root call.node j) asserted (length old.edges) in
    record {
      edges = g.edges ∙ ap₂ (λ l n. l ++ instance_edges c root asserted (suc j) n calls) h.edges h.size
          ∙ append_assoc old.edges first (instance_edges c root asserted (suc j) (length old.edges + c.size call.node) calls);
      asserts = both_asserts old.asserts mid.asserts new.asserts (c.asserts call.node (length old.edges)) (instance_asserts c (length old.edges + c.size call.node) (nodes_of calls)) h.asserts
          (g.asserts ∙ ap (λ n. mid.asserts ++ map edge (instance_asserts c n (nodes_of calls))) h.size);
      size = let a = h.size in let b = g.size in omega (arith, a, b);
    }

-- what is left of calls, in a loop over them
pub record CallsLeft (program : Program) (depth : ℕ) (c : Callees) (root : Name) (asserted : Bool) (calls : List Call) (initial : Draft) (i : ℕ) (draft : Draft) : Type 0 where
  pub more : (new : Draft) → AddsInstances c root asserted (i + 1) (drop i calls) draft new → AddsInstances c root asserted 1 calls initial new
  pub room : length draft.edges + size_of_all c (nodes_of (drop i calls)) ≤ MOST_EDGES
  pub nested : AllByRecursion (IsNested program depth) (nodes_of (drop i calls))

module _ (program : Program) (depth : ℕ) (c : Callees) (root : Name) (asserted : Bool) (calls : List Call) (initial : Draft) where
  abbrev pub Left : ℕ → Draft → Type 0
  Left i draft = CallsLeft program depth c root asserted calls initial i draft

  pub calls_first : AllByRecursion (IsNested program depth) (nodes_of calls) → length initial.edges + size_of_all c (nodes_of calls) ≤ MOST_EDGES → Left 0 initial
  calls_first nested room = record { more = λ new h. h; room = room; nested = nested }

  pub behind : (i : ℕ) (call : Call) → i < length calls → call ≡ get_or calls i call → drop i calls ≡ call ∷ drop (i + 1) calls
  behind i call h is = drop_more calls i call h ∙ ap (λ k. k ∷ drop (i + 1) calls) (sym is)

  pub call_nested : (i : ℕ) (draft : Draft) (call : Call) → i < length calls → call ≡ get_or calls i call → Left i draft → IsNested program depth call.node
  call_nested i draft call h is left = let all = subst (λ l. AllByRecursion (IsNested program depth) (nodes_of l)) (behind i call h is) left.nested in all.0

  pub call_room : (i : ℕ) (draft : Draft) (call : Call) → i < length calls → call ≡ get_or calls i call → Left i draft → length draft.edges + c.size call.node ≤ MOST_EDGES
  call_room i draft call h is left =
      let room = subst (λ l. length draft.edges + size_of_all c (nodes_of l) ≤ MOST_EDGES) (behind i call h is) left.room in omega (arith, room)

  pub calls_next : (i : ℕ) (draft mid : Draft) (call : Call) → i < length calls → call ≡ get_or calls i call → Left i draft
      → AddsInstance c call.node call.args (instance_prefix root call.node (i + 1)) asserted draft mid → Left (i + 1) mid
  calls_next i draft mid call h is left made =
      let room = subst (λ l. length draft.edges + size_of_all c (nodes_of l) ≤ MOST_EDGES) (behind i call h is) left.room in
      let size = made.size in
      let all = subst (λ l. AllByRecursion (IsNested program depth) (nodes_of l)) (behind i call h is) left.nested in
      let next : (i + 1) + 1 ≡ suc (i + 1) = omega arith in
      record {
        more = λ new g. left.more new (subst (λ l. AddsInstances c root asserted (i + 1) l draft new) (sym (behind i call h is))
            (more_instances c root asserted (i + 1) call (drop (i + 1) calls) draft mid new made (subst (λ j. AddsInstances c root asserted j (drop (i + 1) calls) mid new) next g)));
        room = omega (arith, room, size);
        nested = all.1;
      }

  drop_all : {A : Type 0} (xs : List A) → drop (length xs) xs ≡ []
  drop_all [] = refl
  drop_all (x ∷ xs) = drop_all xs

  pub calls_done : (draft : Draft) → Left (length calls) draft → AddsInstances c root asserted 1 calls initial draft
  calls_done draft left = left.more draft (subst (λ l. AddsInstances c root asserted (length calls + 1) l draft draft) (sym (drop_all calls)) (no_instances c root asserted (length calls + 1) draft))

-- ---- an item

pub item_added : (p : Program) (node : Node) (c : Callees) (places : Places) (prefix : Name) (asserted : Bool) (k : ℕ) (item : Item) (old mid new : Draft) (here : Here) (marked : Bool)
    → marked ≡ (asserted || is_assertion item)
    → AddsEdges p node c places prefix asserted k item old mid here → AddsInstances c here.root marked 1 here.calls mid new
    → AddsItem p node c places prefix asserted k item old new
item_added p node c places prefix asserted k item old mid new here marked m h g =
    let at = length old.edges in
    let right = item_fragment p node c places at item in
    let roots = roots_of p node k item in
    let a = asserted || is_assertion item in
    let b = has_edge p node (right_of item) in
    let ids = if b then [] else id_edges prefix a roots right.values in
    let own = own_edges (prefix ++ first_name roots) a (if b then 0 else 1) right.own in
    let inner = inner_place p node at item in
    let instances = instance_edges c (prefix ++ first_name roots) a 1 inner right.calls in
    let called : nodes_of here.calls ≡ nodes_called (right_of item) = ap nodes_of h.calls ∙ calls_counted p node c places (right_of item) _ _ in
    let here_edges : mid.edges ≡ old.edges ++ (ids ++ own) = h.edges ∙ ap (λ x. old.edges ++ edges_here prefix x a b roots right.values right.own) h.root in
    let there : instance_edges c here.root marked 1 (length mid.edges) here.calls ≡ instances = λ i. instance_edges c (h.root i) (m i) 1 (h.size i) (h.calls i) in
    let size = g.size in
    let begins = h.size in
    let count : size_of_all c (nodes_of here.calls) ≡ size_of_all c (nodes_called (right_of item)) = ap (size_of_all c) called in
    record {
      edges = g.edges ∙ (λ i. here_edges i ++ there i) ∙ append_assoc old.edges (ids ++ own) instances ∙ ap (λ l. old.edges ++ l) (append_assoc ids own instances);
      asserts = both_asserts old.asserts mid.asserts new.asserts (root_asserts at item) (instance_asserts c inner (nodes_called (right_of item))) h.asserts
          (g.asserts ∙ (λ i. mid.asserts ++ map edge (instance_asserts c (h.size i) (called i))));
      size = omega (arith, size, begins, count);
    }

-- ---- items

pub no_items : (p : Program) (node : Node) (c : Callees) (places : Places) (prefix : Name) (asserted : Bool) (k : ℕ) (d : Draft) → AddsItems p node c places prefix asserted k [] d d
no_items p node c places prefix asserted k d = record { edges = sym (append-nil d.edges); asserts = sym (append-nil d.asserts); size = omega arith }

pub more_items : (p : Program) (node : Node) (c : Callees) (places : Places) (prefix : Name) (asserted : Bool) (k : ℕ) (item : Item) (items : List Item) (old mid new : Draft)
    → AddsItem p node c places prefix asserted k item old mid → AddsItems p node c places prefix asserted (next_assertion k item) items mid new
    → AddsItems p node c places prefix asserted k (item ∷ items) old new
more_items p node c places prefix asserted k item items old mid new h g =
    let at = length old.edges in
    let next = at + item_size p node c item in
    record {
      edges = g.edges ∙ ap₂ (λ l n. l ++ items_edges p node c places prefix asserted n (next_assertion k item) items) h.edges h.size
          ∙ append_assoc old.edges (item_edges p node c places prefix asserted at k item) (items_edges p node c places prefix asserted next (next_assertion k item) items);
      asserts = both_asserts old.asserts mid.asserts new.asserts (item_asserts p node c at item) (items_asserts p node c next items) h.asserts
          (g.asserts ∙ ap (λ n. mid.asserts ++ map edge (items_asserts p node c n items)) h.size);
      size = let a = h.size in let b = g.size in omega (arith, a, b);
    }

-- what is left of items, in a loop over them that has counted so many assertions
pub record ItemsLeft (p : Program) (node : Node) (below : ℕ) (c : Callees) (places : Places) (prefix : Name) (asserted : Bool) (items : List Item) (initial : Draft) (i count : ℕ) (draft : Draft) : Type 0 where
  pub more : (new : Draft) → AddsItems p node c places prefix asserted (count + 1) (drop i items) draft new → AddsItems p node c places prefix asserted 1 items initial new
  pub room : length draft.edges + items_size p node c (drop i items) ≤ MOST_EDGES
  pub nested : AllByRecursion (IsNested p below) (nodes_called_in (drop i items))
  pub few : count ≤ i

module _ (p : Program) (node : Node) (below : ℕ) (c : Callees) (places : Places) (prefix : Name) (asserted : Bool) (items : List Item) (initial : Draft) where
  abbrev pub Rest : ℕ → ℕ → Draft → Type 0
  Rest i count draft = ItemsLeft p node below c places prefix asserted items initial i count draft

  pub items_first : AllByRecursion (IsNested p below) (nodes_called_in items) → length initial.edges + items_size p node c items ≤ MOST_EDGES → Rest 0 0 initial
  items_first nested room = record { more = λ new h. h; room = room; nested = nested; few = omega arith }

  item_behind : (i : ℕ) (item : Item) → i < length items → item ≡ get_or items i item → drop i items ≡ item ∷ drop (i + 1) items
  item_behind i item h is = drop_more items i item h ∙ ap (λ k. k ∷ drop (i + 1) items) (sym is)

  pub item_nested : (i count : ℕ) (draft : Draft) (item : Item) → i < length items → item ≡ get_or items i item → Rest i count draft → AllByRecursion (IsNested p below) (nodes_called (right_of item))
  item_nested i count draft item h is left =
      all_left (IsNested p below) (nodes_called (right_of item)) (nodes_called_in (drop (i + 1) items)) (subst (λ l. AllByRecursion (IsNested p below) (nodes_called_in l)) (item_behind i item h is) left.nested)

  pub item_room : (i count : ℕ) (draft : Draft) (item : Item) → i < length items → item ≡ get_or items i item → Rest i count draft → length draft.edges + item_size p node c item ≤ MOST_EDGES
  item_room i count draft item h is left =
      let room = subst (λ l. length draft.edges + items_size p node c l ≤ MOST_EDGES) (item_behind i item h is) left.room in omega (arith, room)

  pub items_next : (i count next : ℕ) (draft mid : Draft) (item : Item) → i < length items → item ≡ get_or items i item → Rest i count draft
      → AddsItem p node c places prefix asserted (count + 1) item draft mid → next + 1 ≡ next_assertion (count + 1) item → next ≤ count + 1 → Rest (i + 1) next mid
  items_next i count next draft mid item h is left made n few =
      let room = subst (λ l. length draft.edges + items_size p node c l ≤ MOST_EDGES) (item_behind i item h is) left.room in
      let size = made.size in
      let before = left.few in
      record {
        more = λ new g. left.more new (subst (λ l. AddsItems p node c places prefix asserted (count + 1) l draft new) (sym (item_behind i item h is))
            (more_items p node c places prefix asserted (count + 1) item (drop (i + 1) items) draft mid new made (subst (λ j. AddsItems p node c places prefix asserted j (drop (i + 1) items) mid new) n g)));
        room = omega (arith, room, size);
        nested = all_right (IsNested p below) (nodes_called (right_of item)) (nodes_called_in (drop (i + 1) items)) (subst (λ l. AllByRecursion (IsNested p below) (nodes_called_in l)) (item_behind i item h is) left.nested);
        few = omega (arith, few, before);
      }

  none_left : {A : Type 0} (xs : List A) → drop (length xs) xs ≡ []
  none_left [] = refl
  none_left (x ∷ xs) = none_left xs

  pub items_done : (count : ℕ) (draft : Draft) → Rest (length items) count draft → AddsItems p node c places prefix asserted 1 items initial draft
  items_done count draft left = left.more draft (subst (λ l. AddsItems p node c places prefix asserted (count + 1) l draft draft) (sym (none_left items)) (no_items p node c places prefix asserted (count + 1) draft))

-- ---- the same, by equal parts

pub same_instance : (c : Callees) (f g : Name) (args more : List ℕ) (prefix front : Name) (asserted : Bool) (old new : Draft) → f ≡ g → args ≡ more → prefix ≡ front
    → AddsInstance c f args prefix asserted old new → AddsInstance c g more front asserted old new
same_instance c f g args more prefix front asserted old new i j k h =
    subst (λ x. AddsInstance c g more x asserted old new) k (subst (λ x. AddsInstance c g x prefix asserted old new) j (subst (λ x. AddsInstance c x args prefix asserted old new) i h))

pub same_instances : (c : Callees) (root name : Name) (asserted : Bool) (calls more : List Call) (old new : Draft) → root ≡ name → calls ≡ more
    → AddsInstances c root asserted 1 calls old new → AddsInstances c name asserted 1 more old new
same_instances c root name asserted calls more old new i j h =
    subst (λ x. AddsInstances c name asserted 1 x old new) j (subst (λ x. AddsInstances c x asserted 1 calls old new) i h)

-- what is to be made of an item's calls
pub here_nested : (program p : Program) (node : Node) (below : ℕ) (c : Callees) (places : Places) (prefix : Name) (asserted : Bool) (k : ℕ) (item : Item) (old new : Draft) (here : Here) (calls : List Call)
    → calls ≡ here.calls → AddsEdges p node c places prefix asserted k item old new here → AllByRecursion (IsNested program below) (nodes_called (right_of item)) → AllByRecursion (IsNested program below) (nodes_of calls)
here_nested program p node below c places prefix asserted k item old new here calls is h nested =
    subst (AllByRecursion (IsNested program below)) (sym (ap nodes_of (is ∙ h.calls) ∙ calls_counted p node c places (right_of item) _ _)) nested

pub here_room : (p : Program) (node : Node) (c : Callees) (places : Places) (prefix : Name) (asserted : Bool) (k : ℕ) (item : Item) (old new : Draft) (here : Here) (calls : List Call)
    → calls ≡ here.calls → AddsEdges p node c places prefix asserted k item old new here → length old.edges + item_size p node c item ≤ MOST_EDGES → length new.edges + size_of_all c (nodes_of calls) ≤ MOST_EDGES
here_room p node c places prefix asserted k item old new here calls is h room =
    let called : nodes_of calls ≡ nodes_called (right_of item) = ap nodes_of (is ∙ h.calls) ∙ calls_counted p node c places (right_of item) _ _ in
    let count : size_of_all c (nodes_of calls) ≡ size_of_all c (nodes_called (right_of item)) = ap (size_of_all c) called in
    let size = h.size in
    omega (arith, room, size, count)
