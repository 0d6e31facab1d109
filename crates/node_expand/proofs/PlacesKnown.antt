-- The edges of a node's variables as code numbers them are those of the definition.
use Rattle.std.proofs.Common.{◌≡◌, ℕ, suc, ◌+◌, ◌≤◌, min, Bool, true, false, if◌then◌else◌, cond, List, [], ◌∷◌, ◌++◌, length, map, refl, sym, ap, ap₂, ◌∙◌, subst, arith, is_some, append_assoc, append-nil}
use Rattle.std.specs.Prelude.{Option, Some, None, zip}
use Rattle.std.specs.List.{AllByRecursion, flat_map}
use Rattle.std.proofs.lemmas.List.{map-append}
use Rattle.op_network.specs.declared.limits.TheConstants.{MOST_EDGES}
use Rattle.lus_syntax.specs.declared.ast.Expr.{Expr}
use Rattle.lus_syntax.specs.declared.ast.Item.{Item}
use Rattle.lus_syntax.specs.declared.ast.Item.TheVariants.{Assert, Equation}
use Rattle.lus_syntax.specs.declared.ast.Spot.{Spot}
use Rattle.op_network.specs.declared.value.Ty.{Ty}
use Rattle.lus_types.specs.Calls.{In}
use Rattle.lus_types.specs.Names.{Name, Globals, entry_of, left_of, lefts, spot_names}
use Rattle.lus_types.specs.Programs.{Node, Program}
use Rattle.lus_types.specs.ProgramTypes.{AreDistinct, HasTypes, IsTypedItem, NamesHaveTypes, more_names, no_names, typed_equation, types_arrow, types_binary, types_call, types_if, types_name, types_number, types_pre, types_truth, types_unary}
use Rattle.lus_types.proofs.Trees.{Tree, Trees, t_call, t_cond, t_more, t_name, t_none, t_number, t_one, t_truth, t_two, tree_of}
use Rattle.node_expand.specs.declared.limits.TheConstants.{MANY}
use Rattle.node_expand.specs.Counts.{has_edge, has_edge_level, id_count, item_size, items_size, nodes_called, nodes_called_in, nodes_called_level, own_count, own_count_level, right_of}
use Rattle.node_expand.specs.Fragments.{Callees, Places, size_of_all}
use Rattle.node_expand.specs.Instances.{item_places, places_from}
use Rattle.node_expand.specs.Known.{cut_places, root_places}
use Rattle.node_expand.specs.NameTables.{with_entries, with_name}
use Rattle.node_expand.specs.Names.{constant_in}
use Rattle.node_expand.specs.Outlines.{Measure, added, all_added, callee, callees, callees_level, item_measure, measure_at, number_of, outline}
use Rattle.node_expand.proofs.Folds.{folded_call, folded_if, folded_name, folded_number, folded_one, folded_truth, folded_two}
use Rattle.lus_types.specs.NameTables.{either}
use Rattle.lus_types.proofs.Tabled.{joined}
use Rattle.node_expand.proofs.Lists.{all_from_in, all_in, all_left, all_right}
use Rattle.node_expand.proofs.Rooted.{entries_append}
use Rattle.node_expand.proofs.Places.{Compared, compared, distinct_right, other_name, same_name}

-- ---- the places of called nodes

module _ (g : Globals) where
  mutual
    tree_callees : {e : Expr} → Tree e → callees g e ≡ map (callee g) (nodes_called e)
    tree_callees {e} (t_name x k) = folded_name (callees_level g) e x k ∙ sym (ap (map (callee g)) (folded_name nodes_called_level e x k))
    tree_callees {e} (t_number x k) = folded_number (callees_level g) e x k ∙ sym (ap (map (callee g)) (folded_number nodes_called_level e x k))
    tree_callees {e} (t_truth x k) = folded_truth (callees_level g) e x k ∙ sym (ap (map (callee g)) (folded_truth nodes_called_level e x k))
    tree_callees {e} (t_one op a k p) = folded_one (callees_level g) e a op k ∙ tree_callees p ∙ sym (ap (map (callee g)) (folded_one nodes_called_level e a op k))
    tree_callees {e} (t_two op a b k p q) =
        folded_two (callees_level g) e a b op k ∙ ap₂ (λ l m. l ++ m) (tree_callees p) (tree_callees q)
        ∙ sym (map-append (callee g) (nodes_called a) (nodes_called b)) ∙ sym (ap (map (callee g)) (folded_two nodes_called_level e a b op k))
    tree_callees {e} (t_cond x y z k p q r) =
        folded_if (callees_level g) e x y z k
        ∙ ap₂ (λ l m. l ++ m) (tree_callees p) (ap₂ (λ l m. l ++ m) (tree_callees q) (tree_callees r) ∙ sym (map-append (callee g) (nodes_called y) (nodes_called z)))
        ∙ sym (map-append (callee g) (nodes_called x) (nodes_called y ++ nodes_called z)) ∙ sym (ap (map (callee g)) (folded_if nodes_called_level e x y z k))
    tree_callees {e} (t_call f args k ps) =
        folded_call (callees_level g) e f args k ∙ ap (λ l. callee g f ∷ l) (trees_callees ps)
        ∙ sym (ap (map (callee g)) (folded_call nodes_called_level e f args k))

    trees_callees : {es : List Expr} → Trees es → flat_map (λ places. places) (map (callees g) es) ≡ map (callee g) (flat_map (λ names. names) (map nodes_called es))
    trees_callees t_none = refl
    trees_callees (t_more {e = e} {es = es} p ps) =
        ap₂ (λ l m. l ++ m) (tree_callees p) (trees_callees ps) ∙ sym (map-append (callee g) (nodes_called e) (flat_map (λ names. names) (map nodes_called es)))

  pub callees_are : (e : Expr) → callees g e ≡ map (callee g) (nodes_called e)
  callees_are e = tree_callees (tree_of e)

-- ---- measures of items

abbrev pub IsSized : Globals → List Measure → Callees → Name → Type 0
IsSized g sizes c f = measure_at sizes (callee g f) ≡ Some (min (c.size f) MANY)

sum_sized : (g : Globals) (sizes : List Measure) (c : Callees) (gs : List Name) (m n : ℕ) → m ≡ min n MANY → AllByRecursion (IsSized g sizes c) gs
    → all_added (Some m) (map (measure_at sizes) (map (callee g) gs)) ≡ Some (min (n + size_of_all c gs) MANY)
sum_sized g sizes c [] m n is all = let e : m ≡ min (n + 0) MANY = omega (arith, is) in ap Some e
sum_sized g sizes c (f ∷ gs) m n is all =
    let next : min (m + min (c.size f) MANY) MANY ≡ min (n + c.size f) MANY = omega (arith, is) in
    let whole : min ((n + c.size f) + size_of_all c gs) MANY ≡ min (n + (c.size f + size_of_all c gs)) MANY = omega arith in
    ap (λ o. all_added (added (Some m) o) (map (measure_at sizes) (map (callee g) gs))) all.0
    ∙ sum_sized g sizes c gs (min (m + min (c.size f) MANY) MANY) (n + c.size f) next all.1
    ∙ ap Some whole

pub measured_item : (p : Program) (g : Globals) (node : Node) (sizes : List Measure) (c : Callees) (item : Item) → AllByRecursion (IsSized g sizes c) (nodes_called (right_of item))
    → item_measure sizes (outline p g node item) ≡ Some (min (item_size p node c item) MANY)
measured_item p g node sizes c item all =
    let ids = id_count p node item in
    let own = own_count p node (right_of item) in
    let start : min (min ids MANY + min own MANY) MANY ≡ min (ids + own) MANY = omega arith in
    ap (λ l. all_added (Some (min (min ids MANY + min own MANY) MANY)) (map (measure_at sizes) l)) (callees_are g (right_of item))
    ∙ sum_sized g sizes c (nodes_called (right_of item)) (min (min ids MANY + min own MANY) MANY) (ids + own) start all

pub item_number : (p : Program) (g : Globals) (node : Node) (sizes : List Measure) (c : Callees) (item : Item) → AllByRecursion (IsSized g sizes c) (nodes_called (right_of item))
    → item_size p node c item ≤ MOST_EDGES → number_of (item_measure sizes (outline p g node item)) ≡ item_size p node c item
item_number p g node sizes c item all few =
    let cut_off : min (item_size p node c item) MANY ≡ item_size p node c item = omega (arith, few) in
    ap number_of (measured_item p g node sizes c item all) ∙ cut_off

-- ---- roots

cut_fits : {A : Type 0} (next : ℕ) (xs : List A) → next + length xs ≤ 0xFFFF_FFFF → cut_places next xs ≡ places_from next xs
cut_fits next [] fits = refl
cut_fits next (x ∷ xs) fits =
    let e : min (next + 1) 0xFFFF_FFFF ≡ suc next = omega (arith, fits) in
    ap (λ l. next ∷ l) (ap (λ n. cut_places n xs) e ∙ cut_fits (suc next) xs (omega (arith, fits)))

module _ (p : Program) (node : Node) (name_type : Name → Option Ty) where
  one_type : {e : Expr} {ts : List Ty} → HasTypes name_type p.node e ts → has_edge p node e ≡ true → length ts ≡ 1
  one_type (types_name x t k h) own = refl
  one_type (types_number n k) own = refl
  one_type (types_truth b k) own = refl
  one_type (types_unary op o a k h h' t) own = refl
  one_type (types_pre a k t) own = refl
  one_type (types_binary op o a b k h h' t u) own = refl
  one_type (types_arrow a b k h t u) own = refl
  one_type (types_if a b c k h t u v) own = refl
  one_type {e} (types_call f args callee k h ts) own = let no : false ≡ true = sym (folded_call (has_edge_level p node) e f args k) ∙ own in absurd (cc no)

  left_typed : {left : List Spot} {ts : List Ty} → NamesHaveTypes name_type left ts → length left ≡ length ts
  left_typed no_names = refl
  left_typed (more_names h more) = ap suc (left_typed more)

  names_length : (left : List Spot) → length (spot_names left) ≡ length left
  names_length [] = refl
  names_length (s ∷ left) = ap suc (names_length left)

  counted : (b : Bool) → (if b then 1 else 0) ≤ 1
  counted true = omega arith
  counted false = omega arith

  own_some : {e : Expr} → Tree e → has_edge p node e ≡ true → 1 ≤ own_count p node e
  own_some {e} (t_name x k) own =
      let is : is_some (constant_in p node x) ≡ true = sym (folded_name (has_edge_level p node) e x k) ∙ own in
      let one : own_count p node e ≡ 1 = folded_name (own_count_level p node) e x k ∙ ap (λ b. if b then 1 else 0) is in omega (arith, one)
  own_some {e} (t_number n k) own = let one : own_count p node e ≡ 1 = folded_number (own_count_level p node) e n k in omega (arith, one)
  own_some {e} (t_truth b k) own = let one : own_count p node e ≡ 1 = folded_truth (own_count_level p node) e b k in omega (arith, one)
  own_some {e} (t_one op a k q) own = let one : own_count p node e ≡ suc (own_count p node a) = folded_one (own_count_level p node) e a op k in omega (arith, one)
  own_some {e} (t_two op a b k q r) own = let one : own_count p node e ≡ suc (own_count p node a + own_count p node b) = folded_two (own_count_level p node) e a b op k in omega (arith, one)
  own_some {e} (t_cond a b x k q r s) own = let one : own_count p node e ≡ suc (own_count p node a + (own_count p node b + own_count p node x)) = folded_if (own_count_level p node) e a b x k in omega (arith, one)
  own_some {e} (t_call f args k qs) own = let no : false ≡ true = sym (folded_call (has_edge_level p node) e f args k) ∙ own in absurd (cc no)

  -- an item has an edge for each name on its left
  pub roots_fit : (c : Callees) (item : Item) → IsTypedItem name_type p.node item → length (left_of item) ≤ item_size p node c item
  roots_fit c (Assert at e) typed = omega arith
  roots_fit c (Equation at left e) (typed_equation ts h t) =
      let names_are = names_length left in
      let left_are = left_typed h in
      (elim (has_edge p node e) as (λ b. has_edge p node e ≡ b → length (spot_names left) ≤ (if b then 0 else length left) + own_count p node e + size_of_all c (nodes_called e)) [
        | true ↦ λ own. let some = own_some (tree_of e) own in let one = one_type t own in omega (arith, names_are, left_are, some, one)
        | false ↦ λ no. omega (arith, names_are)
      ]) refl

-- the roots of the items of a node, each behind all edges of those above
pub roots_are : (p : Program) (g : Globals) (node : Node) (name_type : Name → Option Ty) (sizes : List Measure) (c : Callees) (items : List Item) (start : ℕ)
    → AllByRecursion (IsTypedItem name_type p.node) items → AllByRecursion (IsSized g sizes c) (nodes_called_in items) → start + items_size p node c items ≤ MOST_EDGES
    → root_places sizes start items (map (outline p g node) items) ≡ item_places p node c start items
roots_are p g node name_type sizes c [] start typed all room = refl
roots_are p g node name_type sizes c (item ∷ items) start typed all room =
    let fit = roots_fit p node name_type c item typed.0 in
    let size = item_number p g node sizes c item (all_left (IsSized g sizes c) (nodes_called (right_of item)) (nodes_called_in items) all) (omega (arith, room)) in
    let next : min (start + number_of (item_measure sizes (outline p g node item))) 0xFFFF_FFFF ≡ start + item_size p node c item = omega (arith, room, size) in
    ap₂ (λ l n. zip (left_of item) l ++ root_places sizes n items (map (outline p g node) items)) (cut_fits start (left_of item) (omega (arith, room, fit))) next
    ∙ ap (λ l. zip (left_of item) (places_from start (left_of item)) ++ l)
    (roots_are p g node name_type sizes c items (start + item_size p node c item) typed.1 (all_right (IsSized g sizes c) (nodes_called (right_of item)) (nodes_called_in items) all) (omega (arith, room)))

-- ---- tables of names that are all new

abbrev AreNew : {A : Type 0} → List (Name × A) → List Name → Type 0
AreNew table xs = AllByRecursion (λ x. entry_of table x ≡ None) xs

new_name : {A : Type 0} (table : List (Name × A)) (x : Name) (a : A) → entry_of table x ≡ None → with_name table x a ≡ table ++ (x, a) ∷ []
new_name table x a none = ap (λ o. if is_some o then table else (table ++ (x, a) ∷ [])) none

other_entry : {A : Type 0} (table : List (Name × A)) (x y : Name) (a : A) → (y ≡ x → ⊥) → entry_of table y ≡ None → entry_of (table ++ (x, a) ∷ []) y ≡ None
other_entry {A} table x y a d none = joined table ((x, a) ∷ []) y ∙ ap (λ o. either o (entry_of ((x, a) ∷ []) y)) none ∙ step (compared y x)
  where
    step : Compared y x → entry_of ((x, a) ∷ []) y ≡ None
    step (same_name e h) = absurd (d e)
    step (other_name f h) = ap (λ b. cond b (Some a) None) h

pub fresh_zip : {A : Type 0} (xs : List Name) (vs : List A) (rest : List Name) (table : List (Name × A)) → AreDistinct (xs ++ rest) → AreNew table (xs ++ rest)
    → (with_entries table (zip xs vs) ≡ table ++ zip xs vs) × AreNew (table ++ zip xs vs) rest
fresh_zip [] vs rest table d new = (sym (append-nil table), subst (λ t. AreNew t rest) (sym (append-nil table)) new)
fresh_zip (x ∷ xs) [] rest table d new = (sym (append-nil table), subst (λ t. AreNew t rest) (sym (append-nil table)) (all_right (λ y. entry_of table y ≡ None) xs rest new.1))
fresh_zip (x ∷ xs) (v ∷ vs) rest table d new =
    let more : AreNew (table ++ (x, v) ∷ []) (xs ++ rest) =
    all_from_in (λ y. entry_of (table ++ (x, v) ∷ []) y ≡ None) (xs ++ rest)
    (λ y i. other_entry table x y v (λ same. d.0 (subst (λ z. In z (xs ++ rest)) same i)) (all_in (λ z. entry_of table z ≡ None) (xs ++ rest) y new.1 i)) in
    let h = fresh_zip xs vs rest (table ++ (x, v) ∷ []) d.1 more in
    let whole = append_assoc table ((x, v) ∷ []) (zip xs vs) in (
      ap (λ t. with_entries t (zip xs vs)) (new_name table x v new.0) ∙ h.0 ∙ whole,
      subst (λ t. AreNew t rest) whole h.1,
    )

fresh_items : (p : Program) (node : Node) (c : Callees) (items : List Item) (start : ℕ) (table : Places) → AreDistinct (lefts items) → AreNew table (lefts items)
    → with_entries table (item_places p node c start items) ≡ table ++ item_places p node c start items
fresh_items p node c [] start table d new = sym (append-nil table)
fresh_items p node c (item ∷ items) start table d new =
    let here = zip (left_of item) (places_from start (left_of item)) in
    let rest = item_places p node c (start + item_size p node c item) items in
    let h = fresh_zip (left_of item) (places_from start (left_of item)) (lefts items) table d new in
    entries_append table here rest ∙ ap (λ t. with_entries t rest) h.0
    ∙ fresh_items p node c items (start + item_size p node c item) (table ++ here) (distinct_right (left_of item) (lefts items) d) h.1
    ∙ append_assoc table here rest

none_new : (xs : List Name) → AreNew {A = ℕ} [] xs
none_new [] = tt
none_new (x ∷ xs) = (refl, none_new xs)

pub places_made : (p : Program) (node : Node) (c : Callees) (ins : List Name) (args : List ℕ) (items : List Item) (start : ℕ) → AreDistinct (ins ++ lefts items)
    → with_entries (with_entries [] (zip ins args)) (item_places p node c start items) ≡ zip ins args ++ item_places p node c start items
places_made p node c ins args items start d =
    let h = fresh_zip ins args (lefts items) [] d (none_new (ins ++ lefts items)) in
    ap (λ t. with_entries t (item_places p node c start items)) h.0
    ∙ fresh_items p node c items start (zip ins args) (distinct_right ins (lefts items) d) h.1
