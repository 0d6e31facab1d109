-- The names of a network's edges are printable.
use Rattle.std.proofs.Common.{◌≡◌, ◌≢◌, ℕ, zero, suc, ◌+◌, ◌<◌, ◌≤◌, ◌^◌, Bool, true, false, cond, ◌||◌, Option, List, [], ◌∷◌, ◌++◌, length, map, drop, codes, decimal, refl, sym, ap, subst, ◌∙◌, arith}
use Rattle.std.proofs.lemmas.Bool.Decides.{nat_tests}
use Rattle.std.proofs.lemmas.List.{length-map}
use Rattle.std.specs.List.{AllByRecursion}
use Rattle.lus_syntax.specs.declared.ast.Item.{Item}
use Rattle.lus_syntax.specs.declared.ast.Item.TheVariants.{Assert, Equation}
use Rattle.lus_syntax.specs.declared.ast.Spot.{Spot}
use Rattle.lus_syntax.specs.Words.{is_part}
use Rattle.op_network.specs.declared.edge.Edge.{Edge}
use Rattle.op_network.specs.Valid.{IsName}
use Rattle.lus_types.specs.Facts.{IsIdentifier}
use Rattle.lus_types.specs.Names.{Name, left_of, lefts, spot_names}
use Rattle.lus_types.specs.Programs.{Node, Program, Variable, names, or_truth, type_of_name}
use Rattle.node_expand.specs.Counts.{has_edge, id_count, inner_place, item_size, items_size, nodes_called, nodes_called_in, right_of}
use Rattle.node_expand.specs.Fragments.{Call, Callees, Gate, Places, nodes_of}
use Rattle.node_expand.specs.Instances.{edge_name, edges_over, first_name, id_edges, instance_edges, instance_prefix, is_assertion, item_edges, item_fragment, items_edges, next_assertion, own_edges, places_over, roots_of, size_over}
use Rattle.node_expand.specs.Nesting.{IsNested}
use Rattle.node_expand.specs.Network.{callees_within, input_edges}
use Rattle.node_expand.proofs.Counted.{calls_counted, own_counted}
use Rattle.node_expand.proofs.Lists.{all_append, all_left, all_right}
use Rattle.node_expand.proofs.Texts.{IsPlain, all_plain, decimal_plain, not_empty, plain}
use Rattle.node_expand.proofs.ValidFacts.{IsExpandable}
use Rattle.node_expand.proofs.ValidLists.{all_index}
use Rattle.node_expand.proofs.ValidNames.{named}
use Rattle.node_expand.proofs.ValidSizes.{IsShort, items_small}

-- bytes that are printed, and no blank
abbrev IsPrintable : ℕ → Type 0
IsPrintable b = (0x21 ≤ b) × (b ≤ 0x7E)

abbrev ArePrintable : List ℕ → Type 0
ArePrintable bs = AllByRecursion IsPrintable bs

part_printable : (b : ℕ) → is_part b ≡ true → IsPrintable b
part_printable b h = (grind (arith, nat_tests), grind (arith, nat_tests))

plain_printable : (x : Name) → IsPlain x → ArePrintable x
plain_printable [] h = tt
plain_printable (b ∷ bs) h = (part_printable b h.0, plain_printable bs h.1)

decimal_printable : (n : ℕ) → n < 2 ^ 64 → ArePrintable (decimal n)
decimal_printable n h = plain_printable (decimal n) (decimal_plain n h)

-- a name that may stand at an edge
record IsText (x : Name) : Type 0 where
  some : x ≢ []
  printable : ArePrintable x

abbrev EdgesNamed : List Edge → Type 0
EdgesNamed edges = AllByRecursion (λ (e : Edge). IsText e.name) edges

name_of : (x : Name) → IsText x → IsName x
name_of x h = record { some = h.some; printable = all_index IsPrintable x h.printable }

identifier_text : (x : Name) → IsIdentifier x → IsText x
identifier_text x h = record { some = not_empty x h; printable = plain_printable x (plain x h) }

pub identifier_name : (x : Name) → IsIdentifier x → IsName x
identifier_name x h = name_of x (identifier_text x h)

some_behind : (xs ys : List ℕ) → ys ≢ [] → xs ++ ys ≢ []
some_behind [] ys h e = h e
some_behind (x ∷ xs) ys h e = cc e

some_before : (xs ys : List ℕ) → xs ≢ [] → xs ++ ys ≢ []
some_before [] ys h e = h refl
some_before (x ∷ xs) ys h e = cc e

behind_text : (prefix x : Name) → ArePrintable prefix → IsText x → IsText (prefix ++ x)
behind_text prefix x p h = record { some = some_behind prefix x h.some; printable = all_append IsPrintable prefix x p h.printable }

sign : (b : ℕ) → IsPrintable b → ArePrintable (b ∷ [])
sign b h = (h, tt)

hash : IsPrintable 35
hash = (omega arith, omega arith)

edge_text : (x : Name) (k : ℕ) → k < 2 ^ 64 → IsText x → IsText (edge_name x k)
edge_text x zero few h = h
edge_text x (suc k) few h = record {
  some = some_before (x ++ codes "#") (decimal (suc k)) (some_before x (codes "#") h.some);
  printable = all_append IsPrintable (x ++ codes "#") (decimal (suc k)) (all_append IsPrintable x (codes "#") h.printable (sign 35 hash)) (decimal_printable (suc k) few);
}

prefix_printable : (x f : Name) (j : ℕ) → j < 2 ^ 64 → ArePrintable x → IsPlain f → ArePrintable (instance_prefix x f j)
prefix_printable x f j few h p =
    all_append IsPrintable (x ++ codes "/" ++ f ++ codes "#" ++ decimal j) (codes ".")
    (all_append IsPrintable (x ++ codes "/" ++ f ++ codes "#") (decimal j)
    (all_append IsPrintable (x ++ codes "/" ++ f) (codes "#")
    (all_append IsPrintable (x ++ codes "/") f (all_append IsPrintable x (codes "/") h (sign 47 (omega arith, omega arith))) (plain_printable f p)) (sign 35 hash)) (decimal_printable j few))
    (sign 46 (omega arith, omega arith))

assertion_text : (k : ℕ) → k < 2 ^ 64 → IsText (codes "assert#" ++ decimal k)
assertion_text k few = record { some = some_before (codes "assert#") (decimal k) (λ e. cc e); printable = all_append IsPrintable (codes "assert#") (decimal k) word (decimal_printable k few) }
  where
    word : ArePrintable (codes "assert#")
    word = (part_printable 97 refl, (part_printable 115 refl, (part_printable 115 refl, (part_printable 101 refl, (part_printable 114 refl, (part_printable 116 refl, (hash, tt)))))))

-- the edges of each instance are named where its prefix is printable
abbrev HasTexts : Callees → Name → Type 0
HasTexts callees g = (args : List ℕ) (prefix : Name) (marked : Bool) (start : ℕ) → ArePrintable prefix → EdgesNamed (callees.edges g args prefix marked start)

ids_named : (prefix : Name) (marked : Bool) (roots : List Variable) (values : List ℕ) → ArePrintable prefix
    → AllByRecursion IsText (names roots) → EdgesNamed (id_edges prefix marked roots values)
ids_named prefix marked [] values p h = tt
ids_named prefix marked (r ∷ roots) values p h = (behind_text prefix r.name p h.0, ids_named prefix marked roots (drop 1 values) p h.1)

owns_named : (x : Name) (marked : Bool) (k : ℕ) (gates : List Gate) → IsText x → k + length gates ≤ 2 ^ 64
    → EdgesNamed (own_edges x marked k gates)
owns_named x marked k [] h few = tt
owns_named x marked k (g ∷ gates) h few = (edge_text x k (omega arith) h, owns_named x marked (suc k) gates h (omega arith))

calls_named : (callees : Callees) (x : Name) (marked : Bool) (j start : ℕ) (calls : List Call) → ArePrintable x
    → j + length calls ≤ 2 ^ 64 → AllByRecursion IsPlain (nodes_of calls)
    → AllByRecursion (HasTexts callees) (nodes_of calls) → EdgesNamed (instance_edges callees x marked j start calls)
calls_named callees x marked j start [] h few ps all = tt
calls_named callees x marked j start (c ∷ calls) h few ps all = all_append _ (callees.edges c.node c.args (instance_prefix x c.node j) marked start) _
    (all.0 c.args (instance_prefix x c.node j) marked start (prefix_printable x c.node j (omega arith) h ps.0))
    (calls_named callees x marked (suc j) (start + callees.size c.node) calls h (omega arith) ps.1 all.1)

module _ (program : Program) (node : Node) (callees : Callees) (table : Places) (prefix : Name) (p : ArePrintable prefix) (asserted : Bool) where
  spots_named : (left : List Spot) → AllByRecursion IsIdentifier (spot_names left)
      → AllByRecursion IsText (names (map (λ (s : Spot). record { name = s.text; ty = or_truth (type_of_name program node s.text) }) left))
  spots_named [] h = tt
  spots_named (s ∷ left) h = (identifier_text s.text h.0, spots_named left h.1)

  roots_named : (k : ℕ) (item : Item) → k < 2 ^ 64 → AllByRecursion IsIdentifier (left_of item)
      → AllByRecursion IsText (names (roots_of program node k item))
  roots_named k (Assert at e) few h = (assertion_text k few, tt)
  roots_named k (Equation at left e) few h = spots_named left h

  first_named : (roots : List Variable) → 0 < length roots → AllByRecursion IsText (names roots) → IsText (first_name roots)
  first_named [] some h = absurd (omega arith)
  first_named (r ∷ roots) some h = h.0

  some_roots : (k : ℕ) (item : Item) → IsShort program node item → 0 < length (roots_of program node k item)
  some_roots k (Assert at e) short = omega arith
  some_roots k (Equation at [] e) short = absurd short.rooted
  some_roots k (Equation at (s ∷ left) e) short = omega arith

  item_named : (next k : ℕ) (item : Item) → k < 2 ^ 64 → IsShort program node item
      → AllByRecursion IsIdentifier (left_of item) → AllByRecursion IsPlain (nodes_called (right_of item))
      → AllByRecursion (HasTexts callees) (nodes_called (right_of item))
      → EdgesNamed (item_edges program node callees table prefix asserted next k item)
  item_named next k item few short ids ps all =
      let m = item_fragment program node callees table next item in
      let roots = roots_of program node k item in
      let marked = asserted || is_assertion item in
      let texts = roots_named k item few ids in
      let x : IsText (prefix ++ first_name roots) = behind_text prefix (first_name roots) p (first_named roots (some_roots k item short) texts) in
      let counted : nodes_of m.calls ≡ nodes_called (right_of item) = calls_counted program node callees table (right_of item) (next + id_count program node item) (inner_place program node next item) in
      let own_few : length m.own < 2 ^ 63 = subst (λ c. c < 2 ^ 63) (sym (own_counted program node callees table (right_of item) (next + id_count program node item) (inner_place program node next item))) short.own in
      let calls_few : length m.calls < 2 ^ 63 = subst (λ c. c < 2 ^ 63) (sym (ap (λ (l : List Name). length l) counted) ∙ length-map m.calls (λ (c : Call). c.node)) short.called_few in
      all_append _ (cond (has_edge program node (right_of item)) [] (id_edges prefix marked roots m.values)) _ (ids_part (has_edge program node (right_of item)) marked roots m.values texts)
      (all_append _ (own_edges (prefix ++ first_name roots) marked (cond (has_edge program node (right_of item)) 0 1) m.own) _ (owns_named (prefix ++ first_name roots) marked _ m.own x (first_few (has_edge program node (right_of item)) (length m.own) own_few))
      (calls_named callees (prefix ++ first_name roots) marked 1 (inner_place program node next item) m.calls x.printable (omega (arith, calls_few)) (subst (AllByRecursion IsPlain) (sym counted) ps) (subst (AllByRecursion (HasTexts callees)) (sym counted) all)))
    where
      ids_part : (b marked : Bool) (roots : List Variable) (values : List ℕ) → AllByRecursion IsText (names roots)
          → EdgesNamed (cond b [] (id_edges prefix marked roots values))
      ids_part true marked roots values h = tt
      ids_part false marked roots values h = ids_named prefix marked roots values p h

      first_few : (b : Bool) (n : ℕ) → n < 2 ^ 63 → cond b 0 1 + n ≤ 2 ^ 64
      first_few true n h = omega (arith, h)
      first_few false n h = omega (arith, h)

  next_few : (k n : ℕ) (item : Item) → k + suc n ≤ 2 ^ 64 → next_assertion k item + n ≤ 2 ^ 64
  next_few k n (Assert at e) h = omega arith
  next_few k n (Equation at left e) h = omega arith

  items_named : (next k : ℕ) (items : List Item) → k + length items ≤ 2 ^ 64
      → AllByRecursion (IsShort program node) items → AllByRecursion IsIdentifier (lefts items)
      → AllByRecursion IsPlain (nodes_called_in items) → AllByRecursion (HasTexts callees) (nodes_called_in items)
      → EdgesNamed (items_edges program node callees table prefix asserted next k items)
  items_named next k [] few short ids ps all = tt
  items_named next k (item ∷ items) few short ids ps all = all_append _ (item_edges program node callees table prefix asserted next k item) _
      (item_named next k item (omega arith) short.0 (all_left IsIdentifier (left_of item) (lefts items) ids) (all_left IsPlain (nodes_called (right_of item)) (nodes_called_in items) ps) (all_left (HasTexts callees) (nodes_called (right_of item)) (nodes_called_in items) all))
      (items_named (next + item_size program node callees item) (next_assertion k item) items (next_few k (length items) item few) short.1 (all_right IsIdentifier (left_of item) (lefts items) ids) (all_right IsPlain (nodes_called (right_of item)) (nodes_called_in items) ps) (all_right (HasTexts callees) (nodes_called (right_of item)) (nodes_called_in items) all))

module _ (program : Program) (whole : IsExpandable program) (most : ℕ) (bound : most < 2 ^ 63) where
  texts_each : (depth : ℕ) (gs : List Name)
      → ((g : Name) → IsNested program depth g → (callees_within program depth).size g ≤ most → HasTexts (callees_within program depth) g)
      → AllByRecursion (IsNested program depth) gs → AllByRecursion (λ g. (callees_within program depth).size g ≤ most) gs → AllByRecursion (HasTexts (callees_within program depth)) gs
  texts_each depth [] f all small = tt
  texts_each depth (g ∷ gs) f all small = (f g all.0 small.0, texts_each depth gs f all.1 small.1)

  instance_texts : (depth : ℕ) (g : Name) → IsNested program depth g → (callees_within program depth).size g ≤ most
      → HasTexts (callees_within program depth) g
  instance_texts zero g nested small = absurd nested
  instance_texts (suc depth) g nested small =
      let node = nested.0 in
      let callees = callees_within program depth in
      let few : items_size program node callees node.items ≤ most = subst (λ (o : Option Node). size_over program callees o ≤ most) nested.1 small in
      let all = texts_each depth (nodes_called_in node.items) (instance_texts depth) nested.2 (items_small program node callees most node.items few) in
      let is = named program whole most bound depth g node nested.1 nested.2 few in
      let count = is.few in
      λ args prefix marked start p. subst (λ (o : Option Node). EdgesNamed (edges_over program callees o args prefix marked start)) (sym nested.1)
      (items_named program node callees (places_over program node callees args start) prefix p marked start 1 node.items (omega (arith, count)) is.items is.defined (all_plain (nodes_called_in node.items) is.called) all)

  inputs_named : (i : ℕ) (inputs : List Variable) → AllByRecursion IsIdentifier (names inputs) → EdgesNamed (input_edges i inputs)
  inputs_named i [] h = tt
  inputs_named i (v ∷ inputs) h = (identifier_text v.name h.0, inputs_named (suc i) inputs h.1)

  to_names : (edges : List Edge) → EdgesNamed edges → AllByRecursion (λ (e : Edge). IsName e.name) edges
  to_names [] h = tt
  to_names (e ∷ edges) h = (name_of e.name h.0, to_names edges h.1)

  -- Each edge of the network of a main node has a name.
  pub edges_named : (depth : ℕ) (main : Name) → IsNested program depth main
      → (callees_within program depth).size main ≤ most → (i : ℕ) (inputs : List Variable)
      → AllByRecursion IsIdentifier (names inputs) → (args : List ℕ) (start : ℕ)
      → AllByRecursion (λ (e : Edge). IsName e.name) (input_edges i inputs ++ (callees_within program depth).edges main args [] false start)
  edges_named depth main nested small i inputs ids args start =
      to_names _ (all_append _ (input_edges i inputs) _ (inputs_named i inputs ids) (instance_texts depth main nested small args [] false start tt))
