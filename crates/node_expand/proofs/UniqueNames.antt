-- The edges of a network have different names.
use Rattle.std.proofs.Common.{◌≡◌, ◌⊎◌, inl, inr, ℕ, zero, suc, ◌+◌, ◌<◌, ◌≤◌, ◌^◌, Bool, true, false, cond, ◌||◌, Option, Some, List, [], ◌∷◌, ◌++◌, length, map, drop, codes, decimal, refl, sym, ap, ◌∙◌, subst, arith, append_assoc, append-nil}
use Rattle.std.proofs.lemmas.Fmt.{decimal_injective}
use Rattle.std.proofs.lemmas.List.{append_cancel_left, length-map, map-append}
use Rattle.std.specs.List.{AllByRecursion}
use Rattle.lus_syntax.specs.declared.ast.Item.{Item}
use Rattle.lus_syntax.specs.declared.ast.Item.TheVariants.{Assert, Equation}
use Rattle.lus_syntax.specs.declared.ast.Spot.{Spot}
use Rattle.op_network.specs.declared.edge.Edge.{Edge}
use Rattle.op_network.specs.declared.value.Ty.TheVariants as type
use Rattle.lus_types.specs.Calls.{In, here, there}
use Rattle.lus_types.specs.Facts.{IsIdentifier}
use Rattle.lus_types.specs.Names.{Name, lefts, spot_names}
use Rattle.lus_types.specs.Programs.{Node, Program, Variable, names, or_truth, type_of_name}
use Rattle.lus_types.specs.ProgramTypes.{AreDistinct}
use Rattle.lus_types.proofs.FineHeaders.{in_cases}
use Rattle.lus_types.proofs.Members.{in_append, in_left, in_right}
use Rattle.node_expand.specs.Counts.{has_edge, id_count, inner_place, item_size, items_size, nodes_called, nodes_called_in, right_of}
use Rattle.node_expand.specs.Fragments.{Call, Callees, Gate, Places, nodes_of}
use Rattle.node_expand.specs.Instances.{edge_name, edges_over, id_edges, instance_edges, instance_prefix, item_edges, item_fragment, items_edges, next_assertion, own_edges, places_from, places_over, roots_of, size_over}
use Rattle.node_expand.specs.Nesting.{IsNested}
use Rattle.node_expand.specs.Network.{callees_within, input_edges, inputs_of, network_within}
use Rattle.node_expand.proofs.Counted.{calls_counted, own_counted}
use Rattle.node_expand.proofs.Lists.{all_in, all_left, all_right}
use Rattle.node_expand.proofs.Places.{apart, distinct_append, distinct_left, distinct_right}
use Rattle.node_expand.proofs.Texts.{Apart, Ends, IsPlain, all_plain, apart_assertion_word, apart_assertions, apart_back, apart_words, assertion, cut, decimal_plain, not_assert, plain}
use Rattle.node_expand.proofs.ValidFacts.{IsExpandable}
use Rattle.node_expand.proofs.ValidNames.{IsNamed, named}
use Rattle.node_expand.proofs.ValidSizes.{IsShort, items_small}

abbrev pub edge_names : List Edge → List Name
edge_names edges = map (λ (e : Edge). e.name) edges

-- a name is one of these roots behind the prefix, or goes on behind it
pub record Under (prefix : Name) (roots : List Name) (x : Name) : Type 0 where
  pub root : Name
  pub rest : List ℕ
  pub one : In root roots
  pub ends : Ends rest
  pub is : x ≡ prefix ++ (root ++ rest)

abbrev pub AllUnder : Name → List Name → List Name → Type 0
AllUnder prefix roots xs = (x : Name) → In x xs → Under prefix roots x

under_more : {prefix : Name} {x : Name} (roots more : List Name) → ((r : Name) → In r roots → In r more)
    → Under prefix roots x → Under prefix more x
under_more roots more f u = record { root = u.root; rest = u.rest; one = f u.root u.one; ends = u.ends; is = u.is }

-- the names under roots that are apart differ
under_apart : (prefix : Name) (rs ss : List Name) → ((r s : Name) → In r rs → In s ss → Apart r s) → (x : Name)
    → Under prefix rs x → Under prefix ss x → ⊥
under_apart prefix rs ss h x u v = (h u.root v.root u.one v.one).never u.rest v.rest u.ends v.ends (append_cancel_left prefix _ _ (sym u.is ∙ v.is))

-- each two of these are apart
abbrev pub AllApart : List Name → Type 0
AllApart [] = Unit {0}
AllApart (r ∷ rs) = ((s : Name) → In s rs → Apart r s) × AllApart rs

all_apart_append : (rs ss : List Name) → AllApart rs → AllApart ss → ((r s : Name) → In r rs → In s ss → Apart r s) → AllApart (rs ++ ss)
all_apart_append [] ss p q h = q
all_apart_append (r ∷ rs) ss p q h = ((λ s i. step s (in_append rs ss s i)), all_apart_append rs ss p.1 q (λ a b i j. h a b (there i) j))
  where
    step : (s : Name) → (In s rs) ⊎ (In s ss) → Apart r s
    step s (inl i) = p.0 s i
    step s (inr j) = h r s here j

apart_left : (rs ss : List Name) → AllApart (rs ++ ss) → AllApart rs
apart_left [] ss h = tt
apart_left (r ∷ rs) ss h = ((λ s i. h.0 s (in_left rs ss s i)), apart_left rs ss h.1)

apart_right : (rs ss : List Name) → AllApart (rs ++ ss) → AllApart ss
apart_right [] ss h = h
apart_right (r ∷ rs) ss h = apart_right rs ss h.1

apart_across : (rs ss : List Name) → AllApart (rs ++ ss) → (r s : Name) → In r rs → In s ss → Apart r s
apart_across [] ss h r s i j = elim i [ ]
apart_across (x ∷ rs) ss h r s here j = h.0 s (in_right rs ss s j)
apart_across (x ∷ rs) ss h r s (there i) j = apart_across rs ss h.1 r s i j

-- the names of roots that are edges `Id`
ids_names : (prefix : Name) (marked : Bool) (roots : List Variable) (values : List ℕ) (x : Name)
    → In x (edge_names (id_edges prefix marked roots values)) → (r : Name) × In r (names roots) × (x ≡ prefix ++ r)
ids_names prefix marked [] values x i = elim i [ ]
ids_names prefix marked (root ∷ roots) values x here = (root.name, here, refl)
ids_names prefix marked (root ∷ roots) values x (there i) = let r = ids_names prefix marked roots (drop 1 values) x i in (r.0, there r.1, r.2)

same_apart : (r : Name) → Apart r r → ⊥
same_apart r a = a.never [] [] tt tt refl

ids_distinct : (prefix : Name) (marked : Bool) (roots : List Variable) (values : List ℕ) → AllApart (names roots)
    → AreDistinct (edge_names (id_edges prefix marked roots values))
ids_distinct prefix marked [] values h = tt
ids_distinct prefix marked (root ∷ roots) values h = (
  (λ i.
      let r = ids_names prefix marked roots (drop 1 values) (prefix ++ root.name) i in
      let is : root.name ≡ r.0 = append_cancel_left prefix root.name r.0 r.2 in
      same_apart r.0 (subst (λ (s : Name). Apart s r.0) is (h.0 r.0 r.1))),
  ids_distinct prefix marked roots (drop 1 values) h.1,
)

-- the names of own edges
record IsNumbered (x : Name) (k n : ℕ) (y : Name) : Type 0 where
  number : ℕ
  low : k ≤ number
  high : number < k + n
  is : y ≡ edge_name x number

owns_names : (x : Name) (marked : Bool) (k : ℕ) (gates : List Gate) (y : Name)
    → In y (edge_names (own_edges x marked k gates)) → IsNumbered x k (length gates) y
owns_names x marked k [] y i = elim i [ ]
owns_names x marked k (g ∷ gates) y here = record { number = k; low = omega arith; high = omega arith; is = refl }
owns_names x marked k (g ∷ gates) y (there i) =
    let r = owns_names x marked (suc k) gates y i in
    let low = r.low in
    let high = r.high in
    record { number = r.number; low = omega arith; high = omega arith; is = r.is }

-- the end of an edge's name behind its root
abbrev ending : ℕ → List ℕ
ending zero = []
ending (suc k) = 35 ∷ decimal (suc k)

ending_ends : (k : ℕ) → Ends (ending k)
ending_ends zero = tt
ending_ends (suc k) = refl

edge_name_ending : (x : Name) (k : ℕ) → edge_name x k ≡ x ++ ending k
edge_name_ending x zero = sym (append-nil x)
edge_name_ending x (suc k) = append_assoc x (codes "#") (decimal (suc k))

ending_injective : (i j : ℕ) → i < 2 ^ 64 → j < 2 ^ 64 → ending i ≡ ending j → i ≡ j
ending_injective zero zero a b e = refl
ending_injective zero (suc j) a b e = absurd (cc e)
ending_injective (suc i) zero a b e = absurd (cc e)
ending_injective (suc i) (suc j) a b e = decimal_injective (suc i) (suc j) a b (cc e)

owns_distinct : (x : Name) (marked : Bool) (k : ℕ) (gates : List Gate) → k + length gates ≤ 2 ^ 64
    → AreDistinct (edge_names (own_edges x marked k gates))
owns_distinct x marked k [] few = tt
owns_distinct x marked k (g ∷ gates) few = (
  (λ i.
      let r = owns_names x marked (suc k) gates (edge_name x k) i in
      let low = r.low in
      let high = r.high in
      let same : k ≡ r.number = ending_injective k r.number (omega arith) (omega arith) (append_cancel_left x (ending k) (ending r.number) (sym (edge_name_ending x k) ∙ r.is ∙ edge_name_ending x r.number)) in
      omega (arith, same)),
  owns_distinct x marked (suc k) gates (omega arith),
)

-- the names of instances: behind the root, `/`, a word, `#`, a number and `.`
abbrev pub mark : Name → ℕ → List ℕ → List ℕ
mark f j rest = 47 ∷ (f ++ 35 ∷ (decimal j ++ 46 ∷ rest))

pub record InCall (x : Name) (j n : ℕ) (y : Name) : Type 0 where
  pub node : Name
  pub number : ℕ
  pub rest : List ℕ
  pub word : IsPlain node
  pub low : j ≤ number
  pub high : number < j + n
  pub is : y ≡ x ++ mark node number rest

-- every instance of the node has different names under its prefix
pub record HasNames (callees : Callees) (g : Name) : Type 0 where
  pub distinct : (args : List ℕ) (prefix : Name) (marked : Bool) (start : ℕ)
      → AreDistinct (edge_names (callees.edges g args prefix marked start))
  pub under : (args : List ℕ) (prefix : Name) (marked : Bool) (start : ℕ) (y : Name)
      → In y (edge_names (callees.edges g args prefix marked start)) → (rest : List ℕ) × (y ≡ prefix ++ rest)

prefix_mark : (x f : Name) (j : ℕ) (rest : List ℕ) → instance_prefix x f j ++ rest ≡ x ++ mark f j rest
prefix_mark x f j rest = simp append_assoc

calls_names : (callees : Callees) (x : Name) (marked : Bool) (j start : ℕ) (calls : List Call)
    → AllByRecursion (HasNames callees) (nodes_of calls) → AllByRecursion IsPlain (nodes_of calls) → (y : Name)
    → In y (edge_names (instance_edges callees x marked j start calls)) → InCall x j (length calls) y
calls_names callees x marked j start [] all ws y i = elim i [ ]
calls_names callees x marked j start (c ∷ calls) all ws y i =
    step (in_append (edge_names (callees.edges c.node c.args (instance_prefix x c.node j) marked start)) _ y (subst (In y) (map-append (λ (e : Edge). e.name) (callees.edges c.node c.args (instance_prefix x c.node j) marked start) _) i))
    (calls_names callees x marked (suc j) (start + callees.size c.node) calls all.1 ws.1 y)
  where
    step : (In y (edge_names (callees.edges c.node c.args (instance_prefix x c.node j) marked start))) ⊎ (In y (edge_names (instance_edges callees x marked (suc j) (start + callees.size c.node) calls)))
        → (In y (edge_names (instance_edges callees x marked (suc j) (start + callees.size c.node) calls)) → InCall x (suc j) (length calls) y)
        → InCall x j (suc (length calls)) y
    step (inl k) later =
        let u = all.0.under c.args (instance_prefix x c.node j) marked start y k in
        record { node = c.node; number = j; rest = u.0; word = ws.0; low = omega arith; high = omega arith; is = u.1 ∙ prefix_mark x c.node j u.0 }
    step (inr k) later =
        let r = later k in
        let low = r.low in
        let high = r.high in
        record { node = r.node; number = r.number; rest = r.rest; word = r.word; low = omega arith; high = omega arith; is = r.is }

-- the number of a call stands in the name
mark_number : (f g : Name) (i j : ℕ) (t u : List ℕ) → IsPlain f → IsPlain g → i < 2 ^ 64 → j < 2 ^ 64 → mark f i t ≡ mark g j u → i ≡ j
mark_number f g i j t u p q a b e =
    let behind : f ++ 35 ∷ (decimal i ++ 46 ∷ t) ≡ g ++ 35 ∷ (decimal j ++ 46 ∷ u) = cc e in
    let numbers : decimal i ++ 46 ∷ t ≡ decimal j ++ 46 ∷ u = let c = (cut f g (35 ∷ (decimal i ++ 46 ∷ t)) (35 ∷ (decimal j ++ 46 ∷ u)) p q refl refl behind).1 in cc c in
    decimal_injective i j a b (cut (decimal i) (decimal j) (46 ∷ t) (46 ∷ u) (decimal_plain i a) (decimal_plain j b) refl refl numbers).0

calls_distinct : (callees : Callees) (x : Name) (marked : Bool) (j start : ℕ) (calls : List Call)
    → AllByRecursion (HasNames callees) (nodes_of calls) → AllByRecursion IsPlain (nodes_of calls)
    → j + length calls ≤ 2 ^ 64 → AreDistinct (edge_names (instance_edges callees x marked j start calls))
calls_distinct callees x marked j start [] all ws few = tt
calls_distinct callees x marked j start (c ∷ calls) all ws few =
    subst AreDistinct (sym (map-append (λ (e : Edge). e.name) (callees.edges c.node c.args (instance_prefix x c.node j) marked start) _))
    (distinct_append _ _ (all.0.distinct c.args (instance_prefix x c.node j) marked start) (calls_distinct callees x marked (suc j) (start + callees.size c.node) calls all.1 ws.1 (omega arith))
    (λ y i k.
    let u = all.0.under c.args (instance_prefix x c.node j) marked start y i in
    let r = calls_names callees x marked (suc j) (start + callees.size c.node) calls all.1 ws.1 y k in
    let low = r.low in
    let high = r.high in
    let same : mark c.node j u.0 ≡ mark r.node r.number r.rest = append_cancel_left x _ _ (sym (prefix_mark x c.node j u.0) ∙ sym u.1 ∙ r.is) in
    let n : j ≡ r.number = mark_number c.node r.node j r.number u.0 r.rest ws.0 r.word (omega arith) (omega arith) same in
    omega arith))

-- one item, whose first root is this
module _ (callees : Callees) (prefix : Name) (marked own : Bool) (root : Variable) (more : List Variable) (values : List ℕ) (gates : List Gate) (start : ℕ) (calls : List Call)
    (all : AllByRecursion (HasNames callees) (nodes_of calls)) (ws : AllByRecursion IsPlain (nodes_of calls)) where
  abbrev ids : List Edge
  ids = cond own [] (id_edges prefix marked (root ∷ more) values)

  abbrev owns : List Edge
  owns = own_edges (prefix ++ root.name) marked (cond own 0 1) gates

  abbrev inners : List Edge
  inners = instance_edges callees (prefix ++ root.name) marked 1 start calls

  in_ids : (b : Bool) (y : Name) → In y (edge_names (cond b [] (id_edges prefix marked (root ∷ more) values)))
      → (b ≡ false) × ((r : Name) × In r (names (root ∷ more)) × (y ≡ prefix ++ r))
  in_ids true y i = elim i [ ]
  in_ids false y i = (refl, ids_names prefix marked (root ∷ more) values y i)

  under_rest : (y : Name) (t : List ℕ) → Ends t → y ≡ (prefix ++ root.name) ++ t → Under prefix (names (root ∷ more)) y
  under_rest y t ends is = record { root = root.name; rest = t; one = here; ends = ends; is = is ∙ append_assoc prefix root.name t }

  one_under : (y : Name) → In y (edge_names (ids ++ (owns ++ inners))) → Under prefix (names (root ∷ more)) y
  one_under y i = step (in_append (edge_names ids) _ y (subst (In y) (map-append (λ (e : Edge). e.name) ids _) i))
    where
      behind : (In y (edge_names owns)) ⊎ (In y (edge_names inners)) → Under prefix (names (root ∷ more)) y
      behind (inl k) = let r = owns_names (prefix ++ root.name) marked (cond own 0 1) gates y k in under_rest y (ending r.number) (ending_ends r.number) (r.is ∙ edge_name_ending (prefix ++ root.name) r.number)
      behind (inr k) = let r = calls_names callees (prefix ++ root.name) marked 1 start calls all ws y k in under_rest y (mark r.node r.number r.rest) refl r.is

      step : (In y (edge_names ids)) ⊎ (In y (edge_names (owns ++ inners))) → Under prefix (names (root ∷ more)) y
      step (inl k) = let r = (in_ids own y k).1 in record { root = r.0; rest = []; one = r.1; ends = tt; is = r.2 ∙ ap (λ l. prefix ++ l) (sym (append-nil r.0)) }
      step (inr k) = behind (in_append (edge_names owns) (edge_names inners) y (subst (In y) (map-append (λ (e : Edge). e.name) owns inners) k))

  -- a root and what goes on behind the first root differ
  root_behind : AllApart (names (root ∷ more)) → (r : Name) → In r (names (root ∷ more)) → (b : ℕ) (t : List ℕ)
      → Ends (b ∷ t) → prefix ++ r ≡ (prefix ++ root.name) ++ b ∷ t → ⊥
  root_behind apart _ here b t ends e =
      let f : root.name ++ [] ≡ root.name ++ b ∷ t = append-nil root.name ∙ append_cancel_left prefix root.name (root.name ++ b ∷ t) (e ∙ append_assoc prefix root.name (b ∷ t)) in
      let g : [] ≡ b ∷ t = append_cancel_left root.name [] (b ∷ t) f in
      absurd (cc g)
  root_behind apart r (there i) b t ends e =
      (apart.0 r i).never (b ∷ t) [] ends tt (sym (append_cancel_left prefix r (root.name ++ b ∷ t) (e ∙ append_assoc prefix root.name (b ∷ t))) ∙ sym (append-nil r))

  one_distinct : AllApart (names (root ∷ more)) → length gates < 2 ^ 63 → length calls < 2 ^ 63
      → AreDistinct (edge_names (ids ++ (owns ++ inners)))
  one_distinct roots few_gates few_calls =
      subst AreDistinct (sym (map-append (λ (e : Edge). e.name) ids _ ∙ ap (λ l. edge_names ids ++ l) (map-append (λ (e : Edge). e.name) owns inners)))
      (distinct_append (edge_names ids) _ (ids_part own)
      (distinct_append (edge_names owns) (edge_names inners) (owns_distinct (prefix ++ root.name) marked (cond own 0 1) gates (first_few own)) (calls_distinct callees (prefix ++ root.name) marked 1 start calls all ws (omega (arith, few_calls)))
      (λ y i j.
      let r = owns_names (prefix ++ root.name) marked (cond own 0 1) gates y i in
      let s = calls_names callees (prefix ++ root.name) marked 1 start calls all ws y j in
      signs r.number s.node s.number s.rest (append_cancel_left (prefix ++ root.name) _ _ (sym (r.is ∙ edge_name_ending (prefix ++ root.name) r.number) ∙ s.is))))
      (λ y i j. roots_differ own refl y i (in_append (edge_names owns) (edge_names inners) y j)))
    where
      ids_part : (b : Bool) → AreDistinct (edge_names (cond b [] (id_edges prefix marked (root ∷ more) values)))
      ids_part true = tt
      ids_part false = ids_distinct prefix marked (root ∷ more) values roots

      first_few : (b : Bool) → cond b 0 1 + length gates ≤ 2 ^ 64
      first_few true = omega (arith, few_gates)
      first_few false = omega (arith, few_gates)

      signs : (n : ℕ) (f : Name) (m : ℕ) (t : List ℕ) → ending n ≡ mark f m t → ⊥
      signs zero f m t e = cc e
      signs (suc n) f m t e = let a : ℕ = 35 in let b : ℕ = 47 in let g : a ≡ b = cc e in omega (arith, g)

      later : (n : ℕ) → 1 ≤ n → (r : Name) → In r (names (root ∷ more)) → prefix ++ r ≡ (prefix ++ root.name) ++ ending n → ⊥
      later zero low r i e = omega (arith, low)
      later (suc n) low r i e = root_behind roots r i 35 (decimal (suc n)) refl e

      roots_differ : (b : Bool) → own ≡ b → (y : Name) → In y (edge_names ids) → (In y (edge_names owns)) ⊎ (In y (edge_names inners)) → ⊥
      roots_differ b is y i (inl j) =
          let r = in_ids own y i in
          let s = owns_names (prefix ++ root.name) marked (cond own 0 1) gates y j in
          later s.number (subst (λ c. c ≤ s.number) (ap (λ b. cond b 0 1) r.0) s.low) r.1.0 r.1.1 (sym r.1.2 ∙ s.is ∙ edge_name_ending (prefix ++ root.name) s.number)
      roots_differ b is y i (inr j) =
          let r = (in_ids own y i).1 in
          let s = calls_names callees (prefix ++ root.name) marked 1 start calls all ws y j in
          root_behind roots r.0 r.1 47 (s.node ++ 35 ∷ (decimal s.number ++ 46 ∷ s.rest)) refl (sym r.2 ∙ s.is)

-- the names of the items' roots
abbrev pub root_names : Program → Node → ℕ → List Item → List Name
root_names program node k [] = []
root_names program node k (item ∷ items) = names (roots_of program node k item) ++ root_names program node (next_assertion k item) items

module _ (program : Program) (node : Node) (callees : Callees) (table : Places) where
  item_under : (prefix : Name) (asserted : Bool) (next k : ℕ) (item : Item) → IsShort program node item
      → AllByRecursion (HasNames callees) (nodes_called (right_of item))
      → AllByRecursion IsPlain (nodes_called (right_of item)) → (y : Name)
      → In y (edge_names (item_edges program node callees table prefix asserted next k item))
      → Under prefix (names (roots_of program node k item)) y
  item_under prefix asserted next k (Assert at e) short all ws y i =
      let item : Item = Assert at e in
      let m = item_fragment program node callees table next item in
      let counted : nodes_of m.calls ≡ nodes_called e = calls_counted program node callees table e (next + id_count program node item) (inner_place program node next item) in
      one_under callees prefix (asserted || true) (has_edge program node e) (record { name = assertion k; ty = type.Truth }) ([]) m.values m.own (inner_place program node next item) m.calls (subst (AllByRecursion (HasNames callees)) (sym counted) all) (subst (AllByRecursion IsPlain) (sym counted) ws) y i
  item_under prefix asserted next k (Equation at [] e) short all ws y i = absurd short.rooted
  item_under prefix asserted next k (Equation at (s ∷ left) e) short all ws y i =
      let item : Item = Equation at (s ∷ left) e in
      let m = item_fragment program node callees table next item in
      let counted : nodes_of m.calls ≡ nodes_called e = calls_counted program node callees table e (next + id_count program node item) (inner_place program node next item) in
      one_under callees prefix (asserted || false) (has_edge program node e) (record { name = s.text; ty = or_truth (type_of_name program node s.text) }) (map (λ (s : Spot). record { name = s.text; ty = or_truth (type_of_name program node s.text) }) left) m.values m.own (inner_place program node next item) m.calls (subst (AllByRecursion (HasNames callees)) (sym counted) all) (subst (AllByRecursion IsPlain) (sym counted) ws) y i

  item_distinct : (prefix : Name) (asserted : Bool) (next k : ℕ) (item : Item) → IsShort program node item
      → AllByRecursion (HasNames callees) (nodes_called (right_of item))
      → AllByRecursion IsPlain (nodes_called (right_of item)) → AllApart (names (roots_of program node k item))
      → AreDistinct (edge_names (item_edges program node callees table prefix asserted next k item))
  item_distinct prefix asserted next k (Assert at e) short all ws roots =
      let item : Item = Assert at e in
      let m = item_fragment program node callees table next item in
      let counted : nodes_of m.calls ≡ nodes_called e = calls_counted program node callees table e (next + id_count program node item) (inner_place program node next item) in
      one_distinct callees prefix (asserted || true) (has_edge program node e) (record { name = assertion k; ty = type.Truth }) ([]) m.values m.own (inner_place program node next item) m.calls (subst (AllByRecursion (HasNames callees)) (sym counted) all) (subst (AllByRecursion IsPlain) (sym counted) ws) roots
      (subst (λ c. c < 2 ^ 63) (sym (own_counted program node callees table e (next + id_count program node item) (inner_place program node next item))) short.own)
      (subst (λ c. c < 2 ^ 63) (sym (ap (λ (l : List Name). length l) counted) ∙ length-map m.calls (λ (c : Call). c.node)) short.called_few)
  item_distinct prefix asserted next k (Equation at [] e) short all ws roots = absurd short.rooted
  item_distinct prefix asserted next k (Equation at (s ∷ left) e) short all ws roots =
      let item : Item = Equation at (s ∷ left) e in
      let m = item_fragment program node callees table next item in
      let counted : nodes_of m.calls ≡ nodes_called e = calls_counted program node callees table e (next + id_count program node item) (inner_place program node next item) in
      one_distinct callees prefix (asserted || false) (has_edge program node e) (record { name = s.text; ty = or_truth (type_of_name program node s.text) }) (map (λ (s : Spot). record { name = s.text; ty = or_truth (type_of_name program node s.text) }) left) m.values m.own (inner_place program node next item) m.calls (subst (AllByRecursion (HasNames callees)) (sym counted) all) (subst (AllByRecursion IsPlain) (sym counted) ws) roots
      (subst (λ c. c < 2 ^ 63) (sym (own_counted program node callees table e (next + id_count program node item) (inner_place program node next item))) short.own)
      (subst (λ c. c < 2 ^ 63) (sym (ap (λ (l : List Name). length l) counted) ∙ length-map m.calls (λ (c : Call). c.node)) short.called_few)

  items_under : (prefix : Name) (asserted : Bool) (next k : ℕ) (items : List Item)
      → AllByRecursion (IsShort program node) items → AllByRecursion (HasNames callees) (nodes_called_in items)
      → AllByRecursion IsPlain (nodes_called_in items) → (y : Name)
      → In y (edge_names (items_edges program node callees table prefix asserted next k items))
      → Under prefix (root_names program node k items) y
  items_under prefix asserted next k [] short all ws y i = elim i [ ]
  items_under prefix asserted next k (item ∷ items) short all ws y i =
      step (in_append (edge_names (item_edges program node callees table prefix asserted next k item)) _ y (subst (In y) (map-append (λ (e : Edge). e.name) (item_edges program node callees table prefix asserted next k item) _) i))
      (items_under prefix asserted (next + item_size program node callees item) (next_assertion k item) items short.1 (all_right (HasNames callees) (nodes_called (right_of item)) _ all) (all_right IsPlain (nodes_called (right_of item)) _ ws) y)
    where
      step : (In y (edge_names (item_edges program node callees table prefix asserted next k item))) ⊎ (In y (edge_names (items_edges program node callees table prefix asserted (next + item_size program node callees item) (next_assertion k item) items)))
          → (In y (edge_names (items_edges program node callees table prefix asserted (next + item_size program node callees item) (next_assertion k item) items)) → Under prefix (root_names program node (next_assertion k item) items) y) → Under prefix (root_names program node k (item ∷ items)) y
      step (inl j) later = under_more (names (roots_of program node k item)) (root_names program node k (item ∷ items)) (λ r m. in_left (names (roots_of program node k item)) _ r m) (item_under prefix asserted next k item short.0 (all_left (HasNames callees) (nodes_called (right_of item)) _ all) (all_left IsPlain (nodes_called (right_of item)) _ ws) y j)
      step (inr j) later = under_more (root_names program node (next_assertion k item) items) (root_names program node k (item ∷ items)) (λ r m. in_right (names (roots_of program node k item)) _ r m) (later j)

  items_distinct : (prefix : Name) (asserted : Bool) (next k : ℕ) (items : List Item)
      → AllByRecursion (IsShort program node) items → AllByRecursion (HasNames callees) (nodes_called_in items)
      → AllByRecursion IsPlain (nodes_called_in items) → AllApart (root_names program node k items)
      → AreDistinct (edge_names (items_edges program node callees table prefix asserted next k items))
  items_distinct prefix asserted next k [] short all ws apart = tt
  items_distinct prefix asserted next k (item ∷ items) short all ws apart =
      let one_all = all_left (HasNames callees) (nodes_called (right_of item)) _ all in
      let one_ws = all_left IsPlain (nodes_called (right_of item)) _ ws in
      let more_all = all_right (HasNames callees) (nodes_called (right_of item)) _ all in
      let more_ws = all_right IsPlain (nodes_called (right_of item)) _ ws in
      subst AreDistinct (sym (map-append (λ (e : Edge). e.name) (item_edges program node callees table prefix asserted next k item) _))
      (distinct_append _ _
      (item_distinct prefix asserted next k item short.0 one_all one_ws (apart_left (names (roots_of program node k item)) _ apart))
      (items_distinct prefix asserted (next + item_size program node callees item) (next_assertion k item) items short.1 more_all more_ws (apart_right (names (roots_of program node k item)) _ apart))
      (λ y i j. under_apart prefix (names (roots_of program node k item)) (root_names program node (next_assertion k item) items) (apart_across (names (roots_of program node k item)) _ apart) y
      (item_under prefix asserted next k item short.0 one_all one_ws y i)
      (items_under prefix asserted (next + item_size program node callees item) (next_assertion k item) items short.1 more_all more_ws y j)))

-- a root is a defined variable or an assertion
root_is : (program : Program) (node : Node) (k : ℕ) (items : List Item) (r : Name)
    → In r (root_names program node k items)
    → (In r (lefts items)) ⊎ ((j : ℕ) × (k ≤ j) × (j < k + length items) × (r ≡ assertion j))
root_is program node k [] r i = elim i [ ]
root_is program node k (Assert at e ∷ items) r i = step (in_cases i) (root_is program node (suc k) items r)
  where
    step : (r ≡ assertion k) ⊎ (In r (root_names program node (suc k) items))
        → (In r (root_names program node (suc k) items) → (In r (lefts items)) ⊎ ((j : ℕ) × (suc k ≤ j) × (j < suc k + length items) × (r ≡ assertion j)))
        → (In r (lefts items)) ⊎ ((j : ℕ) × (k ≤ j) × (j < k + suc (length items)) × (r ≡ assertion j))
    step (inl is) later = inr (k, omega arith, omega arith, is)
    step (inr j) later = go (later j)
      where
        go : (In r (lefts items)) ⊎ ((j : ℕ) × (suc k ≤ j) × (j < suc k + length items) × (r ≡ assertion j))
            → (In r (lefts items)) ⊎ ((j : ℕ) × (k ≤ j) × (j < k + suc (length items)) × (r ≡ assertion j))
        go (inl m) = inl m
        go (inr t) = inr (t.0, omega (arith, t.1), omega (arith, t.2), t.3)
root_is program node k (Equation at left e ∷ items) r i = step (in_append (spot_names left) _ r (subst (λ l. In r (l ++ root_names program node k items)) (named left) i)) (root_is program node k items r)
  where
    named : (spots : List Spot) → names (roots_of program node k (Equation at spots e)) ≡ spot_names spots
    named [] = refl
    named (s ∷ spots) = ap (λ l. s.text ∷ l) (named spots)

    step : (In r (spot_names left)) ⊎ (In r (root_names program node k items))
        → (In r (root_names program node k items) → (In r (lefts items)) ⊎ ((j : ℕ) × (k ≤ j) × (j < k + length items) × (r ≡ assertion j)))
        → (In r (spot_names left ++ lefts items)) ⊎ ((j : ℕ) × (k ≤ j) × (j < k + suc (length items)) × (r ≡ assertion j))
    step (inl j) later = inl (in_left (spot_names left) (lefts items) r j)
    step (inr j) later = go (later j)
      where
        go : (In r (lefts items)) ⊎ ((j : ℕ) × (k ≤ j) × (j < k + length items) × (r ≡ assertion j))
            → (In r (spot_names left ++ lefts items)) ⊎ ((j : ℕ) × (k ≤ j) × (j < k + suc (length items)) × (r ≡ assertion j))
        go (inl m) = inl (in_right (spot_names left) (lefts items) r m)
        go (inr t) = inr (t.0, t.1, omega (arith, t.2), t.3)

-- a word is apart from what is defined elsewhere
word_apart : (program : Program) (node : Node) (k : ℕ) (items : List Item) (x : Name) → IsIdentifier x
    → AllByRecursion IsIdentifier (lefts items) → (In x (lefts items) → ⊥) → (s : Name)
    → In s (root_names program node k items) → Apart x s
word_apart program node k items x id ids other s j = step (root_is program node k items s j)
  where
    step : (In s (lefts items)) ⊎ ((i : ℕ) × (k ≤ i) × (i < k + length items) × (s ≡ assertion i)) → Apart x s
    step (inl m) = apart_words x s (plain x id) (plain s (all_in IsIdentifier (lefts items) s ids m)) (λ same. other (subst (λ y. In y (lefts items)) (sym same) m))
    step (inr t) = subst (Apart x) (sym t.3) (apart_back (apart_assertion_word t.0 x (plain x id) (not_assert x id)))

words_apart : (xs ys : List Name) → AreDistinct (xs ++ ys) → AllByRecursion IsIdentifier xs → AllApart xs
words_apart [] ys d known = tt
words_apart (x ∷ xs) ys d known = ((λ s j. apart_words x s (plain x known.0) (plain s (all_in IsIdentifier xs s known.1 j)) (λ same. d.0 (in_left xs ys x (subst (λ y. In y xs) (sym same) j)))), words_apart xs ys d.1 known.1)

named_left : (program : Program) (node : Node) (k at : ℕ) (e : _) (spots : List Spot)
    → names (roots_of program node k (Equation at spots e)) ≡ spot_names spots
named_left program node k at e [] = refl
named_left program node k at e (s ∷ spots) = ap (λ l. s.text ∷ l) (named_left program node k at e spots)

roots_apart : (program : Program) (node : Node) (k : ℕ) (items : List Item) → AreDistinct (lefts items)
    → AllByRecursion IsIdentifier (lefts items) → k + length items ≤ 2 ^ 64 → AllApart (root_names program node k items)
roots_apart program node k [] d ids few = tt
roots_apart program node k (Assert at e ∷ items) d ids few = (
  (λ s j. step s (root_is program node (suc k) items s j)),
  roots_apart program node (suc k) items d ids (omega (arith, few)),
)
  where
    step : (s : Name) → (In s (lefts items)) ⊎ ((i : ℕ) × (suc k ≤ i) × (i < suc k + length items) × (s ≡ assertion i))
        → Apart (assertion k) s
    step s (inl m) = let id = all_in IsIdentifier (lefts items) s ids m in apart_assertion_word k s (plain s id) (not_assert s id)
    step s (inr t) =
        let low = t.1 in
        let high = t.2 in
        subst (Apart (assertion k)) (sym t.3) (apart_assertions k t.0 (omega (arith, few)) (omega (arith, few, high)) (λ same. omega (arith, same, low)))
roots_apart program node k (Equation at left e ∷ items) d ids few =
    subst (λ l. AllApart (l ++ root_names program node k items)) (sym (named_left program node k at e left))
    (all_apart_append (spot_names left) (root_names program node k items)
    (words_apart (spot_names left) (lefts items) d (all_left IsIdentifier (spot_names left) (lefts items) ids))
    (roots_apart program node k items (distinct_right (spot_names left) (lefts items) d) (all_right IsIdentifier (spot_names left) (lefts items) ids) (omega (arith, few)))
    (λ r s i j. word_apart program node k items r (all_in IsIdentifier (spot_names left) r (all_left IsIdentifier (spot_names left) (lefts items) ids) i) (all_right IsIdentifier (spot_names left) (lefts items) ids) (λ m. apart (spot_names left) (lefts items) r d i m) s j))

-- a node over nodes with different names
module _ (program : Program) (callees : Callees) (node : Node) (is : IsNamed program node) (all : AllByRecursion (HasNames callees) (nodes_called_in node.items)) (args : List ℕ) (prefix : Name) (marked : Bool) (start : ℕ) where
  node_distinct : AreDistinct (edge_names (edges_over program callees (Some node) args prefix marked start))
  node_distinct =
      items_distinct program node callees (places_over program node callees args start) prefix marked start 1 node.items is.items all (all_plain _ is.called)
      (roots_apart program node 1 node.items (distinct_right (names node.inputs) (lefts node.items) is.once) is.defined (let few = is.few in omega (arith, few)))

  node_under : (y : Name) → In y (edge_names (edges_over program callees (Some node) args prefix marked start))
      → Under prefix (root_names program node 1 node.items) y
  node_under = items_under program node callees (places_over program node callees args start) prefix marked start 1 node.items is.items all (all_plain _ is.called)

module _ (program : Program) (whole : IsExpandable program) (most : ℕ) (bound : most < 2 ^ 63) where
  names_each : (depth : ℕ) (gs : List Name)
      → ((g : Name) → IsNested program depth g → (callees_within program depth).size g ≤ most → HasNames (callees_within program depth) g)
      → AllByRecursion (IsNested program depth) gs → AllByRecursion (λ g. (callees_within program depth).size g ≤ most) gs → AllByRecursion (HasNames (callees_within program depth)) gs
  names_each depth [] f all small = tt
  names_each depth (g ∷ gs) f all small = (f g all.0 small.0, names_each depth gs f all.1 small.1)

  -- the instances of a node, whose edges are not too many, have different names
  pub instance_named : (depth : ℕ) (g : Name) → IsNested program depth g → (callees_within program depth).size g ≤ most
      → HasNames (callees_within program depth) g
  instance_named zero g nested small = absurd nested
  instance_named (suc depth) g nested small =
      let node = nested.0 in
      let callees = callees_within program depth in
      let few : items_size program node callees node.items ≤ most = subst (λ (o : Option Node). size_over program callees o ≤ most) nested.1 small in
      let all = names_each depth (nodes_called_in node.items) (instance_named depth) nested.2 (items_small program node callees most node.items few) in
      let is = named program whole most bound depth g node nested.1 nested.2 few in
      record {
        distinct = λ args prefix marked start. subst (λ (o : Option Node). AreDistinct (edge_names (edges_over program callees o args prefix marked start))) (sym nested.1)
            (node_distinct program callees node is all args prefix marked start);
        under = λ args prefix marked start y. subst (λ (o : Option Node). In y (edge_names (edges_over program callees o args prefix marked start)) → (rest : List ℕ) × (y ≡ prefix ++ rest)) (sym nested.1)
            (λ i. let u = node_under program callees node is all args prefix marked start y i in (u.root ++ u.rest, u.is));
      }

  inputs_names : (i : ℕ) (inputs : List Variable) → edge_names (input_edges i inputs) ≡ names inputs
  inputs_names i [] = refl
  inputs_names i (v ∷ inputs) = ap (λ l. v.name ∷ l) (inputs_names (suc i) inputs)

  -- The edges of a program's network have different names.
  pub names_apart : (depth : ℕ) (main : Name) → IsNested program depth main
      → (callees_within program depth).size main ≤ most
      → AreDistinct (edge_names (network_within depth program main).edges)
  names_apart zero main nested small = absurd nested
  names_apart (suc depth) main nested small =
      subst (λ (o : Option Node). AreDistinct (edge_names (input_edges 0 (inputs_of o) ++ edges_over program callees o (places_from 0 (inputs_of o)) [] false (length (inputs_of o))))) (sym nested.1)
      (subst AreDistinct (sym (map-append (λ (e : Edge). e.name) (input_edges 0 node.inputs) _ ∙ ap (λ l. l ++ edge_names (edges_over program callees (Some node) (places_from 0 node.inputs) [] false (length node.inputs))) (inputs_names 0 node.inputs)))
      (distinct_append (names node.inputs) _ (distinct_left (names node.inputs) (lefts node.items) is.once) (node_distinct program callees node is all (places_from 0 node.inputs) [] false (length node.inputs))
      (λ y i j.
      let u = node_under program callees node is all (places_from 0 node.inputs) [] false (length node.inputs) y j in
      (word_apart program node 1 node.items y (all_in IsIdentifier (names node.inputs) y is.read i) is.defined (λ m. apart (names node.inputs) (lefts node.items) y is.once i m) u.root u.one).never [] u.rest tt u.ends (append-nil y ∙ u.is))))
    where
      callees : Callees
      callees = callees_within program depth

      node : Node
      node = nested.0

      few : items_size program nested.0 (callees_within program depth) nested.0.items ≤ most
      few = subst (λ (o : Option Node). size_over program (callees_within program depth) o ≤ most) nested.1 small

      is : IsNamed program nested.0
      is = named program whole most bound depth main nested.0 nested.1 nested.2 few

      all : AllByRecursion (HasNames (callees_within program depth)) (nodes_called_in nested.0.items)
      all = names_each depth (nodes_called_in nested.0.items) (instance_named depth) nested.2 (items_small program nested.0 (callees_within program depth) most nested.0.items few)
