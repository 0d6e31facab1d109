-- The names that the names of a node's edges are made of.
use Rattle.std.proofs.Common.{◌≡◌, ℕ, zero, suc, ◌<◌, ◌≤◌, ◌^◌, Some, List, [], ◌∷◌, ◌++◌, length, sym, subst, arith}
use Rattle.std.proofs.lemmas.List.{map-append}
use Rattle.std.specs.List.{AllByRecursion}
use Rattle.std.specs.Prelude.{All}
use Rattle.lus_types.specs.Calls.{In}
use Rattle.lus_types.specs.Facts.{IsIdentifier}
use Rattle.lus_types.specs.Names.{Name, lefts}
use Rattle.lus_types.specs.Programs.{Node, Program, Variable, names, type_of_name, variables}
use Rattle.lus_types.specs.ProgramTypes.{AreDistinct}
use Rattle.lus_types.proofs.Members.{get_in, in_left, in_right}
use Rattle.node_expand.specs.Counts.{items_size, nodes_called_in}
use Rattle.node_expand.specs.Nesting.{IsNested}
use Rattle.node_expand.specs.Network.{callees_within}
use Rattle.node_expand.proofs.Lists.{all_from_in}
use Rattle.node_expand.proofs.ValidFacts.{IsExpandable, all_rooted}
use Rattle.node_expand.proofs.ValidSizes.{IsShort, items_few, items_short, some_sizes}
use Rattle.node_expand.proofs.WellFormed.{defining}

pub record IsNamed (program : Program) (node : Node) : Type 0 where
  pub read : AllByRecursion IsIdentifier (names node.inputs)
  pub defined : AllByRecursion IsIdentifier (lefts node.items)
  pub called : AllByRecursion IsIdentifier (nodes_called_in node.items)
  pub items : AllByRecursion (IsShort program node) node.items
  pub few : length node.items < 2 ^ 63
  pub once : AreDistinct (names node.inputs ++ lefts node.items)

pub all_at : {A : Type 0} (P : A → Type 0) (xs : List A) → All P xs → (x : A) → In x xs → P x
all_at P xs all x i = let w = get_in xs x x i in subst P w.2 (all w.0 x w.1)

module _ (program : Program) (whole : IsExpandable program) where
  -- a called name is an identifier
  called_names : (depth : ℕ) (gs : List Name) → AllByRecursion (IsNested program depth) gs → AllByRecursion IsIdentifier gs
  called_names depth [] all = tt
  called_names zero (g ∷ gs) all = absurd all.0
  called_names (suc depth) (g ∷ gs) all =
      let is = whole.identifiers.of_nodes g all.0.0 all.0.1 in
      (subst IsIdentifier is.meant is.own, called_names (suc depth) gs all.1)

  variable_names : (g : Name) (node : Node) → program.node g ≡ Some node → (x : Name) → In x (names (variables node)) → IsIdentifier x
  variable_names g node h = all_at IsIdentifier (names (variables node)) (whole.identifiers.of_nodes g node h).of_variables

  -- the inputs' names are identifiers
  pub input_names : (g : Name) (node : Node) → program.node g ≡ Some node → AllByRecursion IsIdentifier (names node.inputs)
  input_names g node h =
      let parts : names (variables node) ≡ names node.inputs ++ names (node.outputs ++ node.locals) = map-append (λ (v : Variable). v.name) node.inputs (node.outputs ++ node.locals) in
      all_from_in IsIdentifier (names node.inputs) (λ x i. variable_names g node h x (subst (In x) (sym parts) (in_left (names node.inputs) _ x i)))

  -- a node's names are identifiers, and what is counted in the names of its edges is as `decimal` writes it
  pub named : (most : ℕ) → most < 2 ^ 63 → (depth : ℕ) (g : Name) (node : Node) → program.node g ≡ Some node
      → AllByRecursion (IsNested program depth) (nodes_called_in node.items)
      → items_size program node (callees_within program depth) node.items ≤ most → IsNamed program node
  named most bound depth g node h nested few =
      let typed = whole.typed.nodes g node h in
      let is = defining program node typed in
      let roots = all_rooted program whole (type_of_name program node) node.items is.items in
      let parts : names (variables node) ≡ names node.inputs ++ names (node.outputs ++ node.locals) = map-append (λ (v : Variable). v.name) node.inputs (node.outputs ++ node.locals) in
      let identifier : (x : Name) → In x (names node.inputs ++ names (node.outputs ++ node.locals)) → IsIdentifier x = λ x i. variable_names g node h x (subst (In x) (sym parts) i) in
      let count = items_few program node (callees_within program depth) node.items roots in
      record {
        read = input_names g node h;
        defined = all_from_in IsIdentifier (lefts node.items) (λ x i. identifier x (in_right (names node.inputs) _ x (typed.defines x i)));
        called = called_names depth (nodes_called_in node.items) nested;
        items = items_short program node (callees_within program depth) most bound node.items roots (some_sizes program whole depth (nodes_called_in node.items) nested) few;
        few = omega (arith, count, few, bound);
        once = is.once;
      }
