-- What a typed node makes sure of, as the walks over its items need it.
use Rattle.std.proofs.Common.{Some, inl, inr, subst, sym, ◌++◌, ◌≡◌}
use Rattle.std.proofs.lemmas.List.{map-append}
use Rattle.std.specs.List.{AllByRecursion}
use Rattle.lus_types.proofs.Members.{in_append, in_left, in_right}
use Rattle.lus_types.specs.Calls.{In}
use Rattle.lus_types.specs.Names.{Name, lefts}
use Rattle.lus_types.specs.ProgramTypes.{AreDistinct, IsTypedItem, IsTypedNode, IsTypedProgram}
use Rattle.lus_types.specs.Programs.{Node, Program, names, type_in, type_of_name, variables}
use Rattle.op_network.specs.declared.value.Ty.{Ty}
use Rattle.node_expand.proofs.Lists.{all_from_in}
use Rattle.node_expand.proofs.Places.{apart, distinct_append, distinct_left, variable_in}

-- each item is typed; no name is defined twice, and no input is; each output has an equation; each variable is an input
-- or has an equation
pub record IsDefining (program : Program) (node : Node) : Type 0 where
  pub items : AllByRecursion (IsTypedItem (type_of_name program node) program.node) node.items
  pub once : AreDistinct (names node.inputs ++ lefts node.items)
  pub outputs : AllByRecursion (λ x. In x (lefts node.items)) (names node.outputs)
  pub defined : (x : Name) (ty : Ty) → type_in node x ≡ Some ty → In x (names node.inputs ++ lefts node.items)

pub defining : (program : Program) (node : Node) → IsTypedNode program node → IsDefining program node
defining program node typed =
    let parts : names (variables node) ≡ names node.inputs ++ names (node.outputs ++ node.locals) = map-append (λ v. v.name) node.inputs (node.outputs ++ node.locals) in
    let distinct : AreDistinct (names node.inputs ++ names (node.outputs ++ node.locals)) = subst AreDistinct parts typed.distinct in
    record {
      items = all_from_in (IsTypedItem (type_of_name program node) program.node) node.items typed.items;
      once = distinct_append (names node.inputs) (lefts node.items) (distinct_left (names node.inputs) _ distinct) typed.once
          (λ x i j. apart (names node.inputs) (names (node.outputs ++ node.locals)) x distinct i (typed.defines x j));
      outputs = all_from_in (λ x. In x (lefts node.items)) (names node.outputs)
          (λ x i. typed.defined x (subst (In x) (sym (map-append (λ v. v.name) node.outputs node.locals)) (in_left (names node.outputs) (names node.locals) x i)));
      defined = λ x ty e.
          elim (in_append (names node.inputs) (names (node.outputs ++ node.locals)) x (subst (In x) parts (variable_in node x ty e))) [
            | inl i ↦ in_left (names node.inputs) (lefts node.items) x i
            | inr j ↦ in_right (names node.inputs) (lefts node.items) x (typed.defined x j)
          ];
    }

-- each node of the program does
pub record IsWellFormed (program : Program) : Type 0 where
  pub nodes : (g : Name) (node : Node) → program.node g ≡ Some node → IsDefining program node

pub well_formed : (program : Program) → IsTypedProgram program → IsWellFormed program
well_formed program typed = record { nodes = λ g node found. defining program node (typed.nodes g node found) }
