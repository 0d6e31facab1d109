-- The roots of items and the variables of groups, as code's lists have them.
use Rattle.std.specs.Prelude.{ℕ, List, [], ◌∷◌, ◌++◌, map, Bool, true, codes, decimal}
use Rattle.std.specs.List.{flat_map}
use Rattle.lus_syntax.specs.declared.ast.Group.{Group}
use Rattle.lus_syntax.specs.declared.ast.Item.{Item}
use Rattle.lus_syntax.specs.declared.ast.Item.TheVariants.{Assert, Equation}
use Rattle.lus_syntax.specs.declared.ast.Spot.{Spot}
use Rattle.op_network.specs.declared.edge.Edge.{Edge}
use Rattle.op_network.specs.declared.edge.Op.TheVariants as op
use Rattle.op_network.specs.declared.value.Ty.{Ty}
use Rattle.op_network.specs.declared.value.Ty.TheVariants as type
use Rattle.lus_types.specs.Names.{Name, Globals}
use Rattle.lus_types.specs.Programs.{Node, Program, or_truth, type_of_name}
use Rattle.lus_types.specs.Types.{type_named}
use Rattle.node_expand.specs.declared.header.Variable.{Variable}
use Rattle.node_expand.specs.declared.parts.Gate.{Gate}
use Rattle.node_expand.specs.Fragments.{edge}

-- ---- variables of groups

abbrev pub of_type : Ty → Spot → Variable
of_type ty s = record { name = s.text; ty = ty }

abbrev pub group_variables : Ty → List Spot → List Variable
group_variables ty spots = map (of_type ty) spots

abbrev pub declared_variables : Globals → List Group → List Variable
declared_variables g groups = flat_map (λ (group : Group). group_variables (or_truth (type_named g group.ty.text)) group.names) groups

-- ---- roots

abbrev pub left_root : Program → Node → Spot → Variable
left_root program node s = record { name = s.text; ty = or_truth (type_of_name program node s.text) }

abbrev pub assertion_root : ℕ → Variable
assertion_root k = record { name = codes "assert#" ++ decimal k; ty = type.Truth }

abbrev pub item_roots : Program → Node → ℕ → Item → List Variable
item_roots program node k (Assert at e) = assertion_root k ∷ []
item_roots program node k (Equation at left e) = map (left_root program node) left

abbrev pub first_root : List Variable → Name
first_root [] = []
first_root (root ∷ roots) = root.name

-- a root that is `Id` of an edge
abbrev pub id_edge : Name → Bool → Variable → ℕ → Edge
id_edge prefix asserted root value = record { op = op.Id (edge value); ty = root.ty; name = prefix ++ root.name; named = true; asserted = asserted }

-- ---- edges

abbrev pub edge_of : Gate → List ℕ → Bool → Bool → Edge
edge_of gate name named asserted = record { op = gate.op; ty = gate.ty; name = name; named = named; asserted = asserted }
