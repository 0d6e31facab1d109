-- The main node of a program.
use Rattle.std.proofs.Common.{◌≡◌, [], refl}
use Rattle.std.specs.Prelude.{Option, Some, None}
use Rattle.std.specs.Option.{option_map_or}
use Rattle.lus_syntax.specs.declared.ast.Decl.{Decl}
use Rattle.lus_syntax.specs.declared.ast.Decl.TheVariants.{TypeDecl, ConstDecl, NodeDecl}
use Rattle.lus_types.specs.Names.{Globals}
use Rattle.lus_types.specs.Programs.{Node, node_declared}
use Rattle.node_expand.specs.Expanding.{node_name}

pub named : (g : Globals) (o : Option Decl) → option_map_or (λ (node : Node). node.name) (node_declared g o) [] ≡ option_map_or node_name o []
named g None = refl
named g (Some (TypeDecl at name choices)) = refl
named g (Some (ConstDecl at name ty value)) = refl
named g (Some (NodeDecl at name inputs outputs locals items)) = refl
