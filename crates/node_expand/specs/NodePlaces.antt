-- Where nodes are declared.
use Rattle.std.specs.Prelude.{◌≡◌, ◌<◌, ℕ, List, length, Some, slice_get}
use Rattle.lus_syntax.specs.declared.ast.Decl.{Decl}
use Rattle.lus_types.specs.Names.{Globals}
use Rattle.lus_types.specs.Programs.{Node, node_declared}

-- the node is declared at this place
pub record IsPlaceOf (g : Globals) (decls : List Decl) (node : Node) (place : ℕ) : Type 0 where
  pub declared : node_declared g (slice_get decls place) ≡ Some node
  pub within : place < length decls
