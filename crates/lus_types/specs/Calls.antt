-- Calls between nodes.
use Rattle.std.specs.Prelude.{◌≡◌, ℕ, ◌⊎◌, List, [], ◌∷◌, ◌++◌, Some, slice_get}
use Rattle.std.specs.List.{flat_map}
use Rattle.lus_syntax.specs.declared.ast.Decl.{Decl}
use Rattle.lus_syntax.specs.declared.ast.Decl.TheVariants.{TypeDecl, ConstDecl, NodeDecl}
use Rattle.lus_syntax.specs.declared.ast.Expr.{Expr, fold-Expr}
use Rattle.lus_syntax.specs.declared.ast.ExprKind.TheOpen.{ExprKind-F, Name as Named, Number, Truth, One, Two, Cond, Call}
use Rattle.lus_syntax.specs.declared.ast.Item.{Item}
use Rattle.lus_syntax.specs.declared.ast.Item.TheVariants.{Assert, Equation}
use Rattle.lus_types.specs.declared.types.Meaning.TheVariants.{Node}
use Rattle.lus_types.specs.Names.{Name, globals}

pub data In {A : Type 0} (x : A) : List A → Type 0 where
  here : {xs : List A} → In x (x ∷ xs)
  there : {y : A} {xs : List A} → In x xs → In x (y ∷ xs)

abbrev pub called_level : ExprKind-F (List Name) (List Name) → List Name
called_level (Named x) = []
called_level (Number n) = []
called_level (Truth b) = []
called_level (One op a) = a
called_level (Two op a b) = a ++ b
called_level (Cond a b c) = a ++ (b ++ c)
called_level (Call f args) = flat_map (λ names. names) args ++ f ∷ []

-- the names that an expression calls
abbrev pub called_names : Expr → List Name
called_names = fold-Expr (List Name) (List Name) called_level (λ e. e.kind)

-- those that an item calls, an assertion too
abbrev pub called_in : Item → List Name
called_in (Assert at e) = called_names e
called_in (Equation at left e) = called_names e

abbrev pub called_by : Decl → List Name
called_by (TypeDecl at name choices) = []
called_by (ConstDecl at name ty value) = []
called_by (NodeDecl at name inputs outputs locals items) = flat_map called_in items

-- the node at one place calls the node at another, by a name that means it
pub record Calls (decls : List Decl) (caller callee : ℕ) : Type 0 where
  pub decl : Decl
  pub declared : slice_get decls caller ≡ Some decl
  pub name : Name
  pub among : In name (called_by decl)
  pub means : globals decls name ≡ Some (Node callee)

-- by one call or several
pub data Reaches (decls : List Decl) : ℕ → ℕ → Type 0 where
  by_call : {f g : ℕ} → Calls decls f g → Reaches decls f g
  by_calls : {f g h : ℕ} → Calls decls f g → Reaches decls g h → Reaches decls f h

-- a call of this node in that one is recursive
abbrev pub IsRecursion : List Decl → ℕ → ℕ → Type 0
IsRecursion decls callee caller = (callee ≡ caller) ⊎ Reaches decls callee caller
