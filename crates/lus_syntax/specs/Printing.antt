-- What a text of a tree is.
use Rattle.std.specs.Prelude.{◌≡◌, ℕ, List, map, ◌++◌, length, Option, Some, None}
use Rattle.lus_syntax.specs.declared.token.Token.{Token}
use Rattle.lus_syntax.specs.declared.ast.Ast.{Ast}
use Rattle.lus_syntax.specs.declared.ast.Decl.{Decl}
use Rattle.lus_syntax.specs.declared.ast.Decl.TheVariants.{TypeDecl, ConstDecl, NodeDecl}
use Rattle.lus_syntax.specs.declared.ast.Expr.{Expr, roll-Expr, fold-Expr}
use Rattle.lus_syntax.specs.declared.ast.ExprKind.{ExprKind, roll-ExprKind}
use Rattle.lus_syntax.specs.declared.ast.Group.{Group}
use Rattle.lus_syntax.specs.declared.ast.Item.{Item}
use Rattle.lus_syntax.specs.declared.ast.Item.TheVariants.{Assert, Equation}
use Rattle.lus_syntax.specs.declared.ast.Spot.{Spot}
use Rattle.lus_syntax.specs.Cuts.{Cuts}
use Rattle.lus_syntax.specs.Grammar.{Derives}

-- a tree with each place 0: two trees are the same but for places where these are equal
abbrev pub unplaced_expr : Expr → Expr
unplaced_expr = fold-Expr ExprKind Expr roll-ExprKind (λ e. roll-Expr (record { at = 0; kind = e.kind }))

abbrev pub unplaced_spot : Spot → Spot
unplaced_spot s = record { at = 0; text = s.text }

abbrev pub unplaced_spot_of : Option Spot → Option Spot
unplaced_spot_of None = None
unplaced_spot_of (Some s) = Some (unplaced_spot s)

abbrev pub unplaced_expr_of : Option Expr → Option Expr
unplaced_expr_of None = None
unplaced_expr_of (Some e) = Some (unplaced_expr e)

abbrev pub unplaced_group : Group → Group
unplaced_group g = record { names = map unplaced_spot g.names; ty = unplaced_spot g.ty; clock = unplaced_spot_of g.clock }

abbrev pub unplaced_item : Item → Item
unplaced_item (Assert at e) = Assert 0 (unplaced_expr e)
unplaced_item (Equation at left e) = Equation 0 (map unplaced_spot left) (unplaced_expr e)

abbrev pub unplaced_decl : Decl → Decl
unplaced_decl (TypeDecl at name choices) = TypeDecl 0 (unplaced_spot name) (map unplaced_spot choices)
unplaced_decl (ConstDecl at name ty value) = ConstDecl 0 (unplaced_spot name) (unplaced_spot_of ty) (unplaced_expr_of value)
unplaced_decl (NodeDecl at name inputs outputs locals items) =
    NodeDecl 0 (unplaced_spot name) (map unplaced_group inputs) (map unplaced_group outputs) (map unplaced_group locals) (map unplaced_item items)

abbrev pub unplaced : Ast → Ast
unplaced tree = record { decls = map unplaced_decl tree.decls; length = 0 }

-- the text is cut into tokens that derive the tree but for places
pub record IsTextOf (tree : Ast) (text : List ℕ) : Type 0 where
  pub tokens : List Token
  pub read : Ast
  pub cut : Cuts text 0 tokens (length text)
  pub derived : Derives text tokens read
  pub same : unplaced read ≡ unplaced tree

-- the text has become longer by a text of the tree
pub record Prints (tree : Ast) (old new : List ℕ) : Type 0 where
  pub added : List ℕ
  pub whole : new ≡ old ++ added
  pub text : IsTextOf tree added
