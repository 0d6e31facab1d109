-- What is known of a typed program whose network is made.
use Rattle.std.proofs.Common.{◌≡◌, ◌≤◌, Option, List, [], ◌∷◌, length, arith}
use Rattle.std.proofs.lemmas.List.{length-map}
use Rattle.std.specs.List.{AllByRecursion}
use Rattle.std.specs.Prelude.{ℤ}
use Rattle.lus_syntax.specs.declared.ast.Expr.{Expr}
use Rattle.lus_syntax.specs.declared.ast.Item.{Item}
use Rattle.lus_syntax.specs.declared.ast.Item.TheVariants.{Assert, Equation}
use Rattle.op_network.specs.declared.value.Ty.{Ty}
use Rattle.op_network.specs.Values.{IsWord, wrap}
use Rattle.lus_types.specs.Facts.{HasChoices, HasIdentifiers, HasOutputs, HasTypesOfVariables, HasWidth}
use Rattle.lus_types.specs.Names.{Name}
use Rattle.lus_types.specs.Programs.{Program, Variable, types}
use Rattle.lus_types.specs.ProgramTypes.{HasTypes, HasValues, IsTypedItem, IsTypedProgram, no_names, typed_equation, types_arrow, types_binary, types_call, types_if, types_name, types_number, types_pre, types_truth, types_unary}

-- what the law of typed programs says of the program, and the law of words
pub record IsExpandable (program : Program) : Type 0 where
  pub words : (x : ℤ) → IsWord program.width (wrap program.width x)
  pub typed : IsTypedProgram program
  pub values : HasValues program
  pub identifiers : HasIdentifiers program
  pub types : HasTypesOfVariables program
  pub outputs : HasOutputs program
  pub choices : HasChoices program
  pub width : HasWidth program

-- an equation has a name on its left
abbrev pub IsRooted : Item → Type 0
IsRooted (Assert at e) = Unit {0}
IsRooted (Equation at [] e) = ⊥
IsRooted (Equation at (s ∷ left) e) = Unit {0}

module _ (program : Program) (whole : IsExpandable program) where
  -- an expression has a value
  some_type : {f : Name → Option Ty} {e : Expr} {ts : List Ty} → HasTypes f program.node e ts → 1 ≤ length ts
  some_type (types_name x t k h) = omega arith
  some_type (types_number n k) = omega arith
  some_type (types_truth b k) = omega arith
  some_type (types_unary op o a k is gives p) = omega arith
  some_type (types_pre a k p) = omega arith
  some_type (types_binary op o a b k is gives p q) = omega arith
  some_type (types_arrow a b k gives p q) = omega arith
  some_type (types_if a b c k gives p q r) = omega arith
  some_type (types_call g args callee k found ps) =
      let long : length (types callee.outputs) ≡ length callee.outputs = length-map callee.outputs (λ (v : Variable). v.ty) in
      let some = whole.outputs g callee found in omega (arith, long, some)

  pub rooted : (f : Name → Option Ty) (item : Item) → IsTypedItem f program.node item → IsRooted item
  rooted f (Assert at e) is = tt
  rooted f (Equation at [] e) (typed_equation ts no_names p) = absurd (omega (arith, some_type p))
  rooted f (Equation at (s ∷ left) e) is = tt

  pub all_rooted : (f : Name → Option Ty) (items : List Item) → AllByRecursion (IsTypedItem f program.node) items
      → AllByRecursion IsRooted items
  all_rooted f [] is = tt
  all_rooted f (item ∷ items) is = (rooted f item is.0, all_rooted f items is.1)
