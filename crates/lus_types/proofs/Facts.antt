-- Each literal of a program is in the range of the program's width.
use Rattle.std.proofs.Common.{◌≡◌, ℕ, suc, true, false, List, [], ◌∷◌, ◌++◌, ap, subst, take}
use Rattle.std.specs.List.{flat_map}
use Rattle.lus_syntax.specs.declared.ast.Ast.{Ast}
use Rattle.lus_syntax.specs.declared.ast.Decl.{Decl}
use Rattle.lus_syntax.specs.declared.ast.Decl.TheVariants.{TypeDecl, ConstDecl, NodeDecl}
use Rattle.lus_types.specs.declared.fault.TypeKind.TheVariants.{LiteralRange}
use Rattle.lus_types.specs.Calls.{called_in}
use Rattle.lus_types.specs.Constants.{constant_scope}
use Rattle.lus_types.specs.Facts.{EachLiteralIsInRange}
use Rattle.lus_types.specs.Kinds.{out_of_range}
use Rattle.lus_types.specs.Names.{Name, declared_names, defined_in, next_type}
use Rattle.lus_types.specs.Occurrences.{Scope, Thing, GlobalName, EnumeratorName, InputName, DefinedName, TypeName, Clock, ConstantItself, NameUse, Literal, TruthLiteral, Unary, Binary, Conditional, Call, LeftName, EquationItself, AssertionItself, TextEnd}
use Rattle.lus_types.specs.Signatures.{variables}
use Rattle.lus_types.specs.Typing.{IsFineProgram, Tables, declaration, declarations, node_scope, tables}
use Rattle.lus_types.specs.Walk.{constant}
use Rattle.lus_types.proofs.CallsOf.{Every, StandsIn, called_if, every_append, every_in, every_weaker, in_constant_decl, in_enumerators, in_groups, in_items}
use Rattle.lus_types.proofs.FineHeaders.{is_no}

-- a literal that is judged at this width, or something else
abbrev IsOfWidth : ℕ → Thing → Type 0
IsOfWidth width (Literal s p n) = s.width ≡ width
IsOfWidth width _ = Unit {0}

of_scope : (s : Scope) (ns : List Name) (t : Thing) → StandsIn s ns t → IsOfWidth s.width t
of_scope s ns (Literal sc p n) h = ap (λ (x : Scope). x.width) h
of_scope s ns (Call sc p f args) h = tt
of_scope s ns (GlobalName g m x) h = tt
of_scope s ns (EnumeratorName g ty i x) h = tt
of_scope s ns (InputName before x) h = tt
of_scope s ns (DefinedName before d x) h = tt
of_scope s ns (TypeName g w) h = tt
of_scope s ns Clock h = tt
of_scope s ns (ConstantItself ty value) h = tt
of_scope s ns (NameUse sc x) h = tt
of_scope s ns TruthLiteral h = tt
of_scope s ns (Unary sc op a) h = tt
of_scope s ns (Binary sc op a b) h = tt
of_scope s ns (Conditional a b c) h = tt
of_scope s ns (LeftName vs before x) h = tt
of_scope s ns (EquationItself l r) h = tt
of_scope s ns (AssertionItself ty) h = tt
of_scope s ns (TextEnd ds main) h = tt

module _ (t : Tables) where
  in_decl : (place kind : ℕ) (decl : Decl) → Every (IsOfWidth t.width) (declaration t place kind decl)
  in_decl place kind (TypeDecl at name choices) =
      let s = constant_scope t.width t.globals t.signatures [] place in
      (tt, every_weaker (StandsIn s []) (IsOfWidth t.width) (of_scope s []) _ (in_enumerators s [] t.globals kind 0 choices))
  in_decl place kind (ConstDecl at name ty value) =
      let s = constant_scope t.width t.globals t.signatures (take place t.constants) place in
      every_weaker (StandsIn s (called_if s value)) (IsOfWidth t.width) (of_scope s (called_if s value)) (constant s at name ty value) (in_constant_decl s at name ty value)
  in_decl place kind (NodeDecl at name inputs outputs locals its) =
      let vs = variables t.globals its inputs outputs locals in
      let s = node_scope t place vs in
      let ns = flat_map called_in its in (
        tt,
        every_weaker (StandsIn s ns) (IsOfWidth t.width) (of_scope s ns) _
            (every_append _ _ _ (every_append _ _ _ (in_groups s ns t.globals true (defined_in its) [] inputs)
            (every_append _ _ _ (in_groups s ns t.globals false (defined_in its) (declared_names inputs) outputs) (in_groups s ns t.globals false (defined_in its) (declared_names inputs ++ declared_names outputs) locals)))
            (in_items s vs [] its)),
      )

  in_decls : (place kind : ℕ) (rest : List Decl) → Every (IsOfWidth t.width) (declarations t place kind rest)
  in_decls place kind [] = tt
  in_decls place kind (decl ∷ rest) = every_append _ _ _ (in_decl place kind decl) (in_decls (suc place) (next_type kind decl) rest)

pub each_literal : (ast : Ast) (width : ℕ) → IsFineProgram ast width → EachLiteralIsInRange ast width
each_literal ast width fine = λ at s p n i.
    subst (λ w. out_of_range w p n ≡ false) (every_in (IsOfWidth width) _ _ (in_decls (tables width ast.decls) 0 0 ast.decls) i)
    (is_no (out_of_range s.width p n) (fine _ i LiteralRange))
