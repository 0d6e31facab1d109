-- The types of the variables of a program are among its types.
use Rattle.std.proofs.Common.{◌≡◌, inl, inr, ℕ, suc, ◌+◌, ◌<◌, Bool, true, false, cond, List, [], ◌∷◌, ◌++◌, length, Option, Some, None, refl, sym, subst, codes, arith}
use Rattle.std.specs.Prelude.{All}
use Rattle.std.specs.Str.{bytes_eq}
use Rattle.lus_syntax.specs.declared.ast.Ast.{Ast}
use Rattle.lus_syntax.specs.declared.ast.Decl.{Decl}
use Rattle.lus_syntax.specs.declared.ast.Decl.TheVariants.{TypeDecl, ConstDecl, NodeDecl}
use Rattle.lus_syntax.specs.declared.ast.Group.{Group}
use Rattle.lus_syntax.specs.declared.ast.Spot.{Spot}
use Rattle.op_network.specs.declared.value.Ty.{Ty}
use Rattle.op_network.specs.declared.value.Ty.TheVariants as type
use Rattle.lus_types.specs.declared.types.Meaning.{Meaning}
use Rattle.lus_types.specs.declared.types.Meaning.TheVariants.{Enumeration, Constant, Node as Called, Enumerator}
use Rattle.lus_types.specs.Calls.{In}
use Rattle.lus_types.specs.Facts.{HasTypesOfVariables, IsTypeOf}
use Rattle.lus_types.specs.Names.{Name, Entries, declares, entries_from, entry_of, enumerators, globals, next_type}
use Rattle.lus_types.specs.Programs.{Node, Program, Variable, enumerations, or_truth, program_of, variables, variables_of, variables_of_group}
use Rattle.lus_types.specs.Types.{type_meant, type_named}
use Rattle.lus_types.specs.Typing.{IsFineProgram}
use Rattle.lus_types.proofs.FineHeaders.{in_cases}
use Rattle.lus_types.proofs.FinePrograms.{node_is}
use Rattle.lus_types.proofs.Identifiers.{all_of}
use Rattle.lus_types.proofs.Members.{in_append}

-- the number of a declared type is below this
abbrev IsBelow : ℕ → Meaning → Type 0
IsBelow n (Enumeration ty) = ty < n
IsBelow n (Constant place) = Unit {0}
IsBelow n (Called place) = Unit {0}
IsBelow n (Enumerator ty i) = Unit {0}

abbrev AreBelow : ℕ → Entries → Type 0
AreBelow n [] = Unit {0}
AreBelow n (entry ∷ entries) = IsBelow n entry.1 × AreBelow n entries

below_append : (n : ℕ) (xs ys : Entries) → AreBelow n xs → AreBelow n ys → AreBelow n (xs ++ ys)
below_append n [] ys h k = k
below_append n (x ∷ xs) ys h k = (h.0, below_append n xs ys h.1 k)

enumerators_below : (n ty i : ℕ) (choices : List Spot) → AreBelow n (enumerators ty i choices)
enumerators_below n ty i [] = tt
enumerators_below n ty i (c ∷ choices) = (tt, enumerators_below n ty (suc i) choices)

declares_below : (n place ty : ℕ) (d : Decl) (rest : List Decl) → ty + length (enumerations (d ∷ rest)) ≡ n → AreBelow n (declares place ty d)
declares_below n place ty (TypeDecl at name choices) rest h = (omega arith, enumerators_below n ty 0 choices)
declares_below n place ty (ConstDecl at name t value) rest h = (tt, tt)
declares_below n place ty (NodeDecl at name ins outs locs its) rest h = (tt, tt)

next_count : (n ty : ℕ) (d : Decl) (rest : List Decl) → ty + length (enumerations (d ∷ rest)) ≡ n → next_type ty d + length (enumerations rest) ≡ n
next_count n ty (TypeDecl at name choices) rest h = omega arith
next_count n ty (ConstDecl at name t value) rest h = h
next_count n ty (NodeDecl at name ins outs locs its) rest h = h

entries_below : (n place ty : ℕ) (rest : List Decl) → ty + length (enumerations rest) ≡ n → AreBelow n (entries_from place ty rest)
entries_below n place ty [] h = tt
entries_below n place ty (d ∷ rest) h =
    below_append n (declares place ty d) (entries_from (suc place) (next_type ty d) rest) (declares_below n place ty d rest h)
    (entries_below n (suc place) (next_type ty d) rest (next_count n ty d rest h))

same_meaning : (a b : Meaning) → Some a ≡ Some b → a ≡ b
same_meaning a b e = cc e

found_below : (n : ℕ) (entries : Entries) (x : Name) (m : Meaning) → AreBelow n entries → entry_of entries x ≡ Some m → IsBelow n m
found_below n [] x m h e = cc e
found_below n (entry ∷ entries) x m h e = elim (bytes_eq x entry.0) as (λ b. cond b (Some entry.1) (entry_of entries x) ≡ Some m → IsBelow n m) [
  | true ↦ λ f. subst (IsBelow n) (same_meaning entry.1 m f) h.0
  | false ↦ λ f. found_below n entries x m h.1 f
] e

module _ (decls : List Decl) (width : ℕ) where
  abbrev program : Program
  program = program_of decls width

  meant : (m : Option Meaning) → ((n : Meaning) → m ≡ Some n → IsBelow (length program.types) n) → IsTypeOf program (or_truth (type_meant m))
  meant None h = tt
  meant (Some (Enumeration ty)) h = h (Enumeration ty) refl
  meant (Some (Constant place)) h = tt
  meant (Some (Called place)) h = tt
  meant (Some (Enumerator ty i)) h = tt

  global_meant : (word : Name) → IsTypeOf program (or_truth (type_meant (globals decls word)))
  global_meant word = meant (globals decls word) (λ m e. found_below (length program.types) (entries_from 0 0 decls) word m (entries_below (length program.types) 0 0 decls (omega arith)) e)

  chosen : (a b c : Bool) (o : Option Ty) → IsTypeOf program (or_truth o) → IsTypeOf program (or_truth (cond a (Some type.Truth) (cond b (Some type.Word) (cond c None o))))
  chosen true b c o h = tt
  chosen false true c o h = tt
  chosen false false true o h = tt
  chosen false false false o h = h

  word_named : (word : Name) → IsTypeOf program (or_truth (type_named (globals decls) word))
  word_named word = chosen (bytes_eq word (codes "bool")) (bytes_eq word (codes "int")) (bytes_eq word (codes "real")) (type_meant (globals decls word)) (global_meant word)

  group_typed : (ty : Ty) (spots : List Spot) → IsTypeOf program ty → (v : Variable) → In v (variables_of_group ty spots) → IsTypeOf program v.ty
  group_typed ty [] h v i = elim i [ ]
  group_typed ty (s ∷ spots) h v i = elim (in_cases i) [
    | inl same ↦ subst (λ (u : Variable). IsTypeOf program u.ty) (sym same) h
    | inr j ↦ group_typed ty spots h v j
  ]

  groups_typed : (gs : List Group) (v : Variable) → In v (variables_of (globals decls) gs) → IsTypeOf program v.ty
  groups_typed [] v i = elim i [ ]
  groups_typed (x ∷ gs) v i = elim (in_append (variables_of_group (or_truth (type_named (globals decls) x.ty.text)) x.names) (variables_of (globals decls) gs) v i) [
    | inl j ↦ group_typed _ x.names (word_named x.ty.text) v j
    | inr j ↦ groups_typed gs v j
  ]

  headers_typed : (ins outs locs : List Group) (v : Variable) → In v (variables_of (globals decls) ins ++ (variables_of (globals decls) outs ++ variables_of (globals decls) locs)) → IsTypeOf program v.ty
  headers_typed ins outs locs v i = elim (in_append (variables_of (globals decls) ins) _ v i) [
    | inl j ↦ groups_typed ins v j
    | inr j ↦ elim (in_append (variables_of (globals decls) outs) (variables_of (globals decls) locs) v j) [
      | inl k ↦ groups_typed outs v k
      | inr k ↦ groups_typed locs v k
    ]
  ]

-- Each variable of a typed program is of a type of the program.
pub has_types_of_variables : (ast : Ast) (width : ℕ) → IsFineProgram ast width → HasTypesOfVariables (program_of ast.decls width)
has_types_of_variables ast width fine f node h =
    let w = node_is ast.decls width fine f node h in
    let d = w.2 in
    subst (λ (n : Node). All (λ (v : Variable). IsTypeOf (program_of ast.decls width) v.ty) (variables n)) w.3
    (all_of (λ (v : Variable). IsTypeOf (program_of ast.decls width) v.ty) _ (headers_typed ast.decls width d.inputs d.outputs d.locals))
