-- Where no occurrence of a program fails, none of a declaration fails; and what a name means is declared.
use Rattle.std.proofs.Common.{◌≡◌, ◌∙◌, ℕ, zero, suc, ◌+◌, ◌<◌, length, true, false, cond, List, [], ◌∷◌, ◌++◌, Option, Some, slice_get, refl, sym, ap, subst, arith}
use Rattle.std.proofs.lemmas.Slice.Eq.{bytes_eq-Decides}
use Rattle.std.specs.Str.{bytes_eq}
use Rattle.lus_syntax.specs.declared.ast.Decl.{Decl}
use Rattle.lus_syntax.specs.declared.ast.Decl.TheVariants.{TypeDecl, ConstDecl, NodeDecl}
use Rattle.lus_syntax.specs.declared.ast.Expr.{Expr}
use Rattle.lus_syntax.specs.declared.ast.Group.{Group}
use Rattle.lus_syntax.specs.declared.ast.Item.{Item}
use Rattle.lus_syntax.specs.declared.ast.Spot.{Spot}
use Rattle.lus_types.specs.declared.types.Meaning.{Meaning}
use Rattle.lus_types.specs.declared.types.Meaning.TheVariants.{Enumeration, Constant, Node, Enumerator}
use Rattle.lus_types.specs.Calls.{In, there}
use Rattle.lus_types.specs.Names.{Name, Entries, declares, enumerators, entries_from, entry_of, globals, next_type, spot_names}
use Rattle.lus_types.specs.Programs.{enumerations}
use Rattle.lus_types.specs.Programs as programs
use Rattle.lus_types.specs.Occurrences.{Occurrence}
use Rattle.lus_types.specs.Typing.{IsFine, Tables, declaration, declarations}
use Rattle.lus_types.proofs.Members.{in_left, in_right}

-- none of these occurrences fails
abbrev pub AreFine : List Decl → List Occurrence → Type 0
AreFine decls os = (o : Occurrence) → In o os → IsFine decls o

module _ (decls : List Decl) where
  pub fine_front : (xs ys : List Occurrence) → AreFine decls (xs ++ ys) → AreFine decls xs
  fine_front xs ys f = λ o i. f o (in_left xs ys o i)

  pub fine_rest : (xs ys : List Occurrence) → AreFine decls (xs ++ ys) → AreFine decls ys
  fine_rest xs ys f = λ o i. f o (in_right xs ys o i)

  pub fine_tail : (x : Occurrence) (xs : List Occurrence) → AreFine decls (x ∷ xs) → AreFine decls xs
  fine_tail x xs f = λ o i. f o (there i)

  start : (n : ℕ) → 0 + n ≡ n
  start n = omega arith

  next_place : (i place : ℕ) → i + suc place ≡ suc i + place
  next_place i place = omega arith

  module _ (t : Tables) where
    -- the occurrences of the declaration at a place are fine, behind some number of types
    abbrev FineAt : ℕ → Decl → Type 0
    FineAt place decl = (kind : ℕ) × AreFine decls (declaration t place kind decl)

    same_decl : (d e : Decl) → Some d ≡ Some e → d ≡ e
    same_decl d e h = cc h

    fine_from : (place kind : ℕ) (rest : List Decl) (i : ℕ) (decl : Decl) → AreFine decls (declarations t place kind rest) → slice_get rest i ≡ Some decl → FineAt (i + place) decl
    fine_from place kind [] i decl f h = cc h
    fine_from place kind (d ∷ rest) zero decl f h =
        (kind, subst (λ n. AreFine decls (declaration t n kind decl)) (sym (start place)) (subst (λ e. AreFine decls (declaration t place kind e)) (same_decl d decl h) (fine_front (declaration t place kind d) _ f)))
    fine_from place kind (d ∷ rest) (suc i) decl f h =
        subst (λ n. FineAt n decl) (next_place i place) (fine_from (suc place) (next_type kind d) rest i decl (fine_rest (declaration t place kind d) _ f) h)

    same_place : (i : ℕ) → i + 0 ≡ i
    same_place i = omega arith

    pub fine_at : (i : ℕ) (decl : Decl) → AreFine decls (declarations t 0 0 decls) → slice_get decls i ≡ Some decl → FineAt i decl
    fine_at i decl f h = subst (λ n. FineAt n decl) (same_place i) (fine_from 0 0 decls i decl f h)

-- the node at a place has this name
pub record IsNodeAt (decls : List Decl) (place : ℕ) (x : Name) : Type 0 where
  pub at : ℕ
  pub name : Spot
  pub inputs : List Group
  pub outputs : List Group
  pub locals : List Group
  pub items : List Item
  pub declared : slice_get decls place ≡ Some (NodeDecl at name inputs outputs locals items)
  pub named : name.text ≡ x

-- the constant at a place has this name
pub record IsConstantAt (decls : List Decl) (place : ℕ) (x : Name) : Type 0 where
  pub at : ℕ
  pub name : Spot
  pub ty : Option Spot
  pub value : Option Expr
  pub declared : slice_get decls place ≡ Some (ConstDecl at name ty value)
  pub named : name.text ≡ x

-- a declared type, as the program has it
abbrev pub enumeration_of : Spot → List Spot → programs.Enumeration
enumeration_of name choices = record { name = name.text; names = spot_names choices }

-- the type of a number has a choice at this place in it
pub record HasChoice (decls : List Decl) (ty i : ℕ) : Type 0 where
  pub place : ℕ
  pub at : ℕ
  pub name : Spot
  pub choices : List Spot
  pub numbered : slice_get (enumerations decls) ty ≡ Some (enumeration_of name choices)
  pub declared : slice_get decls place ≡ Some (TypeDecl at name choices)
  pub within : i < length choices

-- what a name means is declared with the name
abbrev pub IsDeclared : List Decl → Name → Meaning → Type 0
IsDeclared decls x (Node place) = IsNodeAt decls place x
IsDeclared decls x (Constant place) = IsConstantAt decls place x
IsDeclared decls x (Enumeration ty) = Unit {0}
IsDeclared decls x (Enumerator ty i) = HasChoice decls ty i

module _ (decls : List Decl) where
  AreDeclared : Entries → Type 0
  AreDeclared [] = Unit {0}
  AreDeclared (entry ∷ entries) = IsDeclared decls entry.0 entry.1 × AreDeclared entries

  declared_append : (xs ys : Entries) → AreDeclared xs → AreDeclared ys → AreDeclared (xs ++ ys)
  unfolding AreDeclared
  declared_append [] ys h k = k
  declared_append (x ∷ xs) ys h k = (h.0, declared_append xs ys h.1 k)

  declared_choices : (place at : ℕ) (name : Spot) (all : List Spot) → slice_get decls place ≡ Some (TypeDecl at name all)
      → (ty : ℕ) → slice_get (enumerations decls) ty ≡ Some (enumeration_of name all) → (i : ℕ) (choices : List Spot) → i + length choices ≡ length all → AreDeclared (enumerators ty i choices)
  unfolding AreDeclared
  declared_choices place at name all d ty n i [] h = tt
  declared_choices place at name all d ty n i (choice ∷ choices) h =
      (record { place = place; at = at; name = name; choices = all; numbered = n; declared = d; within = omega arith }, declared_choices place at name all d ty n (suc i) choices (omega arith))

  -- a declared type has its number
  abbrev IsNumbered : ℕ → Decl → Type 0
  IsNumbered kind (TypeDecl at name choices) = slice_get (enumerations decls) kind ≡ Some (enumeration_of name choices)
  IsNumbered kind (ConstDecl at name ty value) = Unit {0}
  IsNumbered kind (NodeDecl at name inputs outputs locals items) = Unit {0}

  declared_one : (place kind : ℕ) (decl : Decl) → slice_get decls place ≡ Some decl → IsNumbered kind decl → AreDeclared (declares place kind decl)
  unfolding AreDeclared
  declared_one place kind (TypeDecl at name choices) h n = (tt, declared_choices place at name choices h kind n 0 choices (omega arith))
  declared_one place kind (ConstDecl at name ty value) h n = (record { at = at; name = name; ty = ty; value = value; declared = h; named = refl }, tt)
  declared_one place kind (NodeDecl at name inputs outputs locals items) h n =
      (record { at = at; name = name; inputs = inputs; outputs = outputs; locals = locals; items = items; declared = h; named = refl }, tt)

  next_of : (i place : ℕ) → suc i + place ≡ i + suc place
  next_of i place = omega arith

  start_of : (n : ℕ) → 0 + n ≡ n
  start_of n = omega arith

  -- the types of these declarations are numbered from here on
  abbrev AreNumbered : ℕ → List Decl → Type 0
  AreNumbered kind rest = (j : ℕ) → slice_get (enumerations rest) j ≡ slice_get (enumerations decls) (j + kind)

  own_number : (kind : ℕ) (d : Decl) (rest : List Decl) → AreNumbered kind (d ∷ rest) → IsNumbered kind d
  own_number kind (TypeDecl at name choices) rest h = ap (slice_get (enumerations decls)) (sym (start_of kind)) ∙ sym (h 0)
  own_number kind (ConstDecl at name ty value) rest h = tt
  own_number kind (NodeDecl at name inputs outputs locals items) rest h = tt

  next_numbers : (kind : ℕ) (d : Decl) (rest : List Decl) → AreNumbered kind (d ∷ rest) → AreNumbered (next_type kind d) rest
  next_numbers kind (TypeDecl at name choices) rest h = λ j. h (suc j) ∙ ap (slice_get (enumerations decls)) (next_of j kind)
  next_numbers kind (ConstDecl at name ty value) rest h = h
  next_numbers kind (NodeDecl at name inputs outputs locals items) rest h = h

  declared_from : (place kind : ℕ) (rest : List Decl) → ((i : ℕ) → slice_get rest i ≡ slice_get decls (i + place)) → AreNumbered kind rest → AreDeclared (entries_from place kind rest)
  unfolding AreDeclared
  declared_from place kind [] h n = tt
  declared_from place kind (d ∷ rest) h n =
      declared_append (declares place kind d) (entries_from (suc place) (next_type kind d) rest)
      (declared_one place kind d (ap (slice_get decls) (sym (start_of place)) ∙ sym (h 0)) (own_number kind d rest n))
      (declared_from (suc place) (next_type kind d) rest (λ i. h (suc i) ∙ ap (slice_get decls) (next_of i place)) (next_numbers kind d rest n))

  same_meaning : (a b : Meaning) → Some a ≡ Some b → a ≡ b
  same_meaning a b e = cc e

  declared_found : (entries : Entries) (x : Name) (m : Meaning) → AreDeclared entries → entry_of entries x ≡ Some m → IsDeclared decls x m
  unfolding AreDeclared
  declared_found [] x m h e = cc e
  declared_found (entry ∷ entries) x m h e = elim (bytes_eq x entry.0) as (λ b. bytes_eq x entry.0 ≡ b → cond b (Some entry.1) (entry_of entries x) ≡ Some m → IsDeclared decls x m) [
    | true ↦ λ same f. subst (IsDeclared decls x) (same_meaning entry.1 m f) (subst (λ y. IsDeclared decls y entry.1) (sym ((bytes_eq-Decides x entry.0).0 same)) h.0)
    | false ↦ λ same f. declared_found entries x m h.1 f
  ] refl e

  zero_more : (n : ℕ) → n ≡ n + 0
  zero_more n = omega arith

  pub declared_meaning : (x : Name) (m : Meaning) → globals decls x ≡ Some m → IsDeclared decls x m
  declared_meaning x m e = declared_found (entries_from 0 0 decls) x m (declared_from 0 0 decls (λ i. ap (slice_get decls) (zero_more i)) (λ j. ap (slice_get (enumerations decls)) (zero_more j))) e
