-- Names, and what they mean: the first declaration of a name in its space counts.
use Rattle.std.specs.Prelude.{ℕ, suc, Bool, true, false, ◌&&◌, ◌==◌, cond, List, [], ◌∷◌, ◌++◌, Option, Some, None, map}
use Rattle.std.specs.List.{flat_map}
use Rattle.std.specs.Str.{bytes_eq}
use Rattle.lus_syntax.specs.declared.ast.Decl.{Decl}
use Rattle.lus_syntax.specs.declared.ast.Decl.TheVariants.{TypeDecl, ConstDecl, NodeDecl}
use Rattle.lus_syntax.specs.declared.ast.Group.{Group}
use Rattle.lus_syntax.specs.declared.ast.Item.{Item}
use Rattle.lus_syntax.specs.declared.ast.Item.TheVariants.{Assert, Equation}
use Rattle.lus_syntax.specs.declared.ast.Spot.{Spot}
use Rattle.lus_types.specs.declared.types.Meaning.{Meaning}
use Rattle.lus_types.specs.declared.types.Meaning.TheVariants.{Enumeration, Constant, Node, Enumerator}

abbrev pub Name : Type 0
Name = List ℕ

abbrev pub spot_names : List Spot → List Name
spot_names spots = map (λ (s : Spot). s.text) spots

-- the name is one of these
abbrev pub is_among : Name → List Name → Bool
is_among x [] = false
is_among x (name ∷ names) = cond (bytes_eq x name) true (is_among x names)

-- what the first entry of a name says
abbrev pub entry_of : {A : Type 0} → List (Name × A) → Name → Option A
entry_of [] x = None
entry_of (entry ∷ entries) x = cond (bytes_eq x entry.0) (Some entry.1) (entry_of entries x)

-- what global names mean
abbrev pub Globals : Type 0
Globals = Name → Option Meaning

-- global names with their meanings, in the order of the text
abbrev pub Entries : Type 0
Entries = List (Name × Meaning)

-- the enumerators of the type of a number, from the i-th on
abbrev pub enumerators : ℕ → ℕ → List Spot → Entries
enumerators ty i [] = []
enumerators ty i (choice ∷ choices) = (choice.text, Enumerator ty i) ∷ enumerators ty (suc i) choices

-- the global names that the declaration at a place declares, behind so many types
abbrev pub declares : ℕ → ℕ → Decl → Entries
declares place ty (TypeDecl at name choices) = (name.text, Enumeration ty) ∷ enumerators ty 0 choices
declares place ty (ConstDecl at name type value) = (name.text, Constant place) ∷ []
declares place ty (NodeDecl at name inputs outputs locals items) = (name.text, Node place) ∷ []

-- how many types are declared, this declaration counted in
abbrev pub next_type : ℕ → Decl → ℕ
next_type ty (TypeDecl at name choices) = suc ty
next_type ty (ConstDecl at name type value) = ty
next_type ty (NodeDecl at name inputs outputs locals items) = ty

-- the global names of the declarations from a place on, behind so many types
abbrev pub entries_from : ℕ → ℕ → List Decl → Entries
entries_from place ty [] = []
entries_from place ty (decl ∷ decls) = declares place ty decl ++ entries_from (suc place) (next_type ty decl) decls

-- types, enumerators, constants and nodes share one space, whether they are used before or after
abbrev pub globals : List Decl → Globals
globals decls x = entry_of (entries_from 0 0 decls) x

-- two meanings are one
abbrev pub same_meaning : Meaning → Meaning → Bool
same_meaning (Enumeration p) (Enumeration q) = p == q
same_meaning (Constant p) (Constant q) = p == q
same_meaning (Node p) (Node q) = p == q
same_meaning (Enumerator p i) (Enumerator q j) = (p == q) && (i == j)
same_meaning _ _ = false

-- a name means this, and not what another declaration says, or nothing
abbrev pub means : Meaning → Option Meaning → Bool
means m None = false
means m (Some other) = same_meaning m other

abbrev pub declared_names : List Group → List Name
declared_names groups = flat_map (λ (g : Group). spot_names g.names) groups

-- the names on the left side of an item
abbrev pub left_of : Item → List Name
left_of (Assert at e) = []
left_of (Equation at left e) = spot_names left

-- the names that stand on the left sides of these items
abbrev pub lefts : List Item → List Name
lefts items = flat_map left_of items

-- whether a name has an equation
abbrev pub Defined : Type 0
Defined = Name → Bool

abbrev pub defined_in : List Item → Defined
defined_in items x = is_among x (lefts items)
