-- Tables of names as they grow: words of the private functions that fill and read them.
use Rattle.std.specs.Prelude.{◌≡◌, ◌<◌, ℕ, Bool, ◌||◌, List, [], ◌∷◌, Option, Some, None}
use Rattle.lus_syntax.specs.declared.ast.Decl.{Decl}
use Rattle.op_network.specs.declared.limits.TheConstants.{MOST_NAMES}
use Rattle.lus_types.specs.declared.types.Meaning.TheVariants.{Enumerator}
use Rattle.lus_types.specs.Names.{Name, Entries, Globals, entry_of, globals, is_among}

-- the first of two, if it is there
abbrev pub either : {A : Type 0} → Option A → Option A → Option A
either None b = b
either (Some a) b = Some a

-- the table has what it had, and the name where it lacked it
abbrev pub HasAdded : {A : Type 0} → Name → A → List (Name × A) → List (Name × A) → Type 0
HasAdded name a old new = (x : Name) → entry_of new x ≡ either (entry_of old x) (entry_of ((name, a) ∷ []) x)

-- the name is one of the first, or of the second
abbrev pub among_either : Name → List Name → List Name → Bool
among_either x xs ys = is_among x xs || is_among x ys

-- each enumerator that a name means is one of the first of its type, as many as a type may have
abbrev pub HasSmallChoices : Globals → Type 0
HasSmallChoices g = (x : Name) (ty i : ℕ) → g x ≡ Some (Enumerator ty i) → i < MOST_NAMES

-- the table tells what global names mean
abbrev pub AreGlobals : Entries → List Decl → Type 0
AreGlobals table decls = (x : Name) → entry_of table x ≡ globals decls x
