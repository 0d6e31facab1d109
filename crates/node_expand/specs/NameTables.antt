-- Tables of names, as lists of entries of which the first of a name counts.
use Rattle.std.specs.Prelude.{List, [], ◌∷◌, ◌++◌, if◌then◌else◌, is_some}
use Rattle.lus_types.specs.Names.{Name, entry_of}

-- a table with one name more, unless it has the name
abbrev pub with_name : {A : Type 0} → List (Name × A) → Name → A → List (Name × A)
with_name table x a = if is_some (entry_of table x) then table else table ++ (x, a) ∷ []

-- with these entries more, one after the other
abbrev pub with_entries : {A : Type 0} → List (Name × A) → List (Name × A) → List (Name × A)
with_entries table [] = table
with_entries table (e ∷ entries) = with_entries (with_name table e.0 e.1) entries
