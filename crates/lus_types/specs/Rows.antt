-- Tables of variables, as rows of declared names.
use Rattle.std.specs.Prelude.{◌≡◌, List, ◌++◌, map, Option}
use Rattle.lus_types.specs.declared.expressions.scope.Variable.{Variable}
use Rattle.op_network.specs.declared.value.Ty.{Ty}
use Rattle.lus_types.specs.Names.{Name, entry_of}
use Rattle.lus_types.specs.Signatures.{Row, types_in}

abbrev pub names_in : Row → List Name
names_in row = map (λ entry. entry.0) row

-- the table finds what the row finds
abbrev pub IsTableOf : List (Name × Variable) → Row → Type 0
IsTableOf table row = (x : Name) → entry_of table x ≡ entry_of row x

-- a table of a row has grown by more, and so have the types
pub record IsGrown (table : List (Name × Variable)) (old new : List (Option Ty)) (row more : Row) : Type 0 where
  pub found : (x : Name) → entry_of table x ≡ entry_of (row ++ more) x
  pub types : new ≡ old ++ types_in more
