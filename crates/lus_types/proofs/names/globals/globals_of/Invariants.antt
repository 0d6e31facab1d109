use Rattle.std.proofs.Common.{◌≡◌, ◌≤◌, drop}
use Rattle.lus_types.specs.Names.{Name, entries_from, entry_of, globals}
use Rattle.lus_types.specs.NameTables.{either}
use Rattle.lus_types.proofs.names.globals.globals_of.Given as goal

abbrev pub invariant-loop-place : goal.invariant-loop-place
invariant-loop-place l = (l.types ≤ l.place) × ((x : Name) → either (entry_of l.table x) (entry_of (entries_from l.place l.types (drop l.place l.decls)) x) ≡ globals l.decls x)
