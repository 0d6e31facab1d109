use Rattle.std.proofs.Common.{◌≡◌, ◌≤◌, drop}
use Rattle.lus_types.specs.Checking.{fault_in}
use Rattle.lus_types.specs.Typing.{declarations}
use Rattle.lus_types.specs.Views.{recursions, tables_seen}
use Rattle.lus_types.proofs.declarations.check_decls.Given as goal

abbrev pub invariant-loop-place : goal.invariant-loop-place
invariant-loop-place l = (l.types ≤ l.place) × (fault_in (recursions l.tables.cycles.now) (declarations (tables_seen l.tables) 0 0 l.decls) ≡ fault_in (recursions l.tables.cycles.now) (declarations (tables_seen l.tables) l.place l.types (drop l.place l.decls)))
