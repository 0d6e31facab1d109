use Rattle.std.proofs.Common.{◌≡◌, drop}
use Rattle.lus_types.specs.Names.{Name, enumerators, entry_of}
use Rattle.lus_types.specs.NameTables.{either}
use Rattle.lus_types.proofs.names.globals.declare_choices.Given as goal

abbrev pub invariant-loop-i : goal.invariant-loop-i
invariant-loop-i l = (x : Name) → either (entry_of l.table x) (entry_of (enumerators l.ty l.i (drop l.i l.choices)) x) ≡ either (entry_of l.initial.table x) (entry_of (enumerators l.ty 0 l.choices) x)
