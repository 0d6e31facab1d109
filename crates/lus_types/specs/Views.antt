-- The scope of the code, as names with what they mean.
use Rattle.std.specs.Prelude.{ℕ, List, Option, Some, None, ◌==◌, get_or, option_map}
use Rattle.std.specs.Borrow.{Bor}
use Rattle.lus_types.specs.declared.expressions.scope.Scope.{Scope as View}
use Rattle.lus_types.specs.declared.expressions.scope.Variable.{Variable}
use Rattle.lus_types.specs.declared.types.Meaning.{Meaning}
use Rattle.lus_types.specs.declared.declarations.Tables.{Tables as TablesView}
use Rattle.lus_types.specs.Typing.{Tables}
use Rattle.lus_types.specs.Checking.{Recursions}
use Rattle.lus_types.specs.Names.{Name, Globals, Defined, entry_of, is_among}
use Rattle.lus_types.specs.Occurrences.{Scope, Variables}

abbrev pub table_seen : Option (Bor (List (Name × Variable))) → Option Variables
table_seen None = None
table_seen (Some table) = Some (λ x. entry_of table.now x)

abbrev pub scope_seen : View → Scope
scope_seen view = record {
  width = view.width;
  globals = λ x. entry_of view.globals.now x;
  signatures = view.signatures.now;
  constants = view.constants.now;
  place = view.place;
  variables = table_seen view.variables;
}

-- two nodes on one cycle of calls have one number
abbrev pub recursions : List ℕ → Recursions
recursions cycles callee caller = get_or cycles callee 0 == get_or cycles caller 0

abbrev pub variables_seen : List (Name × Variable) → Variables
variables_seen table = λ x. entry_of table x

abbrev pub globals_seen : List (Name × Meaning) → Globals
globals_seen table = λ x. entry_of table x

abbrev pub names_seen : List Name → Defined
names_seen names = λ x. is_among x names

-- the tables of the code
abbrev pub tables_seen : TablesView → Tables
tables_seen view = record { width = view.width; globals = globals_seen view.globals.now; signatures = view.signatures.now; constants = view.constants.now }

-- the name that is given for the main node, if one is
abbrev pub name_given : Option (Bor (List ℕ)) → Option Name
name_given main = option_map (λ (name : Bor (List ℕ)). name.now) main
