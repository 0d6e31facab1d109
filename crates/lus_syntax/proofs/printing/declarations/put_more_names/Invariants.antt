use Rattle.std.proofs.Common.{◌≡◌, drop}
use Rattle.lus_syntax.specs.Phrases.{Extends, written, more_names}
use Rattle.lus_syntax.proofs.printing.declarations.put_more_names.Given as goal

abbrev pub invariant-loop-name : goal.invariant-loop-name
invariant-loop-name l = record {
  ahead : written l.out (more_names (drop l.name-index l.names)) ≡ written l.fn.out (more_names l.names);
  kept : Extends l.fn.out l.out;
}
