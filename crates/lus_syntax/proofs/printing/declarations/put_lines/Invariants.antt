use Rattle.std.proofs.Common.{◌≡◌, drop}
use Rattle.lus_syntax.specs.Phrases.{Extends, written, lines}
use Rattle.lus_syntax.proofs.printing.declarations.put_lines.Given as goal

abbrev pub invariant-loop-group : goal.invariant-loop-group
invariant-loop-group l = record {
  ahead : written l.out (lines (drop l.group-index l.groups)) ≡ written l.fn.out (lines l.groups);
  kept : Extends l.fn.out l.out;
}
