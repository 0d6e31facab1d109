use Rattle.std.proofs.Common.{◌≡◌, drop}
use Rattle.lus_syntax.specs.Phrases.{Extends, written, more_params}
use Rattle.lus_syntax.proofs.printing.declarations.put_more_groups.Given as goal

abbrev pub invariant-loop-group : goal.invariant-loop-group
invariant-loop-group l = record {
  ahead : written l.out (more_params (drop l.group-index l.groups)) ≡ written l.fn.out (more_params l.groups);
  kept : Extends l.fn.out l.out;
}
