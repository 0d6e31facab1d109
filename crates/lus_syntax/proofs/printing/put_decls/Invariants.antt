use Rattle.std.proofs.Common.{◌≡◌, drop}
use Rattle.lus_syntax.specs.Phrases.{Extends, written, decls}
use Rattle.lus_syntax.proofs.printing.put_decls.Given as goal

abbrev pub invariant-loop-decl : goal.invariant-loop-decl
invariant-loop-decl l = record {
  ahead : written l.out (decls (drop l.decl-index l.decls)) ≡ written l.fn.out (decls l.decls);
  kept : Extends l.fn.out l.out;
}
