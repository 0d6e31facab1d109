use Rattle.std.proofs.Common.{◌≡◌, false, map, drop}
use Rattle.lus_syntax.specs.Phrases.{Extends, written, phrase, arguments}
use Rattle.lus_syntax.proofs.printing.expressions.+put_expr.Given as goal

abbrev pub invariant-put_arguments-loop-arg : goal.invariant-put_arguments-loop-arg
invariant-put_arguments-loop-arg l = record {
  ahead : written l.out (arguments l.later (map phrase (drop l.arg-index l.args))) ≡ written l.fn.out (arguments false (map phrase l.args));
  kept : Extends l.fn.out l.out;
}
