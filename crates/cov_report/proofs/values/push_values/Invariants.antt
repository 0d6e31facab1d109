use Rattle.std.proofs.Common.{◌≡◌, ◌++◌, take}
use Rattle.std.specs.Io.{StartsWith}
use Rattle.cov_report.specs.Values.{enumerators, values_text}
use Rattle.cov_report.proofs.values.push_values.Given as goal

abbrev pub invariant-loop-value : goal.invariant-loop-value
invariant-loop-value l = record {
  so_far : l.text ≡ l.fn.text ++ values_text (enumerators l.choices) l.ty (take l.value-index l.values);
  kept : StartsWith l.text l.fn.text;
}
