use Rattle.std.proofs.Common.{◌≡◌, ◌++◌, take}
use Rattle.std.specs.Io.{StartsWith}
use Rattle.std.specs.List.{flat_map}
use Rattle.op_network.specs.Valid.{name_at}
use Rattle.cov_report.specs.Duties.{step_text}
use Rattle.cov_report.proofs.duties.push_path.Given as goal

abbrev pub invariant-loop-step : goal.invariant-loop-step
invariant-loop-step l = record {
  so_far : l.text ≡ l.fn.text ++ (name_at l.edges l.path.start.0 ++ flat_map (step_text l.edges) (take l.step-index l.path.steps));
  kept : StartsWith l.text l.fn.text;
}
