use Rattle.std.proofs.Common.{◌≡◌, ◌≢◌, ◌<◌, ◌≤◌, ℕ, [], false, length, get_or}
use Rattle.dep_paths.specs.Activation.{Frames}
use Rattle.op_network.specs.declared.edge.Parts.{Parts}
use Rattle.score_table.specs.Watching.{MarksLast, Watches}
use Rattle.score_table.proofs.running.mark_all.Given as goal

-- the obligations so far are marked, and the others as before
abbrev pub invariant-loop-o : goal.invariant-loop-o
invariant-loop-o l = record {
  size : length l.covered ≡ length l.plan.duties;
  marked : (parts : Parts) (frames : Frames) → Watches parts l.plan frames l.watch → frames ≢ [] → (k : ℕ) → k < l.o
      → MarksLast parts l.plan frames k (get_or l.fn.covered k false) (get_or l.covered k false);
  later : (k : ℕ) → l.o ≤ k → get_or l.covered k false ≡ get_or l.fn.covered k false;
}
