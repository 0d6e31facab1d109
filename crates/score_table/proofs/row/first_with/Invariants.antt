use Rattle.std.proofs.Common.{◌≡◌, ◌<◌, false, get_or, ℕ}
use Rattle.score_table.specs.declared.row.TestRow.{TestRow}
use Rattle.score_table.proofs.row.first_with.Given as goal

-- no row so far has the obligation
abbrev pub invariant-loop-place : goal.invariant-loop-place
invariant-loop-place l = (k : ℕ) (d : TestRow) → k < l.place → get_or (get_or l.rows k d).covered l.o false ≡ false
