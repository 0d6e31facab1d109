use Rattle.std.proofs.Common.{◌≡◌, length, take}
use Rattle.score_table.specs.Rows.{union_of}
use Rattle.score_table.proofs.row.unite.Given as goal

-- the rows so far
abbrev pub invariant-loop-row : goal.invariant-loop-row
invariant-loop-row l = record {
  size : length l.covered ≡ length l.fn.covered;
  united : l.covered ≡ union_of (length l.fn.covered) (take l.row-index l.rows);
}
