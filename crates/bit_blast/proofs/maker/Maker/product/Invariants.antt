use Rattle.bit_blast.proofs.Rows.{ProductSoFar}
use Rattle.bit_blast.proofs.maker.Maker.product.Given as goal

abbrev pub invariant-loop-i : goal.invariant-loop-i
invariant-loop-i l = ProductSoFar l.fn.self l.self l.a l.b l.i l.total
