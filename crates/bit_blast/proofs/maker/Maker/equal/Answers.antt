use Rattle.bit_blast.proofs.Laws.{equal_law}
use Rattle.bit_blast.proofs.maker.Maker.equal.Goals as goal

pub returns-clause-value : goal.returns-clause-value
returns-clause-value c =
    equal_law _ _ c.args.a.now c.args.b.now _ _ _ _ c.as_slice.ensures c.as_slice-2.ensures c.yes-yes.ensures.value
    c.in_ok-same.ensures.made c.yes-yes.ensures.made.2 c.requires.size
