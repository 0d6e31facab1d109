use Rattle.lus_causality.proofs.Sequences.{one_sequence}
use Rattle.lus_causality.proofs.laws.one_sequence.Goals as goal

pub returns : goal.returns
returns c = one_sequence
