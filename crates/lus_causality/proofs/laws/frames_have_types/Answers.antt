use Rattle.lus_causality.proofs.Typed.{frames_have_types}
use Rattle.lus_causality.proofs.laws.frames_have_types.Goals as goal

pub returns : goal.returns
returns c = frames_have_types
