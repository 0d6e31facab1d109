use Rattle.std.proofs.Common.{subst}
use Rattle.lus_causality.specs.Causality.{HasNoCycle}
use Rattle.lus_causality.specs.Ordered.{Causal}
use Rattle.lus_causality.proofs.Ending.{has_no_cycle}
use Rattle.lus_causality.proofs.ordered.Ordered.sequence.Goals as goal

pub returns-clause-no_cycle : goal.returns-clause-no_cycle
returns-clause-no_cycle c = subst (λ (it : Causal). HasNoCycle it.network.edges) c.self.view_is (has_no_cycle c.self.inside.network.edges c.self.inside.sequence c.self.invariant)
