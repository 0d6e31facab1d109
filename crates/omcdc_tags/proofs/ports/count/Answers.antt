use Rattle.std.proofs.Common.{arith}
use Rattle.omcdc_tags.proofs.Tables.{few_ports}
use Rattle.omcdc_tags.proofs.ports.count.Goals as goal

pub overflow_cast-result : goal.overflow_cast-result
overflow_cast-result c = let few = few_ports _ _ _ c.requires c.parts-parts.ensures.valid.few in omega (arith, few)

pub returns-clause-few : goal.returns-clause-few
returns-clause-few c = few_ports _ _ _ c.requires c.parts-parts.ensures.valid.few
