use Rattle.std.proofs.Common.{refl}
use Rattle.lus_causality.proofs.Searching.{least_found, none_more}
use Rattle.lus_causality.proofs.cycle.least_on_cycle.Goals as goal

pub returns-then-branch : goal.returns-then-branch
returns-then-branch c = least_found c.args.network.now.edges c.loop-e.e (record { 0 = c.loop-e.e }) refl (c.in_ok-lies_on_cycle.ensures.lies.0 c.if-branch.true) c.loop-e.invariant.none

pub loop-e-preserved : goal.loop-e-preserved
loop-e-preserved c = record {
  none = none_more c.args.network.now.edges c.loop-e.e (record { 0 = c.loop-e.e }) refl (λ lies. let t = c.in_ok-lies_on_cycle.ensures.lies.1 lies in let f = c.if-branch.false in absurd (cc)) c.loop-e.invariant.none;
  size = c.in_ok-lies_on_cycle.ensures.size;
}
