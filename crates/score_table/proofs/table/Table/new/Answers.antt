use Rattle.std.proofs.Common.{ap, length, sym, subst}
use Rattle.op_network.specs.Valid.{IsValid}
use Rattle.score_table.proofs.table.Table.new.Goals as goal

pub invariant_of-result : goal.invariant_of-result
invariant_of-result c = record {
  valid = subst IsValid c.network.ensures c.parts.ensures.valid;
  acyclic = c.sequence.ensures.no_cycle;
  of = c.requires;
  tests = c.in-Ok-keep_none.ensures.kept c.args.network.network c.args.plan (ap length (sym c.duties.ensures));
  made = c.in-Ok.ensures;
}
