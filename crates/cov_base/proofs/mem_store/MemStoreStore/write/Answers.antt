use Rattle.std.proofs.Common.{arith}
use Rattle.std.proofs.lemmas.Map.Text.{text_keys}
use Rattle.cov_base.proofs.mem_store.MemStoreStore.write.Goals as goal

pub returns-in-Ok-clause-ok : goal.returns-in-Ok-clause-ok
returns-in-Ok-clause-ok c = record { written = grind (arith, text_keys); others = λ other apart. grind (arith, text_keys) }
