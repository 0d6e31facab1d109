use Rattle.std.proofs.Common.{rules}
use Rattle.std.proofs.lemmas.Cmp.{nat_list_cmp_total}
use Rattle.std.proofs.lemmas.Fn.{always_returns_same}
use Rattle.std.proofs.lemmas.List.Sorted.{ranks_by}
use Rattle.std.specs.Cmp.Lexicographic.{slice_cmp}
use Rattle.std.specs.Ordering.{is_lt, nat_cmp}
use Rattle.op_network.specs.Valid.{name_at}
use Rattle.op_network.proofs.valid.names.sort_by_name.Goals as goal

pub returns-clause-sorted : goal.returns-clause-sorted
returns-clause-sorted c =
    let name = name_at c.args.edges.now in
    c.sort_unstable_by.ensures.sorted (λ a b. is_lt (slice_cmp nat_cmp (name a) (name b))) (ranks_by nat_list_cmp_total name) (always_returns_same _ _ _ (λ a r f h. search rules))
