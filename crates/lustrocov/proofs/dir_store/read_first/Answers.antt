use Rattle.std.proofs.Common.{arith, ◌≡◌, ◌∙◌, ℕ, ◌+◌, ◌^◌, ◌<◌, List, length, take, subst, IfSome}
use Rattle.lustrocov.proofs.dir_store.read_first.Goals as goal
use Rattle.lustrocov.proofs.Limits.{first_known}

pub returns-clause-first : goal.returns-clause-first
returns-clause-first g c =
    let small : length c.read_to_end.new.buf.items < 2 ^ 63 = grind (arith, c.read_to_end.new.buf.ok, c.read_to_end.new.buf.small) in
    let first = first_known (g.F.Read.remaining c.take.result.inner) c.args.max _ c.saturating_add-limit.result _ c.read_to_end.new.buf.items _
    c.saturating_add-limit.ensures c.take.ensures.limit c.new-bytes.ensures.items small c.in_ok-read_to_end.ensures.bytes (c.from_vec.ensures ∙ c.truncate.ensures.items) in
    subst (λ file. IfSome (g.F.Read.remaining file) (λ (xs : List ℕ). c.from_vec.result ≡ take (c.args.max + 1) xs)) c.take.ensures.inner first
