-- What `unroll` says of a number of instants, said of that of its answer.
use Rattle.std.proofs.Common.{ℕ, ◌≤◌, List, sym, subst}
use Rattle.cnf_form.specs.Limits.{most_vars}
use Rattle.op_network.specs.declared.edge.EdgeId.{EdgeId}
use Rattle.op_network.specs.declared.edge.Parts.{Parts}
use Rattle.unroll_cnf.specs.Made.{IsUnrolled, Streams}
use Rattle.unroll_cnf.specs.Sizes.{size_of}

pub own_instants : (parts : Parts) (order : List EdgeId) (k : ℕ) (it : Streams) →
    IsUnrolled parts order k it → IsUnrolled parts order it.instants it
own_instants parts order k it u = subst (λ n. IsUnrolled parts order n it) (sym u.instants) u

pub own_size : (parts : Parts) (order : List EdgeId) (k : ℕ) (it : Streams) →
    IsUnrolled parts order k it → size_of parts k ≤ most_vars →
    size_of parts it.instants ≤ most_vars
own_size parts order k it u few = subst (λ n. size_of parts n ≤ most_vars) (sym u.instants) few
