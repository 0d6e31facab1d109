-- Places of results, as far as code counts them.
use Rattle.std.specs.Prelude.{ℕ, ◌≤◌, List, All}
use Rattle.node_expand.specs.declared.limits.TheConstants.{MANY}

-- no place is past the most that is counted
abbrev pub AreSmall : List (List ℕ) → Type 0
AreSmall results = All (All (λ k. k ≤ MANY)) results
