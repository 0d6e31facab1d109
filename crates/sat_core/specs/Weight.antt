-- The trail as a number in base 3, the first place highest. Each turn of the solver raises it.
use Rattle.std.specs.Prelude.{ℕ, zero, suc, ◌+◌, ◌*◌, ◌^◌, List, [], ◌∷◌, Option, Some, None}
use Rattle.sat_core.specs.declared.trail.Entry.{Entry}

-- 2 for a literal that follows, 1 for a decision
abbrev pub digit : Option ℕ → ℕ
digit (Some r) = 2
digit None = 1

abbrev pub weigh : ℕ → List Entry → ℕ
weigh zero t = 0
weigh (suc v) [] = 0
weigh (suc v) (e ∷ es) = digit e.reason * 3 ^ v + weigh v es
