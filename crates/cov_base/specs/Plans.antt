-- Calls that are planned to fail.
use Rattle.std.specs.Prelude.{ℕ, ◌+◌, min, List}
use Rattle.std.specs.List.{Contains}

-- the numbers of the calls that are to fail, and the number of the next call
pub record Plan : Type 0 where
  pub failing : List ℕ
  pub next : ℕ

-- the next call is to fail
abbrev pub FailsNext : Plan → Type 0
FailsNext plan = Contains plan.failing plan.next

-- the plan after one more call; the greatest number stays
abbrev pub after_call : Plan → Plan
after_call plan = record { failing = plan.failing; next = min (plan.next + 1) 0xFFFF_FFFF }
