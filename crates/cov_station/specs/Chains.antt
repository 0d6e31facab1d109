-- Commands: steps that may refuse, and then a text.
use Rattle.std.specs.Prelude.{ℕ, List, Ok, IsOkAnd}
use Rattle.cov_station.specs.Steps as steps
use Rattle.cov_station.specs.Steps.{Step}

infixr 20 ◌>>=◌
infixr 20 ◌>>◌
-- a command
pub data Chain : Type 1 where
  step : {A : Type 0} → Step A → (A → Chain) → Chain
  prints : (List ℕ → Type 0) → Chain

abbrev pub ◌>>=◌ : {A : Type 0} → Step A → (A → Chain) → Chain
◌>>=◌ = step

abbrev pub ◌>>◌ : Step (Unit {0}) → Chain → Chain
◌>>◌ first next = step first (λ done. next)

-- what a command answers: its text, or its first refusal
abbrev pub Answers : Chain → Step (List ℕ)
Answers (step first next) answer = steps.◌>>=◌ first (λ a. Answers (next a)) answer
Answers (prints Text) answer = IsOkAnd answer Text

-- each step gives what the next one needs
abbrev pub IsReady : Chain → Type 0
IsReady (step {A} first next) = (a : A) × first (Ok a) × IsReady (next a)
IsReady (prints Text) = Unit {0}
