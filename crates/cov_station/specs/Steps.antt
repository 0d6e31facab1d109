-- Steps that may refuse, one after the other.
use Rattle.std.specs.Prelude.{◌≡◌, Result, Ok, Err}
use Rattle.cov_station.specs.declared.refusal.Refusal.{Refusal}
use Rattle.cov_station.specs.declared.refusal.Refusal.TheVariants.{Memory}

infixr 20 ◌>>=◌
infixr 20 ◌>>◌
-- what a step may answer: a value for the next step, or a refusal
abbrev pub Step : Type 0 → Type 1
Step A = Result A Refusal → Type 0

-- A step and then a next one, which takes up what the first gives. The first refusal ends both.
pub data ◌>>=◌ {A B : Type 0} (first : Step A) (next : A → Step B) : Result B Refusal → Type 0 where
  goes_on : {a : A} {answer : Result B Refusal} → first (Ok a) → next a answer → (first >>= next) answer
  stops : {why : Refusal} → first (Err why) → (first >>= next) (Err why)

-- A step that gives nothing, and then a next one.
abbrev pub ◌>>◌ : {B : Type 0} → Step (Unit {0}) → Step B → Step B
◌>>◌ first next = first >>= (λ done. next)

-- What a function that does a step may answer: a value that stands for the step's, the step's refusal, or
-- want of memory.
pub data Does {A V : Type 0} (step : Step A) (Shows : A → V → Type 0) : Result V Refusal → Type 0 where
  gives : {a : A} {v : V} → step (Ok a) → Shows a v → Does step Shows (Ok v)
  refuses : {why : Refusal} → step (Err why) → Does step Shows (Err why)
  runs_out : Does step Shows (Err Memory)

-- the value itself
abbrev pub Same : {A : Type 0} → A → A → Type 0
Same a v = v ≡ a
