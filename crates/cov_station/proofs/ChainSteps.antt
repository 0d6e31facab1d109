-- From what each function answers to what the chain of them answers.
use Rattle.std.proofs.Common.{◌≡◌, List, ℕ, refl, sym, subst}
use Rattle.std.specs.Prelude.{Result, Ok, Err}
use Rattle.cov_station.specs.declared.refusal.Refusal.{Refusal}
use Rattle.cov_station.specs.declared.refusal.Refusal.TheVariants.{Memory}
use Rattle.cov_station.specs.Chains.{prints, Answers}
use Rattle.cov_station.specs.Steps.{Step, ◌>>=◌, goes_on, stops, Does, gives, refuses, runs_out, Same}

-- a refusal of the first step is one of both
pub stopped : {A B V W : Type 0} {first : Step A} {next : A → Step B} {Shows : A → V → Type 0} {Shows' : B → W → Type 0} {why : Refusal}
    → Does first Shows (Err why) → Does (first >>= next) Shows' (Err why)
stopped (refuses s) = refuses (stops s)
stopped runs_out = runs_out

-- an answer of the next step is one of both, where the first step gave it its value
after : {A B W : Type 0} {first : Step A} {next : A → Step B} {Shows' : B → W → Type 0} {answer : Result W Refusal} (a : A)
    → first (Ok a) → Does (next a) Shows' answer → Does (first >>= next) Shows' answer
after a s (gives t shown) = gives (goes_on s t) shown
after a s (refuses t) = refuses (goes_on s t)
after a s runs_out = runs_out

pub went_on : {A B V W : Type 0} {first : Step A} {next : A → Step B} {Shows : A → V → Type 0} {Shows' : B → W → Type 0} {v : V} {answer : Result W Refusal}
    → Does first Shows (Ok v) → ((a : A) → first (Ok a) → Shows a v → Does (next a) Shows' answer) → Does (first >>= next) Shows' answer
went_on (gives s shown) f = after _ s (f _ s shown)

-- the value of a step that gave one
pub with_value : {A V R : Type 0} {first : Step A} {Shows : A → V → Type 0} {v : V} → Does first Shows (Ok v) → ((a : A) → first (Ok a) → Shows a v → R) → R
with_value (gives s shown) f = f _ s shown

-- the same of a function that gives the very value
pub took : {A B W : Type 0} {first : Step A} {next : A → Step B} {Shows' : B → W → Type 0} {a : A} {answer : Result W Refusal}
    → Does first Same (Ok a) → Does (next a) Shows' answer → Does (first >>= next) Shows' answer
took {next = next} {Shows' = Shows'} {answer = answer} d e = went_on d (λ a s same. subst (λ a. Does (next a) Shows' answer) same e)

-- want of memory ends any chain
pub ran_out : {A V : Type 0} {s : Step A} {Shows : A → V → Type 0} {answer : Result V Refusal} → answer ≡ Err Memory → Does s Shows answer
ran_out {s = s} {Shows = Shows} e = subst (λ answer. Does s Shows answer) (sym e) runs_out

pub refused : {A V : Type 0} {s : Step A} {Shows : A → V → Type 0} {answer : Result V Refusal} {why : Refusal} → answer ≡ Err why → Does s Shows (Err why) → Does s Shows answer
refused {s = s} {Shows = Shows} e d = subst (λ answer. Does s Shows answer) (sym e) d

-- the text at the end of a chain
pub printed : {Text : List ℕ → Type 0} {text : List ℕ} → Text text → Does (Answers (prints Text)) Same (Ok text)
printed t = gives t refl
