-- A chain has one answer where each of its steps has one.
use Rattle.std.proofs.Common.{◌≡◌, ℕ, List, sym, subst, ap, inl, inr}
use Rattle.std.specs.Prelude.{Result, Ok, Err}
use Rattle.cov_station.specs.declared.refusal.Refusal.{Refusal}
use Rattle.cov_station.specs.Chains.{Chain, step, prints, Answers, IsReady}
use Rattle.cov_station.specs.Laws.{IsReadFault, Agree}
use Rattle.cov_station.specs.Steps.{Step, ◌>>=◌, goes_on, stops}

-- a step has one answer
abbrev pub IsDetermined : {A : Type 0} → Step A → Type 0
IsDetermined {A} answers = (a b : Result A Refusal) → answers a → answers b → Agree a b

-- two values that a step gives are the same
pub same_value : {A : Type 0} {a b : A} → Agree (Ok a) (Ok b) → a ≡ b
same_value (inl f) = absurd f
same_value (inr (inl f)) = absurd f
same_value (inr (inr e)) = cc

-- a step that gives a value refuses for a failed read alone
apart : {A : Type 0} {a : A} {why : Refusal} → Agree (Ok a) (Err why) → IsReadFault why
apart (inl f) = absurd f
apart (inr (inl f)) = f
apart (inr (inr e)) = absurd (cc)

apart' : {A : Type 0} {a : A} {why : Refusal} → Agree (Err why) (Ok a) → IsReadFault why
apart' (inl f) = f
apart' (inr (inl f)) = absurd f
apart' (inr (inr e)) = absurd (cc)

passed_on : {A B : Type 0} {why other : Refusal} → Agree {A = A} (Err why) (Err other) → Agree {A = B} (Err why) (Err other)
passed_on (inl f) = inl f
passed_on (inr (inl f)) = inr (inl f)
passed_on (inr (inr e)) = inr (inr (cc))

pub then_determined : {A B : Type 0} {first : Step A} {next : A → Step B}
    → IsDetermined first → ((a : A) → first (Ok a) → IsDetermined (next a)) → IsDetermined (first >>= next)
then_determined {next = next} d e x y (goes_on {a = a} s t) (goes_on {a = b} s' t') =
    e a s x y t (subst (λ b. next b y) (sym (same_value (d (Ok a) (Ok b) s s'))) t')
then_determined d e x y (goes_on {a = a} s t) (stops {why = why} s') = inr (inl (apart (d (Ok a) (Err why) s s')))
then_determined d e x y (stops {why = why} s) (goes_on {a = a} s' t) = inl (apart' (d (Err why) (Ok a) s s'))
then_determined d e x y (stops {why = why} s) (stops {why = other} s') = passed_on (d (Err why) (Err other) s s')

-- each step of a chain has one answer, and its end one text
abbrev pub AllDetermined : Chain → Type 0
AllDetermined (step {A} first next) = IsDetermined first × ((a : A) → first (Ok a) → AllDetermined (next a))
AllDetermined (prints Text) = (text other : List ℕ) → Text text → Text other → text ≡ other

one_text : {Text : List ℕ → Type 0} → ((text other : List ℕ) → Text text → Text other → text ≡ other) → IsDetermined (Answers (prints Text))
one_text one (Ok text) (Ok other) t u = inr (inr (ap Ok (one text other t u)))
one_text one (Err why) b t u = absurd t
one_text one (Ok text) (Err why) t u = absurd u

pub one_answer : (chain : Chain) → AllDetermined chain → IsDetermined (Answers chain)
one_answer (step first next) d = then_determined d.0 (λ a s. one_answer (next a) (d.1 a s))
one_answer (prints Text) d = one_text d

-- a chain that is ready refuses for a failed read alone
pub ready_apart : (chain : Chain) (why : Refusal) → AllDetermined chain → IsReady chain → Answers chain (Err why) → IsReadFault why
ready_apart (step first next) why d r (goes_on {a = b} s t) =
    ready_apart (next r.0) why (d.1 r.0 r.1) r.2 (subst (λ b. Answers (next b) (Err why)) (sym (same_value (d.0 (Ok r.0) (Ok b) r.1 s))) t)
ready_apart (step first next) why d r (stops s) = apart (d.0 (Ok r.0) (Err why) r.1 s)
ready_apart (prints Text) why d r t = absurd t
