-- What the steps that read a suite or a proof and make a plan show of what they give.
use Rattle.std.proofs.Common.{◌≡◌, ℕ, List, subst, sym}
use Rattle.std.specs.Prelude.{◌⊎◌, Option, Some, Result, Ok, Err}
use Rattle.cov_base.specs.Files.{Files}
use Rattle.dep_paths.specs.Duties.{IsPlanOf, Planned}
use Rattle.lus_types.specs.Names.{Name}
use Rattle.op_network.specs.declared.edge.Parts.{Parts}
use Rattle.op_network.specs.declared.test.Test.{Test}
use Rattle.proof_check.specs.declared.step.ProofStep.{ProofStep}
use Rattle.cov_station.specs.declared.refusal.Refusal.{Refusal}
use Rattle.cov_station.specs.Plans.{MakesPlan, makes_plan}
use Rattle.cov_station.specs.Proofs.{ReadsProof}
use Rattle.cov_station.specs.Steps.{Does, Same, gives}
use Rattle.cov_station.specs.Suites.{ReadsSuite}
use Rattle.std.proofs.Common.{inl, inr}

-- a fault that isn't want of memory is that of the text
pub at_fault : {A E : Type 0} {outcome : Result A E} {memory found : E} → (found ≡ memory → ⊥) → (found ≡ memory) ⊎ (outcome ≡ Err found) → outcome ≡ Err found
at_fault other (inl short) = absurd (other short)
at_fault other (inr is) = is

pub at_refusal : {E : Type 0} {first : Option E} {memory found : E} → (found ≡ memory → ⊥) → (found ≡ memory) ⊎ (first ≡ Some found) → first ≡ Some found
at_refusal other (inl short) = absurd (other short)
at_refusal other (inr is) = is

-- the suite of a network, whose files are the same, for a network that is the same
pub tests_for : {files files' : Option Files} {name : Name} {parts parts' : Parts} {answer : Result (List Test) Refusal}
    → files' ≡ files → parts' ≡ parts → Does (ReadsSuite files' name parts') Same answer → Does (ReadsSuite files name parts) Same answer
tests_for {files} {name = name} {parts' = parts'} {answer} kept same d =
    subst (λ parts. Does (ReadsSuite files name parts) Same answer) same
    (subst (λ files. Does (ReadsSuite files name parts') Same answer) kept d)

-- a proof, where the files are the same
pub proof_for : {files files' : Option Files} {name : Name} {answer : Result (List ProofStep) Refusal}
    → files' ≡ files → Does (ReadsProof files' name) Same answer → Does (ReadsProof files name) Same answer
proof_for {name = name} {answer} kept d = subst (λ files. Does (ReadsProof files name) Same answer) kept d

plan_is : {n : ℕ} {parts : Parts} {plan : Planned} → MakesPlan parts n (Ok plan) → IsPlanOf parts plan
plan_is (makes_plan is long few loose) = is

-- the plan of a network that is the same
pub plan_for : {n : ℕ} {parts parts' : Parts} {answer : Result Planned Refusal}
    → parts' ≡ parts → Does (MakesPlan parts' n) Same answer → Does (MakesPlan parts n) Same answer
plan_for {n} {answer = answer} same d = subst (λ parts. Does (MakesPlan parts n) Same answer) same d

-- what was planned for a network is a plan of it
pub planned : {n : ℕ} {parts parts' : Parts} {plan : Planned}
    → parts' ≡ parts → Does (MakesPlan parts' n) Same (Ok plan) → IsPlanOf parts plan
planned {parts' = parts'} {plan = plan} same (gives {a = made} s shown) =
    subst (λ parts. IsPlanOf parts plan) same (subst (IsPlanOf parts') (sym shown) (plan_is s))
