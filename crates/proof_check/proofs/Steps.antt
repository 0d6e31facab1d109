-- The steps of a proof, one after the other.
use Rattle.std.proofs.Common.{◌≡◌, ℕ, ◌+◌, ◌<◌, ◌≤◌, get_or, drop, length, true, false, List, ◌∷◌, Some, None, Ok, Err, inl, inr, refl, sym, ap, ◌∙◌}
use Rattle.std.proofs.lemmas.List.{at_drop_more, at_drop_all}
use Rattle.proof_check.specs.declared.step.StepKind.{StepKind}
use Rattle.proof_check.specs.declared.step.StepKind.TheVariants.{NoEmpty}
use Rattle.proof_check.specs.declared.step.ProofStep.{ProofStep}
use Rattle.proof_check.specs.declared.step.VerifyFault.TheVariants.{Refused}
use Rattle.proof_check.specs.declared.fault.StepFault.{StepFault}
use Rattle.proof_check.specs.declared.fault.StepFault.TheVariants.{Kind, Memory}
use Rattle.proof_check.specs.Check.{State, turn, is_end, refusal}
use Rattle.proof_check.specs.Table.{IsFaultOf, IsRefusal, fault_at}

-- at a step whose turn and end are known
on : (n : ℕ) (s next : State) (step : ProofStep) (later : List ProofStep) → turn s step ≡ Ok next → is_end step ≡ false → refusal n s (step ∷ later) ≡ refusal (n + 1) next later
on n s next step later e f = rw (e, f, refusal) refl

ended : (n : ℕ) (s next : State) (step : ProofStep) (later : List ProofStep) → turn s step ≡ Ok next → is_end step ≡ true → refusal n s (step ∷ later) ≡ None
ended n s next step later e f = rw (e, f, refusal) refl

refused : (n : ℕ) (s : State) (step : ProofStep) (later : List ProofStep) (kind : StepKind) → turn s step ≡ Err kind → refusal n s (step ∷ later) ≡ Some (Refused n kind)
refused n s step later kind e = rw (e, refusal) refl

module _ (s : State) (steps : List ProofStep) (i : ℕ) (step : ProofStep) (lt : i < length steps) (is : step ≡ get_or steps i step) where
  here : refusal (i + 1) s (drop i steps) ≡ refusal (i + 1) s (step ∷ drop (i + 1) steps)
  here = at_drop_more (refusal (i + 1) s) steps i step lt ∙ ap (λ p. refusal (i + 1) s (p ∷ drop (i + 1) steps)) (sym is)

  pub step_on : (next : State) → turn s step ≡ Ok next → is_end step ≡ false → refusal (i + 1) s (drop i steps) ≡ refusal (i + 1 + 1) next (drop (i + 1) steps)
  step_on next e f = here ∙ on (i + 1) s next step (drop (i + 1) steps) e f

  pub step_ends : (next : State) → turn s step ≡ Ok next → is_end step ≡ true → refusal (i + 1) s (drop i steps) ≡ None
  step_ends next e f = here ∙ ended (i + 1) s next step (drop (i + 1) steps) e f

  pub step_refused : (fault : StepFault) → IsFaultOf (turn s step) fault → IsRefusal (refusal (i + 1) s (drop i steps)) (fault_at (i + 1) fault)
  step_refused (Kind kind) e = inr (here ∙ refused (i + 1) s step (drop (i + 1) steps) kind e)
  step_refused Memory e = inl refl

pub no_more_steps : (s : State) (steps : List ProofStep) (i : ℕ) → length steps ≤ i → refusal (i + 1) s (drop i steps) ≡ Some (Refused (i + 1) NoEmpty)
no_more_steps s steps i le = at_drop_all (refusal (i + 1) s) steps i le
