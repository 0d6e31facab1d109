use Rattle.std.proofs.Common.{◌≡◌, ap, inl, inr, refl}
use Rattle.std.specs.Prelude.{Ok, Err, ◌⊎◌}
use Rattle.dep_paths.specs.declared.path.PlanFault.{PlanFault}
use Rattle.dep_paths.specs.Duties.{Planned}
use Rattle.cov_station.specs.Plans.{has_many_obligations, has_many_paths, makes_plan}
use Rattle.cov_station.specs.Steps.{gives, refuses, runs_out}
use Rattle.cov_station.proofs.plans.plan_of.Goals as goal

-- a plan is no fault
not_planned : {plan : Planned} {one other : PlanFault} → (Ok plan ≡ Err one) ⊎ (Ok plan ≡ Err other) → ⊥
not_planned (inl e) = absurd (cc)
not_planned (inr e) = absurd (cc)

pub returns-in-Ok : goal.returns-in-Ok
returns-in-Ok c =
    gives
    (makes_plan c.in-Ok.ensures.plan c.in-Ok.ensures.length
    (λ many. not_planned (c.in-Ok.ensures.paths_exact many)) (λ asks. not_planned (c.in-Ok.ensures.duties_exact asks)))
    refl

pub returns-in-Err-Paths : goal.returns-in-Err-Paths
returns-in-Err-Paths c = refuses (has_many_paths (c.in-Err-Paths.ensures.paths (ap Err c.in-Err-Paths.field-0-is)))

pub returns-in-Err-Obligations : goal.returns-in-Err-Obligations
returns-in-Err-Obligations c =
    refuses (has_many_obligations (c.in-Err-Obligations.ensures.duties (ap Err c.in-Err-Obligations.field-0-is)))

pub returns-in-Err-Memory : goal.returns-in-Err-Memory
returns-in-Err-Memory c = runs_out
