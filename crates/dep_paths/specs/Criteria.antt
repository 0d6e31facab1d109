-- The criteria: which obligations are whose, and when those of one are all covered.
use Rattle.std.specs.Prelude.{◌≡◌, ◌<◌, ◌↔◌, ◌++◌, ℕ, List, length}
use Rattle.std.specs.List.{All}
use Rattle.op_network.specs.declared.edge.Parts.{Parts}
use Rattle.dep_paths.specs.declared.path.Criterion.{Criterion}
use Rattle.dep_paths.specs.declared.path.Criterion.TheVariants as criterion
use Rattle.dep_paths.specs.declared.path.Obligation.{Obligation}
use Rattle.dep_paths.specs.declared.path.Obligation.TheVariants.{Bc, Ecc, Mcc, Omc}
use Rattle.dep_paths.specs.Activation.{Frames}
use Rattle.dep_paths.specs.Coverage.{IsCoveredBy, KeptRun, Met}
use Rattle.dep_paths.specs.Duties.{IsPlanOf, Planned}

abbrev pub criterion_of : Obligation → Criterion
criterion_of (Bc path) = criterion.Bc
criterion_of (Ecc path value) = criterion.Ecc
criterion_of (Mcc path pin) = criterion.Mcc
criterion_of (Omc condition value) = criterion.Omcdc

-- each obligation of the criterion is covered
abbrev pub IsFull : (Obligation → Type 0) → Criterion → List Obligation → Type 0
IsFull Covered criterion os =
    All (λ (o : Obligation). criterion_of o ≡ criterion → Covered o) os

-- where the obligations of one criterion are all covered by some runs, those of another one are,
-- in each plan of a network
abbrev pub FullImplies : Criterion → Criterion → Type 0
FullImplies one other = (net : Parts) (plan : Planned) (runs : List KeptRun) → IsPlanOf net plan
    → IsFull (IsCoveredBy net plan runs) one plan.duties
    → IsFull (IsCoveredBy net plan runs) other plan.duties

-- what is met at an instant is told by the frames up to it, whatever frames come later
abbrev pub LaterFramesChangeNothing : Type 0
LaterFramesChangeNothing =
    (net : Parts) (plan : Planned) (frames more : Frames) (duty : Obligation) (t : ℕ)
    → t < length frames
    → Met net plan frames duty t ↔ Met net plan (frames ++ more) duty t
