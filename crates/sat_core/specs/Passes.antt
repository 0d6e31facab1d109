-- What passes over all clauses find.
use Rattle.std.specs.Prelude.{ℕ, ◌<◌, List, [], ◌∷◌, Option, Some, None}
use Rattle.cnf_form.specs.declared.lit.Lit.{Lit}
use Rattle.sat_core.specs.declared.look.Standing.{Standing}
use Rattle.sat_core.specs.declared.look.Standing.TheVariants.{Closed, One, Many}
use Rattle.sat_core.specs.declared.pass.PassOutcome.{PassOutcome}
use Rattle.sat_core.specs.declared.pass.PassOutcome.TheVariants.{Rest, Forced, Conflict}
use Rattle.sat_core.specs.declared.trail.Trail.{Trail}
use Rattle.sat_core.specs.Solving.{entries_of, weight}
use Rattle.sat_core.specs.Trail.{lits, AreIdle, IsClosed}

-- none of these literals, the one, or more
abbrev pub look_of : List Lit → Standing
look_of [] = Closed
look_of (l ∷ []) = One l
look_of (l ∷ k ∷ more) = Many

-- what a pass over all clauses did to the trail
abbrev pub HasPassed : List (List Lit) → Trail → Trail → PassOutcome → Type 0
HasPassed cs old new Rest = AreIdle (lits (entries_of new)) cs
HasPassed cs old new Forced = weight old < weight new
HasPassed cs old new (Conflict r) = IsClosed cs (lits (entries_of new)) r

-- propagation is complete, or has led to a clause whose literals are all false
abbrev pub HasPropagated : List (List Lit) → Trail → Option ℕ → Type 0
HasPropagated cs trail None = AreIdle (lits (entries_of trail)) cs
HasPropagated cs trail (Some r) = IsClosed cs (lits (entries_of trail)) r
