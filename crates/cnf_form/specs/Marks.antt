-- Marks on literals, as a test of literals.
use Rattle.std.specs.Prelude.{Bool, false, ◌||◌, List}
use Rattle.cnf_form.specs.declared.lit.Lit.{Lit}
use Rattle.cnf_form.specs.declared.marks.Marks.{Marks}
use Rattle.cnf_form.specs.Lits.{same, is_in}
use Rattle.cnf_form.specs.Stamps.{stamped}

-- the literals that are marked
abbrev pub marked : Marks → Lit → Bool
marked m = stamped m.stamps.items m.stamp

-- no literal is
abbrev pub unmarked : Lit → Bool
unmarked x = false

-- one literal more is
abbrev pub with_mark : Lit → (Lit → Bool) → Lit → Bool
with_mark l marks = λ x. same l x || marks x

-- just these are
abbrev pub marks_of : List Lit → Lit → Bool
marks_of lits = λ x. is_in x lits
