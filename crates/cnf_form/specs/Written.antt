-- The text of a formula.
use Rattle.std.specs.Prelude.{◌≡◌, ◌+◌, cond, List, [], ◌∷◌, ◌++◌, codes, decimal, length, map, Ok}
use Rattle.cnf_form.specs.declared.lit.Lit.{Lit}
use Rattle.cnf_form.specs.Dimacs.{formula_of}
use Rattle.cnf_form.specs.Lines.{Text, unwords, unlines}
use Rattle.cnf_form.specs.Shape.{Shape, IsFormula}

-- the number of a literal: its variable's, from 1, after a minus where it is negative
abbrev pub lit_text : Lit → Text
lit_text l = cond l.positive (decimal (l.var + 1)) (45 ∷ decimal (l.var + 1))

-- the literals and `0`
abbrev pub clause_words : List Lit → List Text
clause_words lits = map lit_text lits ++ codes "0" ∷ []

abbrev pub clause_line : List Lit → Text
clause_line lits = unwords (clause_words lits)

-- `p cnf V C`
abbrev pub header_words : Shape → List Text
header_words f = codes "p" ∷ codes "cnf" ∷ decimal f.vars ∷ decimal (length f.clauses) ∷ []

abbrev pub header_line : Shape → Text
header_line f = unwords (header_words f)

-- the header, and one clause per line
abbrev pub formula_text : Shape → Text
formula_text f = unlines (header_line f ∷ map clause_line f.clauses)

-- a formula's text is read again as itself
abbrev pub IsReadAgain : Type 0
IsReadAgain = (f : Shape) → IsFormula f → formula_of (formula_text f) ≡ Ok f
