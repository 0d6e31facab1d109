-- Formulas: what a file in DIMACS CNF holds.
use Rattle.std.specs.Prelude.{◌≡◌, ℕ, List, [], ◌∷◌, not, filter, Option, Some, None, Result, Ok, Err}
use Rattle.std.specs.Option.{option_map}
use Rattle.cov_base.specs.Files.{Files}
use Rattle.cnf_form.specs.declared.dimacs.DimacsFault.TheVariants as fault
use Rattle.cnf_form.specs.declared.dimacs.DimacsKind.{DimacsKind}
use Rattle.cnf_form.specs.Dimacs.{formula_of, header_of}
use Rattle.cnf_form.specs.Lines.{Text, is_skipped, lines, words}
use Rattle.cnf_form.specs.Shape.{Shape}
use Rattle.lus_types.specs.Names.{Name}
use Rattle.cov_station.specs.declared.limits.TheConstants.{MOST_FILE_BYTES}
use Rattle.cov_station.specs.declared.refusal.Refusal.{Refusal}
use Rattle.cov_station.specs.declared.refusal.Refusal.TheVariants.{Formula, ManyVariables}
use Rattle.cov_station.specs.Files.{Reads}
use Rattle.cov_station.specs.Steps.{Step, ◌>>=◌}

-- the number of variables that the first of these lines says, where it is a header
abbrev pub vars_said : List Text → Option ℕ
vars_said [] = None
vars_said (line ∷ later) = option_map (λ header. header.vars) (header_of (words line))

-- the lines that are neither blank nor comments
abbrev pub lines_that_count : Text → List Text
lines_that_count text = filter (λ line. not (is_skipped line)) (lines text)

-- the number of variables that the header of a text says
abbrev pub header_vars : Text → Option ℕ
header_vars text = vars_said (lines_that_count text)

-- the text is a formula
pub data HoldsFormula (text : Text) : Result Shape Refusal → Type 0 where
  holds_formula : {formula : Shape} → formula_of text ≡ Ok formula → HoldsFormula text (Ok formula)
  is_no_formula : {line : ℕ} {kind : DimacsKind} → formula_of text ≡ Err (fault.Bad line kind) → HoldsFormula text (Err (Formula kind line))
  has_many_variables : {vars : ℕ} → formula_of text ≡ Err fault.Vars → header_vars text ≡ Some vars
      → HoldsFormula text (Err (ManyVariables vars))

-- the formula that a file holds
abbrev pub ReadsFormula : Option Files → Name → Step Shape
ReadsFormula files name = do
  text ← Reads files name MOST_FILE_BYTES
  HoldsFormula text
