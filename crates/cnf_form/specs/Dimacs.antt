-- The formula of a text in DIMACS CNF, or its first fault.
use Rattle.std.specs.Prelude.{◌≡◌, ℕ, ◌+◌, ◌-◌, not, ◌&&◌, ◌==◌, nat_lt, cond, List, [], ◌∷◌, ◌++◌, codes, length, Option, Some, None, Result, Ok, Err, ◌⊎◌}
use Rattle.std.specs.Str.{bytes_eq}
use Rattle.cnf_form.specs.declared.lit.Lit.{Lit}
use Rattle.cnf_form.specs.declared.number.Number.{Number}
use Rattle.cnf_form.specs.declared.dimacs.DimacsFault.{DimacsFault}
use Rattle.cnf_form.specs.declared.dimacs.DimacsFault.TheVariants.{Bad, Vars, Memory}
use Rattle.cnf_form.specs.declared.dimacs.DimacsKind.TheVariants.{BadHeader, BadWord, Range, NoHeader, OpenClause, Count}
use Rattle.cnf_form.specs.declared.dimacs.Header.{Header}
use Rattle.cnf_form.specs.Limits.{most_vars}
use Rattle.cnf_form.specs.Lines.{Text, is_nil, and_then, is_comment, is_skipped, lines, words}
use Rattle.cnf_form.specs.Lits.{with_lit}
use Rattle.cnf_form.specs.Numbers.{number_of, natural_of}
use Rattle.cnf_form.specs.Shape.{Shape, shape}

-- ---- the header

abbrev pub header_with : Option ℕ → Option ℕ → Option Header
header_with None count = None
header_with (Some vars) None = None
header_with (Some vars) (Some count) = Some (record { vars = vars; count = count })

-- `p cnf V C`
abbrev pub header_of : List Text → Option Header
header_of [] = None
header_of (p ∷ []) = None
header_of (p ∷ cnf ∷ []) = None
header_of (p ∷ cnf ∷ vars ∷ []) = None
header_of (p ∷ cnf ∷ vars ∷ count ∷ []) =
    cond (bytes_eq p (codes "p") && bytes_eq cnf (codes "cnf"))
    (header_with (natural_of vars) (natural_of count))
    None
header_of (p ∷ cnf ∷ vars ∷ count ∷ extra ∷ more) = None

-- ---- the clauses

-- a formula so far: the clauses that have ended, and the literals of the one that hasn't
pub record Partial : Type 0 where
  pub vars : ℕ
  pub clauses : List (List Lit)
  pub current : List Lit

abbrev pub partial : Shape → List Lit → Partial
partial f current = record { vars = f.vars; clauses = f.clauses; current = current }

-- the literal that a number other than 0 names
abbrev pub lit_of : Number → Lit
lit_of n = record { var = n.size - 1; positive = not n.negative }

-- with one literal more, where the clause doesn't have it
abbrev pub with_literal : Lit → Partial → Partial
with_literal l r = record { vars = r.vars; clauses = r.clauses; current = with_lit l r.current }

-- with the clause ended
abbrev pub with_end : Partial → Partial
with_end r = record { vars = r.vars; clauses = r.clauses ++ r.current ∷ []; current = [] }

-- with a number of a line: 0 ends the clause, and another one is a literal of it
abbrev pub with_number : ℕ → Partial → Option Number → Result Partial DimacsFault
with_number line r None = Err (Bad line BadWord)
with_number line r (Some n) =
    cond (nat_lt r.vars n.size) (Err (Bad line Range))
    (Ok (cond (n.size == 0) (with_end r) (with_literal (lit_of n) r)))

abbrev pub with_word : ℕ → Partial → Text → Result Partial DimacsFault
with_word line r word = with_number line r (number_of word)

abbrev pub with_words : ℕ → Partial → List Text → Result Partial DimacsFault
with_words line r [] = Ok r
with_words line r (word ∷ later) = and_then (λ s. with_words line s later) (with_word line r word)

-- with a line, whose number is given
abbrev pub with_line : ℕ → Partial → Text → Result Partial DimacsFault
with_line number r line = cond (is_comment line) (Ok r) (with_words number r (words line))

-- the formula at the end of the text, which has that many lines and is to have that many clauses
abbrev pub finished : ℕ → ℕ → Partial → Result Shape DimacsFault
finished count number r = cond (is_nil r.current)
    (cond (length r.clauses == count) (Ok (shape r.vars r.clauses)) (Err (Bad number Count)))
    (Err (Bad number OpenClause))

-- the formula of the lines behind so many
abbrev pub clauses_from : ℕ → ℕ → Partial → List Text → Result Shape DimacsFault
clauses_from count number r [] = finished count number r
clauses_from count number r (line ∷ later) =
    and_then (λ s. clauses_from count (number + 1) s later) (with_line (number + 1) r line)

-- ---- the whole

-- no clause so far
abbrev pub no_clauses : ℕ → Partial
no_clauses vars = record { vars = vars; clauses = []; current = [] }

abbrev pub behind_header : ℕ → Option Header → List Text → Result Shape DimacsFault
behind_header number None later = Err (Bad number BadHeader)
behind_header number (Some header) later =
    cond (nat_lt most_vars header.vars) (Err Vars)
    (clauses_from header.count number (no_clauses header.vars) later)

-- the formula of lines, before which so many were comments and blank ones
abbrev pub formula_from : ℕ → List Text → Result Shape DimacsFault
formula_from number [] = Err (Bad number NoHeader)
formula_from number (line ∷ later) = cond (is_skipped line)
    (formula_from (number + 1) later)
    (behind_header (number + 1) (header_of (words line)) later)

abbrev pub formula_of : Text → Result Shape DimacsFault
formula_of text = formula_from 0 (lines text)

-- want of memory, or the fault of what is read
abbrev pub IsFaultOf : {A : Type 0} → Result A DimacsFault → DimacsFault → Type 0
IsFaultOf read fault = (fault ≡ Memory) ⊎ (read ≡ Err fault)
