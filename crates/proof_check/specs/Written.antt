-- The text of a proof.
use Rattle.std.specs.Prelude.{◌≡◌, ◌≤◌, ◌<◌, ℕ, ℤ, pos, negsuc, suc, IsTrue, List, [], ◌∷◌, ◌++◌, codes, decimal, map, Ok}
use Rattle.std.specs.Fmt.{signed_decimal}
use Rattle.std.specs.List.{AllByRecursion}
use Rattle.cnf_form.specs.declared.lit.Lit.{Lit}
use Rattle.cnf_form.specs.Limits.{most_vars}
use Rattle.cnf_form.specs.Lines.{Text, unwords, unlines}
use Rattle.cnf_form.specs.Lits.{no_twice}
use Rattle.cnf_form.specs.Numbers.{most}
use Rattle.cnf_form.specs.Written.{lit_text}
use Rattle.proof_check.specs.declared.step.ProofStep.{ProofStep}
use Rattle.proof_check.specs.declared.step.ProofStep.TheVariants.{Put, Delete}
use Rattle.proof_check.specs.Lrat.{proof_of}

-- words, each with a space behind it
abbrev pub spaced : List Text → Text
spaced [] = []
spaced (word ∷ later) = word ++ 32 ∷ spaced later

-- `id lits 0 hints 0`, or `1 d ids 0`
abbrev pub step_words : ProofStep → List Text
step_words (Put id clause hints) =
    decimal id ∷ (map lit_text clause ++ codes "0" ∷ (map signed_decimal hints ++ codes "0" ∷ []))
step_words (Delete ids) = codes "1" ∷ codes "d" ∷ (map decimal ids ++ codes "0" ∷ [])

abbrev pub step_line : ProofStep → Text
step_line step = unwords (step_words step)

-- one step per line
abbrev pub proof_text : List ProofStep → Text
proof_text steps = unlines (map step_line steps)

-- ---- what is read again

-- 1 to 4,294,967,295
abbrev pub IsId : ℕ → Type 0
IsId n = (1 ≤ n) × (n ≤ most)

-- not 0, and of size at most 4,294,967,295
abbrev pub IsHint : ℤ → Type 0
IsHint (pos n) = IsId n
IsHint (negsuc n) = IsId (suc n)

-- of a variable whose number may be written
abbrev pub IsWritable : Lit → Type 0
IsWritable l = l.var < most_vars

-- the words of the step lie within the grammar, and no literal stands twice
abbrev pub IsStep : ProofStep → Type 0
IsStep (Put id clause hints) =
    IsId id × AllByRecursion IsWritable clause × IsTrue (no_twice clause) × AllByRecursion IsHint hints
IsStep (Delete ids) = AllByRecursion IsId ids

-- a proof's text is read again as itself, where its words lie within the grammar
abbrev pub IsReadAgain : Type 0
IsReadAgain =
    (steps : List ProofStep) → AllByRecursion IsStep steps → proof_of (proof_text steps) ≡ Ok steps
