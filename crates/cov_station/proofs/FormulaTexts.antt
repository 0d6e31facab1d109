-- The header of a text in DIMACS CNF, and the lines of a text in LRAT.
use Rattle.std.proofs.Common.{◌≡◌, ℕ, ◌+◌, ◌≤◌, Bool, true, false, not, cond, List, [], ◌∷◌, ◌++◌, length, length-append, refl, arith, filter}
use Rattle.std.proofs.lemmas.List.{length-map}
use Rattle.std.specs.List.{onto_first, slice_split}
use Rattle.std.specs.Option.{option_map}
use Rattle.std.specs.Prelude.{Option, Some, None, Result, Ok, Err}
use Rattle.cnf_form.specs.declared.dimacs.DimacsFault.TheVariants as fault
use Rattle.cnf_form.specs.Dimacs.{behind_header, formula_from, formula_of, header_of, header_with}
use Rattle.cnf_form.specs.Lines.{Text, and_then, is_feed, is_skipped, lines, without_empty_end, without_return, words}
use Rattle.cnf_form.specs.Numbers.{natural_of}
use Rattle.proof_check.specs.declared.lrat.LratFault.{LratFault}
use Rattle.proof_check.specs.declared.step.ProofStep.{ProofStep}
use Rattle.proof_check.specs.Lrat.{proof_of, step_of, steps_from}
use Rattle.cov_station.specs.Formulas.{header_vars, vars_said}

-- ---- the third word of a header

said : (is : Bool) (vars count : Option ℕ) (n : ℕ) → option_map (λ header. header.vars) (cond is (header_with vars count) None) ≡ Some n → vars ≡ Some n
said true None count n e = absurd (cc)
said true (Some v) None n e = absurd (cc)
said true (Some v) (Some k) n e = e
said false vars count n e = absurd (cc)

-- its third word says the variables
pub third_is : (line first second third : Text) (rest : List Text) (n : ℕ) → words line ≡ first ∷ second ∷ third ∷ rest → vars_said (line ∷ []) ≡ Some n → natural_of third ≡ Some n
third_is line first second third rest n are e = from_words rest (rw are at e)
  where
    from_words : (rest : List Text) → option_map (λ header. header.vars) (header_of (first ∷ second ∷ third ∷ rest)) ≡ Some n → natural_of third ≡ Some n
    from_words [] e = absurd (cc)
    from_words (fourth ∷ []) e = said _ (natural_of third) (natural_of fourth) n e
    from_words (fourth ∷ more ∷ rest) e = absurd (cc)

-- ---- a formula that is refused for its variables has a header

at_header : (number : ℕ) (header : _) (later : List Text) → behind_header number header later ≡ Err fault.Vars
    → (vars : ℕ) × (option_map (λ header. header.vars) header ≡ Some vars)
at_header number None later e = absurd (cc)
at_header number (Some header) later e = (header.vars, refl)

has_header : (number : ℕ) (ls : List Text) → formula_from number ls ≡ Err fault.Vars
    → (vars : ℕ) × (vars_said (filter (λ line. not (is_skipped line)) ls) ≡ Some vars)
has_header number [] e = absurd (cc)
has_header number (line ∷ later) e = go (is_skipped line) refl (has_header (number + 1) later)
  where
    go : (b : Bool) → is_skipped line ≡ b
        → (formula_from (number + 1) later ≡ Err fault.Vars → (vars : ℕ) × (vars_said (filter (λ line. not (is_skipped line)) later) ≡ Some vars))
        → (vars : ℕ) × (vars_said (filter (λ line. not (is_skipped line)) (line ∷ later)) ≡ Some vars)
    go true s h = rw s (h (rw s at e))
    go false s h = rw s (at_header (number + 1) (header_of (words line)) later (rw s at e))

pub says_vars : (text : Text) → formula_of text ≡ Err fault.Vars → (vars : ℕ) × (header_vars text ≡ Some vars)
says_vars text e = has_header 0 (lines text) e

-- ---- a text has at most as many lines as bytes

part_added : (x : ℕ) (parts : List Text) → length (without_empty_end (onto_first x parts)) ≤ length (without_empty_end parts) + 1
part_added x [] = omega arith
part_added x ([] ∷ []) = omega arith
part_added x ([] ∷ part ∷ parts) = omega arith
part_added x ((b ∷ bytes) ∷ parts) = omega arith

none_added : (parts : List Text) → length (without_empty_end ([] ∷ parts)) ≤ length (without_empty_end parts) + 1
none_added [] = omega arith
none_added (part ∷ parts) = omega arith

parts_fit : (text : Text) → length (without_empty_end (slice_split is_feed text)) ≤ length text
parts_fit [] = omega arith
parts_fit (x ∷ text) = go (is_feed x) refl (parts_fit text)
  where
    go : (b : Bool) → is_feed x ≡ b → length (without_empty_end (slice_split is_feed text)) ≤ length text → length (without_empty_end (slice_split is_feed (x ∷ text))) ≤ length (x ∷ text)
    go true e h = rw e (omega (arith, h, none_added (slice_split is_feed text)))
    go false e h = rw e (omega (arith, h, part_added x (slice_split is_feed text)))

lines_fit : (text : Text) → length (lines text) ≤ length text
lines_fit text = let e = length-map (without_empty_end (slice_split is_feed text)) without_return in omega (arith, e, parts_fit text)

-- ---- and so a proof at most as many steps

step_added : (number : ℕ) (steps : List ProofStep) (answer : Result ProofStep LratFault) (later : List Text) (all : List ProofStep)
    → ((step : ProofStep) → steps_from number (steps ++ step ∷ []) later ≡ Ok all → length all ≤ length steps + 1 + length later)
    → and_then (λ step. steps_from number (steps ++ step ∷ []) later) answer ≡ Ok all → length all ≤ length steps + 1 + length later
step_added number steps (Ok step) later all h e = h step e
step_added number steps (Err fault) later all h e = absurd (cc)

few_steps : (number : ℕ) (steps : List ProofStep) (ls : List Text) (all : List ProofStep) → steps_from number steps ls ≡ Ok all → length all ≤ length steps + length ls
few_steps number steps [] all e = let same : steps ≡ all = cc in rw same (omega arith)
few_steps number steps (line ∷ later) all e = go (is_skipped line) refl (few_steps (number + 1) steps later all) λ step. few_steps (number + 1) (steps ++ step ∷ []) later all
  where
    go : (b : Bool) → is_skipped line ≡ b
        → (steps_from (number + 1) steps later ≡ Ok all → length all ≤ length steps + length later)
        → ((step : ProofStep) → steps_from (number + 1) (steps ++ step ∷ []) later ≡ Ok all → length all ≤ length (steps ++ step ∷ []) + length later)
        → length all ≤ length steps + length (line ∷ later)
    go true s h k = let few = h (rw s at e) in omega arith
    go false s h k =
        let few = step_added (number + 1) steps (step_of (number + 1) (words line)) later all
        (λ step f. let few = k step f in omega (arith, length-append steps (step ∷ []))) (rw s at e) in
        omega arith

pub proof_fits : (text : Text) (steps : List ProofStep) → proof_of text ≡ Ok steps → length steps ≤ length text
proof_fits text steps e = omega (arith, few_steps 0 [] (lines text) steps e, lines_fit text)
