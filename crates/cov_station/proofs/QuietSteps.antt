-- Steps that read no file count nothing.
use Rattle.std.proofs.Common.{◌≡◌, ℕ, List, subst, sym}
use Rattle.std.specs.Prelude.{Option, Result, Err}
use Rattle.cov_base.specs.Files.{Counts}
use Rattle.cnf_form.specs.Lines.{Text}
use Rattle.cnf_form.specs.Shape.{Shape}
use Rattle.lus_syntax.specs.declared.ast.Ast.{Ast}
use Rattle.lus_syntax.specs.declared.token.Token.{Token}
use Rattle.lus_types.specs.Names.{Name}
use Rattle.op_network.specs.declared.edge.Parts.{Parts}
use Rattle.proof_check.specs.declared.step.ProofStep.{ProofStep}
use Rattle.cov_station.specs.declared.refusal.Refusal.{Refusal}
use Rattle.cov_station.specs.Files.{Counted}
use Rattle.cov_station.specs.Formulas.{HoldsFormula, has_many_variables, is_no_formula}
use Rattle.cov_station.specs.Plans.{MakesPlan, has_many_obligations, has_many_paths}
use Rattle.cov_station.specs.Proofs.{AcceptsProof, HoldsProof, is_no_proof, refuses_step}
use Rattle.cov_station.specs.Sources.{Compiles, Expands, HasTypes, IsCausal, IsUncrowded, Lexes, Parses, Source, derives_none, has_bad_byte, has_cycle, has_many_edges, has_open_comment, has_wide_literal, is_badly_typed, is_crowded, is_too_deep}
use Rattle.cov_station.specs.Steps.{Step, ◌>>=◌, Does, gives, refuses, runs_out, goes_on, stops}
use Rattle.cov_station.specs.Suites.{HoldsTests, has_many_instants, has_many_tests, is_no_suite}
use Rattle.cov_station.specs.Words.{Asks, asks_nothing, asks_too_early}

-- a refusal of the step raises no count
abbrev pub IsQuiet : {A : Type 0} → Step A → Type 0
IsQuiet {A} answers = (why : Refusal) (old new : Counts) → answers (Err why) → new ≡ old → Counted {A = A} (Err why) old new

-- so the counts are as before it, whatever it answers
pub quiet : {A V : Type 0} {first : Step A} {Shows : A → V → Type 0} {answer : Result V Refusal} {old new : Counts}
    → IsQuiet first → new ≡ old → Does first Shows answer → Counted answer old new
quiet q e (gives s shown) = e
quiet {old = old} {new = new} q e (refuses {why = why} s) = q why old new s e
quiet q e runs_out = tt

-- and where the refusal is passed on
pub quiet_refusal : {A V W : Type 0} {first : Step A} {Shows : A → V → Type 0} {answer : Result W Refusal} {why : Refusal} {old new : Counts}
    → IsQuiet first → answer ≡ Err why → new ≡ old → Does first Shows (Err why) → Counted answer old new
quiet_refusal {W = W} {old = old} {new = new} q same e (refuses {why = why} s) = subst (λ answer. Counted {A = W} answer old new) (sym same) (q why old new s e)
quiet_refusal {W = W} {old = old} {new = new} q same e runs_out = subst (λ answer. Counted {A = W} answer old new) (sym same) tt

-- two quiet steps are quiet
then_quiet : {A B : Type 0} {first : Step A} {next : A → Step B} → IsQuiet first → ((a : A) → IsQuiet (next a)) → IsQuiet (first >>= next)
then_quiet q r why old new (goes_on {a = a} s t) e = r a why old new t e
then_quiet q r why old new (stops s) e = q why old new s e

lexes_quiet : (text : List ℕ) → IsQuiet (Lexes text)
lexes_quiet text why old new (has_bad_byte h) e = e
lexes_quiet text why old new (has_open_comment h) e = e
lexes_quiet text why old new (has_wide_literal h) e = e

crowd_quiet : (tokens : List Token) → IsQuiet (IsUncrowded tokens)
crowd_quiet tokens why old new (is_crowded place h) e = e

parses_quiet : (text : List ℕ) (tokens : List Token) → IsQuiet (Parses text tokens)
parses_quiet text tokens why old new (derives_none place h) e = e

types_quiet : (tree : Ast) (width : ℕ) (main : Option Name) → IsQuiet (HasTypes tree width main)
types_quiet tree width main why old new (is_badly_typed h) e = e

expands_quiet : (source : Source) → IsQuiet (Expands source)
expands_quiet source why old new (is_too_deep h) e = e
expands_quiet source why old new (has_many_edges h k) e = e

causal_quiet : (source : Source) → IsQuiet (IsCausal source)
causal_quiet source why old new (has_cycle edge h) e = e

pub compiles_quiet : (text : List ℕ) (width : ℕ) (main : Option Name) → IsQuiet (Compiles text width main)
compiles_quiet text width main =
    then_quiet (lexes_quiet text) λ tokens.
    then_quiet (crowd_quiet tokens) λ loose.
    then_quiet (parses_quiet text tokens) λ tree.
    then_quiet (types_quiet tree width main) λ source.
    then_quiet (expands_quiet source) λ small.
    causal_quiet source

pub tests_quiet : (parts : Parts) (bytes : List ℕ) → IsQuiet (HoldsTests parts bytes)
tests_quiet parts bytes why old new (is_no_suite h) e = e
tests_quiet parts bytes why old new (has_many_tests h) e = e
tests_quiet parts bytes why old new (has_many_instants h) e = e

pub formula_quiet : (text : Text) → IsQuiet (HoldsFormula text)
formula_quiet text why old new (is_no_formula h) e = e
formula_quiet text why old new (has_many_variables h k) e = e

pub proof_quiet : (text : Text) → IsQuiet (HoldsProof text)
proof_quiet text why old new (is_no_proof h) e = e

pub check_quiet : (formula : Shape) (steps : List ProofStep) → IsQuiet (AcceptsProof formula steps)
check_quiet formula steps why old new (refuses_step h) e = e

pub plan_quiet : (parts : Parts) (n : ℕ) → IsQuiet (MakesPlan parts n)
plan_quiet parts n why old new (has_many_paths h) e = e
plan_quiet parts n why old new (has_many_obligations h) e = e

pub asks_quiet : (words : List (List ℕ)) → IsQuiet (Asks words)
asks_quiet words why old new (asks_nothing h) e = e
asks_quiet words why old new (asks_too_early job h k) e = e
