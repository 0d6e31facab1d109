-- The commands, step by step.
use Rattle.std.specs.Prelude.{◌≡◌, ℕ, Bool, List, Option}
use Rattle.cov_base.specs.Files.{Files}
use Rattle.lus_types.specs.Names.{Name}
use Rattle.cov_words.specs.declared.job.Verb.{Verb}
use Rattle.cov_words.specs.declared.job.Verb.TheVariants as verb
use Rattle.cov_words.specs.Jobs.{Asked}
use Rattle.cov_station.specs.Chains.{Chain, prints, ◌>>=◌, ◌>>◌}
use Rattle.cov_station.specs.Formulas.{ReadsFormula}
use Rattle.cov_station.specs.Plans.{MakesPlan}
use Rattle.cov_station.specs.Proofs.{AcceptsProof, ReadsProof, acceptance}
use Rattle.cov_station.specs.RunText.{RunText}
use Rattle.cov_station.specs.ScoreText.{ScoreText}
use Rattle.cov_station.specs.Sources.{ReadsSource, net}
use Rattle.cov_station.specs.Suites.{ReadsSuite}
use Rattle.cov_station.specs.Words.{Asks}

-- `run SOURCE SUITE`, over words of a width, of the named main node
abbrev pub run : Option Files → Name → Name → ℕ → Option Name → Chain
run files source_name suite_name width main = do
  source ← ReadsSource files source_name width main
  tests ← ReadsSuite files suite_name (net source)
  prints (RunText source tests)

-- `score SOURCE SUITE`, over paths of so many edges at most, as JSON or not
abbrev pub score : Option Files → Name → Name → ℕ → Option Name → ℕ → Bool → Chain
score files source_name suite_name width main most_edges json = do
  source ← ReadsSource files source_name width main
  plan ← MakesPlan (net source) most_edges
  tests ← ReadsSuite files suite_name (net source)
  prints (ScoreText source plan tests json)

-- `verify CNF PROOF`
abbrev pub verify : Option Files → Name → Name → Chain
verify files cnf_name proof_name = do
  formula ← ReadsFormula files cnf_name
  steps ← ReadsProof files proof_name
  AcceptsProof formula steps
  prints (λ text. text ≡ acceptance)

-- a command that isn't done yet: words that name it are refused before, and it has no text
abbrev pub not_yet : Chain
not_yet = prints (λ text. ⊥)

-- what each command does
abbrev pub chain_by : Verb → Option Files → Asked → Chain
chain_by verb.Run files job = run files job.first job.second job.width job.main
chain_by verb.Score files job =
    score files job.first job.second job.width job.main job.most_edges job.json
chain_by verb.Verify files job = verify files job.first job.second
chain_by _ files job = not_yet

abbrev pub chain_of : Option Files → Asked → Chain
chain_of files job = chain_by job.verb files job

-- what the words ask for
abbrev pub station : List (List ℕ) → Option Files → Chain
station words files = do
  job ← Asks words
  chain_of files job
