-- The words and the files of a call have one answer.
use Rattle.std.proofs.Common.{◌≡◌, ◌≤◌, ℕ, Bool, List, sym, ◌∙◌}
use Rattle.std.specs.Prelude.{Option, Some, Ok}
use Rattle.cov_base.specs.Files.{Files}
use Rattle.cov_words.specs.declared.job.Verb.{Verb}
use Rattle.cov_words.specs.declared.job.Verb.TheVariants as verb
use Rattle.cov_words.specs.declared.limits.TheConstants.{LEAST_WIDTH, MOST_WIDTH}
use Rattle.cov_words.specs.Jobs.{Asked, meaning}
use Rattle.lus_types.specs.Names.{Name}
use Rattle.cov_station.specs.Commands.{chain_by, run, score, station, verify}
use Rattle.cov_station.specs.Sources.{ReadsSource, Source, net}
use Rattle.cov_station.specs.Steps.{goes_on}
use Rattle.cov_station.specs.Words.{Asks, asks}
use Rattle.cov_station.proofs.Determined.{AllDetermined}
use Rattle.cov_station.proofs.Below.{in_range}
use Rattle.cov_station.proofs.OneStep.{asks_once, check_once, formula_once, plan_once, proof_once, source_once, suite_once}
use Rattle.cov_station.proofs.OneText.{IsSound, one_run_text, one_score_text, sound}

-- the bits of a word are in their range
record HasWidth (width : ℕ) : Type 0 where
  narrowest : LEAST_WIDTH ≤ width
  widest : width ≤ MOST_WIDTH

width_of : (words : List (List ℕ)) (job : Asked) → meaning words ≡ Some job → HasWidth job.width
width_of words job e = let h = in_range words job e in record { narrowest = h.narrowest; widest = h.widest }

sound_source : (files : Option Files) (name : Name) (width : ℕ) (main : Option Name) (source : Source) → HasWidth width
    → ReadsSource files name width main (Ok source) → IsSound source
sound_source files name width main source h (goes_on {a = text} r c) = sound text width main source h.narrowest h.widest c

run_once : (told : Files) (source_name suite_name : Name) (width : ℕ) (main : Option Name) → HasWidth width
    → AllDetermined (run (Some told) source_name suite_name width main)
run_once told source_name suite_name width main h = (
  source_once told source_name width main,
  λ source s. (
    suite_once told suite_name (net source),
    λ tests t text other.
        one_run_text source tests text other (sound_source (Some told) source_name width main source h s),
  ),
)

score_once : (told : Files) (source_name suite_name : Name) (width : ℕ) (main : Option Name) (most_edges : ℕ) (json : Bool) → HasWidth width
    → AllDetermined (score (Some told) source_name suite_name width main most_edges json)
score_once told source_name suite_name width main most_edges json h = (
  source_once told source_name width main,
  λ source s. (
    plan_once (net source) most_edges,
    λ plan p. (
      suite_once told suite_name (net source),
      λ tests t text other.
          one_score_text source plan tests json text other (sound_source (Some told) source_name width main source h s),
    ),
  ),
)

verify_once : (told : Files) (cnf_name proof_name : Name) → AllDetermined (verify (Some told) cnf_name proof_name)
verify_once told cnf_name proof_name = (
  formula_once told cnf_name,
  λ formula f. (
    proof_once told proof_name,
    λ steps p. (check_once formula steps, λ done d text other t u. t ∙ sym u),
  ),
)

chain_once : (told : Files) (v : Verb) (job : Asked) → HasWidth job.width → AllDetermined (chain_by v (Some told) job)
chain_once told verb.Run job h = run_once told job.first job.second job.width job.main h
chain_once told verb.Score job h = score_once told job.first job.second job.width job.main job.most_edges job.json h
chain_once told verb.Verify job h = verify_once told job.first job.second
chain_once told _ job h = λ text other t u. absurd t

job_once : (words : List (List ℕ)) (told : Files) (job : Asked) → Asks words (Ok job) → AllDetermined (chain_by job.verb (Some told) job)
job_once words told job (asks e d) = chain_once told job.verb job (width_of words job e)

pub station_once : (words : List (List ℕ)) (told : Files) → AllDetermined (station words (Some told))
station_once words told = (asks_once words, λ job a. job_once words told job a)
