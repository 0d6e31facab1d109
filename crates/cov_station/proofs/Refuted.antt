-- A formula whose proof is accepted is satisfied by no assignment.
use Rattle.std.proofs.Common.{◌≡◌, ℕ, List, subst}
use Rattle.std.specs.Prelude.{Option, Some, Ok}
use Rattle.cov_base.specs.Files.{Files}
use Rattle.cov_words.specs.declared.job.Verb.TheVariants as verb
use Rattle.cov_words.specs.Jobs.{Asked, meaning}
use Rattle.lus_types.specs.Names.{Name}
use Rattle.cov_station.specs.Chains.{Answers}
use Rattle.cov_station.specs.Commands.{chain_by, chain_of, station, verify}
use Rattle.cov_station.specs.Files.{reads_whole}
use Rattle.cov_station.specs.Formulas.{holds_formula}
use Rattle.cov_station.specs.Laws.{HoldsUnsatisfiable}
use Rattle.cov_station.specs.Proofs.{accepts_proof}
use Rattle.cov_station.specs.Steps.{goes_on}
use Rattle.cov_station.specs.Words.{asks}
use Rattle.cov_station.proofs.Below.{refutes}

by_verify : (files : Option Files) (cnf_name proof_name : Name) (out : List ℕ) → Answers (verify files cnf_name proof_name) (Ok out) → HoldsUnsatisfiable files cnf_name
by_verify files cnf_name proof_name out (goes_on (goes_on (reads_whole text held few) (holds_formula {formula = formula} is)) (goes_on {a = steps} p (goes_on (accepts_proof accepted) t))) = record {
  text = text;
  held = held;
  formula = formula;
  is = is;
  unsatisfiable = refutes formula steps accepted;
}

pub refuted : (words : List (List ℕ)) (files : Option Files) (job : Asked) (out : List ℕ) → meaning words ≡ Some job → job.verb ≡ verb.Verify
    → Answers (station words files) (Ok out) → HoldsUnsatisfiable files job.first
refuted words files job out means verifies (goes_on {a = found} (asks named served) t) =
    let same : found ≡ job = cc (named, means) in
    by_verify files job.first job.second out
    (subst (λ v. Answers (chain_by v files job) (Ok out)) verifies
    (subst (λ job. Answers (chain_of files job) (Ok out)) same t))
