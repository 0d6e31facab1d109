-- Each command is simple, and no argument has a rule on another one: so what `clap` answers is determined.
use Rattle.std.proofs.Common.{◌≡◌, ◌≢◌, true, false, List, [], ◌∷◌, refl, inl, inr, ap, length, arith}
use Rattle.std.proofs.lemmas.Bool.{ne_eqb}
use Rattle.clap.specs.Faults.{fault_of, is_simple_and_free}
use Rattle.clap.specs.Kinds.{HasKind, IsAmong, Kinds}
use Rattle.clap.specs.Matches.{found_of}
use Rattle.clap.specs.Simple.{App, HasMatchesOf, is_simple}
use Rattle.clap.specs.Values.{kind_of}
use Rattle.clap.specs.Walk.{Text, is_empty, rows_of}
use Rattle.clap.specs.declared.error.Error.{Error}
use Rattle.clap.specs.declared.error.kind.ErrorKind.{ErrorKind}
use Rattle.clap.specs.declared.error.kind.ErrorKind.TheVariants as kind
use Rattle.clap.specs.declared.parser.matches.ArgMatches.{ArgMatches}
use Rattle.clap.proofs.OnLiterals.{clap_on_literals}
use Rattle.cov_words.specs.declared.job.Verb.{Verb}
use Rattle.cov_words.specs.declared.job.Verb.TheVariants as verb
use Rattle.cov_words.specs.Commands.{app}
use Rattle.cov_words.specs.Jobs.{matches, refusals}

pub simple : (v : Verb) → is_simple_and_free (app v) ≡ true
unfolding clap_on_literals
simple verb.Run = refl
simple verb.Score = refl
simple verb.Session = refl
simple verb.Generate = refl
simple verb.Verify = refl
simple verb.Certify = refl
simple verb.Make = refl

plain : (v : Verb) → is_simple (app v) ≡ true
unfolding clap_on_literals
plain verb.Run = refl
plain verb.Score = refl
plain verb.Session = refl
plain verb.Generate = refl
plain verb.Verify = refl
plain verb.Certify = refl
plain verb.Make = refl

pub found : (v : Verb) (a : App) (words : List Text) (m : ArgMatches) → a ≡ app v → HasMatchesOf a words m → rows_of (found_of m) ≡ matches v words
unfolding matches
found v a words m e h = (rw e at h (plain v)).0

pub taken : (v : Verb) (a : App) (words : List Text) → a ≡ app v → (is_simple_and_free a ≡ true → fault_of a words ≡ []) → is_empty (refusals v words) ≡ true
unfolding refusals
taken v a words e h = ap is_empty (rw e at h (simple v))

among : (k : ErrorKind) (kinds : Kinds) → IsAmong k kinds → is_empty kinds ≡ false
among k [] h = absurd h
among k (x ∷ kinds) h = ne_eqb (length (x ∷ kinds)) 0 (λ e. omega (arith, e))

pub refused : (v : Verb) (a : App) (words : List Text) (error : Error) → a ≡ app v → (is_simple_and_free a ≡ true → HasKind (fault_of a words) error) → kind_of error ≢ kind.OutOfMemory → is_empty (refusals v words) ≡ false
unfolding refusals
refused v a words error e h n = elim (rw e at h (simple v)) [
  | inl m ↦ absurd (n m)
  | inr k ↦ among (kind_of error) (fault_of (app v) words) k
]
