use Rattle.std.proofs.Common.{◌≡◌, ◌∙◌, sym, inl, inr, map}
use Rattle.std.specs.Prelude.{string_bytes}
use Rattle.clap.specs.Simple.{app_of}
use Rattle.cov_words.specs.declared.args.WordsFault.TheVariants.{Memory, Usage}
use Rattle.cov_words.proofs.Simple.{found, taken, refused}
use Rattle.cov_words.proofs.args.parse.Goals as goal

pub returns-in-Ok-try_get_matches_from-clause-taken : goal.returns-in-Ok-try_get_matches_from-clause-taken
returns-in-Ok-try_get_matches_from-clause-taken c = taken c.args.verb (app_of c.in-Ok.command) (map string_bytes c.args.args.now) c.in-Ok.ensures c.in-Ok-try_get_matches_from.ensures.kinds

pub returns-in-Ok-try_get_matches_from-clause-ok : goal.returns-in-Ok-try_get_matches_from-clause-ok
returns-in-Ok-try_get_matches_from-clause-ok c = found c.args.verb (app_of c.in-Ok.command) (map string_bytes c.args.args.now) c.in-Ok-try_get_matches_from.matches c.in-Ok.ensures c.in-Ok-try_get_matches_from.ensures.matches

pub returns-in-Err-clause-usage : goal.returns-in-Err-clause-usage
returns-in-Err-clause-usage c usage = elim c.fault_of.ensures [
  | inl memory ↦ let is_usage : c.fault_of.result ≡ Usage = cc usage in let both : Memory ≡ Usage = sym memory ∙ is_usage in absurd (cc both)
  | inr other ↦ refused c.args.verb (app_of c.in-Ok.command) (map string_bytes c.args.args.now) c.in-Err.error c.in-Ok.ensures c.in-Err.ensures.kinds other
]
