-- Stamps of literals in an array: a literal has a stamp where its place holds it.
use Rattle.std.specs.Prelude.{ℕ, ◌+◌, ◌*◌, ◌≤◌, eqb, Bool, cond, List, get_or}
use Rattle.cnf_form.specs.declared.lit.Lit.{Lit}

-- the place of a literal: that of its negation first
unfoldable pub place : Lit → ℕ
place l = 2 * l.var + cond l.positive 1 0

unfoldable pub stamped : List ℕ → ℕ → Lit → Bool
stamped stamps stamp l = eqb (get_or stamps (place l) 0) stamp

-- no stamp is past n
abbrev pub UpTo : List ℕ → ℕ → Type 0
UpTo stamps n = (k : ℕ) → get_or stamps k 0 ≤ n
