-- How many variables the calls take at most, over words of w bits.
use Rattle.std.specs.Prelude.{ℕ, ◌+◌, ◌*◌, ◌≤◌}
use Rattle.cnf_form.specs.Shape.{Shape}

-- of a sum, a difference or a negation
abbrev pub sum_cost : ℕ → ℕ
sum_cost w = 6 * w

abbrev pub product_cost : ℕ → ℕ
product_cost w = 8 * (w * w)

abbrev pub equality_cost : ℕ → ℕ
equality_cost w = 3 * w + 1

abbrev pub order_cost : ℕ → ℕ
order_cost w = 6 * w + 1

-- a formula has at most n variables more
abbrev pub TakesUpTo : Shape → Shape → ℕ → Type 0
TakesUpTo old new n = new.vars ≤ old.vars + n
