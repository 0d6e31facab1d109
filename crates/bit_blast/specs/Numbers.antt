-- Words of bits as two's complement numbers.
use Rattle.std.specs.Prelude.{ℕ, ◌+◌, ◌*◌, ◌^◌, nat_lt, Bool, cond, List, [], ◌∷◌, length, map, ℤ, pos, ◌-ℤ◌}
use Rattle.std.specs.Int.{int_rem_euclid}
use Rattle.std.specs.Int.RustNames.{unsigned_abs}
use Rattle.cnf_form.specs.declared.lit.Lit.{Lit}
use Rattle.cnf_form.specs.Lits.{truth}

-- the number below 2 ^ length of these bits, least first
abbrev pub unsigned : List Bool → ℕ
unsigned [] = 0
unsigned (b ∷ bs) = cond b 1 0 + 2 * unsigned bs

-- the number from -2 ^ (w - 1) to 2 ^ (w - 1) - 1 that is r modulo 2 ^ w, for r below 2 ^ w
unfoldable pub signed : ℕ → ℕ → ℤ
signed w r = cond (nat_lt (2 * r) (2 ^ w)) (pos r) (pos r -ℤ pos (2 ^ w))

-- the number of w bits that is x modulo 2 ^ w
unfoldable pub wrap : ℕ → ℤ → ℤ
wrap w x = signed w (unsigned_abs (int_rem_euclid x (pos (2 ^ w))))

-- the bits of a word under an assignment
abbrev pub bits : (ℕ → Bool) → List Lit → List Bool
bits v a = map (truth v) a

-- the number of a word under an assignment
abbrev pub number : (ℕ → Bool) → List Lit → ℤ
number v a = signed (length a) (unsigned (bits v a))
