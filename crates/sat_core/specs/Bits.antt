-- The bits that a trail stands for.
use Rattle.std.specs.Prelude.{◌≡◌, ℕ, ◌<◌, Bool, false, List, slice_index_or}
use Rattle.sat_core.specs.declared.trail.Entry.{Entry}
use Rattle.sat_core.specs.Trail.{lit_at}

-- the first n literals of the trail are true in these bits
abbrev pub Agree : List Bool → List Entry → ℕ → Type 0
Agree bits t n =
    (k : ℕ) → k < n → slice_index_or bits (lit_at t k).var false ≡ (lit_at t k).positive
