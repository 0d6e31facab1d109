-- The names of edges behind the root.
use Rattle.std.proofs.Common.{◌≡◌, ℕ, zero, suc, ◌++◌, refl}
use Rattle.std.specs.Prelude.{codes, decimal}
use Rattle.lus_types.specs.Names.{Name}
use Rattle.node_expand.specs.Instances.{edge_name}

pub name_behind : (x : Name) (k : ℕ) → (k ≡ 0 → ⊥) → edge_name x k ≡ x ++ codes "#" ++ decimal k
name_behind x zero d = absurd (d refl)
name_behind x (suc k) d = refl
