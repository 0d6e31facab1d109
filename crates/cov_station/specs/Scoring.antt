-- What is added for one obligation after another, for the station's own functions.
use Rattle.std.specs.Prelude.{ℕ, suc, if◌then◌else◌, List, [], ◌∷◌}
use Rattle.dep_paths.specs.Duties.{Planned}
use Rattle.op_network.specs.declared.edge.Edge.{Edge}
use Rattle.score_table.specs.Coverage.{is_covered_at}
use Rattle.score_table.specs.Runs.{TestRun}
use Rattle.cov_station.specs.Scores.{missing_line}

-- the line of the obligation at a place, unless a run covers it
abbrev pub missing_at : List Edge → Planned → List TestRun → ℕ → List ℕ
missing_at edges plan runs o =
    if is_covered_at runs o then [] else missing_line edges plan o

-- its number from 1, unless a run covers it
abbrev pub number_at : List TestRun → ℕ → List ℕ
number_at runs o = if is_covered_at runs o then [] else suc o ∷ []
