-- How numbers are written.
use Rattle.std.specs.Prelude.{ℕ, ◌*◌, ◌/◌, ◌%◌, List, ◌++◌, ◌==◌, if◌then◌else◌, codes, decimal}

-- a number of tenths, with a point before the last digit, as `81.2`
abbrev pub tenths_text : ℕ → List ℕ
tenths_text tenths = decimal (tenths / 10) ++ codes "." ++ decimal (tenths % 10)

-- how much of total is covered, in percent rounded down to tenths, as `81.2%`, or `-` where total is 0
abbrev pub percent : ℕ → ℕ → List ℕ
percent covered total = if total == 0 then codes "-" else tenths_text (1000 * covered / total) ++ codes "%"
