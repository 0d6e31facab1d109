-- The records of a suite's text.
use Rattle.std.specs.Prelude.{ℕ, Bool, ◌||◌, ◌==◌, cond, List, [], ◌∷◌, map}
use Rattle.std.specs.List.{list_all}
use Rattle.csv.specs.Reading.{default_config, records, strip_bom}
use Rattle.csv.specs.Records.{Row, fields_of}

abbrev pub Text : Type 0
Text = List ℕ

-- ---- fields

-- a space or a tab
abbrev pub is_blank : ℕ → Bool
is_blank b = (b == 32) || (b == 9)

-- without the blanks at its start
abbrev pub trimmed_start : Text → Text
trimmed_start [] = []
trimmed_start (b ∷ text) = cond (is_blank b) (trimmed_start text) (b ∷ text)

-- without the blanks at its end
abbrev pub trimmed_end : Text → Text
trimmed_end [] = []
trimmed_end (b ∷ text) = cond (list_all is_blank (b ∷ text)) [] (b ∷ trimmed_end text)

abbrev pub trimmed : Text → Text
trimmed text = trimmed_end (trimmed_start text)

-- the fields of a record that was read, without blanks at their ends
abbrev pub fields : Row → List Text
fields row = map trimmed (fields_of row)

-- ---- the whole list

-- The records: those that `csv` reads with its default settings behind a byte order mark, without
-- the blanks at the ends of each field. `csv` itself leaves out a byte order mark, too.
abbrev pub suite_records : Text → List (List Text)
suite_records bytes = map (map trimmed) (records default_config (strip_bom (strip_bom bytes)))
