-- Reading records one by one, for the reader's own functions.
use Rattle.std.specs.Prelude.{◌≡◌, ◌+◌, Bool, true, false, List, [], ◌∷◌, length, map, Option, Some, None}
use Rattle.std.specs.Borrow.{Bor}
use Rattle.csv.specs.Machine.{ends_at_end}
use Rattle.csv.specs.Reading.{default_config, reader_config, reader_state, reader_trim, Ready, records_from, source_of}
use Rattle.csv.specs.Records.{Row}
use Rattle.csv.specs.declared.parser.State.{State}
use Rattle.csv.specs.declared.reader.Reader.{Reader}
use Rattle.csv.specs.declared.reader.Trim.TheVariants as trim
use Rattle.suite_file.specs.Records.{Text, fields, trimmed}

abbrev pub slice_left : Bor Text → Option Text
slice_left s = Some s.now

-- the records behind a state, of bytes that are known
abbrev pub records_behind : State → Option Text → List (List Text)
records_behind s None = []
records_behind s (Some bytes) =
    map (map trimmed) (records_from default_config (length bytes + 1) s bytes)

-- the records that a reader has yet to give
abbrev pub unread : Reader (Bor Text) → List (List Text)
unread reader = records_behind (reader_state reader) (source_of slice_left reader)

-- a reader with the settings of a suite, between two records of a text
pub record IsReading (reader : Reader (Bor Text)) : Type 0 where
  pub config : reader_config reader ≡ default_config
  pub trim : reader_trim reader ≡ trim.None
  pub ready : Ready reader
  pub between : ends_at_end (reader_state reader) ≡ false
  pub bytes : Text
  pub known : source_of slice_left reader ≡ Some bytes

-- a reader was asked for its next record: there is one, or it has given them all
abbrev pub ReadsOne : Bool → Reader (Bor Text) → Reader (Bor Text) → Row → Type 0
ReadsOne true old new row = IsReading new × (unread old ≡ fields row ∷ unread new)
ReadsOne false old new row = unread old ≡ []
