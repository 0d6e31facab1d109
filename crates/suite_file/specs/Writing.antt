-- Writing records one by one, for the writer's own functions.
use Rattle.std.specs.Prelude.{◌≡◌, ℕ, List, [], ◌++◌, Option, Some, unwrap_or, false}
use Rattle.std.specs.Global.{Vec}
use Rattle.csv.specs.Writing.{default_writer, row_text, writer_setup, fields_written, has_written, text_written}
use Rattle.csv.specs.declared.writer.Writer.{Writer}
use Rattle.suite_file.specs.Records.{Text}

abbrev pub vec_bytes : Vec ℕ → Option Text
vec_bytes v = Some v.items

-- what a writer has written
abbrev pub written : Writer (Vec ℕ) → Text
written writer = unwrap_or (text_written vec_bytes writer) []

-- a writer wrote one more record
abbrev pub Writes : Writer (Vec ℕ) → Writer (Vec ℕ) → List Text → Type 0
Writes old new fields = written new ≡ written old ++ row_text default_writer fields

-- a writer with the defaults, between two records
pub record IsWriting (writer : Writer (Vec ℕ)) : Type 0 where
  pub setup : writer_setup writer ≡ default_writer
  pub fields : fields_written writer ≡ 0
  pub wrote : has_written writer ≡ false
