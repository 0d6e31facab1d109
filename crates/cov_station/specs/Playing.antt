-- What is kept of a test while its run goes on, for the crate's own functions.
use Rattle.std.specs.Prelude.{◌≡◌, ℕ, Bool, true, false, List, [], ◌∷◌, ◌++◌, map}
use Rattle.std.specs.Prelude.{Option, Some, None, slice_index_or}
use Rattle.std.specs.List.{flat_map, zip}
use Rattle.op_network.specs.declared.edge.EdgeId.{EdgeId}
use Rattle.op_network.specs.declared.edge.Parts.{Parts}
use Rattle.op_network.specs.declared.test.Test.{Test}
use Rattle.op_network.specs.declared.value.Value.{Value}
use Rattle.op_network.specs.declared.value.Value.TheVariants.{Truth}
use Rattle.op_network.specs.Run.{IsRun}
use Rattle.stream_run.specs.Runs.{StandsFor}
use Rattle.cov_report.specs.Values.{edge_line}
use Rattle.cov_station.specs.declared.runs.playing.Playing.{Playing}
use Rattle.cov_station.specs.Failures.{first_failure}
use Rattle.cov_station.specs.NetworkText.{asserted, edge_lines, input_rows, stream_in, test_text}

-- Streams of these edges go on by a frame: where the old ones are those in some frames, the new
-- ones are those in these frames and this one.
pub record GoOnBy (frame : List Value) (ids : List EdgeId) (old new : List (List Value)) : Type 0 where
  pub each : (frames : List (List Value)) → old ≡ map (stream_in frames) ids
      → new ≡ map (stream_in (frames ++ frame ∷ [])) ids

-- the first failure, after one instant more
abbrev pub failure_after : Option ℕ → Bool → ℕ → Option ℕ
failure_after (Some t) holds instant = Some t
failure_after None true instant = None
failure_after None false instant = Some instant

-- The runner did these rows; of its frames the streams of the outputs are kept, and the first
-- instant at which an assertion fails.
pub record IsPlayed (parts : Parts) (rows : List (List Value)) (playing : Playing) : Type 0 where
  pub stands : StandsFor parts rows playing.runner
  pub streams : playing.streams ≡ map (stream_in stands.frames) parts.outputs
  pub failed : playing.failed ≡ first_failure (asserted parts stands.frames)

-- Lines of these edges are added: over these rows of inputs, those of each run.
pub record AddsLines (parts : Parts) (rows : List (List Value)) (ids : List EdgeId)
    (old new : List ℕ) : Type 0 where
  pub each : (frames : List (List Value)) → IsRun parts.width parts.edges rows frames
      → new ≡ old ++ edge_lines parts frames ids

-- the values at a place of each row
abbrev pub column : ℕ → List (List Value) → List Value
column place rows = map (λ row. slice_index_or row place (Truth false)) rows

-- a line for each of these edges, with the values of its stream
abbrev pub stream_lines : Parts → List EdgeId → List (List Value) → List ℕ
stream_lines parts ids streams = flat_map (λ p. edge_line parts p.0 p.1) (zip ids streams)

-- the text of a test stands behind what was there
pub record IsTestBehind (parts : Parts) (test : Test) (old new : List ℕ) : Type 0 where
  pub frames : List (List Value)
  pub run : IsRun parts.width parts.edges (input_rows parts test) frames
  pub text : new ≡ old ++ test_text parts test.name frames
