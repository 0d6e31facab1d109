-- What `score` prints of a source: the score over its network, by runs with the source's streams.
use Rattle.std.specs.Prelude.{◌≡◌, ℕ, Bool, List}
use Rattle.std.specs.List.{AllZip}
use Rattle.dep_paths.specs.Duties.{Planned}
use Rattle.node_expand.specs.Law.{MainRunsWith}
use Rattle.node_expand.specs.Streams.{Stream}
use Rattle.op_network.specs.declared.test.Test.{Test}
use Rattle.score_table.specs.Runs.{IsTestRun, TestRun}
use Rattle.cov_station.specs.RunText.{AreInputsOf}
use Rattle.cov_station.specs.Scores.{report_text}
use Rattle.cov_station.specs.Sources.{Source, net}

-- The run of the source's network over a test, how many of its instants count, and what it covers of
-- a plan. In its frames the variables of main have the streams of the source.
pub record IsSourceRun (source : Source) (plan : Planned) (test : Test) (run : TestRun)
    : Type 0 where
  pub counted : IsTestRun (net source) plan test run
  pub ins : List Stream
  pub inputs : AreInputsOf source test ins
  pub streams : MainRunsWith source.program source.main test.instants ins run.frames

-- The bytes are the text of these tests' score over the plan, as JSON or not, by the runs of the
-- tests.
pub record ScoreText (source : Source) (plan : Planned) (tests : List Test) (json : Bool)
    (text : List ℕ) : Type 0 where
  pub runs : List TestRun
  pub ran : AllZip (IsSourceRun source plan) tests runs
  pub printed : text ≡ report_text json (net source).edges plan tests runs
