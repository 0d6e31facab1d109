-- A test that goes on by one instant.
use Rattle.std.proofs.Common.{◌≡◌, ℕ, suc, ◌+◌, ◌-◌, List, [], ◌∷◌, ◌++◌, length, map, refl, sym, ap, ◌∙◌, arith}
use Rattle.std.specs.Prelude.{Option, Some, None}
use Rattle.op_network.specs.declared.edge.Edge.{Edge}
use Rattle.op_network.specs.declared.edge.EdgeId.{EdgeId}
use Rattle.op_network.specs.declared.edge.Parts.{Parts}
use Rattle.op_network.specs.declared.value.Value.{Value}
use Rattle.op_network.specs.Run.{IsRunAfter}
use Rattle.op_network.specs.Valid.{IsValid}
use Rattle.lus_causality.specs.Causality.{HasNoCycle}
use Rattle.lus_causality.specs.Laws.{OneRun}
use Rattle.stream_run.specs.Runs.{StandsFor}
use Rattle.cov_station.specs.declared.runs.playing.Playing.{Playing}
use Rattle.cov_station.specs.Failures.{first_failure}
use Rattle.cov_station.specs.NetworkText.{are_asserted, asserted, stream_in}
use Rattle.cov_station.specs.Playing.{GoOnBy, IsPlayed, failure_after}
use Rattle.cov_station.proofs.Failures.{asserted_more, failure_more}
use Rattle.cov_station.proofs.Frames.{frames_more}

no_frames : (width : ℕ) (edges : List Edge) (before : Option (List Value)) (frames : List (List Value))
    → IsRunAfter width edges before [] frames → frames ≡ []
no_frames width edges before [] run = refl
no_frames width edges before (f ∷ frames) run = absurd run

frames_count : (width : ℕ) (edges : List Edge) (before : Option (List Value)) (rows frames : List (List Value))
    → IsRunAfter width edges before rows frames → length frames ≡ length rows
frames_count width edges before [] [] run = refl
frames_count width edges before [] (f ∷ frames) run = absurd run
frames_count width edges before (r ∷ rows) [] run = absurd run
frames_count width edges before (r ∷ rows) (f ∷ frames) run = ap suc (frames_count width edges (Some f) rows frames run.1)

length-asserted : (parts : Parts) (frames : List (List Value)) → length (asserted parts frames) ≡ length frames
length-asserted parts [] = refl
length-asserted parts (f ∷ frames) = ap suc (length-asserted parts frames)

pub begun : (parts : Parts) (ids : List EdgeId) (playing : Playing) → ids ≡ parts.outputs → StandsFor parts [] playing.runner
    → playing.streams ≡ map (stream_in []) ids → playing.failed ≡ None → IsPlayed parts [] playing
begun parts ids playing same stands streams failed =
    let none = no_frames parts.width parts.edges None stands.frames stands.run in
    record {
      stands = stands;
      streams = streams ∙ ap (map (stream_in [])) same ∙ ap (λ fs. map (stream_in fs) parts.outputs) (sym none);
      failed = failed ∙ ap (λ fs. first_failure (asserted parts fs)) (sym none);
    }

pub played_more : (parts : Parts) (rows : List (List Value)) (row : List Value) (old new : Playing)
    → OneRun → IsValid parts → HasNoCycle parts.edges
    → (StandsFor parts rows old.runner → StandsFor parts (rows ++ row ∷ []) new.runner)
    → new.runner.instant ≡ old.runner.instant + 1
    → GoOnBy new.runner.frame parts.outputs old.streams new.streams
    → new.failed ≡ failure_after old.failed (are_asserted parts new.runner.frame) (new.runner.instant - 1)
    → IsPlayed parts rows old → IsPlayed parts (rows ++ row ∷ []) new
played_more parts rows row old new one valid acyclic goes next streams failed played =
    let a = played.stands in
    let b : StandsFor parts (rows ++ row ∷ []) new.runner = goes a in
    let frame = new.runner.frame in
    let more : b.frames ≡ a.frames ++ frame ∷ [] = frames_more parts rows row old.runner new.runner one valid acyclic a b in
    let count = frames_count parts.width parts.edges None rows a.frames a.run in
    let n : new.runner.instant - 1 ≡ length (asserted parts a.frames) = omega (arith, next, a.instant, count, length-asserted parts a.frames) in
    record {
      stands = b;
      streams = streams.each a.frames played.streams ∙ ap (λ fs. map (stream_in fs) parts.outputs) (sym more);
      failed = failed ∙ ap (λ o. failure_after o (are_asserted parts frame) (new.runner.instant - 1)) played.failed
          ∙ sym (failure_more (asserted parts a.frames) (are_asserted parts frame) (new.runner.instant - 1) n)
          ∙ ap first_failure (sym (asserted_more parts a.frames frame))
          ∙ ap (λ fs. first_failure (asserted parts fs)) (sym more);
    }
