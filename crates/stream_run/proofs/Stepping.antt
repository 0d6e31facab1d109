-- A runner after one more instant.
use Rattle.std.proofs.Common.{◌≡◌, ℕ, suc, zero, ◌+◌, List, [], ◌∷◌, ◌++◌, length, refl, sym, ap, ◌∙◌, subst, arith, length-append}
use Rattle.std.specs.Prelude.{Option, Some, None}
use Rattle.op_network.specs.declared.edge.Edge.{Edge}
use Rattle.op_network.specs.declared.edge.Parts.{Parts}
use Rattle.op_network.specs.declared.value.Value.{Value}
use Rattle.op_network.specs.Run.{IsFrame, IsRunAfter, IsRun}
use Rattle.stream_run.specs.Runs.{Running, StandsFor, last_after, past}

pub stands_for_none : (parts : Parts) (runner : Running) → runner.instant ≡ 0 → StandsFor parts [] runner
stands_for_none parts runner is = record { frames = []; run = tt; instant = is; last = λ frame none. absurd (cc) }

pub run_more : (width : ℕ) (edges : List Edge) (before : Option (List Value)) (rows frames : List (List Value)) (inputs frame : List Value) → IsRunAfter width edges before rows frames → IsFrame width edges (last_after before frames) inputs frame → IsRunAfter width edges before (rows ++ inputs ∷ []) (frames ++ frame ∷ [])
run_more width edges before [] [] inputs frame run is = (is, tt)
run_more width edges before [] (f ∷ frames) inputs frame run is = elim run [ ]
run_more width edges before (r ∷ rows) [] inputs frame run is = elim run [ ]
run_more width edges before (r ∷ rows) (f ∷ frames) inputs frame run is = (run.0, run_more width edges (Some f) rows frames inputs frame run.1 is)

pub last_more : (before : Option (List Value)) (frames : List (List Value)) (frame : List Value) → last_after before (frames ++ frame ∷ []) ≡ Some frame
last_more before [] frame = refl
last_more before (f ∷ frames) frame = last_more (Some f) frames frame

some_last : (f : List Value) (frames : List (List Value)) → (l : List Value) × (last_after (Some f) frames ≡ Some l)
some_last f [] = (f, refl)
some_last f (g ∷ frames) = some_last g frames

-- the frame of the instant before is the last of the run so far
past_is : (width : ℕ) (edges : List Edge) (rows frames : List (List Value)) (instant : ℕ) (frame : List Value) → IsRun width edges rows frames → instant ≡ length rows → ((f : List Value) → last_after None frames ≡ Some f → frame ≡ f) → past instant frame ≡ last_after None frames
past_is width edges [] [] zero frame run is last = refl
past_is width edges [] [] (suc n) frame run is last = absurd (omega (arith, is))
past_is width edges [] (f ∷ frames) n frame run is last = elim run [ ]
past_is width edges (r ∷ rows) [] n frame run is last = elim run [ ]
past_is width edges (r ∷ rows) (f ∷ frames) zero frame run is last = absurd (omega (arith, is))
past_is width edges (r ∷ rows) (f ∷ frames) (suc n) frame run is last = let k = some_last f frames in ap Some (last k.0 k.1) ∙ sym k.1

pub stands_for_more : (parts : Parts) (rows : List (List Value)) (inputs : List Value) (old new : Running) → IsFrame parts.width parts.edges (past old.instant old.frame) inputs new.frame → new.instant ≡ old.instant + 1 → StandsFor parts rows old → StandsFor parts (rows ++ inputs ∷ []) new
stands_for_more parts rows inputs old new is next h = record {
  frames = h.frames ++ new.frame ∷ [];
  run = run_more parts.width parts.edges None rows h.frames inputs new.frame h.run (subst (λ b. IsFrame parts.width parts.edges b inputs new.frame) (past_is parts.width parts.edges rows h.frames old.instant old.frame h.run h.instant h.last) is);
  instant = next ∙ ap (λ n. n + 1) h.instant ∙ sym (length-append rows (inputs ∷ []));
  last = λ frame found. one (last_more None h.frames new.frame) found;
}
  where
    one : {o : Option (List Value)} {x y : List Value} → o ≡ Some x → o ≡ Some y → x ≡ y
    one h k = cc
