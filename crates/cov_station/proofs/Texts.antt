-- The text of tests, one behind the other.
use Rattle.std.proofs.Common.{◌≡◌, List, [], ◌∷◌, ◌++◌, ℕ, sym, ap, ◌∙◌, subst, append_assoc, codes}
use Rattle.std.proofs.lemmas.List.{append-nil}
use Rattle.op_network.specs.declared.edge.Parts.{Parts}
use Rattle.op_network.specs.declared.test.Test.{Test}
use Rattle.op_network.specs.declared.value.Value.{Value}
use Rattle.op_network.specs.Run.{IsRun}
use Rattle.cov_station.specs.declared.runs.playing.Playing.{Playing}
use Rattle.cov_station.specs.Failures.{failure_line, first_failure}
use Rattle.cov_station.specs.NetworkText.{NetworkText, no_tests, more_tests, asserted, edge_lines, input_rows, test_text}
use Rattle.cov_station.specs.Playing.{AddsLines, IsPlayed, IsTestBehind, stream_lines}
use Rattle.cov_station.proofs.GrowingStreams.{lines_in}

text_more : (parts : Parts) (tests : List Test) (text : List ℕ) (test : Test) (frames : List (List Value))
    → IsRun parts.width parts.edges (input_rows parts test) frames → NetworkText parts tests text
    → NetworkText parts (tests ++ test ∷ []) (text ++ test_text parts test.name frames)
text_more parts [] [] test frames run no_tests =
    subst (NetworkText parts (test ∷ [])) (append-nil (test_text parts test.name frames)) (more_tests frames run no_tests)
text_more parts _ _ test frames run (more_tests {test = t} {tests = tests} {text = text} first first_run rest) =
    subst (NetworkText parts (t ∷ (tests ++ test ∷ [])))
    (sym (append_assoc (test_text parts t.name first) text (test_text parts test.name frames)))
    (more_tests first first_run (text_more parts tests text test frames run rest))

-- one test more
pub test_behind : (parts : Parts) (tests more : List Test) (test : Test) (old new : List ℕ)
    → more ≡ tests ++ test ∷ [] → IsTestBehind parts test old new → NetworkText parts tests old → NetworkText parts more new
test_behind parts tests more test old new is behind text =
    let t = text_more parts tests old test behind.frames behind.run text in
    subst (λ l. NetworkText parts l new) (sym is)
    (subst (NetworkText parts (tests ++ test ∷ [])) (sym behind.text) t)

-- the text of a test was added, part by part
pub test_added : (parts : Parts) (test : Test) (playing : Playing) (old named with_inputs with_lines new : List ℕ)
    → named ≡ old ++ (codes "test " ++ (test.name ++ 10 ∷ []))
    → AddsLines parts (input_rows parts test) parts.inputs named with_inputs
    → IsPlayed parts (input_rows parts test) playing
    → with_lines ≡ with_inputs ++ stream_lines parts parts.outputs playing.streams
    → new ≡ with_lines ++ failure_line playing.failed
    → IsTestBehind parts test old new
test_added parts test playing old named with_inputs with_lines new a b played c d =
    let frames = played.stands.frames in
    let begin : List ℕ = codes "test " in
    let ins : List ℕ = edge_lines parts frames parts.inputs in
    let outs : List ℕ = edge_lines parts frames parts.outputs in
    let lines : stream_lines parts parts.outputs playing.streams ≡ outs =
    ap (stream_lines parts parts.outputs) played.streams ∙ lines_in parts frames parts.outputs in
    let last : List ℕ = failure_line (first_failure (asserted parts frames)) in
    record {
      frames = frames;
      run = played.stands.run;
      text = d ∙ ap (λ o. with_lines ++ failure_line o) played.failed
          ∙ ap (λ w. w ++ last) (c ∙ ap (λ w. with_inputs ++ w) lines ∙ ap (λ w. w ++ outs) (b.each frames played.stands.run ∙ ap (λ w. w ++ ins) a))
          ∙ joined old begin test.name ins outs last;
    }
  where
    joined : (old begin name ins outs last : List ℕ)
        → (((old ++ (begin ++ (name ++ 10 ∷ []))) ++ ins) ++ outs) ++ last ≡ old ++ (begin ++ (name ++ 10 ∷ (ins ++ (outs ++ last))))
    joined old begin name ins outs last = simp append_assoc
