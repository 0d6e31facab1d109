-- A source and tests have one text.
use Rattle.std.specs.List.{AllZip}
use Rattle.std.proofs.Common.{◌≡◌, ◌≤◌, ◌∙◌, ℕ, zero, suc, List, [], ◌∷◌, ◌++◌, length, map, drop, refl, sym, subst, ap, ap₂, arith}
use Rattle.std.proofs.lemmas.List.{length-map}
use Rattle.std.specs.Prelude.{Bool, Option, Ok}
use Rattle.lus_causality.specs.Causality.{HasNoCycle}
use Rattle.lus_types.specs.Names.{Name}
use Rattle.node_expand.specs.Law.{AreInputs, KeepsStreamsIn, NetworkRun, stream_in}
use Rattle.node_expand.specs.NodeRuns.{NodeRun}
use Rattle.node_expand.specs.Streams.{HaveLength, Stream, all_true, first_value, rows_of}
use Rattle.op_network.specs.declared.edge.Parts.{Parts}
use Rattle.op_network.specs.declared.limits.TheConstants.{LEAST_WIDTH, MOST_WIDTH}
use Rattle.op_network.specs.declared.test.Test.{Test}
use Rattle.op_network.specs.Run.{rows}
use Rattle.op_network.specs.Valid.{IsValid}
use Rattle.dep_paths.specs.Duties.{Planned}
use Rattle.score_table.specs.Runs.{AreTestRuns, TestRun}
use Rattle.score_table.proofs.OneTestRun.{one_list}
use Rattle.cov_station.specs.RunText.{AreInputsOf, RunText, more_tests, no_tests, test_text}
use Rattle.cov_station.specs.Scores.{report_text}
use Rattle.cov_station.specs.ScoreText.{IsSourceRun, ScoreText}
use Rattle.cov_station.specs.Sources.{Compiles, Source, expands, has_types, is_causal, is_uncrowded, lexes, net, parses}
use Rattle.cov_station.specs.Steps.{goes_on}
use Rattle.cov_station.proofs.Below.{is_valid, keeps_streams, one_run}

-- what is known of a source that a text has
pub record IsSound (source : Source) : Type 0 where
  pub valid : IsValid (net source)
  pub no_cycle : HasNoCycle (net source).edges
  pub keeps : KeepsStreamsIn source.program source.main (net source)

pub sound : (text : List ℕ) (width : ℕ) (main : Option Name) (source : Source) → LEAST_WIDTH ≤ width → width ≤ MOST_WIDTH
    → Compiles text width main (Ok source) → IsSound source
sound text width main source narrowest widest (goes_on (lexes {tokens = tokens} cut) (goes_on (is_uncrowded none) (goes_on (parses {tree = tree} d) (goes_on (has_types place accepted) (goes_on (expands shallow few) (is_causal causal)))))) = record {
  valid = is_valid tree width place main (record { text = text; tokens = tokens; cut = cut; derived = d }) narrowest widest accepted shallow few;
  no_cycle = causal;
  keeps = keeps_streams tree width place main accepted shallow;
}

-- ---- streams with the same rows are the same

tails_have_length : (n : ℕ) (streams : List Stream) → HaveLength (suc n) streams → HaveLength n (map (drop 1) streams)
tails_have_length n [] long = tt
tails_have_length n ([] ∷ streams) long = absurd (let e : 0 ≡ suc n = long.0 in omega arith)
tails_have_length n ((v ∷ s) ∷ streams) long = (let e : length (v ∷ s) ≡ suc n = long.0 in omega arith, tails_have_length n streams long.1)

one_stream : (n : ℕ) (s r : Stream) → length s ≡ suc n → length r ≡ suc n → first_value s ≡ first_value r → drop 1 s ≡ drop 1 r → s ≡ r
one_stream n [] r e f g h = absurd (omega arith)
one_stream n (v ∷ s) [] e f g h = absurd (omega arith)
one_stream n (v ∷ s) (w ∷ r) e f g h = ap₂ (λ v s. v ∷ s) g h

heads_and_tails : (n : ℕ) (a b : List Stream) → HaveLength (suc n) a → HaveLength (suc n) b
    → map first_value a ≡ map first_value b → map (drop 1) a ≡ map (drop 1) b → a ≡ b
heads_and_tails n [] [] long long' heads tails = refl
heads_and_tails n [] (r ∷ b) long long' heads tails = absurd (cc)
heads_and_tails n (s ∷ a) [] long long' heads tails = absurd (cc)
heads_and_tails n (s ∷ a) (r ∷ b) long long' heads tails =
    let head : first_value s ≡ first_value r = cc heads in
    let tail : drop 1 s ≡ drop 1 r = cc tails in
    let more_heads : map first_value a ≡ map first_value b = cc heads in
    let more_tails : map (drop 1) a ≡ map (drop 1) b = cc tails in
    ap₂ (λ s a. s ∷ a) (one_stream n s r long.0 long'.0 head tail) (heads_and_tails n a b long.1 long'.1 more_heads more_tails)

empty_streams : (a b : List Stream) → HaveLength 0 a → HaveLength 0 b → length a ≡ length b → a ≡ b
empty_streams [] [] long long' e = refl
empty_streams [] (r ∷ b) long long' e = absurd (omega arith)
empty_streams (s ∷ a) [] long long' e = absurd (omega arith)
empty_streams ([] ∷ a) ([] ∷ b) long long' e = ap (λ a. [] ∷ a) (empty_streams a b long.1 long'.1 (omega arith))
empty_streams ((v ∷ s) ∷ a) (r ∷ b) long long' e = absurd (let e : length (v ∷ s) ≡ 0 = long.0 in omega arith)
empty_streams ([] ∷ a) ((w ∷ r) ∷ b) long long' e = absurd (let e : length (w ∷ r) ≡ 0 = long'.0 in omega arith)

same_streams : (n : ℕ) (a b : List Stream) → HaveLength n a → HaveLength n b → length a ≡ length b → rows_of n a ≡ rows_of n b → a ≡ b
same_streams zero a b long long' count e = empty_streams a b long long' count
same_streams (suc n) a b long long' count e =
    let heads : map first_value a ≡ map first_value b = cc e in
    let rest : rows_of n (map (drop 1) a) ≡ rows_of n (map (drop 1) b) = cc e in
    let same_count : length (map (drop 1) a) ≡ length (map (drop 1) b) = length-map a (drop 1) ∙ (count ∙ sym (length-map b (drop 1))) in
    heads_and_tails n a b long long' heads
    (same_streams n (map (drop 1) a) (map (drop 1) b) (tails_have_length n a long) (tails_have_length n b long') same_count rest)

one_input : (source : Source) (test : Test) (a b : List Stream) → AreInputsOf source test a → AreInputsOf source test b → a ≡ b
one_input source test a b p q = same_streams test.instants a b p.lengths q.lengths (p.count ∙ sym q.count) (p.values ∙ sym q.values)

-- ---- the text of `run`

-- a network without a cycle has one run over these inputs
one_network_run : (parts : Parts) (n : ℕ) (ins outs outs' : List Stream) (ok ok' : List Bool) → IsValid parts → HasNoCycle parts.edges
    → NetworkRun parts n ins outs ok → NetworkRun parts n ins outs' ok' → (outs ≡ outs') × (ok ≡ ok')
one_network_run parts n ins outs outs' ok ok' valid none r s =
    let same = one_run parts (rows_of n ins) r.frames s.frames valid none r.run s.run in (
      r.outputs ∙ (ap (λ frames. map (stream_in frames) parts.outputs) same ∙ sym s.outputs),
      r.asserted ∙ (ap (λ frames. all_true n (map (stream_in frames) parts.asserts)) same ∙ sym s.asserted),
    )

one_node_run : (source : Source) (test : Test) (ins outs outs' : List Stream) (ok ok' : List Bool) → IsSound source → AreInputsOf source test ins
    → NodeRun source.program source.main test.instants ins outs ok → NodeRun source.program source.main test.instants ins outs' ok'
    → (outs ≡ outs') × (ok ≡ ok')
one_node_run source test ins outs outs' ok ok' is are r s =
    let inputs_are : AreInputs source.program source.main test.instants ins = record { count = are.count; lengths = are.lengths } in
    one_network_run (net source) test.instants ins outs outs' ok ok' is.valid is.no_cycle
    ((is.keeps test.instants ins outs ok inputs_are).0 r) ((is.keeps test.instants ins outs' ok' inputs_are).0 s)

one_test_text : (source : Source) (test : Test) (ins ins' outs outs' : List Stream) (ok ok' : List Bool) → IsSound source
    → AreInputsOf source test ins → AreInputsOf source test ins'
    → NodeRun source.program source.main test.instants ins outs ok → NodeRun source.program source.main test.instants ins' outs' ok'
    → test_text source test ins outs ok ≡ test_text source test ins' outs' ok'
one_test_text source test ins ins' outs outs' ok ok' is are are' r s =
    let same = one_input source test ins ins' are are' in
    let run = one_node_run source test ins outs outs' ok ok' is are r (subst (λ ins. NodeRun source.program source.main test.instants ins outs' ok') (sym same) s) in
    let outs_are = run.0 in
    let ok_is = run.1 in
    ap (λ ins. test_text source test ins outs ok) same
    ∙ (ap (λ outs. test_text source test ins' outs ok) outs_are
    ∙ ap (λ ok. test_text source test ins' outs' ok) ok_is)

pub one_run_text : (source : Source) (tests : List Test) (text other : List ℕ) → IsSound source → RunText source tests text → RunText source tests other → text ≡ other
one_run_text source tests text other is no_tests no_tests = refl
one_run_text source tests text other is (more_tests {test = test} {tests = rest} {text = more} ins outs ok are r m) (more_tests {text = more'} ins' outs' ok' are' s m') =
    ap₂ (λ a b. a ++ b) (one_test_text source test ins ins' outs outs' ok ok' is are are' r s) (one_run_text source rest more more' is m m')

-- ---- the text of `score`

counted : (source : Source) (plan : Planned) (tests : List Test) (runs : List TestRun) → AllZip (IsSourceRun source plan) tests runs → AreTestRuns (net source) plan tests runs
counted source plan [] [] p = tt
counted source plan [] (run ∷ runs) p = absurd p
counted source plan (test ∷ tests) [] p = absurd p
counted source plan (test ∷ tests) (run ∷ runs) p = (p.0.counted, counted source plan tests runs p.1)

pub one_score_text : (source : Source) (plan : Planned) (tests : List Test) (json : Bool) (text other : List ℕ) → IsSound source
    → ScoreText source plan tests json text → ScoreText source plan tests json other → text ≡ other
one_score_text source plan tests json text other is p q =
    let same = one_list (net source) plan tests p.runs q.runs is.valid is.no_cycle (counted source plan tests p.runs p.ran) (counted source plan tests q.runs q.ran) in
    p.printed ∙ (ap (report_text json (net source).edges plan tests) same ∙ sym q.printed)
