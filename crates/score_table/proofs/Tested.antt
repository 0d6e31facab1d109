-- A test's run, instant by instant.
use Rattle.std.proofs.Common.{◌≡◌, ◌≢◌, ◌⊎◌, ◌↔◌, ℕ, zero, suc, ◌+◌, ◌-◌, ◌*◌, ◌<◌, Bool, false, List, [], ◌∷◌, ◌++◌, length, get_or, take, drop, refl, sym, ap, ap₂, ◌∙◌, subst, arith, add-one, length-drop}
use Rattle.std.proofs.Math.Nat.{suc-mul}
use Rattle.std.specs.Prelude.{IsTrue, Option, Some, None, replicate, slice_get}
use Rattle.std.specs.List.{All}
use Rattle.std.proofs.lemmas.List.{length-take-le, take_more}
use Rattle.std.proofs.lemmas.List.Elements.{All-nil, All-push}
use Rattle.std.proofs.lemmas.Option.{get_or_from_slice_get, slice_get_within}
use Rattle.dep_paths.specs.Activation.{Frames}
use Rattle.dep_paths.specs.Coverage.{Met}
use Rattle.dep_paths.specs.Duties.{Planned}
use Rattle.lus_causality.specs.Causality.{HasNoCycle}
use Rattle.lus_causality.proofs.Frames.{found_at}
use Rattle.lus_causality.proofs.Runs.{one_run, run_of_front, some_run}
use Rattle.op_network.specs.declared.edge.Edge.{Edge}
use Rattle.op_network.specs.declared.edge.Parts.{Parts}
use Rattle.op_network.specs.declared.test.Test.{Test}
use Rattle.op_network.specs.declared.value.Value.{Value}
use Rattle.op_network.specs.Admissible.{AssertsHold}
use Rattle.op_network.specs.Run.{IsRun, IsRunAfter, rows}
use Rattle.op_network.specs.Valid.{IsValid}
use Rattle.stream_run.specs.Runs.{Extends, Running, StandsFor, last_after}
use Rattle.stream_run.proofs.Keeping.{kept_by_asserts}
use Rattle.score_table.specs.declared.watch.Watch.{Watch}
use Rattle.score_table.specs.Rows.{IsRowOf}
use Rattle.score_table.specs.Runs.{AreMarks, test_rows}
use Rattle.score_table.specs.Watching.{MarksLast, Watches}
use Rattle.score_table.proofs.Marks.{marks_long, marks_more, no_marks, up_to}

-- the first t instants are done: all assertions held, and what they meet is marked
pub record Tested (parts : Parts) (plan : Planned) (test : Test) (t : ℕ) (runner : Running) (rest : List Value) (watch : Watch) (covered : List Bool) : Type 0 where
  pub frames : Frames
  pub run : IsRun parts.width parts.edges (test_rows parts test) frames
  pub stands : StandsFor parts (take t (test_rows parts test)) runner
  pub instant : runner.instant ≡ t
  pub size : length runner.frame ≡ length parts.edges
  pub later : rows (length parts.inputs) (test.instants - t) rest ≡ drop t (test_rows parts test)
  pub room : length rest ≡ (test.instants - t) * length parts.inputs
  pub hold : All (AssertsHold parts) (take t frames)
  pub seen : Watches parts plan (take t frames) watch
  pub marked : AreMarks parts plan (up_to frames t) covered

rows_length : (width n : ℕ) (values : List Value) → length (rows width n values) ≡ n
rows_length width zero values = refl
rows_length width (suc n) values = ap suc (rows_length width n (drop width values))

run_length : (width : ℕ) (edges : List Edge) (before : Option (List Value)) (rows frames : List (List Value)) → IsRunAfter width edges before rows frames → length frames ≡ length rows
run_length width edges before [] [] run = refl
run_length width edges before [] (f ∷ frames) run = elim run [ ]
run_length width edges before (r ∷ rows) [] run = elim run [ ]
run_length width edges before (r ∷ rows) (f ∷ frames) run = ap suc (run_length width edges (Some f) rows frames run.1)

frame_count : (parts : Parts) (test : Test) (frames : Frames) → IsRun parts.width parts.edges (test_rows parts test) frames → length frames ≡ test.instants
frame_count parts test frames run = run_length parts.width parts.edges None (test_rows parts test) frames run ∙ rows_length (length parts.inputs) test.instants test.values

pub tested_none : (parts : Parts) (plan : Planned) (test : Test) (runner : Running) (rest : List Value) (watch : Watch) (covered : List Bool) → IsValid parts → HasNoCycle parts.edges
    → StandsFor parts [] runner → length runner.frame ≡ length parts.edges → rest ≡ test.values → length test.values ≡ test.instants * length parts.inputs
    → Watches parts plan [] watch → covered ≡ replicate (length plan.duties) false
    → Tested parts plan test 0 runner rest watch covered
tested_none parts plan test runner rest watch covered valid acyclic stands size whole room seen empty =
    let some = some_run parts (test_rows parts test) valid acyclic in
    record {
      frames = some.0;
      run = some.1;
      stands = stands;
      instant = stands.instant;
      size = size;
      later = ap₂ (λ n (values : List Value). rows (length parts.inputs) n values) (let e : test.instants - 0 ≡ test.instants = omega arith in e) whole;
      room = ap length whole ∙ room ∙ ap (λ n. n * length parts.inputs) (let e : test.instants ≡ test.instants - 0 = omega arith in e);
      hold = All-nil (AssertsHold parts);
      seen = seen;
      marked = subst (AreMarks parts plan (up_to some.0 0)) (sym empty) (no_marks parts plan some.0);
    }

-- what stands at a place of a list, from the rest of the list there
taken_more : (xs : List (List Value)) (t : ℕ) (y : List Value) (ys : List (List Value)) → drop t xs ≡ y ∷ ys → take (suc t) xs ≡ take t xs ++ y ∷ []
taken_more [] zero y ys is = absurd (cc)
taken_more [] (suc t) y ys is = absurd (cc)
taken_more (x ∷ xs) zero y ys is = ap (λ (z : List Value). z ∷ []) (let e : x ≡ y = cc in e)
taken_more (x ∷ xs) (suc t) y ys is = ap (λ (l : List (List Value)). x ∷ l) (taken_more xs t y ys is)

dropped_more : (xs : List (List Value)) (t : ℕ) (y : List Value) (ys : List (List Value)) → drop t xs ≡ y ∷ ys → drop (suc t) xs ≡ ys
dropped_more [] zero y ys is = absurd (cc)
dropped_more [] (suc t) y ys is = absurd (cc)
dropped_more (x ∷ xs) zero y ys is = cc
dropped_more (x ∷ xs) (suc t) y ys is = dropped_more xs t y ys is

-- the inputs of the instant, and those behind it
next_row : (width n t : ℕ) (rest : List Value) (all : List (List Value)) → t < n → rows width (n - t) rest ≡ drop t all → drop t all ≡ take width rest ∷ rows width (n - (t + 1)) (drop width rest)
next_row width n t rest all lt is = sym is ∙ ap (λ k. rows width k rest) (let e : n - t ≡ suc (n - (t + 1)) = omega (arith, lt) in e)

rows_more : (parts : Parts) (test : Test) (t : ℕ) (rest inputs : List Value) → t < test.instants → inputs ≡ take (length parts.inputs) rest → rows (length parts.inputs) (test.instants - t) rest ≡ drop t (test_rows parts test)
    → take (t + 1) (test_rows parts test) ≡ take t (test_rows parts test) ++ inputs ∷ []
rows_more parts test t rest inputs lt front is =
    ap (λ n. take n (test_rows parts test)) (add-one t)
    ∙ taken_more (test_rows parts test) t _ _ (next_row (length parts.inputs) test.instants t rest (test_rows parts test) lt is)
    ∙ ap (λ (row : List Value). take t (test_rows parts test) ++ row ∷ []) (sym front)

later_more : (parts : Parts) (test : Test) (t : ℕ) (rest rest' : List Value) → t < test.instants → rest' ≡ drop (length parts.inputs) rest → rows (length parts.inputs) (test.instants - t) rest ≡ drop t (test_rows parts test)
    → rows (length parts.inputs) (test.instants - (t + 1)) rest' ≡ drop (t + 1) (test_rows parts test)
later_more parts test t rest rest' lt back is =
    ap (λ (values : List Value). rows (length parts.inputs) (test.instants - (t + 1)) values) back
    ∙ sym (dropped_more (test_rows parts test) t _ _ (next_row (length parts.inputs) test.instants t rest (test_rows parts test) lt is))
    ∙ ap (λ n. drop n (test_rows parts test)) (sym (add-one t))

room_more : (width n t : ℕ) (rest rest' : List Value) → t < n → rest' ≡ drop width rest → length rest ≡ (n - t) * width → length rest' ≡ (n - (t + 1)) * width
room_more width n t rest rest' lt back room =
    let more : length rest ≡ suc (n - (t + 1)) * width = room ∙ ap (λ k. k * width) (let e : n - t ≡ suc (n - (t + 1)) = omega (arith, lt) in e) in
    let product = suc-mul (n - (t + 1)) width in
    let size = ap length back ∙ length-drop width rest in
    omega (arith, more, product, size)

last_of_front : (before : Option (List Value)) (frames : Frames) (t : ℕ) (frame : List Value) → slice_get frames t ≡ Some frame → last_after before (take (suc t) frames) ≡ Some frame
last_of_front before [] t frame is = absurd (cc)
last_of_front before (f ∷ frames) zero frame is = is
last_of_front before (f ∷ frames) (suc t) frame is = last_of_front (Some f) frames t frame is

-- the frame of the runner is that of the run
frame_is : (parts : Parts) (test : Test) (frames : Frames) (t : ℕ) (runner : Running) → IsValid parts → HasNoCycle parts.edges → t < test.instants → IsRun parts.width parts.edges (test_rows parts test) frames
    → StandsFor parts (take (t + 1) (test_rows parts test)) runner → slice_get frames t ≡ Some runner.frame
frame_is parts test frames t runner valid acyclic lt run stands =
    let same : stands.frames ≡ take (t + 1) frames = one_run parts (take (t + 1) (test_rows parts test)) stands.frames (take (t + 1) frames) valid acyclic stands.run (run_of_front parts.width parts.edges (t + 1) (test_rows parts test) frames run) in
    let count = frame_count parts test frames run in
    let at = found_at frames t (omega (arith, lt, count)) in
    let last = ap (last_after None) same ∙ ap (λ n. last_after None (take n frames)) (add-one t) ∙ last_of_front None frames t at.0 at.1 in
    at.1 ∙ ap Some (sym (stands.last at.0 last))

stands_more : (parts : Parts) (plan : Planned) (test : Test) (t : ℕ) (runner runner' : Running) (rest inputs : List Value) (watch : Watch) (covered : List Bool) → t < test.instants → inputs ≡ take (length parts.inputs) rest
    → Tested parts plan test t runner rest watch covered → Extends (StandsFor parts) inputs runner runner' → StandsFor parts (take (t + 1) (test_rows parts test)) runner'
stands_more parts plan test t runner runner' rest inputs watch covered lt front h more =
    subst (λ (l : List (List Value)). StandsFor parts l runner') (sym (rows_more parts test t rest inputs lt front h.later)) (more (take t (test_rows parts test)) h.stands)

frame_more : (parts : Parts) (plan : Planned) (test : Test) (t : ℕ) (runner runner' : Running) (rest inputs : List Value) (watch : Watch) (covered : List Bool) → IsValid parts → HasNoCycle parts.edges → t < test.instants → inputs ≡ take (length parts.inputs) rest
    → (h : Tested parts plan test t runner rest watch covered) → Extends (StandsFor parts) inputs runner runner' → slice_get h.frames t ≡ Some runner'.frame
frame_more parts plan test t runner runner' rest inputs watch covered valid acyclic lt front h more =
    frame_is parts test h.frames t runner' valid acyclic lt h.run (stands_more parts plan test t runner runner' rest inputs watch covered lt front h more)

-- an assertion fails at the next instant: t instants count
pub tested_stopped : (parts : Parts) (plan : Planned) (test : Test) (t : ℕ) (runner runner' : Running) (rest inputs : List Value) (watch : Watch) (covered : List Bool) → IsValid parts → HasNoCycle parts.edges → t < test.instants → inputs ≡ take (length parts.inputs) rest
    → Tested parts plan test t runner rest watch covered → Extends (StandsFor parts) inputs runner runner' → (AssertsHold parts runner'.frame → ⊥) → IsRowOf parts plan test (record { covered = covered; kept = t })
tested_stopped parts plan test t runner runner' rest inputs watch covered valid acyclic lt front h more fails =
    let next = frame_more parts plan test t runner runner' rest inputs watch covered valid acyclic lt front h more in
    record {
      run = record { frames = h.frames; kept = t; covered = covered };
      ran = record {
        ran = h.run;
        kept = kept_by_asserts parts (test_rows parts test) h.frames t valid acyclic h.run (record {
          within = let count = frame_count parts test h.frames h.run in omega (arith, count, lt);
          hold = h.hold;
          fail = λ frame at asserts. fails (subst (AssertsHold parts) (let e : frame ≡ runner'.frame = cc in e) asserts);
        });
        marks = h.marked;
      };
      is = refl;
    }

-- all instants are done
pub tested_whole : (parts : Parts) (plan : Planned) (test : Test) (t : ℕ) (runner : Running) (rest : List Value) (watch : Watch) (covered : List Bool) → IsValid parts → HasNoCycle parts.edges → t ≡ test.instants
    → Tested parts plan test t runner rest watch covered → IsRowOf parts plan test (record { covered = covered; kept = test.instants })
tested_whole parts plan test t runner rest watch covered valid acyclic whole h =
    let count = frame_count parts test h.frames h.run in
    subst (λ n. IsRowOf parts plan test (record { covered = covered; kept = n })) whole (record {
      run = record { frames = h.frames; kept = t; covered = covered };
      ran = record {
        ran = h.run;
        kept = kept_by_asserts parts (test_rows parts test) h.frames t valid acyclic h.run (record {
          within = omega (arith, count, whole);
          hold = h.hold;
          fail = λ frame at asserts. let lt = slice_get_within h.frames t frame at in absurd (omega (arith, lt, count, whole));
        });
        marks = h.marked;
      };
      is = refl;
    })

-- the frames up to the next instant
next_is : (frames : Frames) (t : ℕ) (frame : List Value) → slice_get frames t ≡ Some frame → take (t + 1) frames ≡ take t frames ++ frame ∷ []
next_is frames t frame is = take_more frames t frame (slice_get_within frames t frame is) ∙ ap (λ (f : List Value). take t frames ++ f ∷ []) (get_or_from_slice_get frames t frame frame is)

-- the marks of the next instant, of which the frames up to it tell
marked_more : (parts : Parts) (plan : Planned) (frames : Frames) (t : ℕ) (covered covered' : List Bool) → t < length frames → AreMarks parts plan (up_to frames t) covered → length covered' ≡ length plan.duties
    → ((k : ℕ) → MarksLast parts plan (take (t + 1) frames) k (get_or covered k false) (get_or covered' k false))
    → AreMarks parts plan (up_to frames (t + 1)) covered'
marked_more parts plan frames t covered covered' lt marked wide each =
    let size = length-take-le (t + 1) frames (omega (arith, lt)) in
    let last : length (take (t + 1) frames) - 1 ≡ t = omega (arith, size) in
    marks_more parts plan frames t covered covered' marked wide (λ k duty there.
    subst (λ u. IsTrue (get_or covered' k false) ↔ (IsTrue (get_or covered k false) ⊎ Met parts plan (take (t + 1) frames) duty u)) last (each k duty there))

-- one instant more, at which all assertions hold
pub tested_more : (parts : Parts) (plan : Planned) (test : Test) (t : ℕ) (runner runner' : Running) (rest rest' inputs : List Value) (watch watch' : Watch) (covered covered' : List Bool) → IsValid parts → HasNoCycle parts.edges
    → t < test.instants → inputs ≡ take (length parts.inputs) rest → rest' ≡ drop (length parts.inputs) rest
    → Tested parts plan test t runner rest watch covered → Extends (StandsFor parts) inputs runner runner' → runner'.instant ≡ runner.instant + 1 → length runner'.frame ≡ length parts.edges → AssertsHold parts runner'.frame
    → ((frames : Frames) → Watches parts plan frames watch → Watches parts plan (frames ++ runner'.frame ∷ []) watch')
    → length covered' ≡ length plan.duties
    → ((frames : Frames) → Watches parts plan frames watch' → frames ≢ [] → (k : ℕ) → MarksLast parts plan frames k (get_or covered k false) (get_or covered' k false))
    → Tested parts plan test (t + 1) runner' rest' watch' covered'
tested_more parts plan test t runner runner' rest rest' inputs watch watch' covered covered' valid acyclic lt front back h more instant size asserts steps wide marked =
    let next = frame_more parts plan test t runner runner' rest inputs watch covered valid acyclic lt front h more in
    let count = frame_count parts test h.frames h.run in
    let within : t < length h.frames = omega (arith, count, lt) in
    let long = length-take-le (t + 1) h.frames (omega (arith, within)) in
    let seen : Watches parts plan (take (t + 1) h.frames) watch' = subst (λ (l : Frames). Watches parts plan l watch') (sym (next_is h.frames t runner'.frame next)) (steps (take t h.frames) h.seen) in
    record {
      frames = h.frames;
      run = h.run;
      stands = stands_more parts plan test t runner runner' rest inputs watch covered lt front h more;
      instant = instant ∙ ap (λ n. n + 1) h.instant;
      size = size;
      later = later_more parts test t rest rest' lt back h.later;
      room = room_more (length parts.inputs) test.instants t rest rest' lt back h.room;
      hold = subst (All (AssertsHold parts)) (sym (next_is h.frames t runner'.frame next)) (All-push (AssertsHold parts) (take t h.frames) runner'.frame h.hold asserts);
      seen = seen;
      marked = marked_more parts plan h.frames t covered covered' within h.marked wide (marked (take (t + 1) h.frames) seen (λ none. let empty = ap length none in absurd (omega (arith, empty, long))));
    }

-- there are marks for all obligations
pub tested_wide : (parts : Parts) (plan : Planned) (test : Test) (t : ℕ) (runner : Running) (rest : List Value) (watch : Watch) (covered : List Bool) → Tested parts plan test t runner rest watch covered → length covered ≡ length plan.duties
tested_wide parts plan test t runner rest watch covered h = marks_long parts plan (up_to h.frames t) covered h.marked
