-- The longest admissible prefix, from the frames of the run.
use Rattle.std.proofs.Common.{◌≡◌, ⊎_elim, ℕ, zero, suc, ◌<◌, ◌≤◌, List, [], ◌∷◌, length, take, get_or, refl, ap, subst, arith}
use Rattle.std.proofs.lemmas.Bool.{cases_lt}
use Rattle.std.specs.Prelude.{Option, Some, None, slice_get}
use Rattle.std.specs.List.{All}
use Rattle.op_network.specs.declared.edge.Edge.{Edge}
use Rattle.op_network.specs.declared.edge.Parts.{Parts}
use Rattle.op_network.specs.declared.value.Value.{Value}
use Rattle.op_network.specs.Admissible.{AssertsHold, IsAdmissible, IsKept}
use Rattle.op_network.specs.Run.{IsRun, IsRunAfter}
use Rattle.op_network.specs.Valid.{IsValid}
use Rattle.lus_causality.specs.Causality.{HasNoCycle}
use Rattle.stream_run.specs.Laws.{HoldBefore}
use Rattle.lus_causality.proofs.Frames.{found_at}
use Rattle.lus_causality.proofs.Runs.{one_run, run_of_front}

run_length : (width : ℕ) (edges : List Edge) (before : Option (List Value)) (rows frames : List (List Value)) → IsRunAfter width edges before rows frames → length frames ≡ length rows
run_length width edges before [] [] run = refl
run_length width edges before [] (f ∷ frames) run = elim run [ ]
run_length width edges before (r ∷ rows) [] run = elim run [ ]
run_length width edges before (r ∷ rows) (f ∷ frames) run = ap suc (run_length width edges (Some f) rows frames run.1)

in_front : (xs : List (List Value)) (k n : ℕ) (x : List Value) → n < k → slice_get xs n ≡ Some x → (n < length (take k xs)) × (get_or (take k xs) n x ≡ x)
in_front [] k n x lt is = absurd (cc)
in_front (y ∷ xs) zero n x lt is = absurd (omega (arith, lt))
in_front (y ∷ xs) (suc k) zero x lt is = (omega arith, (let e : y ≡ x = cc in e))
in_front (y ∷ xs) (suc k) (suc n) x lt is = let h = in_front xs k n x (omega (arith, lt)) is in let below = h.0 in (omega (arith, below), h.1)

pub kept_by_asserts : (parts : Parts) (rows frames : List (List Value)) (n : ℕ) → IsValid parts → HasNoCycle parts.edges → IsRun parts.width parts.edges rows frames → HoldBefore parts frames n → IsKept parts rows n
kept_by_asserts parts rows frames n valid acyclic run is = record {
  within = let le = is.within in omega (arith, le, run_length parts.width parts.edges None rows frames run);
  admissible = record { frames = take n frames; run = run_of_front parts.width parts.edges n rows frames run; asserts = is.hold };
  longest = λ k below h. ⊎_elim (λ lt. absurd (longer k lt below h)) (λ ge. ge) (cases_lt n k);
}
  where
    longer : (k : ℕ) → n < k → k ≤ length rows → IsAdmissible parts (take k rows) → ⊥
    longer k lt below h =
        let same = one_run parts (take k rows) h.frames (take k frames) valid acyclic h.run (run_of_front parts.width parts.edges k rows frames run) in
        let size = run_length parts.width parts.edges None rows frames run in
        let at = found_at frames n (omega (arith, lt, below, size)) in
        let front = in_front frames k n at.0 lt at.1 in
        is.fail at.0 at.1 (subst (AssertsHold parts) front.1 (subst (All (AssertsHold parts)) same h.asserts n at.0 front.0))

pub one_kept : (parts : Parts) (rows : List (List Value)) (m n : ℕ) → IsKept parts rows m → IsKept parts rows n → m ≡ n
one_kept parts rows m n h k = let a = k.longest m h.within h.admissible in let b = h.longest n k.within k.admissible in omega (arith, a, b)
