-- The search for what leads to an edge, and for the least edge on a cycle.
use Rattle.std.proofs.Common.{◌≡◌, ◌≢◌, ◌⊎◌, inl, inr, ⊎_elim, ℕ, suc, zero, ◌+◌, ◌<◌, ◌≤◌, Bool, true, false, List, [], ◌∷◌, ◌++◌, length, take, set, get_or, refl, sym, ap, ◌∙◌, subst, arith, add-one, append_assoc}
use Rattle.std.proofs.Math.ListN.{length-set}
use Rattle.std.proofs.lemmas.List.{append-nil}
use Rattle.std.proofs.lemmas.Bool.{cases_eq, cases_lt}
use Rattle.std.specs.Prelude.{Option, Some, slice_get, replicate}
use Rattle.op_network.specs.declared.edge.EdgeId.{EdgeId}
use Rattle.op_network.specs.declared.edge.Edge.{Edge}
use Rattle.lus_causality.specs.declared.sequence.Taken.{Taken}
use Rattle.lus_causality.specs.Causality.{operands_now, IsOnCycle, IsLeastOnCycle}
use Rattle.lus_causality.specs.Marks.{IsMarked}
use Rattle.lus_causality.specs.Search.{IsFoundOrTaken, LeadsTo, LeadsFrom, IsSearch, IsFurther, HasOperands, AreFollowed, NoneBelow, IsCyclic}
use Rattle.lus_causality.specs.Taking.{IsTakenList}
use Rattle.std.specs.List.{Contains}
use Rattle.std.proofs.lemmas.List.Elements.{Contains-push, Contains-append_left}
use Rattle.lus_causality.proofs.Places.{none}
use Rattle.lus_causality.proofs.Causal.{place_in, place_below, causal_of, off_cycle}
use Rattle.lus_causality.proofs.Chains.{set_other, set_here}
use Rattle.lus_causality.proofs.Cycles.{AreDistinct, few, from_any, on_cycle, closed_has}
use Rattle.lus_causality.proofs.Growing.{in_push, distinct_push, unmarked_at_first, length-unmarked}
use Rattle.lus_causality.proofs.Reading.{take_one, take_whole, in_at}

pub same_further : (found : Taken) → IsFurther found found
same_further found = record { rest = []; is = sym (append-nil found.sequence) }

pub further : (a b c : Taken) → IsFurther a b → IsFurther b c → IsFurther a c
further a b c h k = record { rest = h.rest ++ k.rest; is = k.is ∙ ap (λ l. l ++ k.rest) h.is ∙ append_assoc a.sequence h.rest k.rest }

still : (old new : Taken) (o : EdgeId) → IsFurther old new → Contains old.sequence o → Contains new.sequence o
still old new o h i = subst (λ l. Contains l o) (sym h.is) (Contains-append_left old.sequence h.rest o i)

pub found_already : (edges : List Edge) (taken : List Bool) (e o : EdgeId) (found : Taken) → get_or found.marks o.0 false ≡ true → IsSearch edges e found → IsFoundOrTaken taken found o
found_already edges taken e o found m h = inl (h.found_at o m)

pub taken_already : (taken : List Bool) (o : EdgeId) (found : Taken) → get_or taken o.0 false ≡ true → IsFoundOrTaken taken found o
taken_already taken o found m = inr m

still_found : (taken : List Bool) (old new : Taken) (o : EdgeId) → IsFurther old new → IsFoundOrTaken taken old o → IsFoundOrTaken taken new o
still_found taken old new o more (inl i) = inl (still old new o more i)
still_found taken old new o more (inr m) = inr m

pub one_further : (old new : Taken) (o : EdgeId) → new.sequence ≡ old.sequence ++ o ∷ [] → IsFurther old new
one_further old new o is = record { rest = o ∷ []; is = is }

pub last_found : (taken : List Bool) (old new : Taken) (o : EdgeId) → new.sequence ≡ old.sequence ++ o ∷ [] → IsFoundOrTaken taken new o
last_found taken old new o is = inl (subst (λ l. Contains l o) (sym is) (Contains-push old.sequence o))

pub found_now : (edges : List Edge) (e o : EdgeId) (old new : Taken) → o.0 < length edges → LeadsTo edges o e → get_or old.marks o.0 false ≡ false → new.sequence ≡ old.sequence ++ o ∷ [] → new.marks ≡ set old.marks o.0 true → IsSearch edges e old → IsSearch edges e new
found_now edges e o old new within leads unmarked sequence marks h = record {
  size = ap length marks ∙ length-set old.marks o.0 true ∙ h.size;
  marked = λ x i. ⊎_elim (λ same. subst (IsMarked new.marks) (sym same) marked_o) (λ k. still_marked x (h.marked x k)) (in_push x o old.sequence (subst (λ l. Contains l x) sequence i));
  found_at = λ x m. subst (λ l. Contains l x) (sym sequence) (⊎_elim (λ same. subst (λ y. Contains (old.sequence ++ o ∷ []) y) (sym same) (Contains-push old.sequence o)) (λ k. Contains-append_left old.sequence (o ∷ []) x (h.found_at x k)) (was_marked x m));
  within = λ x i. ⊎_elim (λ same. subst (λ (y : EdgeId). y.0 < length edges) (sym same) within) (λ k. h.within x k) (in_push x o old.sequence (subst (λ l. Contains l x) sequence i));
  distinct = subst AreDistinct (sym sequence) (distinct_push o old.sequence (λ i. let m = h.marked o i in absurd (cc)) h.distinct);
  leads = λ x i. ⊎_elim (λ same. subst (λ y. LeadsTo edges y e) (sym same) leads) (λ k. h.leads x k) (in_push x o old.sequence (subst (λ l. Contains l x) sequence i));
}
  where
    marked_o : IsMarked new.marks o
    marked_o = ap (λ l. get_or l o.0 false) marks ∙ set_here old.marks o.0 true false (subst (λ n. o.0 < n) (sym h.size) within)

    at_other : (x : ℕ) → x ≢ o.0 → get_or new.marks x false ≡ get_or old.marks x false
    at_other x apart = ap (λ l. get_or l x false) marks ∙ set_other old.marks x o.0 true false apart

    still_marked : (x : EdgeId) → IsMarked old.marks x → IsMarked new.marks x
    still_marked x m = ⊎_elim (λ same. ap (λ n. get_or new.marks n false) same ∙ marked_o) (λ apart. at_other x.0 apart ∙ m) (cases_eq x.0 o.0)

    was_marked : (x : EdgeId) → IsMarked new.marks x → (x ≡ o) ⊎ IsMarked old.marks x
    was_marked x m = ⊎_elim (λ same. inl (ap (λ n. record { 0 = n }) same)) (λ apart. inr (sym (at_other x.0 apart) ∙ m)) (cases_eq x.0 o.0)

-- the operands of an edge, port by port
pub no_operand : (taken : List Bool) (ops : List EdgeId) (found : Taken) → HasOperands taken (take 0 ops) found
no_operand taken [] found = record { each = λ o i. none o i }
no_operand taken (x ∷ ops) found = record { each = λ o i. none o i }

pub one_operand : (taken : List Bool) (ops : List EdgeId) (i : ℕ) (x : EdgeId) (old new : Taken) → slice_get ops i ≡ Some x → IsFurther old new → IsFoundOrTaken taken new x → HasOperands taken (take i ops) old → HasOperands taken (take (i + 1) ops) new
one_operand taken ops i x old new is more has h = subst (λ n. HasOperands taken (take n ops) new) (sym (add-one i)) (record {
  each = λ o k. ⊎_elim (λ same. subst (IsFoundOrTaken taken new) (sym same) has) (λ j. still_found taken old new o more (h.each o j)) (take_one o ops i x is k);
})

pub all_operands : (taken : List Bool) (ops : List EdgeId) (i : ℕ) (found : Taken) → length ops ≤ i → HasOperands taken (take i ops) found → HasOperands taken ops found
all_operands taken ops i found le h = subst (λ l. HasOperands taken l found) (take_whole ops i le) h

pub leads_on : (edges : List Edge) (b e o : EdgeId) (i : ℕ) → slice_get (operands_now edges b) i ≡ Some o → LeadsFrom edges b e → LeadsTo edges o e
leads_on edges b e o i is h = h.each o (in_at (operands_now edges b) i o is)

pub from_itself : (edges : List Edge) (e : EdgeId) → LeadsFrom edges e e
from_itself edges e = record { each = λ o i. ([], i) }

pub from_found : (edges : List Edge) (e b : EdgeId) (i : ℕ) (found : Taken) → slice_get found.sequence i ≡ Some b → IsSearch edges e found → LeadsFrom edges b e
from_found edges e b i found is h =
    let k = h.leads b (in_at found.sequence i b is) in
    record { each = λ o j. (b ∷ k.0, (j, k.1)) }

pub no_search : (edges : List Edge) (e : EdgeId) (found : Taken) → found.sequence ≡ [] → found.marks ≡ replicate (length edges) false → IsSearch edges e found
no_search edges e found empty marks = record {
  size = ap length marks ∙ length-unmarked (length edges);
  marked = λ o i. none o (subst (λ l. Contains l o) empty i);
  found_at = λ o m. absurd (let k = ap (λ l. get_or l o.0 false) marks ∙ unmarked_at_first (length edges) o.0 in cc);
  within = λ o i. none o (subst (λ l. Contains l o) empty i);
  distinct = subst AreDistinct (sym empty) (λ i j d lt within. absurd (omega (arith, within)));
  leads = λ o i. none o (subst (λ l. Contains l o) empty i);
}

pub none_followed : (edges : List Edge) (taken : List Bool) (found : Taken) → AreFollowed edges taken found 0
none_followed edges taken found = record { each = λ j b lt is. absurd (omega (arith, lt)) }

pub get_left : (xs ys : List EdgeId) (j : ℕ) (b : EdgeId) → j < length xs → slice_get (xs ++ ys) j ≡ Some b → slice_get xs j ≡ Some b
get_left [] ys j b lt is = absurd (omega (arith, lt))
get_left (x ∷ xs) ys zero b lt is = is
get_left (x ∷ xs) ys (suc j) b lt is = get_left xs ys j b (omega (arith, lt)) is

pub one_followed : (edges : List Edge) (taken : List Bool) (i : ℕ) (b : EdgeId) (old new : Taken) → i < length old.sequence → slice_get old.sequence i ≡ Some b → IsFurther old new → HasOperands taken (operands_now edges b) new → AreFollowed edges taken old i → AreFollowed edges taken new (i + 1)
one_followed edges taken i b old new lt is more has h = record {
  each = λ j x below found. ⊎_elim
      (λ same. subst (λ y. HasOperands taken (operands_now edges y) new) (one (was j x found (omega (arith, same, lt))) (ap (slice_get old.sequence) same ∙ is)) has)
      (λ apart. record { each = λ o k. still_found taken old new o more ((h.each j x (omega (arith, below, apart)) (was j x found (omega (arith, below, apart, lt)))).each o k) })
      (cases_eq j i);
}
  where
    was : (j : ℕ) (x : EdgeId) → slice_get new.sequence j ≡ Some x → j < length old.sequence → slice_get old.sequence j ≡ Some x
    was j x found below = get_left old.sequence more.rest j x below (ap (λ l. slice_get l j) (sym more.is) ∙ found)

    one : {o : Option EdgeId} {x y : EdgeId} → o ≡ Some x → o ≡ Some y → y ≡ x
    one h k = cc

pub found_few : (edges : List Edge) (e : EdgeId) (found : Taken) → IsSearch edges e found → length found.sequence ≤ length edges
found_few edges e found h = few (length edges) found.sequence h.distinct h.within

-- an edge that was taken lies on no cycle
pub taken_off : (edges : List Edge) (taken : Taken) (e : EdgeId) → IsTakenList edges taken → get_or taken.marks e.0 false ≡ true → IsOnCycle edges e → ⊥
taken_off edges taken e h m lies = off_cycle edges taken.sequence (causal_of edges taken.sequence h.least) e (h.taken_at e m) lies

-- the operands of what was taken were taken
taken_operands : (edges : List Edge) (taken : Taken) → IsTakenList edges taken → (b : EdgeId) → IsMarked taken.marks b → (o : EdgeId) → Contains (operands_now edges b) o → IsMarked taken.marks o
taken_operands edges taken h b m o k =
    let p = place_in b taken.sequence (h.taken_at b m) in
    let below = place_below o taken.sequence p.0 ((h.least p.0 b p.2).stands.operands o k) in
    h.marked o (in_at taken.sequence below.0 o below.2)

pub searched : (edges : List Edge) (taken : Taken) (e : EdgeId) (found : Taken) (i : ℕ) → IsTakenList edges taken → get_or taken.marks e.0 false ≡ false → length found.sequence ≤ i → IsSearch edges e found → HasOperands taken.marks (operands_now edges e) found → AreFollowed edges taken.marks found i → (IsMarked found.marks e → IsOnCycle edges e) × (IsOnCycle edges e → IsMarked found.marks e)
searched edges taken e found i list left full h first all = (
  (λ m. let k = h.leads e (h.found_at e m) in on_cycle edges e k.0 k.1),
  (λ lies. let w = from_any edges e lies in
      ⊎_elim (λ in_found. h.marked e in_found) (λ m. absurd (cc))
      (closed_has edges e (IsFoundOrTaken taken.marks found) first.each (λ b has o k. next b has o k) e w.0 w.1)),
)
  where
    next : (b : EdgeId) → IsFoundOrTaken taken.marks found b → (o : EdgeId) → Contains (operands_now edges b) o → IsFoundOrTaken taken.marks found o
    next b (inl has) o k = let p = place_in b found.sequence has in (all.each p.0 b (let lt = p.1 in omega (arith, lt, full)) p.2).each o k
    next b (inr m) o k = inr (taken_operands edges taken list b m o k)

-- edge by edge
pub none_at_first : (edges : List Edge) → NoneBelow edges 0
none_at_first edges = record { none = λ e lt lies. absurd (omega (arith, lt)) }

pub none_more : (edges : List Edge) (k : ℕ) (e : EdgeId) → e.0 ≡ k → (IsOnCycle edges e → ⊥) → NoneBelow edges k → NoneBelow edges (k + 1)
none_more edges k e is not h = record {
  none = λ x lt lies. ⊎_elim (λ same. not (subst (IsOnCycle edges) (let s : x ≡ e = ap (λ n. record { 0 = n }) (same ∙ sym is) in s) lies)) (λ apart. h.none x (omega (arith, lt, apart)) lies) (cases_eq x.0 k);
}

pub least_found : (edges : List Edge) (k : ℕ) (e : EdgeId) → e.0 ≡ k → IsOnCycle edges e → NoneBelow edges k → IsLeastOnCycle edges e
least_found edges k e is lies h = record { lies = lies; least = λ other on. ⊎_elim (λ lt. absurd (h.none other (omega (arith, lt, is)) on)) (λ le. le) (cases_lt other.0 e.0) }

pub some_is : (edges : List Edge) (k : ℕ) → length edges ≤ k → IsCyclic edges → NoneBelow edges k → ⊥
some_is edges k full cyclic h = h.none cyclic.edge (let lt = cyclic.within in omega (arith, lt, full)) cyclic.lies

pub at_place : (items xs : List EdgeId) (i : ℕ) (d : EdgeId) → items ≡ xs → i < length xs → slice_get xs i ≡ Some (get_or items i d)
at_place items xs i d same lt = subst (λ l. slice_get xs i ≡ Some (get_or l i d)) (sym same) (found xs i lt)
  where
    found : (xs : List EdgeId) (i : ℕ) → i < length xs → slice_get xs i ≡ Some (get_or xs i d)
    found [] i lt = absurd (omega (arith, lt))
    found (x ∷ xs) zero lt = refl
    found (x ∷ xs) (suc i) lt = found xs i (omega (arith, lt))

pub still_has : (taken : List Bool) (ops : List EdgeId) (old new : Taken) → IsFurther old new → HasOperands taken ops old → HasOperands taken ops new
still_has taken ops old new more h = record { each = λ o i. still_found taken old new o more (h.each o i) }
