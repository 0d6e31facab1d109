-- Edges that are seen one by one with all that leads to them.
use Rattle.std.proofs.Common.{◌≡◌, ◌≢◌, ◌⊎◌, inl, inr, ⊎_elim, ℕ, ◌+◌, ◌<◌, ◌≤◌, Bool, true, false, List, [], ◌∷◌, ◌++◌, length, take, set, get_or, sym, ap, ◌∙◌, subst, arith, add-one}
use Rattle.std.proofs.Math.ListN.{length-set}
use Rattle.std.proofs.lemmas.Bool.{cases_eq}
use Rattle.std.specs.Prelude.{Option, Some, slice_get, replicate}
use Rattle.op_network.specs.declared.edge.EdgeId.{EdgeId}
use Rattle.op_network.specs.declared.edge.Edge.{Edge}
use Rattle.lus_causality.specs.declared.sequence.Taken.{Taken}
use Rattle.lus_causality.specs.Causality.{operands_now, IsOnCycle}
use Rattle.lus_causality.specs.Marks.{IsMarked, AreMarked}
use Rattle.lus_causality.specs.Search.{IsFurther}
use Rattle.lus_causality.specs.Seen.{AreFollowedBelow, AreListed, AreOff, IsClosed, IsListed, IsMarkedList}
use Rattle.std.specs.List.{Contains}
use Rattle.std.proofs.lemmas.List.Elements.{Contains-push, Contains-append_left}
use Rattle.lus_causality.proofs.Places.{none}
use Rattle.lus_causality.proofs.Causal.{place_in}
use Rattle.lus_causality.proofs.Chains.{set_other, set_here}
use Rattle.lus_causality.proofs.Cycles.{AreDistinct, few, from_any, closed_has}
use Rattle.lus_causality.proofs.Growing.{in_push, distinct_push, unmarked_at_first, length-unmarked}
use Rattle.lus_causality.proofs.Reading.{take_one, take_whole, in_at}
use Rattle.lus_causality.proofs.Searching.{get_left}

still : (old new : Taken) (o : EdgeId) → IsFurther old new → Contains old.sequence o → Contains new.sequence o
still old new o h i = subst (λ l. Contains l o) (sym h.is) (Contains-append_left old.sequence h.rest o i)

pub listed_already : (edges : List Edge) (o : EdgeId) (seen : Taken) → get_or seen.marks o.0 false ≡ true → IsMarkedList edges seen → IsListed seen o
listed_already edges o seen m h = record { is = h.listed o m }

pub last_listed : (old new : Taken) (o : EdgeId) → new.sequence ≡ old.sequence ++ o ∷ [] → IsListed new o
last_listed old new o is = record { is = subst (λ l. Contains l o) (sym is) (Contains-push old.sequence o) }

-- one edge more
pub listed_now : (edges : List Edge) (o : EdgeId) (old new : Taken) → o.0 < length edges → get_or old.marks o.0 false ≡ false → new.sequence ≡ old.sequence ++ o ∷ [] → new.marks ≡ set old.marks o.0 true → IsMarkedList edges old → IsMarkedList edges new
listed_now edges o old new within unmarked sequence marks h = record {
  size = ap length marks ∙ length-set old.marks o.0 true ∙ h.size;
  marked = λ x i. ⊎_elim (λ same. subst (IsMarked new.marks) (sym same) marked_o) (λ k. still_marked x (h.marked x k)) (in_push x o old.sequence (subst (λ l. Contains l x) sequence i));
  listed = λ x m. subst (λ l. Contains l x) (sym sequence) (⊎_elim (λ same. subst (λ y. Contains (old.sequence ++ o ∷ []) y) (sym same) (Contains-push old.sequence o)) (λ k. Contains-append_left old.sequence (o ∷ []) x (h.listed x k)) (was_marked x m));
  within = λ x i. ⊎_elim (λ same. subst (λ (y : EdgeId). y.0 < length edges) (sym same) within) (λ k. h.within x k) (in_push x o old.sequence (subst (λ l. Contains l x) sequence i));
  distinct = subst AreDistinct (sym sequence) (distinct_push o old.sequence (λ i. let m = h.marked o i in absurd (cc)) h.distinct);
}
  where
    marked_o : IsMarked new.marks o
    marked_o = ap (λ l. get_or l o.0 false) marks ∙ set_here old.marks o.0 true false (subst (λ n. o.0 < n) (sym h.size) within)

    at_other : (x : ℕ) → x ≢ o.0 → get_or new.marks x false ≡ get_or old.marks x false
    at_other x apart = ap (λ l. get_or l x false) marks ∙ set_other old.marks x o.0 true false apart

    still_marked : (x : EdgeId) → IsMarked old.marks x → IsMarked new.marks x
    still_marked x m = ⊎_elim (λ same. ap (λ n. get_or new.marks n false) same ∙ marked_o) (λ apart. at_other x.0 apart ∙ m) (cases_eq x.0 o.0)

    was_marked : (x : EdgeId) → IsMarked new.marks x → (x ≡ o) ⊎ IsMarked old.marks x
    was_marked x m = ⊎_elim (λ same. inl (ap (λ n. record { 0 = n }) same)) (λ apart. inr (sym (at_other x.0 apart) ∙ m)) (cases_eq x.0 o.0)

-- ---- the operands of an edge, port by port

pub none_listed : (ops : List EdgeId) (seen : Taken) → AreListed (take 0 ops) seen
none_listed [] seen = record { each = λ o i. none o i }
none_listed (x ∷ ops) seen = record { each = λ o i. none o i }

pub one_listed : (ops : List EdgeId) (i : ℕ) (x : EdgeId) (old new : Taken) → slice_get ops i ≡ Some x → IsFurther old new → IsListed new x → AreListed (take i ops) old → AreListed (take (i + 1) ops) new
one_listed ops i x old new is more has h = subst (λ n. AreListed (take n ops) new) (sym (add-one i)) (record {
  each = λ o k. ⊎_elim (λ same. subst (Contains new.sequence) (sym same) has.is) (λ j. still old new o more (h.each o j)) (take_one o ops i x is k);
})

pub all_listed : (ops : List EdgeId) (i : ℕ) (seen : Taken) → length ops ≤ i → AreListed (take i ops) seen → AreListed ops seen
all_listed ops i seen le h = subst (λ l. AreListed l seen) (take_whole ops i le) h

-- ---- the list, edge by edge

followed_in : (edges : List Edge) (i : ℕ) (old new : Taken) → i ≤ length old.sequence → IsFurther old new → AreFollowedBelow edges old i → AreFollowedBelow edges new i
followed_in edges i old new le more h = record {
  each = λ j b below is. record { each = λ o k. still old new o more ((h.each j b below (get_left old.sequence more.rest j b (omega (arith, below, le)) (ap (λ l. slice_get l j) (sym more.is) ∙ is))).each o k) };
}

pub one_followed : (edges : List Edge) (i : ℕ) (b : EdgeId) (old new : Taken) → i < length old.sequence → slice_get old.sequence i ≡ Some b → IsFurther old new → AreListed (operands_now edges b) new → AreFollowedBelow edges old i → AreFollowedBelow edges new (i + 1)
one_followed edges i b old new lt is more has h = record {
  each = λ j x below found. ⊎_elim
      (λ same. subst (λ y. AreListed (operands_now edges y) new) (one (was j x found (omega (arith, same, lt))) (ap (slice_get old.sequence) same ∙ is)) has)
      (λ apart. (followed_in edges i old new (omega (arith, lt)) more h).each j x (omega (arith, below, apart)) found)
      (cases_eq j i);
}
  where
    was : (j : ℕ) (x : EdgeId) → slice_get new.sequence j ≡ Some x → j < length old.sequence → slice_get old.sequence j ≡ Some x
    was j x found below = get_left old.sequence more.rest j x below (ap (λ l. slice_get l j) (sym more.is) ∙ found)

    one : {o : Option EdgeId} {x y : EdgeId} → o ≡ Some x → o ≡ Some y → y ≡ x
    one h k = cc

pub all_followed : (edges : List Edge) (i : ℕ) (seen : Taken) → length seen.sequence ≤ i → AreFollowedBelow edges seen i → IsClosed edges seen
all_followed edges i seen full h = record { each = λ b has. let p = place_in b seen.sequence has in h.each p.0 b (let lt = p.1 in omega (arith, lt, full)) p.2 }

pub seen_few : (edges : List Edge) (seen : Taken) → IsMarkedList edges seen → length seen.sequence ≤ length edges
seen_few edges seen h = few (length edges) seen.sequence h.distinct h.within

-- what was closed is followed in a longer list
pub still_followed : (edges : List Edge) (o : EdgeId) (old new : Taken) (i : ℕ) → i ≡ length old.sequence → new.sequence ≡ old.sequence ++ o ∷ [] → IsClosed edges old → AreFollowedBelow edges new i
still_followed edges o old new i size sequence h = record {
  each = λ j b below is. record { each = λ x k. still old new x more ((h.each b (in_at old.sequence j b (get_left old.sequence (o ∷ []) j b (omega (arith, below, size)) (ap (λ l. slice_get l j) (sym sequence) ∙ is)))).each x k) };
}
  where
    more : IsFurther old new
    more = record { rest = o ∷ []; is = sequence }

-- ---- edges that lie on no cycle

-- an edge that is not in a closed list with its operands lies on no cycle
off_now : (edges : List Edge) (e : EdgeId) (seen : Taken) → get_or seen.marks e.0 false ≡ false → AreMarked (operands_now edges e) seen.marks → IsMarkedList edges seen → IsClosed edges seen → IsOnCycle edges e → ⊥
off_now edges e seen unmarked operands list closed lies =
    let w = from_any edges e lies in
    let has = closed_has edges e (Contains seen.sequence) (λ o k. list.listed o (operands.each o k)) (λ b has o k. (closed.each b has).each o k) e w.0 w.1 in
    let m = list.marked e has in absurd (cc)

pub now_off : (edges : List Edge) (e : EdgeId) (seen : Taken) (old new : List Bool) → e.0 < length edges → get_or seen.marks e.0 false ≡ false → AreMarked (operands_now edges e) seen.marks → IsMarkedList edges seen → IsClosed edges seen → new ≡ set old e.0 true → AreOff edges old → AreOff edges new
now_off edges e seen old new within unmarked operands list closed is h = record {
  size = ap length is ∙ length-set old e.0 true ∙ h.size;
  none = λ x m lies. ⊎_elim
      (λ same. off_now edges e seen unmarked operands list closed (subst (IsOnCycle edges) (let s : x ≡ e = ap (λ n. record { 0 = n }) same in s) lies))
      (λ apart. h.none x (sym (set_other old x.0 e.0 true false apart) ∙ sym (ap (λ l. get_or l x.0 false) is) ∙ m) lies)
      (cases_eq x.0 e.0);
}

pub none_off : (edges : List Edge) (off : List Bool) → off ≡ replicate (length edges) false → AreOff edges off
none_off edges off is = record {
  size = ap length is ∙ length-unmarked (length edges);
  none = λ e m lies. let u = ap (λ l. get_or l e.0 false) is ∙ unmarked_at_first (length edges) e.0 in absurd (cc);
}

pub none_seen : (edges : List Edge) (seen : Taken) → seen.sequence ≡ [] → seen.marks ≡ replicate (length edges) false → IsMarkedList edges seen
none_seen edges seen empty marks = record {
  size = ap length marks ∙ length-unmarked (length edges);
  marked = λ o i. none o (subst (λ l. Contains l o) empty i);
  listed = λ o m. absurd (let k = ap (λ l. get_or l o.0 false) marks ∙ unmarked_at_first (length edges) o.0 in cc);
  within = λ o i. none o (subst (λ l. Contains l o) empty i);
  distinct = subst AreDistinct (sym empty) (λ i j d lt within. absurd (omega (arith, within)));
}

pub none_open : (edges : List Edge) (seen : Taken) → seen.sequence ≡ [] → IsClosed edges seen
none_open edges seen empty = record { each = λ b has. none b (subst (λ l. Contains l b) empty has) }
