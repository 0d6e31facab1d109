-- Edges that are offered, and taken one by one.
use Rattle.std.proofs.Common.{◌≡◌, ◌≢◌, ◌⊎◌, inl, inr, ⊎_elim, ℕ, suc, zero, ◌+◌, ◌<◌, ◌≤◌, Bool, true, false, List, [], ◌∷◌, ◌++◌, length, set, get_or, refl, sym, ap, ◌∙◌, subst, arith}
use Rattle.std.proofs.Math.ListN.{length-set}
use Rattle.std.proofs.lemmas.Bool.{cases_eq, cases_Bool}
use Rattle.std.specs.Prelude.{Option, Some, None, slice_get, replicate}
use Rattle.op_network.specs.declared.edge.EdgeId.{EdgeId}
use Rattle.op_network.specs.declared.edge.Edge.{Edge}
use Rattle.lus_causality.specs.declared.sequence.Taken.{Taken}
use Rattle.lus_causality.specs.declared.readers.Read.{Read}
use Rattle.lus_causality.specs.Causality.{operands_now, CanStand, IsLeast, IsLeastFirst}
use Rattle.lus_causality.specs.Marks.{IsMarked}
use Rattle.lus_causality.specs.Sets.{IsAdded, IsTaken}
use Rattle.lus_causality.specs.Reads.{Reaches, at, on, StandsBefore, AreReads}
use Rattle.lus_causality.specs.Taking.{IsOffered, IsTakenList, IsTaking, IsTakingBut, IsStuck}
use Rattle.lus_causality.specs.Marks.{IsFree}
use Rattle.std.specs.List.{Contains}
use Rattle.std.proofs.lemmas.List.{get_or_default}
use Rattle.std.proofs.lemmas.List.Quantifiers.{all_pairs_push}
use Rattle.std.proofs.lemmas.List.Elements.{Contains-push, Contains-push_cases, Contains-append_left}
use Rattle.lus_causality.proofs.Places.{none}
use Rattle.lus_causality.proofs.Chains.{set_other, set_here}
use Rattle.lus_causality.proofs.Causal.{least_push}
use Rattle.lus_causality.proofs.Cycles.{AreDistinct, few, member}

pub offered : (edges : List Edge) (marks : List Bool) (old : List ℕ) (e : EdgeId) (new : List ℕ) → IsFree edges marks e → IsAdded old e.0 new → IsOffered edges marks old e new
offered edges marks old e new free is = record {
  each = λ q h. ⊎_elim (λ same. inr (same, free)) (λ k. inl k) (is.each q h);
  kept = is.kept;
  added = λ _. is.added;
}

pub passed_over : (edges : List Edge) (marks : List Bool) (old : List ℕ) (e : EdgeId) (new : List ℕ) → new ≡ old → (IsFree edges marks e → ⊥) → IsOffered edges marks old e new
passed_over edges marks old e new same busy = record {
  each = λ q h. inl (subst (λ l. Contains l q) same h);
  kept = λ q h. subst (λ l. Contains l q) (sym same) h;
  added = λ free. absurd (busy free);
}

-- the free edges below k are ready, at the start
pub record ReadyBelow (edges : List Edge) (marks : List Bool) (k : ℕ) (ready : List ℕ) : Type 0 where
  pub each : (q : ℕ) → Contains ready q → IsFree edges marks (record { 0 = q })
  pub all : (f : EdgeId) → IsFree edges marks f → f.0 < k → Contains ready f.0

pub ready_none : (edges : List Edge) (marks : List Bool) (ready : List ℕ) → ready ≡ [] → ReadyBelow edges marks 0 ready
ready_none edges marks ready empty = record { each = λ q h. none q (subst (λ l. Contains l q) empty h); all = λ f free lt. absurd (omega (arith, lt)) }

-- what was offered is ready if it is free
module _ (edges : List Edge) (marks : List Bool) (e : EdgeId) (old new : List ℕ) (is : IsOffered edges marks old e new) where
  offered_each : ((q : ℕ) → Contains old q → IsFree edges marks (record { 0 = q })) → (q : ℕ) → Contains new q → IsFree edges marks (record { 0 = q })
  offered_each before q h = ⊎_elim (λ k. before q k) (λ k. subst (IsFree edges marks) (let s : e ≡ record { 0 = q } = ap (λ n. record { 0 = n }) (sym k.0) in s) k.1) (is.each q h)

pub ready_one : (edges : List Edge) (marks : List Bool) (k : ℕ) (e : EdgeId) (old new : List ℕ) → e.0 ≡ k → IsOffered edges marks old e new → ReadyBelow edges marks k old → ReadyBelow edges marks (k + 1) new
ready_one edges marks k e old new same is h = record {
  each = offered_each edges marks e old new is h.each;
  all = λ f free lt. ⊎_elim
      (λ here. let s : e ≡ f = ap (λ n. record { 0 = n }) (same ∙ sym here) in subst (λ (x : EdgeId). Contains new x.0) s (is.added (subst (IsFree edges marks) (sym s) free)))
      (λ apart. is.kept f.0 (h.all f free (omega (arith, lt, apart))))
      (cases_eq f.0 k);
}

pub unmarked_at_first : (n x : ℕ) → get_or (replicate n false) x false ≡ false
unmarked_at_first zero x = refl
unmarked_at_first (suc n) zero = refl
unmarked_at_first (suc n) (suc x) = unmarked_at_first n x

pub length-unmarked : (n : ℕ) → length (replicate n false) ≡ n
length-unmarked zero = refl
length-unmarked (suc n) = ap suc (length-unmarked n)

pub ready_all : (edges : List Edge) (marks : List Bool) (k : ℕ) (ready : List ℕ) → marks ≡ replicate (length edges) false → length edges ≤ k → ReadyBelow edges marks k ready → IsTaking edges (record { sequence = []; marks = marks }) ready
ready_all edges marks k ready is full h = record {
  list = record {
    size = size;
    marked = λ e i. none e i;
    taken_at = λ e m. absurd (never e m);
    within = λ e i. none e i;
    least = λ i e found. absurd (nothing i e found);
    distinct = λ i j d lt within. absurd (omega (arith, within));
  };
  each = h.each;
  all = λ f free. h.all f free (let lt = free.within in omega (arith, lt, full));
}
  where
    size : length marks ≡ length edges
    size = ap length is ∙ length-unmarked (length edges)

    never : (e : EdgeId) → IsMarked marks e → ⊥
    never e m = let k : get_or marks e.0 false ≡ false = ap (λ l. get_or l e.0 false) is ∙ unmarked_at_first (length edges) e.0 in absurd (cc)

    nothing : (i : ℕ) (e : EdgeId) → slice_get [] i ≡ Some e → ⊥
    nothing i e found = cc

-- the free edges are ready, but for those that read the edge by a read from a place on
pub record Readying (edges : List Edge) (taken : Taken) (reads : List Read) (place : Option ℕ) (ready : List ℕ) : Type 0 where
  pub list : IsTakenList edges taken
  pub each : (q : ℕ) → Contains ready q → IsFree edges taken.marks (record { 0 = q })
  pub all : (f : EdgeId) → IsFree edges taken.marks f → Contains ready f.0 ⊎ Reaches reads f place
  pub before : StandsBefore place (length reads)

abbrev pub left_of : Option ℕ → ℕ
left_of None = 0
left_of (Some s) = suc s

pub left_less : (o : Option ℕ) (s : ℕ) → StandsBefore o s → left_of o < suc s
left_less None s h = omega arith
left_less (Some t) s h = omega (arith, h)

reach_cases : (reads : List Read) (f : EdgeId) (s : ℕ) (read : Read) → slice_get reads s ≡ Some read → Reaches reads f (Some s) → (read.reader ≡ f) ⊎ Reaches reads f read.next
reach_cases reads f s read is (at t other there_is same) = inl (let e : other ≡ read = cc in subst (λ (r : Read). r.reader ≡ f) e same)
reach_cases reads f s read is (on t other there_is h) = inr (let e : other ≡ read = cc in subst (λ (r : Read). Reaches reads f r.next) e h)

no_reach : {A : Type 0} (reads : List Read) (f : EdgeId) (o : Option ℕ) → o ≡ None → Reaches reads f o → A
no_reach reads f o ended (at s read is same) = absurd (cc)
no_reach reads f o ended (on s read is h) = absurd (cc)

wider : (o : Option ℕ) (m n : ℕ) → m ≤ n → StandsBefore o m → StandsBefore o n
wider None m n le h = tt
wider (Some t) m n le h = omega (arith, le, h)

found_before : (reads : List Read) (s : ℕ) (read : Read) → slice_get reads s ≡ Some read → s < length reads
found_before [] s read is = absurd (cc)
found_before (x ∷ reads) zero read is = omega arith
found_before (x ∷ reads) (suc s) read is = let k = found_before reads s read is in omega (arith, k)

pub start_readying : (edges : List Edge) (first : List (Option ℕ)) (reads : List Read) (taken : Taken) (e : EdgeId) (ready : List ℕ) → AreReads edges (record { first = first; reads = reads }) → IsTakingBut edges taken e ready → Readying edges taken reads (get_or first e.0 None) ready
start_readying edges first reads taken e ready are is = record {
  list = is.list;
  each = is.each;
  all = λ f free. ⊎_elim (λ h. inl h) (λ h. inr (are.each f e free.within h)) (is.all f free);
  before = are.firsts e.0;
}

pub next_readying : (edges : List Edge) (first : List (Option ℕ)) (reads : List Read) (taken : Taken) (s : ℕ) (read : Read) (old new : List ℕ) → AreReads edges (record { first = first; reads = reads }) → slice_get reads s ≡ Some read → IsOffered edges taken.marks old read.reader new → Readying edges taken reads (Some s) old → Readying edges taken reads read.next new
next_readying edges first reads taken s read old new are found is h = record {
  list = h.list;
  each = offered_each edges taken.marks read.reader old new is h.each;
  all = λ f free. ⊎_elim
      (λ k. inl (is.kept f.0 k))
      (λ k. ⊎_elim
      (λ same. inl (subst (λ (x : EdgeId). Contains new x.0) same (is.added (subst (IsFree edges taken.marks) (sym same) free))))
      (λ more. inr more)
      (reach_cases reads f s read found k))
      (h.all f free);
  before = wider read.next s (length reads) (let k = found_before reads s read found in omega (arith, k)) (are.nexts s read found);
}

pub end_readying : (edges : List Edge) (reads : List Read) (taken : Taken) (ready : List ℕ) → Readying edges taken reads None ready → IsTaking edges taken ready
end_readying edges reads taken ready h = record {
  list = h.list;
  each = h.each;
  all = λ f free. ⊎_elim (λ k. k) (λ k. no_reach reads f None refl k) (h.all f free);
}

-- an edge is free exactly where it can stand
can_stand : (edges : List Edge) (taken : Taken) (f : EdgeId) → IsTakenList edges taken → IsFree edges taken.marks f → CanStand edges taken.sequence f
can_stand edges taken f is free = record {
  within = free.within;
  new = λ i. let m = is.marked f i in let u = free.unmarked in absurd (cc);
  operands = λ o i. is.taken_at o (free.operands.each o i);
}

is_free : (edges : List Edge) (taken : Taken) (f : EdgeId) → IsTakenList edges taken → CanStand edges taken.sequence f → IsFree edges taken.marks f
is_free edges taken f is stands = record {
  within = stands.within;
  unmarked = ⊎_elim (λ m. absurd (stands.new (is.taken_at f m))) (λ u. u) (cases_Bool (get_or taken.marks f.0 false));
  operands = record { each = λ o i. is.marked o (stands.operands o i) };
}

pub in_push : (x e : EdgeId) (xs : List EdgeId) → Contains (xs ++ e ∷ []) x → (x ≡ e) ⊎ Contains xs x
in_push x e xs i = ⊎_elim (λ k. inr k) (λ same. inl (sym same)) (Contains-push_cases xs e x i)

pub distinct_push : (e : EdgeId) (xs : List EdgeId) → (Contains xs e → ⊥) → AreDistinct xs → AreDistinct (xs ++ e ∷ [])
distinct_push e xs new h = all_pairs_push (λ (a b : EdgeId). a ≢ b) xs e h (λ k d lt same. new (k, lt, get_or_default xs k e d lt ∙ same))

-- one edge more is taken
module _ (edges : List Edge) (old new : Taken) (e : EdgeId) (ready ready' : List ℕ) (h : IsTaking edges old ready) (taken : IsTaken ready e.0 ready') (sequence : new.sequence ≡ old.sequence ++ e ∷ []) (marks : new.marks ≡ set old.marks e.0 true) where
  free : IsFree edges old.marks e
  free = h.each e.0 taken.had

  e_within : e.0 < length old.marks
  e_within = subst (λ n. e.0 < n) (sym h.list.size) free.within

  marked_e : IsMarked new.marks e
  marked_e = ap (λ l. get_or l e.0 false) marks ∙ set_here old.marks e.0 true false e_within

  at_other : (x : ℕ) → x ≢ e.0 → get_or new.marks x false ≡ get_or old.marks x false
  at_other x apart = ap (λ l. get_or l x false) marks ∙ set_other old.marks x e.0 true false apart

  still_marked : (x : EdgeId) → IsMarked old.marks x → IsMarked new.marks x
  still_marked x m = ⊎_elim (λ same. ap (λ n. get_or new.marks n false) same ∙ marked_e) (λ apart. at_other x.0 apart ∙ m) (cases_eq x.0 e.0)

  was_marked : (x : EdgeId) → IsMarked new.marks x → (x ≡ e) ⊎ IsMarked old.marks x
  was_marked x m = ⊎_elim (λ same. inl (ap (λ n. record { 0 = n }) same)) (λ apart. inr (sym (at_other x.0 apart) ∙ m)) (cases_eq x.0 e.0)

  least : IsLeast edges old.sequence e
  least = record {
    stands = can_stand edges old e h.list free;
    least = λ other stands. taken.least other.0 (h.all other (is_free edges old other h.list stands));
  }

  list : IsTakenList edges new
  list = record {
    size = ap length marks ∙ length-set old.marks e.0 true ∙ h.list.size;
    marked = λ x i. ⊎_elim (λ same. subst (IsMarked new.marks) (sym same) marked_e) (λ k. still_marked x (h.list.marked x k)) (in_push x e old.sequence (subst (λ l. Contains l x) sequence i));
    taken_at = λ x m. subst (λ l. Contains l x) (sym sequence) (⊎_elim (λ same. subst (λ y. Contains (old.sequence ++ e ∷ []) y) (sym same) (Contains-push old.sequence e)) (λ k. Contains-append_left old.sequence (e ∷ []) x (h.list.taken_at x k)) (was_marked x m));
    within = λ x i. ⊎_elim (λ same. subst (λ (y : EdgeId). y.0 < length edges) (sym same) free.within) (λ k. h.list.within x k) (in_push x e old.sequence (subst (λ l. Contains l x) sequence i));
    least = subst (IsLeastFirst edges) (sym sequence) (least_push edges e old.sequence least h.list.least);
    distinct = subst AreDistinct (sym sequence) (distinct_push e old.sequence (λ i. least.stands.new i) h.list.distinct);
  }

  pub took : IsTakingBut edges new e ready'
  took = record {
    list = list;
    each = λ q i.
        let was = h.each q (taken.each q i) in
        record {
          within = was.within;
          unmarked = at_other q (λ same. taken.gone (subst (λ n. Contains ready' n) same i)) ∙ was.unmarked;
          operands = record { each = λ o k. still_marked o (was.operands.each o k) };
        };
    all = λ f is. elim (member e (operands_now edges f)) [
      | inl reads ↦ inr reads
      | inr none ↦ inl (⊎_elim
          (λ same. absurd (let m = ap (λ n. get_or new.marks n false) same ∙ marked_e in let u = is.unmarked in cc))
          (λ k. k)
          (taken.kept f.0 (h.all f (record {
            within = is.within;
            unmarked = sym (at_other f.0 (λ same. absurd (let m = ap (λ n. get_or new.marks n false) same ∙ marked_e in let u = is.unmarked in cc))) ∙ is.unmarked;
            operands = record { each = λ o k. ⊎_elim (λ same. absurd (none (subst (λ y. Contains (operands_now edges f) y) same k))) (λ m. m) (was_marked o (is.operands.each o k)) };
          }))))
    ];
  }

pub taken_few : (edges : List Edge) (taken : Taken) → IsTakenList edges taken → length taken.sequence ≤ length edges
taken_few edges taken is = few (length edges) taken.sequence is.distinct is.within

-- the least of the ready edges is an edge
pub ready_within : (edges : List Edge) (taken : Taken) (e : EdgeId) (ready ready' : List ℕ) → IsTaking edges taken ready → IsTaken ready e.0 ready' → e.0 < length edges
ready_within edges taken e ready ready' h least = (h.each e.0 least.had).within

pub ready_marked : (edges : List Edge) (taken : Taken) (e : EdgeId) (ready ready' : List ℕ) → IsTaking edges taken ready → IsTaken ready e.0 ready' → e.0 < length taken.marks
ready_marked edges taken e ready ready' h least = subst (λ n. e.0 < n) (sym h.list.size) (ready_within edges taken e ready ready' h least)

pub stuck : (edges : List Edge) (taken : Taken) (ready : List ℕ) → ready ≡ [] → IsTaking edges taken ready → IsStuck edges taken
stuck edges taken ready empty h = record { list = h.list; none = λ f free. none f.0 (subst (λ l. Contains l f.0) empty (h.all f free)) }

get_found : (reads : List Read) (s : ℕ) (d : Read) → s < length reads → slice_get reads s ≡ Some (get_or reads s d)
get_found [] s d lt = absurd (omega arith)
get_found (x ∷ reads) zero d lt = refl
get_found (x ∷ reads) (suc s) d lt = get_found reads s d (omega arith)

place_before : (edges : List Edge) (taken : Taken) (reads : List Read) (o : Option ℕ) (s : ℕ) (ready : List ℕ) → o ≡ Some s → Readying edges taken reads o ready → s < length reads
place_before edges taken reads o s ready is h = subst (λ x. StandsBefore x (length reads)) is h.before

pub next_read : (edges : List Edge) (first : List (Option ℕ)) (reads : List Read) (taken : Taken) (o : Option ℕ) (s : ℕ) (items : List Read) (marks : List Bool) (d : Read) (old new : List ℕ) → AreReads edges (record { first = first; reads = reads }) → o ≡ Some s → items ≡ reads → marks ≡ taken.marks → IsOffered edges marks old (get_or items s d).reader new → Readying edges taken reads o old → Readying edges taken reads (get_or items s d).next new
next_read edges first reads taken o s items marks d old new are is same sames offer h =
    subst (λ l. Readying edges taken reads (get_or l s d).next new) (sym same)
    (next_readying edges first reads taken s (get_or reads s d) old new are (get_found reads s d (place_before edges taken reads o s old is h))
    (subst (λ m. IsOffered edges m old (get_or reads s d).reader new) sames (subst (λ l. IsOffered edges marks old (get_or l s d).reader new) same offer))
    (subst (λ x. Readying edges taken reads x old) is h))

pub next_less : (edges : List Edge) (first : List (Option ℕ)) (reads : List Read) (taken : Taken) (o : Option ℕ) (s : ℕ) (items : List Read) (d : Read) (old : List ℕ) → AreReads edges (record { first = first; reads = reads }) → o ≡ Some s → items ≡ reads → Readying edges taken reads o old → left_of (get_or items s d).next < left_of o
next_less edges first reads taken o s items d old are is same h =
    subst (λ x. left_of (get_or items s d).next < left_of x) (sym is)
    (subst (λ l. left_of (get_or l s d).next < suc s) (sym same)
    (left_less (get_or reads s d).next s (are.nexts s (get_or reads s d) (get_found reads s d (place_before edges taken reads o s old is h)))))
