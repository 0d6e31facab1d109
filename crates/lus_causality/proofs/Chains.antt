-- Reads that are added one by one to the chains of the edges that they read.
use Rattle.std.proofs.Common.{◌≡◌, ◌≢◌, ◌⊎◌, inl, inr, ⊎_elim, ℕ, suc, zero, ◌+◌, ◌<◌, ◌≤◌, List, [], ◌∷◌, ◌++◌, length, take, set, get_or, refl, sym, ap, ◌∙◌, subst, arith, add-one, length-append}
use Rattle.std.proofs.Math.ListN.{length-set}
use Rattle.std.proofs.lemmas.Bool.{cases_eq}
use Rattle.std.specs.Prelude.{Option, Some, None, slice_get, replicate, Contains}
use Rattle.op_network.specs.declared.edge.EdgeId.{EdgeId}
use Rattle.op_network.specs.declared.edge.Edge.{Edge}
use Rattle.lus_causality.specs.declared.readers.Read.{Read}
use Rattle.lus_causality.specs.declared.readers.Readers.{Readers}
use Rattle.lus_causality.specs.Causality.{operands_now}
use Rattle.lus_causality.specs.Reads.{Reaches, at, on, StandsBefore, AreReadsBelow, AreReads}
use Rattle.lus_causality.proofs.Places.{none}
use Rattle.lus_causality.proofs.Reading.{take_one, take_whole}

get_front : (reads : List Read) (r : Read) (s : ℕ) (read : Read) → slice_get reads s ≡ Some read → slice_get (reads ++ r ∷ []) s ≡ Some read
get_front [] r s read is = absurd (cc)
get_front (x ∷ reads) r zero read is = is
get_front (x ∷ reads) r (suc s) read is = get_front reads r s read is

get_last : (reads : List Read) (r : Read) → slice_get (reads ++ r ∷ []) (length reads) ≡ Some r
get_last [] r = refl
get_last (x ∷ reads) r = get_last reads r

get_cases : (reads : List Read) (r : Read) (s : ℕ) (read : Read) → slice_get (reads ++ r ∷ []) s ≡ Some read → (slice_get reads s ≡ Some read) ⊎ ((s ≡ length reads) × (r ≡ read))
get_cases [] r zero read is = inr (refl, (let k : r ≡ read = cc in k))
get_cases [] r (suc s) read is = absurd (cc)
get_cases (x ∷ reads) r zero read is = inl is
get_cases (x ∷ reads) r (suc s) read is = ⊎_elim (λ h. inl h) (λ h. inr (ap suc h.0, h.1)) (get_cases reads r s read is)

reaches_more : (reads : List Read) (r : Read) (f : EdgeId) (o : Option ℕ) → Reaches reads f o → Reaches (reads ++ r ∷ []) f o
reaches_more reads r f o (at s read is same) = at s read (get_front reads r s read is) same
reaches_more reads r f o (on s read is h) = on s read (get_front reads r s read is) (reaches_more reads r f read.next h)

pub set_other : {A : Type 0} (xs : List A) (i j : ℕ) (v d : A) → i ≢ j → get_or (set xs j v) i d ≡ get_or xs i d
set_other [] i j v d apart = refl
set_other (x ∷ xs) zero zero v d apart = absurd (apart refl)
set_other (x ∷ xs) zero (suc j) v d apart = refl
set_other (x ∷ xs) (suc i) zero v d apart = refl
set_other (x ∷ xs) (suc i) (suc j) v d apart = set_other xs i j v d (λ e. apart (ap suc e))

pub set_here : {A : Type 0} (xs : List A) (j : ℕ) (v d : A) → j < length xs → get_or (set xs j v) j d ≡ v
set_here [] j v d lt = absurd (omega arith)
set_here (x ∷ xs) zero v d lt = refl
set_here (x ∷ xs) (suc j) v d lt = set_here xs j v d (omega arith)

wider : (o : Option ℕ) (m n : ℕ) → m ≤ n → StandsBefore o m → StandsBefore o n
wider None m n le h = tt
wider (Some t) m n le h = omega (arith, le, h)

-- one read more
module _ (edges : List Edge) (k p : ℕ) (old new : Readers) (o reader : EdgeId) (is_edge : reader.0 ≡ k) (k_within : k < length edges) (lt : o.0 < length old.first) (port : slice_get (operands_now edges reader) p ≡ Some o) (reads : new.reads ≡ old.reads ++ record { reader = reader; next = get_or old.first o.0 None } ∷ []) (first : new.first ≡ set old.first o.0 (Some (length old.reads))) (h : AreReadsBelow edges k p old) where
  abbrev r : Read
  r = record { reader = reader; next = get_or old.first o.0 None }

  len : length new.reads ≡ length old.reads + 1
  len = ap length reads ∙ length-append old.reads (r ∷ [])

  at_o : get_or new.first o.0 None ≡ Some (length old.reads)
  at_o = ap (λ l. get_or l o.0 None) first ∙ set_here old.first o.0 (Some (length old.reads)) None lt

  at_other : (x : ℕ) → x ≢ o.0 → get_or new.first x None ≡ get_or old.first x None
  at_other x apart = ap (λ l. get_or l x None) first ∙ set_other old.first x o.0 (Some (length old.reads)) None apart

  new_at : slice_get new.reads (length old.reads) ≡ Some r
  new_at = ap (λ l. slice_get l (length old.reads)) reads ∙ get_last old.reads r

  reached : (f : EdgeId) (x : ℕ) → Reaches old.reads f (get_or old.first x None) → Reaches new.reads f (get_or new.first x None)
  reached f x old_reached =
      let kept = subst (λ l. Reaches l f (get_or old.first x None)) (sym reads) (reaches_more old.reads r f (get_or old.first x None) old_reached) in
      ⊎_elim
      (λ same. subst (λ s. Reaches new.reads f s) (sym (ap (λ y. get_or new.first y None) same ∙ at_o)) (on (length old.reads) r new_at (subst (λ y. Reaches new.reads f (get_or old.first y None)) same kept)))
      (λ apart. subst (λ s. Reaches new.reads f s) (sym (at_other x apart)) kept)
      (cases_eq x o.0)

  pub one_more : AreReadsBelow edges k (suc p) new
  one_more = record {
    size = ap length first ∙ length-set old.first o.0 (Some (length old.reads)) ∙ h.size;
    firsts = λ x. ⊎_elim
        (λ same. subst (λ s. StandsBefore s (length new.reads)) (sym (ap (λ y. get_or new.first y None) same ∙ at_o)) (let e = len in omega (arith, e)))
        (λ apart. subst (λ s. StandsBefore s (length new.reads)) (sym (at_other x apart)) (wider (get_or old.first x None) (length old.reads) (length new.reads) (let e = len in omega (arith, e)) (h.firsts x)))
        (cases_eq x o.0);
    nexts = λ s read is. ⊎_elim
        (λ old_is. h.nexts s read old_is)
        (λ new_is. subst (λ (x : Read). StandsBefore x.next s) new_is.1 (subst (λ n. StandsBefore (get_or old.first o.0 None) n) (sym new_is.0) (h.firsts o.0)))
        (get_cases old.reads r s read (ap (λ l. slice_get l s) (sym reads) ∙ is));
    within = λ s read is. ⊎_elim
        (λ old_is. h.within s read old_is)
        (λ new_is. subst (λ (x : Read). x.reader.0 < length edges) new_is.1 (subst (λ n. n < length edges) (sym is_edge) k_within))
        (get_cases old.reads r s read (ap (λ l. slice_get l s) (sym reads) ∙ is));
    each = λ f x below in_f. reached f x.0 (h.each f x below in_f);
    last = λ f x same in_f.
        let e : f ≡ reader = ap (λ n. record { 0 = n }) (same ∙ sym is_edge) in
        ⊎_elim
        (λ new_is. subst (λ (y : EdgeId). Reaches new.reads f (get_or new.first y.0 None)) (sym new_is) (subst (λ s. Reaches new.reads f s) (sym at_o) (at (length old.reads) r new_at (sym e))))
        (λ old_is. reached f x.0 (h.last f x same old_is))
        (take_one x (operands_now edges f) p o (subst (λ (y : EdgeId). slice_get (operands_now edges y) p ≡ Some o) (sym e) port) in_f);
  }

pub one_read : (edges : List Edge) (reader : EdgeId) (p : ℕ) (old new : Readers) (o : EdgeId) → reader.0 < length edges → o.0 < length edges → slice_get (operands_now edges reader) p ≡ Some o → new.reads ≡ old.reads ++ record { reader = reader; next = get_or old.first o.0 None } ∷ [] → new.first ≡ set old.first o.0 (Some (length old.reads)) → AreReadsBelow edges reader.0 p old → AreReadsBelow edges reader.0 (p + 1) new
one_read edges reader p old new o within o_within port reads first h = subst (λ n. AreReadsBelow edges reader.0 n new) (sym (add-one p)) (one_more edges reader.0 p old new o reader refl within (subst (λ n. o.0 < n) (sym h.size) o_within) port reads first h)

pub next_edge : (edges : List Edge) (k p : ℕ) (readers : Readers) → length (operands_now edges (record { 0 = k })) ≤ p → AreReadsBelow edges k p readers → AreReadsBelow edges (k + 1) 0 readers
next_edge edges k p readers le h = record {
  size = h.size;
  firsts = h.firsts;
  nexts = h.nexts;
  within = h.within;
  each = λ f o below in_f. ⊎_elim
      (λ same. h.last f o same (subst (λ l. Contains l o) (sym (take_whole (operands_now edges f) p (subst (λ (y : EdgeId). length (operands_now edges y) ≤ p) (let e : record { 0 = k } ≡ f = ap (λ n. record { 0 = n }) (sym same) in e) le))) in_f))
      (λ apart. h.each f o (omega (arith, below, apart)) in_f)
      (cases_eq f.0 k);
  last = λ f o same in_f. empty o (operands_now edges f) in_f;
}
  where
    empty : {A : Type 0} (o : EdgeId) (ops : List EdgeId) → Contains (take 0 ops) o → A
    empty o [] i = none o i
    empty o (x ∷ ops) i = none o i

get-replicate : (n x : ℕ) → get_or (replicate n (let z : Option ℕ = None in z)) x None ≡ None
get-replicate zero x = refl
get-replicate (suc n) zero = refl
get-replicate (suc n) (suc x) = get-replicate n x

length-replicate : (n : ℕ) → length (replicate n (let z : Option ℕ = None in z)) ≡ n
length-replicate zero = refl
length-replicate (suc n) = ap suc (length-replicate n)

pub no_reads : (edges : List Edge) (count : ℕ) (readers : Readers) → count ≡ length edges → readers.first ≡ replicate count None → readers.reads ≡ [] → AreReadsBelow edges 0 0 readers
no_reads edges count readers all first reads = record {
  size = ap length first ∙ length-replicate count ∙ all;
  firsts = λ o. subst (λ s. StandsBefore s (length readers.reads)) (sym (ap (λ l. get_or l o None) first ∙ get-replicate count o)) tt;
  nexts = λ s read is. absurd (empty s read (ap (λ l. slice_get l s) (sym reads) ∙ is));
  within = λ s read is. absurd (empty s read (ap (λ l. slice_get l s) (sym reads) ∙ is));
  each = λ f o below in_f. absurd (omega (arith, below));
  last = λ f o same in_f. no_port o (operands_now edges f) in_f;
}
  where
    no_port : {A : Type 0} (o : EdgeId) (ops : List EdgeId) → Contains (take 0 ops) o → A
    no_port o [] i = none o i
    no_port o (x ∷ ops) i = none o i

    empty : (s : ℕ) (read : Read) → slice_get [] s ≡ Some read → ⊥
    empty s read is = cc

pub all_reads : (edges : List Edge) (k : ℕ) (readers : Readers) → length edges ≤ k → AreReadsBelow edges k 0 readers → AreReads edges readers
all_reads edges k readers le h = record { size = h.size; firsts = h.firsts; nexts = h.nexts; within = h.within; each = λ f o below in_f. h.each f o (omega (arith, below, le)) in_f }
