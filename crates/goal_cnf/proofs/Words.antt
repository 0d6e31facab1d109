-- The words of the instants: their sizes, their variables, and that the entries of the unrolled network stand in order.
use Rattle.std.proofs.Common.{◌≡◌, ℕ, zero, suc, ◌<◌, ◌≤◌, List, [], ◌∷◌, length, refl, sym, ap, subst, arith, Option, Some}
use Rattle.std.specs.Prelude.{slice_get}
use Rattle.std.proofs.lemmas.Option.{slice_get_within}
use Rattle.op_network.specs.declared.edge.EdgeId.{EdgeId}
use Rattle.op_network.specs.declared.edge.Parts.{Parts}
use Rattle.op_network.specs.Valid.{IsValid}
use Rattle.lus_causality.specs.Causality.{IsSequence}
use Rattle.lus_causality.proofs.Places.{none}
use Rattle.lus_causality.proofs.Causal.{causal_of}
use Rattle.bit_blast.specs.Circuit.{Entry, after}
use Rattle.bit_blast.proofs.Values as circuit
use Rattle.bit_blast.proofs.Circuits.{after-append, after_more}
use Rattle.unroll_cnf.specs.Unrolled.{Table, no_words, instant, instants}
use Rattle.unroll_cnf.proofs.Agreement.{ordered_both}
use Rattle.unroll_cnf.proofs.Edges.{SizedBefore}
use Rattle.unroll_cnf.proofs.Models.{instant_ordered}
use Rattle.unroll_cnf.proofs.Order.{stand_behind}
use Rattle.unroll_cnf.proofs.Placed.{PlacedBefore, placed_before_more}
use Rattle.unroll_cnf.proofs.Runs.{all_sized, edge_of_type}
use Rattle.goal_cnf.proofs.Places.{AllSized}

pub length_instants : (parts : Parts) (order : List EdgeId) (k : ℕ) (before : Option Table) (n : ℕ) → length (instants parts order before n k).result ≡ k
length_instants parts order zero before n = refl
length_instants parts order (suc k) before n = ap suc (length_instants parts order k _ _)

module _ (parts : Parts) (valid : IsValid parts) (order : List EdgeId) (sequence : IsSequence parts.edges order) where
  pub sized_at : (before : Option Table) (n k : ℕ) → SizedBefore parts before → (i : ℕ) (now : Table) → slice_get (instants parts order before n k).result i ≡ Some now → AllSized parts now
  sized_at before n zero b i now is = absurd (cc)
  sized_at before n (suc k) b zero now is =
      let one = instant parts before n no_words order in
      let e : one.result ≡ now = cc in
      subst (AllSized parts) e (all_sized parts valid before n order sequence b)
  sized_at before n (suc k) b (suc i) now is =
      let one = instant parts before n no_words order in
      sized_at (Some one.result) (after n one.entries) k (all_sized parts valid before n order sequence b) i now is

  -- the entries of instants stand in order, and the words are of their variables
  pub record Laid (n : ℕ) (es : List Entry) (tables : List Table) : Type 0 where
    pub ordered : circuit.IsOrdered n es
    pub placed : (i : ℕ) (now : Table) → slice_get tables i ≡ Some now → PlacedBefore parts (after n es) (Some now)

  pub laid : (before : Option Table) (n k : ℕ) → 0 < n → SizedBefore parts before → PlacedBefore parts n before → Laid n (instants parts order before n k).entries (instants parts order before n k).result
  laid before n zero h b q = record { ordered = tt; placed = λ i now is. absurd (cc) }
  laid before n (suc k) h b q =
      let one = instant parts before n no_words order in
      let n1 = after n one.entries in
      let more = after_more n one.entries in
      let rest = instants parts order (Some one.result) n1 k in
      let last = after_more n1 rest.entries in
      let c = stand_behind parts.edges [] order (causal_of parts.edges order sequence.least) in
      let o = instant_ordered parts valid before b n no_words [] order h c (λ e i. none e i) (λ e i. none e i) q in
      let placed : PlacedBefore parts n1 (Some one.result) = λ e a t.
      let x = edge_of_type parts.edges e.0 (slice_get parts.edges e.0) a refl t in
      o.1 e (sequence.full e (slice_get_within parts.edges e.0 x.0 x.1)) in
      let r = laid (Some one.result) n1 k (omega arith) (all_sized parts valid before n order sequence b) placed in
      record {
        ordered = ordered_both n one.entries rest.entries o.0 r.ordered;
        placed = λ i now is. subst (λ x. PlacedBefore parts x (Some now)) (sym (after-append n one.entries rest.entries)) (at n1 one.result rest.result (after n1 rest.entries) last placed r.placed i now is);
      }
    where
      at : (m : ℕ) (table : Table) (tables : List Table) (most : ℕ) → m ≤ most → PlacedBefore parts m (Some table) → ((i : ℕ) (now : Table) → slice_get tables i ≡ Some now → PlacedBefore parts most (Some now)) →
          (i : ℕ) (now : Table) → slice_get (table ∷ tables) i ≡ Some now → PlacedBefore parts most (Some now)
      at m table tables most le p r zero now is = let e : table ≡ now = cc in placed_before_more parts m most (Some now) le (subst (λ (x : Table). PlacedBefore parts m (Some x)) e p)
      at m table tables most le p r (suc i) now is = r i now is
