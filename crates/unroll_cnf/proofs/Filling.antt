-- The loop that makes the words of an instant.
use Rattle.std.proofs.Common.{◌≡◌, ℕ, zero, suc, ◌+◌, ◌<◌, ◌≤◌, List, [], ◌∷◌, ◌++◌, length, drop, take, get_or, nat_eq, replicate, refl, sym, ap, ap₂, ◌∙◌, subst, inl, inr, arith, Option, Some, None}
use Rattle.std.specs.Prelude.{slice_set}
use Rattle.std.specs.List.{Contains}
use Rattle.std.specs.Option.{option_map}
use Rattle.std.proofs.Math.ListN.{length-set, drop_of_length-le}
use Rattle.std.proofs.Math.Seq.{drop-cons}
use Rattle.std.proofs.lemmas.List.{take_more}
use Rattle.std.proofs.lemmas.Bool.{cases_Bool}
use Rattle.std.proofs.lemmas.Bool.Decides.{nat_tests}
use Rattle.cnf_form.specs.declared.lit.Lit.{Lit}
use Rattle.cnf_form.specs.Shape.{Shape}
use Rattle.op_network.specs.declared.edge.EdgeId.{EdgeId}
use Rattle.op_network.specs.declared.edge.Parts.{Parts}
use Rattle.op_network.specs.declared.value.Ty.{Ty}
use Rattle.op_network.specs.Operators.{form_of}
use Rattle.op_network.specs.Valid.{type_of, IsValid}
use Rattle.lus_causality.specs.Causality.{operands_now, IsSequence}
use Rattle.lus_causality.proofs.Causal.{causal_of}
use Rattle.lus_causality.proofs.Chains.{set_here, set_other}
use Rattle.lus_causality.proofs.Ending.{operands_within, typed_within}
use Rattle.lus_causality.proofs.Places.{none}
use Rattle.lus_causality.proofs.Reading.{take_whole}
use Rattle.bit_blast.specs.Circuit.{Circuit, after, with_entries}
use Rattle.bit_blast.specs.Made.{Makes}
use Rattle.bit_blast.proofs.Circuits.{after-append, after_more, vars-with_entries, with_entries-append, required}
use Rattle.bit_blast.proofs.Laws.{made_vars, below_from_within}
use Rattle.bit_blast.proofs.Made.{within, within_more}
use Rattle.unroll_cnf.specs.Made.{table_of, AreWords, IsPast, IsEdgeReady, HasRoom, Spends}
use Rattle.unroll_cnf.specs.Unrolled.{Table, no_words, put, edge_circuit, instant}
use Rattle.unroll_cnf.proofs.Edges.{SizedBefore}
use Rattle.unroll_cnf.proofs.Models.{Placed, placed_more, placed_put, next_of, edge_within}
use Rattle.unroll_cnf.proofs.Order.{StandBehind, stand_behind}
use Rattle.unroll_cnf.proofs.Placed.{PlacedBefore, placed_before_more}
use Rattle.unroll_cnf.proofs.Runs.{Sized, edge_size, edge_typed, operands_in_edge, sized_more}
use Rattle.unroll_cnf.proofs.Spending.{form_required, spends_one}
use Rattle.unroll_cnf.proofs.Weights.{order_few}

-- ---- lists of words as tables

set_at : (words : List (List Lit)) (i : ℕ) (v : List Lit) (k : ℕ) → i < length words → table_of (slice_set words i v) k ≡ put (table_of words) i v k
set_at words i v k lt = elim (cases_Bool (nat_eq k i)) [
  | inl t ↦ let e : k ≡ i = grind (arith, nat_tests) in rw t (ap (λ j. get_or (slice_set words i v) j []) e ∙ set_here words i v [] lt)
  | inr t ↦ let ne : k ≡ i → ⊥ = grind (arith, nat_tests) in rw t (set_other words k i v [] ne)
]

-- a list with the word of one edge set
table_set : (words : List (List Lit)) (i : ℕ) (v : List Lit) → i < length words → table_of (slice_set words i v) ≡ put (table_of words) i v
table_set words i v lt = λ j k. set_at words i v k lt j

blank_at : (n k : ℕ) → table_of (replicate n []) k ≡ []
blank_at zero k = refl
blank_at (suc n) zero = refl
blank_at (suc n) (suc k) = blank_at n k

table_blank : (n : ℕ) → table_of (replicate n []) ≡ no_words
table_blank n = λ j k. blank_at n k j

abbrev blank : List Lit
blank = []

length-blank : (n : ℕ) → length (replicate n blank) ≡ n
length-blank zero = refl
length-blank (suc n) = ap suc (length-blank n)

-- ---- words of the instant before

pub past_sized : (parts : Parts) (n : ℕ) (past : Option (List (List Lit))) → IsPast parts n past → SizedBefore parts (option_map table_of past)
past_sized parts n None p = tt
past_sized parts n (Some before) p = λ o a t. p.size o a t

pub past_placed : (parts : Parts) (n : ℕ) (past : Option (List (List Lit))) → IsPast parts n past → PlacedBefore parts n (option_map table_of past)
past_placed parts n None p = tt
past_placed parts n (Some before) p = λ o a t. within n (table_of before o.0) (p.below o a t)

pub past_more : (parts : Parts) (n m : ℕ) (past : Option (List (List Lit))) → n ≤ m → IsPast parts n past → IsPast parts m past
past_more parts n m None le p = tt
past_more parts n m (Some before) le p = record {
  all = p.all;
  size = p.size;
  below = λ o a t. below_from_within m (table_of before o.0) (within_more n m (table_of before o.0) le (within n (table_of before o.0) (p.below o a t)));
}

-- ---- an instant

-- the words of the first edges of the order are made
pub record InstantSoFar (parts : Parts) (past : Option (List (List Lit))) (order : List EdgeId) (f g : Shape) (i : ℕ) (words : List (List Lit)) : Type 0 where
  pub made : with_entries f (instant parts (option_map table_of past) f.vars no_words order).entries ≡ with_entries g (instant parts (option_map table_of past) g.vars (table_of words) (drop i order)).entries
  pub result : (instant parts (option_map table_of past) f.vars no_words order).result ≡ (instant parts (option_map table_of past) g.vars (table_of words) (drop i order)).result
  pub all : length words ≡ length parts.edges
  pub stands : StandBehind parts.edges (take i order) (drop i order)
  pub sized : Sized parts (take i order) (table_of words)
  pub placed : Placed g.vars (take i order) (table_of words)
  pub more : f.vars ≤ g.vars
  pub some : 0 < f.vars
  pub few : i ≤ length order
  pub spends : Spends f g i

pub instant_start : (parts : Parts) (past : Option (List (List Lit))) (order : List EdgeId) (f : Shape) (words : List (List Lit)) → IsSequence parts.edges order → 0 < f.vars → words ≡ replicate (length parts.edges) [] → InstantSoFar parts past order f f 0 words
instant_start parts past order f words q some e =
    let t : table_of words ≡ no_words = ap table_of e ∙ table_blank (length parts.edges) in
    record {
      made = ap (λ (z : Table). with_entries f (instant parts (option_map table_of past) f.vars z order).entries) (sym t);
      result = ap (λ (z : Table). (instant parts (option_map table_of past) f.vars z order).result) (sym t);
      all = ap length e ∙ length-blank (length parts.edges);
      stands = stand_behind parts.edges [] order (causal_of parts.edges order q.least);
      sized = λ o i. none o i;
      placed = λ o i. none o i;
      more = omega arith;
      some = some;
      few = omega arith;
      spends = omega arith;
    }

one_more : (i : ℕ) → suc i ≡ i + 1
one_more i = omega arith

module _ (parts : Parts) (valid : IsValid parts) (past : Option (List (List Lit))) (order : List EdgeId) where
  abbrev pub before : Option Table
  before = option_map table_of past

  next_stands : (f g : Shape) (i : ℕ) (d : EdgeId) (words : List (List Lit)) → InstantSoFar parts past order f g i words → i < length order → StandBehind parts.edges (take i order) (get_or order i d ∷ drop (i + 1) order)
  next_stands f g i d words s lt = subst (StandBehind parts.edges (take i order)) (drop-cons order i d lt ∙ ap (λ k. get_or order i d ∷ drop k order) (one_more i)) s.stands

  -- the next edge can be made
  pub instant_ready : (f g : Shape) (i : ℕ) (d : EdgeId) (words : List (List Lit)) → InstantSoFar parts past order f g i words → i < length order → IsEdgeReady parts g.vars (get_or order i d) words
  instant_ready f g i d words s lt =
      let e = get_or order i d in
      let c = (next_stands f g i d words s lt).0 in
      record {
        within = c.within;
        each = λ edge is. record {
          typed = edge_typed parts valid e.0 edge is;
          operands = λ o j.
              let now : Contains (operands_now parts.edges e) o = subst (λ (l : List EdgeId). Contains l o) (sym (operands_in_edge parts.edges e o edge is)) j in
              record {
                within = omega (arith, s.all, operands_within parts valid e o now);
                size = s.sized o (c.operands o now);
                below = below_from_within g.vars (table_of words o.0) (s.placed o (c.operands o now));
              };
        };
      }

  -- there is room for the clauses of its word
  pub instant_room : (f g : Shape) (i : ℕ) (words : List (List Lit)) → IsSequence parts.edges order → InstantSoFar parts past order f g i words → i < length order → HasRoom f (length parts.edges) → HasRoom g 1
  instant_room f g i words q s lt r =
      omega (arith, s.spends, r, order_few parts.edges order (stand_behind parts.edges [] order (causal_of parts.edges order q.least)))

  rest_is : (n i : ℕ) (d : EdgeId) (now : Table) → i < length order →
      instant parts before n now (drop i order) ≡ instant parts before n now (get_or order i d ∷ drop (i + 1) order)
  rest_is n i d now lt = ap (instant parts before n now) (drop-cons order i d lt ∙ ap (λ k. get_or order i d ∷ drop k order) (one_more i))

  -- where the next word doesn't fit, all of them don't
  pub instant_full : (f g : Shape) (i most : ℕ) (d : EdgeId) (words : List (List Lit)) → InstantSoFar parts past order f g i words → i < length order →
      most < after g.vars (edge_circuit parts g.vars (get_or order i d) before (table_of words)).entries → most < after f.vars (instant parts before f.vars no_words order).entries
  instant_full f g i most d words s lt full =
      let e = get_or order i d in
      let one = edge_circuit parts g.vars e before (table_of words) in
      let rest = instant parts before (after g.vars one.entries) (put (table_of words) e.0 one.result) (drop (i + 1) order) in
      let whole = (instant parts before f.vars no_words order).entries in
      let left = (instant parts before g.vars (table_of words) (drop i order)).entries in
      omega (
        arith,
        full,
        vars-with_entries f whole,
        ap (λ (z : Shape). z.vars) s.made,
        vars-with_entries g left,
        ap (λ (z : Circuit Table). after g.vars z.entries) (rest_is g.vars i d (table_of words) lt),
        after-append g.vars one.entries rest.entries,
        after_more (after g.vars one.entries) rest.entries,
      )

  pub instant_step : (f g h : Shape) (i : ℕ) (d : EdgeId) (words longer : List (List Lit)) (word : List Lit) → IsPast parts f.vars past → InstantSoFar parts past order f g i words → i < length order →
      Makes (List Lit) g h (edge_circuit parts g.vars (get_or order i d) before (table_of words)) word → longer ≡ slice_set words (get_or order i d).0 word → InstantSoFar parts past order f h (i + 1) longer
  instant_step f g h i d words longer word p s lt m l =
      let e = get_or order i d in
      let one = edge_circuit parts g.vars e before (table_of words) in
      let c = next_stands f g i d words s lt in
      let vars = made_vars (List Lit) g h one word m in
      let wide : e.0 < length words = omega (arith, s.all, c.0.within) in
      let table : table_of longer ≡ put (table_of words) e.0 one.result = ap table_of l ∙ (table_set words e.0 word wide ∙ ap (put (table_of words) e.0) m.gives) in
      let more = after_more g.vars one.entries in
      let b = past_sized parts f.vars past p in
      let n = next_of parts valid before b g.vars (table_of words) (take i order) e c.0 s.sized s.placed in
      let place = edge_within parts valid before b g.vars (table_of words) (take i order) e (omega (arith, s.some, s.more))
      (placed_before_more parts f.vars g.vars before s.more (past_placed parts f.vars past p)) n in
      let front = sym (take_more order i d lt) in
      let rest = instant parts before (after g.vars one.entries) (put (table_of words) e.0 one.result) (drop (i + 1) order) in
      let same : instant parts before h.vars (table_of longer) (drop (i + 1) order) ≡ rest = ap₂ (λ k (z : Table). instant parts before k z (drop (i + 1) order)) vars table in
      record {
        made = s.made ∙ (ap (λ (z : Circuit Table). with_entries g z.entries) (rest_is g.vars i d (table_of words) lt)
            ∙ (with_entries-append g one.entries rest.entries
            ∙ ap₂ (λ (x : Shape) (z : Circuit Table). with_entries x z.entries) (sym m.made) (sym same)));
        result = s.result ∙ (ap (λ (z : Circuit Table). z.result) (rest_is g.vars i d (table_of words) lt) ∙ ap (λ (z : Circuit Table). z.result) (sym same));
        all = ap length l ∙ (length-set _ _ _ ∙ s.all);
        stands = subst (λ (z : List EdgeId). StandBehind parts.edges z (drop (i + 1) order)) front c.1;
        sized = subst (λ (z : List EdgeId). Sized parts z (table_of longer)) front
            (subst (Sized parts (take i order ++ e ∷ [])) (sym table)
            (sized_more parts (take i order) (table_of words) e one.result c.0.new s.sized (edge_size parts valid g.vars before (table_of words) (take i order) e c.0 s.sized b)));
        placed = subst (λ (z : List EdgeId). Placed h.vars z (table_of longer)) front
            (subst (Placed h.vars (take i order ++ e ∷ [])) (sym table)
            (subst (λ k. Placed k (take i order ++ e ∷ []) (put (table_of words) e.0 one.result)) (sym vars)
            (placed_put (after g.vars one.entries) (take i order) (table_of words) e one.result c.0.new (placed_more g.vars (after g.vars one.entries) (take i order) (table_of words) more s.placed) place)));
        more = omega (arith, s.more, vars, more);
        some = s.some;
        few = omega arith;
        spends = omega (
          arith,
          s.spends,
          spends_one g h one.entries m.made
              (subst (λ (z : Circuit (List Lit)). required z.entries ≤ 256) (sym n.at)
              (form_required parts g.vars (form_of n.edge.op) n.edge.ty before (table_of words) (omega (arith, s.some, s.more)) n.typed n.sizes n.inside)),
        );
      }

  pub instant_made : (f g : Shape) (i : ℕ) (words : List (List Lit)) → InstantSoFar parts past order f g i words → length order ≤ i → Makes Table f g (instant parts before f.vars no_words order) (table_of words)
  instant_made f g i words s le =
      let end : drop i order ≡ [] = drop_of_length-le order le in
      record {
        made = sym (s.made ∙ ap (λ (z : List EdgeId). with_entries g (instant parts before g.vars (table_of words) z).entries) end);
        gives = sym (s.result ∙ ap (λ (z : List EdgeId). (instant parts before g.vars (table_of words) z).result) end);
      }

  pub instant_words : (f g : Shape) (i : ℕ) (words : List (List Lit)) → IsSequence parts.edges order → InstantSoFar parts past order f g i words → length order ≤ i → AreWords parts g.vars words
  instant_words f g i words q s le =
      let whole = take_whole order i le in
      record {
        all = s.all;
        size = λ e a t. s.sized e (subst (λ (z : List EdgeId). Contains z e) (sym whole) (q.full e (there e a t))) a t;
        below = λ e a t. below_from_within g.vars (table_of words e.0) (s.placed e (subst (λ (z : List EdgeId). Contains z e) (sym whole) (q.full e (there e a t))));
      }
    where
      there : (e : EdgeId) (a : Ty) → type_of parts.edges e ≡ Some a → e.0 < length parts.edges
      there e a t = typed_within parts.edges e a t

  pub instant_spent : (f g : Shape) (i : ℕ) (words : List (List Lit)) → IsSequence parts.edges order → InstantSoFar parts past order f g i words → Spends f g (length parts.edges)
  instant_spent f g i words q s =
      omega (arith, s.spends, s.few, order_few parts.edges order (stand_behind parts.edges [] order (causal_of parts.edges order q.least)))
