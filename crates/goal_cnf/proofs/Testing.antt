-- The test that a model gives, row by row.
use Rattle.std.proofs.Common.{◌≡◌, ℕ, zero, suc, ◌+◌, ◌*◌, ◌<◌, ◌≤◌, Bool, true, false, List, [], ◌∷◌, ◌++◌, length, map, take, drop, get_or, nat_eq, refl, sym, ap, ap₂, ◌∙◌, subst, ◌⊎◌, inl, inr, arith, Option, Some, None, append_assoc, append-nil, length-append}
use Rattle.std.specs.Prelude.{slice_get, All}
use Rattle.std.proofs.lemmas.Bool.{cases_Bool}
use Rattle.std.proofs.lemmas.Bool.Decides.{nat_tests}
use Rattle.std.proofs.lemmas.Option.{slice_get-get_or}
use Rattle.cnf_form.specs.declared.lit.Lit.{Lit}
use Rattle.cnf_form.specs.Lits.{holds, truth}
use Rattle.cnf_form.specs.Shape.{Shape, Satisfies, shape}
use Rattle.op_network.specs.declared.edge.EdgeId.{EdgeId}
use Rattle.op_network.specs.declared.edge.Parts.{Parts}
use Rattle.op_network.specs.declared.test.Test.{Test}
use Rattle.op_network.specs.declared.value.Value.{Value}
use Rattle.op_network.specs.Operators.{at_edge}
use Rattle.op_network.specs.Run.{rows}
use Rattle.op_network.specs.Valid.{IsValid}
use Rattle.lus_causality.specs.Causality.{IsSequence}
use Rattle.bit_blast.specs.Circuit.{Require, after, yes}
use Rattle.bit_blast.specs.Circuit as gate
use Rattle.bit_blast.proofs.Circuits.{after-append, after_more, vars-with_entries}
use Rattle.bit_blast.proofs.Laws.{below_from_within}
use Rattle.bit_blast.proofs.Made.{Within}
use Rattle.unroll_cnf.specs.Laws.{frame_of, row_of, rows_of}
use Rattle.unroll_cnf.specs.Made.{AreWords, IsUnrolled, Streams, table_of, word_at}
use Rattle.unroll_cnf.specs.Unrolled.{Table, first_part, words}
use Rattle.dep_paths.specs.declared.path.Obligation.{Obligation}
use Rattle.dep_paths.specs.Duties.{IsPlanOf, Planned}
use Rattle.dep_paths.proofs.Lists.{Contains-has}
use Rattle.goal_cnf.proofs.Hits.{length_hits}
use Rattle.goal_cnf.specs.declared.formula.Goal.{Goal}
use Rattle.goal_cnf.specs.Activity.{lit_at}
use Rattle.goal_cnf.specs.Decoded.{Decodes}
use Rattle.goal_cnf.specs.Goal.{adm_circuit, goal_entries, goal_hits, hits, last_lit, met_circuit}
use Rattle.goal_cnf.specs.Laws.{MeetsGoal}
use Rattle.goal_cnf.specs.Made.{CanRead, IsGoal}
use Rattle.goal_cnf.specs.Reaches.{Reaches}
use Rattle.goal_cnf.proofs.Decoding.{none_holds}
use Rattle.goal_cnf.proofs.GoalMaking.{streams_are, vars_are}
use Rattle.goal_cnf.proofs.Hitting.{length_map}
use Rattle.goal_cnf.proofs.Modelling.{models_meet_goals}
use Rattle.goal_cnf.proofs.Planning.{has_at}
use Rattle.goal_cnf.proofs.Words.{length_instants}

-- ---- rows one after the other

abbrev pub joined : List (List Value) → List Value
joined [] = []
joined (r ∷ rs) = r ++ joined rs

joined_push : (rs : List (List Value)) (r : List Value) → joined (rs ++ r ∷ []) ≡ joined rs ++ r
joined_push [] r = append-nil r
joined_push (x ∷ rs) r = ap (λ (l : List Value). x ++ l) (joined_push rs r) ∙ sym (append_assoc x (joined rs) r)

take_front : (xs ys : List Value) → take (length xs) (xs ++ ys) ≡ xs
take_front [] ys = refl
take_front (x ∷ xs) ys = ap (λ (l : List Value). x ∷ l) (take_front xs ys)

drop_front : (xs ys : List Value) → drop (length xs) (xs ++ ys) ≡ ys
drop_front [] ys = refl
drop_front (x ∷ xs) ys = drop_front xs ys

length_row : (parts : Parts) (v : ℕ → Bool) (now : Table) → length (row_of parts v now) ≡ length parts.inputs
length_row parts v now = go (at_edge (frame_of parts v now)) parts.inputs
  where
    go : (f : EdgeId → Value) (xs : List EdgeId) → length (map f xs) ≡ length xs
    go f [] = refl
    go f (x ∷ xs) = ap suc (go f xs)

module _ (parts : Parts) (v : ℕ → Bool) where
  -- the rows of values that were joined
  rows_joined : (t : ℕ) (tables : List Table) → t ≤ length tables → rows (length parts.inputs) t (joined (take t (rows_of parts v tables))) ≡ take t (rows_of parts v tables)
  rows_joined zero tables le = refl
  rows_joined (suc t) [] le = absurd (omega arith)
  rows_joined (suc t) (now ∷ tables) le =
      let r = row_of parts v now in
      let rest = joined (take t (rows_of parts v tables)) in
      let long = length_row parts v now in
      ap₂ (λ (x : List Value) (y : List (List Value)). x ∷ y) (subst (λ n. take n (r ++ rest) ≡ r) long (take_front r rest))
      (ap (rows (length parts.inputs) t) (subst (λ n. drop n (r ++ rest) ≡ rest) long (drop_front r rest)) ∙ rows_joined t tables (omega arith))

  length_joined : (t : ℕ) (tables : List Table) → t ≤ length tables → length (joined (take t (rows_of parts v tables))) ≡ t * length parts.inputs
  length_joined zero tables le = omega arith
  length_joined (suc t) [] le = absurd (omega arith)
  length_joined (suc t) (now ∷ tables) le =
      omega (arith, length-append (row_of parts v now) (joined (take t (rows_of parts v tables))), length_row parts v now, length_joined t tables (omega arith))

  row_more : (all : List (List (List Lit))) (t : ℕ) → t < length all → take (suc t) (rows_of parts v (map table_of all)) ≡ take t (rows_of parts v (map table_of all)) ++ row_of parts v (word_at all t) ∷ []
  row_more [] t lt = absurd (omega arith)
  row_more (x ∷ all) zero lt = refl
  row_more (x ∷ all) (suc t) lt = ap (λ (l : List (List Value)). row_of parts v (table_of x) ∷ l) (row_more all t (omega arith))

-- ---- literals of the hits

hits_below : (parts : Parts) (order : List EdgeId) (plan : Planned) (o : Obligation) (n : ℕ) (before : Option (List Lit)) (adm : Lit) (tables : List Table) → (m : ℕ) → after n (hits parts order plan o n before adm tables).entries ≤ m → Within m (hits parts order plan o n before adm tables).result
hits_below parts order plan o n before adm [] m le = tt
hits_below parts order plan o n before adm (now ∷ tables) m le =
    let met = met_circuit n parts order plan o now before in
    let a = adm_circuit (after n met.entries) now adm parts.asserts in
    let v = after (after n met.entries) a.entries in
    let rest = hits parts order plan o (suc v) (Some met.result) a.result tables in
    let up : after (suc v) rest.entries ≤ m = omega (arith, le, after-append n met.entries (a.entries ++ (gate.And a.result (last_lit met.result) ∷ rest.entries)), after-append (after n met.entries) a.entries (gate.And a.result (last_lit met.result) ∷ rest.entries)) in
    (omega (arith, after_more (suc v) rest.entries), hits_below parts order plan o (suc v) (Some met.result) a.result tables m up)

-- ---- the test

-- the rows of the first instants are there, and none of them is hit
pub record DecodedSoFar (parts : Parts) (v : ℕ → Bool) (all : List (List (List Lit))) (hits : List Lit) (t : ℕ) (values : List Value) : Type 0 where
  pub rows_are : values ≡ joined (take t (rows_of parts v (map table_of all)))
  pub none : (s : ℕ) → s < t → truth v (lit_at hits s) ≡ false

pub decoded_start : (parts : Parts) (v : ℕ → Bool) (all : List (List (List Lit))) (hits : List Lit) → DecodedSoFar parts v all hits 0 []
decoded_start parts v all hits = record { rows_are = refl; none = λ s lt. absurd (omega arith) }

module _ (parts : Parts) (valid : IsValid parts) (order : List EdgeId) (sequence : IsSequence parts.edges order) (un : Streams) (unrolled : IsUnrolled parts order un.instants un) (there : All (AreWords parts un.formula.vars) un.words) (plan : Planned) (is : IsPlanOf parts plan) (place : ℕ) (goal : Goal) (made : IsGoal parts order plan place un.instants goal) where
  abbrev k : ℕ
  k = un.instants

  hits_take : after 0 (goal_entries parts order plan made.duty k) ≡ after (after 0 (first_part parts order k).entries) (goal_hits parts order plan made.duty k).entries
  hits_take =
      let one = first_part parts order k in
      let more = goal_hits parts order plan made.duty k in
      after-append 0 one.entries (more.entries ++ Require more.result ∷ []) ∙ after-append (after 0 one.entries) more.entries (Require more.result ∷ [])

  formula_vars : goal.formula.vars ≡ after (after 0 (first_part parts order k).entries) (goal_hits parts order plan made.duty k).entries
  formula_vars = ap (λ (f : Shape). f.vars) made.is.formula ∙ (vars-with_entries (shape 0 []) (goal_entries parts order plan made.duty k) ∙ hits_take)

  pub can_decode : (t n : ℕ) → t < k → n ≡ goal.formula.vars → CanRead parts un t n
  can_decode t n lt e = record {
    streams = streams_are parts order un unrolled valid there;
    instant = lt;
    grown = omega (arith, e, formula_vars, vars_are parts order un unrolled, after_more (after 0 (first_part parts order k).entries) (goal_hits parts order plan made.duty k).entries);
  }

  pub hits_long : length goal.hits ≡ k
  hits_long = ap (λ (l : List Lit). length l) made.is.hits ∙ (length_hits parts order plan made.duty (words parts order k) (after 0 (first_part parts order k).entries) None (yes 0) ∙ length_instants parts order k None 1)

  pub hit_below : (t n : ℕ) (d : Lit) → t < k → n ≡ goal.formula.vars → (get_or goal.hits t d).var < n
  hit_below t n d lt e =
      let w = hits_below parts order plan made.duty (after 0 (first_part parts order k).entries) None (yes 0) (words parts order k) n (omega (arith, e, formula_vars)) in
      subst (λ (l : List Lit). (get_or l t d).var < n) (sym made.is.hits)
      (below_from_within n (goal_hits parts order plan made.duty k).result w t d (omega (arith, hits_long, ap (λ (l : List Lit). length l) made.is.hits)))

  module _ (v : ℕ → Bool) where
    long : length un.words ≡ k
    long = (streams_are parts order un unrolled valid there).rows

    values_more : (t : ℕ) (values longer : List Value) → DecodedSoFar parts v un.words goal.hits t values → t < k → longer ≡ values ++ row_of parts v (word_at un.words t) → longer ≡ joined (take (t + 1) (rows_of parts v (map table_of un.words)))
    values_more t values longer s lt l =
        l
        ∙ (ap (λ (z : List Value). z ++ row_of parts v (word_at un.words t)) s.rows_are
        ∙ (sym (joined_push (take t (rows_of parts v (map table_of un.words))) (row_of parts v (word_at un.words t)))
        ∙ ap joined (sym (row_more parts v un.words t (omega (arith, long))) ∙ ap (λ n. take n (rows_of parts v (map table_of un.words))) (let e : suc t ≡ t + 1 = omega arith in e))))

    pub decoded_next : (t : ℕ) (values longer : List Value) → DecodedSoFar parts v un.words goal.hits t values → t < k → longer ≡ values ++ row_of parts v (word_at un.words t) → truth v (lit_at goal.hits t) ≡ false → DecodedSoFar parts v un.words goal.hits (t + 1) longer
    decoded_next t values longer s lt l e = record {
      rows_are = values_more t values longer s lt l;
      none = λ j below. elim (cases_last j t below) [
        | inl b ↦ s.none j b
        | inr q ↦ subst (λ x. truth v (lit_at goal.hits x) ≡ false) (sym q) e
      ];
    }
      where
        cases_last : (j t : ℕ) → j < t + 1 → (j < t) ⊎ (j ≡ t)
        cases_last j t lt = elim (cases_Bool (nat_eq j t)) [
          | inl e ↦ inr (let q : j ≡ t = grind (arith, nat_tests) in q)
          | inr e ↦ inl (let q : j ≡ t → ⊥ = grind (arith, nat_tests) in omega arith)
        ]

    module _ (model : Satisfies v goal.formula) where
      meets : MeetsGoal parts order plan made.duty k v
      meets = models_meet_goals parts order plan made.duty k valid sequence is (Contains-has plan.duties made.duty (has_at plan.duties place made.duty made.listed)) v (subst (Satisfies v) made.is.formula model)

      -- some instant is hit
      pub some_hit : (t : ℕ) (values : List Value) → DecodedSoFar parts v un.words goal.hits t values → k ≤ t → ⊥
      some_hit t values s le = none_holds v goal.hits (λ j lt. s.none j (omega (arith, hits_long))) (ap (holds v) made.is.hits ∙ meets.some)

      pub decodes : (t : ℕ) (values : List Value) (test : Test) (old : List Value) → DecodedSoFar parts v un.words goal.hits t old → t < k → values ≡ old ++ row_of parts v (word_at un.words t) → truth v (lit_at goal.hits t) ≡ true →
          test.instants ≡ t + 1 → test.values ≡ values → Decodes parts order plan place k v goal.hits test
      decodes t values test old s lt l hit at vs =
          let tables = map table_of un.words in
          let few : suc t ≤ length tables = omega (arith, length_map un.words, long) in
          let one : test.instants ≡ suc t = at ∙ omega arith in
          let all : test.values ≡ joined (take (suc t) (rows_of parts v tables)) = vs ∙ (values_more t old values s lt l ∙ ap (λ n. joined (take n (rows_of parts v tables))) (let e : t + 1 ≡ suc t = omega arith in e)) in
          let own : rows (length parts.inputs) test.instants test.values ≡ take (suc t) (rows_of parts v (words parts order k)) =
          ap₂ (rows (length parts.inputs)) one all ∙ (rows_joined parts v (suc t) tables few ∙ ap (λ (z : List Table). take (suc t) (rows_of parts v z)) unrolled.words) in
          let there_hit : slice_get (goal_hits parts order plan made.duty k).result t ≡ Some (lit_at goal.hits t) =
          ap (λ (z : List Lit). slice_get z t) (sym made.is.hits) ∙ slice_get-get_or goal.hits t _ (omega (arith, hits_long)) in
          let reaches = subst (Reaches parts plan made.duty) (sym own) (meets.each t (lit_at goal.hits t) there_hit hit) in
          record {
            duty = made.duty;
            listed = made.listed;
            last = t;
            instants = one;
            few = omega (arith, at);
            least = record { within = omega (arith, hits_long); hit = hit; least = s.none };
            inputs = own ∙ ap (λ n. take n (rows_of parts v (words parts order k))) (sym one);
            fits = record {
              some = omega (arith, at);
              size = ap length all ∙ (length_joined parts v (suc t) tables few ∙ ap (λ n. n * length parts.inputs) (sym one));
              each = reaches.fits;
            };
            reaches = reaches;
          }
