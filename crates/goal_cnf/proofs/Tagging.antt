-- The loops that make the literals of a condition at an instant.
use Rattle.std.proofs.Common.{◌≡◌, ℕ, zero, suc, ◌+◌, ◌<◌, ◌≤◌, List, [], ◌∷◌, ◌++◌, length, drop, get_or, nat_eq, replicate, refl, sym, ap, ap₂, ◌∙◌, subst, inl, inr, arith, Option, Some, None}
use Rattle.std.specs.Prelude.{slice_get, slice_set, All}
use Rattle.std.proofs.Math.ListN.{length-set, drop_of_length-le}
use Rattle.std.proofs.Math.Seq.{drop-cons}
use Rattle.std.proofs.lemmas.Bool.{cases_Bool}
use Rattle.std.proofs.lemmas.Bool.Decides.{nat_tests}
use Rattle.std.proofs.lemmas.List.Elements.{All-nil}
use Rattle.std.proofs.lemmas.Option.{slice_get-get_or}
use Rattle.cnf_form.specs.declared.lit.Lit.{Lit}
use Rattle.cnf_form.specs.Shape.{Shape}
use Rattle.op_network.specs.declared.edge.Edge.{Edge}
use Rattle.op_network.specs.declared.edge.EdgeId.{EdgeId}
use Rattle.op_network.specs.declared.form.Form.{Form}
use Rattle.op_network.specs.declared.form.Form.TheVariants.{Input, Const, One, Two, Ite, Arrow, Pre}
use Rattle.op_network.specs.Operators.{form_of, operands_by, operands_of, operands_in}
use Rattle.lus_causality.specs.Causality.{IsSequence}
use Rattle.lus_causality.proofs.Chains.{set_here, set_other}
use Rattle.bit_blast.specs.Circuit.{Circuit, after, yes, no, with_entry, with_entries}
use Rattle.bit_blast.specs.Circuit as gate
use Rattle.bit_blast.specs.Made.{Makes, IsBelow}
use Rattle.bit_blast.proofs.Circuits.{after_more}
use Rattle.bit_blast.proofs.Laws.{made_vars}
use Rattle.unroll_cnf.specs.Unrolled.{Table}
use Rattle.dep_paths.specs.Observed.{Tag}
use Rattle.goal_cnf.specs.Activity.{lit_at}
use Rattle.goal_cnf.specs.Made.{AreLits, ArePast}
use Rattle.goal_cnf.specs.Observation.{Past, past_in, operand_tag, operand_bit, port_circuit, ports_circuit, tag_in, tag_circuit, tags_circuit, outputs_circuit}
use Rattle.goal_cnf.proofs.Making.{SoFar, part_made, part_overfills, none_made, all_made}
use Rattle.goal_cnf.proofs.Passing.{AnyBelow}
use Rattle.goal_cnf.proofs.Reading.{lit_below, lits_later}

-- ---- one port

pub any_later : (n m : ℕ) (u : Option Lit) → AnyBelow n u → n ≤ m → AnyBelow m u
any_later n m None h le = tt
any_later n m (Some l) h le = omega (arith, h)

pub tag_below : (n count : ℕ) (form : Form) (tags : List Lit) (before : Option (List Lit)) (a : EdgeId) → 0 < n → AreLits count n tags → ArePast (count + 2) n before → a.0 < count → (operand_tag form tags (past_in count before) a).var < n
tag_below n count (Input i) tags before a some are past lt = lit_below count n tags a.0 are lt
tag_below n count (Const v) tags before a some are past lt = lit_below count n tags a.0 are lt
tag_below n count (One o b) tags before a some are past lt = lit_below count n tags a.0 are lt
tag_below n count (Two o b c) tags before a some are past lt = lit_below count n tags a.0 are lt
tag_below n count (Ite b c d) tags before a some are past lt = lit_below count n tags a.0 are lt
tag_below n count (Arrow b c) tags before a some are past lt = lit_below count n tags a.0 are lt
tag_below n count (Pre b) tags None a some are past lt = some
tag_below n count (Pre b) tags (Some ls) a some are past lt = lit_below (count + 2) n ls a.0 past (omega arith)

pub bit_below : (n count : ℕ) (form : Form) (bit : Lit) (before : Option (List Lit)) → bit.var < n → ArePast (count + 2) n before → (operand_bit form bit (past_in count before)).var < n
bit_below n count (Input i) bit before lt past = lt
bit_below n count (Const v) bit before lt past = lt
bit_below n count (One o b) bit before lt past = lt
bit_below n count (Two o b c) bit before lt past = lt
bit_below n count (Ite b c d) bit before lt past = lt
bit_below n count (Arrow b c) bit before lt past = lt
bit_below n count (Pre b) bit None lt past = lt
bit_below n count (Pre b) bit (Some ls) lt past = lit_below (count + 2) n ls count past (omega arith)

-- ---- the ports of an edge

drop_at : (xs : List EdgeId) (i : ℕ) (a : EdgeId) → slice_get xs i ≡ Some a → drop i xs ≡ a ∷ drop (suc i) xs
drop_at [] i a is = absurd (cc)
drop_at (x ∷ xs) zero a is = let e : x ≡ a = cc in ap (λ (y : EdgeId). y ∷ xs) e
drop_at (x ∷ xs) (suc i) a is = drop_at xs i a is

module _ (edges : List Edge) (tag : Tag) (e : EdgeId) (form : Form) (now : Table) (bit : Lit) (tags : List Lit) (past : Option Past) where
  -- the first ports are made
  pub record PortsSoFar (f g : Shape) (reached : Lit) (i : ℕ) : Type 0 where
    pub so_far : SoFar Lit f g (tag_circuit f.vars edges tag e now bit tags past) (ports_circuit g.vars tag e form now bit tags past i reached (drop i (operands_of edges e))) (λ r. r)
    pub below : reached.var < g.vars

  pub ports_start : (f : Shape) (edge : Edge) (reached : Lit) → 0 < f.vars → slice_get edges e.0 ≡ Some edge → form ≡ form_of edge.op → reached ≡ no 0 → PortsSoFar f f reached 0
  ports_start f edge reached some is k r =
      let whole = tag_circuit f.vars edges tag e now bit tags past in
      let rest = ports_circuit f.vars tag e form now bit tags past 0 reached (operands_of edges e) in
      let same : whole ≡ rest =
      ap (λ (o : Option Edge). tag_in f.vars tag e o now bit tags past) is
      ∙ (ap (λ (x : Form). ports_circuit f.vars tag e x now bit tags past 0 (no 0) (operands_by x)) (sym k)
      ∙ ap₂ (λ (x : Lit) (l : List EdgeId). ports_circuit f.vars tag e form now bit tags past 0 x l) (sym r) (ap operands_by k ∙ sym (ap operands_in is))) in
      record {
        so_far = none_made Lit f whole rest (λ r. r) (ap (λ (z : Circuit Lit). z.entries) same) (ap (λ (z : Circuit Lit). z.result) same);
        below = omega (arith, ap (λ (l : Lit). l.var) r);
      }

  pub ports_full : (f g : Shape) (reached : Lit) (i most : ℕ) (a : EdgeId) → PortsSoFar f g reached i → slice_get (operands_of edges e) i ≡ Some a →
      most < after g.vars (port_circuit g.vars tag e form now bit tags past i a reached).entries → most < after f.vars (tag_circuit f.vars edges tag e now bit tags past).entries
  ports_full f g reached i most a s is full =
      let one = port_circuit g.vars tag e form now bit tags past i a reached in
      let later = ports_circuit (after g.vars one.entries) tag e form now bit tags past (suc i) one.result (drop (suc i) (operands_of edges e)) in
      part_overfills Lit Lit f g most _ _ later (λ r. r) one s.so_far
      (ap (λ (l : List EdgeId). (ports_circuit g.vars tag e form now bit tags past i reached l).entries) (drop_at (operands_of edges e) i a is))
      full

  pub ports_next : (f g h : Shape) (reached lit : Lit) (i : ℕ) (a : EdgeId) → PortsSoFar f g reached i → slice_get (operands_of edges e) i ≡ Some a →
      Makes Lit g h (port_circuit g.vars tag e form now bit tags past i a reached) lit → lit.var < h.vars → PortsSoFar f h lit (i + 1)
  ports_next f g h reached lit i a s is m below =
      let one = port_circuit g.vars tag e form now bit tags past i a reached in
      let later = ports_circuit h.vars tag e form now bit tags past (i + 1) lit (drop (i + 1) (operands_of edges e)) in
      let same : ports_circuit (after g.vars one.entries) tag e form now bit tags past (suc i) one.result (drop (suc i) (operands_of edges e)) ≡ later =
      ap₂ (λ n j. ports_circuit n tag e form now bit tags past j one.result (drop j (operands_of edges e))) (sym (made_vars Lit g h one lit m)) (let k : suc i ≡ i + 1 = omega arith in k)
      ∙ ap (λ (x : Lit). ports_circuit h.vars tag e form now bit tags past (i + 1) x (drop (i + 1) (operands_of edges e))) (sym m.gives) in
      let at = ap (ports_circuit g.vars tag e form now bit tags past i reached) (drop_at (operands_of edges e) i a is) in
      record {
        so_far = part_made Lit Lit f g h _ _ later (λ r. r) (λ r. r) one lit s.so_far m
            (ap (λ (z : Circuit Lit). z.entries) at ∙ ap (λ (z : Circuit Lit). one.entries ++ z.entries) same)
            (ap (λ (z : Circuit Lit). z.result) at ∙ ap (λ (z : Circuit Lit). z.result) same);
        below = below;
      }

  pub ports_made : (f g : Shape) (reached : Lit) (i : ℕ) → PortsSoFar f g reached i → length (operands_of edges e) ≤ i → Makes Lit f g (tag_circuit f.vars edges tag e now bit tags past) reached
  ports_made f g reached i s le =
      let none = ap (ports_circuit g.vars tag e form now bit tags past i reached) (drop_of_length-le (operands_of edges e) le) in
      all_made Lit f g _ _ (λ r. r) reached s.so_far (ap (λ (z : Circuit Lit). z.entries) none) (sym (ap (λ (z : Circuit Lit). z.result) none))

-- ---- the edges in order

pub order_within : (edges : List Edge) (order : List EdgeId) → IsSequence edges order → All (λ (e : EdgeId). e.0 < length edges) order
order_within edges order q = λ j d lt. (q.least j (get_or order j d) (slice_get-get_or order j d lt)).stands.within

none_below : (n count : ℕ) → 0 < n → AreLits count n (replicate count (no 0))
none_below n zero some = record { size = refl; below = All-nil (λ (l : Lit). l.var < n) }
none_below n (suc count) some =
    let rest = none_below n count some in
    record { size = ap suc rest.size; below = λ j d lt. first j d lt rest.below }
  where
    first : (j : ℕ) (d : Lit) → j < suc (length (replicate count (no 0))) → IsBelow n (replicate count (no 0)) → (get_or (no 0 ∷ replicate count (no 0)) j d).var < n
    first zero d lt b = some
    first (suc j) d lt b = b j d (omega arith)

set_below : (count n : ℕ) (lits : List Lit) (i : ℕ) (lit : Lit) → AreLits count n lits → i < count → lit.var < n → AreLits count n (slice_set lits i lit)
set_below count n lits i lit are lt below = record {
  size = length-set _ _ _ ∙ are.size;
  below = λ j d within. elim (cases_Bool (nat_eq j i)) [
    | inl e ↦ let k : j ≡ i = grind (arith, nat_tests) in
        subst (λ x. (get_or (slice_set lits i lit) x d).var < n) (sym k) (subst (λ (l : Lit). l.var < n) (sym (set_here lits i lit d (omega (arith, are.size)))) below)
    | inr e ↦ let k : j ≡ i → ⊥ = grind (arith, nat_tests) in
        subst (λ (l : Lit). l.var < n) (sym (set_other lits j i lit d k)) (are.below j d (omega (arith, length-set lits i lit)))
  ];
}

module _ (edges : List Edge) (tag : Tag) (now : Table) (bit : Lit) (past : Option Past) (order : List EdgeId) where
  -- the first edges of the order are made
  pub record TagsSoFar (f g : Shape) (i : ℕ) (tags : List Lit) : Type 0 where
    pub so_far : SoFar (List Lit) f g (tags_circuit f.vars edges tag now bit past (replicate (length edges) (no 0)) order) (tags_circuit g.vars edges tag now bit past tags (drop i order)) (λ r. r)
    pub are : AreLits (length edges) g.vars tags

  pub tags_start : (f : Shape) (tags : List Lit) → 0 < f.vars → tags ≡ replicate (length edges) (no 0) → TagsSoFar f f 0 tags
  tags_start f tags some t =
      let same = ap (λ (z : List Lit). tags_circuit f.vars edges tag now bit past z order) (sym t) in
      record {
        so_far = none_made (List Lit) f _ _ (λ r. r) (ap (λ (z : Circuit (List Lit)). z.entries) same) (ap (λ (z : Circuit (List Lit)). z.result) same);
        are = subst (AreLits (length edges) f.vars) (sym t) (none_below f.vars (length edges) some);
      }

  order_rest : (i : ℕ) (d : EdgeId) → i < length order → drop i order ≡ get_or order i d ∷ drop (i + 1) order
  order_rest i d lt = drop-cons order i d lt ∙ ap (λ k. get_or order i d ∷ drop k order) (let e : suc i ≡ i + 1 = omega arith in e)

  pub tags_full : (f g : Shape) (i most : ℕ) (tags : List Lit) (d : EdgeId) → TagsSoFar f g i tags → i < length order →
      most < after g.vars (tag_circuit g.vars edges tag (get_or order i d) now bit tags past).entries → most < after f.vars (tags_circuit f.vars edges tag now bit past (replicate (length edges) (no 0)) order).entries
  tags_full f g i most tags d s lt full =
      let e = get_or order i d in
      let one = tag_circuit g.vars edges tag e now bit tags past in
      let later = tags_circuit (after g.vars one.entries) edges tag now bit past (slice_set tags e.0 one.result) (drop (i + 1) order) in
      part_overfills (List Lit) Lit f g most _ _ later (λ r. r) one s.so_far (ap (λ (l : List EdgeId). (tags_circuit g.vars edges tag now bit past tags l).entries) (order_rest i d lt)) full

  pub tags_next : (f g h : Shape) (i : ℕ) (tags longer : List Lit) (lit : Lit) (d : EdgeId) → TagsSoFar f g i tags → i < length order → (get_or order i d).0 < length edges →
      Makes Lit g h (tag_circuit g.vars edges tag (get_or order i d) now bit tags past) lit → lit.var < h.vars → longer ≡ slice_set tags (get_or order i d).0 lit → TagsSoFar f h (i + 1) longer
  tags_next f g h i tags longer lit d s lt within m below l =
      let e = get_or order i d in
      let one = tag_circuit g.vars edges tag e now bit tags past in
      let later = tags_circuit h.vars edges tag now bit past longer (drop (i + 1) order) in
      let vars = made_vars Lit g h one lit m in
      let same : tags_circuit (after g.vars one.entries) edges tag now bit past (slice_set tags e.0 one.result) (drop (i + 1) order) ≡ later =
      ap₂ (λ n (z : List Lit). tags_circuit n edges tag now bit past z (drop (i + 1) order)) (sym vars) (ap (slice_set tags e.0) (sym m.gives) ∙ sym l) in
      let at = ap (tags_circuit g.vars edges tag now bit past tags) (order_rest i d lt) in
      record {
        so_far = part_made (List Lit) Lit f g h _ _ later (λ r. r) (λ r. r) one lit s.so_far m
            (ap (λ (z : Circuit (List Lit)). z.entries) at ∙ ap (λ (z : Circuit (List Lit)). one.entries ++ z.entries) same)
            (ap (λ (z : Circuit (List Lit)). z.result) at ∙ ap (λ (z : Circuit (List Lit)). z.result) same);
        are = subst (AreLits (length edges) h.vars) (sym l) (set_below (length edges) h.vars tags e.0 lit (lits_later (length edges) g.vars h.vars tags s.are (omega (arith, vars, after_more g.vars one.entries))) within below);
      }

  pub tags_made : (f g : Shape) (i : ℕ) (tags : List Lit) → TagsSoFar f g i tags → length order ≤ i → Makes (List Lit) f g (tags_circuit f.vars edges tag now bit past (replicate (length edges) (no 0)) order) tags
  tags_made f g i tags s le =
      let none = ap (tags_circuit g.vars edges tag now bit past tags) (drop_of_length-le order le) in
      all_made (List Lit) f g _ _ (λ r. r) tags s.so_far (ap (λ (z : Circuit (List Lit)). z.entries) none) (sym (ap (λ (z : Circuit (List Lit)). z.result) none))

-- ---- the outputs

module _ (tags : List Lit) (outputs : List EdgeId) where
  -- the first outputs are made
  pub record OutputsSoFar (f g : Shape) (i : ℕ) (met : Lit) : Type 0 where
    pub so_far : SoFar Lit f g (outputs_circuit f.vars tags (no 0) outputs) (outputs_circuit g.vars tags met (drop i outputs)) (λ r. r)
    pub below : met.var < g.vars

  pub outputs_start : (f : Shape) (met : Lit) → 0 < f.vars → met ≡ no 0 → OutputsSoFar f f 0 met
  outputs_start f met some e =
      let same = ap (λ (z : Lit). outputs_circuit f.vars tags z outputs) (sym e) in
      record {
        so_far = none_made Lit f _ _ (λ r. r) (ap (λ (z : Circuit Lit). z.entries) same) (ap (λ (z : Circuit Lit). z.result) same);
        below = omega (arith, ap (λ (l : Lit). l.var) e);
      }

  one_output : ℕ → Lit → EdgeId → Circuit Lit
  one_output n met e = record { entries = gate.Or met (lit_at tags e.0) ∷ []; result = yes n }

  outputs_rest : (i : ℕ) (d : EdgeId) → i < length outputs → drop i outputs ≡ get_or outputs i d ∷ drop (i + 1) outputs
  outputs_rest i d lt = drop-cons outputs i d lt ∙ ap (λ k. get_or outputs i d ∷ drop k outputs) (let e : suc i ≡ i + 1 = omega arith in e)

  pub outputs_full : (f g : Shape) (i most : ℕ) (met : Lit) (d : EdgeId) → OutputsSoFar f g i met → i < length outputs → most ≤ g.vars → most < after f.vars (outputs_circuit f.vars tags (no 0) outputs).entries
  outputs_full f g i most met d s lt full =
      let e = get_or outputs i d in
      let one : Circuit Lit = record { entries = gate.Or met (lit_at tags e.0) ∷ []; result = yes g.vars } in
      let later = outputs_circuit (suc g.vars) tags (yes g.vars) (drop (i + 1) outputs) in
      part_overfills Lit Lit f g most _ _ later (λ r. r) one s.so_far (ap (λ (l : List EdgeId). (outputs_circuit g.vars tags met l).entries) (outputs_rest i d lt)) (omega arith)

  pub outputs_next : (f g h : Shape) (i : ℕ) (met lit : Lit) (d : EdgeId) → OutputsSoFar f g i met → i < length outputs →
      h ≡ with_entry g (gate.Or met (lit_at tags (get_or outputs i d).0)) → lit ≡ yes g.vars → OutputsSoFar f h (i + 1) lit
  outputs_next f g h i met lit d s lt m r =
      let e = get_or outputs i d in
      let one : Circuit Lit = record { entries = gate.Or met (lit_at tags e.0) ∷ []; result = yes g.vars } in
      let makes : Makes Lit g h one lit = record { made = m; gives = r } in
      let vars : h.vars ≡ suc g.vars = ap (λ (z : Shape). z.vars) m in
      let later = outputs_circuit h.vars tags lit (drop (i + 1) outputs) in
      let same : outputs_circuit (suc g.vars) tags (yes g.vars) (drop (i + 1) outputs) ≡ later = ap₂ (λ n (z : Lit). outputs_circuit n tags z (drop (i + 1) outputs)) (sym vars) (sym r) in
      let at = ap (outputs_circuit g.vars tags met) (outputs_rest i d lt) in
      record {
        so_far = part_made Lit Lit f g h _ _ later (λ r. r) (λ r. r) one lit s.so_far makes
            (ap (λ (z : Circuit Lit). z.entries) at ∙ ap (λ (z : Circuit Lit). one.entries ++ z.entries) same)
            (ap (λ (z : Circuit Lit). z.result) at ∙ ap (λ (z : Circuit Lit). z.result) same);
        below = omega (arith, ap (λ (l : Lit). l.var) r, vars);
      }

  pub outputs_made : (f g : Shape) (i : ℕ) (met : Lit) → OutputsSoFar f g i met → length outputs ≤ i → Makes Lit f g (outputs_circuit f.vars tags (no 0) outputs) met
  outputs_made f g i met s le =
      let none = ap (outputs_circuit g.vars tags met) (drop_of_length-le outputs le) in
      all_made Lit f g _ _ (λ r. r) met s.so_far (ap (λ (z : Circuit Lit). z.entries) none) (sym (ap (λ (z : Circuit Lit). z.result) none))
