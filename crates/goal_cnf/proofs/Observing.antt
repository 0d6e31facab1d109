-- The literals of a condition at an instant: those of the edges, the bit of the operand, and whether an output is reached.
use Rattle.std.proofs.Common.{◌≡◌, ℕ, ◌+◌, ◌<◌, ◌≤◌, List, [], ◌∷◌, ◌++◌, length, replicate, sym, ap, ap₂, ◌∙◌, subst, arith, Option, Some, append_assoc, length-append}
use Rattle.std.specs.Option.{option_map_or}
use Rattle.std.proofs.lemmas.List.Elements.{All-push}
use Rattle.cnf_form.specs.declared.lit.Lit.{Lit}
use Rattle.cnf_form.specs.Shape.{Shape}
use Rattle.op_network.specs.declared.edge.Edge.{Edge}
use Rattle.op_network.specs.declared.edge.EdgeId.{EdgeId}
use Rattle.bit_blast.specs.Circuit.{Circuit, after, no, with_entries}
use Rattle.bit_blast.specs.Made.{Makes, IsBelow}
use Rattle.bit_blast.proofs.Circuits.{after-append, after_more, with_entries-append}
use Rattle.bit_blast.proofs.Laws.{made_vars}
use Rattle.unroll_cnf.specs.Unrolled.{Table, only}
use Rattle.dep_paths.specs.Conditions.{operand_at}
use Rattle.dep_paths.specs.Observed.{Tag}
use Rattle.goal_cnf.specs.Made.{AreLits}
use Rattle.goal_cnf.specs.Observation.{past_in, condition_bit, tags_circuit, outputs_circuit, observation}
use Rattle.goal_cnf.proofs.Reading.{lits_later}

pub bit_is : (edges read : List Edge) (tag : Tag) (now : Table) (a : EdgeId) (bit : Lit) → read ≡ edges → operand_at read tag.condition ≡ Some a → bit ≡ only (now a.0) → bit ≡ condition_bit edges tag now
bit_is edges read tag now a bit e is b = b ∙ ap (λ (o : Option EdgeId). option_map_or (λ (x : EdgeId). only (now x.0)) o (no 0)) (sym is ∙ ap (λ (l : List Edge). operand_at l tag.condition) e)

module _ (edges : List Edge) (order outputs : List EdgeId) (tag : Tag) (now : Table) (before : Option (List Lit)) where
  abbrev pub all_tags : ℕ → List Edge → Lit → List EdgeId → Circuit (List Lit)
  all_tags n es bit l = tags_circuit n es tag now bit (past_in (length es) before) (replicate (length es) (no 0)) l

  same_tags : (n : ℕ) (read : List Edge) (taken : List EdgeId) (bit : Lit) → read ≡ edges → taken ≡ order → bit ≡ condition_bit edges tag now → all_tags n read bit taken ≡ all_tags n edges (condition_bit edges tag now) order
  same_tags n read taken bit e k b = ap (λ (es : List Edge). all_tags n es bit taken) e ∙ ap₂ (all_tags n edges) b k

  pub tags_overfill : (n most : ℕ) (read : List Edge) (taken : List EdgeId) (bit : Lit) → read ≡ edges → taken ≡ order → bit ≡ condition_bit edges tag now → most < after n (all_tags n read bit taken).entries → most < after n (observation n edges order outputs tag now before).entries
  tags_overfill n most read taken bit e k b full =
      let all = all_tags n edges (condition_bit edges tag now) order in
      let met = outputs_circuit (after n all.entries) all.result (no 0) outputs in
      omega (
        arith,
        full,
        ap (λ (z : Circuit (List Lit)). after n z.entries) (same_tags n read taken bit e k b),
        after-append n all.entries met.entries,
        after_more (after n all.entries) met.entries,
      )

  module _ (f g : Shape) (read : List Edge) (taken : List EdgeId) (bit : Lit) (tags : List Lit) (e : read ≡ edges) (k : taken ≡ order) (b : bit ≡ condition_bit edges tag now) (m : Makes (List Lit) f g (all_tags f.vars read bit taken) tags) where
    made_tags : Makes (List Lit) f g (all_tags f.vars edges (condition_bit edges tag now) order) tags
    made_tags = subst (λ (z : Circuit (List Lit)). Makes (List Lit) f g z tags) (same_tags f.vars read taken bit e k b) m

    same_outputs : (read_tags : List Lit) (listed : List EdgeId) → read_tags ≡ tags → listed ≡ outputs →
        outputs_circuit g.vars read_tags (no 0) listed ≡ outputs_circuit (after f.vars (all_tags f.vars edges (condition_bit edges tag now) order).entries) (all_tags f.vars edges (condition_bit edges tag now) order).result (no 0) outputs
    same_outputs read_tags listed t l =
        ap₂ (λ (x : List Lit) (y : List EdgeId). outputs_circuit g.vars x (no 0) y) (t ∙ made_tags.gives) l
        ∙ ap (λ n. outputs_circuit n (all_tags f.vars edges (condition_bit edges tag now) order).result (no 0) outputs) (made_vars (List Lit) f g (all_tags f.vars edges (condition_bit edges tag now) order) tags made_tags)

    pub outputs_overfill : (most : ℕ) (read_tags : List Lit) (listed : List EdgeId) → read_tags ≡ tags → listed ≡ outputs → most < after g.vars (outputs_circuit g.vars read_tags (no 0) listed).entries → most < after f.vars (observation f.vars edges order outputs tag now before).entries
    outputs_overfill most read_tags listed t l full =
        let all = all_tags f.vars edges (condition_bit edges tag now) order in
        let met = outputs_circuit (after f.vars all.entries) all.result (no 0) outputs in
        omega (
          arith,
          full,
          ap (λ (z : Circuit Lit). after g.vars z.entries) (same_outputs read_tags listed t l),
          ap (λ n. after n met.entries) (made_vars (List Lit) f g all tags made_tags),
          after-append f.vars all.entries met.entries,
        )

    pub observation_made : (h : Shape) (read_tags lits longer : List Lit) (met : Lit) (listed : List EdgeId) → read_tags ≡ tags → listed ≡ outputs → Makes Lit g h (outputs_circuit g.vars read_tags (no 0) listed) met →
        lits ≡ tags ++ bit ∷ [] → longer ≡ lits ++ met ∷ [] → Makes (List Lit) f h (observation f.vars edges order outputs tag now before) longer
    observation_made h read_tags lits longer met listed t l o p q =
        let all = all_tags f.vars edges (condition_bit edges tag now) order in
        let out = outputs_circuit (after f.vars all.entries) all.result (no 0) outputs in
        let same = same_outputs read_tags listed t l in
        record {
          made = o.made ∙ (ap₂ (λ (x : Shape) (z : Circuit Lit). with_entries x z.entries) made_tags.made same ∙ sym (with_entries-append f all.entries out.entries));
          gives = q ∙ (ap (λ (z : List Lit). z ++ met ∷ []) p
              ∙ (append_assoc tags (bit ∷ []) (met ∷ [])
              ∙ (ap₂ (λ (x : List Lit) (y : Lit). x ++ y ∷ met ∷ []) made_tags.gives b
              ∙ ap (λ (y : Lit). all.result ++ condition_bit edges tag now ∷ y ∷ []) (o.gives ∙ ap (λ (z : Circuit Lit). z.result) same))));
        }

pub observation_lits : (count n m : ℕ) (tags lits longer : List Lit) (bit met : Lit) → AreLits count n tags → n ≤ m → bit.var < m → met.var < m → lits ≡ tags ++ bit ∷ [] → longer ≡ lits ++ met ∷ [] → AreLits (count + 2) m longer
observation_lits count n m tags lits longer bit met are le b o p q =
    let old = lits_later count n m tags are le in
    let one = subst (IsBelow m) (sym p) (All-push (λ (x : Lit). x.var < m) tags bit old.below b) in
    record {
      size = omega (arith, ap length p, ap length q, length-append tags (bit ∷ []), length-append lits (met ∷ []), old.size);
      below = subst (IsBelow m) (sym q) (All-push (λ (x : Lit). x.var < m) lits met one o);
    }
