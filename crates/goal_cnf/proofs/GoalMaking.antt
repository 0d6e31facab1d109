-- The formula of a goal: the hits behind the unrolled network, and the clause of all hits.
use Rattle.std.proofs.Common.{◌≡◌, ℕ, ◌<◌, ◌≤◌, true, List, [], ◌∷◌, ◌++◌, length, map, refl, sym, ap, ap₂, ◌∙◌, arith, None, IsTrue}
use Rattle.std.specs.Prelude.{All}
use Rattle.std.proofs.lemmas.Bool.{lt-ltb}
use Rattle.cnf_form.specs.declared.lit.Lit.{Lit}
use Rattle.cnf_form.specs.Limits.{most_vars}
use Rattle.cnf_form.specs.Lits.{below}
use Rattle.cnf_form.specs.Shape.{Shape, shape}
use Rattle.op_network.specs.declared.edge.EdgeId.{EdgeId}
use Rattle.op_network.specs.declared.edge.Parts.{Parts}
use Rattle.op_network.specs.Valid.{IsValid}
use Rattle.lus_causality.specs.Causality.{IsSequence}
use Rattle.bit_blast.specs.Circuit.{Circuit, Require, after, yes, with_entry, with_entries}
use Rattle.bit_blast.specs.Limits.{most_required}
use Rattle.bit_blast.specs.Made.{Makes}
use Rattle.bit_blast.proofs.Circuits.{after_more, clauses_counted, vars-with_entries, with_entries-append}
use Rattle.bit_blast.proofs.Laws.{made_vars}
use Rattle.bit_blast.proofs.Made.{Within, within}
use Rattle.unroll_cnf.specs.Made.{AreWords, HasRoom, IsUnrolled, Streams, table_of}
use Rattle.unroll_cnf.specs.Sizes.{size_of}
use Rattle.unroll_cnf.specs.Unrolled.{Table, first_part, instants}
use Rattle.dep_paths.specs.declared.path.Obligation.{Obligation}
use Rattle.dep_paths.specs.Duties.{IsWithinLimits, Planned}
use Rattle.goal_cnf.specs.Goal.{goal_formula, goal_hits, hits}
use Rattle.goal_cnf.specs.Made.{AreLits, AreStreams}
use Rattle.goal_cnf.proofs.Bounds.{hits_few}
use Rattle.goal_cnf.proofs.Hitting.{length_map}
use Rattle.goal_cnf.proofs.Required.{hits_none}
use Rattle.goal_cnf.proofs.Words.{length_instants}

within_all : (n : ℕ) (ls : List Lit) → Within n ls → below n ls ≡ true
within_all n [] w = refl
within_all n (l ∷ ls) w = rw (lt-ltb l.var n w.0) (within_all n ls w.1)

-- literals of variables of the formula make a clause of it
pub clause_inside : (count n : ℕ) (ls clause : List Lit) → AreLits count n ls → clause ≡ ls → IsTrue (below n clause)
clause_inside count n ls clause are e = ap (below n) e ∙ within_all n ls (within n ls are.below)

module _ (parts : Parts) (order : List EdgeId) (un : Streams) (unrolled : IsUnrolled parts order un.instants un) where
  pub vars_are : un.formula.vars ≡ after 0 (first_part parts order un.instants).entries
  vars_are = ap (λ (f : Shape). f.vars) unrolled.formula ∙ vars-with_entries (shape 0 []) (first_part parts order un.instants).entries

  -- what the code reads is there
  pub streams_are : IsValid parts → All (AreWords parts un.formula.vars) un.words → AreStreams parts un
  streams_are valid there = record {
    valid = valid;
    edges = unrolled.edges;
    rows = sym (length_map un.words) ∙ (ap (λ (l : List Table). length l) unrolled.words ∙ length_instants parts order un.instants None 1);
    words = there;
    some = omega (arith, vars_are, after_more 1 (instants parts order None 1 un.instants).entries);
  }

  module _ (plan : Planned) (o : Obligation) (f g : Shape) (hs : List Lit) (copy : f ≡ un.formula) where
    abbrev behind : Circuit (List Lit)
    behind = hits parts order plan o f.vars None (yes 0) (map table_of un.words)

    goal_is : behind ≡ goal_hits parts order plan o un.instants
    goal_is = ap₂ (λ n (w : List Table). hits parts order plan o n None (yes 0) w) (ap (λ (z : Shape). z.vars) copy ∙ vars_are) unrolled.words

    few : IsValid parts → IsSequence parts.edges order → IsWithinLimits plan → after f.vars behind.entries ≤ size_of parts un.instants
    few valid sequence limits =
        omega (
          arith,
          ap₂ (λ n (z : Circuit (List Lit)). after n z.entries) (ap (λ (z : Shape). z.vars) copy ∙ vars_are) goal_is,
          hits_few parts valid order sequence plan limits o un.instants,
        )

    -- the formula is never full
    pub never_full : IsValid parts → IsSequence parts.edges order → IsWithinLimits plan → size_of parts un.instants ≤ most_vars → most_vars < after f.vars behind.entries → ⊥
    never_full valid sequence limits small full = omega (arith, few valid sequence limits, small, full)

    module _ (m : Makes (List Lit) f g behind hs) where
      pub few_vars : IsValid parts → IsSequence parts.edges order → IsWithinLimits plan → g.vars ≤ size_of parts un.instants
      few_vars valid sequence limits = omega (arith, made_vars (List Lit) f g behind hs m, few valid sequence limits)

      -- there is room for the last clause
      pub last_fits : IsValid parts → IsSequence parts.edges order → IsWithinLimits plan → size_of parts un.instants ≤ most_vars → HasRoom un.formula 1 → length g.clauses < most_required
      last_fits valid sequence limits small room =
          omega (
            arith,
            few_vars valid sequence limits,
            small,
            room,
            ap (λ (z : Shape). z.vars) copy,
            ap (λ (z : Shape). length z.clauses) copy,
            made_vars (List Lit) f g behind hs m,
            after_more f.vars behind.entries,
            clauses_counted f behind.entries,
            hits_none parts order plan o f.vars None (yes 0) (map table_of un.words),
            ap (λ (z : Shape). length z.clauses) m.made,
          )

      pub hits_are : hs ≡ (goal_hits parts order plan o un.instants).result
      hits_are = m.gives ∙ ap (λ (z : Circuit (List Lit)). z.result) goal_is

      pub formula_is : (h : Shape) (clause : List Lit) → clause ≡ hs → h ≡ with_entry g (Require clause) → h ≡ goal_formula parts order plan o un.instants
      formula_is h clause c e =
          let one = first_part parts order un.instants in
          let goal = goal_hits parts order plan o un.instants in
          e
          ∙ (ap (λ (z : List Lit). with_entry g (Require z)) (c ∙ hits_are)
          ∙ (ap (λ (x : Shape). with_entry x (Require goal.result))
          (m.made
          ∙ (ap₂ (λ (x : Shape) (z : Circuit (List Lit)). with_entries x z.entries) (copy ∙ unrolled.formula) goal_is))
          ∙ (sym (with_entries-append (with_entries (shape 0 []) one.entries) goal.entries (Require goal.result ∷ []))
          ∙ sym (with_entries-append (shape 0 []) one.entries (goal.entries ++ Require goal.result ∷ [])))))
