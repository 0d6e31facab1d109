-- The loop that makes the literal that the inputs so far are admissible.
use Rattle.std.proofs.Common.{◌≡◌, ℕ, suc, ◌+◌, ◌<◌, ◌≤◌, List, [], ◌∷◌, ◌++◌, length, drop, get_or, sym, ap, ap₂, ◌∙◌, arith}
use Rattle.std.proofs.Math.ListN.{drop_of_length-le}
use Rattle.std.proofs.Math.Seq.{drop-cons}
use Rattle.cnf_form.specs.declared.lit.Lit.{Lit}
use Rattle.cnf_form.specs.Shape.{Shape}
use Rattle.op_network.specs.declared.edge.EdgeId.{EdgeId}
use Rattle.bit_blast.specs.Circuit.{Circuit, after, yes, with_entry}
use Rattle.bit_blast.specs.Circuit as gate
use Rattle.bit_blast.specs.Made.{Makes}
use Rattle.unroll_cnf.specs.Unrolled.{Table, only}
use Rattle.goal_cnf.specs.Goal.{adm_circuit}
use Rattle.goal_cnf.proofs.Making.{SoFar, part_made, part_overfills, none_made, all_made}

module _ (now : Table) (adm : Lit) (asserts : List EdgeId) where
  -- the first assertions are joined
  pub record AdmSoFar (f g : Shape) (i : ℕ) (so : Lit) : Type 0 where
    pub so_far : SoFar Lit f g (adm_circuit f.vars now adm asserts) (adm_circuit g.vars now so (drop i asserts)) (λ r. r)
    pub below : so.var < g.vars

  pub adm_start : (f : Shape) (so : Lit) → adm.var < f.vars → so ≡ adm → AdmSoFar f f 0 so
  adm_start f so lt e =
      let same = ap (λ (z : Lit). adm_circuit f.vars now z asserts) (sym e) in
      record {
        so_far = none_made Lit f _ _ (λ r. r) (ap (λ (z : Circuit Lit). z.entries) same) (ap (λ (z : Circuit Lit). z.result) same);
        below = omega (arith, ap (λ (l : Lit). l.var) e);
      }

  rest_is : (i : ℕ) (d : EdgeId) → i < length asserts → drop i asserts ≡ get_or asserts i d ∷ drop (i + 1) asserts
  rest_is i d lt = drop-cons asserts i d lt ∙ ap (λ k. get_or asserts i d ∷ drop k asserts) (let e : suc i ≡ i + 1 = omega arith in e)

  pub adm_full : (f g : Shape) (i most : ℕ) (so : Lit) (d : EdgeId) → AdmSoFar f g i so → i < length asserts → most ≤ g.vars → most < after f.vars (adm_circuit f.vars now adm asserts).entries
  adm_full f g i most so d s lt full =
      let one : Circuit Lit = record { entries = gate.And so (only (now (get_or asserts i d).0)) ∷ []; result = yes g.vars } in
      let later = adm_circuit (suc g.vars) now (yes g.vars) (drop (i + 1) asserts) in
      part_overfills Lit Lit f g most _ _ later (λ r. r) one s.so_far (ap (λ (l : List EdgeId). (adm_circuit g.vars now so l).entries) (rest_is i d lt)) (omega arith)

  pub adm_next : (f g h : Shape) (i : ℕ) (so bit lit : Lit) (d : EdgeId) → AdmSoFar f g i so → i < length asserts → bit ≡ only (now (get_or asserts i d).0) →
      h ≡ with_entry g (gate.And so bit) → lit ≡ yes g.vars → AdmSoFar f h (i + 1) lit
  adm_next f g h i so bit lit d s lt b m r =
      let one : Circuit Lit = record { entries = gate.And so (only (now (get_or asserts i d).0)) ∷ []; result = yes g.vars } in
      let makes : Makes Lit g h one lit = record { made = m ∙ ap (λ (x : Lit). with_entry g (gate.And so x)) b; gives = r } in
      let vars : h.vars ≡ suc g.vars = ap (λ (z : Shape). z.vars) m in
      let later = adm_circuit h.vars now lit (drop (i + 1) asserts) in
      let same : adm_circuit (suc g.vars) now (yes g.vars) (drop (i + 1) asserts) ≡ later = ap₂ (λ n (z : Lit). adm_circuit n now z (drop (i + 1) asserts)) (sym vars) (sym r) in
      let at = ap (adm_circuit g.vars now so) (rest_is i d lt) in
      record {
        so_far = part_made Lit Lit f g h _ _ later (λ r. r) (λ r. r) one lit s.so_far makes
            (ap (λ (z : Circuit Lit). z.entries) at ∙ ap (λ (z : Circuit Lit). one.entries ++ z.entries) same)
            (ap (λ (z : Circuit Lit). z.result) at ∙ ap (λ (z : Circuit Lit). z.result) same);
        below = omega (arith, ap (λ (l : Lit). l.var) r, vars);
      }

  pub adm_made : (f g : Shape) (i : ℕ) (so : Lit) → AdmSoFar f g i so → length asserts ≤ i → Makes Lit f g (adm_circuit f.vars now adm asserts) so
  adm_made f g i so s le =
      let none = ap (adm_circuit g.vars now so) (drop_of_length-le asserts le) in
      all_made Lit f g _ _ (λ r. r) so s.so_far (ap (λ (z : Circuit Lit). z.entries) none) (sym (ap (λ (z : Circuit Lit). z.result) none))
