-- Assignments that agree below n give words of variables below n the same values.
use Rattle.std.proofs.Common.{◌≡◌, ℕ, suc, ◌+◌, Bool, List, [], ◌∷◌, refl, sym, ap, ap₂, ◌∙◌, arith, Some}
use Rattle.std.specs.Prelude.{slice_get}
use Rattle.op_network.specs.declared.edge.Edge.{Edge}
use Rattle.op_network.specs.declared.edge.Parts.{Parts}
use Rattle.op_network.specs.declared.value.Value.{Value}
use Rattle.bit_blast.specs.Meaning.{Agree}
use Rattle.unroll_cnf.specs.Values.{bits_value}
use Rattle.unroll_cnf.specs.Laws.{values_from, frames_of}
use Rattle.unroll_cnf.specs.Unrolled.{Table}
use Rattle.unroll_cnf.proofs.Agreement.{bits_agree}
use Rattle.unroll_cnf.proofs.Placed.{PlacedBefore}
use Rattle.unroll_cnf.proofs.Runs.{type_is}

module _ (parts : Parts) (v w : ℕ → Bool) (n : ℕ) (agree : Agree n v w) where
  values_agree : (table : Table) → PlacedBefore parts n (Some table) → (i : ℕ) (edges : List Edge) → ((j : ℕ) → slice_get edges j ≡ slice_get parts.edges (i + j)) → values_from v table i edges ≡ values_from w table i edges
  values_agree table p i [] same = refl
  values_agree table p i (edge ∷ edges) same =
      let at : i + 0 ≡ i = omega arith in
      let is : slice_get parts.edges i ≡ Some edge = ap (slice_get parts.edges) (sym at) ∙ sym (same 0) in
      let within = p (record { 0 = i }) edge.ty (type_is parts.edges (record { 0 = i }) edge is) in
      ap₂ (λ (x : Value) (xs : List Value). x ∷ xs) (ap (bits_value edge.ty) (bits_agree n v w (table i) within agree))
      (values_agree table p (suc i) edges (λ j. let e : i + suc j ≡ suc i + j = omega arith in same (suc j) ∙ ap (slice_get parts.edges) e))

  -- so the frames of tables of such words are the same
  pub frames_agree : (tables : List Table) → ((i : ℕ) (now : Table) → slice_get tables i ≡ Some now → PlacedBefore parts n (Some now)) → frames_of parts v tables ≡ frames_of parts w tables
  frames_agree [] p = refl
  frames_agree (table ∷ tables) p =
      ap₂ (λ (x : List Value) (xs : List (List Value)). x ∷ xs)
      (values_agree table (p 0 table refl) 0 parts.edges (λ j. let e : j ≡ 0 + j = omega arith in ap (slice_get parts.edges) e))
      (frames_agree tables (λ i now is. p (suc i) now is))
