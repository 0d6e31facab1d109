-- The part of a goal behind the unrolled network is of gates alone, each of which reads variables before its own.
use Rattle.std.proofs.Common.{◌≡◌, ℕ, suc, ◌-◌, ◌<◌, ◌≤◌, Bool, List, [], ◌∷◌, ◌++◌, length, refl, arith, Option, Some, None}
use Rattle.std.specs.Prelude.{slice_get, All}
use Rattle.std.proofs.lemmas.List.Elements.{All-head, All-tail}
use Rattle.cnf_form.specs.declared.lit.Lit.{Lit}
use Rattle.op_network.specs.declared.edge.EdgeId.{EdgeId}
use Rattle.op_network.specs.declared.edge.Parts.{Parts}
use Rattle.op_network.specs.declared.value.Ty.TheVariants as type
use Rattle.op_network.specs.Valid.{type_of, IsValid}
use Rattle.bit_blast.specs.Circuit.{after, yes}
use Rattle.bit_blast.specs.Circuit as gate
use Rattle.bit_blast.proofs.Values.{AreGates}
use Rattle.bit_blast.proofs.Circuits.{after_more, gates_both}
use Rattle.bit_blast.proofs.Made.{Within, within_more}
use Rattle.unroll_cnf.specs.Unrolled.{Table}
use Rattle.unroll_cnf.proofs.Placed.{PlacedBefore, placed_before_more}
use Rattle.unroll_cnf.proofs.Placing.{only_below}
use Rattle.dep_paths.specs.declared.path.Condition.{Condition}
use Rattle.dep_paths.specs.declared.path.Obligation.{Obligation}
use Rattle.dep_paths.specs.declared.path.Obligation.TheVariants.{Bc, Ecc, Mcc, Omc}
use Rattle.dep_paths.specs.declared.path.Path.{Path}
use Rattle.dep_paths.specs.declared.path.Pin.{Pin}
use Rattle.dep_paths.specs.Activation.{first_pin}
use Rattle.dep_paths.specs.Duties.{Planned}
use Rattle.dep_paths.specs.Observed.{Tag}
use Rattle.goal_cnf.specs.Goal.{activation_in, observation_in, met_circuit, last_lit, adm_circuit, hits}
use Rattle.goal_cnf.proofs.ConditionGates.{observation_sound}
use Rattle.goal_cnf.proofs.Obligations.{FitsIn, FitsOn, FitsGoal}
use Rattle.goal_cnf.proofs.PathGates.{PastWithin, Sound, lit_within, path_sound, unchanged_sound}

module _ (parts : Parts) (valid : IsValid parts) where
  activation_sound : (n : ℕ) (pin : Option Pin) (p : Option Path) (now : Table) (before : Option (List Lit)) → 0 < n → FitsIn parts pin p → PlacedBefore parts n (Some now) → PastWithin n before →
      AreGates n (activation_in n parts.edges pin p now before).entries × Within (after n (activation_in n parts.edges pin p now before).entries) (activation_in n parts.edges pin p now before).result
  activation_sound n pin None now before h f w b = (tt, (h, tt))
  activation_sound n pin (Some p) now before h f w b = path_sound parts valid pin p f now n before h w b

  observation_in_sound : (n : ℕ) (order : List EdgeId) (value : Bool) (c : Option Condition) (now : Table) (before : Option (List Lit)) → 0 < n → FitsOn parts c → PlacedBefore parts n (Some now) → PastWithin n before →
      AreGates n (observation_in n parts order value c now before).entries × Within (after n (observation_in n parts order value c now before).entries) (observation_in n parts order value c now before).result
  observation_in_sound n order value None now before h f w b = (tt, (h, tt))
  observation_in_sound n order value (Some c) now before h f w b =
      let tag : Tag = record { condition = c; value = value } in
      observation_sound parts valid now order parts.outputs tag n before h f w b

  met_sound : (n : ℕ) (order : List EdgeId) (plan : Planned) (o : Obligation) (now : Table) (before : Option (List Lit)) → 0 < n → FitsGoal parts plan o → PlacedBefore parts n (Some now) → PastWithin n before →
      AreGates n (met_circuit n parts order plan o now before).entries × Within (after n (met_circuit n parts order plan o now before).entries) (met_circuit n parts order plan o now before).result
  met_sound n order plan (Bc path) now before h f w b = activation_sound n None (slice_get plan.paths path) now before h f w b
  met_sound n order plan (Ecc path value) now before h f w b = activation_sound n (first_pin value) (slice_get plan.paths path) now before h f w b
  met_sound n order plan (Mcc path pin) now before h f w b = activation_sound n pin (slice_get plan.paths path) now before h f w b
  met_sound n order plan (Omc condition value) now before h f w b = observation_in_sound n order value (slice_get plan.conditions condition) now before h f w b

  adm_sound : (n : ℕ) (now : Table) (adm : Lit) (asserts : List EdgeId) → 0 < n → All (λ (e : EdgeId). type_of parts.edges e ≡ Some type.Truth) asserts → PlacedBefore parts n (Some now) → adm.var < n → Sound n (adm_circuit n now adm asserts)
  adm_sound n now adm [] h f w q = unchanged_sound n adm q
  adm_sound n now adm (s ∷ asserts) h f w q =
      let typed = All-head (λ (e : EdgeId). type_of parts.edges e ≡ Some type.Truth) s asserts f in
      let r = adm_sound (suc n) now (yes n) asserts (omega arith) (All-tail (λ (e : EdgeId). type_of parts.edges e ≡ Some type.Truth) s asserts f)
      (placed_before_more parts n (suc n) (Some now) (omega arith) w) (omega arith) in
      record { gates = (tt, (q, only_below n (now s.0) h (w s type.Truth typed)), r.gates); below = r.below }

  pub hits_gates : (order : List EdgeId) (plan : Planned) (o : Obligation) → FitsGoal parts plan o → (n : ℕ) (before : Option (List Lit)) (adm : Lit) (words : List Table) → 0 < n → ((i : ℕ) (now : Table) → slice_get words i ≡ Some now → PlacedBefore parts n (Some now)) → PastWithin n before → adm.var < n →
      AreGates n (hits parts order plan o n before adm words).entries
  hits_gates order plan o f n before adm [] h w b q = tt
  hits_gates order plan o f n before adm (now ∷ words) h w b q =
      let met = met_circuit n parts order plan o now before in
      let n1 = after n met.entries in
      let le1 = after_more n met.entries in
      let adm1 = adm_circuit n1 now adm parts.asserts in
      let n2 = after n1 adm1.entries in
      let le2 = after_more n1 adm1.entries in
      let rest = hits parts order plan o (suc n2) (Some met.result) adm1.result words in
      let hit = gate.And adm1.result (last_lit met.result) in
      let here = w 0 now refl in
      let m = met_sound n order plan o now before h f here b in
      let x = adm_sound n1 now adm parts.asserts (omega arith) valid.asserts (placed_before_more parts n n1 (Some now) le1 here) (omega arith) in
      let below = x.below in
      let le : n ≤ suc n2 = omega arith in
      gates_both n met.entries (adm1.entries ++ (hit ∷ rest.entries)) m.0
      (gates_both n1 adm1.entries (hit ∷ rest.entries) x.gates (
        tt,
        (below, lit_within n2 met.result (length met.result - 1) (omega arith) (within_more n1 n2 met.result le2 m.1)),
        hits_gates order plan o f (suc n2) (Some met.result) adm1.result words (omega arith)
            (λ i table is. placed_before_more parts n (suc n2) (Some table) le (w (suc i) table is))
            (within_more n1 (suc n2) met.result (omega arith) m.1) (omega arith),
      ))
