-- The gates of a path: each reads variables before its own.
use Rattle.std.proofs.Common.{◌≡◌, ◌==◌, ℕ, zero, suc, ◌+◌, ◌<◌, ◌≤◌, Bool, true, false, List, [], ◌∷◌, refl, sym, ap, ◌∙◌, subst, inl, inr, arith, Option, Some, None}
use Rattle.std.specs.Prelude.{slice_get}
use Rattle.std.specs.Option.{option_map}
use Rattle.std.proofs.lemmas.Bool.{cases_Bool}
use Rattle.std.proofs.lemmas.Bool.Decides.{nat_tests}
use Rattle.cnf_form.specs.declared.lit.Lit.{Lit}
use Rattle.cnf_form.specs.Lits.{turned}
use Rattle.op_network.specs.declared.edge.Edge.{Edge}
use Rattle.op_network.specs.declared.edge.EdgeId.{EdgeId}
use Rattle.op_network.specs.declared.edge.Parts.{Parts}
use Rattle.op_network.specs.declared.form.Binary.{Binary}
use Rattle.op_network.specs.declared.form.Binary.TheVariants as two
use Rattle.op_network.specs.declared.form.Form.{Form}
use Rattle.op_network.specs.declared.form.Form.TheVariants.{Input, Const, One, Two, Ite, Arrow, Pre}
use Rattle.op_network.specs.declared.value.Ty.{Ty}
use Rattle.op_network.specs.declared.value.Ty.TheVariants as type
use Rattle.op_network.specs.Operators.{form_of}
use Rattle.op_network.specs.Valid.{type_of, GivesType, IsValid}
use Rattle.bit_blast.specs.Circuit.{Circuit, after, yes, no}
use Rattle.bit_blast.proofs.Values.{AreGates}
use Rattle.bit_blast.proofs.Circuits.{after-append, after_more, gates_both}
use Rattle.bit_blast.proofs.Made.{Within, within_more}
use Rattle.unroll_cnf.specs.Unrolled.{Table, only}
use Rattle.unroll_cnf.proofs.Placed.{PlacedBefore, placed_before_more}
use Rattle.unroll_cnf.proofs.Placing.{only_below, turned_below}
use Rattle.unroll_cnf.proofs.Runs.{edge_typed}
use Rattle.unroll_cnf.proofs.Typed.{binary_typed, if_typed}
use Rattle.dep_paths.specs.declared.path.Path.{Path}
use Rattle.dep_paths.specs.declared.path.Pin.{Pin}
use Rattle.dep_paths.specs.declared.path.Step.{Step}
use Rattle.goal_cnf.specs.Activity.{lit_at, unchanged, with_literal, with_either, binary_condition, if_condition, condition_by, begin_by, as_pinned, pin_circuit, place_in, place_circuit, steps_circuit, path_circuit}
use Rattle.goal_cnf.proofs.Places.{PinFits, PinsFit}

-- a circuit of gates alone, whose result is of one of its variables or of one before
pub record Sound (n : ℕ) (c : Circuit Lit) : Type 0 where
  pub gates : AreGates n c.entries
  pub below : c.result.var < after n c.entries

pub unchanged_sound : (n : ℕ) (m : Lit) → m.var < n → Sound n (unchanged m)
unchanged_sound n m p = record { gates = tt; below = p }

pub literal_sound : (n : ℕ) (m u : Lit) → m.var < n → u.var < n → Sound n (with_literal n m u)
literal_sound n m u p q = record { gates = (tt, (p, q), tt); below = omega arith }

either_sound : (n : ℕ) (m a b : Lit) → m.var < n → a.var < n → b.var < n → Sound n (with_either n m a b)
either_sound n m a b p q r = record { gates = (tt, (q, r), (tt, (omega arith, omega arith), tt)); below = omega arith }

binary_sound : (n : ℕ) (o : Binary) (port : ℕ) (a b m : Lit) → a.var < n → b.var < n → m.var < n → Sound n (binary_condition n o port a b m)
binary_sound n two.And zero a b m p q r = either_sound n m (turned a) b r (turned_below n a p) q
binary_sound n two.And (suc port) a b m p q r = either_sound n m (turned b) a r (turned_below n b q) p
binary_sound n two.Or zero a b m p q r = either_sound n m a (turned b) r p (turned_below n b q)
binary_sound n two.Or (suc port) a b m p q r = either_sound n m b (turned a) r q (turned_below n a p)
binary_sound n two.Imp zero a b m p q r = either_sound n m (turned a) (turned b) r (turned_below n a p) (turned_below n b q)
binary_sound n two.Imp (suc port) a b m p q r = either_sound n m b a r q p
binary_sound n two.Xor port a b m p q r = unchanged_sound n m r
binary_sound n two.Eq port a b m p q r = unchanged_sound n m r
binary_sound n two.Ne port a b m p q r = unchanged_sound n m r
binary_sound n two.Lt port a b m p q r = unchanged_sound n m r
binary_sound n two.Le port a b m p q r = unchanged_sound n m r
binary_sound n two.Gt port a b m p q r = unchanged_sound n m r
binary_sound n two.Ge port a b m p q r = unchanged_sound n m r
binary_sound n two.Add port a b m p q r = unchanged_sound n m r
binary_sound n two.Sub port a b m p q r = unchanged_sound n m r
binary_sound n two.Mul port a b m p q r = unchanged_sound n m r

if_sound : (n port : ℕ) (a m : Lit) → a.var < n → m.var < n → Sound n (if_condition n port a m)
if_sound n zero a m p q = unchanged_sound n m q
if_sound n (suc zero) a m p q = literal_sound n m a q p
if_sound n (suc (suc port)) a m p q = literal_sound n m (turned a) q (turned_below n a p)

pub pinned_below : (n : ℕ) (value : Bool) (l : Lit) → l.var < n → (as_pinned value l).var < n
pinned_below n true l p = p
pinned_below n false l p = turned_below n l p

abbrev pub OptionBelow : ℕ → Option Lit → Type 0
OptionBelow n None = Unit {0}
OptionBelow n (Some l) = l.var < n

begin_below : (n : ℕ) (form : Form) (port : ℕ) (l : Lit) (before : Option Lit) → 0 < n → l.var < n → OptionBelow n before → (begin_by form port l before).var < n
begin_below n (Arrow a c) zero l None h p q = p
begin_below n (Arrow a c) zero l (Some x) h p q = h
begin_below n (Arrow a c) (suc port) l None h p q = h
begin_below n (Arrow a c) (suc port) l (Some x) h p q = p
begin_below n (Pre a) port l None h p q = h
begin_below n (Pre a) port l (Some x) h p q = q
begin_below n (Input i) port l before h p q = p
begin_below n (Const x) port l before h p q = p
begin_below n (One o a) port l before h p q = p
begin_below n (Two o a c) port l before h p q = p
begin_below n (Ite a c d) port l before h p q = p

-- the literals of the instant before are of variables below n
abbrev pub PastWithin : ℕ → Option (List Lit) → Type 0
PastWithin n None = Unit {0}
PastWithin n (Some ls) = Within n ls

pub past_within_more : (n m : ℕ) (before : Option (List Lit)) → n ≤ m → PastWithin n before → PastWithin m before
past_within_more n m None le p = tt
past_within_more n m (Some ls) le p = within_more n m ls le p

pub lit_within : (n : ℕ) (ls : List Lit) (j : ℕ) → 0 < n → Within n ls → (lit_at ls j).var < n
lit_within n [] j h p = h
lit_within n (l ∷ ls) zero h p = p.0
lit_within n (l ∷ ls) (suc j) h p = lit_within n ls j h p.1

past_below : (n j : ℕ) (before : Option (List Lit)) → 0 < n → PastWithin n before → OptionBelow n (option_map (λ (ls : List Lit). lit_at ls j) before)
past_below n j None h p = tt
past_below n j (Some ls) h p = lit_within n ls j h p

module _ (parts : Parts) (valid : IsValid parts) where
  condition_sound : (n : ℕ) (form : Form) (port : ℕ) (ty : Ty) (now : Table) (m : Lit) → 0 < n → GivesType parts form ty → PlacedBefore parts n (Some now) → m.var < n → Sound n (condition_by n form port now m)
  condition_sound n (Input i) port ty now m h g p q = unchanged_sound n m q
  condition_sound n (Const x) port ty now m h g p q = unchanged_sound n m q
  condition_sound n (One o a) port ty now m h g p q = unchanged_sound n m q
  condition_sound n (Two o a c) port ty now m h g p q =
      let k = binary_typed o (type_of parts.edges a) (type_of parts.edges c) ty g in
      binary_sound n o port (only (now a.0)) (only (now c.0)) m (only_below n (now a.0) h (p a k.0 k.2)) (only_below n (now c.0) h (p c k.1 k.3)) q
  condition_sound n (Ite a c d) port ty now m h g p q =
      let k = if_typed (type_of parts.edges a) (type_of parts.edges c) (type_of parts.edges d) ty g in
      if_sound n port (only (now a.0)) m (only_below n (now a.0) h (p a type.Truth k.0)) q
  condition_sound n (Arrow a c) port ty now m h g p q = unchanged_sound n m q
  condition_sound n (Pre a) port ty now m h g p q = unchanged_sound n m q

  pin_sound : (n : ℕ) (pin : Option Pin) (place : ℕ) (e : EdgeId) (now : Table) (m : Lit) → 0 < n → PinFits parts pin place e → PlacedBefore parts n (Some now) → m.var < n → Sound n (pin_circuit n pin place (only (now e.0)) m)
  pin_sound n None place e now m h f p q = unchanged_sound n m q
  pin_sound n (Some pin) place e now m h f p q = elim (cases_Bool (place == pin.place)) [
    | inl c ↦
        let same : place ≡ pin.place = grind (arith, nat_tests) in
        rw c (literal_sound n m (as_pinned pin.value (only (now e.0))) q (pinned_below n pin.value (only (now e.0)) (only_below n (now e.0) h (p e type.Truth (f same)))))
    | inr c ↦ rw c (unchanged_sound n m q)
  ]

  place_sound : (n : ℕ) (pin : Option Pin) (place : ℕ) (s : Step) (edge : Option Edge) (now : Table) (shorter : Lit) (before : Option Lit) → 0 < n → slice_get parts.edges s.edge.0 ≡ edge → PinFits parts pin place s.edge → PlacedBefore parts n (Some now) → shorter.var < n → OptionBelow n before →
      Sound n (place_in n pin place s edge now shorter before)
  place_sound n pin place s None now shorter before h is f p q b = unchanged_sound n (no 0) h
  place_sound n pin place s (Some edge) now shorter before h is f p q b =
      let u = condition_by n (form_of edge.op) s.port now (begin_by (form_of edge.op) s.port shorter before) in
      let n1 = after n u.entries in
      let le = after_more n u.entries in
      let z = pin_circuit n1 pin place (only (now s.edge.0)) u.result in
      let c = condition_sound n (form_of edge.op) s.port edge.ty now (begin_by (form_of edge.op) s.port shorter before) h (edge_typed parts valid s.edge.0 edge is) p (begin_below n (form_of edge.op) s.port shorter before h q b) in
      let d = pin_sound n1 pin place s.edge now u.result (omega arith) f (placed_before_more parts n n1 (Some now) le p) c.below in
      record { gates = gates_both n u.entries z.entries c.gates d.gates; below = subst (λ x. z.result.var < x) (sym (after-append n u.entries z.entries)) d.below }

  module _ (pin : Option Pin) (p : Path) (fits : PinsFit parts pin p) (now : Table) where
    steps_sound : (n j : ℕ) (shorter : Lit) (before : Option (List Lit)) (steps : List Step) → 0 < n → ((i : ℕ) → slice_get steps i ≡ slice_get p.steps (j + i)) → PlacedBefore parts n (Some now) → shorter.var < n → PastWithin n before →
        AreGates n (steps_circuit n parts.edges pin j now shorter before steps).entries × Within (after n (steps_circuit n parts.edges pin j now shorter before steps).entries) (steps_circuit n parts.edges pin j now shorter before steps).result
    steps_sound n j shorter before [] h same w q b = (tt, tt)
    steps_sound n j shorter before (s ∷ steps) h same w q b =
        let one = place_circuit n parts.edges pin j s now shorter before in
        let n1 = after n one.entries in
        let le = after_more n one.entries in
        let rest = steps_circuit n1 parts.edges pin (suc j) now one.result before steps in
        let more = after_more n1 rest.entries in
        let at : j + 0 ≡ j = omega arith in
        let is : slice_get p.steps j ≡ Some s = ap (slice_get p.steps) (sym at) ∙ sym (same 0) in
        let c = place_sound n pin (suc j) s (slice_get parts.edges s.edge.0) now shorter (option_map (λ (ls : List Lit). lit_at ls j) before) h refl (fits.later j s is) w q (past_below n j before h b) in
        let below = c.below in
        let r = steps_sound n1 (suc j) one.result before steps (omega arith)
        (λ i. let e : j + suc i ≡ suc j + i = omega arith in same (suc i) ∙ ap (slice_get p.steps) e)
        (placed_before_more parts n n1 (Some now) le w) below (past_within_more n n1 before le b) in (
          gates_both n one.entries rest.entries c.gates r.0,
          subst (λ x. (one.result.var < x) × Within x rest.result) (sym (after-append n one.entries rest.entries)) (omega arith, r.1),
        )

    pub path_sound : (n : ℕ) (before : Option (List Lit)) → 0 < n → PlacedBefore parts n (Some now) → PastWithin n before →
        AreGates n (path_circuit n parts.edges pin p now before).entries × Within (after n (path_circuit n parts.edges pin p now before).entries) (path_circuit n parts.edges pin p now before).result
    path_sound n before h w b =
        let one = pin_circuit n pin 0 (only (now p.start.0)) (yes 0) in
        let n1 = after n one.entries in
        let le = after_more n one.entries in
        let rest = steps_circuit n1 parts.edges pin 0 now one.result before p.steps in
        let more = after_more n1 rest.entries in
        let c = pin_sound n pin 0 p.start now (yes 0) h fits.first w h in
        let below = c.below in
        let r = steps_sound n1 0 one.result before p.steps (omega arith) (λ i. let e : i ≡ 0 + i = omega arith in ap (slice_get p.steps) e)
        (placed_before_more parts n n1 (Some now) le w) below (past_within_more n n1 before le b) in (
          gates_both n one.entries rest.entries c.gates r.0,
          subst (λ x. (one.result.var < x) × Within x rest.result) (sym (after-append n one.entries rest.entries)) (omega arith, r.1),
        )
