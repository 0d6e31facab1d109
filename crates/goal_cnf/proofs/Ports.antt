-- What the literal of an edge tells behind its ports: through which of them a condition reaches the edge.
use Rattle.std.proofs.Common.{◌≡◌, ◌⊎◌, ⊎_elim, ◌↔◌, ℕ, zero, suc, ◌+◌, Bool, true, ◌&&◌, ◌||◌, List, [], ◌∷◌, refl, sym, ap, ap₂, ◌∙◌, subst, inl, inr, arith, eqb, Option, Some}
use Rattle.std.specs.Prelude.{slice_get}
use Rattle.std.specs.Option.{option_map_or}
use Rattle.std.proofs.lemmas.Bool.{and_parts, and_from, eqb-true, eq-eqb, or_cases, or_left, or_right}
use Rattle.cnf_form.specs.declared.lit.Lit.{Lit}
use Rattle.cnf_form.specs.Lits.{truth}
use Rattle.op_network.specs.declared.edge.Edge.{Edge}
use Rattle.op_network.specs.declared.edge.EdgeId.{EdgeId}
use Rattle.op_network.specs.declared.form.Form.{Form}
use Rattle.op_network.specs.Operators.{is_unmasked, operands_of}
use Rattle.bit_blast.specs.Circuit.{after}
use Rattle.bit_blast.proofs.Values.{Obeys}
use Rattle.bit_blast.proofs.Circuits.{obeys_parts}
use Rattle.unroll_cnf.specs.Unrolled.{Table}
use Rattle.dep_paths.specs.declared.path.Condition.{Condition}
use Rattle.dep_paths.specs.Activation.{Frames, frame_at}
use Rattle.dep_paths.specs.Conditions.{operand_at, port_at}
use Rattle.dep_paths.specs.Observed.{Tag, PortAt, HasValue, IsUnmasked, ReachesEdge, Comes, instant_after}
use Rattle.dep_paths.proofs.Chains.{last_port, through_last}
use Rattle.goal_cnf.specs.Activity.{as_pinned}
use Rattle.goal_cnf.specs.Observation.{Past, is_same_port, port_circuit, ports_circuit}
use Rattle.goal_cnf.proofs.Passages.{starts}

-- the literal is true exactly where the fact holds
abbrev pub Tells : (ℕ → Bool) → Lit → Type 0 → Type 0
Tells v l P = (truth v l ≡ true) ↔ P

-- ---- one port

-- an edge's port at an instant
abbrev pub at_port : EdgeId → ℕ → ℕ → PortAt
at_port e port u = record { port = record { edge = e; port = port }; instant = u }

-- the condition with its value reaches the edge at t through this port
pub record Through (edges : List Edge) (frames : Frames) (tag : Tag) (e : EdgeId) (t port : ℕ) : Type 0 where
  pub instant : ℕ
  pub behind : instant_after edges e instant ≡ t
  pub unmasked : IsUnmasked edges frames (at_port e port instant)
  pub comes : Comes edges frames tag (at_port e port instant)

pub some_one : {X : Type 0} (x y : X) → Some x ≡ Some y → x ≡ y
some_one {X} x y same = ap (λ (o : Option X). option_map_or (λ (z : X). z) o x) same

same_port : (port : Condition) (condition : Condition) → is_same_port port condition ≡ true → port ≡ condition
same_port port condition h =
    let p = and_parts (eqb port.edge.0 condition.edge.0) (eqb port.port condition.port) h in
    let edge = eqb-true port.edge.0 condition.edge.0 p.0 in
    let place = eqb-true port.port condition.port p.1 in
    ap₂ (λ (e i : ℕ). port_at (record { 0 = e }) i) edge place

port_same : (port : Condition) (condition : Condition) → port ≡ condition → is_same_port port condition ≡ true
port_same port condition same =
    and_from (eqb port.edge.0 condition.edge.0) (eqb port.port condition.port)
    (eq-eqb port.edge.0 condition.edge.0 (ap (λ (c : Condition). c.edge.0) same))
    (eq-eqb port.port condition.port (ap (λ (c : Condition). c.port) same))

module _ (edges : List Edge) (frames : Frames) (tag : Tag) (e : EdgeId) (port u : ℕ) where
  -- what starts at a port, where the pinned bit tells whether the condition's operand has the value
  pub starts_at : (v : ℕ → Bool) (bit : Lit) → ((record { edge = e; port = port }) ≡ tag.condition → Tells v (as_pinned tag.value bit) (HasValue edges frames tag.value (at_port e port u)))
      → (starts v tag (record { edge = e; port = port }) bit ≡ true) ↔ (((record { edge = e; port = port }) ≡ tag.condition) × HasValue edges frames tag.value (at_port e port u))
  starts_at v bit tells =
      let p : Condition = record { edge = e; port = port } in (
        λ h.
            let both = and_parts (is_same_port p tag.condition) (truth v (as_pinned tag.value bit)) h in
            let same = same_port p tag.condition both.0 in
            (same, (tells same).0 both.1),
        λ h. and_from (is_same_port p tag.condition) (truth v (as_pinned tag.value bit)) (port_same p tag.condition h.0) ((tells h.0).1 h.1),
      )

  -- What comes through a port at instant u, the only one after which t is: it is unmasked, and its operand is
  -- reached or the condition starts there.
  pub through_port : (t : ℕ) (edge : Edge) (a : EdgeId) (unhidden reached started : Bool) → slice_get edges e.0 ≡ Some edge → operand_at edges (record { edge = e; port = port }) ≡ Some a
      → instant_after edges e u ≡ t → ((w : ℕ) → instant_after edges e w ≡ t → w ≡ u)
      → unhidden ≡ is_unmasked edge.op port (frame_at frames u) u
      → (reached ≡ true) ↔ ReachesEdge edges frames tag a u
      → (started ≡ true) ↔ (((record { edge = e; port = port }) ≡ tag.condition) × HasValue edges frames tag.value (at_port e port u))
      → ((unhidden && (reached || started)) ≡ true) ↔ Through edges frames tag e t port
  through_port t edge a unhidden reached started is read behind one opened told begins = (
    λ h.
        let both = and_parts unhidden (reached || started) h in
        record {
          instant = u;
          behind = behind;
          unmasked = record { edge = edge; there = is; unmasked = sym opened ∙ both.0 };
          comes = ⊎_elim (λ r. inr (a, read, told.0 r)) (λ s. inl (begins.0 s)) (or_cases reached started both.1);
        },
    λ x.
        let now : x.instant ≡ u = one x.instant x.behind in
        let moved : IsUnmasked edges frames (at_port e port u) × Comes edges frames tag (at_port e port u) =
        subst (λ w. IsUnmasked edges frames (at_port e port w) × Comes edges frames tag (at_port e port w)) now (x.unmasked, x.comes) in
        let unmasked = moved.0 in
        let same : unmasked.edge ≡ edge = some_one unmasked.edge edge (sym unmasked.there ∙ is) in
        let free : is_unmasked edge.op port (frame_at frames u) u ≡ true = subst (λ (x : Edge). is_unmasked x.op port (frame_at frames u) u ≡ true) same unmasked.unmasked in
        and_from unhidden (reached || started) (opened ∙ free)
        (⊎_elim
        (λ s. or_right reached started (begins.1 s))
        (λ r. or_left reached started (told.1 (subst (λ (x : EdgeId). ReachesEdge edges frames tag x u) (some_one r.0 a (sym r.1 ∙ read)) r.2)))
        moved.1),
  )

-- ---- all ports

-- the literal behind a port tells what the one before it does, and what comes through the port
abbrev pub PortTells : List Edge → Frames → (ℕ → Bool) → Tag → EdgeId → ℕ → Form → Table → Lit → List Lit → Option Past → ℕ → EdgeId → Type 0
PortTells edges frames v tag e t form now bit tags before port a = (n : ℕ) (g : Lit) → Obeys v n (port_circuit n tag e form now bit tags before port a g).entries
    → Tells v (port_circuit n tag e form now bit tags before port a g).result ((truth v g ≡ true) ⊎ Through edges frames tag e t port)

-- a literal that is this or that, where that tells
pub or_tells : {P : Type 0} (r g x : Bool) → r ≡ (g || x) → (x ≡ true) ↔ P → (r ≡ true) ↔ ((g ≡ true) ⊎ P)
or_tells r g x is tells = (
  λ h. ⊎_elim (λ k. inl k) (λ k. inr (tells.0 k)) (or_cases g x (sym is ∙ h)),
  λ h. is ∙ ⊎_elim (λ k. or_left g x k) (λ p. or_right g x (tells.1 p)) h,
)

module _ (edges : List Edge) (frames : Frames) (tag : Tag) (e : EdgeId) (t : ℕ) where
  -- through one of some ports, from a port on
  abbrev pub ThroughOne : ℕ → List EdgeId → Type 0
  ThroughOne port [] = ⊥
  ThroughOne port (a ∷ operands) = Through edges frames tag e t port ⊎ ThroughOne (suc port) operands

  one_of : (port : ℕ) (operands : List EdgeId) → ThroughOne port operands → (p : ℕ) × Through edges frames tag e t p
  one_of port [] x = absurd x
  one_of port (a ∷ operands) x = ⊎_elim (λ k. (port, k)) (λ k. one_of (suc port) operands k) x

  is_one : (port : ℕ) (operands : List EdgeId) (i : ℕ) (a : EdgeId) → slice_get operands i ≡ Some a → Through edges frames tag e t (port + i) → ThroughOne port operands
  is_one port [] i a is x = absurd (cc)
  is_one port (b ∷ operands) zero a is x = let z : port + 0 ≡ port = omega arith in inl (subst (Through edges frames tag e t) z x)
  is_one port (b ∷ operands) (suc i) a is x = let z : port + suc i ≡ suc port + i = omega arith in inr (is_one (suc port) operands i a is (subst (Through edges frames tag e t) z x))

  pub reaches_one : ThroughOne 0 (operands_of edges e) → ReachesEdge edges frames tag e t
  reaches_one x =
      let p = one_of 0 (operands_of edges e) x in
      let k = p.1 in
      through_last edges frames tag e t (record { at = at_port e p.0 k.instant; edge = refl; instant = k.behind; unmasked = k.unmasked; comes = k.comes })

  pub one_reaches : ReachesEdge edges frames tag e t → ThroughOne 0 (operands_of edges e)
  one_reaches r =
      let l = last_port edges frames tag e t r in
      by_port l.at.port.edge l.at.port.port l.at.instant l.edge l.instant l.unmasked l.comes
    where
      read : (port u : ℕ) → Comes edges frames tag (at_port e port u) → (a : EdgeId) × (operand_at edges (record { edge = e; port = port }) ≡ Some a)
      read port u (inl c) = (c.1.operand, c.1.read)
      read port u (inr c) = (c.0, c.1)

      here : (port u : ℕ) → instant_after edges e u ≡ t → IsUnmasked edges frames (at_port e port u) → Comes edges frames tag (at_port e port u) → ThroughOne 0 (operands_of edges e)
      here port u behind unmasked comes =
          let a = read port u comes in
          let z : port ≡ 0 + port = omega arith in
          is_one 0 (operands_of edges e) port a.0 a.1 (subst (Through edges frames tag e t) z (record { instant = u; behind = behind; unmasked = unmasked; comes = comes }))

      by_port : (d : EdgeId) (port u : ℕ) → d ≡ e → instant_after edges d u ≡ t → IsUnmasked edges frames (at_port d port u) → Comes edges frames tag (at_port d port u) → ThroughOne 0 (operands_of edges e)
      by_port d port u same behind unmasked comes =
          let moved : (instant_after edges e u ≡ t) × IsUnmasked edges frames (at_port e port u) × Comes edges frames tag (at_port e port u) =
          subst (λ (x : EdgeId). (instant_after edges x u ≡ t) × IsUnmasked edges frames (at_port x port u) × Comes edges frames tag (at_port x port u)) same (behind, unmasked, comes) in
          here port u moved.0 moved.1 moved.2

  -- the literal behind some ports tells what the one before them does, and what comes through one of them
  pub ports_tell : (v : ℕ → Bool) (form : Form) (now : Table) (bit : Lit) (tags : List Lit) (before : Option Past) (all : List EdgeId)
      → ((port : ℕ) (a : EdgeId) → slice_get all port ≡ Some a → PortTells edges frames v tag e t form now bit tags before port a)
      → (n port : ℕ) (g : Lit) (operands : List EdgeId) → ((i : ℕ) → slice_get operands i ≡ slice_get all (port + i))
      → Obeys v n (ports_circuit n tag e form now bit tags before port g operands).entries
      → Tells v (ports_circuit n tag e form now bit tags before port g operands).result ((truth v g ≡ true) ⊎ ThroughOne port operands)
  ports_tell v form now bit tags before all each n port g [] same o = (λ h. inl h, λ h. ⊎_elim (λ k. k) (λ k. absurd k) h)
  ports_tell v form now bit tags before all each n port g (a ∷ operands) same o =
      let one = port_circuit n tag e form now bit tags before port a g in
      let n1 = after n one.entries in
      let rest = ports_circuit n1 tag e form now bit tags before (suc port) one.result operands in
      let q = obeys_parts v n one.entries rest.entries o in
      let at : port + 0 ≡ port = omega arith in
      let is : slice_get all port ≡ Some a = ap (slice_get all) (sym at) ∙ sym (same 0) in
      let first = each port a is n g q.0 in
      let later =
      ports_tell v form now bit tags before all each n1 (suc port) one.result operands
      (λ i. let z : port + suc i ≡ suc port + i = omega arith in same (suc i) ∙ ap (slice_get all) z) q.1
      in (
        λ h. ⊎_elim (λ k. ⊎_elim (λ g. inl g) (λ x. inr (inl x)) (first.0 k)) (λ k. inr (inr k)) (later.0 h),
        λ h. ⊎_elim (λ k. later.1 (inl (first.1 (inl k)))) (λ k. ⊎_elim (λ x. later.1 (inl (first.1 (inr x)))) (λ x. later.1 (inr x)) k) h,
      )
