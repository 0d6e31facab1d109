-- The literal of an edge tells whether a condition reaches it.
use Rattle.std.proofs.Common.{◌≡◌, ◌==◌, ⊎_elim, ◌↔◌, ℕ, zero, suc, ◌+◌, ◌<◌, Bool, true, false, cond, not, ◌&&◌, ◌||◌, List, [], ◌∷◌, length, refl, sym, ap, ◌∙◌, subst, inr, arith, Option, Some, None}
use Rattle.std.specs.Prelude.{slice_get, Contains}
use Rattle.std.specs.Option.{option_map_or}
use Rattle.std.proofs.lemmas.Bool.{false≢true}
use Rattle.std.proofs.lemmas.Bool.Decides.{nat_tests}
use Rattle.std.proofs.lemmas.Option.{slice_get_within, get_or_from_slice_get}
use Rattle.cnf_form.specs.declared.lit.Lit.{Lit}
use Rattle.cnf_form.specs.Lits.{truth}
use Rattle.op_network.specs.declared.edge.Edge.{Edge}
use Rattle.op_network.specs.declared.edge.EdgeId.{EdgeId}
use Rattle.op_network.specs.declared.edge.Parts.{Parts}
use Rattle.op_network.specs.declared.form.Form.{Form}
use Rattle.op_network.specs.declared.form.Form.TheVariants.{Input, Const, One, Two, Ite, Arrow, Pre}
use Rattle.op_network.specs.Operators.{form_of, is_unmasked_by, operands_by, operands_in, operands_of}
use Rattle.op_network.specs.Valid.{IsValid}
use Rattle.op_network.proofs.Typing.{operand_inside}
use Rattle.lus_causality.specs.Causality.{CanStand, operands_now, operands_now_by, operands_now_in}
use Rattle.bit_blast.specs.Circuit.{no}
use Rattle.bit_blast.proofs.Values.{Obeys}
use Rattle.bit_blast.proofs.Circuits.{truth-no}
use Rattle.unroll_cnf.specs.Laws.{frame_of}
use Rattle.unroll_cnf.specs.Unrolled.{Table}
use Rattle.unroll_cnf.proofs.Runs.{edge_typed}
use Rattle.dep_paths.specs.Activation.{Frames, frame_at}
use Rattle.dep_paths.specs.Conditions.{operand_at}
use Rattle.dep_paths.specs.Observed.{Tag, HasValue, ReachesEdge, instant_after, is_pre, is_pre_edge}
use Rattle.goal_cnf.specs.Activity.{as_pinned, lit_at}
use Rattle.goal_cnf.specs.Observation.{Past, is_first, operand_bit, operand_tag, tag_in, tag_circuit}
use Rattle.goal_cnf.proofs.Passages.{opens, opens_law, port_law, starts}
use Rattle.goal_cnf.proofs.Places.{AllSized}
use Rattle.goal_cnf.proofs.Ports.{PortTells, Tells, Through, ThroughOne, at_port, one_reaches, or_tells, ports_tell, reaches_one, starts_at, through_port}

-- ---- what is known of an instant

-- the pinned bit tells whether the condition's operand has the value at an instant
abbrev pub BitTells : List Edge → Frames → (ℕ → Bool) → Tag → ℕ → Lit → Type 0
BitTells edges frames v tag t bit = Tells v (as_pinned tag.value bit) (HasValue edges frames tag.value (record { port = tag.condition; instant = t }))

-- what is kept of an instant tells which edges the condition reaches at it
pub record KeptTells (edges : List Edge) (frames : Frames) (v : ℕ → Bool) (tag : Tag) (t : ℕ) (past : Past) : Type 0 where
  pub tags : (e : EdgeId) → e.0 < length edges → Tells v (lit_at past.tags e.0) (ReachesEdge edges frames tag e t)
  pub bit : BitTells edges frames v tag t past.bit

-- what is kept of the instant before t does; at instant 0 there is none
abbrev pub BeforeTells : List Edge → Frames → (ℕ → Bool) → Tag → ℕ → Option Past → Type 0
BeforeTells edges frames v tag zero None = Unit {0}
BeforeTells edges frames v tag zero (Some past) = ⊥
BeforeTells edges frames v tag (suc t) None = ⊥
BeforeTells edges frames v tag (suc t) (Some past) = KeptTells edges frames v tag t past

first_is : (edges : List Edge) (frames : Frames) (v : ℕ → Bool) (tag : Tag) (t : ℕ) (before : Option Past) → BeforeTells edges frames v tag t before → is_first before ≡ (t == 0)
first_is edges frames v tag zero None b = refl
first_is edges frames v tag zero (Some past) b = absurd b
first_is edges frames v tag (suc t) None b = absurd b
first_is edges frames v tag (suc t) (Some past) b = let e : (suc t == 0) ≡ false = grind (arith, nat_tests) in sym e

now_tag : (form : Form) (tags : List Lit) (before : Option Past) (a : EdgeId) → is_pre form ≡ false → lit_at tags a.0 ≡ operand_tag form tags before a
now_tag (Input i) tags before a other = refl
now_tag (Const x) tags before a other = refl
now_tag (One o b) tags before a other = refl
now_tag (Two o b c) tags before a other = refl
now_tag (Ite b c d) tags before a other = refl
now_tag (Arrow b c) tags before a other = refl
now_tag (Pre b) tags before a other = absurd (false≢true (sym other))

now_bit : (form : Form) (bit : Lit) (before : Option Past) → is_pre form ≡ false → bit ≡ operand_bit form bit before
now_bit (Input i) bit before other = refl
now_bit (Const x) bit before other = refl
now_bit (One o b) bit before other = refl
now_bit (Two o b c) bit before other = refl
now_bit (Ite b c d) bit before other = refl
now_bit (Arrow b c) bit before other = refl
now_bit (Pre b) bit before other = absurd (false≢true (sym other))

by_now : (form : Form) (o : EdgeId) → is_pre form ≡ false → Contains (operands_by form) o → Contains (operands_now_by form) o
by_now (Input i) o other h = h
by_now (Const x) o other h = h
by_now (One f b) o other h = h
by_now (Two f b c) o other h = h
by_now (Ite b c d) o other h = h
by_now (Arrow b c) o other h = h
by_now (Pre b) o other h = absurd (false≢true (sym other))

no_instant : (pre : Bool) (u : ℕ) → pre ≡ true → cond pre (u + 1) u ≡ 0 → ⊥
no_instant true u is h = omega (arith, h)
no_instant false u is h = absurd (false≢true is)

pub false_tells : {P : Type 0} (b : Bool) → b ≡ false → (P → ⊥) → (b ≡ true) ↔ P
false_tells b is none = (λ h. absurd (false≢true (sym is ∙ h)), λ p. absurd (none p))

-- ---- an edge

module _ (parts : Parts) (valid : IsValid parts) (v : ℕ → Bool) (one_true : v 0 ≡ true) (now : Table) (sized : AllSized parts now) (frames : Frames) (t : ℕ) (here : frame_at frames t ≡ frame_of parts v now) (tag : Tag) (bit : Lit) (bit_tells : BitTells parts.edges frames v tag t bit) (before : Option Past) (past : BeforeTells parts.edges frames v tag t before) where
  bit_at : (e : EdgeId) (port u : ℕ) (b : Lit) → BitTells parts.edges frames v tag u b → record { edge = e; port = port } ≡ tag.condition → Tells v (as_pinned tag.value b) (HasValue parts.edges frames tag.value (at_port e port u))
  bit_at e port u b tells same = subst (λ c. Tells v (as_pinned tag.value b) (HasValue parts.edges frames tag.value (record { port = c; instant = u }))) (sym same) tells

  -- a port of an operator other than `Pre`
  port_now : (e : EdgeId) (edge : Edge) (tags : List Lit) → slice_get parts.edges e.0 ≡ Some edge → is_pre (form_of edge.op) ≡ false
      → ((a : EdgeId) → Contains (operands_now parts.edges e) a → Tells v (lit_at tags a.0) (ReachesEdge parts.edges frames tag a t))
      → (port : ℕ) (a : EdgeId) → slice_get (operands_by (form_of edge.op)) port ≡ Some a
      → PortTells parts.edges frames v tag e t (form_of edge.op) now bit tags before port a
  port_now e edge tags is other told port a read n g o =
      let form = form_of edge.op in
      let first = is_first before in
      let s = operand_tag form tags before a in
      let b = operand_bit form bit before in
      let unhidden = opens v form port now first in
      let started = starts v tag (record { edge = e; port = port }) b in
      let at : operand_at parts.edges (record { edge = e; port = port }) ≡ Some a = ap (λ (x : Option Edge). slice_get (operands_in x) port) is ∙ read in
      let kept : Contains (operands_by form) a = (port, slice_get_within (operands_by form) port a read, get_or_from_slice_get (operands_by form) port a a read) in
      let mine : Contains (operands_now parts.edges e) a = subst (λ (x : Option Edge). Contains (operands_now_in x) a) (sym is) (by_now form a other kept) in
      let reached : Tells v s (ReachesEdge parts.edges frames tag a t) = subst (λ (l : Lit). Tells v l (ReachesEdge parts.edges frames tag a t)) (now_tag form tags before a other) (told a mine) in
      let begins = starts_at parts.edges frames tag e port t v b
      (λ same. bit_at e port t b (subst (BitTells parts.edges frames v tag t) (now_bit form bit before other) bit_tells) same) in
      let plain : is_pre_edge parts.edges e ≡ false = ap (λ (x : Option Edge). option_map_or (λ (edge : Edge). is_pre (form_of edge.op)) x false) is ∙ other in
      let behind : instant_after parts.edges e t ≡ t = ap (λ (p : Bool). cond p (t + 1) t) plain in
      let one : (w : ℕ) → instant_after parts.edges e w ≡ t → w ≡ t = λ w h. sym (ap (λ (p : Bool). cond p (w + 1) w) plain) ∙ h in
      let opened = opens_law parts v now sized frames t here form port edge.ty first (edge_typed parts valid e.0 edge is) other (first_is parts.edges frames v tag t before past) in
      or_tells _ (truth v g) (unhidden && (truth v s || started)) (port_law v n tag e form now bit tags before port a g o)
      (through_port parts.edges frames tag e port t t edge a unhidden (truth v s) started is at behind one opened reached begins)

  -- a port of `Pre`
  port_before : (e : EdgeId) (edge : Edge) (c : EdgeId) (tags : List Lit) → slice_get parts.edges e.0 ≡ Some edge → form_of edge.op ≡ Pre c
      → (port : ℕ) (a : EdgeId) → slice_get (operands_by (form_of edge.op)) port ≡ Some a
      → PortTells parts.edges frames v tag e t (Pre c) now bit tags before port a
  port_before e edge c tags is form port a read n g o =
      or_tells _ (truth v g) _ (port_law v n tag e (Pre c) now bit tags before port a g o) (by_instant t before past)
    where
      pre : is_pre_edge parts.edges e ≡ true
      pre = ap (λ (x : Option Edge). option_map_or (λ (edge : Edge). is_pre (form_of edge.op)) x false) is ∙ ap is_pre form

      at : operand_at parts.edges (record { edge = e; port = port }) ≡ Some a
      at = ap (λ (x : Option Edge). slice_get (operands_in x) port) is ∙ read

      by_instant : (t : ℕ) (before : Option Past) → BeforeTells parts.edges frames v tag t before
          → ((opens v (Pre c) port now (is_first before) && (truth v (operand_tag (Pre c) tags before a) || starts v tag (record { edge = e; port = port }) (operand_bit (Pre c) bit before))) ≡ true) ↔ Through parts.edges frames tag e t port
      by_instant zero None b = false_tells _ refl (λ x. no_instant (is_pre_edge parts.edges e) x.instant pre x.behind)
      by_instant zero (Some x) b = absurd b
      by_instant (suc u) None b = absurd b
      by_instant (suc u) (Some x) b =
          let after : (w : ℕ) → instant_after parts.edges e w ≡ w + 1 = λ w. ap (λ (p : Bool). cond p (w + 1) w) pre in
          let started = starts v tag (record { edge = e; port = port }) x.bit in
          through_port parts.edges frames tag e port u (suc u) edge a true (truth v (lit_at x.tags a.0)) started is at
          (after u ∙ omega arith) (λ w h. let k : w + 1 ≡ suc u = sym (after w) ∙ h in omega (arith, k))
          (sym (ap (λ (f : Form). is_unmasked_by f port (frame_at frames u) u) form))
          (b.tags a (operand_inside parts e a port valid.typed at))
          (starts_at parts.edges frames tag e port u v x.bit (bit_at e port u x.bit b.bit))

  each_port : (e : EdgeId) (edge : Edge) (tags : List Lit) → slice_get parts.edges e.0 ≡ Some edge
      → ((a : EdgeId) → Contains (operands_now parts.edges e) a → Tells v (lit_at tags a.0) (ReachesEdge parts.edges frames tag a t))
      → (form : Form) → form_of edge.op ≡ form → (port : ℕ) (a : EdgeId) → slice_get (operands_by (form_of edge.op)) port ≡ Some a
      → PortTells parts.edges frames v tag e t (form_of edge.op) now bit tags before port a
  each_port e edge tags is told (Input i) form port a read = port_now e edge tags is (ap is_pre form) told port a read
  each_port e edge tags is told (Const x) form port a read = port_now e edge tags is (ap is_pre form) told port a read
  each_port e edge tags is told (One f b) form port a read = port_now e edge tags is (ap is_pre form) told port a read
  each_port e edge tags is told (Two f b c) form port a read = port_now e edge tags is (ap is_pre form) told port a read
  each_port e edge tags is told (Ite b c d) form port a read = port_now e edge tags is (ap is_pre form) told port a read
  each_port e edge tags is told (Arrow b c) form port a read = port_now e edge tags is (ap is_pre form) told port a read
  each_port e edge tags is told (Pre b) form port a read =
      subst (λ (f : Form). PortTells parts.edges frames v tag e t f now bit tags before port a) (sym form) (port_before e edge b tags is form port a read)

  edge_tells : (n : ℕ) (e : EdgeId) (edge : Edge) (tags : List Lit) → slice_get parts.edges e.0 ≡ Some edge
      → ((a : EdgeId) → Contains (operands_now parts.edges e) a → Tells v (lit_at tags a.0) (ReachesEdge parts.edges frames tag a t))
      → Obeys v n (tag_in n tag e (Some edge) now bit tags before).entries
      → Tells v (tag_in n tag e (Some edge) now bit tags before).result (ReachesEdge parts.edges frames tag e t)
  edge_tells n e edge tags is told o =
      let form = form_of edge.op in
      let all = operands_by form in
      let p = ports_tell parts.edges frames tag e t v form now bit tags before all (each_port e edge tags is told form refl) n 0 (no 0) all (λ i. let z : i ≡ 0 + i = omega arith in ap (slice_get all) z) o in
      let ops : operands_of parts.edges e ≡ all = ap operands_in is in (
        λ h. ⊎_elim
            (λ k. absurd (false≢true (sym (truth-no v 0 ∙ ap not one_true) ∙ k)))
            (λ k. reaches_one parts.edges frames tag e t (subst (ThroughOne parts.edges frames tag e t 0) (sym ops) k))
            (p.0 h),
        λ r. p.1 (inr (subst (ThroughOne parts.edges frames tag e t 0) ops (one_reaches parts.edges frames tag e t r))),
      )

  -- behind the literals of its operands at the instant the literal of an edge tells
  pub tag_tells : (n : ℕ) (done : List EdgeId) (e : EdgeId) (tags : List Lit) → CanStand parts.edges done e
      → ((a : EdgeId) → Contains done a → Tells v (lit_at tags a.0) (ReachesEdge parts.edges frames tag a t))
      → Obeys v n (tag_circuit n parts.edges tag e now bit tags before).entries
      → Tells v (tag_circuit n parts.edges tag e now bit tags before).result (ReachesEdge parts.edges frames tag e t)
  tag_tells n done e tags stands told o = by_edge (slice_get parts.edges e.0) refl o
    where
      by_edge : (x : Option Edge) → slice_get parts.edges e.0 ≡ x → Obeys v n (tag_in n tag e x now bit tags before).entries → Tells v (tag_in n tag e x now bit tags before).result (ReachesEdge parts.edges frames tag e t)
      by_edge None is o = absurd (missing parts.edges e.0 is stands.within)
        where
          missing : (edges : List Edge) (i : ℕ) → slice_get edges i ≡ None → i < length edges → ⊥
          missing [] i is lt = omega (arith, lt)
          missing (x ∷ edges) zero is lt = cc
          missing (x ∷ edges) (suc i) is lt = missing edges i is (omega (arith, lt))
      by_edge (Some edge) is o = edge_tells n e edge tags is (λ a h. told a (stands.operands a h)) o
