-- Bits that are added to a row.
use Rattle.std.proofs.Common.{◌≡◌, ◌∙◌, ◌⊎◌, ⊎_elim, inl, inr, ◌↔◌, ℕ, ◌+◌, ◌*◌, ◌≤◌, Bool, true, List, Option, Some, None, refl, sym, subst, arith, length, slice_get}
use Rattle.std.proofs.lemmas.Bool.{cases_lt, cases_eq}
use Rattle.std.proofs.lemmas.Option.{slice_get_past}
use Rattle.dep_paths.specs.declared.path.Condition.{Condition}
use Rattle.op_network.specs.declared.edge.EdgeId.{EdgeId}
use Rattle.op_network.specs.declared.edge.Edge.{Edge}
use Rattle.op_network.specs.declared.value.Value.{Value}
use Rattle.op_network.specs.Operators.{operands_of}
use Rattle.dep_paths.specs.Conditions.{operand_at}
use Rattle.omcdc_tags.specs.Ports.{index_of}
use Rattle.omcdc_tags.specs.Rows.{Adds, BitComes, ComesBelow, ComesIn, StartsBit, IsOpen}
use Rattle.omcdc_tags.specs.Tags.{has_bit, row_at}
use Rattle.omcdc_tags.proofs.Marking.{none_some, some_same}

-- nothing is added
pub adds_none : (row : List Bool) (P : ℕ → Type 0) → ((k : ℕ) → P k → ⊥) → Adds row row P
adds_none row P none = record { size = refl; each = λ k. (λ h. inl h, λ h. ⊎_elim (λ a. a) (λ p. absurd (none k p)) h) }

-- what is added in two steps
pub adds_both : (a b c : List Bool) (P Q R : ℕ → Type 0) → Adds a b P → Adds b c Q → ((k : ℕ) → R k ↔ (P k ⊎ Q k)) → Adds a c R
adds_both a b c P Q R p q both = record {
  size = q.size ∙ p.size;
  each = λ k. (
    λ h. ⊎_elim (λ hb. ⊎_elim (λ ha. inl ha) (λ hp. inr ((both k).1 (inl hp))) ((p.each k).0 hb)) (λ hq. inr ((both k).1 (inr hq))) ((q.each k).0 h),
    λ h. ⊎_elim (λ ha. (q.each k).1 (inl ((p.each k).1 (inl ha))))
        (λ r. ⊎_elim (λ hp. (q.each k).1 (inl ((p.each k).1 (inr hp)))) (λ hq. (q.each k).1 (inr hq)) ((both k).0 r)) h,
  );
}

pub adds_same : (a b : List Bool) (P R : ℕ → Type 0) → Adds a b P → ((k : ℕ) → R k ↔ P k) → Adds a b R
adds_same a b P R p same = record {
  size = p.size;
  each = λ k. (λ h. ⊎_elim (λ ha. inl ha) (λ hp. inr ((same k).1 hp)) ((p.each k).0 h), λ h. ⊎_elim (λ ha. (p.each k).1 (inl ha)) (λ r. (p.each k).1 (inr ((same k).0 r))) h);
}

-- a masked port
pub masked : (edges : List Edge) (table : List (Option ℕ)) (frame : List Value) (t : ℕ) (rows : List (List Bool)) (values : List Bool) (port : Condition) (row : List Bool)
    → (IsOpen edges frame t port → ⊥) → Adds row row (BitComes edges table frame t rows values port)
masked edges table frame t rows values port row closed =
    adds_none row (BitComes edges table frame t rows values port) (λ k b. closed b.unmasked)

-- an unmasked port: the row of its operand, and what starts there
pub unmasked_port : (edges : List Edge) (table : List (Option ℕ)) (frame : List Value) (t : ℕ) (rows : List (List Bool)) (values : List Bool) (port : Condition) (a : EdgeId) (old mid new : List Bool)
    → operand_at edges port ≡ Some a → IsOpen edges frame t port → Adds old mid (λ k. has_bit (row_at rows a) k ≡ true) → Adds mid new (StartsBit table values port)
    → Adds old new (BitComes edges table frame t rows values port)
unmasked_port edges table frame t rows values port a old mid new read opened first second =
    adds_both old mid new (λ k. has_bit (row_at rows a) k ≡ true) (StartsBit table values port) (BitComes edges table frame t rows values port) first second
    (λ k. (
      λ b. ⊎_elim (λ s. inr s) (λ h. inl (subst (λ (e : EdgeId). has_bit (row_at rows e) k ≡ true) (some_same b.operand a (sym b.read ∙ read)) h)) b.comes,
      λ h. record { operand = a; read = read; unmasked = opened; comes = ⊎_elim (λ r. inr r) (λ s. inl s) h },
    ))

some_place : (i j : ℕ) → Some (Some i) ≡ Some (Some j) → i ≡ j
some_place i j same = cc

no_some : (i : ℕ) → Some None ≡ Some (Some i) → ⊥
no_some i same = cc

-- a port that has no place starts nothing
pub no_place : (table : List (Option ℕ)) (values : List Bool) (port : Condition) (row : List Bool) → slice_get table (index_of port) ≡ Some None → Adds row row (StartsBit table values port)
no_place table values port row none = adds_none row (StartsBit table values port) (λ k s. no_some s.place (sym none ∙ s.there))

-- the two bits of a port that has one
pub two_bits : (table : List (Option ℕ)) (values : List Bool) (port : Condition) (i : ℕ) (old mid new : List Bool) → slice_get table (index_of port) ≡ Some (Some i)
    → Adds old mid (λ k. (k ≡ 2 * i) × (has_bit values k ≡ true)) → Adds mid new (λ k. (k ≡ 2 * i + 1) × (has_bit values k ≡ true)) → Adds old new (StartsBit table values port)
two_bits table values port i old mid new there first second =
    adds_both old mid new (λ k. (k ≡ 2 * i) × (has_bit values k ≡ true)) (λ k. (k ≡ 2 * i + 1) × (has_bit values k ≡ true)) (StartsBit table values port) first second
    (λ k. (
      λ s.
          let same : s.place ≡ i = some_place s.place i (sym s.there ∙ there) in
          ⊎_elim (λ on. inl (omega (arith, on, same), s.has)) (λ off. inr (omega (arith, off, same), s.has)) s.bit,
      λ h. ⊎_elim (λ on. record { place = i; there = there; bit = inl on.0; has = on.1 }) (λ off. record { place = i; there = there; bit = inr off.0; has = off.1 }) h,
    ))

-- no port is below the first
pub no_ports : (edges : List Edge) (table : List (Option ℕ)) (frame : List Value) (t : ℕ) (rows : List (List Bool)) (values : List Bool) (e : EdgeId) (row : List Bool)
    → Adds row row (ComesBelow edges table frame t rows values e 0)
no_ports edges table frame t rows values e row = adds_none row (ComesBelow edges table frame t rows values e 0) (λ k c. omega (arith, c.below))

-- one port more
pub next_port : (edges : List Edge) (table : List (Option ℕ)) (frame : List Value) (t : ℕ) (rows : List (List Bool)) (values : List Bool) (e : EdgeId) (n : ℕ) (old mid new : List Bool)
    → Adds old mid (ComesBelow edges table frame t rows values e n) → Adds mid new (BitComes edges table frame t rows values (record { edge = e; port = n }))
    → Adds old new (ComesBelow edges table frame t rows values e (n + 1))
next_port edges table frame t rows values e n old mid new first second =
    adds_both old mid new (ComesBelow edges table frame t rows values e n) (BitComes edges table frame t rows values (record { edge = e; port = n })) (ComesBelow edges table frame t rows values e (n + 1)) first second
    (λ k. (
      λ c. ⊎_elim
          (λ same. inr (subst (λ (p : ℕ). BitComes edges table frame t rows values (record { edge = e; port = p }) k) same c.comes))
          (λ apart. inl (record { port = c.port; below = omega (arith, c.below, apart); comes = c.comes }))
          (cases_eq c.port n),
      λ h. ⊎_elim (λ c. record { port = c.port; below = omega (arith, c.below); comes = c.comes }) (λ b. record { port = n; below = omega arith; comes = b }) h,
    ))

-- beyond the last port there is no operand
pub ports_end : (edges : List Edge) (table : List (Option ℕ)) (frame : List Value) (t : ℕ) (rows : List (List Bool)) (values : List Bool) (e : EdgeId) (n : ℕ) (old new : List Bool)
    → length (operands_of edges e) ≤ n → Adds old new (ComesBelow edges table frame t rows values e n) → Adds old new (ComesIn edges table frame t rows values e)
ports_end edges table frame t rows values e n old new past all =
    adds_same old new (ComesBelow edges table frame t rows values e n) (ComesIn edges table frame t rows values e) all
    (λ k. (
      λ c. ⊎_elim
          (λ below. record { port = c.port; below = below; comes = c.comes })
          (λ above. absurd (none_some c.comes.operand (sym (slice_get_past (operands_of edges e) c.port (omega (arith, above, past))) ∙ c.comes.read)))
          (cases_lt c.port n),
      λ c. record { port = c.port; comes = c.comes },
    ))
