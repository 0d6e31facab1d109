-- How many variables the circuits take at most, and how many clauses.
use Rattle.std.proofs.Common.{◌≡◌, ℕ, zero, suc, ◌+◌, ◌-◌, ◌*◌, ◌^◌, ◌<◌, ◌≤◌, List, [], ◌∷◌, ◌++◌, length, refl, sym, ap, ◌∙◌, subst, arith, inl, inr, Option, Some, None}
use Rattle.std.specs.Prelude.{nat_le, slice_get}
use Rattle.std.proofs.lemmas.Bool.{cases_Bool}
use Rattle.std.proofs.Math.Nat.{pow-le-pow_right}
use Rattle.std.specs.List.{Contains}
use Rattle.std.specs.Option.{option_map_or}
use Rattle.cnf_form.specs.declared.lit.Lit.{Lit}
use Rattle.cnf_form.specs.Shape.{Shape}
use Rattle.op_network.specs.declared.edge.Edge.{Edge}
use Rattle.op_network.specs.declared.edge.EdgeId.{EdgeId}
use Rattle.op_network.specs.declared.edge.Parts.{Parts}
use Rattle.op_network.specs.declared.form.Form.{Form}
use Rattle.op_network.specs.declared.form.Form.TheVariants.{Input, Const, One, Two, Ite, Arrow, Pre}
use Rattle.op_network.specs.declared.form.Unary.{Unary}
use Rattle.op_network.specs.declared.form.Unary.TheVariants as one
use Rattle.op_network.specs.declared.form.Binary.{Binary}
use Rattle.op_network.specs.declared.form.Binary.TheVariants as two
use Rattle.op_network.specs.declared.value.Ty.{Ty}
use Rattle.op_network.specs.declared.value.Ty.TheVariants as type
use Rattle.op_network.specs.Operators.{form_of, unary_type, binary_type}
use Rattle.op_network.specs.Valid.{type_of, GivesType, IsValid}
use Rattle.lus_causality.specs.Causality.{operands_now_by, CanStand, IsSequence}
use Rattle.lus_causality.proofs.Places.{first, later, none}
use Rattle.lus_causality.proofs.Causal.{causal_of}
use Rattle.bit_blast.specs.Circuit as gate
use Rattle.bit_blast.specs.Circuit.{Entry, Free, Require, Circuit, after, yes, no, with_entries}
use Rattle.bit_blast.specs.Words.{nothing, inverted, fresh}
use Rattle.bit_blast.proofs.Circuits.{after-append, after_more, required, clauses_counted, vars-with_entries}
use Rattle.bit_blast.proofs.Values.{AreGates}
use Rattle.bit_blast.proofs.Made.{Within, gates_fresh, after-sum, after-ite, after-fresh, after-equal, after-less, after-rows}
use Rattle.bit_blast.proofs.Sums.{length-inverted, length-nothing}
use Rattle.unroll_cnf.specs.Sizes.{bits_of, bits_from, enumerators, edge_bits, unary_cost, binary_cost, cost_by, cost_of, costs}
use Rattle.unroll_cnf.specs.Made.{Spends}
use Rattle.unroll_cnf.specs.Values.{excluded, exclusions}
use Rattle.unroll_cnf.specs.Unrolled.{Table, no_words, put, only, unary_circuit, binary_circuit, input_circuit, circuit_by, circuit_in, edge_circuit, instant, instants}
use Rattle.unroll_cnf.proofs.Edges.{SizedAt, SizedBefore}
use Rattle.unroll_cnf.proofs.Inputs.{after_input}
use Rattle.unroll_cnf.proofs.Operators.{over_types}
use Rattle.unroll_cnf.proofs.Order.{StandBehind, stand_behind}
use Rattle.unroll_cnf.proofs.Placed.{gates_by}
use Rattle.unroll_cnf.proofs.Placing.{binary_same}
use Rattle.unroll_cnf.proofs.Runs.{Sized, edge_size, edge_typed, operands_in_edge, sized_more, all_sized}
use Rattle.unroll_cnf.proofs.Typed.{unary_typed, binary_typed, if_typed}
use Rattle.unroll_cnf.proofs.Weights.{total_of, weigh, weigh_most}

-- ---- variables

unary_takes : (parts : Parts) (n : ℕ) (o : Unary) (a ty : Ty) (p : List Lit) → unary_type o a ≡ Some ty → length p ≡ bits_of parts a → after n (unary_circuit n o p).entries ≤ n + unary_cost o (bits_of parts ty)
unary_takes parts n one.Id a ty p t l = omega arith
unary_takes parts n one.Not a ty p t l = omega arith
unary_takes parts n one.Neg a ty p t l =
    let e = over_types type.Word type.Word a a ty t in
    omega (arith, after-sum n (nothing (length p)) (inverted p) (yes 0) (length-nothing (length p) ∙ sym (length-inverted p)), length-nothing (length p), l, ap (bits_of parts) (e.0 ∙ sym e.2))

binary_takes : (parts : Parts) (n : ℕ) (o : Binary) (a b ty : Ty) (p q : List Lit) → binary_type o a b ≡ Some ty → length p ≡ bits_of parts a → length q ≡ length p → after n (binary_circuit n o p q).entries ≤ n + binary_cost o (bits_of parts ty) (bits_of parts a)
binary_takes parts n two.And a b ty p q t l m = omega (arith, ap (bits_of parts) (over_types type.Truth type.Truth a b ty t).2)
binary_takes parts n two.Or a b ty p q t l m = omega (arith, ap (bits_of parts) (over_types type.Truth type.Truth a b ty t).2)
binary_takes parts n two.Xor a b ty p q t l m = omega (arith, ap (bits_of parts) (over_types type.Truth type.Truth a b ty t).2)
binary_takes parts n two.Imp a b ty p q t l m = omega (arith, ap (bits_of parts) (over_types type.Truth type.Truth a b ty t).2)
binary_takes parts n two.Eq a b ty p q t l m = omega (arith, after-equal n p q (yes 0) (sym m), l)
binary_takes parts n two.Ne a b ty p q t l m = omega (arith, after-equal n p q (yes 0) (sym m), l)
binary_takes parts n two.Lt a b ty p q t l m = omega (arith, after-less n p q (no 0) (sym m), l)
binary_takes parts n two.Ge a b ty p q t l m = omega (arith, after-less n p q (no 0) (sym m), l)
binary_takes parts n two.Gt a b ty p q t l m = omega (arith, after-less n q p (no 0) m, l, m)
binary_takes parts n two.Le a b ty p q t l m = omega (arith, after-less n q p (no 0) m, l, m)
binary_takes parts n two.Add a b ty p q t l m =
    let e = over_types type.Word type.Word a b ty t in
    omega (arith, after-sum n p q (no 0) (sym m), l, ap (bits_of parts) (e.0 ∙ sym e.2))
binary_takes parts n two.Sub a b ty p q t l m =
    let e = over_types type.Word type.Word a b ty t in
    omega (arith, after-sum n p (inverted q) (yes 0) (sym (length-inverted q ∙ m)), l, ap (bits_of parts) (e.0 ∙ sym e.2))
binary_takes parts n two.Mul a b ty p q t l m =
    let e = over_types type.Word type.Word a b ty t in
    let w : length p ≡ bits_of parts ty = l ∙ ap (bits_of parts) (e.0 ∙ sym e.2) in
    let rows = after-rows n p 0 q (nothing (length p)) (length-nothing (length p)) (omega arith) in
    product (after n (binary_circuit n two.Mul p q).entries) n (length p) (length q) (bits_of parts ty) rows w (m ∙ w)
  where
    product : (x n a b w : ℕ) → x ≤ n + 6 * a * b → a ≡ w → b ≡ w → x ≤ n + 8 * (w * w)
    product x n a b w le e f = omega (arith, subst (λ k. x ≤ n + 6 * a * k) f le, ap (λ k. 6 * k * w) e)

-- the bits of an edge that has a type
bits_at : (parts : Parts) (e : EdgeId) (a : Ty) → type_of parts.edges e ≡ Some a → edge_bits parts e ≡ bits_of parts a
bits_at parts e a t = ap (λ (o : Option Ty). option_map_or (bits_of parts) o 0) t

pub form_takes : (parts : Parts) (n : ℕ) (form : Form) (ty : Ty) (before : Option Table) (now : Table) → GivesType parts form ty →
    ((o : EdgeId) → Contains (operands_now_by form) o → SizedAt parts now o) → after n (circuit_by parts n form ty before now).entries ≤ n + cost_by parts form (bits_of parts ty)
form_takes parts n (Input i) ty before now t s = omega (arith, after_input parts n ty, after-fresh n (bits_of parts ty))
form_takes parts n (Const x) ty before now t s = omega arith
form_takes parts n (One o a) ty before now t s =
    let k = unary_typed o (type_of parts.edges a) ty t in
    unary_takes parts n o k.0 ty (now a.0) k.2 (s a (first a a [] refl) k.0 k.1)
form_takes parts n (Two o a c) ty before now t s =
    let k = binary_typed o (type_of parts.edges a) (type_of parts.edges c) ty t in
    let l = s a (first a a (c ∷ []) refl) k.0 k.2 in
    let m = s c (later c a (c ∷ []) (first c c [] refl)) k.1 k.3 in
    subst (λ b. after n (binary_circuit n o (now a.0) (now c.0)).entries ≤ n + binary_cost o (bits_of parts ty) b) (sym (bits_at parts a k.0 k.2))
    (binary_takes parts n o k.0 k.1 ty (now a.0) (now c.0) k.4 l (m ∙ (ap (bits_of parts) (sym (binary_same o k.0 k.1 ty k.4)) ∙ sym l)))
form_takes parts n (Ite a c d) ty before now t s =
    let k = if_typed (type_of parts.edges a) (type_of parts.edges c) (type_of parts.edges d) ty t in
    let l = s c (later c a (c ∷ d ∷ []) (first c c (d ∷ []) refl)) ty k.1 in
    let m = s d (later d a (c ∷ d ∷ []) (later d c (d ∷ []) (first d d [] refl))) ty k.2 in
    omega (arith, after-ite n (only (now a.0)) (now c.0) (now d.0) (l ∙ sym m), l)
form_takes parts n (Arrow a c) ty before now t s = omega arith
form_takes parts n (Pre a) ty before now t s = omega arith

-- ---- all instants

-- what the edge at a place costs
abbrev pub cost_at : Parts → ℕ → ℕ
cost_at parts i = option_map_or (cost_of parts) (slice_get parts.edges i) 0

module _ (parts : Parts) (valid : IsValid parts) where
  edge_takes : (before : Option Table) (n : ℕ) (now : Table) (done : List EdgeId) (e : EdgeId) → CanStand parts.edges done e → Sized parts done now → after n (edge_circuit parts n e before now).entries ≤ n + cost_at parts e.0
  edge_takes before n now done e c s = here (slice_get parts.edges e.0) refl
    where
      here : (o : Option Edge) → slice_get parts.edges e.0 ≡ o → after n (circuit_in parts n o before now).entries ≤ n + option_map_or (cost_of parts) o 0
      here None is = omega arith
      here (Some edge) is =
          form_takes parts n (form_of edge.op) edge.ty before now (edge_typed parts valid e.0 edge is)
          (λ o i. s o (c.operands o (subst (λ (l : List EdgeId). Contains l o) (sym (operands_in_edge parts.edges e o edge is)) i)))

  instant_takes : (before : Option Table) → SizedBefore parts before → (n : ℕ) (now : Table) (done order : List EdgeId) → StandBehind parts.edges done order → Sized parts done now → after n (instant parts before n now order).entries ≤ n + weigh (cost_at parts) order
  instant_takes before b n now done [] c s = omega arith
  instant_takes before b n now done (e ∷ order) c s =
      let one = edge_circuit parts n e before now in
      let rest = instant parts before (after n one.entries) (put now e.0 one.result) order in
      let x = edge_takes before n now done e c.0 s in
      let y = instant_takes before b (after n one.entries) (put now e.0 one.result) (done ++ e ∷ []) order c.1
      (sized_more parts done now e one.result c.0.new s (edge_size parts valid n before now done e c.0 s b)) in
      omega (arith, after-append n one.entries rest.entries, x, y)

  instants_take : (order : List EdgeId) → IsSequence parts.edges order → (before : Option Table) → SizedBefore parts before → (n k : ℕ) → after n (instants parts order before n k).entries ≤ n + k * costs parts
  instants_take order q before b n zero = omega arith
  instants_take order q before b n (suc k) =
      let one = instant parts before n no_words order in
      let rest = instants parts order (Some one.result) (after n one.entries) k in
      let c = stand_behind parts.edges [] order (causal_of parts.edges order q.least) in
      let x = instant_takes before b n no_words [] order c (λ o i. none o i) in
      let most = weigh_most parts.edges (cost_at parts) [] order c in
      let y = instants_take order q (Some one.result) (all_sized parts valid before n order q b) (after n one.entries) k in
      omega (arith, after-append n one.entries rest.entries, x, y, most, total_of (cost_of parts) parts.edges)

  -- the first part of the formula has at most 1 + k * S variables
  pub first_part_takes : (order : List EdgeId) (k : ℕ) → IsSequence parts.edges order → after 1 (instants parts order None 1 k).entries ≤ 1 + k * costs parts
  first_part_takes order k q = instants_take order q None tt 1 k

-- ---- clauses

required_both : (c d : List Entry) → required (c ++ d) ≡ required c + required d
required_both [] d = omega arith
required_both (Free ∷ c) d = required_both c d
required_both (gate.And x y ∷ c) d = required_both c d
required_both (gate.Or x y ∷ c) d = required_both c d
required_both (gate.Xor x y ∷ c) d = required_both c d
required_both (gate.Ite z x y ∷ c) d = required_both c d
required_both (Require z ∷ c) d = omega (arith, required_both c d)

gates_required : (n : ℕ) (es : List Entry) → AreGates n es → required es ≡ 0
gates_required n [] g = refl
gates_required n (Free ∷ es) g = gates_required (suc n) es g.2
gates_required n (gate.And x y ∷ es) g = gates_required (suc n) es g.2
gates_required n (gate.Or x y ∷ es) g = gates_required (suc n) es g.2
gates_required n (gate.Xor x y ∷ es) g = gates_required (suc n) es g.2
gates_required n (gate.Ite z x y ∷ es) g = gates_required (suc n) es g.2
gates_required n (Require z ∷ es) g = absurd g.0

exclusions_required : (a : List Lit) (b from many : ℕ) → required (exclusions a b from many) ≡ many
exclusions_required a b from zero = refl
exclusions_required a b from (suc many) = ap suc (exclusions_required a b (from + 1) many)

choice_bits_few : (n from more : ℕ) → bits_from n from more ≤ from + more
choice_bits_few n from zero = omega arith
choice_bits_few n from (suc more) = elim (cases_Bool (nat_le n (2 ^ from))) [
  | inl e ↦ rw e (omega arith)
  | inr e ↦ rw e (omega (arith, choice_bits_few n (suc from) more))
]

excluded_required : (parts : Parts) (ty : Ty) (a : List Lit) → required (excluded parts ty a) ≤ 256
excluded_required parts type.Truth a = omega arith
excluded_required parts type.Word a = omega arith
excluded_required parts (type.Choice c) a =
    let b = bits_of parts (type.Choice c) in
    let n = enumerators parts.choices c in
    let p : 2 ^ b ≤ 2 ^ 8 = pow-le-pow_right {n = 2} (omega arith) {i = b} {j = 8} (choice_bits_few n 1 7) in
    omega (arith, p, exclusions_required a b n (2 ^ b - n))

input_required : (parts : Parts) (m : ℕ) (ty : Ty) → required (input_circuit parts m ty).entries ≤ 256
input_required parts m ty =
    let a = fresh m (bits_of parts ty) in
    omega (arith, required_both a.entries (excluded parts ty a.result), gates_required m a.entries (gates_fresh m (bits_of parts ty)), excluded_required parts ty a.result)

pub form_required : (parts : Parts) (m : ℕ) (form : Form) (ty : Ty) (before : Option Table) (now : Table) → 0 < m → GivesType parts form ty →
    ((o : EdgeId) → Contains (operands_now_by form) o → SizedAt parts now o) → ((o : EdgeId) → Contains (operands_now_by form) o → Within m (now o.0)) →
    required (circuit_by parts m form ty before now).entries ≤ 256
form_required parts m (Input i) ty before now h t s p = input_required parts m ty
form_required parts m (Const x) ty before now h t s p = omega arith
form_required parts m (One o a) ty before now h t s p = omega (arith, gates_required m _ (gates_by parts m (One o a) ty before now h t s p (λ i e. absurd (cc))))
form_required parts m (Two o a c) ty before now h t s p = omega (arith, gates_required m _ (gates_by parts m (Two o a c) ty before now h t s p (λ i e. absurd (cc))))
form_required parts m (Ite a c d) ty before now h t s p = omega (arith, gates_required m _ (gates_by parts m (Ite a c d) ty before now h t s p (λ i e. absurd (cc))))
form_required parts m (Arrow a c) ty before now h t s p = omega arith
form_required parts m (Pre a) ty before now h t s p = omega arith

-- a circuit that requires at most 256 clauses counts as one word
pub spends_one : (f g : Shape) (es : List Entry) → g ≡ with_entries f es → required es ≤ 256 → Spends f g 1
spends_one f g es m r =
    omega (arith, r, ap (λ (z : Shape). length z.clauses) m, ap (λ (z : Shape). z.vars) m, vars-with_entries f es, clauses_counted f es, after_more f.vars es)
