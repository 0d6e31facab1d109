-- Each assignment that satisfies the formula gives a run.
use Rattle.std.proofs.Common.{◌≡◌, ℕ, zero, suc, ◌+◌, ◌≤◌, Bool, true, false, ◌||◌, List, [], ◌∷◌, ◌++◌, length, map, refl, sym, ap, ap₂, ◌∙◌, subst, inl, inr, arith, nat_eq, Option, Some, None, append-nil, append_assoc}
use Rattle.std.specs.Prelude.{slice_get, slice_index_or}
use Rattle.std.specs.List.{Contains}
use Rattle.std.specs.Option.{option_map}
use Rattle.std.proofs.lemmas.Bool.Decides.{nat_tests}
use Rattle.std.proofs.lemmas.List.Elements.{All-get_or, Contains-append_left, Contains-push, Contains-push_cases}
use Rattle.std.proofs.lemmas.Option.{slice_get_within, get_or_from_slice_get}
use Rattle.cnf_form.specs.declared.lit.Lit.{Lit}
use Rattle.cnf_form.specs.Lits.{truth}
use Rattle.cnf_form.specs.Shape.{Satisfies, shape}
use Rattle.op_network.specs.declared.edge.Edge.{Edge}
use Rattle.op_network.specs.declared.edge.EdgeId.{EdgeId}
use Rattle.op_network.specs.declared.edge.Op.TheVariants as op
use Rattle.op_network.specs.declared.edge.Op.{Op}
use Rattle.op_network.specs.declared.edge.Parts.{Parts}
use Rattle.op_network.specs.declared.form.Form.TheVariants.{Input}
use Rattle.op_network.specs.declared.value.Ty.{Ty}
use Rattle.op_network.specs.declared.value.Value.{Value}
use Rattle.op_network.specs.declared.value.Value.TheVariants as value
use Rattle.op_network.specs.Operators.{form_of, at_edge, operator_value}
use Rattle.op_network.specs.Run.{IsFrame, IsRunAfter, IsRun}
use Rattle.op_network.specs.Valid.{type_of, IsValid, IsWellTyped}
use Rattle.lus_causality.specs.Causality.{operands_now, operands_now_in, CanStand, IsSequence}
use Rattle.lus_causality.proofs.Places.{none, parts as places}
use Rattle.lus_causality.proofs.Causal.{causal_of}
use Rattle.bit_blast.specs.Circuit.{Circuit, after, yes}
use Rattle.bit_blast.specs.Numbers.{bits}
use Rattle.bit_blast.proofs.Values.{Obeys}
use Rattle.bit_blast.proofs.Circuits.{model_of, obeys_parts, truth-yes}
use Rattle.unroll_cnf.specs.Sizes.{bits_of}
use Rattle.unroll_cnf.specs.Values.{bits_value}
use Rattle.unroll_cnf.specs.Laws.{values_from, frame_of, row_of, frames_of, rows_of}
use Rattle.unroll_cnf.specs.Unrolled.{Table, no_words, put, circuit_by, edge_circuit, circuit_in, instant, instants, first_part, unrolled, words}
use Rattle.unroll_cnf.proofs.Edges.{SizedAt, SizedBefore, ReadsAt, ReadsBefore, frame_before, size_by, value_law}
use Rattle.unroll_cnf.proofs.Order.{StandBehind, stand_behind}

-- ---- tables

pub put_same : (now : Table) (e : ℕ) (a : List Lit) → put now e a e ≡ a
put_same now e a = let t : nat_eq e e ≡ true = grind (arith, nat_tests) in rw t refl

pub put_other : (now : Table) (e : ℕ) (a : List Lit) (k : ℕ) → (k ≡ e → ⊥) → put now e a k ≡ now k
put_other now e a k ne = let t : nat_eq k e ≡ false = grind (arith, nat_tests) in rw t refl

pub one_id : (k e : EdgeId) → k.0 ≡ e.0 → k ≡ e
one_id k e h = λ i. record { 0 = h i }

-- ---- edges of a network

one_edge : {a b : Edge} {o : Option Edge} → o ≡ Some a → o ≡ Some b → a ≡ b
one_edge h k = cc

pub edge_of_type : (edges : List Edge) (i : ℕ) (o : Option Edge) (a : Ty) → slice_get edges i ≡ o → option_map (λ (edge : Edge). edge.ty) o ≡ Some a → (edge : Edge) × (slice_get edges i ≡ Some edge) × (edge.ty ≡ a)
edge_of_type edges i None a is h = absurd (cc)
edge_of_type edges i (Some edge) a is h = (edge, is, (let e : edge.ty ≡ a = cc in e))

pub type_is : (edges : List Edge) (e : EdgeId) (edge : Edge) → slice_get edges e.0 ≡ Some edge → type_of edges e ≡ Some edge.ty
type_is edges e edge is = ap (option_map (λ (x : Edge). x.ty)) is

pub edge_typed : (parts : Parts) → IsValid parts → (i : ℕ) (edge : Edge) → slice_get parts.edges i ≡ Some edge → IsWellTyped parts edge.op edge.ty
edge_typed parts valid i edge is =
    subst (λ (x : Edge). IsWellTyped parts x.op x.ty) (get_or_from_slice_get parts.edges i edge edge is)
    (All-get_or (λ (x : Edge). IsWellTyped parts x.op x.ty) parts.edges i edge (slice_get_within parts.edges i edge is) valid.typed)

-- ---- frames

length-values : (v : ℕ → Bool) (t : Table) (i : ℕ) (edges : List Edge) → length (values_from v t i edges) ≡ length edges
length-values v t i [] = refl
length-values v t i (edge ∷ edges) = ap suc (length-values v t (suc i) edges)

values_at : (v : ℕ → Bool) (t : Table) (k : ℕ) (edges : List Edge) (i : ℕ) (edge : Edge) → slice_get edges i ≡ Some edge → slice_get (values_from v t k edges) i ≡ Some (bits_value edge.ty (bits v (t (k + i))))
values_at v t k [] i edge is = absurd (cc)
values_at v t k (x ∷ edges) zero edge is =
    let e : x ≡ edge = cc in
    let z : k ≡ k + 0 = omega arith in
    ap Some (ap₂ (λ (y : Edge) (j : ℕ). bits_value y.ty (bits v (t j))) e z)
values_at v t k (x ∷ edges) (suc i) edge is =
    let z : suc k + i ≡ k + suc i = omega arith in
    values_at v t (suc k) edges i edge is ∙ ap (λ (j : ℕ). Some (bits_value edge.ty (bits v (t j)))) z

frame_at : (parts : Parts) (v : ℕ → Bool) (t : Table) (i : ℕ) (edge : Edge) → slice_get parts.edges i ≡ Some edge → slice_get (frame_of parts v t) i ≡ Some (bits_value edge.ty (bits v (t i)))
frame_at parts v t i edge is =
    let z : 0 + i ≡ i = omega arith in
    values_at v t 0 parts.edges i edge is ∙ ap (λ (j : ℕ). Some (bits_value edge.ty (bits v (t j)))) z

-- a frame is read as the words of its table
pub reads_own : (parts : Parts) (v : ℕ → Bool) (t : Table) (o : EdgeId) → ReadsAt parts v t (frame_of parts v t) o
reads_own parts v t o a h =
    let x = edge_of_type parts.edges o.0 (slice_get parts.edges o.0) a refl h in
    get_or_from_slice_get (frame_of parts v t) o.0 (bits_value x.0.ty (bits v (t o.0))) (value.Truth false) (frame_at parts v t o.0 x.0 x.1)
    ∙ ap (λ (y : Ty). bits_value y (bits v (t o.0))) x.2

reads_before : (parts : Parts) (v : ℕ → Bool) (before : Option Table) → ReadsBefore parts v before
reads_before parts v None = tt
reads_before parts v (Some t) = reads_own parts v t

pub map_at : (f : EdgeId → Value) (xs : List EdgeId) (i : ℕ) (e : EdgeId) → slice_get xs i ≡ Some e → slice_index_or (map f xs) i (value.Truth false) ≡ f e
map_at f [] i e is = absurd (cc)
map_at f (x ∷ xs) zero e is = let k : x ≡ e = cc in ap f k
map_at f (x ∷ xs) (suc i) e is = map_at f xs i e is

-- ---- an instant

-- the words of these edges have the sizes of their types
abbrev pub Sized : Parts → List EdgeId → Table → Type 0
Sized parts done now = (o : EdgeId) → Contains done o → SizedAt parts now o

pub operands_in_edge : (edges : List Edge) (e o : EdgeId) (edge : Edge) → slice_get edges e.0 ≡ Some edge → operands_now edges e ≡ operands_now_in (Some edge)
operands_in_edge edges e o edge is = ap operands_now_in is

-- the word of an edge that can stand next has the size of its type
pub edge_size : (parts : Parts) → IsValid parts → (n : ℕ) (before : Option Table) (now : Table) (done : List EdgeId) (e : EdgeId) → CanStand parts.edges done e → Sized parts done now → SizedBefore parts before →
    (a : Ty) → type_of parts.edges e ≡ Some a → length (edge_circuit parts n e before now).result ≡ bits_of parts a
edge_size parts valid n before now done e c s b a t =
    let x = edge_of_type parts.edges e.0 (slice_get parts.edges e.0) a refl t in
    ap (λ (y : Option Edge). length (circuit_in parts n y before now).result) x.1
    ∙ (size_by parts n (form_of x.0.op) x.0.ty before now (edge_typed parts valid e.0 x.0 x.1) b
    (λ o k. s o (c.operands o (subst (λ (l : List EdgeId). Contains l o) (sym (operands_in_edge parts.edges e o x.0 x.1)) k)))
    ∙ ap (bits_of parts) x.2)

pub sized_more : (parts : Parts) (done : List EdgeId) (now : Table) (e : EdgeId) (word : List Lit) → (Contains done e → ⊥) → Sized parts done now → ((a : Ty) → type_of parts.edges e ≡ Some a → length word ≡ bits_of parts a) → Sized parts (done ++ e ∷ []) (put now e.0 word)
sized_more parts done now e word new s k o i a t = elim (Contains-push_cases done e o i) [
  | inr same ↦
      ap (λ (x : EdgeId). length (put now e.0 word x.0)) (sym same)
      ∙ (ap length (put_same now e.0 word) ∙ k a (ap (type_of parts.edges) same ∙ t))
  | inl old ↦ ap length (put_other now e.0 word o.0 (apart o old)) ∙ s o old a t
]
  where
    apart : (o : EdgeId) → Contains done o → o.0 ≡ e.0 → ⊥
    apart o old q = new (subst (λ (x : EdgeId). Contains done x) (one_id o e q) old)

-- the words that are there are kept
pub instant_keeps : (parts : Parts) (before : Option Table) (n : ℕ) (now : Table) (done order : List EdgeId) (k : EdgeId) → StandBehind parts.edges done order → Contains done k → (instant parts before n now order).result k.0 ≡ now k.0
instant_keeps parts before n now done [] k c i = refl
instant_keeps parts before n now done (e ∷ order) k c i =
    let one = edge_circuit parts n e before now in
    instant_keeps parts before (after n one.entries) (put now e.0 one.result) (done ++ e ∷ []) order k c.1 (Contains-append_left done (e ∷ []) k i)
    ∙ put_other now e.0 one.result k.0 (λ q. c.0.new (subst (λ (x : EdgeId). Contains done x) (one_id k e q) i))

pub instant_sized : (parts : Parts) → IsValid parts → (before : Option Table) (n : ℕ) (now : Table) (done order : List EdgeId) → StandBehind parts.edges done order → Sized parts done now → SizedBefore parts before → Sized parts (done ++ order) (instant parts before n now order).result
instant_sized parts valid before n now done [] c s b = subst (λ (l : List EdgeId). Sized parts l now) (sym (append-nil done)) s
instant_sized parts valid before n now done (e ∷ order) c s b =
    let one = edge_circuit parts n e before now in
    subst (λ (l : List EdgeId). Sized parts l (instant parts before (after n one.entries) (put now e.0 one.result) order).result) (append_assoc done (e ∷ []) order)
    (instant_sized parts valid before (after n one.entries) (put now e.0 one.result) (done ++ e ∷ []) order c.1
    (sized_more parts done now e one.result c.0.new s (edge_size parts valid n before now done e c.0 s b)) b)

-- the word of an edge has the value of its operator
abbrev pub HasValue : Parts → (ℕ → Bool) → Option Table → Table → EdgeId → Type 0
HasValue parts v before final e =
    (edge : Edge) → slice_get parts.edges e.0 ≡ Some edge
    → bits_value edge.ty (bits v (final e.0)) ≡ operator_value parts.width edge.op edge.ty (frame_before parts v before) (frame_of parts v final) (row_of parts v final)

pub is_input : (o : Op) (i : ℕ) → form_of o ≡ Input i → o ≡ op.Input i
is_input (op.Input j) i h = let e : j ≡ i = cc in ap op.Input e
is_input (op.Const x) i h = absurd (cc)
is_input (op.Id a) i h = absurd (cc)
is_input (op.Not a) i h = absurd (cc)
is_input (op.Neg a) i h = absurd (cc)
is_input (op.And a b) i h = absurd (cc)
is_input (op.Or a b) i h = absurd (cc)
is_input (op.Xor a b) i h = absurd (cc)
is_input (op.Imp a b) i h = absurd (cc)
is_input (op.Eq a b) i h = absurd (cc)
is_input (op.Ne a b) i h = absurd (cc)
is_input (op.Lt a b) i h = absurd (cc)
is_input (op.Le a b) i h = absurd (cc)
is_input (op.Gt a b) i h = absurd (cc)
is_input (op.Ge a b) i h = absurd (cc)
is_input (op.Add a b) i h = absurd (cc)
is_input (op.Sub a b) i h = absurd (cc)
is_input (op.Mul a b) i h = absurd (cc)
is_input (op.Ite a b c) i h = absurd (cc)
is_input (op.Arrow a b) i h = absurd (cc)
is_input (op.Pre a) i h = absurd (cc)

module _ (parts : Parts) (valid : IsValid parts) (v : ℕ → Bool) (one_true : v 0 ≡ true) (before : Option Table) (b : SizedBefore parts before) where
  wide : 1 ≤ parts.width
  wide = let k = valid.narrowest in omega arith

  -- an edge that can stand next has its value in the table to which the instant leads
  next_value : (n : ℕ) (now final : Table) (done : List EdgeId) (e : EdgeId) → CanStand parts.edges done e → Sized parts done now → ((k : EdgeId) → Contains done k → final k.0 ≡ now k.0) → final e.0 ≡ (edge_circuit parts n e before now).result → Obeys v n (edge_circuit parts n e before now).entries → HasValue parts v before final e
  next_value n now final done e c s kept own o edge is =
      let at : edge_circuit parts n e before now ≡ circuit_by parts n (form_of edge.op) edge.ty before now = ap (λ (y : Option Edge). circuit_in parts n y before now) is in
      let ready : (k : EdgeId) → Contains (operands_now_in (Some edge)) k → Contains done k = λ k i. c.operands k (subst (λ (l : List EdgeId). Contains l k) (sym (operands_in_edge parts.edges e k edge is)) i) in
      ap (λ (a : List Lit). bits_value edge.ty (bits v a)) (own ∙ ap (λ (y : Circuit (List Lit)). y.result) at)
      ∙ value_law parts v one_true wide valid.choices (frame_of parts v final) (row_of parts v final) n (form_of edge.op) edge.ty before now (edge_typed parts valid e.0 edge is) (reads_before parts v before)
      (λ k i. s k (ready k i))
      (λ k i a t. reads_own parts v final k a t ∙ ap (λ (w : List Lit). bits_value a (bits v w)) (kept k (ready k i)))
      (λ i h.
      map_at (at_edge (frame_of parts v final)) parts.inputs i e (valid.inputs.all e.0 edge is i (is_input edge.op i h))
      ∙ (reads_own parts v final e edge.ty (type_is parts.edges e edge is)
      ∙ ap (λ (a : List Lit). bits_value edge.ty (bits v a)) (own ∙ ap (λ (y : Circuit (List Lit)). y.result) at)))
      (subst (λ (y : Circuit (List Lit)). Obeys v n y.entries) at o)

  instant_law : (n : ℕ) (now : Table) (done order : List EdgeId) → StandBehind parts.edges done order → Sized parts done now → Obeys v n (instant parts before n now order).entries →
      (e : EdgeId) → Contains order e → HasValue parts v before (instant parts before n now order).result e
  instant_law n now done [] c s o e i = none e i
  instant_law n now done (d ∷ order) c s o e i =
      let one = edge_circuit parts n d before now in
      let rest = instant parts before (after n one.entries) (put now d.0 one.result) order in
      let p = obeys_parts v n one.entries rest.entries o in
      let more = sized_more parts done now d one.result c.0.new s (edge_size parts valid n before now done d c.0 s b) in
      elim (places e d order i) [
        | inr later ↦ instant_law (after n one.entries) (put now d.0 one.result) (done ++ d ∷ []) order c.1 more p.1 e later
        | inl same ↦ subst (λ (x : EdgeId). HasValue parts v before rest.result x) same
            (next_value n now rest.result done d c.0 s
            (λ k j. instant_keeps parts before n now done (d ∷ order) k c j)
            (instant_keeps parts before (after n one.entries) (put now d.0 one.result) (done ++ d ∷ []) order d c.1 (Contains-push done d) ∙ put_same now d.0 one.result)
            p.0)
      ]

  pub instant_frame : (n : ℕ) (order : List EdgeId) → IsSequence parts.edges order → Obeys v n (instant parts before n no_words order).entries →
      IsFrame parts.width parts.edges (frame_before parts v before) (row_of parts v (instant parts before n no_words order).result) (frame_of parts v (instant parts before n no_words order).result)
  instant_frame n order q o =
      let final = (instant parts before n no_words order).result in
      let c = stand_behind parts.edges [] order (causal_of parts.edges order q.least) in
      record {
        size = length-values v final 0 parts.edges;
        values = λ i edge is.
            frame_at parts v final i edge is
            ∙ ap Some (instant_law n no_words [] order c (λ o j. none o j) o (record { 0 = i }) (q.full (record { 0 = i }) (slice_get_within parts.edges i edge is)) edge is);
      }

-- ---- all instants

pub all_sized : (parts : Parts) → IsValid parts → (before : Option Table) (n : ℕ) (order : List EdgeId) → IsSequence parts.edges order → SizedBefore parts before → SizedBefore parts (Some (instant parts before n no_words order).result)
all_sized parts valid before n order q b o a t =
    let c = stand_behind parts.edges [] order (causal_of parts.edges order q.least) in
    let x = edge_of_type parts.edges o.0 (slice_get parts.edges o.0) a refl t in
    instant_sized parts valid before n no_words [] order c (λ k j. none k j) b o (q.full o (slice_get_within parts.edges o.0 x.0 x.1)) a t

pub instants_law : (parts : Parts) → IsValid parts → (order : List EdgeId) → IsSequence parts.edges order → (v : ℕ → Bool) → v 0 ≡ true → (before : Option Table) (n k : ℕ) → SizedBefore parts before → Obeys v n (instants parts order before n k).entries →
    IsRunAfter parts.width parts.edges (frame_before parts v before) (rows_of parts v (instants parts order before n k).result) (frames_of parts v (instants parts order before n k).result)
instants_law parts valid order q v y before n zero b o = tt
instants_law parts valid order q v y before n (suc k) b o =
    let one = instant parts before n no_words order in
    let rest = instants parts order (Some one.result) (after n one.entries) k in
    let p = obeys_parts v n one.entries rest.entries o in (
      instant_frame parts valid v y before b n order q p.0,
      instants_law parts valid order q v y (Some one.result) (after n one.entries) k (all_sized parts valid before n order q b) p.1,
    )

or-none : (a : Bool) → (a || false) ≡ true → a ≡ true
or-none true e = refl
or-none false e = e

-- In each assignment that satisfies the formula, the words of the edges are the run of the words of the inputs.
pub models_are_runs : (parts : Parts) (order : List EdgeId) (k : ℕ) → IsValid parts → IsSequence parts.edges order → (v : ℕ → Bool) → Satisfies v (unrolled parts order k) →
    IsRun parts.width parts.edges (rows_of parts v (words parts order k)) (frames_of parts v (words parts order k))
models_are_runs parts order k valid q v s =
    let m = model_of v (shape 0 []) (first_part parts order k).entries s in
    let y : v 0 ≡ true = sym (truth-yes v 0) ∙ or-none (truth v (yes 0)) m.meets.0 in
    instants_law parts valid order q v y None 1 k tt m.obeys.1.1
