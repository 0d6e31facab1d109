-- For each list of rows that fit there is an assignment that satisfies the formula and gives the words of the inputs
-- these values.
use Rattle.std.proofs.Common.{◌≡◌, ℕ, zero, suc, ◌+◌, ◌<◌, ◌≤◌, Bool, true, false, List, [], ◌∷◌, ◌++◌, length, map, refl, sym, ap, ap₂, ◌∙◌, subst, ◌⊎◌, inl, inr, arith, Option, Some, None, append_assoc}
use Rattle.std.specs.Prelude.{slice_get, slice_index_or, All}
use Rattle.std.specs.List.{Contains}
use Rattle.std.proofs.lemmas.Bool.{or_left}
use Rattle.std.proofs.lemmas.List.Elements.{Contains-push, Contains-push_cases, All-head, All-tail}
use Rattle.std.proofs.lemmas.Option.{slice_get_within, get_or_from_slice_get}
use Rattle.std.specs.Option.{option_map}
use Rattle.cnf_form.specs.declared.lit.Lit.{Lit}
use Rattle.cnf_form.specs.Lits.{truth, holds}
use Rattle.cnf_form.specs.Shape.{Satisfies, shape}
use Rattle.op_network.specs.declared.edge.Edge.{Edge}
use Rattle.op_network.specs.declared.edge.EdgeId.{EdgeId}
use Rattle.op_network.specs.declared.edge.Op.TheVariants as op
use Rattle.op_network.specs.declared.edge.Parts.{Parts}
use Rattle.op_network.specs.declared.form.Form.{Form}
use Rattle.op_network.specs.declared.form.Form.TheVariants.{Input, Const, One, Two, Ite, Arrow, Pre}
use Rattle.op_network.specs.declared.value.Ty.{Ty}
use Rattle.op_network.specs.declared.value.Value.{Value}
use Rattle.op_network.specs.declared.value.Value.TheVariants as value
use Rattle.op_network.specs.Operators.{form_of, at_edge}
use Rattle.op_network.specs.Valid.{GivesType, HasType, IsChoice, IsValid, FitsRow}
use Rattle.lus_causality.specs.Causality.{operands_now_by, operands_now_in, CanStand, IsSequence}
use Rattle.lus_causality.proofs.Places.{first, later, none, parts as places}
use Rattle.lus_causality.proofs.Causal.{causal_of}
use Rattle.lus_causality.proofs.Runs.{same_list}
use Rattle.bit_blast.specs.Circuit.{Entry, Circuit, after, yes}
use Rattle.bit_blast.specs.Meaning.{Agree}
use Rattle.bit_blast.specs.Words.{fresh}
use Rattle.bit_blast.specs.Numbers.{bits}
use Rattle.bit_blast.proofs.Values.{Obeys, Meets, assign, extend, value_of, AreGates}
use Rattle.bit_blast.proofs.Values as circuit
use Rattle.bit_blast.proofs.Circuits.{satisfied_by, obeys_both, truth-yes, extend_keeps, extend_obeys, gates_ordered, gates_meet, after-append, after_more}
use Rattle.bit_blast.proofs.Made.{Within, within_more}
use Rattle.unroll_cnf.specs.Sizes.{bits_of}
use Rattle.unroll_cnf.specs.Values.{value_bits, excluded, bits_value}
use Rattle.unroll_cnf.specs.Laws.{frame_of, row_of, rows_of}
use Rattle.unroll_cnf.specs.Unrolled.{Table, no_words, put, circuit_by, circuit_in, edge_circuit, input_circuit, instant, instants, first_part, unrolled, words}
use Rattle.unroll_cnf.proofs.Edges.{SizedAt, SizedBefore}
use Rattle.unroll_cnf.proofs.Order.{StandBehind, stand_behind}
use Rattle.unroll_cnf.proofs.Runs.{put_same, put_other, Sized, reads_own, edge_size, edge_typed, edge_of_type, type_is, operands_in_edge, one_id, is_input, sized_more, instant_keeps, all_sized}
use Rattle.unroll_cnf.proofs.Typed.{value_of_bits, length-value_bits}
use Rattle.unroll_cnf.proofs.Agreement.{obeys_agree, meets_agree, bits_agree, meets_both, ordered_both}
use Rattle.unroll_cnf.proofs.Inputs.{fill, fill_keeps, fill_bits, fresh_obeys, fresh_meets, excluded_obeys, excluded_meets}
use Rattle.unroll_cnf.proofs.Placed.{PlacedBefore, placed_before_more, gates_by, ordered_by, within_by}

-- ---- assignments that extend

-- an assignment of the variables below m extends to the entries, so that something holds of it
pub record Solved (v : ℕ → Bool) (m : ℕ) (es : List Entry) (P : (ℕ → Bool) → Type 0) : Type 0 where
  pub model : ℕ → Bool
  pub agree : Agree m v model
  pub obeys : Obeys model m es
  pub meets : Meets model es
  pub holds : P model

-- the value of an input in a row
abbrev pub input_at : List Value → ℕ → Value
input_at row i = slice_index_or row i (value.Truth false)

length_fresh : (n b : ℕ) → length (fresh n b).result ≡ b
length_fresh n zero = refl
length_fresh n (suc b) = ap suc (length_fresh (suc n) b)

module _ (parts : Parts) (wide : 1 ≤ parts.width) (choices : All IsChoice parts.choices) (row : List Value) where
  -- the word of an input has the value of the row
  abbrev GivesInput : Form → Ty → List Lit → (ℕ → Bool) → Type 0
  GivesInput form ty a w = (i : ℕ) → form ≡ Input i → bits_value ty (bits w a) ≡ input_at row i

  input_solved : (v : ℕ → Bool) (m : ℕ) (x : Value) (ty : Ty) → HasType parts x ty → Solved v m (input_circuit parts m ty).entries (λ w. bits_value ty (bits w (input_circuit parts m ty).result) ≡ x)
  input_solved v m x ty h =
      let bs = value_bits parts x ty in
      let w = fill v m bs in
      let b = bits_of parts ty in
      let a = fresh m b in
      let e : bits w a.result ≡ bs = subst (λ k. bits w (fresh m k).result ≡ bs) (length-value_bits parts x ty h) (fill_bits v m bs) in
      record {
        model = w;
        agree = λ k lt. sym (fill_keeps v m bs k lt);
        obeys = fresh_obeys w m b (excluded parts ty a.result) (excluded_obeys parts w (m + b) ty a.result);
        meets = fresh_meets w m b (excluded parts ty a.result) (excluded_meets parts w x ty a.result choices h (length_fresh m b) e);
        holds = ap (bits_value ty) e ∙ value_of_bits parts x ty wide choices h;
      }

  gates_solved : (v : ℕ → Bool) (m : ℕ) (form : Form) (ty : Ty) (a : List Lit) (es : List Entry) → ((i : ℕ) → form ≡ Input i → ⊥) → AreGates m es → Solved v m es (GivesInput form ty a)
  gates_solved v m form ty a es none_in g = record {
    model = extend v m es;
    agree = λ k lt. sym (extend_keeps v m es k lt);
    obeys = extend_obeys v m es (gates_ordered m es g);
    meets = gates_meet (extend v m es) m es g;
    holds = λ i e. absurd (none_in i e);
  }

  form_solved : (v : ℕ → Bool) (m : ℕ) (form : Form) (ty : Ty) (before : Option Table) (now : Table) → 0 < m → GivesType parts form ty →
      ((o : EdgeId) → Contains (operands_now_by form) o → SizedAt parts now o) → ((o : EdgeId) → Contains (operands_now_by form) o → Within m (now o.0)) →
      ((i : ℕ) → form ≡ Input i → HasType parts (input_at row i) ty) →
      Solved v m (circuit_by parts m form ty before now).entries (GivesInput form ty (circuit_by parts m form ty before now).result)
  form_solved v m (Input i) ty before now h t s p f =
      let k = input_solved v m (input_at row i) ty (f i refl) in
      record { model = k.model; agree = k.agree; obeys = k.obeys; meets = k.meets; holds = λ j q. k.holds ∙ ap (input_at row) (let e : i ≡ j = cc in e) }
  form_solved v m (Const x) ty before now h t s p f =
      gates_solved v m (Const x) ty _ _ (λ i e. absurd (cc)) tt
  form_solved v m (One o a) ty before now h t s p f =
      gates_solved v m (One o a) ty _ _ (λ i e. absurd (cc)) (gates_by parts m (One o a) ty before now h t s p (λ i e. absurd (cc)))
  form_solved v m (Two o a c) ty before now h t s p f =
      gates_solved v m (Two o a c) ty _ _ (λ i e. absurd (cc)) (gates_by parts m (Two o a c) ty before now h t s p (λ i e. absurd (cc)))
  form_solved v m (Ite a c d) ty before now h t s p f =
      gates_solved v m (Ite a c d) ty _ _ (λ i e. absurd (cc)) (gates_by parts m (Ite a c d) ty before now h t s p (λ i e. absurd (cc)))
  form_solved v m (Arrow a c) ty before now h t s p f =
      gates_solved v m (Arrow a c) ty _ _ (λ i e. absurd (cc)) tt
  form_solved v m (Pre a) ty before now h t s p f =
      gates_solved v m (Pre a) ty _ _ (λ i e. absurd (cc)) tt

-- ---- an instant

-- the words of these edges are of variables below m
abbrev pub Placed : ℕ → List EdgeId → Table → Type 0
Placed m done now = (o : EdgeId) → Contains done o → Within m (now o.0)

pub placed_more : (m k : ℕ) (done : List EdgeId) (now : Table) → m ≤ k → Placed m done now → Placed k done now
placed_more m k done now le p = λ o i. within_more m k (now o.0) le (p o i)

pub placed_put : (m : ℕ) (done : List EdgeId) (now : Table) (e : EdgeId) (a : List Lit) → (Contains done e → ⊥) → Placed m done now → Within m a → Placed m (done ++ e ∷ []) (put now e.0 a)
placed_put m done now e a new p w o i = elim (Contains-push_cases done e o i) [
  | inr same ↦ subst (λ (x : EdgeId). Within m (put now e.0 a x.0)) same (subst (Within m) (sym (put_same now e.0 a)) w)
  | inl old ↦ subst (Within m) (sym (put_other now e.0 a o.0 (λ q. new (subst (λ (x : EdgeId). Contains done x) (one_id o e q) old)))) (p o old)
]

-- the words of the inputs in the list have the values of the row
abbrev pub GivesRow : Parts → List Value → List EdgeId → Table → (ℕ → Bool) → Type 0
GivesRow parts row order final w =
    (e : EdgeId) → Contains order e → (edge : Edge) (i : ℕ) → slice_get parts.edges e.0 ≡ Some edge → edge.op ≡ op.Input i → bits_value edge.ty (bits w (final e.0)) ≡ input_at row i

-- the values of a row are of the types of the inputs
abbrev pub RowTyped : Parts → List Value → Type 0
RowTyped parts row = (e : EdgeId) (edge : Edge) (i : ℕ) → slice_get parts.edges e.0 ≡ Some edge → edge.op ≡ op.Input i → HasType parts (input_at row i) edge.ty

module _ (parts : Parts) (valid : IsValid parts) (before : Option Table) (b : SizedBefore parts before) where
  wide : 1 ≤ parts.width
  wide = let k = valid.narrowest in omega arith

  -- an edge that can stand next
  pub record Next (m : ℕ) (now : Table) (done : List EdgeId) (e : EdgeId) : Type 0 where
    pub edge : Edge
    pub is : slice_get parts.edges e.0 ≡ Some edge
    pub at : edge_circuit parts m e before now ≡ circuit_by parts m (form_of edge.op) edge.ty before now
    pub typed : GivesType parts (form_of edge.op) edge.ty
    pub sizes : (o : EdgeId) → Contains (operands_now_by (form_of edge.op)) o → SizedAt parts now o
    pub inside : (o : EdgeId) → Contains (operands_now_by (form_of edge.op)) o → Within m (now o.0)

  pub some_edge : (i : ℕ) (o : Option Edge) → slice_get parts.edges i ≡ o → i < length parts.edges → (edge : Edge) × (slice_get parts.edges i ≡ Some edge)
  some_edge i (Some edge) is lt = (edge, is)
  some_edge i None is lt = absurd (none_there parts.edges i is lt)
    where
      none_there : (xs : List Edge) (i : ℕ) → slice_get xs i ≡ None → i < length xs → ⊥
      none_there [] i is lt = omega arith
      none_there (x ∷ xs) zero is lt = cc
      none_there (x ∷ xs) (suc i) is lt = none_there xs i is (omega arith)

  pub next_of : (m : ℕ) (now : Table) (done : List EdgeId) (e : EdgeId) → CanStand parts.edges done e → Sized parts done now → Placed m done now → Next m now done e
  next_of m now done e c s p =
      let x = some_edge e.0 (slice_get parts.edges e.0) refl c.within in
      let ready : (k : EdgeId) → Contains (operands_now_in (Some x.0)) k → Contains done k = λ k i. c.operands k (subst (λ (l : List EdgeId). Contains l k) (sym (operands_in_edge parts.edges e k x.0 x.1)) i) in
      record {
        edge = x.0;
        is = x.1;
        at = ap (λ (y : Option Edge). circuit_in parts m y before now) x.1;
        typed = edge_typed parts valid e.0 x.0 x.1;
        sizes = λ o i. s o (ready o i);
        inside = λ o i. p o (ready o i);
      }

  edge_ordered : (m : ℕ) (now : Table) (done : List EdgeId) (e : EdgeId) → 0 < m → Next m now done e → circuit.IsOrdered m (edge_circuit parts m e before now).entries
  edge_ordered m now done e h n = subst (λ (y : Circuit (List Lit)). circuit.IsOrdered m y.entries) (sym n.at) (ordered_by parts m (form_of n.edge.op) n.edge.ty before now h n.typed n.sizes n.inside)

  pub edge_within : (m : ℕ) (now : Table) (done : List EdgeId) (e : EdgeId) → 0 < m → PlacedBefore parts m before → Next m now done e → Within (after m (edge_circuit parts m e before now).entries) (edge_circuit parts m e before now).result
  edge_within m now done e h q n = subst (λ (y : Circuit (List Lit)). Within (after m y.entries) y.result) (sym n.at) (within_by parts m (form_of n.edge.op) n.edge.ty before now h wide n.typed n.sizes n.inside q)

  pub instant_ordered : (m : ℕ) (now : Table) (done order : List EdgeId) → 0 < m → StandBehind parts.edges done order → Sized parts done now → Placed m done now → PlacedBefore parts m before →
      circuit.IsOrdered m (instant parts before m now order).entries × Placed (after m (instant parts before m now order).entries) (done ++ order) (instant parts before m now order).result
  instant_ordered m now done [] h c s p q = (tt, λ o i. elim (Contains-append_nil done o i) [ inl k ↦ p o k | inr k ↦ absurd k ])
    where
      Contains-append_nil : (done : List EdgeId) (o : EdgeId) → Contains (done ++ []) o → Contains done o ⊎ ⊥
      Contains-append_nil [] o i = inl i
      Contains-append_nil (d ∷ done) o i = elim (places o d (done ++ []) i) [
        | inl same ↦ inl (first o d done same)
        | inr k ↦ elim (Contains-append_nil done o k) [ inl l ↦ inl (later o d done l) | inr l ↦ inr l ]
      ]
  instant_ordered m now done (e ∷ order) h c s p q =
      let one = edge_circuit parts m e before now in
      let m1 = after m one.entries in
      let more = after_more m one.entries in
      let rest = instant parts before m1 (put now e.0 one.result) order in
      let n = next_of m now done e c.0 s p in
      let r = instant_ordered m1 (put now e.0 one.result) (done ++ e ∷ []) order (omega arith) c.1
      (sized_more parts done now e one.result c.0.new s (edge_size parts valid m before now done e c.0 s b))
      (placed_put m1 done now e one.result c.0.new (placed_more m m1 done now more p) (edge_within m now done e h q n))
      (placed_before_more parts m m1 before more q) in (
        ordered_both m one.entries rest.entries (edge_ordered m now done e h n) r.0,
        subst (λ x. Placed x (done ++ e ∷ order) rest.result) (sym (after-append m one.entries rest.entries))
            (subst (λ (l : List EdgeId). Placed (after m1 rest.entries) l rest.result) (append_assoc done (e ∷ []) order) r.1),
      )

  edge_solved : (row : List Value) (v : ℕ → Bool) (m : ℕ) (now : Table) (done : List EdgeId) (e : EdgeId) → 0 < m → RowTyped parts row → (n : Next m now done e) →
      Solved v m (edge_circuit parts m e before now).entries (GivesInput parts wide valid.choices row (form_of n.edge.op) n.edge.ty (edge_circuit parts m e before now).result)
  edge_solved row v m now done e h f n =
      subst (λ (y : Circuit (List Lit)). Solved v m y.entries (GivesInput parts wide valid.choices row (form_of n.edge.op) n.edge.ty y.result)) (sym n.at)
      (form_solved parts wide valid.choices row v m (form_of n.edge.op) n.edge.ty before now h n.typed n.sizes n.inside (λ i k. f e n.edge i n.is (is_input n.edge.op i k)))

  pub instant_solved : (row : List Value) (v : ℕ → Bool) (m : ℕ) (now : Table) (done order : List EdgeId) → 0 < m → RowTyped parts row → StandBehind parts.edges done order → Sized parts done now → Placed m done now → PlacedBefore parts m before →
      Solved v m (instant parts before m now order).entries (GivesRow parts row order (instant parts before m now order).result)
  instant_solved row v m now done [] h f c s p q = record { model = v; agree = λ k lt. refl; obeys = tt; meets = tt; holds = λ e i. none e i }
  instant_solved row v m now done (d ∷ order) h f c s p q =
      let one = edge_circuit parts m d before now in
      let m1 = after m one.entries in
      let more = after_more m one.entries in
      let rest = instant parts before m1 (put now d.0 one.result) order in
      let n = next_of m now done d c.0 s p in
      let place = edge_within m now done d h q n in
      let x = edge_solved row v m now done d h f n in
      let y = instant_solved row x.model m1 (put now d.0 one.result) (done ++ d ∷ []) order (omega arith) f c.1
      (sized_more parts done now d one.result c.0.new s (edge_size parts valid m before now done d c.0 s b))
      (placed_put m1 done now d one.result c.0.new (placed_more m m1 done now more p) place)
      (placed_before_more parts m m1 before more q) in
      let o = edge_ordered m now done d h n in
      let own : rest.result d.0 ≡ one.result = instant_keeps parts before m1 (put now d.0 one.result) (done ++ d ∷ []) order d c.1 (Contains-push done d) ∙ put_same now d.0 one.result in
      record {
        model = y.model;
        agree = λ k lt. x.agree k lt ∙ y.agree k (omega arith);
        obeys = obeys_both y.model m one.entries rest.entries (obeys_agree m x.model y.model one.entries o y.agree x.obeys) y.obeys;
        meets = meets_both y.model one.entries rest.entries (meets_agree m x.model y.model one.entries o y.agree x.meets) y.meets;
        holds = λ e i edge j is input. elim (places e d order i) [
          | inr k ↦ y.holds e k edge j is input
          | inl same ↦
              let at_d : slice_get parts.edges d.0 ≡ Some edge = subst (λ (z : EdgeId). slice_get parts.edges z.0 ≡ Some edge) (sym same) is in
              let one_edge : n.edge ≡ edge = let k = n.is in cc in
              ap (λ (z : EdgeId). bits_value edge.ty (bits y.model (rest.result z.0))) (sym same)
              ∙ (ap (λ (a : List Lit). bits_value edge.ty (bits y.model a)) own
              ∙ (ap (bits_value edge.ty) (sym (bits_agree m1 x.model y.model one.result place y.agree))
              ∙ (ap (λ (z : Edge). bits_value z.ty (bits x.model one.result)) (sym one_edge)
              ∙ x.holds j (ap (λ (z : Edge). form_of z.op) one_edge ∙ ap form_of input))))
        ];
      }

-- ---- all instants

-- the words of the inputs have the values of the rows
abbrev pub InputsAre : (parts : Parts) → List EdgeId → List Table → List (List Value) → (ℕ → Bool) → Type 0
InputsAre parts order [] [] w = Unit {0}
InputsAre parts order [] (row ∷ rows) w = ⊥
InputsAre parts order (table ∷ tables) [] w = ⊥
InputsAre parts order (table ∷ tables) (row ∷ rows) w = GivesRow parts row order table w × InputsAre parts order tables rows w

abbrev pub RowsFit : Parts → List (List Value) → Type 0
RowsFit parts [] = Unit {0}
RowsFit parts (row ∷ rows) = RowTyped parts row × RowsFit parts rows

instants_solved : (parts : Parts) → IsValid parts → (order : List EdgeId) → IsSequence parts.edges order → (before : Option Table) → SizedBefore parts before → (m : ℕ) (rows : List (List Value)) (v : ℕ → Bool) → 0 < m → PlacedBefore parts m before → RowsFit parts rows →
    Solved v m (instants parts order before m (length rows)).entries (InputsAre parts order (instants parts order before m (length rows)).result rows)
instants_solved parts valid order z before b m [] v h q f = record { model = v; agree = λ k lt. refl; obeys = tt; meets = tt; holds = tt }
instants_solved parts valid order z before b m (row ∷ rows) v h q f =
    let one = instant parts before m no_words order in
    let m1 = after m one.entries in
    let more = after_more m one.entries in
    let rest = instants parts order (Some one.result) m1 (length rows) in
    let c = stand_behind parts.edges [] order (causal_of parts.edges order z.least) in
    let blank : Sized parts [] no_words = λ o i. none o i in
    let nowhere : Placed m [] no_words = λ o i. none o i in
    let o = instant_ordered parts valid before b m no_words [] order h c blank nowhere q in
    let sized = all_sized parts valid before m order z b in
    let placed : PlacedBefore parts m1 (Some one.result) = λ e a t.
    let x = edge_of_type parts.edges e.0 (slice_get parts.edges e.0) a refl t in
    o.1 e (z.full e (slice_get_within parts.edges e.0 x.0 x.1)) in
    let x = instant_solved parts valid before b row v m no_words [] order h f.0 c blank nowhere q in
    let y = instants_solved parts valid order z (Some one.result) sized m1 rows x.model (omega arith) placed f.1 in
    record {
      model = y.model;
      agree = λ k lt. x.agree k lt ∙ y.agree k (omega arith);
      obeys = obeys_both y.model m one.entries rest.entries (obeys_agree m x.model y.model one.entries o.0 y.agree x.obeys) y.obeys;
      meets = meets_both y.model one.entries rest.entries (meets_agree m x.model y.model one.entries o.0 y.agree x.meets) y.meets;
      holds = (
        (λ e i edge j is input.
            ap (bits_value edge.ty) (sym (bits_agree m1 x.model y.model (one.result e.0) (o.1 e i) y.agree)) ∙ x.holds e i edge j is input),
        y.holds,
      );
    }

-- ---- rows of values

map_get : (f : EdgeId → Value) (xs : List EdgeId) (i : ℕ) (e : EdgeId) → slice_get xs i ≡ Some e → slice_get (map f xs) i ≡ Some (f e)
map_get f [] i e is = absurd (cc)
map_get f (x ∷ xs) zero e is = let k : x ≡ e = cc in ap (λ (y : EdgeId). Some (f y)) k
map_get f (x ∷ xs) (suc i) e is = map_get f xs i e is

length_map : (f : EdgeId → Value) (xs : List EdgeId) → length (map f xs) ≡ length xs
length_map f [] = refl
length_map f (x ∷ xs) = ap suc (length_map f xs)

there : {A : Type 0} (xs : List A) (i : ℕ) → i < length xs → (x : A) × (slice_get xs i ≡ Some x)
there [] i lt = absurd (omega (arith, lt))
there (x ∷ xs) zero lt = (x, refl)
there (x ∷ xs) (suc i) lt = there xs i (omega (arith, lt))

op_there : (edges : List Edge) (i j : ℕ) (o : Option Edge) → slice_get edges i ≡ o → option_map (λ (edge : Edge). edge.op) o ≡ Some (op.Input j) → (edge : Edge) × (slice_get edges i ≡ Some edge) × (edge.op ≡ op.Input j)
op_there edges i j None is h = absurd (cc)
op_there edges i j (Some edge) is h = (edge, is, (let e : edge.op ≡ op.Input j = cc in e))

row_typed : (parts : Parts) → IsValid parts → (row : List Value) → FitsRow parts row → RowTyped parts row
row_typed parts valid row f e edge i is input =
    let at = valid.inputs.all e.0 edge is i input in
    let lt = slice_get_within parts.inputs i e at in
    let x = there row i (omega (arith, lt, f.0)) in
    subst (λ (y : Value). HasType parts y edge.ty) (sym (get_or_from_slice_get row i x.0 (value.Truth false) x.1)) (f.1 i e x.0 at x.1 edge.ty (type_is parts.edges e edge is))

rows_typed : (parts : Parts) → IsValid parts → (rows : List (List Value)) → All (FitsRow parts) rows → RowsFit parts rows
rows_typed parts valid [] f = tt
rows_typed parts valid (row ∷ rows) f = (row_typed parts valid row (All-head (FitsRow parts) row rows f), rows_typed parts valid rows (All-tail (FitsRow parts) row rows f))

row_same : (parts : Parts) → IsValid parts → (order : List EdgeId) → IsSequence parts.edges order → (table : Table) (row : List Value) (w : ℕ → Bool) → FitsRow parts row → GivesRow parts row order table w → row_of parts w table ≡ row
row_same parts valid order z table row w f g =
    same_list (row_of parts w table) row (length_map _ parts.inputs ∙ sym f.0) (λ i lt.
    let e = there parts.inputs i (omega (arith, lt, length_map (at_edge (frame_of parts w table)) parts.inputs)) in
    let x = there row i (omega (arith, lt, length_map (at_edge (frame_of parts w table)) parts.inputs, f.0)) in
    let d = op_there parts.edges e.0.0 i (slice_get parts.edges e.0.0) refl (valid.inputs.numbered i e.0 e.1) in
    map_get (at_edge (frame_of parts w table)) parts.inputs i e.0 e.1
    ∙ (ap Some (reads_own parts w table e.0 d.0.ty (type_is parts.edges e.0 d.0 d.1)
    ∙ (g e.0 (z.full e.0 (slice_get_within parts.edges e.0.0 d.0 d.1)) d.0 i d.1 d.2
    ∙ get_or_from_slice_get row i x.0 (value.Truth false) x.1))
    ∙ sym x.1))

rows_same : (parts : Parts) → IsValid parts → (order : List EdgeId) → IsSequence parts.edges order → (tables : List Table) (rows : List (List Value)) (w : ℕ → Bool) → All (FitsRow parts) rows → InputsAre parts order tables rows w → rows_of parts w tables ≡ rows
rows_same parts valid order z [] [] w f g = refl
rows_same parts valid order z [] (row ∷ rows) w f g = absurd g
rows_same parts valid order z (table ∷ tables) [] w f g = absurd g
rows_same parts valid order z (table ∷ tables) (row ∷ rows) w f g =
    ap₂ (λ (x : List Value) (y : List (List Value)). x ∷ y) (row_same parts valid order z table row w (All-head (FitsRow parts) row rows f) g.0)
    (rows_same parts valid order z tables rows w (All-tail (FitsRow parts) row rows f) g.1)

truth_true : (v : ℕ → Bool) → v 0 ≡ true → holds v (yes 0 ∷ []) ≡ true
truth_true v e = or_left (truth v (yes 0)) false (truth-yes v 0 ∙ e)

-- For each list of rows that fit there is an assignment that satisfies the formula and gives the inputs these values.
pub rows_have_models : (parts : Parts) (order : List EdgeId) (rows : List (List Value)) → IsValid parts → IsSequence parts.edges order → All (FitsRow parts) rows →
    (v : ℕ → Bool) × Satisfies v (unrolled parts order (length rows)) × (rows_of parts v (words parts order (length rows)) ≡ rows)
rows_have_models parts order rows valid z f =
    let s = instants_solved parts valid order z None tt 1 rows (λ k. true) (omega arith) tt (rows_typed parts valid rows f) in
    let y : s.model 0 ≡ true = sym (s.agree 0 (omega arith)) in (
      s.model,
      satisfied_by s.model (shape 0 []) (first_part parts order (length rows)).entries
          (record { front = refl; obeys = (refl, (refl, s.obeys)); meets = (truth_true s.model y, s.meets) }),
      rows_same parts valid order z (words parts order (length rows)) rows s.model f s.holds,
    )
