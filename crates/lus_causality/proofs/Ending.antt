-- What is taken where no edge is free: all edges, or there is a cycle.
use Rattle.std.proofs.Common.{◌≡◌, ◌⊎◌, inl, inr, ⊎_elim, ℕ, suc, zero, ◌+◌, ◌<◌, ◌≤◌, Bool, true, false, List, [], ◌∷◌, length, get_or, refl, sym, ap, ◌∙◌, subst, arith}
use Rattle.std.proofs.lemmas.Bool.{cases_eq, cases_Bool}
use Rattle.std.proofs.lemmas.Option.{slice_get_within}
use Rattle.std.specs.Prelude.{Option, Some, None, slice_get}
use Rattle.std.specs.List.{Contains}
use Rattle.op_network.specs.declared.edge.EdgeId.{EdgeId}
use Rattle.op_network.specs.declared.edge.Edge.{Edge}
use Rattle.op_network.specs.declared.edge.Parts.{Parts}
use Rattle.op_network.specs.declared.form.Form.{Form}
use Rattle.op_network.specs.declared.form.Form.TheVariants.{Input, Const, One, Two, Ite, Arrow, Pre}
use Rattle.op_network.specs.declared.form.Unary.{Unary}
use Rattle.op_network.specs.declared.form.Binary.{Binary}
use Rattle.op_network.specs.declared.value.Ty.{Ty}
use Rattle.op_network.specs.Valid.{IsValid, IsWellTyped, GivesType, type_of, unary_type_of, binary_type_of, if_type_of, arrow_type_of}
use Rattle.op_network.specs.Operators.{form_of, operands_by}
use Rattle.lus_causality.specs.declared.sequence.Taken.{Taken}
use Rattle.lus_causality.specs.Causality.{is_pre, unless, operands_now, operands_now_in, Leads, IsSequence, HasNoCycle}
use Rattle.lus_causality.specs.Marks.{IsMarked, AreMarked, IsUnmarked, AreAllMarked, AreMarkedBelow}
use Rattle.lus_causality.specs.Search.{IsCyclic}
use Rattle.lus_causality.specs.Taking.{IsStuck}
use Rattle.lus_causality.proofs.Places.{first as at_first, later, none, parts}
use Rattle.lus_causality.proofs.Cycles.{some_cycle, from_any}
use Rattle.lus_causality.proofs.Causal.{causal_of, off_cycle}

-- the operands of a valid network's edges are edges
pub typed_within : (edges : List Edge) (a : EdgeId) (ty : Ty) → type_of edges a ≡ Some ty → a.0 < length edges
typed_within edges a ty h = go (slice_get edges a.0) refl h
  where
    go : (o : Option Edge) → slice_get edges a.0 ≡ o → type_of edges a ≡ Some ty → a.0 < length edges
    go None is h = absurd (cc)
    go (Some edge) is h = slice_get_within edges a.0 edge is

one_of : (n : ℕ) (a o : EdgeId) → a.0 < n → Contains (a ∷ []) o → o.0 < n
one_of n a o lt i = ⊎_elim (λ same. subst (λ (x : EdgeId). x.0 < n) same lt) (λ k. none o k) (parts o a [] i)

two_of : (n : ℕ) (a b o : EdgeId) → a.0 < n → b.0 < n → Contains (a ∷ b ∷ []) o → o.0 < n
two_of n a b o lt lt' i = ⊎_elim (λ same. subst (λ (x : EdgeId). x.0 < n) same lt) (λ k. one_of n b o lt' k) (parts o a (b ∷ []) i)

three_of : (n : ℕ) (a b c o : EdgeId) → a.0 < n → b.0 < n → c.0 < n → Contains (a ∷ b ∷ c ∷ []) o → o.0 < n
three_of n a b c o lt lt' lt'' i = ⊎_elim (λ same. subst (λ (x : EdgeId). x.0 < n) same lt) (λ k. two_of n b c o lt' lt'' k) (parts o a (b ∷ c ∷ []) i)

-- what has operands has types at its operands
pub unary_typed : (o : Unary) (x : Option Ty) (ty : Ty) → unary_type_of o x ≡ Some ty → (t : Ty) × (x ≡ Some t)
unary_typed o None ty h = absurd (cc)
unary_typed o (Some t) ty h = (t, refl)

pub binary_typed : (o : Binary) (x y : Option Ty) (ty : Ty) → binary_type_of o x y ≡ Some ty → ((t : Ty) × (x ≡ Some t)) × ((t : Ty) × (y ≡ Some t))
binary_typed o None y ty h = absurd (cc)
binary_typed o (Some t) None ty h = absurd (cc)
binary_typed o (Some t) (Some u) ty h = ((t, refl), (u, refl))

pub arrow_typed : (x y : Option Ty) (ty : Ty) → arrow_type_of x y ≡ Some ty → ((t : Ty) × (x ≡ Some t)) × ((t : Ty) × (y ≡ Some t))
arrow_typed None y ty h = absurd (cc)
arrow_typed (Some t) None ty h = absurd (cc)
arrow_typed (Some t) (Some u) ty h = ((t, refl), (u, refl))

pub if_typed : (x y z : Option Ty) (ty : Ty) → if_type_of x y z ≡ Some ty → ((t : Ty) × (x ≡ Some t)) × ((t : Ty) × (y ≡ Some t)) × ((t : Ty) × (z ≡ Some t))
if_typed None y z ty h = absurd (cc)
if_typed (Some t) None z ty h = absurd (cc)
if_typed (Some t) (Some u) None ty h = absurd (cc)
if_typed (Some t) (Some u) (Some v) ty h = ((t, refl), (u, refl), (v, refl))

operand_within : (parts : Parts) (form : Form) (ty : Ty) → GivesType parts form ty → (o : EdgeId) → Contains (operands_by form) o → o.0 < length parts.edges
operand_within parts (Input i) ty h o k = none o k
operand_within parts (Const v) ty h o k = none o k
operand_within parts (One op a) ty h o k =
    let t = unary_typed op (type_of parts.edges a) ty h in
    one_of (length parts.edges) a o (typed_within parts.edges a t.0 t.1) k
operand_within parts (Two op a b) ty h o k =
    let t = binary_typed op (type_of parts.edges a) (type_of parts.edges b) ty h in
    two_of (length parts.edges) a b o (typed_within parts.edges a t.0.0 t.0.1) (typed_within parts.edges b t.1.0 t.1.1) k
operand_within parts (Ite a b c) ty h o k =
    let t = if_typed (type_of parts.edges a) (type_of parts.edges b) (type_of parts.edges c) ty h in
    three_of (length parts.edges) a b c o (typed_within parts.edges a t.0.0 t.0.1) (typed_within parts.edges b t.1.0 t.1.1) (typed_within parts.edges c t.2.0 t.2.1) k
operand_within parts (Arrow a b) ty h o k =
    let t = arrow_typed (type_of parts.edges a) (type_of parts.edges b) ty h in
    two_of (length parts.edges) a b o (typed_within parts.edges a t.0.0 t.0.1) (typed_within parts.edges b t.1.0 t.1.1) k
operand_within parts (Pre a) ty h o k = one_of (length parts.edges) a o (typed_within parts.edges a ty h) k

kept_operand : (b : Bool) (ops : List EdgeId) (o : EdgeId) → Contains (unless b ops) o → Contains ops o
kept_operand true ops o i = none o i
kept_operand false ops o i = i

at_edge : (edges : List Edge) (e : ℕ) (edge : Edge) → slice_get edges e ≡ Some edge → get_or edges e edge ≡ edge
at_edge [] e edge is = absurd (cc)
at_edge (x ∷ edges) zero edge is = cc
at_edge (x ∷ edges) (suc e) edge is = at_edge edges e edge is

pub operands_within : (parts : Parts) → IsValid parts → (e o : EdgeId) → Contains (operands_now parts.edges e) o → o.0 < length parts.edges
operands_within parts valid e o i = go (slice_get parts.edges e.0) refl i
  where
    go : (edge : Option Edge) → slice_get parts.edges e.0 ≡ edge → Contains (operands_now_in edge) o → o.0 < length parts.edges
    go None is i = none o i
    go (Some edge) is i =
        let lt = slice_get_within parts.edges e.0 edge is in
        let typed = subst (λ (x : Edge). IsWellTyped parts x.op x.ty) (at_edge parts.edges e.0 edge is) (valid.typed e.0 edge lt) in
        operand_within parts (form_of edge.op) edge.ty typed o (kept_operand (is_pre (form_of edge.op)) (operands_by (form_of edge.op)) o i)

-- an edge with an operand is an edge
reader_within : (edges : List Edge) (e o : EdgeId) → Contains (operands_now edges e) o → e.0 < length edges
reader_within edges e o i = go (slice_get edges e.0) refl i
  where
    go : (edge : Option Edge) → slice_get edges e.0 ≡ edge → Contains (operands_now_in edge) o → e.0 < length edges
    go None is i = none o i
    go (Some edge) is i = slice_get_within edges e.0 edge is

led_within : (edges : List Edge) (a : EdgeId) (way : List EdgeId) (b : EdgeId) → Leads edges a way b → b.0 < length edges
led_within edges a [] b h = reader_within edges b a h
led_within edges a (c ∷ way) b h = led_within edges c way b h.1

pub has_no_cycle : (edges : List Edge) (sequence : List EdgeId) → IsSequence edges sequence → HasNoCycle edges
has_no_cycle edges sequence is = record {
  none = λ e lies.
      let w = from_any edges e lies in
      off_cycle edges sequence (causal_of edges sequence is.least) e (is.full e (led_within edges e w.0 e w.1)) lies;
}

pub none_marked_yet : (marks : List Bool) → AreMarkedBelow marks 0
none_marked_yet marks = record { each = λ e lt. absurd (omega (arith, lt)) }

pub one_marked_more : (marks : List Bool) (k : ℕ) → get_or marks k false ≡ true → AreMarkedBelow marks k → AreMarkedBelow marks (k + 1)
one_marked_more marks k m h = record { each = λ e lt. ⊎_elim (λ same. ap (λ n. get_or marks n false) same ∙ m) (λ apart. h.each e (omega (arith, lt, apart))) (cases_eq e.0 k) }

pub all_are_marked : (marks : List Bool) (k : ℕ) → length marks ≤ k → AreMarkedBelow marks k → AreAllMarked marks
all_are_marked marks k full h = record { each = λ e lt. h.each e (omega (arith, lt, full)) }

-- all are taken
pub is_full : (edges : List Edge) (taken : Taken) → IsStuck edges taken → AreAllMarked taken.marks → IsSequence edges taken.sequence
is_full edges taken h all = record { least = h.list.least; full = λ e lt. h.list.taken_at e (all.each e (subst (λ n. e.0 < n) (sym h.list.size) lt)) }

-- an operand that is not marked, if not all are
pub unmarked_one : (ops : List EdgeId) (marks : List Bool) → AreMarked ops marks ⊎ ((o : EdgeId) × Contains ops o × (get_or marks o.0 false ≡ false))
unmarked_one [] marks = inl (record { each = λ o i. none o i })
unmarked_one (x ∷ ops) marks = cases (cases_Bool (get_or marks x.0 false)) (unmarked_one ops marks)
  where
    both : IsMarked marks x → AreMarked ops marks → (o : EdgeId) → Contains (x ∷ ops) o → IsMarked marks o
    both m rest o i = ⊎_elim (λ same. subst (IsMarked marks) same m) (λ k. rest.each o k) (parts o x ops i)

    cases : (get_or marks x.0 false ≡ true) ⊎ (get_or marks x.0 false ≡ false) → AreMarked ops marks ⊎ ((o : EdgeId) × Contains ops o × (get_or marks o.0 false ≡ false)) → AreMarked (x ∷ ops) marks ⊎ ((o : EdgeId) × Contains (x ∷ ops) o × (get_or marks o.0 false ≡ false))
    cases (inr u) rest = inr (x, at_first x x ops refl, u)
    cases (inl m) (inl rest) = inl (record { each = both m rest })
    cases (inl m) (inr k) = inr (k.0, later k.0 x ops k.1, k.2)

abbrev pub IsLeft : List Edge → List Bool → EdgeId → Type 0
IsLeft edges marks e = (e.0 < length edges) × (get_or marks e.0 false ≡ false)

-- Where no edge is free and one is left, there is a cycle.
pub is_cyclic : (parts : Parts) (taken : Taken) (e : ℕ) → IsValid parts → IsStuck parts.edges taken → IsUnmarked taken.marks e → IsCyclic parts.edges
is_cyclic parts taken e valid h left =
    let k = some_cycle parts.edges (length parts.edges) (IsLeft parts.edges taken.marks) (λ e l. l.0) more (record { 0 = e }) (subst (λ n. e < n) h.list.size left.within, left.unmarked) in
    record { edge = k.0; within = k.1.0; lies = k.2 }
  where
    more : (e : EdgeId) → IsLeft parts.edges taken.marks e → (o : EdgeId) × Contains (operands_now parts.edges e) o × IsLeft parts.edges taken.marks o
    more e l = ⊎_elim
        (λ all. absurd (h.none e (record { within = l.0; unmarked = l.1; operands = all })))
        (λ k. (k.0, k.1, (operands_within parts valid e k.0 k.1, k.2)))
        (unmarked_one (operands_now parts.edges e) taken.marks)
