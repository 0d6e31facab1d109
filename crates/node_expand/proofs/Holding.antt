-- Networks over streams: the stream of each edge is that of its operator.
use Rattle.std.proofs.Common.{Bool, List, Some, [], ap, ap₂, arith, drop, length, map, refl, replicate, subst, suc, sym, ℕ, ◌++◌, ◌+◌, ◌∙◌, ◌∷◌, ◌≡◌}
use Rattle.lus_syntax.specs.declared.ast.BinOp.{BinOp}
use Rattle.lus_syntax.specs.declared.ast.UnOp.{UnOp}
use Rattle.lus_types.specs.Names.{Name}
use Rattle.lus_types.specs.Programs.{Variable}
use Rattle.lus_types.specs.Types.{ordinary_binary, ordinary_unary}
use Rattle.op_network.specs.Operators.{binary_value, form_of, if_value, unary_value}
use Rattle.op_network.specs.Values.{default}
use Rattle.op_network.specs.declared.edge.Edge.{Edge}
use Rattle.op_network.specs.declared.edge.EdgeId.{EdgeId}
use Rattle.op_network.specs.declared.edge.Op.{Op}
use Rattle.op_network.specs.declared.form.Binary.{Binary}
use Rattle.op_network.specs.declared.form.Form.{Form}
use Rattle.op_network.specs.declared.form.Form.TheVariants.{Arrow, Const, Input, Ite, One, Pre, Two}
use Rattle.op_network.specs.declared.form.Unary.{Unary}
use Rattle.op_network.specs.declared.value.Ty.{Ty}
use Rattle.op_network.specs.declared.value.Value.{Value}
use Rattle.node_expand.specs.Fragments.{Gate, edge}
use Rattle.node_expand.specs.Instances.{id_edges, own_edges, places_from}
use Rattle.node_expand.specs.Operators.{binary_op, op_of_one, op_of_two, unary_op}
use Rattle.node_expand.specs.Law.{stream_in}
use Rattle.node_expand.specs.Streams.{Stream, arrow_stream, binary_stream, pre_stream, rows_of, ternary_stream}
use Rattle.op_network.specs.declared.form.Unary.TheVariants as one_form
use Rattle.op_network.specs.declared.form.Binary.TheVariants as two_form

-- the streams of edges, by their places
abbrev pub Columns : Type 0
Columns = ℕ → Stream

-- the values at one place of each row
abbrev pub column : ℕ → List (List Value) → Stream
column place table = stream_in table (edge place)

pub unary_form : (o : Unary) (a : EdgeId) → form_of (unary_op o a) ≡ One o a
unary_form one_form.Id a = refl
unary_form one_form.Not a = refl
unary_form one_form.Neg a = refl

pub binary_form : (o : Binary) (a b : EdgeId) → form_of (binary_op o a b) ≡ Two o a b
binary_form two_form.And a b = refl
binary_form two_form.Or a b = refl
binary_form two_form.Xor a b = refl
binary_form two_form.Imp a b = refl
binary_form two_form.Eq a b = refl
binary_form two_form.Ne a b = refl
binary_form two_form.Lt a b = refl
binary_form two_form.Le a b = refl
binary_form two_form.Gt a b = refl
binary_form two_form.Ge a b = refl
binary_form two_form.Add a b = refl
binary_form two_form.Sub a b = refl
binary_form two_form.Mul a b = refl

-- an `Id` keeps the stream
pub id_stream : (width : ℕ) (s : Stream) → map (unary_value width one_form.Id) s ≡ s
id_stream width [] = refl
id_stream width (v ∷ s) = ap (λ r. v ∷ r) (id_stream width s)

-- over n instants and these inputs, the stream of an operator over those of its operands
module _ (width n : ℕ) (ins : List Stream) (col : Columns) where
  abbrev pub form_stream : Form → Ty → Stream
  form_stream (Input i) ty = column i (rows_of n ins)
  form_stream (Const v) ty = replicate n v
  form_stream (One o a) ty = map (unary_value width o) (col a.0)
  form_stream (Two o a b) ty = binary_stream (binary_value width o) (col a.0) (col b.0)
  form_stream (Ite a b c) ty = ternary_stream if_value (col a.0) (col b.0) (col c.0)
  form_stream (Arrow a b) ty = arrow_stream (col a.0) (col b.0)
  form_stream (Pre a) ty = pre_stream (default ty) (col a.0)

  abbrev pub op_stream : Op → Ty → Stream
  op_stream o ty = form_stream (form_of o) ty

  -- the edges that begin at a place have the streams of their operators
  abbrev pub Hold : ℕ → List Edge → Type 0
  Hold at [] = Unit {0}
  Hold at (e ∷ edges) = (col at ≡ op_stream e.op e.ty) × Hold (suc at) edges

  abbrev pub HoldGates : ℕ → List Gate → Type 0
  HoldGates at [] = Unit {0}
  HoldGates at (g ∷ gates) = (col at ≡ op_stream g.op g.ty) × HoldGates (suc at) gates

  pub unary_gate : (op : UnOp) (o : Unary) (ty : Ty) (a : ℕ) → ordinary_unary op ≡ Some o
      → op_stream (op_of_one (ordinary_unary op) (edge a)) ty ≡ map (unary_value width o) (col a)
  unary_gate op o ty a is = ap (λ c. op_stream (op_of_one c (edge a)) ty) is ∙ ap (λ f. form_stream f ty) (unary_form o (edge a))

  pub binary_gate : (op : BinOp) (o : Binary) (ty : Ty) (a b : ℕ) → ordinary_binary op ≡ Some o
      → op_stream (op_of_two (ordinary_binary op) (edge a) (edge b)) ty ≡ binary_stream (binary_value width o) (col a) (col b)
  binary_gate op o ty a b is = ap (λ c. op_stream (op_of_two c (edge a) (edge b)) ty) is
      ∙ ap (λ f. form_stream f ty) (binary_form o (edge a) (edge b))

  pub hold_at : (xs : List Edge) {i j : ℕ} → i ≡ j → Hold i xs → Hold j xs
  hold_at xs e h = subst (λ i. Hold i xs) e h

  pub hold_left : (at : ℕ) (xs ys : List Edge) → Hold at (xs ++ ys) → Hold at xs
  hold_left at [] ys h = tt
  hold_left at (x ∷ xs) ys h = (h.0, hold_left (suc at) xs ys h.1)

  pub hold_right : (at : ℕ) (xs ys : List Edge) → Hold at (xs ++ ys) → Hold (at + length xs) ys
  hold_right at [] ys h = hold_at ys (omega arith) h
  hold_right at (x ∷ xs) ys h = hold_at ys (omega arith) (hold_right (suc at) xs ys h.1)

  pub hold_append : (at : ℕ) (xs ys : List Edge) → Hold at xs → Hold (at + length xs) ys → Hold at (xs ++ ys)
  hold_append at [] ys h k = hold_at ys (omega arith) k
  hold_append at (x ∷ xs) ys h k = (h.0, hold_append (suc at) xs ys h.1 (hold_at ys (omega arith) k))

  pub gates_at : (xs : List Gate) {i j : ℕ} → i ≡ j → HoldGates i xs → HoldGates j xs
  gates_at xs e h = subst (λ i. HoldGates i xs) e h

  pub gates_left : (at : ℕ) (xs ys : List Gate) → HoldGates at (xs ++ ys) → HoldGates at xs
  gates_left at [] ys h = tt
  gates_left at (x ∷ xs) ys h = (h.0, gates_left (suc at) xs ys h.1)

  pub gates_right : (at : ℕ) (xs ys : List Gate) → HoldGates at (xs ++ ys) → HoldGates (at + length xs) ys
  gates_right at [] ys h = gates_at ys (omega arith) h
  gates_right at (x ∷ xs) ys h = gates_at ys (omega arith) (gates_right (suc at) xs ys h.1)

  pub gates_append : (at : ℕ) (xs ys : List Gate) → HoldGates at xs → HoldGates (at + length xs) ys → HoldGates at (xs ++ ys)
  gates_append at [] ys h k = gates_at ys (omega arith) k
  gates_append at (x ∷ xs) ys h k = (h.0, gates_append (suc at) xs ys h.1 (gates_at ys (omega arith) k))

  -- own edges are their gates
  pub gates_of_own : (x : Name) (marked : Bool) (k at : ℕ) (gates : List Gate) → Hold at (own_edges x marked k gates) → HoldGates at gates
  gates_of_own x marked k at [] h = tt
  gates_of_own x marked k at (g ∷ gates) h = (h.0, gates_of_own x marked (suc k) (suc at) gates h.1)

  pub own_of_gates : (x : Name) (marked : Bool) (k at : ℕ) (gates : List Gate) → HoldGates at gates → Hold at (own_edges x marked k gates)
  own_of_gates x marked k at [] h = tt
  own_of_gates x marked k at (g ∷ gates) h = (h.0, own_of_gates x marked (suc k) (suc at) gates h.1)

  -- the roots that are `Id` have the streams of the right side's values
  pub ids_equal : (prefix : Name) (marked : Bool) (at : ℕ) (roots : List Variable) (values : List ℕ)
      → length values ≡ length roots → Hold at (id_edges prefix marked roots values)
      → map col (places_from at roots) ≡ map col values
  ids_equal prefix marked at [] [] e h = refl
  ids_equal prefix marked at [] (v ∷ values) e h = absurd (omega (arith, e))
  ids_equal prefix marked at (r ∷ roots) [] e h = absurd (omega (arith, e))
  ids_equal prefix marked at (r ∷ roots) (v ∷ values) e h = ap₂ (λ s l. s ∷ l) (h.0 ∙ id_stream width (col v)) (ids_equal prefix marked (suc at) roots values (omega (arith, e)) h.1)

  pub equal_ids : (prefix : Name) (marked : Bool) (at : ℕ) (roots : List Variable) (values : List ℕ)
      → map col (places_from at roots) ≡ map col values → Hold at (id_edges prefix marked roots values)
  equal_ids prefix marked at [] values e = tt
  equal_ids prefix marked at (r ∷ roots) [] e = absurd (cc e)
  equal_ids prefix marked at (r ∷ roots) (v ∷ values) e = (let is : col at ≡ col v = cc e in is ∙ sym (id_stream width (col v)), equal_ids prefix marked (suc at) roots values (cc e))

pub own_length : (x : Name) (marked : Bool) (k : ℕ) (gates : List Gate) → length (own_edges x marked k gates) ≡ length gates
own_length x marked k [] = refl
own_length x marked k (g ∷ gates) = ap suc (own_length x marked (suc k) gates)

pub ids_length : (prefix : Name) (marked : Bool) (roots : List Variable) (values : List ℕ)
    → length (id_edges prefix marked roots values) ≡ length roots
ids_length prefix marked [] values = refl
ids_length prefix marked (r ∷ roots) values = ap suc (ids_length prefix marked roots (drop 1 values))
