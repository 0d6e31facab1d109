-- Operands of a well typed operator are edges.
use Rattle.std.proofs.Common.{◌≡◌, ℕ, zero, suc, ◌<◌, List, [], ◌∷◌, Option, Some, None, slice_get, length, refl, subst, All}
use Rattle.std.specs.Option.{option_map}
use Rattle.std.proofs.lemmas.List.Elements.{All-get_or}
use Rattle.std.proofs.lemmas.Option.{slice_get_within, get_or_from_slice_get}
use Rattle.op_network.specs.declared.edge.Edge.{Edge}
use Rattle.op_network.specs.declared.edge.EdgeId.{EdgeId}
use Rattle.op_network.specs.declared.edge.Parts.{Parts}
use Rattle.op_network.specs.declared.form.Binary.{Binary}
use Rattle.op_network.specs.declared.form.Form.{Form}
use Rattle.op_network.specs.declared.form.Form.TheVariants.{Input, Const, One, Two, Ite, Arrow, Pre}
use Rattle.op_network.specs.declared.form.Unary.{Unary}
use Rattle.op_network.specs.declared.value.Ty.{Ty}
use Rattle.op_network.specs.Operators.{form_of, operands_by, operands_in, operands_of}
use Rattle.op_network.specs.Valid.{type_of, GivesType, IsWellTyped, unary_type_of, binary_type_of, if_type_of, arrow_type_of}

abbrev IsTyped : Option Ty → Type 0
IsTyped o = (ty : Ty) × (o ≡ Some ty)

unary_typed : (o : Unary) (a : Option Ty) (ty : Ty) → unary_type_of o a ≡ Some ty → IsTyped a
unary_typed o None ty h = cc
unary_typed o (Some a) ty h = (a, refl)

binary_typed : (o : Binary) (a b : Option Ty) (ty : Ty) → binary_type_of o a b ≡ Some ty → IsTyped a × IsTyped b
binary_typed o None b ty h = cc
binary_typed o (Some a) None ty h = cc
binary_typed o (Some a) (Some b) ty h = ((a, refl), (b, refl))

if_typed : (a b c : Option Ty) (ty : Ty) → if_type_of a b c ≡ Some ty → IsTyped a × IsTyped b × IsTyped c
if_typed None b c ty h = cc
if_typed (Some a) None c ty h = cc
if_typed (Some a) (Some b) None ty h = cc
if_typed (Some a) (Some b) (Some c) ty h = ((a, refl), (b, refl), (c, refl))

arrow_typed : (a b : Option Ty) (ty : Ty) → arrow_type_of a b ≡ Some ty → IsTyped a × IsTyped b
arrow_typed None b ty h = cc
arrow_typed (Some a) None ty h = cc
arrow_typed (Some a) (Some b) ty h = ((a, refl), (b, refl))

one_typed : (types : EdgeId → Option Ty) (a b : EdgeId) (port : ℕ) → IsTyped (types a) → slice_get (a ∷ []) port ≡ Some b → IsTyped (types b)
one_typed types a b zero h is = let same : a ≡ b = cc in subst (λ e. IsTyped (types e)) same h
one_typed types a b (suc port) h is = cc

two_typed : (types : EdgeId → Option Ty) (a b c : EdgeId) (port : ℕ) → IsTyped (types a) × IsTyped (types b) → slice_get (a ∷ b ∷ []) port ≡ Some c → IsTyped (types c)
two_typed types a b c zero h is = let same : a ≡ c = cc in subst (λ e. IsTyped (types e)) same h.0
two_typed types a b c (suc port) h is = one_typed types b c port h.1 is

three_typed : (types : EdgeId → Option Ty) (a b c d : EdgeId) (port : ℕ) → IsTyped (types a) × IsTyped (types b) × IsTyped (types c) → slice_get (a ∷ b ∷ c ∷ []) port ≡ Some d → IsTyped (types d)
three_typed types a b c d zero h is = let same : a ≡ d = cc in subst (λ e. IsTyped (types e)) same h.0
three_typed types a b c d (suc port) h is = two_typed types b c d port (h.1, h.2) is

-- each operand of an operator that gives a type has one
operand_typed : (parts : Parts) (form : Form) (ty : Ty) (port : ℕ) (e : EdgeId) → GivesType parts form ty → slice_get (operands_by form) port ≡ Some e → IsTyped (type_of parts.edges e)
operand_typed parts (Input i) ty port e h is = cc
operand_typed parts (Const v) ty port e h is = cc
operand_typed parts (One o a) ty port e h is = one_typed (type_of parts.edges) a e port (unary_typed o _ ty h) is
operand_typed parts (Two o a b) ty port e h is = two_typed (type_of parts.edges) a b e port (binary_typed o _ _ ty h) is
operand_typed parts (Ite a b c) ty port e h is = three_typed (type_of parts.edges) a b c e port (if_typed _ _ _ ty h) is
operand_typed parts (Arrow a b) ty port e h is = two_typed (type_of parts.edges) a b e port (arrow_typed _ _ ty h) is
operand_typed parts (Pre a) ty port e h is = one_typed (type_of parts.edges) a e port (ty, h) is

typed_within : (edges : List Edge) (i : ℕ) (o : Option Edge) (ty : Ty) → slice_get edges i ≡ o → option_map (λ (edge : Edge). edge.ty) o ≡ Some ty → i < length edges
typed_within edges i None ty is h = cc
typed_within edges i (Some edge) ty is h = slice_get_within edges i edge is

-- what has a type is an edge
pub typed_inside : (edges : List Edge) (e : EdgeId) (ty : Ty) → type_of edges e ≡ Some ty → e.0 < length edges
typed_inside edges e ty h = typed_within edges e.0 (slice_get edges e.0) ty refl h

operand_in : (parts : Parts) (e : EdgeId) (o : Option Edge) (port : ℕ) (a : EdgeId) → All (λ (edge : Edge). IsWellTyped parts edge.op edge.ty) parts.edges → slice_get parts.edges e.0 ≡ o → slice_get (operands_in o) port ≡ Some a → IsTyped (type_of parts.edges a)
operand_in parts e None port a typed is h = cc
operand_in parts e (Some edge) port a typed is h =
    operand_typed parts (form_of edge.op) edge.ty port a
    (subst (λ (edge : Edge). IsWellTyped parts edge.op edge.ty) (get_or_from_slice_get parts.edges e.0 edge edge is) (All-get_or (λ (edge : Edge). IsWellTyped parts edge.op edge.ty) parts.edges e.0 edge (slice_get_within parts.edges e.0 edge is) typed))
    h

-- the operands of well typed edges are edges
pub operand_inside : (parts : Parts) (e a : EdgeId) (port : ℕ) → All (λ (edge : Edge). IsWellTyped parts edge.op edge.ty) parts.edges → slice_get (operands_of parts.edges e) port ≡ Some a → a.0 < length parts.edges
operand_inside parts e a port typed h = let t = operand_in parts e (slice_get parts.edges e.0) port a typed refl h in typed_inside parts.edges a t.0 t.1
