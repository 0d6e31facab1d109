-- The roots of items as code's lists have them, one after the other.
use Rattle.std.proofs.Common.{◌≡◌, ℕ, zero, suc, ◌+◌, ◌<◌, get_or, Bool, List, [], ◌∷◌, ◌++◌, drop, length, map, refl, sym, ap, ap₂, ◌∙◌, arith, append_assoc}
use Rattle.std.specs.Prelude.{Result, Ok, Err, IfOk, slice_get, unwrap_or}
use Rattle.node_expand.specs.declared.header.Header.{Header}
use Rattle.node_expand.specs.Headers.{head_with, node_seen}
use Rattle.std.proofs.lemmas.List.{map-append}
use Rattle.lus_syntax.specs.declared.ast.Group.{Group}
use Rattle.lus_syntax.specs.declared.ast.Item.{Item}
use Rattle.lus_syntax.specs.declared.ast.Item.TheVariants.{Assert, Equation}
use Rattle.lus_syntax.specs.declared.ast.Spot.{Spot}
use Rattle.op_network.specs.declared.edge.Edge.{Edge}
use Rattle.op_network.specs.declared.value.Ty.{Ty}
use Rattle.lus_types.specs.Names.{Name, Globals}
use Rattle.lus_types.specs.Programs.{Node, Program, or_truth, type_of_name, variables_of, variables_of_group}
use Rattle.lus_types.specs.Types.{type_named}
use Rattle.node_expand.specs.declared.header.Variable.{Variable}
use Rattle.node_expand.specs.Instances.{first_name, id_edges, roots_of}
use Rattle.node_expand.specs.Roots.{declared_variables, first_root, group_variables, id_edge, item_roots, left_root}
use Rattle.node_expand.specs.Variables.{variable_seen}

group_seen : (ty : Ty) (spots : List Spot) → map variable_seen (group_variables ty spots) ≡ variables_of_group ty spots
group_seen ty [] = refl
group_seen ty (s ∷ spots) = ap (λ l. record { name = s.text; ty = ty } ∷ l) (group_seen ty spots)

pub variables_seen : (g : Globals) (groups : List Group) → map variable_seen (declared_variables g groups) ≡ variables_of g groups
variables_seen g [] = refl
variables_seen g (group ∷ groups) =
    map-append variable_seen (group_variables (or_truth (type_named g group.ty.text)) group.names) (declared_variables g groups)
    ∙ ap₂ (λ l m. l ++ m) (group_seen (or_truth (type_named g group.ty.text)) group.names) (variables_seen g groups)

left_seen : (program : Program) (node : Node) (left : List Spot)
    → map variable_seen (map (left_root program node) left) ≡ map (λ (s : Spot). record { name = s.text; ty = or_truth (type_of_name program node s.text) }) left
left_seen program node [] = refl
left_seen program node (s ∷ left) = ap (λ l. record { name = s.text; ty = or_truth (type_of_name program node s.text) } ∷ l) (left_seen program node left)

pub roots_seen : (program : Program) (node : Node) (k : ℕ) (item : Item) → map variable_seen (item_roots program node k item) ≡ roots_of program node k item
roots_seen program node k (Assert at e) = refl
roots_seen program node k (Equation at left e) = left_seen program node left

pub first_seen : (roots : List Variable) → first_root roots ≡ first_name (map variable_seen roots)
first_seen [] = refl
first_seen (root ∷ roots) = refl

-- a header of the variables of these groups
pub header_seen : {E : Type 0} (g : Globals) (inputs outputs locals : List Group) (ins outs locs : List Variable) (r : Result Header E)
    → ins ≡ declared_variables g inputs → outs ≡ declared_variables g outputs → locs ≡ declared_variables g locals
    → IfOk r (λ h. h.inputs ≡ ins) → IfOk r (λ h. h.outputs ≡ outs) → IfOk r (λ h. h.locals ≡ locs)
    → IfOk r (λ h. node_seen h ≡ head_with g inputs outputs locals)
header_seen g inputs outputs locals ins outs locs (Ok h) i o l e f k =
    let ins_seen = ap (map variable_seen) (e ∙ i) ∙ variables_seen g inputs in
    let outs_seen = ap (map variable_seen) (f ∙ o) ∙ variables_seen g outputs in
    let locs_seen = ap (map variable_seen) (k ∙ l) ∙ variables_seen g locals in
    λ j. record { name = []; inputs = ins_seen j; outputs = outs_seen j; locals = locs_seen j; items = [] }
header_seen g inputs outputs locals ins outs locs (Err m) i o l e f k = tt

drop_nil : {A : Type 0} (i : ℕ) → drop {A = A} i [] ≡ []
drop_nil zero = refl
drop_nil (suc i) = refl

-- one more root that is `Id`
id_more : (prefix : Name) (asserted : Bool) (roots : List Variable) (values : List ℕ) (i : ℕ) (root : Variable) → i < length roots → root ≡ get_or roots i root
    → id_edges prefix asserted (map variable_seen (drop i roots)) (drop i values)
    ≡ id_edge prefix asserted root (unwrap_or (slice_get values i) 0) ∷ id_edges prefix asserted (map variable_seen (drop (suc i) roots)) (drop (suc i) values)
id_more prefix asserted [] values i root h is = absurd (omega (arith, h))
id_more prefix asserted (r ∷ roots) [] zero root h is = ap (λ (v : Variable). id_edge prefix asserted v 0 ∷ id_edges prefix asserted (map variable_seen roots) []) (sym is)
id_more prefix asserted (r ∷ roots) (v ∷ values) zero root h is = ap (λ (w : Variable). id_edge prefix asserted w v ∷ id_edges prefix asserted (map variable_seen roots) values) (sym is)
id_more prefix asserted (r ∷ roots) [] (suc i) root h is =
    ap (λ v. id_edges prefix asserted (map variable_seen (drop i roots)) v) (sym (drop_nil i)) ∙ id_more prefix asserted roots [] i root (omega (arith, h)) is
id_more prefix asserted (r ∷ roots) (v ∷ values) (suc i) root h is = id_more prefix asserted roots values i root (omega (arith, h)) is

pub ids_step : (prefix : Name) (asserted : Bool) (roots : List Variable) (values : List ℕ) (i : ℕ) (root : Variable) (value : ℕ) (edges new all : List Edge)
    → i < length roots → root ≡ get_or roots i root → value ≡ unwrap_or (slice_get values i) 0
    → new ≡ edges ++ id_edge prefix asserted root value ∷ []
    → edges ++ id_edges prefix asserted (map variable_seen (drop i roots)) (drop i values) ≡ all
    → new ++ id_edges prefix asserted (map variable_seen (drop (i + 1) roots)) (drop (i + 1) values) ≡ all
ids_step prefix asserted roots values i root value edges new all h is v e whole =
    let next : i + 1 ≡ suc i = omega arith in
    let rest = id_edges prefix asserted (map variable_seen (drop (suc i) roots)) (drop (suc i) values) in
    ap (λ k. new ++ id_edges prefix asserted (map variable_seen (drop k roots)) (drop k values)) next
    ∙ ap (λ l. l ++ rest) e ∙ append_assoc edges (id_edge prefix asserted root value ∷ []) rest
    ∙ ap (λ n. edges ++ id_edge prefix asserted root n ∷ rest) v
    ∙ ap (λ l. edges ++ l) (sym (id_more prefix asserted roots values i root h is))
    ∙ whole
