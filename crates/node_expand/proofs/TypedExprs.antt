-- The edges that stand for an expression fit their types.
use Rattle.std.proofs.Common.{◌≡◌, ℕ, suc, ◌+◌, Option, Some, None, List, [], ◌∷◌, ◌++◌, length, map, pos, refl, sym, ap, ap₂, ◌∙◌, subst, arith}
use Rattle.std.proofs.lemmas.List.{length-map, map-append}
use Rattle.std.specs.List.{AllByRecursion}
use Rattle.std.specs.Option.{option_map_or}
use Rattle.lus_syntax.specs.declared.ast.Expr.{Expr}
use Rattle.lus_syntax.specs.declared.ast.BinOp.{BinOp}
use Rattle.lus_syntax.specs.declared.ast.BinOp.TheVariants as bino
use Rattle.lus_syntax.specs.declared.ast.UnOp.{UnOp}
use Rattle.lus_syntax.specs.declared.ast.UnOp.TheVariants as uno
use Rattle.op_network.specs.declared.edge.Op.{Op}
use Rattle.op_network.specs.declared.form.Binary.{Binary}
use Rattle.op_network.specs.declared.form.Form.{Form}
use Rattle.op_network.specs.declared.form.Form.TheVariants.{Arrow, Const, Input, Ite, One, Pre, Two}
use Rattle.op_network.specs.declared.form.Unary.{Unary}
use Rattle.op_network.specs.declared.value.Ty.{Ty}
use Rattle.op_network.specs.declared.value.Ty.TheVariants as type
use Rattle.op_network.specs.Operators.{binary_type, form_of, unary_type}
use Rattle.op_network.specs.Valid.{arrow_type_of, binary_type_of, if_type_of, unary_type_of}
use Rattle.lus_types.specs.Facts.{IsTypeOf}
use Rattle.lus_types.specs.Names.{Name}
use Rattle.lus_types.specs.Programs.{Node, Program, Variable, constant_named, constant_with, or_outer, or_truth, type_in, type_of_name, types}
use Rattle.lus_types.specs.ProgramTypes.{FitsValue, HasTypes, HaveTypes, more_types, no_types, types_arrow, types_binary, types_call, types_if, types_name, types_number, types_pre, types_truth, types_unary}
use Rattle.lus_types.specs.Types.{ordinary_binary, ordinary_unary}
use Rattle.node_expand.specs.Fragments.{Call, Callees, Fragment, Gate, Places, edge, first_place, first_type, fragment, name_fragment, nodes_of, place_all, place_level, place_of, size_of_all}
use Rattle.node_expand.specs.Names.{unless_variable}
use Rattle.node_expand.specs.Network.{inputs_of}
use Rattle.node_expand.specs.Operators.{op_of_one, op_of_two}
use Rattle.node_expand.proofs.Folds.{folded_call, folded_if, folded_name, folded_number, folded_one, folded_truth, folded_two}
use Rattle.node_expand.proofs.FragmentTypes.{fragment_type}
use Rattle.node_expand.proofs.Holding.{binary_form, unary_form}
use Rattle.node_expand.proofs.Lists.{all_append}
use Rattle.node_expand.proofs.ValidFacts.{IsExpandable}
use Rattle.node_expand.proofs.ValidTypes.{known_type, types_known}

abbrev pub outputs_of : Option Node → List Variable
outputs_of found = option_map_or (λ (node : Node). node.outputs) found []

-- from this place on these stand, one behind the other
abbrev pub StandAt : {A : Type 0} → (ℕ → Option A) → ℕ → List A → Type 0
StandAt at k [] = Unit {0}
StandAt at k (x ∷ xs) = (at k ≡ Some x) × StandAt at (suc k) xs

pub stand_at : {A : Type 0} (at : ℕ → Option A) (xs : List A) {i j : ℕ} → i ≡ j → StandAt at i xs → StandAt at j xs
stand_at at xs e h = subst (λ k. StandAt at k xs) e h

pub stand_left : {A : Type 0} (at : ℕ → Option A) (k : ℕ) (xs ys : List A) → StandAt at k (xs ++ ys) → StandAt at k xs
stand_left at k [] ys h = tt
stand_left at k (x ∷ xs) ys h = (h.0, stand_left at (suc k) xs ys h.1)

pub stand_right : {A : Type 0} (at : ℕ → Option A) (k : ℕ) (xs ys : List A) → StandAt at k (xs ++ ys) → StandAt at (k + length xs) ys
stand_right at k [] ys h = stand_at at ys (omega arith) h
stand_right at k (x ∷ xs) ys h = stand_at at ys (omega arith) (stand_right at (suc k) xs ys h.1)

abbrev pub gate_types : List Gate → List Ty
gate_types gates = map (λ (g : Gate). g.ty) gates

-- a single value has its type
value_type : (at : ℕ → Option Ty) (values : List ℕ) (t : Ty) → map at values ≡ Some t ∷ [] → at (first_place values) ≡ Some t
value_type at [] t e = absurd (cc e)
value_type at (v ∷ values) t e = cc e

-- over the types of edges an operator of this form, which is no input, gives this type
abbrev pub GivesTypeAt : Program → (ℕ → Option Ty) → Form → Ty → Type 0
GivesTypeAt program at (Input i) ty = ⊥
GivesTypeAt program at (Const v) ty = FitsValue program v ty
GivesTypeAt program at (One o a) ty = unary_type_of o (at a.0) ≡ Some ty
GivesTypeAt program at (Two o a b) ty = binary_type_of o (at a.0) (at b.0) ≡ Some ty
GivesTypeAt program at (Ite a b c) ty = if_type_of (at a.0) (at b.0) (at c.0) ≡ Some ty
GivesTypeAt program at (Arrow a b) ty = arrow_type_of (at a.0) (at b.0) ≡ Some ty
GivesTypeAt program at (Pre a) ty = at a.0 ≡ Some ty

-- and the type is one of the program
pub record Fits (program : Program) (at : ℕ → Option Ty) (o : Op) (ty : Ty) : Type 0 where
  pub gives : GivesTypeAt program at (form_of o) ty
  pub exists : IsTypeOf program ty

module _ (program : Program) (whole : IsExpandable program) (at : ℕ → Option Ty) where
  abbrev pub GatesFit : List Gate → Type 0
  GatesFit gates = AllByRecursion (λ (g : Gate). Fits program at g.op g.ty) gates

  gives_one : (op : UnOp) (o : Unary) (s t : Ty) (a : ℕ) → ordinary_unary op ≡ Some o → unary_type o s ≡ Some t
      → at a ≡ Some s → GivesTypeAt program at (form_of (op_of_one (ordinary_unary op) (edge a))) t
  gives_one op o s t a is gives h =
      subst (λ f. GivesTypeAt program at f t) (sym (ap (λ c. form_of (op_of_one c (edge a))) is ∙ unary_form o (edge a))) (ap (unary_type_of o) h ∙ gives)

  gives_two : (op : BinOp) (o : Binary) (r s t : Ty) (a b : ℕ) → ordinary_binary op ≡ Some o
      → binary_type o r s ≡ Some t → at a ≡ Some r → at b ≡ Some s
      → GivesTypeAt program at (form_of (op_of_two (ordinary_binary op) (edge a) (edge b))) t
  gives_two op o r s t a b is gives h k =
      subst (λ f. GivesTypeAt program at f t) (sym (ap (λ c. form_of (op_of_two c (edge a) (edge b))) is ∙ binary_form o (edge a) (edge b))) (ap₂ (binary_type_of o) h k ∙ gives)

  pub fit_append : (xs ys : List Gate) → GatesFit xs → GatesFit ys → GatesFit (xs ++ ys)
  fit_append xs ys h k = all_append (λ (g : Gate). Fits program at g.op g.ty) xs ys h k

  gate_types_append : (xs ys : List Gate) → gate_types (xs ++ ys) ≡ gate_types xs ++ gate_types ys
  gate_types_append xs ys = map-append (λ (g : Gate). g.ty) xs ys

  front : (k : ℕ) (xs ys : List Gate) → StandAt at k (gate_types (xs ++ ys)) → StandAt at k (gate_types xs)
  front k xs ys h = stand_left at k (gate_types xs) (gate_types ys) (subst (StandAt at k) (gate_types_append xs ys) h)

  back : (k : ℕ) (xs ys : List Gate) → StandAt at k (gate_types (xs ++ ys)) → StandAt at (k + length xs) (gate_types ys)
  back k xs ys h = stand_at at (gate_types ys) (ap (λ c. k + c) (length-map xs (λ (g : Gate). g.ty))) (stand_right at k (gate_types xs) (gate_types ys) (subst (StandAt at k) (gate_types_append xs ys) h))

  -- the instances of calls have results of their nodes' types
  abbrev pub CallsTyped : Callees → ℕ → List Call → Type 0
  CallsTyped callees start [] = Unit {0}
  CallsTyped callees start (c ∷ calls) = (map at (callees.results c.node start) ≡ map Some (types (outputs_of (program.node c.node)))) × CallsTyped callees (start + callees.size c.node) calls

  -- calls have arguments of their nodes' types
  abbrev pub ArgsTyped : List Call → Type 0
  ArgsTyped [] = Unit {0}
  ArgsTyped (c ∷ calls) = (map at c.args ≡ map Some (types (inputs_of (program.node c.node)))) × ArgsTyped calls

  calls_left : (callees : Callees) (start : ℕ) (xs ys : List Call) → CallsTyped callees start (xs ++ ys) → CallsTyped callees start xs
  calls_left callees start [] ys h = tt
  calls_left callees start (c ∷ xs) ys h = (h.0, calls_left callees (start + callees.size c.node) xs ys h.1)

  calls_right : (callees : Callees) (start : ℕ) (xs ys : List Call) → CallsTyped callees start (xs ++ ys)
      → CallsTyped callees (start + size_of_all callees (nodes_of xs)) ys
  calls_right callees start [] ys h = subst (λ k. CallsTyped callees k ys) (omega arith) h
  calls_right callees start (c ∷ xs) ys h = subst (λ k. CallsTyped callees k ys) (omega arith) (calls_right callees (start + callees.size c.node) xs ys h.1)

  args_append : (xs ys : List Call) → ArgsTyped xs → ArgsTyped ys → ArgsTyped (xs ++ ys)
  args_append [] ys h k = k
  args_append (c ∷ xs) ys h k = (h.0, args_append xs ys h.1 k)

  -- an expression of a node whose variables have edges of their types
  module _ (g : Name) (node : Node) (known : program.node g ≡ Some node) (callees : Callees) (table : Places) (bound : (x : Name) (ty : Ty) → type_in node x ≡ Some ty → at (place_of table x) ≡ Some ty) where
    abbrev make : Expr → ℕ → ℕ → Fragment
    make = fragment program node callees table

    abbrev Good : List Ty → ℕ → ℕ → Fragment → Type 0
    Good ts k inner m = StandAt at k (gate_types m.own) → CallsTyped callees inner m.calls → GatesFit m.own × (map at m.values ≡ map Some ts) × ArgsTyped m.calls

    -- the type of the edge of an operator
    own_type : {e : Expr} {ts : List Ty} → HasTypes (type_of_name program node) program.node e ts
        → (k inner : ℕ) (m : Fragment) → make e k inner ≡ m → m.ty ≡ first_type ts
    own_type {e} p k inner m is = sym (ap (λ (m : Fragment). m.ty) is) ∙ fragment_type program node callees table p k inner

    -- that edge is the expression's value
    head_fits : (o : Op) (ty t : Ty) (k : ℕ) → ty ≡ t → GivesTypeAt program at (form_of o) t → IsTypeOf program t
        → at k ≡ Some ty → Fits program at o ty × (map at (k ∷ []) ≡ map Some (t ∷ []))
    head_fits o ty t k same gives exists is = (subst (Fits program at o) (sym same) (record { gives = gives; exists = exists }), ap (λ u. u ∷ []) (is ∙ ap Some same))

    constant_good : (x : Name) (t : Ty) (k inner : ℕ) (c : Option Ty) → program.constant x ≡ c → c ≡ Some t
        → IsTypeOf program t
        → Good (t ∷ []) k inner (name_fragment (constant_with c (program.value x)) (or_truth c) (place_of table x) k)
    constant_good x t k inner None is h exists = absurd (cc h)
    constant_good x t k inner (Some ty) is h exists = λ own calls.
        let same : ty ≡ t = cc h in
        let f = head_fits _ ty t k same (whole.values.values x t (is ∙ h)) exists own.0 in
        ((f.0, tt), f.1, tt)

    name_good : (x : Name) (t : Ty) (k inner : ℕ) (own : Option Ty) → type_in node x ≡ own
        → or_outer own (program.constant x) ≡ Some t → IsTypeOf program t
        → Good (t ∷ []) k inner (name_fragment (unless_variable own (constant_named program x)) (or_truth (or_outer own (program.constant x))) (place_of table x) k)
    name_good x t k inner None is h exists = constant_good x t k inner (program.constant x) refl h exists
    name_good x t k inner (Some ty) is h exists = λ own calls. (tt, ap (λ u. u ∷ []) (bound x ty is ∙ h), tt)

    mutual
      pub expr_typed : {e : Expr} {ts : List Ty} → HasTypes (type_of_name program node) program.node e ts
          → (k inner : ℕ) → Good ts k inner (make e k inner)
      expr_typed {e} (types_name x t h is) k inner =
          subst (Good (t ∷ []) k inner) (sym (ap (λ m. m k inner) (folded_name (place_level program node callees table) e x h)))
          (name_good x t k inner (type_in node x) refl is (known_type program whole g node known x t is))
      expr_typed {e} (types_number n h) k inner =
          subst (Good (type.Word ∷ []) k inner) (sym (ap (λ m. m k inner) (folded_number (place_level program node callees table) e n h)))
          (λ own calls. ((record { gives = whole.words (pos n); exists = tt }, tt), ap (λ t. t ∷ []) own.0, tt))
      expr_typed {e} (types_truth b h) k inner =
          subst (Good (type.Truth ∷ []) k inner) (sym (ap (λ m. m k inner) (folded_truth (place_level program node callees table) e b h)))
          (λ own calls. ((record { gives = tt; exists = tt }, tt), ap (λ t. t ∷ []) own.0, tt))
      expr_typed {e} (types_unary {s = s} {t = t} op o a h is gives p) k inner =
          let same = ap (λ m. m k inner) (folded_one (place_level program node callees table) e a op h) in
          let m = make a (suc k) inner in
          let exists = (types_known program whole g node known (types_unary {e = e} op o a h is gives p)).0 in
          subst (Good (t ∷ []) k inner) (sym same)
          (λ own calls.
          let f = expr_typed p (suc k) inner own.1 calls in
          let head = head_fits _ _ t k (own_type (types_unary op o a h is gives p) k inner _ same) (gives_one op o s t (first_place m.values) is gives (value_type at m.values s f.1)) exists own.0 in
          ((head.0, f.0), head.1, f.2))
      expr_typed {e} (types_pre {t = t} a h p) k inner =
          let same = ap (λ m. m k inner) (folded_one (place_level program node callees table) e a uno.Pre h) in
          let m = make a (suc k) inner in
          subst (Good (t ∷ []) k inner) (sym same)
          (λ own calls.
          let f = expr_typed p (suc k) inner own.1 calls in
          let head = head_fits _ _ t k (own_type (types_pre a h p) k inner _ same) (value_type at m.values t f.1) (types_known program whole g node known p).0 own.0 in
          ((head.0, f.0), head.1, f.2))
      expr_typed {e} (types_binary {r = r} {s = s} {t = t} op o a b h is gives p q) k inner =
          let same = ap (λ m. m k inner) (folded_two (place_level program node callees table) e a b op h) in
          let m = make a (suc k) inner in
          let w = make b (suc k + length m.own) (inner + size_of_all callees (nodes_of m.calls)) in
          let exists = (types_known program whole g node known (types_binary {e = e} op o a b h is gives p q)).0 in
          subst (Good (t ∷ []) k inner) (sym same)
          (λ own calls.
          let f = expr_typed p (suc k) inner (front (suc k) m.own w.own own.1) (calls_left callees inner m.calls w.calls calls) in
          let i = expr_typed q (suc k + length m.own) (inner + size_of_all callees (nodes_of m.calls)) (back (suc k) m.own w.own own.1) (calls_right callees inner m.calls w.calls calls) in
          let head = head_fits _ _ t k (own_type (types_binary op o a b h is gives p q) k inner _ same)
          (gives_two op o r s t (first_place m.values) (first_place w.values) is gives (value_type at m.values r f.1) (value_type at w.values s i.1)) exists own.0 in
          ((head.0, fit_append m.own w.own f.0 i.0), head.1, args_append m.calls w.calls f.2 i.2))
      expr_typed {e} (types_arrow {r = r} {s = s} {t = t} a b h gives p q) k inner =
          let same = ap (λ m. m k inner) (folded_two (place_level program node callees table) e a b bino.Arrow h) in
          let m = make a (suc k) inner in
          let w = make b (suc k + length m.own) (inner + size_of_all callees (nodes_of m.calls)) in
          let exists = (types_known program whole g node known (types_arrow {e = e} a b h gives p q)).0 in
          subst (Good (t ∷ []) k inner) (sym same)
          (λ own calls.
          let f = expr_typed p (suc k) inner (front (suc k) m.own w.own own.1) (calls_left callees inner m.calls w.calls calls) in
          let i = expr_typed q (suc k + length m.own) (inner + size_of_all callees (nodes_of m.calls)) (back (suc k) m.own w.own own.1) (calls_right callees inner m.calls w.calls calls) in
          let head = head_fits _ _ t k (own_type (types_arrow a b h gives p q) k inner _ same)
          (ap₂ arrow_type_of (value_type at m.values r f.1) (value_type at w.values s i.1) ∙ gives) exists own.0 in
          ((head.0, fit_append m.own w.own f.0 i.0), head.1, args_append m.calls w.calls f.2 i.2))
      expr_typed {e} (types_if {q = u} {r = r} {s = s} {t = t} a b c h gives p1 p2 p3) k inner =
          let same = ap (λ m. m k inner) (folded_if (place_level program node callees table) e a b c h) in
          let m = make a (suc k) inner in
          let k' = suc k + length m.own in
          let inner' = inner + size_of_all callees (nodes_of m.calls) in
          let w = make b k' inner' in
          let x = make c (k' + length w.own) (inner' + size_of_all callees (nodes_of w.calls)) in
          let exists = (types_known program whole g node known (types_if {e = e} a b c h gives p1 p2 p3)).0 in
          subst (Good (t ∷ []) k inner) (sym same)
          (λ own calls.
          let f = expr_typed p1 (suc k) inner (front (suc k) m.own (w.own ++ x.own) own.1) (calls_left callees inner m.calls (w.calls ++ x.calls) calls) in
          let rest = back (suc k) m.own (w.own ++ x.own) own.1 in
          let more = calls_right callees inner m.calls (w.calls ++ x.calls) calls in
          let i = expr_typed p2 k' inner' (front k' w.own x.own rest) (calls_left callees inner' w.calls x.calls more) in
          let l = expr_typed p3 (k' + length w.own) (inner' + size_of_all callees (nodes_of w.calls)) (back k' w.own x.own rest) (calls_right callees inner' w.calls x.calls more) in
          let ofs = value_type at m.values u f.1 in
          let yes = value_type at w.values r i.1 in
          let no = value_type at x.values s l.1 in
          let head = head_fits _ _ t k (own_type (types_if a b c h gives p1 p2 p3) k inner _ same) ((λ j. if_type_of (ofs j) (yes j) (no j)) ∙ gives) exists own.0 in
          ((head.0, fit_append m.own (w.own ++ x.own) f.0 (fit_append w.own x.own i.0 l.0)), head.1, args_append m.calls (w.calls ++ x.calls) f.2 (args_append w.calls x.calls i.2 l.2)))
      expr_typed {e} (types_call f args callee h found ps) k inner =
          subst (Good (types callee.outputs) k inner) (sym (ap (λ m. m k inner) (folded_call (place_level program node callees table) e f args h)))
          (λ own calls.
          let i = exprs_typed ps k (inner + callees.size f) own calls.1 in (
            i.0,
            calls.0 ∙ ap (λ (o : Option Node). map Some (types (outputs_of o))) found,
            (i.1 ∙ ap (λ (o : Option Node). map Some (types (inputs_of o))) (sym found), i.2),
          ))

      pub exprs_typed : {es : List Expr} {ts : List Ty} → HaveTypes (type_of_name program node) program.node es ts
          → (k inner : ℕ) → Good ts k inner (place_all program node callees table (map make es) k inner)
      exprs_typed no_types k inner = λ own calls. (tt, refl, tt)
      exprs_typed (more_types {e = e} {es = es} {t = t} p ps) k inner = λ own calls.
          let m = make e k inner in
          let w = place_all program node callees table (map make es) (k + length m.own) (inner + size_of_all callees (nodes_of m.calls)) in
          let f = expr_typed p k inner (front k m.own w.own own) (calls_left callees inner m.calls w.calls calls) in
          let i = exprs_typed ps (k + length m.own) (inner + size_of_all callees (nodes_of m.calls)) (back k m.own w.own own) (calls_right callees inner m.calls w.calls calls) in
          (fit_append m.own w.own f.0 i.0, ap₂ (λ a l. a ∷ l) (value_type at m.values t f.1) i.1, args_append m.calls w.calls f.2 i.2)
