-- The value of each constant of a fine program is of its type.
use Rattle.std.proofs.Common.{◌≡◌, ◌∙◌, ℕ, zero, suc, ◌<◌, ◌+◌, ℤ, pos, Bool, true, false, ◌&&◌, if◌then◌else◌, List, [], ◌∷◌, ◌++◌, length, map, take, Option, Some, None, slice_get, slice_index_or, refl, sym, ap, subst, append-nil, append_assoc, arith}
use Rattle.std.proofs.lemmas.List.{length-map}
use Rattle.std.specs.List.{flat_map}
use Rattle.lus_syntax.specs.declared.ast.BinOp.{BinOp}
use Rattle.lus_syntax.specs.declared.ast.BinOp.TheVariants as two
use Rattle.lus_syntax.specs.declared.ast.Decl.{Decl}
use Rattle.lus_syntax.specs.declared.ast.Decl.TheVariants.{ConstDecl}
use Rattle.lus_syntax.specs.declared.ast.Expr.{Expr, fold_out-Expr}
use Rattle.lus_syntax.specs.declared.ast.ExprKind.{ExprKind, fold-ExprKind, fold-roll-ExprKind}
use Rattle.lus_syntax.specs.declared.ast.ExprKind.TheOpen as level
use Rattle.lus_syntax.specs.declared.ast.ExprKind.TheVariants as tree
use Rattle.lus_syntax.specs.declared.ast.ExprKind.TheVariants.{rolls-Name, rolls-Number, rolls-Truth, rolls-One, rolls-Two, rolls-Cond, rolls-Call}
use Rattle.lus_syntax.specs.declared.ast.UnOp.{UnOp}
use Rattle.lus_syntax.specs.declared.ast.UnOp.TheVariants as one
use Rattle.op_network.specs.declared.form.Binary.{Binary}
use Rattle.op_network.specs.declared.form.Binary.TheVariants as network_two
use Rattle.op_network.specs.declared.form.Unary.TheVariants as network_one
use Rattle.op_network.specs.declared.value.Ty.{Ty}
use Rattle.op_network.specs.declared.value.Ty.TheVariants as type
use Rattle.op_network.specs.declared.value.Value.{Value}
use Rattle.op_network.specs.declared.value.Value.TheVariants as value
use Rattle.op_network.specs.Operators.{alike, over, is_same_type, binary_type, binary_value, if_type, if_value, unary_value}
use Rattle.op_network.specs.Values.{IsWord, is_true, wrap}
use Rattle.lus_syntax.specs.declared.ast.Spot.{Spot}
use Rattle.lus_types.specs.declared.fault.TypeKind.TheVariants as kind
use Rattle.lus_types.specs.declared.types.Meaning.{Meaning}
use Rattle.lus_types.specs.declared.types.Meaning.TheVariants as means
use Rattle.lus_types.specs.declared.types.Position.{Position}
use Rattle.lus_types.specs.declared.types.Position.TheVariants.{Inside}
use Rattle.lus_types.specs.Calls.{here}
use Rattle.lus_types.specs.Names.{Globals, Name, globals}
use Rattle.lus_types.specs.Occurrences as thing
use Rattle.lus_types.specs.Occurrences.{Scope, flat, global_value, in_constant, value_named}
use Rattle.lus_types.specs.Programs.{Program, constant_meant, program_of}
use Rattle.lus_types.specs.ProgramTypes.{FitsValue, HasValues}
use Rattle.lus_types.specs.Typing.{IsFine, declarations, tables}
use Rattle.lus_types.specs.Walk.{Judged, declared_type_name, expression, judge, occurs, operand_of, type_of}
use Rattle.lus_types.specs.Types.{ordinary_unary, ordinary_binary, unary, unary_of, binary, binary_of, conditional_of}
use Rattle.lus_types.specs.Values as values
use Rattle.lus_types.specs.Values.{binary_at_start, unary_at_start, value_level, value_meant}
use Rattle.lus_types.proofs.FineExprs.{same_is}
use Rattle.lus_types.proofs.FineParts.{AreFine, HasChoice, IsConstantAt, declared_meaning, enumeration_of, fine_at, fine_front, fine_rest, fine_tail}
use Rattle.lus_types.proofs.FinePrograms.{earlier, from_zero, get_here, in_front, known, next_place, not_below, one_longer, plus_none, same_decl, same_type, scope, take_front, type_is, typed_below, typed_value}
use Rattle.lus_types.proofs.Judging.{judge_name, judge_number, judge_truth, judge_one, judge_two, judge_cond, judge_call}
use Rattle.lus_types.proofs.Trees.{Tree, t_name, t_number, t_truth, t_one, t_two, t_cond, t_call, tree_of}

some_type : (s t : Ty) → Some s ≡ Some t → s ≡ t
some_type s t h = cc h

-- the type of a result, where there is one
over_is : (operand result a b t : Ty) → over operand result a b ≡ Some t → result ≡ t
over_is operand result a b t h = elim (is_same_type a operand && is_same_type b operand) as (λ c. (if c then Some result else None) ≡ Some t → result ≡ t) [
  | true ↦ λ e. some_type result t e
  | false ↦ λ e. cc e
] h

alike_is : (result a b t : Ty) → alike result a b ≡ Some t → (a ≡ b) × (result ≡ t)
alike_is result a b t h = elim (is_same_type a b) as (λ c. is_same_type a b ≡ c → (if c then Some result else None) ≡ Some t → (a ≡ b) × (result ≡ t)) [
  | true ↦ λ same e. (same_is a b same, some_type result t e)
  | false ↦ λ same e. cc e
] refl h

if_is : (a b c t : Ty) → if_type a b c ≡ Some t → (b ≡ t) × (c ≡ t)
if_is a b c t h = elim (is_same_type a type.Truth) as (λ k. (if k then alike b b c else None) ≡ Some t → (b ≡ t) × (c ≡ t)) [
  | true ↦ λ e. let w = alike_is b b c t e in (w.1, sym w.0 ∙ w.1)
  | false ↦ λ e. cc e
] h

module _ (program : Program) (in_range : (x : ℤ) → IsWord program.width (wrap program.width x)) where
  abbrev Fits : Value → Ty → Type 0
  Fits v t = FitsValue program v t

  fits_truth : (b : Bool) (t : Ty) → type.Truth ≡ t → Fits (value.Truth b) t
  fits_truth b t h = subst (Fits (value.Truth b)) h tt

  -- a value that fits one type fits the other
  fits_by : (v : Value) (u t : Ty) → Fits v u → u ≡ t → Fits v t
  fits_by v u t h e = subst (Fits v) e h

  fits_word : (x : ℤ) (t : Ty) → type.Word ≡ t → Fits (value.Word (wrap program.width x)) t
  fits_word x t h = subst (Fits (value.Word (wrap program.width x))) h (in_range x)

  pub fits_binary : (o : Binary) (a b : Value) (r s t : Ty) → binary_type o r s ≡ Some t → Fits (binary_value program.width o a b) t
  fits_binary network_two.And a b r s t h = fits_by (binary_value program.width network_two.And a b) type.Truth t tt (over_is type.Truth type.Truth r s t h)
  fits_binary network_two.Or a b r s t h = fits_by (binary_value program.width network_two.Or a b) type.Truth t tt (over_is type.Truth type.Truth r s t h)
  fits_binary network_two.Xor a b r s t h = fits_by (binary_value program.width network_two.Xor a b) type.Truth t tt (over_is type.Truth type.Truth r s t h)
  fits_binary network_two.Imp a b r s t h = fits_by (binary_value program.width network_two.Imp a b) type.Truth t tt (over_is type.Truth type.Truth r s t h)
  fits_binary network_two.Eq a b r s t h = fits_by (binary_value program.width network_two.Eq a b) type.Truth t tt (alike_is type.Truth r s t h).1
  fits_binary network_two.Ne a b r s t h = fits_by (binary_value program.width network_two.Ne a b) type.Truth t tt (alike_is type.Truth r s t h).1
  fits_binary network_two.Lt a b r s t h = fits_by (binary_value program.width network_two.Lt a b) type.Truth t tt (over_is type.Word type.Truth r s t h)
  fits_binary network_two.Le a b r s t h = fits_by (binary_value program.width network_two.Le a b) type.Truth t tt (over_is type.Word type.Truth r s t h)
  fits_binary network_two.Gt a b r s t h = fits_by (binary_value program.width network_two.Gt a b) type.Truth t tt (over_is type.Word type.Truth r s t h)
  fits_binary network_two.Ge a b r s t h = fits_by (binary_value program.width network_two.Ge a b) type.Truth t tt (over_is type.Word type.Truth r s t h)
  fits_binary network_two.Add a b r s t h = fits_word _ t (over_is type.Word type.Word r s t h)
  fits_binary network_two.Sub a b r s t h = fits_word _ t (over_is type.Word type.Word r s t h)
  fits_binary network_two.Mul a b r s t h = fits_word _ t (over_is type.Word type.Word r s t h)

  pub fits_if : (a b c : Value) (q r s t : Ty) → if_type q r s ≡ Some t → Fits b r → Fits c s → Fits (if_value a b c) t
  fits_if a b c q r s t h k l = elim (is_true a) as (λ e. Fits (if e then b else c) t) [
    | true ↦ subst (Fits b) (if_is q r s t h).0 k
    | false ↦ subst (Fits c) (if_is q r s t h).1 l
  ]

module _ (width : ℕ) (g : Globals) (known : List Value) where
  abbrev the_value : Expr → Value
  the_value e = values.value width g known e

  at_kind : (e : Expr) (k : ExprKind) → e.kind ≡ k → the_value e ≡ fold-ExprKind Value Value (value_level width g known) (λ e. e.kind) k
  at_kind e k h = fold_out-Expr Value Value (value_level width g known) (λ e. e.kind) e ∙ ap (fold-ExprKind Value Value (value_level width g known) (λ e. e.kind)) h

  pub value_name : (e : Expr) (x : List ℕ) → e.kind ≡ tree.Name x → the_value e ≡ value_meant known (g x)
  value_name e x h = at_kind e _ (h ∙ sym (rolls-Name x)) ∙ fold-roll-ExprKind Value Value (value_level width g known) (λ e. e.kind) (level.Name x)

  pub value_number : (e : Expr) (n : ℕ) → e.kind ≡ tree.Number n → the_value e ≡ value.Word (wrap width (pos n))
  value_number e n h = at_kind e _ (h ∙ sym (rolls-Number n)) ∙ fold-roll-ExprKind Value Value (value_level width g known) (λ e. e.kind) (level.Number n)

  pub value_truth : (e : Expr) (b : Bool) → e.kind ≡ tree.Truth b → the_value e ≡ value.Truth b
  value_truth e b h = at_kind e _ (h ∙ sym (rolls-Truth b)) ∙ fold-roll-ExprKind Value Value (value_level width g known) (λ e. e.kind) (level.Truth b)

  pub value_one : (e : Expr) (op : UnOp) (a : Expr) → e.kind ≡ tree.One op a → the_value e ≡ value_level width g known (level.One op (the_value a))
  value_one e op a h = at_kind e _ (h ∙ sym (rolls-One op a)) ∙ fold-roll-ExprKind Value Value (value_level width g known) (λ e. e.kind) (level.One op a)

  pub value_two : (e : Expr) (op : BinOp) (a b : Expr) → e.kind ≡ tree.Two op a b → the_value e ≡ value_level width g known (level.Two op (the_value a) (the_value b))
  value_two e op a b h = at_kind e _ (h ∙ sym (rolls-Two op a b)) ∙ fold-roll-ExprKind Value Value (value_level width g known) (λ e. e.kind) (level.Two op a b)

  pub value_cond : (e a b c : Expr) → e.kind ≡ tree.Cond a b c → the_value e ≡ if_value (the_value a) (the_value b) (the_value c)
  value_cond e a b c h = at_kind e _ (h ∙ sym (rolls-Cond a b c)) ∙ fold-roll-ExprKind Value Value (value_level width g known) (λ e. e.kind) (level.Cond a b c)

flat_is : (o : Option (Option Ty)) (t : Ty) → flat o ≡ Some t → o ≡ Some (Some t)
flat_is None t h = cc h
flat_is (Some a) t h = ap Some h

one_below : (p n : ℕ) → suc p < suc n → p < n
one_below p n h = omega arith

no_value : {A : Type 0} → (u : A) × (let o : Option (Option A) = None in o ≡ Some (Some u)) → ⊥
no_value h = cc h.1

typed_one : (op : UnOp) (a : Option Ty) (t : Ty) → unary_of op a ≡ Some t → (s : Ty) × (a ≡ Some s) × (unary op s ≡ Some t)
typed_one op None t h = cc h
typed_one op (Some s) t h = (s, refl, h)

typed_two : (op : BinOp) (a b : Option Ty) (t : Ty) → binary_of op a b ≡ Some t → (r : Ty) × (s : Ty) × (binary op r s ≡ Some t)
typed_two op None b t h = cc h
typed_two op (Some r) None t h = cc h
typed_two op (Some r) (Some s) t h = (r, s, h)

typed_if : (a b c : Option Ty) (t : Ty) → conditional_of a b c ≡ Some t → (q : Ty) × (r : Ty) × (s : Ty) × (b ≡ Some r) × (c ≡ Some s) × (if_type q r s ≡ Some t)
typed_if None b c t h = cc h
typed_if (Some q) None c t h = cc h
typed_if (Some q) (Some r) None t h = cc h
typed_if (Some q) (Some r) (Some s) t h = (q, r, s, refl, refl, h)

module _ (decls : List Decl) (program : Program) (in_range : (x : ℤ) → IsWord program.width (wrap program.width x)) (s : Scope) (constant : in_constant s ≡ true) (known : List Value) where
  abbrev v : Expr → Value
  v e = the_value program.width s.globals known e

  -- the values of names are of their types
  abbrev pub NamesFit : Type 0
  NamesFit = (x : Name) (t : Ty) → flat (value_named s x) ≡ Some t → FitsValue program (value_meant known (s.globals x)) t

  one_fits : (op : UnOp) (a : Value) (r : Option Ty) (at : ℕ) → IsFine decls (occurs at (thing.Unary s op r)) → (u t : Ty) → unary op u ≡ Some t → FitsValue program (unary_at_start program.width (ordinary_unary op) a) t
  one_fits one.Not a r at f u t h = fits_by program in_range (unary_value program.width network_one.Not a) type.Truth t tt (over_is type.Truth type.Truth u u t h)
  one_fits one.Neg a r at f u t h = fits_word program in_range _ t (over_is type.Word type.Word u u t h)
  one_fits one.Pre a r at f u t h = absurd (f kind.Unsupported constant)
  one_fits one.Current a r at f u t h = absurd (f kind.Clocked refl)

  module _ (a b : Value) (p q : Option Ty) (at : ℕ) where
    two_fits : (op : BinOp) (r s' t : Ty) → binary op r s' ≡ Some t → IsFine decls (occurs at (thing.Binary s op p q)) → FitsValue program (binary_at_start program.width (ordinary_binary op) a b) t
    two_fits two.And r s t h f = fits_binary program in_range network_two.And a b r s t h
    two_fits two.Or r s t h f = fits_binary program in_range network_two.Or a b r s t h
    two_fits two.Xor r s t h f = fits_binary program in_range network_two.Xor a b r s t h
    two_fits two.Imp r s t h f = fits_binary program in_range network_two.Imp a b r s t h
    two_fits two.Eq r s t h f = fits_binary program in_range network_two.Eq a b r s t h
    two_fits two.Ne r s t h f = fits_binary program in_range network_two.Ne a b r s t h
    two_fits two.Lt r s t h f = fits_binary program in_range network_two.Lt a b r s t h
    two_fits two.Le r s t h f = fits_binary program in_range network_two.Le a b r s t h
    two_fits two.Gt r s t h f = fits_binary program in_range network_two.Gt a b r s t h
    two_fits two.Ge r s t h f = fits_binary program in_range network_two.Ge a b r s t h
    two_fits two.Add r s t h f = fits_binary program in_range network_two.Add a b r s t h
    two_fits two.Sub r s t h f = fits_binary program in_range network_two.Sub a b r s t h
    two_fits two.Mul r s t h f = fits_binary program in_range network_two.Mul a b r s t h
    two_fits two.Arrow r s t h f = absurd (f kind.Unsupported constant)
    two_fits two.Div r s t h f = absurd (f kind.Unsupported refl)
    two_fits two.Mod r s t h f = absurd (f kind.Unsupported refl)
    two_fits two.Fby r s t h f = absurd (f kind.Unsupported refl)
    two_fits two.When r s t h f = absurd (f kind.Clocked refl)

  module _ (names : NamesFit) where
    pub fits_tree : (e : Expr) (p : Position) → Tree e → AreFine decls ((judge s e).walk p) → (t : Ty) → type_of s e ≡ Some t → FitsValue program (v e) t
    fits_tree e p (t_name x h) f t k =
        subst (λ w. FitsValue program w t) (sym (value_name program.width s.globals known e x h)) (names x t (sym (ap (λ (j : Judged). j.ty) (judge_name s e x h)) ∙ k))
    fits_tree e p (t_number n h) f t k =
        subst (λ w. FitsValue program w t) (sym (value_number program.width s.globals known e n h))
        (fits_word program in_range (pos n) t (some_type type.Word t (sym (ap (λ (j : Judged). j.ty) (judge_number s e n h)) ∙ k)))
    fits_tree e p (t_truth b h) f t k =
        subst (λ w. FitsValue program w t) (sym (value_truth program.width s.globals known e b h))
        (fits_truth program in_range b t (some_type type.Truth t (sym (ap (λ (j : Judged). j.ty) (judge_truth s e b h)) ∙ k)))
    fits_tree e p (t_one op a h tr) f t k =
        let fine = subst (λ (j : Judged). AreFine decls (j.walk p)) (judge_one s e op a h) f in
        let w = typed_one op (type_of s a) t (sym (ap (λ (j : Judged). j.ty) (judge_one s e op a h)) ∙ k) in
        subst (λ w. FitsValue program w t) (sym (value_one program.width s.globals known e op a h))
        (one_fits op (v a) (type_of s a) e.at (fine_rest decls ((judge s a).walk (operand_of op)) _ fine _ here) w.0 t w.2)
    fits_tree e p (t_two op a b h ta tb) f t k =
        let fine = subst (λ (j : Judged). AreFine decls (j.walk p)) (judge_two s e op a b h) f in
        let w = typed_two op (type_of s a) (type_of s b) t (sym (ap (λ (j : Judged). j.ty) (judge_two s e op a b h)) ∙ k) in
        subst (λ w. FitsValue program w t) (sym (value_two program.width s.globals known e op a b h))
        (two_fits (v a) (v b) (type_of s a) (type_of s b) e.at op w.0 w.1 t w.2
        (fine_rest decls ((judge s b).walk Inside) _ (fine_rest decls ((judge s a).walk Inside) _ fine) _ here))
    fits_tree e p (t_cond a b c h ta tb tc) f t k =
        let fine = subst (λ (j : Judged). AreFine decls (j.walk p)) (judge_cond s e a b c h) f in
        let after = fine_rest decls ((judge s a).walk Inside) _ fine in
        let last = fine_rest decls ((judge s b).walk Inside) _ after in
        let w = typed_if (type_of s a) (type_of s b) (type_of s c) t (sym (ap (λ (j : Judged). j.ty) (judge_cond s e a b c h)) ∙ k) in
        subst (λ w. FitsValue program w t) (sym (value_cond program.width s.globals known e a b c h))
        (fits_if program in_range (v a) (v b) (v c) w.0 w.1 w.2 t w.5
        (fits_tree b Inside tb (fine_front decls ((judge s b).walk Inside) _ after) w.1 w.3)
        (fits_tree c Inside tc (fine_front decls ((judge s c).walk Inside) _ last) w.2 w.4))
    fits_tree e p (t_call g args h ts) f t k =
        let fine = subst (λ (j : Judged). AreFine decls (j.walk p)) (judge_call s e g args h) f in
        absurd (fine_rest decls (flat_map (λ (j : Judged). j.walk Inside) (map (judge s) args)) _ fine _ here kind.Unsupported constant)

module _ (decls : List Decl) (width : ℕ) (fine : AreFine decls (declarations (tables width decls) 0 0 decls)) (in_range : (x : ℤ) → IsWord width (wrap width x)) where
  abbrev the_program : Program
  the_program = program_of decls width

  abbrev known_types : List (Option Ty)
  known_types = known decls width fine

  abbrev vals : List Value
  vals = values.constant_values width decls

  more_values : (before : List Value) (rest : List Decl) → (more : List Value) × (values.values_from width (globals decls) before rest ≡ before ++ more)
  more_values before [] = ([], sym (append-nil before))
  more_values before (d ∷ rest) =
      let x = values.constant_value width (globals decls) before d in
      let w = more_values (before ++ x ∷ []) rest in (x ∷ w.0, w.1 ∙ append_assoc before (x ∷ []) w.0)

  abbrev ValueAt : ℕ → Decl → List Value → Type 0
  ValueAt place d all = slice_get all place ≡ Some (values.constant_value width (globals decls) (take place all) d)

  value_from : (place : ℕ) (before : List Value) (rest : List Decl) → length before ≡ place → (i : ℕ) (d : Decl) → slice_get rest i ≡ Some d → ValueAt (i + place) d (values.values_from width (globals decls) before rest)
  value_from place before [] l i d h = cc h
  value_from place before (e ∷ rest) l zero d h =
      let x = values.constant_value width (globals decls) before e in
      let w = more_values (before ++ x ∷ []) rest in
      let all = values.values_from width (globals decls) (before ++ x ∷ []) rest in
      let is : all ≡ before ++ x ∷ w.0 = w.1 ∙ append_assoc before (x ∷ []) w.0 in
      let at : 0 + place ≡ length before = from_zero place ∙ sym l in
      let front : take (0 + place) all ≡ before = (λ j. take (at j) (is j)) ∙ take_front before (x ∷ w.0) in
      (λ j. slice_get (is j) (at j)) ∙ get_here before x w.0 ∙ (λ j. Some (values.constant_value width (globals decls) (sym front j) (same_decl e d h j)))
  value_from place before (e ∷ rest) l (suc i) d h =
      let x = values.constant_value width (globals decls) before e in
      subst (λ n. ValueAt n d (values.values_from width (globals decls) (before ++ x ∷ []) rest)) (next_place i place)
      (value_from (suc place) (before ++ x ∷ []) rest (one_longer before x place l) i d h)

  value_at : (place : ℕ) (d : Decl) → slice_get decls place ≡ Some d → ValueAt place d vals
  value_at place d h = subst (λ n. ValueAt n d vals) (plus_none place) (value_from 0 [] decls refl place d h)

  in_take : (n : ℕ) (xs : List Value) (p : ℕ) (d : Value) → p < n → slice_index_or (take n xs) p d ≡ slice_index_or xs p d
  in_take zero xs p d h = absurd (not_below p h)
  in_take (suc n) [] p d h = refl
  in_take (suc n) (x ∷ xs) zero d h = refl
  in_take (suc n) (x ∷ xs) (suc p) d h = in_take n xs p d (one_below p n h)

  found_at : (xs : List Value) (p : ℕ) (d w : Value) → slice_get xs p ≡ Some w → slice_index_or xs p d ≡ w
  found_at [] p d w h = cc h
  found_at (x ∷ xs) zero d w h = cc h
  found_at (x ∷ xs) (suc p) d w h = found_at xs p d w h

  -- the values of the constants below a place are of their types
  abbrev FitBelow : ℕ → Type 0
  FitBelow n = (place : ℕ) (x : Name) → place < n → IsConstantAt decls place x → (t : Ty) → slice_get known_types place ≡ Some (Some t) → FitsValue the_program (slice_index_or vals place (value.Truth false)) t

  choice_fits : (ty i : ℕ) (t : Ty) → HasChoice decls ty i → type.Choice ty ≡ t → FitsValue the_program (value.Choice i) t
  choice_fits ty i t d h =
      subst (FitsValue the_program (value.Choice i)) h (enumeration_of d.name d.choices, d.numbered, subst (λ n. i < n) (sym (length-map d.choices (λ (s : Spot). s.text))) d.within)

  name_fits : (n : ℕ) → FitBelow n → (x : Name) (m : Option Meaning) (t : Ty) → globals decls x ≡ m → flat (global_value (take n known_types) m) ≡ Some t → FitsValue the_program (value_meant (take n vals) m) t
  name_fits n w x None t e h = cc h
  name_fits n w x (Some (means.Enumeration ty)) t e h = cc h
  name_fits n w x (Some (means.Node place)) t e h = cc h
  name_fits n w x (Some (means.Enumerator ty i)) t e h = choice_fits ty i t (declared_meaning decls x (means.Enumerator ty i) e) (some_type (type.Choice ty) t h)
  name_fits n w x (Some (means.Constant place)) t e h =
      let at = in_front n known_types place (Some t) (flat_is (slice_get (take n known_types) place) t h) in
      subst (λ u. FitsValue the_program u t) (sym (in_take n vals place (value.Truth false) at.0)) (w place x at.0 (declared_meaning decls x (means.Constant place) e) t at.1)

  constant_fits : (place : ℕ) → FitBelow place → (at : ℕ) (name : Spot) (ty : Option Spot) (e : Option Expr) → slice_get decls place ≡ Some (ConstDecl at name ty e)
      → (t : Ty) → slice_get known_types place ≡ Some (Some t) → FitsValue the_program (slice_index_or vals place (value.Truth false)) t
  constant_fits place below at name ty None d t h = absurd (no_value (typed_value decls width fine place (typed_below decls width fine place) at name ty None d))
  constant_fits place below at name ty (Some e) d t h =
      let sc = scope decls width fine place (typed_below decls width fine place) at name ty in
      let own = (fine_at decls (tables width decls) place (ConstDecl at name ty (Some e)) fine d).1 in
      let fine_e = fine_front decls (expression sc Inside e) _ (fine_rest decls (declared_type_name (globals decls) ty) _ (fine_tail decls _ _ own)) in
      let typed : type_of sc e ≡ Some t = same_type (type_of sc e) (Some t) (sym (type_is decls width fine place (typed_below decls width fine place) at name ty (Some e) d) ∙ h) in
      subst (λ u. FitsValue the_program u t) (sym (found_at vals place (value.Truth false) _ (value_at place (ConstDecl at name ty (Some e)) d)))
      (fits_tree decls the_program in_range sc refl (take place vals) (λ x u k. name_fits place below x (globals decls x) u refl k) e Inside (tree_of e) fine_e t typed)

  fits_below : (n : ℕ) → FitBelow n
  fits_below zero place x within d t h = absurd (not_below place within)
  fits_below (suc n) place x within d t h =
      constant_fits place (λ p y inside c u k. fits_below n p y (earlier p place n inside within) c u k) d.at d.name d.ty d.value d.declared t h

  value_fits : (x : Name) (m : Option Meaning) (t : Ty) → globals decls x ≡ m → constant_meant known_types m ≡ Some t → FitsValue the_program (value_meant vals m) t
  value_fits x None t e h = cc h
  value_fits x (Some (means.Enumeration ty)) t e h = cc h
  value_fits x (Some (means.Node place)) t e h = cc h
  value_fits x (Some (means.Enumerator ty i)) t e h = choice_fits ty i t (declared_meaning decls x (means.Enumerator ty i) e) (some_type (type.Choice ty) t h)
  value_fits x (Some (means.Constant place)) t e h =
      fits_below (suc place) place x (omega arith) (declared_meaning decls x (means.Constant place) e) t (flat_is (slice_get known_types place) t h)

  pub has_values : HasValues the_program
  has_values = record { values = λ x t h. value_fits x (globals decls x) t refl h }
