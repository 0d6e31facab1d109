-- An expression whose occurrences are fine has the types that the program gives it.
use Rattle.std.proofs.Common.{◌≡◌, ◌∙◌, ℕ, suc, ◌≤◌, Bool, true, false, not, ◌&&◌, ◌||◌, ◌==◌, cond, List, [], ◌∷◌, length, map, Option, Some, None, slice_get, refl, sym, ap, subst, true≢false, arith}
use Rattle.std.proofs.lemmas.Bool.{eqb-true}
use Rattle.std.proofs.lemmas.List.{length-map}
use Rattle.std.specs.List.{flat_map}
use Rattle.lus_syntax.specs.declared.ast.BinOp.{BinOp}
use Rattle.lus_syntax.specs.declared.ast.BinOp.TheVariants as two
use Rattle.lus_syntax.specs.declared.ast.Decl.{Decl}
use Rattle.lus_syntax.specs.declared.ast.Expr.{Expr}
use Rattle.lus_syntax.specs.declared.ast.ExprKind.TheVariants as tree
use Rattle.lus_syntax.specs.declared.ast.ExprKind.TheOpen as level
use Rattle.lus_syntax.specs.declared.ast.UnOp.{UnOp}
use Rattle.lus_syntax.specs.declared.ast.UnOp.TheVariants as one
use Rattle.lus_types.specs.declared.expressions.scope.Signature.{Signature}
use Rattle.lus_types.specs.declared.fault.TypeKind.TheVariants as kind
use Rattle.lus_types.specs.declared.types.Meaning.{Meaning}
use Rattle.lus_types.specs.declared.types.Meaning.TheVariants as means
use Rattle.lus_types.specs.declared.types.Position.{Position}
use Rattle.lus_types.specs.declared.types.Position.TheVariants.{Whole, Negated, Inside}
use Rattle.op_network.specs.declared.form.Binary.TheVariants as network_two
use Rattle.op_network.specs.declared.form.Unary.TheVariants as network_one
use Rattle.op_network.specs.declared.value.Ty.{Ty}
use Rattle.op_network.specs.declared.value.Ty.TheVariants.{Truth, Word, Choice}
use Rattle.lus_types.specs.Calls.{here}
use Rattle.lus_types.specs.Kinds.{means_no_node, too_many_results, wrong_numbers, wrong_arguments}
use Rattle.lus_types.specs.Names.{Name}
use Rattle.lus_types.specs.Occurrences.{Scope, Unary, Binary, Conditional, Call, flat, is_missing, signature_named, signature_meant, typed_call, value_named}
use Rattle.lus_types.specs.Programs.{Node, types}
use Rattle.lus_types.specs.ProgramTypes.{HasTypes, HaveTypes, types_name, types_number, types_truth, types_unary, types_pre, types_binary, types_arrow, types_if, types_call, no_types, more_types}
use Rattle.lus_types.specs.Types.{unary, unary_of, binary, binary_of, conditional_of, all_typed, any_differ}
use Rattle.op_network.specs.Operators.{is_same_type}
use Rattle.lus_types.specs.Walk.{Judged, judge, judge_level, occurs, operand_of, results_of, the_one, the_one_of, types_of, type_of, untyped}
use Rattle.lus_types.proofs.FineHeaders.{is_no}
use Rattle.lus_types.proofs.FineParts.{AreFine, fine_front, fine_rest}
use Rattle.lus_types.proofs.Judging.{judge_name, judge_number, judge_truth, judge_one, judge_two, judge_cond, judge_call}
use Rattle.lus_types.proofs.Trees.{Tree, Trees, t_name, t_number, t_truth, t_one, t_two, t_cond, t_call, t_none, t_more, tree_of}

there_is : {A : Type 0} → (o : Option A) → (is_missing o ≡ true → ⊥) → (a : A) × (o ≡ Some a)
there_is None h = absurd (h refl)
there_is (Some a) h = (a, refl)

node_there : (m : Option Meaning) → (is_missing m ≡ true → ⊥) → (means_no_node m ≡ true → ⊥) → (c : ℕ) × (m ≡ Some (means.Node c))
node_there None h k = absurd (h refl)
node_there (Some (means.Node c)) h k = (c, refl)
node_there (Some (means.Enumeration p)) h k = absurd (k refl)
node_there (Some (means.Constant p)) h k = absurd (k refl)
node_there (Some (means.Enumerator ty i)) h k = absurd (k refl)

not_one : (n : ℕ) → 2 ≤ n → n ≡ 1 → ⊥
not_one n h e = omega arith

two_or_more : (n : ℕ) → 2 ≤ n → not (n == 1) ≡ true
two_or_more n h = ap not (is_no (n == 1) (λ e. not_one n h (eqb-true n 1 e)))

one_of : (ts : List Ty) → (not (length ts == 1) ≡ true → ⊥) → (t : Ty) × (ts ≡ t ∷ [])
one_of [] h = absurd (h refl)
one_of (t ∷ []) h = (t, refl)
one_of (t ∷ u ∷ ts) h = absurd (h (two_or_more (length (t ∷ u ∷ ts)) (omega arith)))

no_mismatch : (o : Option Ty) (typed : Bool) → typed ≡ true → ((typed && is_missing o) ≡ true → ⊥) → (t : Ty) × (o ≡ Some t)
no_mismatch o true e h = there_is o h
no_mismatch o false e h = absurd (true≢false (sym e))

pub all_some : (ts : List Ty) → all_typed (map Some ts) ≡ true
all_some [] = refl
all_some (t ∷ ts) = all_some ts

pub same_is : (a b : Ty) → is_same_type a b ≡ true → a ≡ b
same_is Truth Truth h = refl
same_is Truth Word h = absurd (true≢false (sym h))
same_is Truth (Choice e) h = absurd (true≢false (sym h))
same_is Word Truth h = absurd (true≢false (sym h))
same_is Word Word h = refl
same_is Word (Choice e) h = absurd (true≢false (sym h))
same_is (Choice d) Truth h = absurd (true≢false (sym h))
same_is (Choice d) Word h = absurd (true≢false (sym h))
same_is (Choice d) (Choice e) h = ap Choice (eqb-true d e h)

shorter : (m n : ℕ) → suc m ≡ suc n → m ≡ n
shorter m n h = omega arith

all_three : (a b c : Bool) → a ≡ true → b ≡ true → c ≡ true → (a && (b && c)) ≡ true
all_three a b c h k l = λ i. h i && (k i && l i)

no_second : (a b : Bool) → a ≡ true → ((a && b) ≡ true → ⊥) → b ≡ false
no_second true b e h = is_no b h
no_second false b e h = absurd (true≢false (sym e))

not_false : (b : Bool) → not b ≡ false → b ≡ true
not_false true h = refl
not_false false h = absurd (true≢false h)

neither : (a b : Bool) → ((a || b) ≡ true → ⊥) → (a ≡ false) × (b ≡ true → ⊥)
neither true b h = absurd (h refl)
neither false b h = (refl, h)

-- the numbers of arguments and results fit
numbers_fit : (p : Position) (n : ℕ) (sig : Signature) → (wrong_numbers p n (Some sig) ≡ true → ⊥) → (n ≡ length sig.params) × (too_many_results p (length sig.results) ≡ true → ⊥)
numbers_fit p n sig h = let both = neither (not (n == length sig.params)) (too_many_results p (length sig.results)) h in (eqb-true n (length sig.params) (not_false (n == length sig.params) both.0), both.1)

pub none_differ : (ts us : List Ty) → length ts ≡ length us → any_differ (map Some ts) (map Some us) ≡ false → ts ≡ us
none_differ [] [] l h = refl
none_differ [] (u ∷ us) l h = cc l
none_differ (t ∷ ts) [] l h = cc l
none_differ (t ∷ ts) (u ∷ us) l h = elim (is_same_type t u) as (λ b. is_same_type t u ≡ b → cond (cond b false true) true (any_differ (map Some ts) (map Some us)) ≡ false → t ∷ ts ≡ u ∷ us) [
  | true ↦ λ e g. λ i. same_is t u e i ∷ none_differ ts us (shorter _ _ l) g i
  | false ↦ λ e g. absurd (true≢false g)
] refl h

module _ (decls : List Decl) (s : Scope) (name_type : Name → Option Ty) (node : Name → Option Node) where
  -- a name with a value has a type, which the program gives it
  abbrev pub NamesAreTyped : Type 0
  NamesAreTyped = (x : Name) (o : Option Ty) → value_named s x ≡ Some o → (t : Ty) × (o ≡ Some t) × (name_type x ≡ Some t)

  -- a calls node is one of the program, and the signature is that of its variables
  pub record IsCalledNode (f : Name) (c : ℕ) : Type 0 where
    pub callee : Node
    pub is_node : node f ≡ Some callee
    pub signature : Signature
    pub is_signature : flat (slice_get s.signatures c) ≡ Some signature
    pub params : signature.params ≡ map Some (types callee.inputs)
    pub results : signature.results ≡ map Some (types callee.outputs)

  abbrev pub CallsAreTyped : Type 0
  CallsAreTyped = (f : Name) (c : ℕ) → s.globals f ≡ Some (means.Node c) → IsCalledNode f c

  abbrev Typed : Expr → List Ty → Type 0
  Typed e ts = HasTypes name_type node e ts

  same_type : (s t : Ty) → Some s ≡ Some t → s ≡ t
  same_type s t h = cc h

  -- the rule of each operator
  by_unary : (e : Expr) (op : UnOp) (a : Expr) (s t : Ty) → e.kind ≡ tree.One op a → unary op s ≡ Some t → Typed a (s ∷ []) → Typed e (t ∷ [])
  by_unary e one.Not a s t h k w = types_unary one.Not network_one.Not a h refl k w
  by_unary e one.Neg a s t h k w = types_unary one.Neg network_one.Neg a h refl k w
  by_unary e one.Pre a s t h k w = subst (λ u. Typed e (u ∷ [])) (same_type s t k) (types_pre a h w)
  by_unary e one.Current a s t h k w = cc k

  by_binary : (e : Expr) (op : BinOp) (a b : Expr) (r s t : Ty) → e.kind ≡ tree.Two op a b → binary op r s ≡ Some t → Typed a (r ∷ []) → Typed b (s ∷ []) → Typed e (t ∷ [])
  by_binary e two.And a b r s t h k v w = types_binary two.And network_two.And a b h refl k v w
  by_binary e two.Or a b r s t h k v w = types_binary two.Or network_two.Or a b h refl k v w
  by_binary e two.Xor a b r s t h k v w = types_binary two.Xor network_two.Xor a b h refl k v w
  by_binary e two.Imp a b r s t h k v w = types_binary two.Imp network_two.Imp a b h refl k v w
  by_binary e two.Eq a b r s t h k v w = types_binary two.Eq network_two.Eq a b h refl k v w
  by_binary e two.Ne a b r s t h k v w = types_binary two.Ne network_two.Ne a b h refl k v w
  by_binary e two.Lt a b r s t h k v w = types_binary two.Lt network_two.Lt a b h refl k v w
  by_binary e two.Le a b r s t h k v w = types_binary two.Le network_two.Le a b h refl k v w
  by_binary e two.Gt a b r s t h k v w = types_binary two.Gt network_two.Gt a b h refl k v w
  by_binary e two.Ge a b r s t h k v w = types_binary two.Ge network_two.Ge a b h refl k v w
  by_binary e two.Add a b r s t h k v w = types_binary two.Add network_two.Add a b h refl k v w
  by_binary e two.Sub a b r s t h k v w = types_binary two.Sub network_two.Sub a b h refl k v w
  by_binary e two.Mul a b r s t h k v w = types_binary two.Mul network_two.Mul a b h refl k v w
  by_binary e two.Arrow a b r s t h k v w = types_arrow a b h k v w
  by_binary e two.Div a b r s t h k v w = cc k
  by_binary e two.Mod a b r s t h k v w = cc k
  by_binary e two.Fby a b r s t h k v w = cc k
  by_binary e two.When a b r s t h k v w = cc k

  -- the types of an expression in a position
  pub record IsTyped (e : Expr) (p : Position) : Type 0 where
    pub tys : List Ty
    pub right : (judge s e).right ≡ Some (map Some tys)
    pub ty : (judge s e).ty ≡ the_one (map Some tys)
    pub typed : Typed e tys
    pub number : too_many_results p (length tys) ≡ true → ⊥

  pub record IsTypedPart (e : Expr) : Type 0 where
    pub ty : Ty
    pub is_type : type_of s e ≡ Some ty
    pub typed : Typed e (ty ∷ [])

  pub record AreTypedParts (es : List Expr) : Type 0 where
    pub tys : List Ty
    pub are_types : types_of (map (judge s) es) ≡ map Some tys
    pub typed : HaveTypes name_type node es tys

  one_result : (p : Position) → too_many_results p 1 ≡ true → ⊥
  one_result Whole h = true≢false (sym h)
  one_result Negated h = true≢false (sym h)
  one_result Inside h = true≢false (sym h)

  single_of : (e : Expr) (p : Position) (j : Judged) → judge s e ≡ j → j.right ≡ Some (j.ty ∷ []) → (t : Ty) → j.ty ≡ Some t → Typed e (t ∷ []) → IsTyped e p
  single_of e p j is r t h k = record {
    tys = t ∷ [];
    right = ap (λ (j : Judged). j.right) is ∙ r ∙ ap (λ o. Some (o ∷ [])) h;
    ty = ap (λ (j : Judged). j.ty) is ∙ h;
    typed = k;
    number = one_result p;
  }

  part_of : (e : Expr) (p : Position) → ((n : ℕ) → not (n == 1) ≡ too_many_results p n) → IsTyped e p → IsTypedPart e
  part_of e p is_part w =
      let only = one_of w.tys (λ h. w.number (sym (is_part (length w.tys)) ∙ h)) in
      record { ty = only.0; is_type = w.ty ∙ ap (λ ts. the_one (map Some ts)) only.1; typed = subst (Typed e) only.1 w.typed }

  operand_is_part : (op : UnOp) (n : ℕ) → not (n == 1) ≡ too_many_results (operand_of op) n
  operand_is_part one.Not n = refl
  operand_is_part one.Neg n = refl
  operand_is_part one.Pre n = refl
  operand_is_part one.Current n = refl

  module _ (named : NamesAreTyped) (calls : CallsAreTyped) where
    name_typed : (e : Expr) (p : Position) (x : Name) → e.kind ≡ tree.Name x → AreFine decls ((judge s e).walk p) → IsTyped e p
    name_typed e p x h f =
        let is = judge_name s e x h in
        let fine = subst (λ (j : Judged). AreFine decls (j.walk p)) is f in
        let value = there_is (value_named s x) (fine _ here kind.Unknown) in
        let t = named x value.0 value.1 in
        single_of e p (judge_level s (level.Name x) e.at) is refl t.0 (ap flat value.1 ∙ t.1) (types_name x t.0 h t.2)

    unary_typed : (e : Expr) (p : Position) (op : UnOp) (a : Expr) → e.kind ≡ tree.One op a → AreFine decls (occurs e.at (Unary s op (type_of s a)) ∷ []) → IsTypedPart a → IsTyped e p
    unary_typed e p op a h f w =
        let own = f _ here in
        let result = no_mismatch (unary_of op (type_of s a)) (all_typed (type_of s a ∷ [])) (ap (λ o. all_typed (o ∷ [])) w.is_type) (own kind.Mismatch) in
        single_of e p (judge_level s (level.One op (judge s a)) e.at) (judge_one s e op a h) refl result.0 result.1
        (by_unary e op a w.ty result.0 h (ap (unary_of op) (sym w.is_type) ∙ result.1) w.typed)

    binary_typed : (e : Expr) (p : Position) (op : BinOp) (a b : Expr) → e.kind ≡ tree.Two op a b → AreFine decls (occurs e.at (Binary s op (type_of s a) (type_of s b)) ∷ []) → IsTypedPart a → IsTypedPart b → IsTyped e p
    binary_typed e p op a b h f v w =
        let own = f _ here in
        let result = no_mismatch (binary_of op (type_of s a) (type_of s b)) (all_typed (type_of s a ∷ type_of s b ∷ [])) (λ i. all_typed (v.is_type i ∷ w.is_type i ∷ [])) (own kind.Mismatch) in
        single_of e p (judge_level s (level.Two op (judge s a) (judge s b)) e.at) (judge_two s e op a b h) refl result.0 result.1
        (by_binary e op a b v.ty w.ty result.0 h ((λ i. binary_of op (sym v.is_type i) (sym w.is_type i)) ∙ result.1) v.typed w.typed)

    if_typed : (e : Expr) (p : Position) (a b c : Expr) → e.kind ≡ tree.Cond a b c → AreFine decls (occurs e.at (Conditional (type_of s a) (type_of s b) (type_of s c)) ∷ []) → IsTypedPart a → IsTypedPart b → IsTypedPart c → IsTyped e p
    if_typed e p a b c h f u v w =
        let own = f _ here in
        let result = no_mismatch (conditional_of (type_of s a) (type_of s b) (type_of s c)) (all_typed (type_of s a ∷ type_of s b ∷ type_of s c ∷ [])) (λ i. all_typed (u.is_type i ∷ v.is_type i ∷ w.is_type i ∷ [])) (own kind.Mismatch) in
        single_of e p (judge_level s (level.Cond (judge s a) (judge s b) (judge s c)) e.at) (judge_cond s e a b c h) refl result.0 result.1
        (types_if a b c h ((λ i. conditional_of (sym u.is_type i) (sym v.is_type i) (sym w.is_type i)) ∙ result.1) u.typed v.typed w.typed)

    call_typed : (e : Expr) (p : Position) (g : Name) (args : List Expr) → e.kind ≡ tree.Call g args → AreFine decls (occurs e.at (Call s p g (types_of (map (judge s) args))) ∷ []) → AreTypedParts args → IsTyped e p
    call_typed e p g args h f w =
        let own = f _ here in
        let at = node_there (s.globals g) (own kind.Unknown) (own kind.NotANode) in
        let call = calls g at.0 at.1 in
        let sig : signature_named s g ≡ Some call.signature = ap (signature_meant s.signatures) at.1 ∙ call.is_signature in
        let given = types_of (map (judge s) args) in
        let ins = types call.callee.inputs in
        let outs = types call.callee.outputs in
        let numbers = numbers_fit p (length given) call.signature (λ k. own kind.Arity (ap (wrong_numbers p (length given)) sig ∙ k)) in
        let all : typed_call given call.signature ≡ true =
        all_three _ _ _ (ap all_typed w.are_types ∙ all_some w.tys) (ap all_typed call.params ∙ all_some ins) (ap all_typed call.results ∙ all_some outs) in
        let alike = no_second _ (any_differ given call.signature.params) all (λ k. own kind.Mismatch (ap (wrong_arguments given) sig ∙ k)) in
        let long = sym (length-map w.tys Some) ∙ ap length (sym w.are_types) ∙ numbers.0 ∙ ap length call.params ∙ length-map ins Some in
        let given_is = none_differ w.tys ins long ((λ i. any_differ (sym w.are_types i) (sym call.params i)) ∙ alike) in
        let results = ap (λ o. results_of o given) sig ∙ ap (λ b. Some (cond b call.signature.results (untyped call.signature.results))) all ∙ ap Some call.results in
        record {
          tys = outs;
          right = ap (λ (j : Judged). j.right) (judge_call s e g args h) ∙ results;
          ty = ap (λ (j : Judged). j.ty) (judge_call s e g args h) ∙ ap the_one_of results;
          typed = types_call g args call.callee h call.is_node (subst (HaveTypes name_type node args) given_is w.typed);
          number = λ k. numbers.1 (ap (too_many_results p) (ap length call.results ∙ length-map outs Some) ∙ k);
        }

    mutual
      pub typed_tree : (e : Expr) (p : Position) → Tree e → AreFine decls ((judge s e).walk p) → IsTyped e p
      typed_tree e p (t_name x h) f = name_typed e p x h f
      typed_tree e p (t_number n h) f = single_of e p (judge_level s (level.Number n) e.at) (judge_number s e n h) refl Word refl (types_number n h)
      typed_tree e p (t_truth b h) f = single_of e p (judge_level s (level.Truth b) e.at) (judge_truth s e b h) refl Truth refl (types_truth b h)
      typed_tree e p (t_one op a h t) f =
          let fine = subst (λ (j : Judged). AreFine decls (j.walk p)) (judge_one s e op a h) f in
          let q = operand_of op in
          unary_typed e p op a h (fine_rest decls ((judge s a).walk q) _ fine) (part_of a q (operand_is_part op) (typed_tree a q t (fine_front decls ((judge s a).walk q) _ fine)))
      typed_tree e p (t_two op a b h t u) f =
          let fine = subst (λ (j : Judged). AreFine decls (j.walk p)) (judge_two s e op a b h) f in
          let after = fine_rest decls ((judge s a).walk Inside) _ fine in
          binary_typed e p op a b h (fine_rest decls ((judge s b).walk Inside) _ after)
          (part_of a Inside (λ n. refl) (typed_tree a Inside t (fine_front decls ((judge s a).walk Inside) _ fine)))
          (part_of b Inside (λ n. refl) (typed_tree b Inside u (fine_front decls ((judge s b).walk Inside) _ after)))
      typed_tree e p (t_cond a b c h t u v) f =
          let fine = subst (λ (j : Judged). AreFine decls (j.walk p)) (judge_cond s e a b c h) f in
          let after = fine_rest decls ((judge s a).walk Inside) _ fine in
          let last = fine_rest decls ((judge s b).walk Inside) _ after in
          if_typed e p a b c h (fine_rest decls ((judge s c).walk Inside) _ last)
          (part_of a Inside (λ n. refl) (typed_tree a Inside t (fine_front decls ((judge s a).walk Inside) _ fine)))
          (part_of b Inside (λ n. refl) (typed_tree b Inside u (fine_front decls ((judge s b).walk Inside) _ after)))
          (part_of c Inside (λ n. refl) (typed_tree c Inside v (fine_front decls ((judge s c).walk Inside) _ last)))
      typed_tree e p (t_call g args h ts) f =
          let fine = subst (λ (j : Judged). AreFine decls (j.walk p)) (judge_call s e g args h) f in
          let walks = flat_map (λ (j : Judged). j.walk Inside) (map (judge s) args) in
          call_typed e p g args h (fine_rest decls walks _ fine) (typed_trees args ts (fine_front decls walks _ fine))

      typed_trees : (es : List Expr) → Trees es → AreFine decls (flat_map (λ (j : Judged). j.walk Inside) (map (judge s) es)) → AreTypedParts es
      typed_trees [] t_none f = record { tys = []; are_types = refl; typed = no_types }
      typed_trees (e ∷ es) (t_more t ts) f =
          let first = part_of e Inside (λ n. refl) (typed_tree e Inside t (fine_front decls ((judge s e).walk Inside) _ f)) in
          let rest = typed_trees es ts (fine_rest decls ((judge s e).walk Inside) _ f) in
          record { tys = first.ty ∷ rest.tys; are_types = λ i. first.is_type i ∷ rest.are_types i; typed = more_types first.typed rest.typed }

    pub typed_expr : (e : Expr) (p : Position) → AreFine decls ((judge s e).walk p) → IsTyped e p
    typed_expr e p f = typed_tree e p (tree_of e) f

    pub typed_part : (e : Expr) → AreFine decls ((judge s e).walk Inside) → IsTypedPart e
    typed_part e f = part_of e Inside (λ n. refl) (typed_expr e Inside f)
