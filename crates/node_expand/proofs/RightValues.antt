-- The values of a right side.
use Rattle.std.proofs.Common.{◌≡◌, ℕ, zero, suc, ◌+◌, ◌≤◌, List, [], ◌∷◌, ◌++◌, length, refl, sym, ap, ◌∙◌, subst, arith, get_or}
use Rattle.std.specs.Prelude.{Option, Some, None, All}
use Rattle.lus_syntax.specs.declared.ast.Expr.{Expr}
use Rattle.lus_types.specs.Names.{Name}
use Rattle.lus_types.specs.Programs.{Node, Program, or_truth, type_of_name}
use Rattle.lus_types.specs.declared.types.Constant.{Constant}
use Rattle.lus_types.proofs.Trees.{Tree, t_call, t_cond, t_name, t_number, t_one, t_truth, t_two, tree_of}
use Rattle.op_network.specs.declared.value.Ty.{Ty}
use Rattle.node_expand.specs.declared.limits.TheConstants.{MANY}
use Rattle.node_expand.specs.declared.making.Operand.{Operand}
use Rattle.node_expand.specs.declared.making.Work.{Work}
use Rattle.node_expand.specs.Fragments.{Callees, Fragment, Gate, Places, Placing, first_place, fragment, name_fragment, place_level, place_of}
use Rattle.node_expand.specs.Known.{called, called_level, results_at}
use Rattle.node_expand.specs.Making.{IsMade, IsRight}
use Rattle.node_expand.specs.Names.{constant_in}
use Rattle.node_expand.specs.Small.{AreSmall}
use Rattle.node_expand.proofs.Built.{made_at}
use Rattle.node_expand.proofs.Folds.{folded_call, folded_if, folded_name, folded_number, folded_one, folded_truth, folded_two}

name_value : (c : Option Constant) (ty : Ty) (place at : ℕ) → (name_fragment c ty place at).values ≡ first_place (name_fragment c ty place at).values ∷ []
name_value None ty place at = refl
name_value (Some c) ty place at = refl

abbrev IsSingle : List ℕ → Type 0
IsSingle values = values ≡ first_place values ∷ []

module _ (program : Program) (node : Node) (callees : Callees) (places : Places) where
  abbrev make : Expr → Placing
  make = fragment program node callees places

  single : (e : Expr) (f g : Fragment) → f ≡ g → IsSingle g.values → IsSingle f.values
  single e f g same h = subst (λ (x : Fragment). IsSingle x.values) (sym same) h

  tree_single : {e : Expr} → Tree e → called e ≡ None → (at inner : ℕ) → IsSingle (make e at inner).values
  tree_single {e} (t_name x k) none at inner = single e (make e at inner) _ (ap (λ p. p at inner) (folded_name (place_level program node callees places) e x k)) (name_value (constant_in program node x) (or_truth (type_of_name program node x)) (place_of places x) at)
  tree_single {e} (t_number n k) none at inner = single e (make e at inner) _ (ap (λ p. p at inner) (folded_number (place_level program node callees places) e n k)) refl
  tree_single {e} (t_truth b k) none at inner = single e (make e at inner) _ (ap (λ p. p at inner) (folded_truth (place_level program node callees places) e b k)) refl
  tree_single {e} (t_one o a k p) none at inner = single e (make e at inner) _ (ap (λ p. p at inner) (folded_one (place_level program node callees places) e a o k)) refl
  tree_single {e} (t_two o a b k p q) none at inner = single e (make e at inner) _ (ap (λ p. p at inner) (folded_two (place_level program node callees places) e a b o k)) refl
  tree_single {e} (t_cond a b c k p q r) none at inner = single e (make e at inner) _ (ap (λ p. p at inner) (folded_if (place_level program node callees places) e a b c k)) refl
  tree_single {e} (t_call f args k ps) none at inner = let no : Some f ≡ None = sym (folded_call called_level e f args k) ∙ none in absurd (cc no)

  -- one value, of what is no call
  pub single_value : (e : Expr) (at inner first : ℕ) (list : List ℕ) → called e ≡ None → first ≡ first_place (make e at inner).values → list ≡ first ∷ [] → list ≡ (make e at inner).values
  single_value e at inner first list none is one = one ∙ ap (λ v. v ∷ []) is ∙ sym (tree_single (tree_of e) none at inner)

  tree_call : {e : Expr} → Tree e → (f : Name) → called e ≡ Some f → (at inner : ℕ) → (make e at inner).values ≡ callees.results f inner
  tree_call {e} (t_name x k) f is at inner = let no : None ≡ Some f = sym (folded_name called_level e x k) ∙ is in absurd (cc no)
  tree_call {e} (t_number n k) f is at inner = let no : None ≡ Some f = sym (folded_number called_level e n k) ∙ is in absurd (cc no)
  tree_call {e} (t_truth b k) f is at inner = let no : None ≡ Some f = sym (folded_truth called_level e b k) ∙ is in absurd (cc no)
  tree_call {e} (t_one o a k p) f is at inner = let no : None ≡ Some f = sym (folded_one called_level e a o k) ∙ is in absurd (cc no)
  tree_call {e} (t_two o a b k p q) f is at inner = let no : None ≡ Some f = sym (folded_two called_level e a b o k) ∙ is in absurd (cc no)
  tree_call {e} (t_cond a b c k p q r) f is at inner = let no : None ≡ Some f = sym (folded_if called_level e a b c k) ∙ is in absurd (cc no)
  tree_call {e} (t_call g args k ps) f is at inner =
      let one : Some g ≡ Some f = sym (folded_call called_level e g args k) ∙ is in
      let same : g ≡ f = cc in
      ap (λ p. (p at inner).values) (folded_call (place_level program node callees places) e g args k) ∙ ap (λ h. callees.results h inner) same

  pub call_values : (e : Expr) (f : Name) (at inner : ℕ) → called e ≡ Some f → (make e at inner).values ≡ callees.results f inner
  call_values e f at inner is = tree_call (tree_of e) f is at inner

-- no place is past the most
pub small_at : (results : List (List ℕ)) (o : Option ℕ) → AreSmall results → All (λ k. k ≤ MANY) (results_at results o)
small_at results None all = λ k d h. absurd (omega (arith, h))
small_at results (Some place) all = in_bounds results place all
  where
    in_bounds : (rs : List (List ℕ)) (i : ℕ) → AreSmall rs → All (λ k. k ≤ MANY) (get_or rs i [])
    in_bounds [] i small = λ k d h. absurd (omega (arith, h))
    in_bounds (r ∷ rs) zero small = small 0 [] (omega arith)
    in_bounds (r ∷ rs) (suc i) small = in_bounds rs i (λ k d h. small (suc k) d (omega (arith, h)))

-- the right side as a whole
pub right_made : (callees : Callees) (A : Placing) (at inner : ℕ) (old new : Work) (o : Operand) (values : List ℕ) → old.gates ≡ [] → old.calls ≡ [] → old.inner ≡ inner
    → IsMade callees (A (at + length old.gates) old.inner) old new o → values ≡ (A at inner).values
    → IsRight (A at inner) (record { values = values; gates = new.gates; calls = new.calls })
right_made callees A at inner old new o values gates calls here made is =
    let none : length old.gates ≡ 0 = ap (λ (l : List Gate). length l) gates in
    let h : IsMade callees (A at inner) old new o = made_at callees A old new o (omega (arith, none)) here made in
    record { values = is; own = h.own ∙ ap (λ l. l ++ (A at inner).own) gates; calls = h.calls ∙ ap (λ l. l ++ (A at inner).calls) calls }

pub right_edge : (callees : Callees) (A : Placing) (at inner : ℕ) (old new : Work) (o : Operand) → old.gates ≡ [] → old.inner ≡ inner
    → IsMade callees (A (at + length old.gates) old.inner) old new o → o.edge ≡ first_place (A at inner).values
right_edge callees A at inner old new o gates here made =
    let none : length old.gates ≡ 0 = ap (λ (l : List Gate). length l) gates in
    let h : IsMade callees (A at inner) old new o = made_at callees A old new o (omega (arith, none)) here made in
    h.edge
