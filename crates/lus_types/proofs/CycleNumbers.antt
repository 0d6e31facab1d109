-- Numbers of cycles.
use Rattle.std.proofs.Common.{◌≡◌, ◌≢◌, ◌↔◌, ◌⊎◌, inl, inr, ⊎_elim, ℕ, suc, ◌+◌, ◌<◌, ◌≤◌, Bool, true, false, List, [], ◌∷◌, ◌++◌, length, cond, Some, refl, ap, sym, ◌∙◌, subst, arith}
use Rattle.std.proofs.lemmas.Bool.{cases_eq, eqb-true, eq-eqb}
use Rattle.std.proofs.lemmas.List.{length-map}
use Rattle.std.specs.Str.{bytes_eq}
use Rattle.lus_syntax.specs.declared.ast.Decl.{Decl}
use Rattle.lus_syntax.specs.declared.ast.Decl.TheVariants.{TypeDecl, ConstDecl, NodeDecl}
use Rattle.lus_syntax.specs.declared.ast.Spot.{Spot}
use Rattle.lus_types.specs.Checking.{TellsCycles}
use Rattle.lus_types.specs.declared.types.Meaning.{Meaning}
use Rattle.lus_types.specs.declared.types.Meaning.TheVariants.{Enumeration, Constant, Node, Enumerator}
use Rattle.lus_types.specs.Calls.{In, called_by, Calls, IsRecursion}
use Rattle.lus_types.specs.Graphs.{Rows, row, callees, call_rows, Path, step, steps, Ends, all_end, AllEnd, is_marked, IsReach, AreCallers, AreNumbered, Numbers, number}
use Rattle.lus_types.specs.Names.{Name, Globals, Entries, entry_of, enumerators, declares, entries_from, globals, next_type}
use Rattle.lus_types.specs.Views.{recursions}
use Rattle.lus_types.proofs.CallRows.{row_of_call, path_of, reaches}
use Rattle.lus_types.proofs.Searches.{path_inside, row_inside, path_then}

path_on : (rows : Rows) (a b c : ℕ) → Path rows a b → Path rows b c → Path rows a c
path_on rows a b c (step i) p = steps i p
path_on rows a b c (steps i q) p = steps i (path_on rows _ b c q p)

-- where each way ends there is no cycle
no_cycle_at : (rows : Rows) (f : ℕ) → Ends rows f → Path rows f f → ⊥
no_cycle_at rows f (all_end each) (step i) = no_cycle_at rows f (each f i) (step i)
no_cycle_at rows f (all_end each) (steps {g = g} i p) = no_cycle_at rows g (each g i) (path_then rows g f g p i)

-- ways of callers are ways turned round
turned : (rows back : Rows) → AreCallers rows (length rows) back → (a b : ℕ) → Path back a b → Path rows b a
turned rows back h a b (step i) = step (h.only b a i)
turned rows back h a b (steps {g = g} i p) = path_then rows b g a (turned rows back h g b p) (h.only g a i)

turned_back : (rows back : Rows) → AreCallers rows (length rows) back → (a b : ℕ) → b < length rows → Path rows a b → Path back b a
turned_back rows back h a b inside (step i) = step (h.done a b (row_inside rows a b i) i inside)
turned_back rows back h a b inside (steps {g = g} i p) =
    path_then back b g a (turned_back rows back h g b inside p) (h.done a g (row_inside rows a g i) i (path_inside rows g b p))

not_on_cycle : (rows : Rows) (k : ℕ) (numbers : List ℕ) → (Path rows k k → ⊥) → AreNumbered rows k numbers → AreNumbered rows (k + 1) numbers
not_on_cycle rows k numbers off h = record {
  long = h.long;
  own = λ g inside. elim (h.own g inside) [ inl e ↦ inl e | inr o ↦ inr (omega (arith, o.0), o.1) ];
  equal = λ a b below there back. ⊎_elim
      (λ e. absurd (off (subst (λ x. Path rows x x) e (path_on rows a b a there back))))
      (λ apart. h.equal a b (omega arith) there back)
      (cases_eq a k);
}

pub ends_there : (rows : Rows) (k : ℕ) (ending : List Bool) (numbers : List ℕ) → is_marked ending k ≡ true → AllEnd rows ending → AreNumbered rows k numbers → AreNumbered rows (k + 1) numbers
ends_there rows k ending numbers marked ends h = not_on_cycle rows k numbers (no_cycle_at rows k (ends.ending k marked)) h

pub starts_there : (rows back : Rows) (k : ℕ) (starting : List Bool) (numbers : List ℕ) → AreCallers rows (length rows) back → is_marked starting k ≡ true → AllEnd back starting → AreNumbered rows k numbers → AreNumbered rows (k + 1) numbers
starts_there rows back k starting numbers callers marked ends h =
    not_on_cycle rows k numbers (λ p. no_cycle_at back k (ends.ending k marked) (turned_back rows back callers k k (path_inside rows k k p) p)) h

pub numbered_before : (rows : Rows) (k : ℕ) (numbers : List ℕ) → k < length rows → number numbers k ≢ k → AreNumbered rows k numbers → AreNumbered rows (k + 1) numbers
numbered_before rows k numbers inside other h =
    let of_k : (b : ℕ) → Path rows k b → Path rows b k → number numbers k ≡ number numbers b = λ b there back. elim (h.own k inside) [
      | inl e ↦ absurd (other e)
      | inr o ↦ sym (h.equal (number numbers k) k o.0 o.1.0 o.1.1) ∙ h.equal (number numbers k) b o.0 (path_on rows (number numbers k) k b o.1.0 there) (path_on rows b k (number numbers k) back o.1.1)
    ] in
    record {
      long = h.long;
      own = λ g within. elim (h.own g within) [ inl e ↦ inl e | inr o ↦ inr (omega (arith, o.0), o.1) ];
      equal = λ a b below there back. ⊎_elim
          (λ e. ap (number numbers) e ∙ of_k b (subst (λ x. Path rows x b) e there) (subst (Path rows b) e back))
          (λ apart. h.equal a b (omega arith) there back)
          (cases_eq a k);
    }

cases_true : (b : Bool) → (b ≡ true) ⊎ (b ≡ false)
cases_true true = inl refl
cases_true false = inr refl

module _ (rows back : Rows) (k : ℕ) (there homeward : List Bool) (old new : List ℕ) (n : ℕ)
    (callers : AreCallers rows (length rows) back) (inside : k < length rows) (out : IsReach rows k there) (home : IsReach back k homeward)
    (long : length old ≡ n) (numbers : Numbers k there homeward n old new) (before : AreNumbered rows k old) where
  all_inside : length old ≡ length rows
  all_inside = before.long

  on_cycle : (g : ℕ) → Path rows k g → Path rows g k → number new g ≡ k
  on_cycle g p q =
      let within = path_inside rows g k q in
      numbers.both g (omega (arith, all_inside, long)) (out.all g within p) (home.all g (omega (arith, callers.long)) (turned_back rows back callers g k inside q))

  either : (g : ℕ) → (Path rows k g × Path rows g k) ⊎ (number new g ≡ number old g)
  either g = ⊎_elim
      (λ a. ⊎_elim (λ b. inl (out.sound g a, turned rows back callers k g (home.sound g b))) (λ b. inr (numbers.other g (inr b))) (cases_true (is_marked homeward g)))
      (λ a. inr (numbers.other g (inl a)))
      (cases_true (is_marked there g))

  old_equal : (a b : ℕ) → a < k → Path rows a b → Path rows b a → number new a ≡ number new b
  old_equal a b below p q = elim (either a) [
    | inl on ↦ on_cycle a on.0 on.1 ∙ sym (on_cycle b (path_on rows k a b on.0 p) (path_on rows b a k q on.1))
    | inr same ↦ elim (either b) [
      | inl on ↦ on_cycle a (path_on rows k b a on.0 q) (path_on rows a b k p on.1) ∙ sym (on_cycle b on.0 on.1)
      | inr still ↦ same ∙ before.equal a b below p q ∙ sym still
    ]
  ]

  pub numbered_cycle : AreNumbered rows (k + 1) new
  numbered_cycle = record {
    long = numbers.long ∙ before.long;
    own = λ g within. elim (either g) [
      | inl on ↦ let now = on_cycle g on.0 on.1 in inr (omega (arith, now), (subst (λ x. Path rows x g) (sym now) on.0, subst (Path rows g) (sym now) on.1))
      | inr same ↦ elim (before.own g within) [
        | inl e ↦ inl (same ∙ e)
        | inr o ↦ inr (omega (arith, o.0, same), (subst (λ x. Path rows x g) (sym same) o.1.0, subst (Path rows g) (sym same) o.1.1))
      ]
    ];
    equal = λ a b below p q. ⊎_elim
        (λ e.
        let p1 = subst (λ x. Path rows x b) e p in
        let q1 = subst (Path rows b) e q in
        on_cycle a (subst (Path rows k) (sym e) (path_on rows k b k p1 q1)) (subst (λ x. Path rows x k) (sym e) (path_on rows k b k p1 q1)) ∙ sym (on_cycle b p1 q1))
        (λ apart. old_equal a b (omega arith) p q)
        (cases_eq a k);
  }

pub numbered_none : (rows : Rows) (numbers : List ℕ) → length numbers ≡ length rows → ((g : ℕ) → g < length rows → number numbers g ≡ g) → AreNumbered rows 0 numbers
numbered_none rows numbers long own = record { long = long; own = λ g inside. inl (own g inside); equal = λ a b below. absurd (omega arith) }

-- the node that a name means is one of the declarations
BelowNode : ℕ → Meaning → Type 0
BelowNode n (Enumeration q) = Unit {0}
BelowNode n (Constant q) = Unit {0}
BelowNode n (Node q) = q < n
BelowNode n (Enumerator q i) = Unit {0}

Below : ℕ → Entries → Type 0
Below n [] = Unit {0}
Below n (entry ∷ entries) = BelowNode n entry.1 × Below n entries

below_append : (n : ℕ) (xs ys : Entries) → Below n xs → Below n ys → Below n (xs ++ ys)
unfolding Below
below_append n [] ys h k = k
below_append n (x ∷ xs) ys h k = (h.0, below_append n xs ys h.1 k)

below_choices : (n ty i : ℕ) (choices : List Spot) → Below n (enumerators ty i choices)
unfolding Below BelowNode
below_choices n ty i [] = tt
below_choices n ty i (choice ∷ choices) = (tt, below_choices n ty (suc i) choices)

below_declares : (n place kind : ℕ) (decl : Decl) → place < n → Below n (declares place kind decl)
unfolding Below BelowNode
below_declares n place kind (TypeDecl at name choices) h = (tt, below_choices n kind 0 choices)
below_declares n place kind (ConstDecl at name ty value) h = (tt, tt)
below_declares n place kind (NodeDecl at name inputs outputs locals its) h = (h, tt)

below_entries : (n place kind : ℕ) (decls : List Decl) → place + length decls ≤ n → Below n (entries_from place kind decls)
unfolding Below
below_entries n place kind [] h = tt
below_entries n place kind (decl ∷ decls) h =
    below_append n (declares place kind decl) (entries_from (suc place) (next_type kind decl) decls) (below_declares n place kind decl (omega arith)) (below_entries n (suc place) (next_type kind decl) decls (omega arith))

meaning_is : (a b : Meaning) → Some a ≡ Some b → a ≡ b
meaning_is a b e = cc e

below_found : (n : ℕ) (entries : Entries) (x : Name) (q : ℕ) → Below n entries → entry_of entries x ≡ Some (Node q) → q < n
unfolding Below BelowNode
below_found n [] x q h e = cc e
below_found n (entry ∷ entries) x q h e = elim (bytes_eq x entry.0) as (λ b. cond b (Some entry.1) (entry_of entries x) ≡ Some (Node q) → q < n) [
  | true ↦ λ f. subst (BelowNode n) (meaning_is entry.1 (Node q) f) h.0
  | false ↦ λ f. below_found n entries x q h.1 f
] e

node_inside : (decls : List Decl) (x : Name) (q : ℕ) → globals decls x ≡ Some (Node q) → q < length decls
node_inside decls x q e = below_found (length decls) (entries_from 0 0 decls) x q (below_entries (length decls) 0 0 decls (omega arith)) e

-- places of one number are one place, or each reaches the other
one_number : (rows : Rows) (numbers : List ℕ) (a b : ℕ) → AreNumbered rows (length rows) numbers → a < length rows → b < length rows → number numbers a ≡ number numbers b → (a ≡ b) ⊎ Path rows a b
one_number rows numbers a b h ia ib e = elim (h.own a ia) [
  | inl x ↦ elim (h.own b ib) [
    | inl y ↦ inl (sym x ∙ e ∙ y)
    | inr y ↦ inr (subst (λ z. Path rows z b) (sym e ∙ x) y.1.0)
  ]
  | inr x ↦ elim (h.own b ib) [
    | inl y ↦ inr (subst (Path rows a) (e ∙ y) x.1.1)
    | inr y ↦ inr (path_on rows a (number numbers b) b (subst (Path rows a) e x.1.1) y.1.0)
  ]
]

tells_rows : (decls : List Decl) (rows : Rows) (numbers : List ℕ) → rows ≡ call_rows (globals decls) decls → AreNumbered rows (length rows) numbers
    → (caller callee : ℕ) → Calls decls caller callee → (recursions numbers callee caller ≡ true) ↔ IsRecursion decls callee caller
tells_rows decls rows numbers is h caller callee c =
    let call : In callee (row rows caller) = subst (λ (rs : Rows). In callee (row rs caller)) (sym is) (row_of_call decls caller callee c) in
    let width : length rows ≡ length decls = ap length is ∙ length-map decls (λ (d : Decl). callees (globals decls) (called_by d)) in
    let from = row_inside rows caller callee call in
    let to : callee < length rows = omega (arith, width, node_inside decls c.name callee c.means) in (
      λ e. elim (one_number rows numbers callee caller h to from (eqb-true (number numbers callee) (number numbers caller) e)) [
        | inl same ↦ inl same
        | inr p ↦ inr (reaches decls callee caller (subst (λ (rs : Rows). Path rs callee caller) is p))
      ],
      λ r. eq-eqb (number numbers callee) (number numbers caller) (elim r [
        | inl same ↦ ap (number numbers) same
        | inr way ↦ h.equal callee caller to (subst (λ (rs : Rows). Path rs callee caller) (sym is) (path_of decls callee caller way)) (step call)
      ]),
    )

pub tells : (decls : List Decl) (g : Globals) (read rows : Rows) (numbers : List ℕ) → ((x : Name) → g x ≡ globals decls x) → rows ≡ call_rows g decls → read ≡ rows → AreNumbered read (length read) numbers → TellsCycles decls (recursions numbers)
tells decls g read rows numbers same is scope_seen h = tells_rows decls read numbers (scope_seen ∙ is ∙ (λ i. call_rows (λ x. same x i) decls)) h
