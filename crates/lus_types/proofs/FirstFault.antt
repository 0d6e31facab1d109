-- The first fault that the code finds is the first failing occurrence, with its first kind; and there is one at most.
use Rattle.std.proofs.Common.{◌≡◌, ◌↔◌, ◌≤◌, ℕ, Bool, true, false, cond, List, [], ◌∷◌, ◌++◌, Option, Some, None, inl, inr, ◌⊎◌, refl, sym, ap, ◌∙◌, subst, true≢false, is_some, unwrap_or, get_or, arith}
use Rattle.std.proofs.Math.Dec.{leb}
use Rattle.std.proofs.lemmas.Bool.{leb-true}
use Rattle.lus_syntax.specs.declared.ast.Decl.{Decl}
use Rattle.lus_types.specs.declared.fault.TypeFault.{TypeFault}
use Rattle.lus_types.specs.declared.fault.TypeFault.TheVariants.{Bad, Memory}
use Rattle.lus_types.specs.declared.fault.TypeKind.{TypeKind}
use Rattle.lus_types.specs.declared.fault.TypeKind.TheVariants.{Clocked, Unsupported, Duplicate, Unknown, NotANode, Arity, Mismatch, LiteralRange, Undefined, DefinedTwice, DefinesInput, RecursiveNode, NoMain}
use Rattle.lus_types.specs.Calls.{In, here, there}
use Rattle.lus_types.specs.Checking.{Recursions, fails, is_recursive, kinds, first_passing, kind_of, fault_at, fault_in, or_else}
use Rattle.lus_types.specs.Kinds.{Fails, IsRecursiveNode, rank}
use Rattle.lus_types.specs.Occurrences.{Occurrence, Thing}
use Rattle.lus_types.specs.Typing.{IsFine, IsFirstFault}
use Rattle.lus_types.specs.Walk.{occurs}

-- the test of recursion is right here
abbrev pub Decides : List Decl → Recursions → Thing → Type 0
Decides decls r thing = (is_recursive r thing ≡ true) ↔ IsRecursiveNode decls thing

abbrev pub Exact : List Decl → Recursions → List Occurrence → Type 0
Exact decls r os = (o : Occurrence) → In o os → Decides decls r o.thing

listed : (k : TypeKind) → In k kinds
listed Clocked = here
listed Unsupported = there here
listed Duplicate = there (there here)
listed Unknown = there (there (there here))
listed NotANode = there (there (there (there here)))
listed Arity = there (there (there (there (there here))))
listed Mismatch = there (there (there (there (there (there here)))))
listed LiteralRange = there (there (there (there (there (there (there here))))))
listed Undefined = there (there (there (there (there (there (there (there here)))))))
listed DefinedTwice = there (there (there (there (there (there (there (there (there here))))))))
listed DefinesInput = there (there (there (there (there (there (there (there (there (there here)))))))))
listed RecursiveNode = there (there (there (there (there (there (there (there (there (there (there here))))))))))
listed NoMain = there (there (there (there (there (there (there (there (there (there (there (there here)))))))))))

from_test : (decls : List Decl) (r : Recursions) (thing : Thing) (k : TypeKind) → Decides decls r thing → fails r thing k ≡ true → Fails decls k thing
from_test decls r thing Clocked d h = h
from_test decls r thing Unsupported d h = h
from_test decls r thing Duplicate d h = h
from_test decls r thing Unknown d h = h
from_test decls r thing NotANode d h = h
from_test decls r thing Arity d h = h
from_test decls r thing Mismatch d h = h
from_test decls r thing LiteralRange d h = h
from_test decls r thing Undefined d h = h
from_test decls r thing DefinedTwice d h = h
from_test decls r thing DefinesInput d h = h
from_test decls r thing RecursiveNode d h = d.0 h
from_test decls r thing NoMain d h = h

to_test : (decls : List Decl) (r : Recursions) (thing : Thing) (k : TypeKind) → Decides decls r thing → Fails decls k thing → fails r thing k ≡ true
to_test decls r thing Clocked d h = h
to_test decls r thing Unsupported d h = h
to_test decls r thing Duplicate d h = h
to_test decls r thing Unknown d h = h
to_test decls r thing NotANode d h = h
to_test decls r thing Arity d h = h
to_test decls r thing Mismatch d h = h
to_test decls r thing LiteralRange d h = h
to_test decls r thing Undefined d h = h
to_test decls r thing DefinedTwice d h = h
to_test decls r thing DefinesInput d h = h
to_test decls r thing RecursiveNode d h = d.1 h
to_test decls r thing NoMain d h = h

-- whether each rank in the list is at least this one
abbrev at_least : ℕ → List TypeKind → Bool
at_least n [] = true
at_least n (k ∷ ks) = cond (leb n (rank k)) (at_least n ks) false

abbrev ascending : List TypeKind → Bool
ascending [] = true
ascending (k ∷ ks) = cond (at_least (rank k) ks) (ascending ks) false

both : (a b : Bool) → cond a b false ≡ true → (a ≡ true) × (b ≡ true)
both true b h = (refl, h)
both false b h = absurd (true≢false (sym h))

head_or_tail : {A : Type 0} {x y : A} {ys : List A} → In x (y ∷ ys) → (x ≡ y) ⊎ In x ys
head_or_tail here = inl refl
head_or_tail (there i) = inr i

no_item : {A : Type 0} {x : A} → In x [] → ⊥
no_item i = elim i [ ]

ranked : (n : ℕ) (ks : List TypeKind) (k : TypeKind) → at_least n ks ≡ true → In k ks → n ≤ rank k
ranked n [] k h i = absurd (no_item i)
ranked n (x ∷ xs) k h i = let w = both (leb n (rank x)) (at_least n xs) h in elim (head_or_tail i) [
  | inl e ↦ subst (λ y. n ≤ rank y) (sym e) (leb-true n (rank x) w.0)
  | inr j ↦ ranked n xs k w.1 j
]

abbrev head_or : {A : Type 0} → A → List A → A
head_or d [] = d
head_or d (x ∷ xs) = x

abbrev tail_or_none : {A : Type 0} → List A → List A
tail_or_none [] = []
tail_or_none (x ∷ xs) = xs

abbrev kind_in : TypeFault → TypeKind
kind_in (Bad kind at) = kind
kind_in Memory = Clocked

abbrev place_in : TypeFault → ℕ
place_in (Bad kind at) = at
place_in Memory = 0

head_of : {A : Type 0} {x y : A} {xs ys : List A} → x ∷ xs ≡ y ∷ ys → x ≡ y
head_of {A} {x} h = ap (λ l. head_or x l) h

tail_of : {A : Type 0} {x y : A} {xs ys : List A} → x ∷ xs ≡ y ∷ ys → xs ≡ ys
tail_of h = ap tail_or_none h

some_of : {A : Type 0} {x y : A} → Some x ≡ Some y → x ≡ y
some_of {A} {x} h = ap (λ o. unwrap_or o x) h

-- the first kind that passes is that of the least rank
passing : (test : TypeKind → Bool) (ks : List TypeKind) (k : TypeKind) → ascending ks ≡ true → first_passing test ks ≡ Some k → (test k ≡ true) × ((other : TypeKind) → In other ks → test other ≡ true → rank k ≤ rank other)
passing test [] k up h = absurd (true≢false (ap is_some (sym h)))
passing test (x ∷ xs) k up h =
    let w = both (at_least (rank x) xs) (ascending xs) up in
    elim (test x) as (λ b. test x ≡ b → cond b (Some x) (first_passing test xs) ≡ Some k → (test k ≡ true) × ((other : TypeKind) → In other (x ∷ xs) → test other ≡ true → rank k ≤ rank other)) [
      | true ↦ λ e g. let is = some_of g in (
        subst (λ y. test y ≡ true) is e,
        λ other i t. elim (head_or_tail i) [
          | inl same ↦ subst (λ y. rank k ≤ rank y) (sym is ∙ sym same) (omega arith)
          | inr j ↦ subst (λ y. rank y ≤ rank other) is (ranked (rank x) xs other w.0 j)
        ],
      )
      | false ↦ λ e g. let rest = passing test xs k w.1 g in (
        rest.0,
        λ other i t. elim (head_or_tail i) [
          | inl same ↦ absurd (true≢false (sym t ∙ ap test same ∙ e))
          | inr j ↦ rest.1 other j t
        ],
      )
    ] refl h

none_passing : (test : TypeKind → Bool) (ks : List TypeKind) → first_passing test ks ≡ None → (other : TypeKind) → In other ks → test other ≡ false
none_passing test [] h other i = absurd (no_item i)
none_passing test (x ∷ xs) h other i = elim (test x) as (λ b. test x ≡ b → cond b (Some x) (first_passing test xs) ≡ None → test other ≡ false) [
  | true ↦ λ e g. absurd (true≢false (ap is_some g))
  | false ↦ λ e g. elim (head_or_tail i) [
    | inl same ↦ ap test same ∙ e
    | inr j ↦ none_passing test xs g other j
  ]
] refl h

module _ (decls : List Decl) (r : Recursions) where
  fine_here : (o : Occurrence) → Decides decls r o.thing → kind_of r o.thing ≡ None → IsFine decls o
  fine_here o d h = λ k f. true≢false (sym (to_test decls r o.thing k d f) ∙ none_passing (fails r o.thing) kinds h k (listed k))

  -- where nothing fails no kind is found
  pub none_here : (o : Occurrence) → Decides decls r o.thing → IsFine decls o → kind_of r o.thing ≡ None
  none_here o d f = elim (kind_of r o.thing) as (λ k. kind_of r o.thing ≡ k → k ≡ None) [
    | None ↦ λ e. refl
    | Some k ↦ λ e. absurd (f k (from_test decls r o.thing k d (passing (fails r o.thing) kinds k refl e).0))
  ] refl

  at_none : (at : ℕ) (k : Option TypeKind) → fault_at at k ≡ None → k ≡ None
  at_none at None h = refl
  at_none at (Some k) h = absurd (true≢false (ap is_some h))

  none_of : (f g : Option TypeFault) → or_else f g ≡ None → (f ≡ None) × (g ≡ None)
  none_of None g h = (refl, h)
  none_of (Some f) g h = absurd (true≢false (ap is_some h))

  -- where no fault is found no occurrence fails
  pub clean : (os : List Occurrence) → Exact decls r os → fault_in r os ≡ None → (o : Occurrence) → In o os → IsFine decls o
  clean [] x h o i = absurd (no_item i)
  clean (y ∷ ys) x h o i =
      let w = none_of (fault_at y.at (kind_of r y.thing)) (fault_in r ys) h in
      elim (head_or_tail i) [
        | inl same ↦ subst (IsFine decls) (sym same) (fine_here y (x y here) (at_none y.at (kind_of r y.thing) w.0))
        | inr j ↦ clean ys (λ z k. x z (there k)) w.1 o j
      ]

  here_at : (o : Occurrence) (after : List Occurrence) (k : TypeKind) (at : ℕ) (found : Option TypeKind) → kind_of r o.thing ≡ found → Decides decls r o.thing → fault_at o.at found ≡ Some (Bad k at) → IsFirstFault decls (o ∷ after) k at
  here_at o after k at None e d h = absurd (true≢false (sym (ap is_some h)))
  here_at o after k at (Some found) e d h =
      let same = some_of h in
      let kind : found ≡ k = ap kind_in same in
      let place : o.at ≡ at = ap place_in same in
      let least = passing (fails r o.thing) kinds found refl e in
      record {
        before = [];
        thing = o.thing;
        after = after;
        walked = ap (λ n. occurs n o.thing ∷ after) place;
        fine = λ p i. absurd (no_item i);
        fails = from_test decls r o.thing k d (subst (λ y. fails r o.thing y ≡ true) kind least.0);
        first = λ other f. subst (λ y. rank y ≤ rank other) kind (least.1 other (listed other) (to_test decls r o.thing other d f));
      }

  later_on : (o : Occurrence) (os : List Occurrence) (k : TypeKind) (at : ℕ) → IsFine decls o → IsFirstFault decls os k at → IsFirstFault decls (o ∷ os) k at
  later_on o os k at f w = record {
    before = o ∷ w.before;
    thing = w.thing;
    after = w.after;
    walked = ap (λ rest. o ∷ rest) w.walked;
    fine = λ p i. elim (head_or_tail i) [
      | inl same ↦ subst (IsFine decls) (sym same) f
      | inr j ↦ w.fine p j
    ];
    fails = w.fails;
    first = w.first;
  }

  -- the fault that is found is the first
  pub found_first : (os : List Occurrence) (k : TypeKind) (at : ℕ) → Exact decls r os → fault_in r os ≡ Some (Bad k at) → IsFirstFault decls os k at
  found_first [] k at x h = absurd (true≢false (sym (ap is_some h)))
  found_first (o ∷ os) k at x h = elim (kind_of r o.thing) as (λ found. kind_of r o.thing ≡ found → or_else (fault_at o.at found) (fault_in r os) ≡ Some (Bad k at) → IsFirstFault decls (o ∷ os) k at) [
    | None ↦ λ e g. later_on o os k at (fine_here o (x o here) e) (found_first os k at (λ z j. x z (there j)) g)
    | Some found ↦ λ e g. here_at o os k at (Some found) e (x o here) g
  ] refl h

abbrev kind_of_rank : ℕ → TypeKind
kind_of_rank n = get_or kinds n Clocked

ranks : (k : TypeKind) → kind_of_rank (rank k) ≡ k
ranks Clocked = refl
ranks Unsupported = refl
ranks Duplicate = refl
ranks Unknown = refl
ranks NotANode = refl
ranks Arity = refl
ranks Mismatch = refl
ranks LiteralRange = refl
ranks Undefined = refl
ranks DefinedTwice = refl
ranks DefinesInput = refl
ranks RecursiveNode = refl
ranks NoMain = refl

same_rank : (k l : TypeKind) → rank k ≤ rank l → rank l ≤ rank k → k ≡ l
same_rank k l h g = let e : rank k ≡ rank l = omega arith in sym (ranks k) ∙ ap kind_of_rank e ∙ ranks l

-- two first faults of one walk are one
splits : (decls : List Decl) (xs ys as' bs : List Occurrence) (a b : Occurrence) (k l : TypeKind) → xs ++ a ∷ as' ≡ ys ++ b ∷ bs
    → ((o : Occurrence) → In o xs → IsFine decls o) → ((o : Occurrence) → In o ys → IsFine decls o)
    → Fails decls k a.thing → Fails decls l b.thing → a ≡ b
splits decls [] [] as' bs a b k l e f g h j = head_of e
splits decls [] (y ∷ ys) as' bs a b k l e f g h j = absurd (g y here k (subst (λ o. Fails decls k o.thing) (head_of e) h))
splits decls (x ∷ xs) [] as' bs a b k l e f g h j = absurd (f x here l (subst (λ o. Fails decls l o.thing) (sym (head_of e)) j))
splits decls (x ∷ xs) (y ∷ ys) as' bs a b k l e f g h j = splits decls xs ys as' bs a b k l (tail_of e) (λ o i. f o (there i)) (λ o i. g o (there i)) h j

pub one_fault : (decls : List Decl) (whole : List Occurrence) (k l : TypeKind) (at other : ℕ) → IsFirstFault decls whole k at → IsFirstFault decls whole l other → (k ≡ l) × (at ≡ other)
one_fault decls whole k l at other a b =
    let same = splits decls a.before b.before a.after b.after (occurs at a.thing) (occurs other b.thing) k l (sym a.walked ∙ b.walked) a.fine b.fine a.fails b.fails in
    let things : a.thing ≡ b.thing = ap (λ (o : Occurrence). o.thing) same in (
      same_rank k l (a.first l (subst (Fails decls l) (sym things) b.fails)) (b.first k (subst (Fails decls k) things a.fails)),
      ap (λ (o : Occurrence). o.at) same,
    )

in_middle : {A : Type 0} (xs ys : List A) (x : A) → In x (xs ++ x ∷ ys)
in_middle [] ys x = here
in_middle (y ∷ xs) ys x = there (in_middle xs ys x)

pub not_both : (decls : List Decl) (whole : List Occurrence) (k : TypeKind) (at : ℕ) → IsFirstFault decls whole k at → ((o : Occurrence) → In o whole → IsFine decls o) → ⊥
not_both decls whole k at a fine = fine (occurs at a.thing) (subst (In (occurs at a.thing)) (sym a.walked) (in_middle a.before a.after (occurs at a.thing))) k a.fails
