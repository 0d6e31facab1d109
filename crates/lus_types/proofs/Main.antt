-- The main node of a program, and where there is none.
use Rattle.std.proofs.Common.{◌≡◌, IfSome, ◌∙◌, ℕ, zero, suc, ◌<◌, ◌≤◌, ⊎_elim, true, false, true≢false, length, slice_get, ap, arith, not, List, [], ◌∷◌, Option, Some, None, refl, sym, subst}
use Rattle.std.proofs.lemmas.Bool.{cases_lt}
use Rattle.lus_syntax.specs.declared.ast.Decl.{Decl}
use Rattle.lus_syntax.specs.declared.ast.Decl.TheVariants.{TypeDecl, ConstDecl, NodeDecl}
use Rattle.lus_types.specs.declared.types.Meaning.{Meaning}
use Rattle.lus_types.specs.declared.types.Meaning.TheVariants.{Enumeration, Constant, Node, Enumerator}
use Rattle.lus_types.specs.Kinds.{any_node, lacks_node}
use Rattle.lus_types.specs.Occurrences.{is_missing, is_node_decl, node_meant}
use Rattle.lus_types.specs.Names.{Name}
use Rattle.lus_types.specs.Typing.{IsLastNode, IsMain, is_node_in, is_node_place}
use Rattle.lus_types.proofs.FineParts.{IsNodeAt, declared_meaning}

-- the last node before a place, if there is one
abbrev pub IsLastBefore : List Decl → ℕ → Option ℕ → Type 0
IsLastBefore decls n None = (p : ℕ) → p < n → is_node_place decls p ≡ false
IsLastBefore decls n (Some q) = (is_node_place decls q ≡ true) × ((p : ℕ) → q < p → p < n → is_node_place decls p ≡ false)

same_place : (p n : ℕ) → p < suc n → n ≤ p → n ≡ p
same_place p n h k = omega arith

-- what holds at n and below n holds below its successor
one_more : (P : ℕ → Type 0) (n : ℕ) → P n → (p : ℕ) → p < suc n → (p < n → P p) → P p
one_more P n h p below k = ⊎_elim (λ less. k less) (λ more. subst P (same_place p n below more) h) (cases_lt p n)

-- behind a declaration that is no node the last node is the same
pub still_last : (decls : List Decl) (n : ℕ) (d : Decl) (last : Option ℕ) → slice_get decls n ≡ Some d → is_node_decl d ≡ false → IsLastBefore decls n last → IsLastBefore decls (suc n) last
still_last decls n d None s e h = λ p below. one_more (λ q. is_node_place decls q ≡ false) n (ap is_node_in s ∙ e) p below (h p)
still_last decls n d (Some q) s e h = (h.0, λ p above below. one_more (λ r. is_node_place decls r ≡ false) n (ap is_node_in s ∙ e) p below (h.1 p above))

none_between : (p n : ℕ) → n < p → p < suc n → ⊥
none_between p n h k = omega arith

-- a node is the last one
pub now_last : (decls : List Decl) (n : ℕ) (d : Decl) → slice_get decls n ≡ Some d → is_node_decl d ≡ true → IsLastBefore decls (suc n) (Some n)
now_last decls n d s e = (ap is_node_in s ∙ e, λ p above below. absurd (none_between p n above below))

no_less : (n : ℕ) → suc n ≤ 0 → ⊥
no_less n h = omega arith

one_less : (m n : ℕ) → suc m ≤ suc n → m ≤ n
one_less m n h = omega arith

both_steps : (l n p : ℕ) → l ≤ n → n ≤ p → l ≤ p
both_steps l n p h k = omega arith

-- past the last declaration nothing stands
past : (decls : List Decl) (p : ℕ) → length decls ≤ p → slice_get decls p ≡ None
past [] p h = refl
past (d ∷ decls) zero h = absurd (no_less (length decls) h)
past (d ∷ decls) (suc p) h = past decls p (one_less (length decls) p h)

within_or_past : (decls : List Decl) (n : ℕ) → length decls ≤ n → (p : ℕ) → (p < n → is_node_place decls p ≡ false) → is_node_place decls p ≡ false
within_or_past decls n long p h = ⊎_elim (λ less. h less) (λ more. ap is_node_in (past decls p (both_steps (length decls) n p long more))) (cases_lt p n)

-- the last node before the end of the text is the last
pub last_found : (decls : List Decl) (n : ℕ) (last : Option ℕ) → length decls ≤ n → IsLastBefore decls n last → IfSome last (IsLastNode decls)
last_found decls n None long h = tt
last_found decls n (Some q) long h = record { node = h.0; last = λ p above. within_or_past decls n long p (h.1 p above) }

any_at : (decls : List Decl) (p : ℕ) → is_node_place decls p ≡ true → any_node decls ≡ true
any_at [] p h = absurd (true≢false (sym h))
any_at (NodeDecl at name i o l its ∷ decls) p h = refl
any_at (TypeDecl at name choices ∷ decls) zero h = absurd (true≢false (sym h))
any_at (TypeDecl at name choices ∷ decls) (suc p) h = any_at decls p h
any_at (ConstDecl at name ty value ∷ decls) zero h = absurd (true≢false (sym h))
any_at (ConstDecl at name ty value ∷ decls) (suc p) h = any_at decls p h

none_at : (decls : List Decl) → ((p : ℕ) → is_node_place decls p ≡ false) → any_node decls ≡ false
none_at [] h = refl
none_at (NodeDecl at name i o l its ∷ decls) h = h 0
none_at (TypeDecl at name choices ∷ decls) h = none_at decls (λ p. h (suc p))
none_at (ConstDecl at name ty value ∷ decls) h = none_at decls (λ p. h (suc p))

pub last_lacks : (decls : List Decl) (n : ℕ) (last : Option ℕ) → length decls ≤ n → IsLastBefore decls n last → not (any_node decls) ≡ is_missing last
last_lacks decls n None long h = ap not (none_at decls (λ p. within_or_past decls n long p (h p)))
last_lacks decls n (Some q) long h = ap not (any_at decls q h.0)

pub named_lacks : (m : Option Meaning) → lacks_node m ≡ is_missing (node_meant m)
named_lacks None = refl
named_lacks (Some (Node place)) = refl
named_lacks (Some (Enumeration place)) = refl
named_lacks (Some (Constant place)) = refl
named_lacks (Some (Enumerator ty i)) = refl

pub named_node : (m : Option Meaning) (place : ℕ) → node_meant m ≡ Some place → m ≡ Some (Node place)
named_node None place h = cc h
named_node (Some (Node p)) place h = cc h
named_node (Some (Enumeration p)) place h = cc h
named_node (Some (Constant p)) place h = cc h
named_node (Some (Enumerator ty i)) place h = cc h

pub if_named : (m : Option Meaning) (o : Option ℕ) → o ≡ node_meant m → IfSome o (λ p. m ≡ Some (Node p))
if_named m None h = tt
if_named m (Some p) h = named_node m p (sym h)

pub main_place : (decls : List Decl) (name : Option Name) (place : ℕ) → IsMain decls name place → is_node_place decls place ≡ true
main_place decls None place h = h.node
main_place decls (Some name) place h = let d : IsNodeAt decls place name = declared_meaning decls name (Node place) h in ap is_node_in d.declared
