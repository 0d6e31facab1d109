-- A program, and where a list of tokens stops to be the front of one.
use Rattle.std.proofs.Common.{◌≡◌, ℕ, suc, zero, ◌-◌, ◌<◌, ◌≤◌, List, [], ◌∷◌, ◌++◌, length, take, refl, sym, ap, ◌∙◌, subst, arith, append_assoc, length-append, inl, inr}
use Rattle.std.proofs.lemmas.Bool.{cases_order}
use Rattle.std.proofs.lemmas.List.{append-nil}
use Rattle.std.proofs.Math.Seq.{take-append_seam}
use Rattle.lus_syntax.specs.declared.ast.Ast.{Ast}
use Rattle.lus_syntax.specs.declared.ast.Decl.{Decl}
use Rattle.lus_syntax.specs.declared.token.Token.{Token}
use Rattle.lus_syntax.specs.Faults.{BeginsProgram, IsFaultPlace}
use Rattle.lus_syntax.specs.Grammar.{DerivesDecls, Derives, program}
use Rattle.lus_syntax.specs.Parts.{Alike, Takes, IsStuck}
use Rattle.lus_syntax.specs.Sections.{AtEnd}
use Rattle.lus_syntax.proofs.DeclarationParts.{decls_part}
use Rattle.lus_syntax.proofs.Readers.{alike_refl}

-- the tree of declarations
abbrev pub tree_of : List ℕ → List Decl → Ast
tree_of text decls = record { decls = decls; length = length text }

pub program_taken : (text : List ℕ) {ts rest : List Token} {decls : List Decl} → Takes (DerivesDecls text) ts decls rest × AtEnd rest → Derives text ts (tree_of text decls)
program_taken text {ts} {rest} {decls} h =
    let d = h.0 in
    program (subst (λ z. DerivesDecls text z decls) (sym (d.whole ∙ ap (λ z. d.front ++ z) h.1 ∙ append-nil d.front)) d.derived)

taken_whole : (text : List ℕ) {ts : List Token} {decls : List Decl} → DerivesDecls text ts decls → Takes (DerivesDecls text) ts decls []
taken_whole text {ts} d = record { front = ts; whole = sym (append-nil ts); derived = d }

pub one_program : (text : List ℕ) (ts : List Token) (a b : Ast) → Derives text ts a → Derives text ts b → a ≡ b
one_program text ts a b (program {decls = x} d) (program {decls = y} e) = ap (tree_of text) ((decls_part text).once ts ts [] [] x y d e refl refl refl).0

-- what is stuck is within the tokens
pub stuck_within : {text : List ℕ} {ts : List Token} {n : ℕ} → IsStuck (DerivesDecls text) AtEnd ts n → n ≤ length ts
stuck_within {ts = ts} h = omega (arith, ap length h.whole, length-append h.front h.rest, h.count)

take_one_more : (xs : List Token) (t : Token) (ys : List Token) → take (suc (length xs)) (xs ++ t ∷ ys) ≡ xs ++ t ∷ []
take_one_more [] t ys = refl
take_one_more (x ∷ xs) t ys = ap (λ z. x ∷ z) (take_one_more xs t ys)

-- no program begins with the front and the token behind it
no_more : (text : List ℕ) {ts : List Token} {n : ℕ} (h : IsStuck (DerivesDecls text) AtEnd ts n) (rest : List Token) → h.rest ≡ rest → length h.front < length ts → BeginsProgram text (take (suc (length h.front)) ts) → ⊥
no_more text {ts} h [] e lt b =
    let both : length ts ≡ length h.front = ap length (h.whole ∙ ap (λ z. h.front ++ z) e ∙ append-nil h.front) in
    absurd (omega arith)
no_more text {ts} h (t ∷ us) e lt b =
    let same : take (suc (length h.front)) ts ≡ h.front ++ t ∷ [] = ap (λ z. take (suc (length h.front)) z) (h.whole ∙ ap (λ z. h.front ++ z) e) ∙ take_one_more h.front t us in
    let tokens : take (suc (length h.front)) ts ++ b.more ≡ h.front ++ t ∷ b.more = ap (λ z. z ++ b.more) same ∙ append_assoc h.front (t ∷ []) b.more in
    go (t ∷ b.more) b.tree (subst (λ z. Alike z (t ∷ b.more)) (sym e) refl) (subst (λ z. Derives text z b.tree) tokens b.derived)
  where
    go : (more : List Token) (tree' : Ast) → Alike h.rest more → Derives text (h.front ++ more) tree' → ⊥
    go more tree' a (program {decls = x} d) = h.dead more x [] a (taken_whole text d) refl

no_tree : (text : List ℕ) {ts : List Token} {n : ℕ} (h : IsStuck (DerivesDecls text) AtEnd ts n) (us : List Token) (tree' : Ast) → us ≡ h.front ++ h.rest → Derives text us tree' → ⊥
no_tree text h us tree' e (program {decls = x} d) = h.dead h.rest x [] (alike_refl h.rest) (taken_whole text (subst (λ z. DerivesDecls text z x) e d)) refl

fault_at : (text : List ℕ) {ts : List Token} {n : ℕ} (h : IsStuck (DerivesDecls text) AtEnd ts n) → IsFaultPlace text ts (length h.front)
fault_at text {ts} h = record {
  within = omega (arith, ap length h.whole, length-append h.front h.rest);
  before = record { more = h.reach.0; tree = tree_of text h.reach.1; derived = program (subst (λ z. DerivesDecls text (z ++ h.reach.0) h.reach.1) (sym (ap (λ z. take (length h.front) z) h.whole ∙ take-append_seam h.front h.rest)) h.reach.2) };
  at = λ lt b. no_more text h h.rest refl lt b;
  no_program = λ tree' d. no_tree text h ts tree' h.whole d;
}

pub fault_place : (text : List ℕ) {ts : List Token} {n : ℕ} (place : ℕ) → IsStuck (DerivesDecls text) AtEnd ts n → place ≡ length ts - n → IsFaultPlace text ts place
fault_place text {ts} {n} place h e = subst (λ z. IsFaultPlace text ts z) same (fault_at text h)
  where
    same : length h.front ≡ place
    same = omega (arith, e, ap length h.whole, length-append h.front h.rest, h.count)

-- no two places are the least
longer : (n m : ℕ) (ts : List Token) → n ≤ m → (us : List Token) × (take m ts ≡ take n ts ++ us)
longer zero m ts le = (take m ts, refl)
longer (suc n) zero ts le = absurd (omega arith)
longer (suc n) (suc m) [] le = ([], refl)
longer (suc n) (suc m) (t ∷ ts) le =
    let f = longer n m ts (omega arith) in
    (f.0, ap (λ z. t ∷ z) f.1)

not_before : (text : List ℕ) (ts : List Token) (i j : ℕ) → IsFaultPlace text ts i → IsFaultPlace text ts j → i < j → ⊥
not_before text ts i j a b lt =
    let f = longer (suc i) j ts (omega arith) in
    let within : i < length ts = omega (arith, b.within) in
    a.at within (record { more = f.0 ++ (b.before).more; tree = (b.before).tree; derived = subst (λ z. Derives text z (b.before).tree) (ap (λ z. z ++ (b.before).more) f.1 ∙ append_assoc (take (suc i) ts) f.0 (b.before).more) (b.before).derived })

pub one_place : (text : List ℕ) (ts : List Token) (i j : ℕ) → IsFaultPlace text ts i → IsFaultPlace text ts j → i ≡ j
one_place text ts i j a b = elim (cases_order i j) [ inl e ↦ e | inr r ↦ elim r [ inl lt ↦ absurd (not_before text ts i j a b lt) | inr lt ↦ absurd (not_before text ts j i b a lt) ] ]

pub tree_or_fault : (text : List ℕ) (ts : List Token) (a : Ast) (i : ℕ) → Derives text ts a → IsFaultPlace text ts i → ⊥
tree_or_fault text ts a i d f = f.no_program a d
