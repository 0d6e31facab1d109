-- The places of the nodes that expressions call, one behind the other.
use Rattle.std.proofs.Common.{◌≡◌, ℕ, zero, suc, ◌+◌, ◌<◌, get_or, List, [], ◌∷◌, ◌++◌, drop, length, map, refl, sym, ap, ◌∙◌, arith, append_assoc}
use Rattle.std.specs.Prelude.{Option}
use Rattle.std.specs.List.{flat_map}
use Rattle.lus_syntax.specs.declared.ast.BinOp.{BinOp}
use Rattle.lus_syntax.specs.declared.ast.Expr.{Expr}
use Rattle.lus_syntax.specs.declared.ast.ExprKind.TheVariants as tree
use Rattle.lus_types.specs.Names.{Name, Globals}
use Rattle.node_expand.specs.Outlines.{callee, callees, callees_level}
use Rattle.node_expand.proofs.Folds.{folded_call, folded_if, folded_two}

abbrev pub Places : Type 0
Places = List (Option ℕ)

-- parts that stand one behind the other
pub both : (a b : Places) (old mid new whole : Places) → whole ≡ a ++ b → mid ≡ old ++ a → new ≡ mid ++ b → new ≡ old ++ whole
both a b old mid new whole is first second = second ∙ ap (λ l. l ++ b) first ∙ append_assoc old a b ∙ ap (λ l. old ++ l) (sym is)

pub part : (g : Globals) (e f : Expr) (old new : Places) → e ≡ f → new ≡ old ++ callees g e → new ≡ old ++ callees g f
part g e f old new is h = h ∙ ap (λ x. old ++ callees g x) is

pub of_two : (g : Globals) (e a b : Expr) (op : BinOp) → e.kind ≡ tree.Two op a b → callees g e ≡ callees g a ++ callees g b
of_two g e a b op k = folded_two (callees_level g) e a b op k

pub of_if : (g : Globals) (e a b c : Expr) → e.kind ≡ tree.Cond a b c → callees g e ≡ callees g a ++ (callees g b ++ callees g c)
of_if g e a b c k = folded_if (callees_level g) e a b c k

flat : (g : Globals) (args : List Expr) → flat_map (λ places. places) (map (callees g) args) ≡ flat_map (callees g) args
flat g [] = refl
flat g (a ∷ args) = ap (λ l. callees g a ++ l) (flat g args)

pub of_call : (g : Globals) (e : Expr) (f : Name) (args : List Expr) → e.kind ≡ tree.Call f args → callees g e ≡ (callee g f ∷ []) ++ flat_map (callees g) args
of_call g e f args k = folded_call (callees_level g) e f args k ∙ ap (λ l. callee g f ∷ l) (flat g args)

-- one more argument
more : (g : Globals) (args : List Expr) (i : ℕ) (a : Expr) → i < length args → a ≡ get_or args i a → flat_map (callees g) (drop i args) ≡ callees g a ++ flat_map (callees g) (drop (suc i) args)
more g [] i a h is = absurd (omega (arith, h))
more g (x ∷ args) zero a h is = ap (λ y. callees g y ++ flat_map (callees g) args) (sym is)
more g (x ∷ args) (suc i) a h is = more g args i a (omega (arith, h)) is

pub next : (g : Globals) (args : List Expr) (i : ℕ) (a : Expr) (now new all : Places) → i < length args → a ≡ get_or args i a
    → now ++ flat_map (callees g) (drop i args) ≡ all → new ≡ now ++ callees g a
    → new ++ flat_map (callees g) (drop (i + 1) args) ≡ all
next g args i a now new all h is whole e =
    let one : i + 1 ≡ suc i = omega arith in
    ap (λ k. new ++ flat_map (callees g) (drop k args)) one
    ∙ ap (λ l. l ++ flat_map (callees g) (drop (suc i) args)) e ∙ append_assoc now (callees g a) (flat_map (callees g) (drop (suc i) args))
    ∙ ap (λ l. now ++ l) (sym (more g args i a h is)) ∙ whole
