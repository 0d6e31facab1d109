-- A list of tokens begins with one whole expression at most, and there is one.
use Rattle.std.proofs.Common.{◌≡◌, ℕ, Bool, false, List, [], ◌∷◌, ◌++◌, refl, sym, ap, ◌∙◌, subst, arith}
use Rattle.std.specs.Prelude.{Option, Some, None, Result, Ok, Err}
use Rattle.std.specs.Borrow.{Bor}
use Rattle.lus_syntax.specs.declared.token.Token.{Token}
use Rattle.lus_syntax.specs.declared.ast.Expr.{Expr}
use Rattle.lus_syntax.specs.declared.grammar.fault.PartFault.{PartFault}
use Rattle.lus_syntax.specs.declared.grammar.fault.PartFault.TheVariants.{Stuck, Memory}
use Rattle.lus_syntax.specs.declared.operators.Infix.{Infix}
use Rattle.lus_syntax.specs.Grammar.{DerivesWhole, DerivesExpr}
use Rattle.lus_syntax.specs.Operators.{infix_of, loosest}
use Rattle.lus_syntax.specs.Parts.{Parsed, Takes, IsStuck, EndsExpr}
use Rattle.lus_syntax.specs.Reading.{At, Reads, StopsAt, Bad, Answers}
use Rattle.lus_syntax.proofs.ExprTables.{most}
use Rattle.lus_syntax.proofs.ExprOnce.{once}
use Rattle.lus_syntax.proofs.ExprBoth.{span, reads, nil}
use Rattle.lus_syntax.proofs.ExprSteps.{name_read}

-- what may follow a whole expression
stops : (n : ℕ) (o : Bool) (r : List Token) → EndsExpr r → StopsAt n o r
stops n o [] h = record { no_infix = λ t us x e is. absurd (cc); no_call = λ t us e is. absurd (cc) }
stops n o (u ∷ us) h = record {
  no_infix = λ t ts x e is. let same : u ≡ t = cc in let f = ap (λ (z : Token). infix_of z.kind) same in let g = h.0 in absurd (cc);
  no_call = λ t ts e is. let same : u ≡ t = cc in h.1 (ap (λ (z : Token). z.kind) same ∙ is);
}

ends : (o : Bool) (r : List Token) → StopsAt loosest o r → EndsExpr r
ends o [] s = tt
ends o (t ∷ ts) s = (go (infix_of t.kind) refl, λ k. s.no_call t ts refl k)
  where
    go : (x : Option Infix) → infix_of t.kind ≡ x → x ≡ None
    go None e = refl
    go (Some x) e = let f = s.no_infix t ts x refl e in let g = most t.kind x e in absurd (omega (arith, f.1, g))

pub whole_once : (text : List ℕ) {xs ys r s : List Token} {a b : Expr} → DerivesWhole text xs a → DerivesWhole text ys b → xs ++ r ≡ ys ++ s → EndsExpr r → EndsExpr s → (a ≡ b) × (r ≡ s)
whole_once text {xs} {ys} {r} {s} {a} {b} d d' e h h' =
    let f = once (reads d.expr r) (stops loosest d.ends_open r h) (subst (λ z. Reads text (At loosest) z b d'.ends_open s) (sym e) (reads d'.expr s)) (stops loosest d'.ends_open s h') in
    (f.0, f.1)

pub whole_some : (text : List ℕ) → (ts : List Token) × (e : Expr) × DerivesWhole text ts e
whole_some text = let s = span (name_read text loosest []) in (s.front, _, record { ends_open = false; expr = s.made })

-- what the reader of expressions answers, in the words of the grammar
taken : {text : List ℕ} {ts rest : List Token} {e : Expr} {o : Bool} → Reads text (At loosest) ts e o rest → Takes (DerivesWhole text) ts e rest
taken {o = o} d = let s = span d in record { front = s.front; whole = s.whole; derived = record { ends_open = o; expr = s.made } }

stuck : {text : List ℕ} {ts : List Token} (left : ℕ) → Bad text (At loosest) ts left → IsStuck (DerivesWhole text) EndsExpr ts left
stuck {text} {ts} left h = record {
  front = h.front;
  rest = h.rest;
  whole = h.whole;
  count = h.count;
  reach = reach;
  dead = λ more x behind alike t f. h.dead more x t.derived.ends_open behind alike (subst (λ z. Reads text (At loosest) z x t.derived.ends_open behind) (sym t.whole) (reads t.derived.expr behind)) (stops loosest t.derived.ends_open behind f);
}
  where
    reach : (more : List Token) × (x : Expr) × DerivesWhole text (h.front ++ more) x
    reach =
        let s = span h.reach.3 in
        (h.reach.0, h.reach.1, record { ends_open = h.reach.2; expr = subst (λ z. DerivesExpr text loosest h.reach.2 z h.reach.1) (sym (s.whole ∙ nil s.front)) s.made })

pub parsed : (text : List ℕ) (ts : List Token) (result : Result (Expr × Bor (List Token)) PartFault) → Answers text (At loosest) ts result → Parsed (DerivesWhole text) EndsExpr ts result
parsed text ts (Ok f) h = (taken h.1, ends h.0 f.1.now h.2)
parsed text ts (Err (Stuck left)) h = stuck left h
parsed text ts (Err Memory) h = tt
