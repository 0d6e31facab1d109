-- A part of an expression is read in one way at most.
use Rattle.std.proofs.Common.{◌≡◌, ℕ, ◌<◌, ◌≤◌, Bool, true, false, List, [], ◌∷◌, ◌++◌, refl, sym, ap, ◌∙◌, subst, arith}
use Rattle.std.specs.Prelude.{Some, None}
use Rattle.lus_syntax.specs.declared.token.Token.{Token}
use Rattle.lus_syntax.specs.declared.token.TokenKind.{TokenKind}
use Rattle.lus_syntax.specs.declared.token.TokenKind.TheVariants.{Word, Sign}
use Rattle.lus_syntax.specs.declared.token.Keyword.TheVariants as word
use Rattle.lus_syntax.specs.declared.token.Symbol.TheVariants as sign
use Rattle.lus_syntax.specs.declared.ast.Expr.{Expr}
use Rattle.lus_syntax.specs.declared.operators.Infix.{Infix}
use Rattle.lus_syntax.specs.Operators.{infix_of, loosest, left_rank, right_rank}
use Rattle.lus_syntax.specs.Reading.{Part, At, Behind, Operand, Nots, Arguments, Reads, r_at, r_stop, r_infix, r_prefix, r_pre_not, r_if, r_atom, r_parens, r_call, r_more_nots, r_last_not, r_no_arguments, r_last_argument, r_more_arguments, StopsAt, Stops, operand_rank, front_rank}
use Rattle.lus_syntax.proofs.ExprTables.{looser, Low, low_zero, low_one, low_prefix, prefix_some, tighter_than, literal_rank, rank_of_prefix, no_prefix, no_literal, right_within}

-- what may follow
pub down : {m n : ℕ} {o : Bool} {r : List Token} → m ≤ n → StopsAt n o r → StopsAt m o r
down {m} {n} {o} le s = record {
  no_infix = λ t us x f is. let g = s.no_infix t us x f is in (g.0, omega (arith, le, g.1));
  no_call = s.no_call;
}

pub open_ends : {m n : ℕ} {o : Bool} {r : List Token} → StopsAt m true r → StopsAt n o r
open_ends s = record {
  no_infix = λ t us x f is. let g = (s.no_infix t us x f is).0 in absurd (cc);
  no_call = s.no_call;
}

pub at_infix : {n : ℕ} (t : Token) (x : Infix) (r : List Token) → infix_of t.kind ≡ Some x → n < x.rank → StopsAt n false (t ∷ r)
at_infix {n} t x r is le = record {
  no_infix = λ u us y f is'. let same : t ≡ u = cc in let xs : x ≡ y = cc in (refl, subst (λ (z : Infix). n < z.rank) xs le);
  no_call = λ u us f k. let same : t ≡ u = cc in let g = ap infix_of (ap (λ (z : Token). z.kind) same ∙ k) in absurd (cc);
}

pub by_word : {n : ℕ} {o : Bool} (t : Token) (r : List Token) (k : TokenKind) → t.kind ≡ k → infix_of k ≡ None → (k ≡ Sign sign.OpenParen → ⊥) → StopsAt n o (t ∷ r)
by_word t r k is none other = record {
  no_infix = λ u us y f is'. let same : t ≡ u = cc in let g = ap infix_of (ap (λ (z : Token). z.kind) (sym same) ∙ is) in absurd (cc);
  no_call = λ u us f k'. let same : t ≡ u = cc in other (sym is ∙ ap (λ (z : Token). z.kind) same ∙ k');
}

pub by_close : {n : ℕ} {o : Bool} (t : Token) (r : List Token) → t.kind ≡ Sign sign.CloseParen → StopsAt n o (t ∷ r)
by_close t r is = by_word t r (Sign sign.CloseParen) is refl (λ e. absurd (cc))

pub by_comma : {n : ℕ} {o : Bool} (t : Token) (r : List Token) → t.kind ≡ Sign sign.Comma → StopsAt n o (t ∷ r)
by_comma t r is = by_word t r (Sign sign.Comma) is refl (λ e. absurd (cc))

pub by_then : {n : ℕ} {o : Bool} (t : Token) (r : List Token) → t.kind ≡ Word word.Then → StopsAt n o (t ∷ r)
by_then t r is = by_word t r (Word word.Then) is refl (λ e. absurd (cc))

pub by_else : {n : ℕ} {o : Bool} (t : Token) (r : List Token) → t.kind ≡ Word word.Else → StopsAt n o (t ∷ r)
by_else t r is = by_word t r (Word word.Else) is refl (λ e. absurd (cc))

pub no_end : {A : Type 0} {n : ℕ} {o : Bool} {t : Token} {r : List Token} (x : Infix) → infix_of t.kind ≡ Some x → x.rank ≤ n → StopsAt n o (t ∷ r) → A
no_end {t = t} {r = r} x is le s = let g = s.no_infix t r x refl is in absurd (omega (arith, le, g.1))

-- the rank of an operand
pub low : {text : List ℕ} {p : ℕ} {ts r : List Token} {e : Expr} {o : Bool} → Reads text (Operand p) ts e o r → Low p
low {p = p} (r_prefix t op is l a) = low_prefix t.kind op p is l
low (r_pre_not t is a) = low_one
low (r_if t u v is a iu b iv c) = low_one
low (r_atom t is) = low_zero
low (r_parens t u is a iu) = low_zero
low (r_call t u is iu a) = low_zero

pub first : {text : List ℕ} {p : ℕ} {ts r : List Token} {e : Expr} {o : Bool} → Reads text (Operand p) ts e o r → front_rank ts ≡ p
first (r_prefix t op is l a) = rank_of_prefix t.kind op is ∙ l
first (r_pre_not t is a) = ap operand_rank is
first (r_if t u v is a iu b iv c) = ap operand_rank is
first {text} {e = e} (r_atom t is) = literal_rank text t t.kind e is
first (r_parens t u is a iu) = ap operand_rank is
first (r_call t u is iu a) = ap operand_rank is

pub at_front : {text : List ℕ} {n : ℕ} {ts r : List Token} {e : Expr} {o : Bool} → Reads text (At n) ts e o r → front_rank ts ≤ n
at_front (r_at le a b) = let f = first a in omega (arith, le, f)

pub nots_front : {text : List ℕ} {ts r : List Token} {e : Expr} {o : Bool} → Reads text Nots ts e o r → front_rank ts ≡ 5
nots_front (r_more_nots t is a) = ap operand_rank is
nots_front (r_last_not t is a) = ap operand_rank is

pub not_both : {A : Type 0} {text : List ℕ} {ts r r' : List Token} {e e' : Expr} {o o' : Bool} → Reads text (At 1) ts e o r → Reads text Nots ts e' o' r' → A
not_both a b = let f = at_front a in let g = nots_front b in absurd (omega (arith, f, g))

no_close_operand : {A : Type 0} {text : List ℕ} {p : ℕ} {t : Token} {ts r : List Token} {e : Expr} {o : Bool} → Reads text (Operand p) (t ∷ ts) e o r → t.kind ≡ Sign sign.CloseParen → A
no_close_operand (r_prefix t op is l a) k = no_prefix op is k refl
no_close_operand (r_pre_not t is a) k = absurd (cc)
no_close_operand (r_if t u v is a iu b iv c) k = absurd (cc)
no_close_operand {text = text} (r_atom t is) k = no_literal text t is k refl
no_close_operand (r_parens t u is a iu) k = absurd (cc)
no_close_operand (r_call t u is iu a) k = absurd (cc)

-- no expression begins with `)`
pub no_close : {A : Type 0} {text : List ℕ} {n : ℕ} {t : Token} {ts r : List Token} {e : Expr} {o : Bool} → Reads text (At n) (t ∷ ts) e o r → t.kind ≡ Sign sign.CloseParen → A
no_close (r_at le a b) k = no_close_operand a k

-- Behind the last part of an operand, of a rank, stands an operator that is looser, or the end.
pub behind : {text : List ℕ} {least m n : ℕ} {mid r : List Token} {a e : Expr} {p o : Bool} → Reads text (Behind m n a p) mid e o r → least ≤ n → ((k : TokenKind) (y : Infix) → infix_of k ≡ Some y → m ≤ left_rank y → least < y.rank) → StopsAt n o r → StopsAt least p mid
behind r_stop le f s = down le s
behind (r_infix {ts = ts} t x is l l' b c) le f s = at_infix t x ts is (f t.kind x is l)

pub behind_operand : {text : List ℕ} {m n : ℕ} {ts mid mid' r : List Token} {a a' e : Expr} {p p' o : Bool} → Reads text (Operand m) ts a' p' mid' → m ≤ n → Reads text (Behind m n a p) mid e o r → StopsAt n o r → StopsAt m p mid
behind_operand {m = m} d le b s = behind b le (λ k y is l. tighter_than m k y (low d) is l) s

pub behind_infix : {text : List ℕ} {n : ℕ} {mid r : List Token} {a e : Expr} {p o : Bool} (k : TokenKind) (x : Infix) → infix_of k ≡ Some x → x.rank ≤ n → Reads text (Behind x.rank n a p) mid e o r → StopsAt n o r → StopsAt (right_rank x) p mid
behind_infix k x is le b s = let w = right_within x in behind b (omega (arith, le, w)) (λ j y is' l. looser k j x y is is' l) s

pub moved : {text : List ℕ} {m m' n : ℕ} {a a' e : Expr} {p p' o : Bool} {mid mid' r : List Token} → m ≡ m' → a ≡ a' → p ≡ p' → mid ≡ mid' → Reads text (Behind m' n a' p') mid' e o r → Reads text (Behind m n a p) mid e o r
moved {text} {m} {m'} {n} {a} {a'} {e} {p} {p'} {o} {mid} {mid'} {r} f g h i b =
    subst (λ z. Reads text (Behind z n a p) mid e o r) (sym f)
    (subst (λ z. Reads text (Behind m' n z p) mid e o r) (sym g)
    (subst (λ z. Reads text (Behind m' n a' z) mid e o r) (sym h)
    (subst (λ z. Reads text (Behind m' n a' p') z e o r) (sym i) b)))

pub once : {text : List ℕ} {p : Part} {ts r r' : List Token} {e e' : Expr} {o o' : Bool} → Reads text p ts e o r → Stops p o r → Reads text p ts e' o' r' → Stops p o' r' → (e ≡ e') × (r ≡ r') × (o ≡ o')
once {text} {ts = ts} (r_at {m = m} le a b) s (r_at {m = m'} {mid = mid'} {a = x'} {p = q'} le' a' b') s' =
    let ms : m ≡ m' = sym (first a) ∙ first a' in
    let f = once a (behind_operand a le b s) (subst (λ z. Reads text (Operand z) ts x' q' mid') (sym ms) a') (subst (λ z. StopsAt z q' mid') (sym ms) (behind_operand a' le' b' s')) in
    once b s (moved ms f.0 f.2 f.1 b') s'
once r_stop s r_stop s' = (refl, refl, refl)
once r_stop s (r_infix t x is l l' b c) s' = no_end x is l' s
once (r_infix t x is l l' b c) s r_stop s' = no_end x is l' s'
once {text} {r' = r'} {e' = e'} {o' = o'} (r_infix {ts = us} {a = left} {b = y} t x is l l' b c) s (r_infix {mid = mid'} {b = y'} {p = q'} t' x' is' k k' b' c') s' =
    let xs : x ≡ x' = cc in
    let f = once b (behind_infix t.kind x is l' c s) (subst (λ (z : Infix). Reads text (At (right_rank z)) us y' q' mid') (sym xs) b') (subst (λ (z : Infix). StopsAt (right_rank z) q' mid') (sym xs) (behind_infix t.kind x' is' k' c' s')) in
    once c s (moved (ap (λ (z : Infix). z.rank) xs) (cc) f.2 f.1 c') s'
once (r_prefix t op is l a) s (r_prefix t' op' is' l' a') s' =
    let ops : op ≡ op' = cc in
    let f = once a s a' s' in
    (cc, f.1, f.2)
once (r_prefix t op is l a) s (r_pre_not t' is' a') s' = not_both a a'
once (r_prefix t op is l a) s (r_if t' u v is' b iu c iv d) s' = no_prefix op is is' refl
once (r_prefix t op is l a) s (r_atom t' is') s' = let g = prefix_some t.kind op is in absurd (omega (arith, g, l))
once (r_prefix t op is l a) s (r_parens t' u is' b iu) s' = no_prefix op is is' refl
once (r_prefix t op is l a) s (r_call t' u is' iu b) s' = no_prefix op is is' refl
once (r_pre_not t is a) s (r_prefix t' op is' l a') s' = not_both a' a
once (r_pre_not t is a) s (r_pre_not t' is' a') s' =
    let f = once a s a' s' in
    (cc, f.1, f.2)
once (r_pre_not t is a) s (r_if t' u v is' b iu c iv d) s' = absurd (cc)
once (r_if t u v is a iu b iv c) s (r_prefix t' op is' l a') s' = no_prefix op is' is refl
once (r_if t u v is a iu b iv c) s (r_pre_not t' is' a') s' = absurd (cc)
once {text} {r' = r'} (r_if {us = us} {vs = vs} {a = x} {b = y} t u v is a iu b iv c) s (r_if {us = us'} {vs = vs'} {a = x'} {b = y'} {c = z'} {q = q'} {o = o'} t' u' v' is' a' iu' b' iv' c') s' =
    let f = once a (by_then u us iu) a' (by_then u' us' iu') in
    let us_same : us ≡ us' = cc in
    let g = once b (by_else v vs iv) (subst (λ l. Reads text (At loosest) l y' q' (v' ∷ vs')) (sym us_same) b') (by_else v' vs' iv') in
    let vs_same : vs ≡ vs' = cc in
    let h = once c (open_ends s) (subst (λ l. Reads text (At loosest) l z' o' r') (sym vs_same) c') (open_ends s') in
    (cc, h.1, refl)
once (r_atom t is) s (r_prefix t' op is' l a) s' = let g = prefix_some t.kind op is' in absurd (omega (arith, g, l))
once (r_atom t is) s (r_atom t' is') s' = (cc, refl, refl)
once {text} (r_atom t is) s (r_parens t' u is' a iu) s' = no_literal text t is is' refl
once (r_atom t is) s (r_call {ts = ts} t' u is' iu a) s' = absurd (s.no_call u ts refl iu)
once (r_parens t u is a iu) s (r_prefix t' op is' l b) s' = no_prefix op is' is refl
once {text} (r_parens t u is a iu) s (r_atom t' is') s' = no_literal text t is' is refl
once {r = r} {r' = r'} (r_parens t u is a iu) s (r_parens t' u' is' a' iu') s' =
    let f = once a (by_close u r iu) a' (by_close u' r' iu') in
    (f.0, cc, refl)
once (r_parens t u is a iu) s (r_call t' u' is' iu' b) s' = absurd (cc)
once (r_call t u is iu a) s (r_prefix t' op is' l b) s' = no_prefix op is' is refl
once (r_call {ts = ts} t u is iu a) s (r_atom t' is') s' = absurd (s'.no_call u ts refl iu)
once (r_call t u is iu a) s (r_parens t' u' is' b iu') s' = absurd (cc)
once (r_call t u is iu a) s (r_call t' u' is' iu' a') s' = once a s a' s'
once (r_more_nots t is a) s (r_more_nots t' is' a') s' =
    let f = once a s a' s' in
    (cc, f.1, f.2)
once (r_more_nots t is a) s (r_last_not t' is' b) s' = not_both b a
once (r_last_not t is a) s (r_more_nots t' is' b) s' = not_both a b
once (r_last_not t is a) s (r_last_not t' is' a') s' =
    let f = once a s a' s' in
    (cc, f.1, f.2)
once (r_no_arguments u iu) s (r_no_arguments u' iu') s' = (refl, refl, refl)
once (r_no_arguments u iu) s (r_last_argument u' a iu') s' = no_close a iu
once (r_no_arguments u iu) s (r_more_arguments u' a iu' b) s' = no_close a iu
once (r_last_argument u a iu) s (r_no_arguments u' iu') s' = no_close a iu'
once {r = r} {r' = r'} (r_last_argument {name = name} {before = before} u a iu) s (r_last_argument u' a' iu') s' =
    let f = once a (by_close u r iu) a' (by_close u' r' iu') in
    (cc, cc, refl)
once {r = r} (r_last_argument u a iu) s (r_more_arguments {us = us'} u' a' iu' b') s' =
    let f = once a (by_close u r iu) a' (by_comma u' us' iu') in
    let same : u ≡ u' = cc in
    absurd (cc)
once (r_more_arguments u a iu b) s (r_no_arguments u' iu') s' = no_close a iu'
once {r' = r'} (r_more_arguments {us = us} u a iu b) s (r_last_argument u' a' iu') s' =
    let f = once a (by_comma u us iu) a' (by_close u' r' iu') in
    let same : u ≡ u' = cc in
    absurd (cc)
once {text} {r' = r'} {e' = e'} (r_more_arguments {us = us} {name = name} {before = before} u a iu b) s (r_more_arguments {us = us'} {a = x'} u' a' iu' b') s' =
    let f = once a (by_comma u us iu) a' (by_comma u' us' iu') in
    let same : us ≡ us' = cc in
    once b s (subst (λ z. Reads text (Arguments name (before ++ z ∷ [])) us e' false r') (sym f.0) (subst (λ z. Reads text (Arguments name (before ++ x' ∷ [])) z e' false r') (sym same) b')) s'
