-- What each step of the reader of expressions keeps.
use Rattle.std.proofs.Common.{◌≡◌, ℕ, ◌<◌, ◌≤◌, Bool, false, List, [], ◌∷◌, ◌++◌, length, refl, sym, ap, ◌∙◌, subst, append_assoc, arith}
use Rattle.std.specs.Prelude.{Some, Err}
use Rattle.lus_syntax.specs.declared.token.Token.{Token}
use Rattle.lus_syntax.specs.declared.token.TokenKind.{TokenKind}
use Rattle.lus_syntax.specs.declared.token.TokenKind.TheVariants.{Name, Word, Sign}
use Rattle.lus_syntax.specs.declared.token.Keyword.TheVariants as word
use Rattle.lus_syntax.specs.declared.token.Symbol.TheVariants as sign
use Rattle.lus_syntax.specs.declared.ast.Expr.{Expr}
use Rattle.lus_syntax.specs.declared.ast.ExprKind.TheVariants as tree
use Rattle.lus_syntax.specs.declared.grammar.fault.PartFault.{PartFault}
use Rattle.lus_syntax.specs.declared.grammar.fault.PartFault.TheVariants.{Stuck, Memory}
use Rattle.lus_syntax.specs.declared.operators.Infix.{Infix}
use Rattle.lus_syntax.specs.declared.operators.Prefix.{Prefix}
use Rattle.lus_syntax.specs.Grammar.{node, spelling}
use Rattle.lus_syntax.specs.Operators.{infix_of, prefix_of, left_rank, right_rank}
use Rattle.lus_syntax.specs.Parts.{Lacks, Alike}
use Rattle.lus_syntax.specs.Reading.{Part, At, Behind, Operand, Nots, Reads, r_at, r_stop, r_infix, r_prefix, r_pre_not, r_if, r_atom, r_parens, r_call, r_more_nots, r_last_not, StopsAt, Stops, Bad, Answers, Partway, NoInfix, Begins, IsPreNot, operand_rank, front_rank}
use Rattle.lus_syntax.proofs.ExprTables.{prefix_some, no_prefix}
use Rattle.lus_syntax.proofs.ExprOnce.{no_end, first, at_front, behind_operand, behind_infix, moved, once}
use Rattle.lus_syntax.proofs.ExprBoth.{Span, span, nil}

pub err_map : {text : List ℕ} (p q : Part) (ts us : List Token) → ((left : ℕ) → Bad text q ts left → Bad text p us left) → (fault : PartFault) → Answers text q ts (Err fault) → Answers text p us (Err fault)
err_map p q ts us f (Stuck left) h = f left h
err_map p q ts us f Memory h = tt

-- lists that are alike
pub alike_all : (front rest more : List Token) → Alike rest more → Alike (front ++ rest) (front ++ more)
alike_all [] rest more h = h
alike_all (x ∷ front) rest more h = refl

pub front_alike : (ts us : List Token) → Alike ts us → front_rank ts ≡ front_rank us
front_alike [] [] h = refl
front_alike [] (u ∷ us) h = absurd h
front_alike (t ∷ ts) [] h = absurd h
front_alike (t ∷ ts) (u ∷ us) h = ap (λ (z : Token). operand_rank z.kind) h

-- the first token of the one is that of the other
pub same_first : (ts us : List Token) → Alike ts us → (u : Token) (vs : List Token) → us ≡ u ∷ vs → (ws : List Token) × (ts ≡ u ∷ ws)
same_first [] [] h u vs e = absurd (cc)
same_first [] (x ∷ us) h u vs e = absurd h
same_first (t ∷ ts) [] h u vs e = absurd h
same_first (t ∷ ts) (x ∷ us) h u vs e = (ts, (cc))

pub alike_stops : {n : ℕ} {o : Bool} (ts us : List Token) → Alike ts us → StopsAt n o ts → StopsAt n o us
alike_stops ts us h s = record {
  no_infix = λ t vs x e is. let f = same_first ts us h t vs e in s.no_infix t f.0 x f.1 is;
  no_call = λ t vs e is. let f = same_first ts us h t vs e in s.no_call t f.0 f.1 is;
}

pub alike_lacks : {k : TokenKind} (ts us : List Token) → Alike ts us → Lacks ts k → Lacks us k
alike_lacks ts us h lacks t vs e is = let f = same_first ts us h t vs e in lacks t f.0 f.1 is

pub begins_call : {A : Type 0} {n : ℕ} {o : Bool} (ts us : List Token) → Begins ts (Sign sign.OpenParen) → Alike ts us → StopsAt n o us → A
begins_call [] us b h s = let f = b.whole in absurd (cc)
begins_call (t ∷ ts) [] b h s = absurd h
begins_call (t ∷ ts) (u ∷ us) b h s = let f = b.whole in let same : b.first ≡ u = cc in absurd (s.no_call u us refl (ap (λ (z : Token). z.kind) (sym same) ∙ b.is))

-- tokens to go on with
abbrev pub some : TokenKind → Token
some kind = record { kind = kind; start = 0; «end» = 0 }

abbrev pub a_name : Token
a_name = some Name

abbrev pub a_close : Token
a_close = some (Sign sign.CloseParen)

abbrev pub a_then : Token
a_then = some (Word word.Then)

abbrev pub an_else : Token
an_else = some (Word word.Else)

abbrev pub named : List ℕ → Expr
named text = node 0 (tree.Name (spelling text a_name))

pub name_read : (text : List ℕ) (n : ℕ) (rest : List Token) → Reads text (At n) (a_name ∷ rest) (named text) false rest
name_read text n rest = r_at (omega arith) (r_atom a_name refl) r_stop

pub again_end : {text : List ℕ} {p : Part} {ts : List Token} {e : Expr} {o : Bool} → Reads text p ts e o [] → (more : List Token) → Reads text p (ts ++ more) e o more
again_end {text} {p} {ts} {e} {o} d more =
    let s = span d in
    subst (λ z. Reads text p (z ++ more) e o more) (sym (s.whole ∙ nil s.front)) (s.again more)

-- a part within another, behind some tokens
pub record Within (text : List ℕ) (q p : Part) (pre ts : List Token) : Type 0 where
  pub finish : (more : List Token) (e : Expr) (o : Bool) → Reads text p more e o [] → (tail : List Token) × (e' : Expr) × (o' : Bool) × Reads text q (pre ++ (more ++ tail)) e' o' []
  pub back : (more : List Token) → Alike ts more → ((e : Expr) (o : Bool) (r : List Token) → Reads text p more e o r → Stops p o r → ⊥) → (e : Expr) (o : Bool) (r : List Token) → Reads text q (pre ++ more) e o r → Stops q o r → ⊥

pub bad_in : {text : List ℕ} {q p : Part} {pre ts : List Token} → Within text q p pre ts → (left : ℕ) → Bad text p ts left → Bad text q (pre ++ ts) left
bad_in {text} {q} {p} {pre} {ts} w left h = record {
  front = pre ++ h.front;
  rest = h.rest;
  whole = ap (λ z. pre ++ z) h.whole ∙ sym (append_assoc pre h.front h.rest);
  count = h.count;
  reach = reach;
  dead = λ more e o r alike d s. w.back (h.front ++ more) (subst (λ z. Alike z (h.front ++ more)) (sym h.whole) (alike_all h.front h.rest more alike)) (λ e' o' r' d' s'. h.dead more e' o' r' alike d' s') e o r (subst (λ z. Reads text q z e o r) (append_assoc pre h.front more) d) s;
}
  where
    reach : (more : List Token) × (e : Expr) × (o : Bool) × Reads text q ((pre ++ h.front) ++ more) e o []
    reach =
        let f = w.finish (h.front ++ h.reach.0) h.reach.1 h.reach.2 h.reach.3 in
        (h.reach.0 ++ f.0, f.1, f.2, subst (λ z. Reads text q z f.1 f.2 []) (ap (λ z. pre ++ z) (append_assoc h.front h.reach.0 f.0) ∙ sym (append_assoc pre h.front (h.reach.0 ++ f.0))) f.3)

-- a token that cannot stand here
pub bad_here : {text : List ℕ} {q : Part} (pre rest : List Token) → (more : List Token) (x : Expr) (p : Bool) → Reads text q (pre ++ more) x p [] → ((more : List Token) (e : Expr) (o : Bool) (r : List Token) → Alike rest more → Reads text q (pre ++ more) e o r → Stops q o r → ⊥) → Bad text q (pre ++ rest) (length rest)
bad_here pre rest more x p d dead = record { front = pre; rest = rest; whole = refl; count = refl; reach = (more, x, p, d); dead = dead }

-- an operand of a rank
pub bad_rank : {text : List ℕ} {n : ℕ} (ts : List Token) → n < front_rank ts → Bad text (At n) ts (length ts)
bad_rank {text} {n} ts le = bad_here [] ts (a_name ∷ []) (named text) false (name_read text n []) (λ more e o r alike d s. let f = at_front d in let g = front_alike ts more alike in absurd (omega (arith, le, f, g)))

pub bad_operand : {text : List ℕ} {n : ℕ} {ts : List Token} → front_rank ts ≤ n → (left : ℕ) → Bad text (Operand (front_rank ts)) ts left → Bad text (At n) ts left
bad_operand {text} {n} {ts} le = bad_in {pre = []} (record { finish = finish; back = λ more alike k e o r d s. go more alike k d s })
  where
    finish : (more : List Token) (e : Expr) (o : Bool) → Reads text (Operand (front_rank ts)) more e o [] → (tail : List Token) × (e' : Expr) × (o' : Bool) × Reads text (At n) (more ++ tail) e' o' []
    finish more e o d = ([], e, o, subst (λ z. Reads text (At n) z e o []) (sym (nil more)) (r_at le d r_stop))

    go : {e : Expr} {o : Bool} {r : List Token} (more : List Token) → Alike ts more → ((e : Expr) (o : Bool) (r : List Token) → Reads text (Operand (front_rank ts)) more e o r → StopsAt (front_rank ts) o r → ⊥) → Reads text (At n) more e o r → StopsAt n o r → ⊥
    go more alike k (r_at {m = m} {mid = mid} {a = a} {p = p} l d d') s =
        let same : m ≡ front_rank ts = sym (first d) ∙ sym (front_alike ts more alike) in
        k a p mid (subst (λ z. Reads text (Operand z) more a p mid) same d) (subst (λ z. StopsAt z p mid) same (behind_operand d l d' s))

pub partway_start : {text : List ℕ} {m n : ℕ} {ts mid : List Token} {a : Expr} {o : Bool} → m ≤ n → Reads text (Operand m) ts a o mid → StopsAt m o mid → Partway text n m ts a o mid
partway_start {text} {m} {n} {ts} {mid} {a} {o} le d stops = record {
  front = s.front;
  whole = s.whole;
  low = m;
  stops = stops;
  on = λ more e p r b. r_at le (s.again more) b;
  back = λ more e p r st b st'. go more e p r st (s.front ++ more) refl b st';
}
  where
    s : Span text (Operand m) ts a o mid
    s = span d

    go : (more : List Token) (e : Expr) (p : Bool) (r : List Token) → StopsAt m o more → (us : List Token) → s.front ++ more ≡ us → Reads text (At n) us e p r → StopsAt n p r → Reads text (Behind m n a o) more e p r
    go more e p r st us f (r_at {m = m'} {mid = k} {a = a'} {p = q} le' c c') st' =
        let d0 = subst (λ z. Reads text (Operand m) z a o more) f (s.again more) in
        let ms : m ≡ m' = sym (first d0) ∙ first c in
        let same = once d0 st (subst (λ z. Reads text (Operand z) us a' q k) (sym ms) c) (subst (λ z. StopsAt z q k) (sym ms) (behind_operand c le' c' st')) in
        moved ms same.0 same.2 same.1 c'

pub partway_end : {text : List ℕ} {m n : ℕ} {ts rest : List Token} {a : Expr} {o : Bool} → Partway text n m ts a o rest → Reads text (At n) ts a o rest
partway_end {text} {m} {n} {ts} {rest} {a} {o} h = subst (λ z. Reads text (At n) z a o rest) (sym h.whole) (h.on rest a o rest r_stop)

pub ends : {n low : ℕ} {o : Bool} {rest : List Token} → StopsAt low o rest → NoInfix n rest → StopsAt n o rest
ends s other = record {
  no_infix = λ t us x e is. let f = other t us x e is in ((s.no_infix t us x e is).0, omega (arith, f));
  no_call = s.no_call;
}

-- before an operator the operand is closed
pub closed : {n : ℕ} {o : Bool} {rest : List Token} (t : Token) (us : List Token) (x : Infix) → rest ≡ t ∷ us → infix_of t.kind ≡ Some x → StopsAt n o rest → o ≡ false
closed t us x e is s = (s.no_infix t us x e is).0

pub partway_more : {text : List ℕ} {m n : ℕ} {ts mid r : List Token} {a b : Expr} {p : Bool} (t : Token) (x : Infix) → infix_of t.kind ≡ Some x → m ≤ left_rank x → x.rank ≤ n → Partway text n m ts a false (t ∷ mid) → Reads text (At (right_rank x)) mid b p r → StopsAt (right_rank x) p r → Partway text n x.rank ts (node t.start (tree.Two x.op a b)) p r
partway_more {text} {m} {n} {ts} {mid} {r} {a} {b} {p} t x is l l' h d stops = record {
  front = h.front ++ t ∷ s.front;
  whole = h.whole ∙ ap (λ z. h.front ++ t ∷ z) s.whole ∙ sym (append_assoc h.front (t ∷ s.front) r);
  low = right_rank x;
  stops = stops;
  on = λ more e o' r' c. subst (λ z. Reads text (At n) z e o' r') (sym (append_assoc h.front (t ∷ s.front) more)) (h.on (t ∷ (s.front ++ more)) e o' r' (r_infix t x is l l' (s.again more) c));
  back = λ more e o' r' st c st'. go more e o' r' st (h.back (t ∷ (s.front ++ more)) e o' r' (alike_stops (t ∷ mid) (t ∷ (s.front ++ more)) refl h.stops) (subst (λ z. Reads text (At n) z e o' r') (append_assoc h.front (t ∷ s.front) more) c) st') st';
}
  where
    s : Span text (At (right_rank x)) mid b p r
    s = span d

    go : (more : List Token) (e : Expr) (o' : Bool) (r' : List Token) → StopsAt (right_rank x) p more → Reads text (Behind m n a false) (t ∷ (s.front ++ more)) e o' r' → StopsAt n o' r' → Reads text (Behind x.rank n (node t.start (tree.Two x.op a b)) p) more e o' r'
    go more e o' r' st r_stop st' = no_end x is l' st'
    go more e o' r' st (r_infix {mid = k} {b = y} {p = q} t' x' is' j j' c c') st' =
        let xs : x ≡ x' = cc in
        let same = once (s.again more) st (subst (λ (z : Infix). Reads text (At (right_rank z)) (s.front ++ more) y q k) (sym xs) c) (subst (λ (z : Infix). StopsAt (right_rank z) q k) (sym xs) (behind_infix t.kind x' is' j' c' st')) in
        moved (ap (λ (z : Infix). z.rank) xs) (cc) same.2 same.1 c'

pub bad_right : {text : List ℕ} {m n : ℕ} {ts mid : List Token} {a : Expr} (t : Token) (x : Infix) → infix_of t.kind ≡ Some x → m ≤ left_rank x → x.rank ≤ n → Partway text n m ts a false (t ∷ mid) → (left : ℕ) → Bad text (At (right_rank x)) mid left → Bad text (At n) ts left
bad_right {text} {m} {n} {ts} {mid} {a} t x is l l' h left bad =
    subst (λ z. Bad text (At n) z left) (append_assoc h.front (t ∷ []) mid ∙ sym h.whole) (bad_in (record { finish = finish; back = back }) left bad)
  where
    finish : (more : List Token) (e : Expr) (o : Bool) → Reads text (At (right_rank x)) more e o [] → (tail : List Token) × (e' : Expr) × (o' : Bool) × Reads text (At n) ((h.front ++ t ∷ []) ++ (more ++ tail)) e' o' []
    finish more e o d = ([], node t.start (tree.Two x.op a e), o, subst (λ z. Reads text (At n) z (node t.start (tree.Two x.op a e)) o []) (ap (λ z. h.front ++ t ∷ z) (sym (nil more)) ∙ sym (append_assoc h.front (t ∷ []) (more ++ []))) (h.on (t ∷ more) _ o [] (r_infix t x is l l' d r_stop)))

    go : {e : Expr} {o : Bool} {r : List Token} (more : List Token) → ((e : Expr) (o : Bool) (r : List Token) → Reads text (At (right_rank x)) more e o r → StopsAt (right_rank x) o r → ⊥) → Reads text (Behind m n a false) (t ∷ more) e o r → StopsAt n o r → ⊥
    go more k r_stop s = no_end x is l' s
    go more k (r_infix {mid = mid'} {b = y} {p = q} t' x' is' j j' c c') s =
        let xs : x ≡ x' = cc in
        k y q mid' (subst (λ (z : Infix). Reads text (At (right_rank z)) more y q mid') (sym xs) c) (subst (λ (z : Infix). StopsAt (right_rank z) q mid') (sym xs) (behind_infix t.kind x' is' j' c' s))

    back : (more : List Token) → Alike mid more → ((e : Expr) (o : Bool) (r : List Token) → Reads text (At (right_rank x)) more e o r → StopsAt (right_rank x) o r → ⊥) → (e : Expr) (o : Bool) (r : List Token) → Reads text (At n) ((h.front ++ t ∷ []) ++ more) e o r → StopsAt n o r → ⊥
    back more alike k e o r d s = go more k (h.back (t ∷ more) e o r (alike_stops (t ∷ mid) (t ∷ more) refl h.stops) (subst (λ z. Reads text (At n) z e o r) (append_assoc h.front (t ∷ []) more) d) s) s

-- an operator that may not take what stands before it
pub bad_chain : {text : List ℕ} {m n : ℕ} {ts mid : List Token} {a : Expr} {o : Bool} (t : Token) (x : Infix) → infix_of t.kind ≡ Some x → left_rank x < m → x.rank ≤ n → Partway text n m ts a o (t ∷ mid) → Bad text (At n) ts (length (t ∷ mid))
bad_chain {text} {m} {n} {ts} {mid} {a} {o} t x is l l' h =
    subst (λ z. Bad text (At n) z (length (t ∷ mid))) (sym h.whole) (bad_here h.front (t ∷ mid) [] a o (h.on [] a o [] r_stop) dead)
  where
    go : {q : Bool} {e : Expr} {p : Bool} {r : List Token} (us : List Token) → Reads text (Behind m n a q) (t ∷ us) e p r → StopsAt n p r → ⊥
    go us r_stop s = no_end x is l' s
    go us (r_infix t' x' is' j j' c c') s = let xs : x ≡ x' = cc in let j0 = subst (λ (z : Infix). m ≤ left_rank z) (sym xs) j in absurd (omega (arith, l, j0))

    dead : (more : List Token) (e : Expr) (p : Bool) (r : List Token) → Alike (t ∷ mid) more → Reads text (At n) (h.front ++ more) e p r → StopsAt n p r → ⊥
    dead [] e p r alike d s = alike
    dead (u ∷ us) e p r alike d s = go us (subst (λ z. Reads text (Behind m n a o) (z ∷ us) e p r) (sym alike) (h.back (u ∷ us) e p r (alike_stops (t ∷ mid) (u ∷ us) alike h.stops) d s)) s

-- an operator before its operand
nots_begin : {text : List ℕ} {ts r : List Token} {e : Expr} {o : Bool} → Reads text Nots ts e o r → Begins ts (Word word.Not)
nots_begin (r_more_nots {ts = ts} t is a) = record { first = t; more = ts; whole = refl; is = is }
nots_begin (r_last_not {ts = ts} t is a) = record { first = t; more = ts; whole = refl; is = is }

not_begins : {text : List ℕ} {ts us r : List Token} {e : Expr} {o : Bool} → Lacks ts (Word word.Not) → Alike ts us → Reads text Nots us e o r → ⊥
not_begins {ts = ts} {us = us} lacks alike d = let b = nots_begin d in alike_lacks ts us alike lacks b.first b.more b.whole b.is

not_rank : {text : List ℕ} {ts us r : List Token} {e : Expr} {o : Bool} → Begins ts (Word word.Not) → Alike ts us → Reads text (At 1) us e o r → ⊥
not_rank {ts = ts} {us = us} b alike d =
    let f = front_alike ts us alike in
    let g : front_rank ts ≡ 5 = ap front_rank b.whole ∙ ap operand_rank b.is in
    let h = at_front d in
    omega (arith, f, g, h)

one_prefix : {text : List ℕ} {n : ℕ} {ts r : List Token} {e : Expr} {o : Bool} (t : Token) (op : Prefix) → prefix_of t.kind ≡ Some op → op.rank ≡ n → Reads text (Operand n) (t ∷ ts) e o r
    → ((a : Expr) → Reads text (At n) ts a o r → ⊥)
    → (t.kind ≡ Word word.Pre → Begins ts (Word word.Not) → ⊥)
    → ⊥
one_prefix t op is l (r_prefix {a = a} t' op' is' l' d) k j = k a d
one_prefix t op is l (r_pre_not t' ip d) k j = j ip (nots_begin d)
one_prefix t op is l (r_if t' u v is' a iu b iv c) k j = no_prefix op is is' refl
one_prefix t op is l (r_atom t' is') k j = let g = prefix_some t.kind op is in omega (arith, g, l)
one_prefix t op is l (r_parens t' u is' a iu) k j = no_prefix op is is' refl
one_prefix t op is l (r_call t' u is' iu a) k j = no_prefix op is is' refl

pub bad_prefix : {text : List ℕ} {n : ℕ} {ts : List Token} (t : Token) (op : Prefix) → prefix_of t.kind ≡ Some op → op.rank ≡ n → (IsPreNot t ts → ⊥) → (left : ℕ) → Bad text (At n) ts left → Bad text (Operand n) (t ∷ ts) left
bad_prefix {text} {n} {ts} t op is l other = bad_in {pre = t ∷ []} (record { finish = finish; back = λ more alike k e o r d s. one_prefix t op is l d (λ a c. k a o r c s) (pre_not more alike) })
  where
    finish : (more : List Token) (e : Expr) (o : Bool) → Reads text (At n) more e o [] → (tail : List Token) × (e' : Expr) × (o' : Bool) × Reads text (Operand n) (t ∷ (more ++ tail)) e' o' []
    finish more e o d = ([], _, o, r_prefix t op is l (again_end d []))

    pre_not : (more : List Token) → Alike ts more → t.kind ≡ Word word.Pre → Begins more (Word word.Not) → ⊥
    pre_not more alike ip b = let f = same_first ts more alike b.first b.more b.whole in other (record { is_pre = ip; is_not = record { first = b.first; more = f.0; whole = f.1; is = b.is } })

pub bad_pre : {text : List ℕ} {ts : List Token} (t : Token) → IsPreNot t ts → (left : ℕ) → Bad text Nots ts left → Bad text (Operand 1) (t ∷ ts) left
bad_pre {text} {ts} t p = bad_in {pre = t ∷ []} (record { finish = finish; back = λ more alike k e o r d s. go more alike k d s })
  where
    finish : (more : List Token) (e : Expr) (o : Bool) → Reads text Nots more e o [] → (tail : List Token) × (e' : Expr) × (o' : Bool) × Reads text (Operand 1) (t ∷ (more ++ tail)) e' o' []
    finish more e o d = ([], _, o, r_pre_not t p.is_pre (again_end d []))

    ranked : {e : Expr} {o : Bool} {r : List Token} (more : List Token) → Alike ts more → Reads text (At 1) more e o r → ⊥
    ranked more alike d = not_rank p.is_not alike d

    go : {e : Expr} {o : Bool} {r : List Token} (more : List Token) → Alike ts more → ((e : Expr) (o : Bool) (r : List Token) → Reads text Nots more e o r → StopsAt 1 o r → ⊥) → Reads text (Operand 1) (t ∷ more) e o r → StopsAt 1 o r → ⊥
    go more alike k (r_prefix t' op' is' l' d) s = ranked more alike d
    go {o = o} {r = r} more alike k (r_pre_not {a = a} t' ip d) s = k a o r d s
    go more alike k (r_if t' u v is' a iu b iv c) s = let q = p.is_pre in absurd (cc)

-- `not`s behind a `pre`
pub bad_nots : {text : List ℕ} (ts : List Token) → Lacks ts (Word word.Not) → Bad text Nots ts (length ts)
bad_nots {text} ts lacks = bad_here [] ts (some (Word word.Not) ∷ a_name ∷ []) _ false (r_last_not (some (Word word.Not)) refl (name_read text 1 [])) (λ more e o r alike d s. not_begins lacks alike d)

pub bad_more_nots : {text : List ℕ} {ts : List Token} (t : Token) → t.kind ≡ Word word.Not → Begins ts (Word word.Not) → (left : ℕ) → Bad text Nots ts left → Bad text Nots (t ∷ ts) left
bad_more_nots {text} {ts} t is b = bad_in {pre = t ∷ []} (record { finish = finish; back = λ more alike k e o r d s. go more alike k d s })
  where
    finish : (more : List Token) (e : Expr) (o : Bool) → Reads text Nots more e o [] → (tail : List Token) × (e' : Expr) × (o' : Bool) × Reads text Nots (t ∷ (more ++ tail)) e' o' []
    finish more e o d = ([], _, o, r_more_nots t is (again_end d []))

    go : {e : Expr} {o : Bool} {r : List Token} (more : List Token) → Alike ts more → ((e : Expr) (o : Bool) (r : List Token) → Reads text Nots more e o r → StopsAt 1 o r → ⊥) → Reads text Nots (t ∷ more) e o r → StopsAt 1 o r → ⊥
    go {o = o} {r = r} more alike k (r_more_nots {a = a} t' is' d) s = k a o r d s
    go more alike k (r_last_not t' is' d) s = not_rank b alike d

pub bad_last_not : {text : List ℕ} {ts : List Token} (t : Token) → t.kind ≡ Word word.Not → Lacks ts (Word word.Not) → (left : ℕ) → Bad text (At 1) ts left → Bad text Nots (t ∷ ts) left
bad_last_not {text} {ts} t is lacks = bad_in {pre = t ∷ []} (record { finish = finish; back = λ more alike k e o r d s. go more alike k d s })
  where
    finish : (more : List Token) (e : Expr) (o : Bool) → Reads text (At 1) more e o [] → (tail : List Token) × (e' : Expr) × (o' : Bool) × Reads text Nots (t ∷ (more ++ tail)) e' o' []
    finish more e o d = ([], _, o, r_last_not t is (again_end d []))

    go : {e : Expr} {o : Bool} {r : List Token} (more : List Token) → Alike ts more → ((e : Expr) (o : Bool) (r : List Token) → Reads text (At 1) more e o r → StopsAt 1 o r → ⊥) → Reads text Nots (t ∷ more) e o r → StopsAt 1 o r → ⊥
    go more alike k (r_more_nots t' is' d) s = not_begins lacks alike d
    go {o = o} {r = r} more alike k (r_last_not {a = a} t' is' d) s = k a o r d s
