-- What the reader of expressions keeps in `if`s, in parentheses and in calls.
use Rattle.std.proofs.Common.{◌≡◌, ℕ, Bool, true, false, List, [], ◌∷◌, ◌++◌, length, refl, sym, ap, ◌∙◌, subst, append_assoc, arith}
use Rattle.std.specs.Prelude.{Some, None, Result, Ok, Err, IfOk, IfErr}
use Rattle.std.specs.Borrow.{Bor}
use Rattle.lus_syntax.specs.declared.grammar.fault.PartFault.{PartFault}
use Rattle.lus_syntax.specs.declared.grammar.fault.PartFault.TheVariants.{Stuck, Memory}
use Rattle.lus_syntax.specs.declared.token.Token.{Token}
use Rattle.lus_syntax.specs.declared.token.TokenKind.TheVariants.{Name, Word, Sign}
use Rattle.lus_syntax.specs.declared.token.Keyword.TheVariants as word
use Rattle.lus_syntax.specs.declared.token.Symbol.TheVariants as sign
use Rattle.lus_syntax.specs.declared.ast.Expr.{Expr}
use Rattle.lus_syntax.specs.declared.ast.ExprKind.TheVariants as tree
use Rattle.lus_syntax.specs.Grammar.{node, literal, spelling}
use Rattle.lus_syntax.specs.Operators.{loosest}
use Rattle.lus_syntax.specs.Parts.{Lacks, Alike}
use Rattle.lus_syntax.specs.Reading.{Part, At, Operand, Arguments, Reads, r_prefix, r_pre_not, r_if, r_atom, r_parens, r_call, r_no_arguments, r_last_argument, r_more_arguments, StopsAt, Stops, Bad, Answers, Called, Begins}
use Rattle.lus_syntax.proofs.ExprTables.{least, most, prefix_some, no_prefix, no_literal}
use Rattle.lus_syntax.proofs.ExprOnce.{by_close, by_comma, by_then, by_else, no_close, once}
use Rattle.lus_syntax.proofs.ExprBoth.{Span, span, not_nil}
use Rattle.lus_syntax.proofs.ExprSteps.{alike_stops, alike_lacks, begins_call, a_name, a_close, a_then, an_else, named, name_read, again_end, bad_in, bad_here}

-- what goes on over an `if` goes on over its parts
one_if : {text : List ℕ} {ts r : List Token} {e : Expr} {o : Bool} (t : Token) → t.kind ≡ Word word.If → Reads text (Operand 1) (t ∷ ts) e o r
    → ((us vs : List Token) (u v : Token) (a b c : Expr) (p q s : Bool) → Reads text (At loosest) ts a p (u ∷ us) → u.kind ≡ Word word.Then → Reads text (At loosest) us b q (v ∷ vs) → v.kind ≡ Word word.Else → Reads text (At loosest) vs c s r → o ≡ true → ⊥)
    → ⊥
one_if t is (r_prefix t' op is' l d) k = no_prefix op is' is refl
one_if t is (r_pre_not t' is' d) k = absurd (cc)
one_if t is (r_if {us = us} {vs = vs} {a = a} {b = b} {c = c} {p = p} {q = q} {o = s} t' u v is' d iu d' iv d'') k = k us vs u v a b c p q s d iu d' iv d'' refl

-- behind the `if`
pub bad_if : {text : List ℕ} {ts : List Token} (t : Token) → t.kind ≡ Word word.If → (left : ℕ) → Bad text (At loosest) ts left → Bad text (Operand 1) (t ∷ ts) left
bad_if {text} {ts} t is = bad_in {pre = t ∷ []} (record { finish = finish; back = λ more alike k e o r d s. one_if t is d (λ us vs u v a b c p q z d0 iu d1 iv d2 f. k a p (u ∷ us) d0 (by_then u us iu)) })
  where
    finish : (more : List Token) (e : Expr) (o : Bool) → Reads text (At loosest) more e o [] → (tail : List Token) × (e' : Expr) × (o' : Bool) × Reads text (Operand 1) (t ∷ (more ++ tail)) e' o' []
    finish more e o d = (a_then ∷ a_name ∷ an_else ∷ a_name ∷ [], _, true, r_if t a_then an_else is (again_end d (a_then ∷ a_name ∷ an_else ∷ a_name ∷ [])) refl (name_read text loosest (an_else ∷ a_name ∷ [])) refl (name_read text loosest []))

pub bad_no_then : {text : List ℕ} {ts rest : List Token} {a : Expr} {p : Bool} (t : Token) → t.kind ≡ Word word.If → Reads text (At loosest) ts a p rest → StopsAt loosest p rest → Lacks rest (Word word.Then) → Bad text (Operand 1) (t ∷ ts) (length rest)
bad_no_then {text} {ts} {rest} {a} {p} t is d st lacks =
    subst (λ z. Bad text (Operand 1) (t ∷ z) (length rest)) (sym s.whole)
    (bad_here (t ∷ s.front) rest (a_then ∷ a_name ∷ an_else ∷ a_name ∷ []) _ true (r_if t a_then an_else is (s.again (a_then ∷ a_name ∷ an_else ∷ a_name ∷ [])) refl (name_read text loosest (an_else ∷ a_name ∷ [])) refl (name_read text loosest [])) dead)
  where
    s : Span text (At loosest) ts a p rest
    s = span d

    dead : (more : List Token) (e : Expr) (o : Bool) (r : List Token) → Alike rest more → Reads text (Operand 1) (t ∷ (s.front ++ more)) e o r → StopsAt 1 o r → ⊥
    dead more e o r alike c st' = one_if t is c (λ us vs u v x y z f g h c0 iu c1 iv c2 e'. let same = once (s.again more) (alike_stops rest more alike st) c0 (by_then u us iu) in alike_lacks rest more alike lacks u us same.1 iu)

-- behind the `then`
pub bad_then : {text : List ℕ} {ts us : List Token} {a : Expr} {p : Bool} (t u : Token) → t.kind ≡ Word word.If → Reads text (At loosest) ts a p (u ∷ us) → u.kind ≡ Word word.Then → (left : ℕ) → Bad text (At loosest) us left → Bad text (Operand 1) (t ∷ ts) left
bad_then {text} {ts} {us} {a} {p} t u is d iu left bad =
    subst (λ z. Bad text (Operand 1) (t ∷ z) left) (append_assoc s.front (u ∷ []) us ∙ sym s.whole) (bad_in {pre = t ∷ (s.front ++ u ∷ [])} (record { finish = finish; back = back }) left bad)
  where
    s : Span text (At loosest) ts a p (u ∷ us)
    s = span d

    finish : (more : List Token) (e : Expr) (o : Bool) → Reads text (At loosest) more e o [] → (tail : List Token) × (e' : Expr) × (o' : Bool) × Reads text (Operand 1) (t ∷ ((s.front ++ u ∷ []) ++ (more ++ tail))) e' o' []
    finish more e o c = (an_else ∷ a_name ∷ [], node t.start (tree.Cond a e (named text)), true, subst (λ z. Reads text (Operand 1) (t ∷ z) (node t.start (tree.Cond a e (named text))) true []) (sym (append_assoc s.front (u ∷ []) (more ++ an_else ∷ a_name ∷ []))) (r_if t u an_else is (s.again (u ∷ (more ++ an_else ∷ a_name ∷ []))) iu (again_end c (an_else ∷ a_name ∷ [])) refl (name_read text loosest [])))

    back : (more : List Token) → Alike us more → ((e : Expr) (o : Bool) (r : List Token) → Reads text (At loosest) more e o r → StopsAt loosest o r → ⊥) → (e : Expr) (o : Bool) (r : List Token) → Reads text (Operand 1) (t ∷ ((s.front ++ u ∷ []) ++ more)) e o r → StopsAt 1 o r → ⊥
    back more alike k e o r c st = one_if t is (subst (λ z. Reads text (Operand 1) (t ∷ z) e o r) (append_assoc s.front (u ∷ []) more) c) (λ us' vs u' v x y z f g h c0 iu' c1 iv c2 e'.
        let same = once (s.again (u ∷ more)) (by_then u more iu) c0 (by_then u' us' iu') in
        let rests : us' ≡ more = (let w = same.1 in cc) in
        k y g (v ∷ vs) (subst (λ z. Reads text (At loosest) z y g (v ∷ vs)) rests c1) (by_else v vs iv))

-- a whole front up to the `else`
until : (xs ys rest : List Token) (u : Token) → (xs ++ u ∷ ys) ++ rest ≡ xs ++ u ∷ (ys ++ rest)
until xs ys rest u = append_assoc xs (u ∷ ys) rest

pub bad_no_else : {text : List ℕ} {ts us rest : List Token} {a b : Expr} {p q : Bool} (t u : Token) → t.kind ≡ Word word.If → Reads text (At loosest) ts a p (u ∷ us) → u.kind ≡ Word word.Then → Reads text (At loosest) us b q rest → StopsAt loosest q rest → Lacks rest (Word word.Else) → Bad text (Operand 1) (t ∷ ts) (length rest)
bad_no_else {text} {ts} {us} {rest} {a} {b} {p} {q} t u is d iu d' st lacks =
    subst (λ z. Bad text (Operand 1) (t ∷ z) (length rest)) (until s.front w.front rest u ∙ ap (λ z. s.front ++ u ∷ z) (sym w.whole) ∙ sym s.whole)
    (bad_here (t ∷ (s.front ++ u ∷ w.front)) rest (an_else ∷ a_name ∷ []) (node t.start (tree.Cond a b (named text))) true reach dead)
  where
    s : Span text (At loosest) ts a p (u ∷ us)
    s = span d

    w : Span text (At loosest) us b q rest
    w = span d'

    reach : Reads text (Operand 1) (t ∷ ((s.front ++ u ∷ w.front) ++ an_else ∷ a_name ∷ [])) (node t.start (tree.Cond a b (named text))) true []
    reach = subst (λ z. Reads text (Operand 1) (t ∷ z) (node t.start (tree.Cond a b (named text))) true []) (sym (until s.front w.front (an_else ∷ a_name ∷ []) u)) (r_if t u an_else is (s.again (u ∷ (w.front ++ an_else ∷ a_name ∷ []))) iu (w.again (an_else ∷ a_name ∷ [])) refl (name_read text loosest []))

    dead : (more : List Token) (e : Expr) (o : Bool) (r : List Token) → Alike rest more → Reads text (Operand 1) (t ∷ ((s.front ++ u ∷ w.front) ++ more)) e o r → StopsAt 1 o r → ⊥
    dead more e o r alike c st' = one_if t is (subst (λ z. Reads text (Operand 1) (t ∷ z) e o r) (until s.front w.front more u) c) (λ us' vs u' v x y z f g h c0 iu' c1 iv c2 e'.
        let same = once (s.again (u ∷ (w.front ++ more))) (by_then u (w.front ++ more) iu) c0 (by_then u' us' iu') in
        let rests : us' ≡ w.front ++ more = (let k = same.1 in cc) in
        let twice = once (w.again more) (alike_stops rest more alike st) (subst (λ z. Reads text (At loosest) z y g (v ∷ vs)) rests c1) (by_else v vs iv) in
        alike_lacks rest more alike lacks v vs twice.1 iv)

-- behind the `else`
pub bad_else : {text : List ℕ} {ts us vs : List Token} {a b : Expr} {p q : Bool} (t u v : Token) → t.kind ≡ Word word.If → Reads text (At loosest) ts a p (u ∷ us) → u.kind ≡ Word word.Then → Reads text (At loosest) us b q (v ∷ vs) → v.kind ≡ Word word.Else → (left : ℕ) → Bad text (At loosest) vs left → Bad text (Operand 1) (t ∷ ts) left
bad_else {text} {ts} {us} {vs} {a} {b} {p} {q} t u v is d iu d' iv left bad =
    subst (λ z. Bad text (Operand 1) (t ∷ z) left) (until s.front (w.front ++ v ∷ []) vs u ∙ ap (λ z. s.front ++ u ∷ z) (append_assoc w.front (v ∷ []) vs ∙ sym w.whole) ∙ sym s.whole)
    (bad_in {pre = t ∷ (s.front ++ u ∷ (w.front ++ v ∷ []))} (record { finish = finish; back = back }) left bad)
  where
    s : Span text (At loosest) ts a p (u ∷ us)
    s = span d

    w : Span text (At loosest) us b q (v ∷ vs)
    w = span d'

    whole : (more : List Token) → (s.front ++ u ∷ (w.front ++ v ∷ [])) ++ more ≡ s.front ++ u ∷ (w.front ++ v ∷ more)
    whole more = until s.front (w.front ++ v ∷ []) more u ∙ ap (λ z. s.front ++ u ∷ z) (append_assoc w.front (v ∷ []) more)

    finish : (more : List Token) (e : Expr) (o : Bool) → Reads text (At loosest) more e o [] → (tail : List Token) × (e' : Expr) × (o' : Bool) × Reads text (Operand 1) (t ∷ ((s.front ++ u ∷ (w.front ++ v ∷ [])) ++ (more ++ tail))) e' o' []
    finish more e o c = ([], node t.start (tree.Cond a b e), true, subst (λ z. Reads text (Operand 1) (t ∷ z) (node t.start (tree.Cond a b e)) true []) (sym (whole (more ++ []))) (r_if t u v is (s.again (u ∷ (w.front ++ v ∷ (more ++ [])))) iu (w.again (v ∷ (more ++ []))) iv (again_end c [])))

    back : (more : List Token) → Alike vs more → ((e : Expr) (o : Bool) (r : List Token) → Reads text (At loosest) more e o r → StopsAt loosest o r → ⊥) → (e : Expr) (o : Bool) (r : List Token) → Reads text (Operand 1) (t ∷ ((s.front ++ u ∷ (w.front ++ v ∷ [])) ++ more)) e o r → StopsAt 1 o r → ⊥
    back more alike k e o r c st = one_if t is (subst (λ z. Reads text (Operand 1) (t ∷ z) e o r) (whole more) c) (λ us' vs' u' v' x y z f g h c0 iu' c1 iv' c2 e'.
        let same = once (s.again (u ∷ (w.front ++ v ∷ more))) (by_then u (w.front ++ v ∷ more) iu) c0 (by_then u' us' iu') in
        let rests : us' ≡ w.front ++ v ∷ more = (let j = same.1 in cc) in
        let twice = once (w.again (v ∷ more)) (by_else v more iv) (subst (λ z. Reads text (At loosest) z y g (v' ∷ vs')) rests c1) (by_else v' vs' iv') in
        let ends : vs' ≡ more = (let j = twice.1 in cc) in
        k z h r (subst (λ l. Reads text (At loosest) l z h r) ends c2) (record { no_infix = λ t' ts' x' i j. let m = (st.no_infix t' ts' x' i j).0 in absurd (cc); no_call = st.no_call }))

-- parentheses
one_parens : {text : List ℕ} {ts r : List Token} {e : Expr} {o : Bool} (t : Token) → t.kind ≡ Sign sign.OpenParen → Reads text (Operand 0) (t ∷ ts) e o r
    → ((u : Token) (p : Bool) → Reads text (At loosest) ts e p (u ∷ r) → u.kind ≡ Sign sign.CloseParen → ⊥)
    → ⊥
one_parens t is (r_prefix t' op is' l d) k = no_prefix op is' is refl
one_parens {text} t is (r_atom t' is') k = no_literal text t is' is refl
one_parens t is (r_parens {o = p} t' u is' d iu) k = k u p d iu
one_parens t is (r_call t' u is' iu d) k = absurd (cc)

pub bad_parens : {text : List ℕ} {ts : List Token} (t : Token) → t.kind ≡ Sign sign.OpenParen → (left : ℕ) → Bad text (At loosest) ts left → Bad text (Operand 0) (t ∷ ts) left
bad_parens {text} {ts} t is = bad_in {pre = t ∷ []} (record { finish = finish; back = λ more alike k e o r d s. one_parens t is d (λ u p c iu. k e p (u ∷ r) c (by_close u r iu)) })
  where
    finish : (more : List Token) (e : Expr) (o : Bool) → Reads text (At loosest) more e o [] → (tail : List Token) × (e' : Expr) × (o' : Bool) × Reads text (Operand 0) (t ∷ (more ++ tail)) e' o' []
    finish more e o d = (a_close ∷ [], e, false, r_parens t a_close is (again_end d (a_close ∷ [])) refl)

pub bad_no_close : {text : List ℕ} {ts rest : List Token} {a : Expr} {p : Bool} (t : Token) → t.kind ≡ Sign sign.OpenParen → Reads text (At loosest) ts a p rest → StopsAt loosest p rest → Lacks rest (Sign sign.CloseParen) → Bad text (Operand 0) (t ∷ ts) (length rest)
bad_no_close {text} {ts} {rest} {a} {p} t is d st lacks =
    subst (λ z. Bad text (Operand 0) (t ∷ z) (length rest)) (sym s.whole)
    (bad_here (t ∷ s.front) rest (a_close ∷ []) a false (r_parens t a_close is (s.again (a_close ∷ [])) refl) dead)
  where
    s : Span text (At loosest) ts a p rest
    s = span d

    dead : (more : List Token) (e : Expr) (o : Bool) (r : List Token) → Alike rest more → Reads text (Operand 0) (t ∷ (s.front ++ more)) e o r → StopsAt 0 o r → ⊥
    dead more e o r alike c st' = one_parens t is c (λ u q c0 iu. let same = once (s.again more) (alike_stops rest more alike st) c0 (by_close u r iu) in alike_lacks rest more alike lacks u r same.1 iu)

-- a `(` behind what can't be called
pub bad_call_parens : {text : List ℕ} {ts rest : List Token} {a : Expr} {p : Bool} (t u : Token) → t.kind ≡ Sign sign.OpenParen → Reads text (At loosest) ts a p (u ∷ rest) → u.kind ≡ Sign sign.CloseParen → Begins rest (Sign sign.OpenParen) → Bad text (Operand 0) (t ∷ ts) (length rest)
bad_call_parens {text} {ts} {rest} {a} {p} t u is d iu b =
    subst (λ z. Bad text (Operand 0) (t ∷ z) (length rest)) (append_assoc s.front (u ∷ []) rest ∙ sym s.whole)
    (bad_here (t ∷ (s.front ++ u ∷ [])) rest [] a false reach dead)
  where
    s : Span text (At loosest) ts a p (u ∷ rest)
    s = span d

    reach : Reads text (Operand 0) (t ∷ ((s.front ++ u ∷ []) ++ [])) a false []
    reach = subst (λ z. Reads text (Operand 0) (t ∷ z) a false []) (sym (append_assoc s.front (u ∷ []) [])) (r_parens t u is (s.again (u ∷ [])) iu)

    dead : (more : List Token) (e : Expr) (o : Bool) (r : List Token) → Alike rest more → Reads text (Operand 0) (t ∷ ((s.front ++ u ∷ []) ++ more)) e o r → StopsAt 0 o r → ⊥
    dead more e o r alike c st = one_parens t is (subst (λ z. Reads text (Operand 0) (t ∷ z) e o r) (append_assoc s.front (u ∷ []) more) c) (λ u' q c0 iu'.
        let same = once (s.again (u ∷ more)) (by_close u more iu) c0 (by_close u' r iu') in
        let rests : r ≡ more = (let j = same.1 in cc) in
        begins_call rest more b alike (subst (λ z. StopsAt 0 o z) rests st))

pub bad_call_literal : {text : List ℕ} {rest : List Token} {e : Expr} (t : Token) → (t.kind ≡ Name → ⊥) → literal text t t.kind ≡ Some e → Begins rest (Sign sign.OpenParen) → Bad text (Operand 0) (t ∷ rest) (length rest)
bad_call_literal {text} {rest} {e} t other is b = bad_here (t ∷ []) rest [] e false (r_atom t is) (λ more x o r alike d s. go more alike d s)
  where
    go : {x : Expr} {o : Bool} {r : List Token} (more : List Token) → Alike rest more → Reads text (Operand 0) (t ∷ more) x o r → StopsAt 0 o r → ⊥
    go more alike (r_prefix t' op is' l d) s = let g = prefix_some t.kind op is' in omega (arith, g, l)
    go more alike (r_atom t' is') s = begins_call rest more b alike s
    go more alike (r_parens t' u is' d iu) s = no_literal text t is is' refl
    go more alike (r_call t' u is' iu d) s = other is'

pub bad_atom : {text : List ℕ} {ts : List Token} (t : Token) → (t.kind ≡ Sign sign.OpenParen → ⊥) → (t.kind ≡ Name → ⊥) → literal text t t.kind ≡ None → Bad text (Operand 0) (t ∷ ts) (length (t ∷ ts))
bad_atom {text} {ts} t no_open other is = bad_here [] (t ∷ ts) (a_name ∷ []) (named text) false (r_atom a_name refl) (λ more x o r alike d s. go more alike d)
  where
    go : {x : Expr} {o : Bool} {r : List Token} (more : List Token) → Alike (t ∷ ts) more → Reads text (Operand 0) more x o r → ⊥
    go more alike (r_prefix t' op is' l d) = let g = prefix_some t'.kind op is' in omega (arith, g, l)
    go more alike (r_atom t' is') = let f = ap (λ (z : Token). literal text z z.kind) alike in absurd (cc)
    go more alike (r_parens t' u is' d iu) = no_open (ap (λ (z : Token). z.kind) alike ∙ is')
    go more alike (r_call t' u is' iu d) = other (ap (λ (z : Token). z.kind) alike ∙ is')

pub bad_nothing : {text : List ℕ} → Bad text (Operand 0) [] 0
bad_nothing {text} = bad_here [] [] (a_name ∷ []) (named text) false (r_atom a_name refl) (λ more x o r alike d s. go more alike d)
  where
    none : {x : Expr} {o : Bool} {r : List Token} {p : ℕ} → Reads text (Operand p) [] x o r → ⊥
    none d = elim d [ ]

    go : {x : Expr} {o : Bool} {r : List Token} (more : List Token) → Alike [] more → Reads text (Operand 0) more x o r → ⊥
    go [] alike d = none d
    go (u ∷ us) alike d = alike

-- calls
pub call_closed : {text : List ℕ} {name : Token} {before : List Expr} {ts r : List Token} {e : Expr} {o : Bool} → Reads text (Arguments name before) ts e o r → o ≡ false
call_closed (r_no_arguments u iu) = refl
call_closed (r_last_argument u a iu) = refl
call_closed (r_more_arguments u a iu b) = refl

pub bad_name : {text : List ℕ} {ts : List Token} (t u : Token) → t.kind ≡ Name → u.kind ≡ Sign sign.OpenParen → (left : ℕ) → Bad text (Arguments t []) ts left → Bad text (Operand 0) (t ∷ u ∷ ts) left
bad_name {text} {ts} t u is iu = bad_in {pre = t ∷ u ∷ []} (record { finish = finish; back = λ more alike k e o r d s. go more k d s })
  where
    finish : (more : List Token) (e : Expr) (o : Bool) → Reads text (Arguments t []) more e o [] → (tail : List Token) × (e' : Expr) × (o' : Bool) × Reads text (Operand 0) (t ∷ u ∷ (more ++ tail)) e' o' []
    finish more e o d = ([], e, false, r_call t u is iu (again_end (subst (λ z. Reads text (Arguments t []) more e z []) (call_closed d) d) []))

    go : {e : Expr} {o : Bool} {r : List Token} (more : List Token) → ((e : Expr) (o : Bool) (r : List Token) → Reads text (Arguments t []) more e o r → StopsAt 0 o r → ⊥) → Reads text (Operand 0) (t ∷ u ∷ more) e o r → StopsAt 0 o r → ⊥
    go more k (r_prefix t' op is' l d) s = no_prefix op is' is refl
    go more k (r_atom t' is') s = s.no_call u more refl iu
    go more k (r_parens t' u' is' d iu') s = absurd (cc)
    go {e} {o} {r} more k (r_call t' u' is' iu' d) s = k e false r d s

pub called_start : {text : List ℕ} {name : Token} {ts : List Token} → Lacks ts (Sign sign.CloseParen) → Called text name ts [] ts
called_start {ts = ts} lacks = record { front = []; whole = refl; on = λ more e r d. d; back = λ more e p r d. d; bare = λ f. lacks }

-- what goes on over an argument
one_argument : {text : List ℕ} {name : Token} {before : List Expr} {rest r : List Token} {e : Expr} {o : Bool} → (before ≡ [] → Lacks rest (Sign sign.CloseParen)) → (more : List Token) → Alike rest more → Reads text (Arguments name before) more e o r
    → ((u : Token) (a : Expr) (p : Bool) → Reads text (At loosest) more a p (u ∷ r) → u.kind ≡ Sign sign.CloseParen → ⊥)
    → ((u : Token) (us : List Token) (a : Expr) (p : Bool) → Reads text (At loosest) more a p (u ∷ us) → u.kind ≡ Sign sign.Comma → ⊥)
    → ⊥
one_argument {rest = rest} {r = r} bare more alike (r_no_arguments u iu) k j = alike_lacks rest (u ∷ r) alike (bare refl) u r refl iu
one_argument bare more alike (r_last_argument {a = a} {p = p} u d iu) k j = k u a p d iu
one_argument bare more alike (r_more_arguments {us = us} {a = a} {p = p} u d iu d') k j = j u us a p d iu

pub bad_argument : {text : List ℕ} {name : Token} {before : List Expr} {ts rest : List Token} → Called text name ts before rest → (left : ℕ) → Bad text (At loosest) rest left → Bad text (Arguments name []) ts left
bad_argument {text} {name} {before} {ts} {rest} h left bad =
    subst (λ z. Bad text (Arguments name []) z left) (sym h.whole) (bad_in {pre = h.front} (record { finish = finish; back = back }) left bad)
  where
    finish : (more : List Token) (e : Expr) (o : Bool) → Reads text (At loosest) more e o [] → (tail : List Token) × (e' : Expr) × (o' : Bool) × Reads text (Arguments name []) (h.front ++ (more ++ tail)) e' o' []
    finish more e o d = (a_close ∷ [], _, false, h.on (more ++ a_close ∷ []) _ [] (r_last_argument a_close (again_end d (a_close ∷ [])) refl))

    back : (more : List Token) → Alike rest more → ((e : Expr) (o : Bool) (r : List Token) → Reads text (At loosest) more e o r → StopsAt loosest o r → ⊥) → (e : Expr) (o : Bool) (r : List Token) → Reads text (Arguments name []) (h.front ++ more) e o r → StopsAt 0 o r → ⊥
    back more alike k e o r d s = one_argument h.bare more alike (h.back more e o r d) (λ u a p c iu. k a p (u ∷ r) c (by_close u r iu)) (λ u us a p c iu. k a p (u ∷ us) c (by_comma u us iu))

pub bad_separator : {text : List ℕ} {name : Token} {before : List Expr} {ts rest after : List Token} {a : Expr} {p : Bool} → Called text name ts before rest → Reads text (At loosest) rest a p after → StopsAt loosest p after → Lacks after (Sign sign.Comma) → Lacks after (Sign sign.CloseParen) → Bad text (Arguments name []) ts (length after)
bad_separator {text} {name} {before} {ts} {rest} {after} {a} {p} h d st no_comma lacks =
    subst (λ z. Bad text (Arguments name []) z (length after)) (append_assoc h.front s.front after ∙ ap (λ z. h.front ++ z) (sym s.whole) ∙ sym h.whole)
    (bad_here (h.front ++ s.front) after (a_close ∷ []) _ false reach dead)
  where
    s : Span text (At loosest) rest a p after
    s = span d

    reach : Reads text (Arguments name []) ((h.front ++ s.front) ++ a_close ∷ []) (node name.start (tree.Call (spelling text name) (before ++ a ∷ []))) false []
    reach = subst (λ z. Reads text (Arguments name []) z (node name.start (tree.Call (spelling text name) (before ++ a ∷ []))) false []) (sym (append_assoc h.front s.front (a_close ∷ []))) (h.on (s.front ++ a_close ∷ []) _ [] (r_last_argument a_close (s.again (a_close ∷ [])) refl))

    go : {given : List Expr} {e : Expr} {o : Bool} {r : List Token} (more zs : List Token) → Alike after more → s.front ++ more ≡ zs → Reads text (Arguments name given) zs e o r → ⊥
    go {r = r} more zs alike f (r_no_arguments u iu) = no_close (subst (λ z. Reads text (At loosest) z a p more) f (s.again more)) iu
    go {r = r} more zs alike f (r_last_argument {a = a'} {p = q} u c iu) = let same = once (s.again more) (alike_stops after more alike st) (subst (λ z. Reads text (At loosest) z a' q (u ∷ r)) (sym f) c) (by_close u r iu) in alike_lacks after more alike lacks u r same.1 iu
    go more zs alike f (r_more_arguments {us = us} {a = a'} {p = q} u c iu c') = let same = once (s.again more) (alike_stops after more alike st) (subst (λ z. Reads text (At loosest) z a' q (u ∷ us)) (sym f) c) (by_comma u us iu) in alike_lacks after more alike no_comma u us same.1 iu

    dead : (more : List Token) (e : Expr) (o : Bool) (r : List Token) → Alike after more → Reads text (Arguments name []) ((h.front ++ s.front) ++ more) e o r → StopsAt 0 o r → ⊥
    dead more e o r alike c st' = go more (s.front ++ more) alike refl (h.back (s.front ++ more) e o r (subst (λ z. Reads text (Arguments name []) z e o r) (append_assoc h.front s.front more) c))

pub called_more : {text : List ℕ} {name : Token} {before : List Expr} {ts rest us : List Token} {a : Expr} {p : Bool} (u : Token) → Called text name ts before rest → Reads text (At loosest) rest a p (u ∷ us) → u.kind ≡ Sign sign.Comma → Called text name ts (before ++ a ∷ []) us
called_more {text} {name} {before} {ts} {rest} {us} {a} {p} u h d iu = record {
  front = h.front ++ (s.front ++ u ∷ []);
  whole = h.whole ∙ ap (λ z. h.front ++ z) s.whole ∙ sym (whole us);
  on = λ more e r c. subst (λ z. Reads text (Arguments name []) z e false r) (sym (whole more)) (h.on (s.front ++ u ∷ more) e r (r_more_arguments u (s.again (u ∷ more)) iu c));
  back = λ more e o r c. go more (s.front ++ u ∷ more) refl (h.back (s.front ++ u ∷ more) e o r (subst (λ z. Reads text (Arguments name []) z e o r) (whole more) c));
  bare = λ f. not_nil before a f;
}
  where
    s : Span text (At loosest) rest a p (u ∷ us)
    s = span d

    whole : (more : List Token) → (h.front ++ (s.front ++ u ∷ [])) ++ more ≡ h.front ++ (s.front ++ u ∷ more)
    whole more = append_assoc h.front (s.front ++ u ∷ []) more ∙ ap (λ z. h.front ++ z) (append_assoc s.front (u ∷ []) more)

    go : {given : List Expr} {e : Expr} {o : Bool} {r : List Token} (more zs : List Token) → s.front ++ u ∷ more ≡ zs → Reads text (Arguments name given) zs e o r → Reads text (Arguments name (given ++ a ∷ [])) more e o r
    go more zs f (r_no_arguments v iv) = no_close (subst (λ z. Reads text (At loosest) z a p (u ∷ more)) f (s.again (u ∷ more))) iv
    go {r = r} more zs f (r_last_argument {a = a'} {p = q} v c iv) =
        let same = once (s.again (u ∷ more)) (by_comma u more iu) (subst (λ z. Reads text (At loosest) z a' q (v ∷ r)) (sym f) c) (by_close v r iv) in
        let j = same.1 in
        let g : u ≡ v = cc in
        absurd (cc)
    go {given} {e} {o} {r} more zs f (r_more_arguments {us = us'} {a = a'} {p = q} v c iv c') =
        let same = once (s.again (u ∷ more)) (by_comma u more iu) (subst (λ z. Reads text (At loosest) z a' q (v ∷ us')) (sym f) c) (by_comma v us' iv) in
        let j = same.1 in
        let g : us' ≡ more = cc in
        subst (λ z. Reads text (Arguments name (given ++ z ∷ [])) more e false r) (sym same.0) (subst (λ z. Reads text (Arguments name (given ++ a' ∷ [])) z e false r) g c')

pub called_end : {text : List ℕ} {name : Token} {before : List Expr} {ts rest r : List Token} {a : Expr} {p : Bool} (u : Token) → Called text name ts before rest → Reads text (At loosest) rest a p (u ∷ r) → u.kind ≡ Sign sign.CloseParen → Reads text (Arguments name []) ts (node name.start (tree.Call (spelling text name) (before ++ a ∷ []))) false r
called_end {text} {name} {before} {ts} {rest} {r} {a} u h d iu = subst (λ z. Reads text (Arguments name []) z (node name.start (tree.Call (spelling text name) (before ++ a ∷ []))) false r) (sym h.whole) (h.on rest _ r (r_last_argument u d iu))

pub bad_call_call : {text : List ℕ} {name : Token} {before : List Expr} {ts rest after : List Token} {a : Expr} {p : Bool} (u : Token) → Called text name ts before rest → Reads text (At loosest) rest a p (u ∷ after) → u.kind ≡ Sign sign.CloseParen → Begins after (Sign sign.OpenParen) → Bad text (Arguments name []) ts (length after)
bad_call_call {text} {name} {before} {ts} {rest} {after} {a} {p} u h d iu b =
    subst (λ z. Bad text (Arguments name []) z (length after)) (whole after ∙ ap (λ z. h.front ++ z) (sym s.whole) ∙ sym h.whole)
    (bad_here (h.front ++ (s.front ++ u ∷ [])) after [] _ false reach dead)
  where
    s : Span text (At loosest) rest a p (u ∷ after)
    s = span d

    whole : (more : List Token) → (h.front ++ (s.front ++ u ∷ [])) ++ more ≡ h.front ++ (s.front ++ u ∷ more)
    whole more = append_assoc h.front (s.front ++ u ∷ []) more ∙ ap (λ z. h.front ++ z) (append_assoc s.front (u ∷ []) more)

    reach : Reads text (Arguments name []) ((h.front ++ (s.front ++ u ∷ [])) ++ []) (node name.start (tree.Call (spelling text name) (before ++ a ∷ []))) false []
    reach = subst (λ z. Reads text (Arguments name []) z (node name.start (tree.Call (spelling text name) (before ++ a ∷ []))) false []) (sym (whole [])) (h.on (s.front ++ u ∷ []) _ [] (r_last_argument u (s.again (u ∷ [])) iu))

    go : {given : List Expr} {e : Expr} {o : Bool} {r : List Token} (more zs : List Token) → Alike after more → s.front ++ u ∷ more ≡ zs → Reads text (Arguments name given) zs e o r → StopsAt 0 o r → ⊥
    go more zs alike f (r_no_arguments v iv) st = no_close (subst (λ z. Reads text (At loosest) z a p (u ∷ more)) f (s.again (u ∷ more))) iv
    go {o = o} {r = r} more zs alike f (r_last_argument {a = a'} {p = q} v c iv) st =
        let same = once (s.again (u ∷ more)) (by_close u more iu) (subst (λ z. Reads text (At loosest) z a' q (v ∷ r)) (sym f) c) (by_close v r iv) in
        let j = same.1 in
        let g : r ≡ more = cc in
        begins_call after more b alike (subst (λ z. StopsAt 0 o z) g st)
    go more zs alike f (r_more_arguments {us = us'} {a = a'} {p = q} v c iv c') st =
        let same = once (s.again (u ∷ more)) (by_close u more iu) (subst (λ z. Reads text (At loosest) z a' q (v ∷ us')) (sym f) c) (by_comma v us' iv) in
        let j = same.1 in
        let g : u ≡ v = cc in
        absurd (cc)

    dead : (more : List Token) (e : Expr) (o : Bool) (r : List Token) → Alike after more → Reads text (Arguments name []) ((h.front ++ (s.front ++ u ∷ [])) ++ more) e o r → StopsAt 0 o r → ⊥
    dead more e o r alike c st = go more (s.front ++ u ∷ more) alike refl (h.back (s.front ++ u ∷ more) e o r (subst (λ z. Reads text (Arguments name []) z e o r) (whole more) c)) st

pub bad_call_none : {text : List ℕ} {name : Token} {after : List Token} (u : Token) → u.kind ≡ Sign sign.CloseParen → Begins after (Sign sign.OpenParen) → Bad text (Arguments name []) (u ∷ after) (length after)
bad_call_none {text} {name} {after} u iu b = bad_here (u ∷ []) after [] _ false (r_no_arguments u iu) (λ more e o r alike d s. go more alike d s)
  where
    go : {e : Expr} {o : Bool} {r : List Token} (more : List Token) → Alike after more → Reads text (Arguments name []) (u ∷ more) e o r → StopsAt 0 o r → ⊥
    go more alike (r_no_arguments v iv) st = begins_call after more b alike st
    go more alike (r_last_argument v c iv) st = no_close c iu
    go more alike (r_more_arguments v c iv c') st = no_close c iu

-- what may follow an atom
pub stops_atom : {o : Bool} (rest : List Token) → o ≡ false → Lacks rest (Sign sign.OpenParen) → StopsAt 0 o rest
stops_atom rest f lacks = record { no_infix = λ t us x e is. let l = least t.kind x is in (f, omega (arith, l)); no_call = lacks }

-- what is answered where no `(` may follow
pub ended : {text : List ℕ} (p : Part) {ts rest : List Token} {e : Expr} (result : Result (Expr × Bor (List Token)) PartFault) → IfOk result (λ f. f.0 ≡ e) → IfOk result (λ f. f.1.now ≡ rest) → IfOk result (λ f. Lacks rest (Sign sign.OpenParen)) → IfErr result (λ fault. Begins rest (Sign sign.OpenParen)) → IfErr result (λ fault. fault ≡ Stuck (length rest)) → Reads text p ts e false rest → (Lacks rest (Sign sign.OpenParen) → Stops p false rest) → (Begins rest (Sign sign.OpenParen) → Bad text p ts (length rest)) → Answers text p ts result
ended {text} p {ts} {rest} {e} (Ok f) same same_rest lacks b err d st bad = (false, subst (λ z. Reads text p ts z false f.1.now) (sym same) (subst (λ z. Reads text p ts e false z) (sym same_rest) d), subst (Stops p false) (sym same_rest) (st lacks))
ended {text} p {ts} {rest} (Err (Stuck n)) same same_rest lacks b err d st bad = let f : length rest ≡ n = cc in subst (Bad text p ts) f (bad b)
ended p (Err Memory) same same_rest lacks b err d st bad = tt

pub call_answers : (text : List ℕ) (ts : List Token) (t u : Token) → t.kind ≡ Name → u.kind ≡ Sign sign.OpenParen → (result : Result (Expr × Bor (List Token)) PartFault) → Answers text (Arguments t []) ts result → Answers text (Operand 0) (t ∷ u ∷ ts) result
call_answers text ts t u is iu (Ok f) h = let o = call_closed h.1 in (false, r_call t u is iu (subst (λ z. Reads text (Arguments t []) ts f.0 z f.1.now) o h.1), subst (λ z. StopsAt 0 z f.1.now) o h.2)
call_answers text ts t u is iu (Err (Stuck n)) h = bad_name t u is iu n h
call_answers text ts t u is iu (Err Memory) h = tt

-- what may follow the last part of an `if`
pub stops_if : {o : Bool} (rest : List Token) → StopsAt loosest o rest → StopsAt 1 true rest
stops_if rest s = record { no_infix = λ t us x e is. let l = most t.kind x is in let f = (s.no_infix t us x e is).1 in absurd (omega (arith, l, f)); no_call = s.no_call }
