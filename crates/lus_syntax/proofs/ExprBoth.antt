-- What is read of an expression is a front of the tokens, which is derived; what is derived is read.
use Rattle.std.proofs.Common.{◌≡◌, ℕ, suc, zero, ◌+◌, ◌-◌, ◌≤◌, Bool, true, false, List, [], ◌∷◌, ◌++◌, refl, sym, ap, ◌∙◌, subst, append_assoc, arith}
use Rattle.std.specs.Prelude.{Some}
use Rattle.lus_syntax.specs.declared.token.Token.{Token}
use Rattle.lus_syntax.specs.declared.token.TokenKind.TheVariants.{Name, Sign}
use Rattle.lus_syntax.specs.declared.token.Symbol.TheVariants as sign
use Rattle.lus_syntax.specs.declared.ast.Expr.{Expr}
use Rattle.lus_syntax.specs.declared.ast.ExprKind.TheVariants as tree
use Rattle.lus_syntax.specs.declared.operators.Grouping.{Grouping}
use Rattle.lus_syntax.specs.declared.operators.Grouping.TheVariants.{ToLeft, ToRight, Alone}
use Rattle.lus_syntax.specs.declared.operators.Infix.{Infix}
use Rattle.lus_syntax.specs.declared.operators.Prefix.{Prefix}
use Rattle.lus_syntax.specs.Grammar.{node, spelling, DerivesExpr, tighter, before, before_not, to_left, to_right, alone, conditional, atom, call_of_none, call, parens, DerivesNots, last_not, more_nots, DerivesArguments, last_argument, more_arguments}
use Rattle.lus_syntax.specs.Operators.{infix_of, prefix_of, loosest, left_of, left_rank, right_of, right_rank}
use Rattle.lus_syntax.specs.Reading.{Part, At, Behind, Operand, Nots, Arguments, Reads, r_at, r_stop, r_infix, r_prefix, r_pre_not, r_if, r_atom, r_parens, r_call, r_more_nots, r_last_not, r_no_arguments, r_last_argument, r_more_arguments}
use Rattle.lus_syntax.proofs.ExprTables.{least, prefix_some}

-- a call from its arguments on, some of which are given
pub data MadeCall (text : List ℕ) (name : Token) (given : List Expr) : List Token → Expr → Type 0 where
  of_none : (u : Token) → u.kind ≡ Sign sign.CloseParen → given ≡ []
      → MadeCall text name given (u ∷ []) (node name.start (tree.Call (spelling text name) []))
  of_some : {zs : List Token} {args : List Expr} (u : Token) → DerivesArguments text zs args → u.kind ≡ Sign sign.CloseParen
      → MadeCall text name given (zs ++ u ∷ []) (node name.start (tree.Call (spelling text name) (given ++ args)))

abbrev pub Made : List ℕ → Part → List Token → Expr → Bool → Type 0
Made text (At n) front e o = DerivesExpr text n o front e
Made text (Behind m n a p) front e o = (xs : List Token) → DerivesExpr text m p xs a → m ≤ n → DerivesExpr text n o (xs ++ front) e
Made text (Operand n) front e o = DerivesExpr text n o front e
Made text Nots front e o = DerivesNots text o front e
Made text (Arguments name given) front e o = MadeCall text name given front e

-- what a part takes is a front, it takes the same whatever follows, and the front is derived
pub record Span (text : List ℕ) (p : Part) (ts : List Token) (e : Expr) (o : Bool) (r : List Token) : Type 0 where
  pub front : List Token
  pub whole : ts ≡ front ++ r
  pub again : (more : List Token) → Reads text p (front ++ more) e o more
  pub made : Made text p front e o

pub nil : {A : Type 0} (xs : List A) → xs ++ [] ≡ xs
nil [] = refl
nil (x ∷ xs) = ap (λ l. x ∷ l) (nil xs)

lift_by : {text : List ℕ} {o : Bool} {ts : List Token} {e : Expr} (k m n : ℕ) → m + k ≡ n → DerivesExpr text m o ts e → DerivesExpr text n o ts e
lift_by {text} {o} {ts} {e} zero m n f d = let g : m ≡ n = omega (arith, f) in subst (λ z. DerivesExpr text z o ts e) g d
lift_by {text} {o} {ts} {e} (suc k) m n f d = let g : suc (m + k) ≡ n = omega (arith, f) in subst (λ z. DerivesExpr text z o ts e) g (tighter (lift_by k m (m + k) refl d))

lift : {text : List ℕ} {o : Bool} {ts : List Token} {e : Expr} {m n : ℕ} → m ≤ n → DerivesExpr text m o ts e → DerivesExpr text n o ts e
lift {m = m} {n = n} le d = lift_by (n - m) m n (omega (arith, le)) d

joined : {text : List ℕ} {o : Bool} {xs ys : List Token} {a b : Expr} (t : Token) (x : Infix) → infix_of t.kind ≡ Some x → DerivesExpr text (left_rank x) false xs a → DerivesExpr text (right_rank x) o ys b → DerivesExpr text x.rank o (xs ++ t ∷ ys) (node t.start (tree.Two x.op a b))
joined {text} {o} {xs} {ys} {a} {b} t x is d d' = go x.grouping refl d d'
  where
    whole : suc (x.rank - 1) ≡ x.rank
    whole = let l = least t.kind x is in omega (arith, l)

    go : (g : Grouping) → x.grouping ≡ g → DerivesExpr text (left_of g x.rank) false xs a → DerivesExpr text (right_of g x.rank) o ys b → DerivesExpr text x.rank o (xs ++ t ∷ ys) (node t.start (tree.Two x.op a b))
    go ToLeft e d d' = subst (λ z. DerivesExpr text z o (xs ++ t ∷ ys) (node t.start (tree.Two x.op a b))) whole (to_left t x is (sym whole) e (subst (λ z. DerivesExpr text z false xs a) (sym whole) d) d')
    go ToRight e d d' = subst (λ z. DerivesExpr text z o (xs ++ t ∷ ys) (node t.start (tree.Two x.op a b))) whole (to_right t x is (sym whole) e d (subst (λ z. DerivesExpr text z o ys b) (sym whole) d'))
    go Alone e d d' = subst (λ z. DerivesExpr text z o (xs ++ t ∷ ys) (node t.start (tree.Two x.op a b))) whole (alone t x is (sym whole) e d d')

prefixed : {text : List ℕ} {n : ℕ} {o : Bool} {ts : List Token} {a : Expr} (t : Token) (op : Prefix) → prefix_of t.kind ≡ Some op → op.rank ≡ n → DerivesExpr text n o ts a → DerivesExpr text n o (t ∷ ts) (node t.start (tree.One op.op a))
prefixed {text} {n} {o} {ts} {a} t op is l d =
    let p = prefix_some t.kind op is in
    let whole : suc (n - 1) ≡ n = omega (arith, p, l) in
    subst (λ z. DerivesExpr text z o (t ∷ ts) (node t.start (tree.One op.op a))) whole (before t op is (l ∙ sym whole) (subst (λ z. DerivesExpr text z o ts a) (sym whole) d))

called : {text : List ℕ} (t u : Token) {ts : List Token} {e : Expr} → t.kind ≡ Name → u.kind ≡ Sign sign.OpenParen → MadeCall text t [] ts e → DerivesExpr text 0 false (t ∷ u ∷ ts) e
called t u is iu (of_none v iv f) = call_of_none t u v is iu iv
called t u is iu (of_some v d iv) = call t u v is iu d iv

pub not_nil : {A : Type 0} {B : Type 0} (xs : List B) (x : B) → xs ++ x ∷ [] ≡ [] → A
not_nil [] x e = absurd (cc)
not_nil (y ∷ xs) x e = absurd (cc)

more_made : {text : List ℕ} {name : Token} {given : List Expr} {xs ws : List Token} {a e : Expr} {o : Bool} (u : Token) → DerivesExpr text loosest o xs a → u.kind ≡ Sign sign.Comma → MadeCall text name (given ++ a ∷ []) ws e → MadeCall text name given (xs ++ u ∷ ws) e
more_made {given = given} {a = a} u d iu (of_none v iv f) = not_nil given a f
more_made {text} {name} {given} {xs} {a = a} u d iu (of_some {zs = ys} {args = args} v d' iv) =
    subst (λ z. MadeCall text name given z (node name.start (tree.Call (spelling text name) ((given ++ a ∷ []) ++ args)))) (append_assoc xs (u ∷ ys) (v ∷ []))
    (subst (λ z. MadeCall text name given ((xs ++ u ∷ ys) ++ v ∷ []) (node name.start (tree.Call (spelling text name) z))) (sym (append_assoc given (a ∷ []) args))
    (of_some v (more_arguments u d iu d') iv))

three : (xs ys zs r : List Token) (u v : Token) → (xs ++ u ∷ (ys ++ v ∷ zs)) ++ r ≡ xs ++ u ∷ (ys ++ v ∷ (zs ++ r))
three xs ys zs r u v = append_assoc xs (u ∷ (ys ++ v ∷ zs)) r ∙ ap (λ l. xs ++ u ∷ l) (append_assoc ys (v ∷ zs) r)

pub span : {text : List ℕ} {p : Part} {ts r : List Token} {e : Expr} {o : Bool} → Reads text p ts e o r → Span text p ts e o r
span {text} {r = r} {e = e} {o = o} (r_at {n = n} le a b) =
    let s = span a in
    let w = span b in
    record {
      front = s.front ++ w.front;
      whole = s.whole ∙ ap (λ l. s.front ++ l) w.whole ∙ sym (append_assoc s.front w.front r);
      again = λ m. subst (λ l. Reads text (At n) l e o m) (sym (append_assoc s.front w.front m)) (r_at le (s.again (w.front ++ m)) (w.again m));
      made = w.made s.front s.made le;
    }
span {text} {e = e} {o = o} (r_stop {n = n}) = record {
  front = [];
  whole = refl;
  again = λ m. r_stop;
  made = λ xs d le. subst (λ l. DerivesExpr text n o l e) (sym (nil xs)) (lift le d);
}
span {text} {r = r} {e = e} {o = o} (r_infix {m = m} {n = n} {a = a} t x is l l' b c) =
    let s = span b in
    let w = span c in
    record {
      front = t ∷ (s.front ++ w.front);
      whole = ap (λ l. t ∷ l) (s.whole ∙ ap (λ l. s.front ++ l) w.whole ∙ sym (append_assoc s.front w.front r));
      again = λ k. subst (λ z. Reads text (Behind m n a false) (t ∷ z) e o k) (sym (append_assoc s.front w.front k)) (r_infix t x is l l' (s.again (w.front ++ k)) (w.again k));
      made = λ xs d le. subst (λ z. DerivesExpr text n o z e) (append_assoc xs (t ∷ s.front) w.front) (w.made (xs ++ t ∷ s.front) (joined t x is (lift l d) s.made) l');
    }
span (r_prefix t op is l a) =
    let s = span a in
    record { front = t ∷ s.front; whole = ap (λ z. t ∷ z) s.whole; again = λ m. r_prefix t op is l (s.again m); made = prefixed t op is l s.made }
span (r_pre_not t is a) =
    let s = span a in
    record { front = t ∷ s.front; whole = ap (λ z. t ∷ z) s.whole; again = λ m. r_pre_not t is (s.again m); made = before_not t is s.made }
span {text} {r = r} {e = e} (r_if t u v is a iu b iv c) =
    let s = span a in
    let w = span b in
    let y = span c in
    record {
      front = t ∷ (s.front ++ u ∷ (w.front ++ v ∷ y.front));
      whole = ap (λ z. t ∷ z) (s.whole ∙ ap (λ z. s.front ++ u ∷ z) (w.whole ∙ ap (λ z. w.front ++ v ∷ z) y.whole) ∙ sym (three s.front w.front y.front r u v));
      again = λ m. subst (λ z. Reads text (Operand 1) (t ∷ z) e true m) (sym (three s.front w.front y.front m u v)) (r_if t u v is (s.again (u ∷ (w.front ++ v ∷ (y.front ++ m)))) iu (w.again (v ∷ (y.front ++ m))) iv (y.again m));
      made = conditional t u v is s.made iu w.made iv y.made;
    }
span (r_atom t is) = record { front = t ∷ []; whole = refl; again = λ m. r_atom t is; made = atom t is }
span {text} {r = r} {e = e} (r_parens t u is a iu) =
    let s = span a in
    record {
      front = t ∷ (s.front ++ u ∷ []);
      whole = ap (λ z. t ∷ z) (s.whole ∙ sym (append_assoc s.front (u ∷ []) r));
      again = λ m. subst (λ z. Reads text (Operand 0) (t ∷ z) e false m) (sym (append_assoc s.front (u ∷ []) m)) (r_parens t u is (s.again (u ∷ m)) iu);
      made = parens t u is s.made iu;
    }
span (r_call t u is iu a) =
    let s = span a in
    record { front = t ∷ u ∷ s.front; whole = ap (λ z. t ∷ u ∷ z) s.whole; again = λ m. r_call t u is iu (s.again m); made = called t u is iu s.made }
span (r_more_nots t is a) =
    let s = span a in
    record { front = t ∷ s.front; whole = ap (λ z. t ∷ z) s.whole; again = λ m. r_more_nots t is (s.again m); made = more_nots t is s.made }
span (r_last_not t is a) =
    let s = span a in
    record { front = t ∷ s.front; whole = ap (λ z. t ∷ z) s.whole; again = λ m. r_last_not t is (s.again m); made = last_not t is s.made }
span (r_no_arguments u iu) = record { front = u ∷ []; whole = refl; again = λ m. r_no_arguments u iu; made = of_none u iu refl }
span {text} {r = r} {e = e} (r_last_argument {name = name} {before = given} u a iu) =
    let s = span a in
    record {
      front = s.front ++ u ∷ [];
      whole = s.whole ∙ sym (append_assoc s.front (u ∷ []) r);
      again = λ m. subst (λ z. Reads text (Arguments name given) z e false m) (sym (append_assoc s.front (u ∷ []) m)) (r_last_argument u (s.again (u ∷ m)) iu);
      made = of_some u (last_argument s.made) iu;
    }
span {text} {r = r} {e = e} (r_more_arguments {name = name} {before = given} u a iu b) =
    let s = span a in
    let w = span b in
    record {
      front = s.front ++ u ∷ w.front;
      whole = s.whole ∙ ap (λ z. s.front ++ u ∷ z) w.whole ∙ sym (append_assoc s.front (u ∷ w.front) r);
      again = λ m. subst (λ z. Reads text (Arguments name given) z e false m) (sym (append_assoc s.front (u ∷ w.front) m)) (r_more_arguments u (s.again (u ∷ (w.front ++ m))) iu (w.again m));
      made = more_made u s.made iu w.made;
    }

-- the other way
raised : {text : List ℕ} {m n k : ℕ} {a e : Expr} {p o : Bool} {ts r : List Token} → n ≤ k → Reads text (Behind m n a p) ts e o r → Reads text (Behind m k a p) ts e o r
raised le r_stop = r_stop
raised le (r_infix t x is l l' b c) = r_infix t x is l (omega (arith, le, l')) b (raised le c)

snoc : {text : List ℕ} {m n k : ℕ} {a e b : Expr} {p o : Bool} {ts mid r : List Token} (t : Token) (x : Infix) → infix_of t.kind ≡ Some x → m ≤ n → n ≤ left_rank x → x.rank ≤ k → n ≤ k → Reads text (Behind m n a p) ts e false (t ∷ mid) → Reads text (At (right_rank x)) mid b o r → Reads text (Behind m k a p) ts (node t.start (tree.Two x.op e b)) o r
snoc t x is l l' l'' le r_stop d = r_infix t x is (omega (arith, l, l')) l'' d r_stop
snoc t x is l l' l'' le (r_infix t' x' is' j j' b c) d = r_infix t' x' is' j (omega (arith, le, j')) b (snoc t x is j' l' l'' le c d)

extend : {text : List ℕ} {n k : ℕ} {e b : Expr} {o : Bool} {ts mid r : List Token} (t : Token) (x : Infix) → infix_of t.kind ≡ Some x → n ≤ left_rank x → x.rank ≤ k → n ≤ k → Reads text (At n) ts e false (t ∷ mid) → Reads text (At (right_rank x)) mid b o r → Reads text (At k) ts (node t.start (tree.Two x.op e b)) o r
extend t x is l l' le (r_at j a c) d = r_at (omega (arith, j, le)) a (snoc t x is j l l' le c d)

looser_at : {text : List ℕ} {n : ℕ} {e : Expr} {o : Bool} {ts r : List Token} → Reads text (At n) ts e o r → Reads text (At (suc n)) ts e o r
looser_at (r_at j a c) = r_at (omega (arith, j)) a (raised (omega arith) c)

-- the ranks of the operands, by grouping
sides : (x : Infix) (g : Grouping) (n : ℕ) → x.grouping ≡ g → x.rank ≡ suc n → (left_rank x ≡ left_of g (suc n)) × (right_rank x ≡ right_of g (suc n))
sides x g n e l = (ap (λ z. left_of z x.rank) e ∙ ap (λ z. left_of g z) l, ap (λ z. right_of z x.rank) e ∙ ap (λ z. right_of g z) l)

mutual
  pub reads : {text : List ℕ} {n : ℕ} {o : Bool} {xs : List Token} {e : Expr} → DerivesExpr text n o xs e → (more : List Token) → Reads text (At n) (xs ++ more) e o more
  reads (tighter d) more = looser_at (reads d more)
  reads (before t op is l d) more = r_at (omega arith) (r_prefix t op is l (reads d more)) r_stop
  reads (before_not t is d) more = r_at (omega arith) (r_pre_not t is (reads_nots d more)) r_stop
  reads {text} {n} {o} {e = e} (to_left {rank = k} {xs = xs} {ys = ys} {b = b} t x is l g a d) more =
      let s = sides x ToLeft k g l in
      let f : right_rank x ≡ k = omega (arith, s.1) in
      subst (λ z. Reads text (At n) z e o more) (sym (append_assoc xs (t ∷ ys) more))
      (extend t x is (omega (arith, s.0)) (omega (arith, l)) (omega arith) (reads a (t ∷ (ys ++ more))) (subst (λ z. Reads text (At z) (ys ++ more) b o more) (sym f) (reads d more)))
  reads {text} {n} {o} {e = e} (to_right {rank = k} {xs = xs} {ys = ys} {b = b} t x is l g a d) more =
      let s = sides x ToRight k g l in
      subst (λ z. Reads text (At n) z e o more) (sym (append_assoc xs (t ∷ ys) more))
      (extend t x is (omega (arith, s.0)) (omega (arith, l)) (omega arith) (reads a (t ∷ (ys ++ more))) (subst (λ z. Reads text (At z) (ys ++ more) b o more) (sym s.1) (reads d more)))
  reads {text} {n} {o} {e = e} (alone {rank = k} {xs = xs} {ys = ys} {b = b} t x is l g a d) more =
      let s = sides x Alone k g l in
      let f : right_rank x ≡ k = omega (arith, s.1) in
      subst (λ z. Reads text (At n) z e o more) (sym (append_assoc xs (t ∷ ys) more))
      (extend t x is (omega (arith, s.0)) (omega (arith, l)) (omega arith) (reads a (t ∷ (ys ++ more))) (subst (λ z. Reads text (At z) (ys ++ more) b o more) (sym f) (reads d more)))
  reads {text} {e = e} (conditional {xs = xs} {ys = ys} {zs = zs} t u v is a iu b iv c) more =
      r_at (omega arith) (subst (λ z. Reads text (Operand 1) (t ∷ z) e true more) (sym (three xs ys zs more u v)) (r_if t u v is (reads a (u ∷ (ys ++ v ∷ (zs ++ more)))) iu (reads b (v ∷ (zs ++ more))) iv (reads c more))) r_stop
  reads (atom t is) more = r_at (omega arith) (r_atom t is) r_stop
  reads (call_of_none t u v is iu iv) more = r_at (omega arith) (r_call t u is iu (r_no_arguments v iv)) r_stop
  reads {text} {e = e} (call {ts = ts} {args = args} t u v is iu d iv) more =
      r_at (omega arith) (r_call t u is iu (subst (λ z. Reads text (Arguments t []) z e false more) (sym (append_assoc ts (v ∷ []) more)) (reads_arguments d t [] v more iv))) r_stop
  reads {text} {e = e} (parens {ts = ts} t u is d iu) more =
      r_at (omega arith) (subst (λ z. Reads text (Operand 0) (t ∷ z) e false more) (sym (append_assoc ts (u ∷ []) more)) (r_parens t u is (reads d (u ∷ more)) iu)) r_stop

  reads_nots : {text : List ℕ} {o : Bool} {xs : List Token} {e : Expr} → DerivesNots text o xs e → (more : List Token) → Reads text Nots (xs ++ more) e o more
  reads_nots (last_not t is d) more = r_last_not t is (reads d more)
  reads_nots (more_nots t is d) more = r_more_nots t is (reads_nots d more)

  reads_arguments : {text : List ℕ} {xs : List Token} {args : List Expr} → DerivesArguments text xs args → (name : Token) (given : List Expr) (u : Token) (more : List Token) → u.kind ≡ Sign sign.CloseParen → Reads text (Arguments name given) (xs ++ u ∷ more) (node name.start (tree.Call (spelling text name) (given ++ args))) false more
  reads_arguments (last_argument d) name given u more iu = r_last_argument u (reads d (u ∷ more)) iu
  reads_arguments {text} (more_arguments {ts = ts} {us = us} {e = a} {es = es} comma d ic ds) name given u more iu =
      subst (λ z. Reads text (Arguments name given) z (node name.start (tree.Call (spelling text name) (given ++ a ∷ es))) false more) (sym (append_assoc ts (comma ∷ us) (u ∷ more)))
      (r_more_arguments comma (reads d (comma ∷ (us ++ u ∷ more))) ic
      (subst (λ z. Reads text (Arguments name (given ++ a ∷ [])) (us ++ u ∷ more) (node name.start (tree.Call (spelling text name) z)) false more) (append_assoc given (a ∷ []) es)
      (reads_arguments ds name (given ++ a ∷ []) u more iu)))
