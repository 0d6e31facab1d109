-- What is printed for an expression derives it again.
use Rattle.std.proofs.Common.{◌≡◌, ℕ, zero, suc, ◌+◌, ◌-◌, ◌<◌, ◌≤◌, Bool, true, false, nat_le, List, [], ◌∷◌, ◌++◌, map, refl, sym, ap, ap₂, ◌∙◌, subst, arith, true≢false}
use Rattle.std.specs.Prelude.{Some, ◌&&◌, ◌||◌, not}
use Rattle.std.proofs.lemmas.Bool.Decides.{nat_tests}
use Rattle.lus_syntax.specs.declared.token.Token.{Token}
use Rattle.lus_syntax.specs.declared.token.TokenKind.{TokenKind}
use Rattle.lus_syntax.specs.declared.token.TokenKind.TheVariants.{Name, Number, Word, Sign}
use Rattle.lus_syntax.specs.declared.token.Keyword.TheVariants as word
use Rattle.lus_syntax.specs.declared.token.Symbol.TheVariants as sign
use Rattle.lus_syntax.specs.declared.ast.BinOp.{BinOp}
use Rattle.lus_syntax.specs.declared.ast.BinOp.TheVariants as two
use Rattle.lus_syntax.specs.declared.ast.UnOp.{UnOp}
use Rattle.lus_syntax.specs.declared.ast.UnOp.TheVariants as one
use Rattle.lus_syntax.specs.declared.ast.Expr.{Expr}
use Rattle.lus_syntax.specs.declared.ast.ExprKind.TheVariants as tree
use Rattle.lus_syntax.specs.declared.ast.ExprKind.TheOpen as level
use Rattle.lus_syntax.specs.declared.operators.Grouping.{Grouping}
use Rattle.lus_syntax.specs.declared.operators.Grouping.TheVariants.{ToLeft, ToRight, Alone}
use Rattle.lus_syntax.specs.Operators.{infix_of, prefix_of, loosest, left_of, left_rank, right_of, right_rank}
use Rattle.lus_syntax.specs.Words.{kind_of}
use Rattle.lus_syntax.specs.Cuts.{IsNarrow}
use Rattle.std.proofs.Common.{◌^◌}
use Rattle.lus_syntax.specs.Grammar.{spelling, node, literal, DerivesExpr, tighter, before, before_not, to_left, to_right, alone, conditional, atom, call_of_none, call, parens, DerivesNots, last_not, more_nots, DerivesArguments, last_argument, more_arguments}
use Rattle.lus_syntax.specs.Printing.{unplaced_expr}
use Rattle.lus_syntax.specs.Phrases as spec
use Rattle.lus_syntax.specs.Phrases.{Lexeme, Phrase, phrase, fixed, keyword, symbol, blank, joined, one_kind, two_kind, one_rank, infix_for, is_pre, is_not, fits_one, fits_left, fits_right, operand, arguments, in_parens, truth_word}
use Rattle.lus_syntax.proofs.Levels.{phrase_name, phrase_number, phrase_truth, phrase_one, phrase_two, phrase_cond, phrase_call, same_kind, same_one, same_two, same_cond, same_call}
use Rattle.lus_syntax.proofs.Spelled.{AreLexemes, all_append, Spells, first, last, parts, IsToken, AreTokens, apart}
use Rattle.lus_syntax.proofs.PrintedTokens.{led, by_blank, keyword_token, symbol_token, one_token, two_token, number_token, joined_open, joined_close, joined_comma}

-- these tokens derive the expression but for places
pub record ReadsExpr (text : List ℕ) (rank : ℕ) (open' : Bool) (ts : List Token) (e : Expr) : Type 0 where
  pub read : Expr
  pub derived : DerivesExpr text rank open' ts read
  pub same : unplaced_expr read ≡ unplaced_expr e

pub record ReadsNots (text : List ℕ) (open' : Bool) (ts : List Token) (e : Expr) : Type 0 where
  pub read : Expr
  pub derived : DerivesNots text open' ts read
  pub same : unplaced_expr read ≡ unplaced_expr e

-- a phrase derives the expression
pub record IsPhrase (p : Phrase) (e : Expr) : Type 0 where
  pub tokens : AreLexemes p.lexemes
  pub loose : p.rank ≤ loosest
  pub reads : (text : List ℕ) (ts : List Token) → Spells text ts p.lexemes → ReadsExpr text p.rank p.is_open ts e
  pub nots : p.is_nots ≡ true → (text : List ℕ) (ts : List Token) → Spells text ts p.lexemes → ReadsNots text p.is_open ts e

abbrev pub ArePhrases : List Expr → Type 0
ArePhrases [] = Unit {0}
ArePhrases (e ∷ es) = IsPhrase (phrase e) e × ArePhrases es

-- ---- ranks

lifted : {text : List ℕ} {open' : Bool} {ts : List Token} {e : Expr} (k n : ℕ) → DerivesExpr text n open' ts e → DerivesExpr text (k + n) open' ts e
lifted {text} {open'} {ts} {e} zero n d = let z : n ≡ 0 + n = omega arith in subst (λ m. DerivesExpr text m open' ts e) z d
lifted {text} {open'} {ts} {e} (suc k) n d = let z : suc (k + n) ≡ suc k + n = omega arith in subst (λ m. DerivesExpr text m open' ts e) z (tighter (lifted k n d))

pub lift : {text : List ℕ} {open' : Bool} {ts : List Token} {e : Expr} (low high : ℕ) → low ≤ high → DerivesExpr text low open' ts e → DerivesExpr text high open' ts e
lift {text} {open'} {ts} {e} low high le d = let z : high - low + low ≡ high = omega arith in subst (λ m. DerivesExpr text m open' ts e) z (lifted (high - low) low d)

reads_lift : {text : List ℕ} {open' : Bool} {ts : List Token} {e : Expr} (low high : ℕ) → low ≤ high → ReadsExpr text low open' ts e → ReadsExpr text high open' ts e
reads_lift low high le r = record { read = r.read; derived = lift low high le r.derived; same = r.same }

within : (a b : ℕ) → nat_le a b ≡ true → a ≤ b
within a b h = grind (arith, nat_tests)

is_within : (a b : ℕ) → a ≤ b → nat_le a b ≡ true
is_within a b h = grind (arith, nat_tests)

-- ---- operands

parens_read : {text : List ℕ} {ts : List Token} {e : Expr} (lead : List ℕ) (p : Phrase) → IsPhrase p e → Spells text ts (in_parens lead p.lexemes) → ReadsExpr text 0 false ts e
parens_read {text} {ts} {e} lead p h s =
    let o = first s in
    let q = parts text o.tail p.lexemes (symbol joined sign.CloseParen ∷ []) o.rest in
    let c = first q.behind in
    let inner = h.reads text q.front q.before in
    let whole : ts ≡ o.head ∷ (q.front ++ (c.head ∷ [])) =
    o.whole ∙ ap (λ us. o.head ∷ us) (q.whole ∙ ap (λ us. q.front ++ us) (c.whole ∙ ap (λ us. c.head ∷ us) (last c.rest))) in
    record {
      read = inner.read;
      derived = subst (λ ts. DerivesExpr text 0 false ts inner.read) (sym whole) (parens o.head c.head o.kind (lift p.rank loosest h.loose inner.derived) c.kind);
      same = inner.same;
    }

parens_tokens : (p : Phrase) (e : Expr) → IsPhrase p e → AreLexemes (in_parens blank p.lexemes)
parens_tokens p e h = (symbol_token blank sign.OpenParen by_blank, all_append p.lexemes (symbol joined sign.CloseParen ∷ []) h.tokens (joined_close, tt))

operand_tokens : (b : Bool) (p : Phrase) (e : Expr) → IsPhrase p e → AreLexemes (operand b p)
operand_tokens true p e h = h.tokens
operand_tokens false p e h = parens_tokens p e h

operand_read : (text : List ℕ) (ts : List Token) (e : Expr) (b : Bool) (p : Phrase) (n : ℕ) → IsPhrase p e → (b ≡ true → p.rank ≤ n) → Spells text ts (operand b p) → ReadsExpr text n (b && p.is_open) ts e
operand_read text ts e true p n h fits s = reads_lift p.rank n (fits refl) (h.reads text ts s)
operand_read text ts e false p n h fits s = reads_lift 0 n (omega arith) (parens_read blank p h s)

-- ---- an operator before its operand

one_below : UnOp → ℕ
one_below op = one_rank op - 1

one_suc : (op : UnOp) → one_rank op ≡ suc (one_below op)
unfolding one_below
one_suc one.Not = refl
one_suc one.Neg = refl
one_suc one.Pre = refl
one_suc one.Current = refl

one_loose : (op : UnOp) → one_rank op ≤ 5
one_loose one.Not = omega arith
one_loose one.Neg = omega arith
one_loose one.Pre = omega arith
one_loose one.Current = omega arith

one_table : (op : UnOp) → prefix_of (one_kind op) ≡ Some (record { rank = one_rank op; op = op })
one_table one.Not = refl
one_table one.Neg = refl
one_table one.Pre = refl
one_table one.Current = refl

is_pre_is : (op : UnOp) (b : Bool) → (is_pre op && b) ≡ true → (op ≡ one.Pre) × (b ≡ true)
is_pre_is one.Pre b e = (refl, e)
is_pre_is one.Not b e = absurd (true≢false (sym e))
is_pre_is one.Neg b e = absurd (true≢false (sym e))
is_pre_is one.Current b e = absurd (true≢false (sym e))

is_not_is : (op : UnOp) (b : Bool) → (is_not op && b) ≡ true → (op ≡ one.Not) × (b ≡ true)
is_not_is one.Not b e = (refl, e)
is_not_is one.Pre b e = absurd (true≢false (sym e))
is_not_is one.Neg b e = absurd (true≢false (sym e))
is_not_is one.Current b e = absurd (true≢false (sym e))

-- the operator's token and those of the operand
prefixed : {text : List ℕ} {us : List Token} {e a : Expr} {open' : Bool} (op : UnOp) (t : Token) → e.kind ≡ tree.One op a → t.kind ≡ one_kind op → ReadsExpr text (one_rank op) open' us a → ReadsExpr text (one_rank op) open' (t ∷ us) e
prefixed {text} {us} {e} {a} {open'} op t is k r =
    let d = subst (λ n. DerivesExpr text n open' us r.read) (one_suc op) r.derived in
    record {
      read = node t.start (tree.One op r.read);
      derived = subst (λ n. DerivesExpr text n open' (t ∷ us) (node t.start (tree.One op r.read))) (sym (one_suc op))
          (before t (record { rank = one_rank op; op = op }) (ap prefix_of k ∙ one_table op) (one_suc op) d);
      same = same_one (node t.start (tree.One op r.read)) e r.read a op refl is r.same;
    }

nots_prefixed : {text : List ℕ} {us : List Token} {e a : Expr} {open' : Bool} (t : Token) → e.kind ≡ tree.One one.Pre a → t.kind ≡ Word word.Pre → ReadsNots text open' us a → ReadsExpr text 1 open' (t ∷ us) e
nots_prefixed {e = e} {a = a} t is k r = record {
  read = node t.start (tree.One one.Pre r.read);
  derived = before_not t k r.derived;
  same = same_one (node t.start (tree.One one.Pre r.read)) e r.read a one.Pre refl is r.same;
}

one_read : {text : List ℕ} {ts : List Token} {e a : Expr} (op : UnOp) (p : Phrase) (n q : Bool) → nat_le p.rank (one_rank op) ≡ n → (is_pre op && p.is_nots) ≡ q → e.kind ≡ tree.One op a → IsPhrase p a → Spells text ts (fixed blank (one_kind op) ∷ operand (n || q) p) → ReadsExpr text (one_rank op) ((n || q) && p.is_open) ts e
one_read {text} {ts} {e} {a} op p true q en eq is h s =
    let o = first s in
    let r = operand_read text o.tail a true p (one_rank op) h (λ _. within p.rank (one_rank op) en) o.rest in
    subst (λ ts. ReadsExpr text (one_rank op) p.is_open ts e) (sym o.whole) (prefixed op o.head is o.kind r)
one_read {text} {ts} {e} {a} op p false false en eq is h s =
    let o = first s in
    let r = operand_read text o.tail a false p (one_rank op) h (λ f. absurd (true≢false (sym f))) o.rest in
    subst (λ ts. ReadsExpr text (one_rank op) false ts e) (sym o.whole) (prefixed op o.head is o.kind r)
one_read {text} {ts} {e} {a} op p false true en eq is h s =
    let o = first s in
    let pre = is_pre_is op p.is_nots eq in
    let r = h.nots pre.1 text o.tail o.rest in
    let d : ReadsExpr text 1 p.is_open (o.head ∷ o.tail) e = nots_prefixed o.head (is ∙ ap (λ op. tree.One op a) pre.0) (o.kind ∙ ap one_kind pre.0) r in
    subst (λ ts. ReadsExpr text (one_rank op) p.is_open ts e) (sym o.whole) (subst (λ op. ReadsExpr text (one_rank op) p.is_open (o.head ∷ o.tail) e) (sym pre.0) d)

-- a chain of `not`s
not_before : {text : List ℕ} {us : List Token} {e a : Expr} {open' : Bool} (t : Token) → e.kind ≡ tree.One one.Not a → t.kind ≡ Word word.Not → ReadsExpr text 1 open' us a → ReadsNots text open' (t ∷ us) e
not_before {e = e} {a = a} t is k r = record {
  read = node t.start (tree.One one.Not r.read);
  derived = last_not t k r.derived;
  same = same_one (node t.start (tree.One one.Not r.read)) e r.read a one.Not refl is r.same;
}

not_behind : {text : List ℕ} {us : List Token} {e a : Expr} {open' : Bool} (t : Token) → e.kind ≡ tree.One one.Not a → t.kind ≡ Word word.Not → ReadsNots text open' us a → ReadsNots text open' (t ∷ us) e
not_behind {e = e} {a = a} t is k r = record {
  read = node t.start (tree.One one.Not r.read);
  derived = more_nots t k r.derived;
  same = same_one (node t.start (tree.One one.Not r.read)) e r.read a one.Not refl is r.same;
}

bare_nots : {text : List ℕ} {ts : List Token} {e a : Expr} (p : Phrase) (n m : Bool) → nat_le p.rank 1 ≡ n → p.is_nots ≡ m → ((n || false) || m) ≡ true → e.kind ≡ tree.One one.Not a → IsPhrase p a → Spells text ts (fixed blank (one_kind one.Not) ∷ p.lexemes) → ReadsNots text p.is_open ts e
bare_nots {text} {ts} {e} p true m en em some is h s =
    let o = first s in
    subst (λ ts. ReadsNots text p.is_open ts e) (sym o.whole) (not_before o.head is o.kind (reads_lift p.rank 1 (within p.rank 1 en) (h.reads text o.tail o.rest)))
bare_nots {text} {ts} {e} p false true en em some is h s =
    let o = first s in
    subst (λ ts. ReadsNots text p.is_open ts e) (sym o.whole) (not_behind o.head is o.kind (h.nots em text o.tail o.rest))
bare_nots p false false en em some is h s = absurd (true≢false (sym some))

nots_read : {text : List ℕ} {ts : List Token} {e a : Expr} (p : Phrase) (k : Bool) → nat_le p.rank 5 ≡ k → ((nat_le p.rank 1 || not k) || p.is_nots) ≡ true → e.kind ≡ tree.One one.Not a → IsPhrase p a → Spells text ts (fixed blank (one_kind one.Not) ∷ operand (k || false) p) → ReadsNots text ((k || false) && p.is_open) ts e
nots_read p true ek some is h s = bare_nots p (nat_le p.rank 1) p.is_nots refl refl some is h s
nots_read {text} {ts} {e} p false ek some is h s =
    let o = first s in
    subst (λ ts. ReadsNots text false ts e) (sym o.whole) (not_before o.head is o.kind (reads_lift 0 1 (omega arith) (parens_read blank p h o.rest)))

one_phrase : (op : UnOp) (e a : Expr) → e.kind ≡ tree.One op a → IsPhrase (phrase a) a → IsPhrase (spec.level (level.One op (phrase a))) e
one_phrase op e a is h = record {
  tokens = (one_token op, operand_tokens (fits_one op (phrase a)) (phrase a) a h);
  loose = let le = one_loose op in omega arith;
  reads = λ text ts s. one_read op (phrase a) (nat_le (phrase a).rank (one_rank op)) (is_pre op && (phrase a).is_nots) refl refl is h s;
  nots = λ n text ts s. nots text ts n s;
}
  where
    nots : (text : List ℕ) (ts : List Token) → (is_not op && ((nat_le (phrase a).rank 1 || not (nat_le (phrase a).rank (one_rank op))) || (phrase a).is_nots)) ≡ true → Spells text ts (fixed blank (one_kind op) ∷ operand (fits_one op (phrase a)) (phrase a)) → ReadsNots text (fits_one op (phrase a) && (phrase a).is_open) ts e
    nots text ts n s =
        let q = is_not_is op ((nat_le (phrase a).rank 1 || not (nat_le (phrase a).rank (one_rank op))) || (phrase a).is_nots) n in
        let some = subst (λ op. ((nat_le (phrase a).rank 1 || not (nat_le (phrase a).rank (one_rank op))) || (phrase a).is_nots) ≡ true) q.0 q.1 in
        subst (λ op. ReadsNots text (fits_one op (phrase a) && (phrase a).is_open) ts e) (sym q.0)
        (nots_read (phrase a) (nat_le (phrase a).rank 5) refl some (is ∙ ap (λ op. tree.One op a) q.0) h (subst (λ op. Spells text ts (fixed blank (one_kind op) ∷ operand (fits_one op (phrase a)) (phrase a))) q.0 s))

-- ---- an operator between its operands

two_below : BinOp → ℕ
two_below op = (infix_for op).rank - 1

two_suc : (op : BinOp) → (infix_for op).rank ≡ suc (two_below op)
unfolding two_below
two_suc two.And = refl
two_suc two.Or = refl
two_suc two.Xor = refl
two_suc two.Imp = refl
two_suc two.Eq = refl
two_suc two.Ne = refl
two_suc two.Lt = refl
two_suc two.Le = refl
two_suc two.Gt = refl
two_suc two.Ge = refl
two_suc two.Add = refl
two_suc two.Sub = refl
two_suc two.Mul = refl
two_suc two.Div = refl
two_suc two.Mod = refl
two_suc two.Arrow = refl
two_suc two.Fby = refl
two_suc two.When = refl

two_loose : (op : BinOp) → (infix_for op).rank ≤ loosest
two_loose two.And = omega arith
two_loose two.Or = omega arith
two_loose two.Xor = omega arith
two_loose two.Imp = omega arith
two_loose two.Eq = omega arith
two_loose two.Ne = omega arith
two_loose two.Lt = omega arith
two_loose two.Le = omega arith
two_loose two.Gt = omega arith
two_loose two.Ge = omega arith
two_loose two.Add = omega arith
two_loose two.Sub = omega arith
two_loose two.Mul = omega arith
two_loose two.Div = omega arith
two_loose two.Mod = omega arith
two_loose two.Arrow = omega arith
two_loose two.Fby = omega arith
two_loose two.When = omega arith

two_table : (op : BinOp) → infix_of (two_kind op) ≡ Some (infix_for op)
two_table two.And = refl
two_table two.Or = refl
two_table two.Xor = refl
two_table two.Imp = refl
two_table two.Eq = refl
two_table two.Ne = refl
two_table two.Lt = refl
two_table two.Le = refl
two_table two.Gt = refl
two_table two.Ge = refl
two_table two.Add = refl
two_table two.Sub = refl
two_table two.Mul = refl
two_table two.Div = refl
two_table two.Mod = refl
two_table two.Arrow = refl
two_table two.Fby = refl
two_table two.When = refl

two_op : (op : BinOp) → (infix_for op).op ≡ op
two_op two.And = refl
two_op two.Or = refl
two_op two.Xor = refl
two_op two.Imp = refl
two_op two.Eq = refl
two_op two.Ne = refl
two_op two.Lt = refl
two_op two.Le = refl
two_op two.Gt = refl
two_op two.Ge = refl
two_op two.Add = refl
two_op two.Sub = refl
two_op two.Mul = refl
two_op two.Div = refl
two_op two.Mod = refl
two_op two.Arrow = refl
two_op two.Fby = refl
two_op two.When = refl

closed : (o n : Bool) → ((not o && n) && o) ≡ false
closed true n = refl
closed false true = refl
closed false false = refl

left_fits : (o : Bool) (a b : ℕ) → (not o && nat_le a b) ≡ true → a ≤ b
left_fits true a b e = absurd (true≢false (sym e))
left_fits false a b e = within a b e

-- the tokens of the operands and that of the operator between them
derived_two : {text : List ℕ} {us vs : List Token} {x y : Expr} {open' : Bool} (op : BinOp) (t : Token) (g : Grouping) → t.kind ≡ two_kind op → (infix_for op).grouping ≡ g → DerivesExpr text (left_of g (infix_for op).rank) false us x → DerivesExpr text (right_of g (infix_for op).rank) open' vs y → DerivesExpr text (suc (two_below op)) open' (us ++ t ∷ vs) (node t.start (tree.Two (infix_for op).op x y))
derived_two {text} {us} {vs} {x} {y} {open'} op t ToLeft k g l r =
    let n = two_suc op in
    let low : (infix_for op).rank - 1 ≡ two_below op = omega (arith, n) in
    to_left t (infix_for op) (ap infix_of k ∙ two_table op) n g (subst (λ n. DerivesExpr text n false us x) n l) (subst (λ n. DerivesExpr text n open' vs y) low r)
derived_two {text} {us} {vs} {x} {y} {open'} op t ToRight k g l r =
    let n = two_suc op in
    let low : (infix_for op).rank - 1 ≡ two_below op = omega (arith, n) in
    to_right t (infix_for op) (ap infix_of k ∙ two_table op) n g (subst (λ n. DerivesExpr text n false us x) low l) (subst (λ n. DerivesExpr text n open' vs y) n r)
derived_two {text} {us} {vs} {x} {y} {open'} op t Alone k g l r =
    let n = two_suc op in
    let low : (infix_for op).rank - 1 ≡ two_below op = omega (arith, n) in
    alone t (infix_for op) (ap infix_of k ∙ two_table op) n g (subst (λ n. DerivesExpr text n false us x) low l) (subst (λ n. DerivesExpr text n open' vs y) low r)

two_read : (op : BinOp) (e a b : Expr) → e.kind ≡ tree.Two op a b → IsPhrase (phrase a) a → IsPhrase (phrase b) b → (text : List ℕ) (ts : List Token) → Spells text ts (operand (fits_left op (phrase a)) (phrase a) ++ fixed blank (two_kind op) ∷ operand (fits_right op (phrase b)) (phrase b)) → ReadsExpr text (infix_for op).rank (fits_right op (phrase b) && (phrase b).is_open) ts e
two_read op e a b is ha hb text ts s =
    let p = phrase a in
    let q = phrase b in
    let l = fits_left op p in
    let r = fits_right op q in
    let split = parts text ts (operand l p) (fixed blank (two_kind op) ∷ operand r q) s in
    let o = first split.behind in
    let x = operand_read text split.front a l p (left_rank (infix_for op)) ha (left_fits p.is_open p.rank (left_rank (infix_for op))) split.before in
    let y = operand_read text o.tail b r q (right_rank (infix_for op)) hb (within q.rank (right_rank (infix_for op))) o.rest in
    let dx = subst (λ c. DerivesExpr text (left_rank (infix_for op)) c split.front x.read) (closed p.is_open (nat_le p.rank (left_rank (infix_for op)))) x.derived in
    let d = derived_two op o.head (infix_for op).grouping o.kind refl dx y.derived in
    let e' = node o.head.start (tree.Two (infix_for op).op x.read y.read) in
    let whole : ts ≡ split.front ++ o.head ∷ o.tail = split.whole ∙ ap (λ us. split.front ++ us) o.whole in
    record {
      read = e';
      derived = subst (λ n. DerivesExpr text n (r && q.is_open) ts e') (sym (two_suc op)) (subst (λ ts. DerivesExpr text (suc (two_below op)) (r && q.is_open) ts e') (sym whole) d);
      same = same_two e' e x.read a y.read b op (ap (λ op. tree.Two op x.read y.read) (two_op op)) is x.same y.same;
    }

two_phrase : (op : BinOp) (e a b : Expr) → e.kind ≡ tree.Two op a b → IsPhrase (phrase a) a → IsPhrase (phrase b) b → IsPhrase (spec.level (level.Two op (phrase a) (phrase b))) e
two_phrase op e a b is ha hb = record {
  tokens = all_append (operand (fits_left op (phrase a)) (phrase a)) (fixed blank (two_kind op) ∷ operand (fits_right op (phrase b)) (phrase b)) (operand_tokens (fits_left op (phrase a)) (phrase a) a ha) (two_token op, operand_tokens (fits_right op (phrase b)) (phrase b) b hb);
  loose = two_loose op;
  reads = two_read op e a b is ha hb;
  nots = λ f. absurd (true≢false (sym f));
}

-- ---- `if`

cond_read : (e a b c : Expr) → e.kind ≡ tree.Cond a b c → IsPhrase (phrase a) a → IsPhrase (phrase b) b → IsPhrase (phrase c) c → (text : List ℕ) (ts : List Token) → Spells text ts (keyword blank word.If ∷ ((phrase a).lexemes ++ keyword blank word.Then ∷ ((phrase b).lexemes ++ keyword blank word.Else ∷ (phrase c).lexemes))) → ReadsExpr text 1 true ts e
cond_read e a b c is ha hb hc text ts s =
    let i = first s in
    let p = parts text i.tail (phrase a).lexemes (keyword blank word.Then ∷ ((phrase b).lexemes ++ keyword blank word.Else ∷ (phrase c).lexemes)) i.rest in
    let t = first p.behind in
    let q = parts text t.tail (phrase b).lexemes (keyword blank word.Else ∷ (phrase c).lexemes) t.rest in
    let o = first q.behind in
    let x = reads_lift (phrase a).rank loosest ha.loose (ha.reads text p.front p.before) in
    let y = reads_lift (phrase b).rank loosest hb.loose (hb.reads text q.front q.before) in
    let z = reads_lift (phrase c).rank loosest hc.loose (hc.reads text o.tail o.rest) in
    let e' = node i.head.start (tree.Cond x.read y.read z.read) in
    let whole : ts ≡ i.head ∷ (p.front ++ t.head ∷ (q.front ++ o.head ∷ o.tail)) =
    i.whole ∙ ap (λ us. i.head ∷ us) (p.whole ∙ ap (λ us. p.front ++ us) (t.whole ∙ ap (λ us. t.head ∷ us) (q.whole ∙ ap (λ us. q.front ++ us) o.whole))) in
    record {
      read = e';
      derived = subst (λ ts. DerivesExpr text 1 true ts e') (sym whole) (conditional i.head t.head o.head i.kind x.derived t.kind y.derived o.kind z.derived);
      same = same_cond e' e x.read a y.read b z.read c refl is x.same y.same z.same;
    }

cond_phrase : (e a b c : Expr) → e.kind ≡ tree.Cond a b c → IsPhrase (phrase a) a → IsPhrase (phrase b) b → IsPhrase (phrase c) c → IsPhrase (spec.level (level.Cond (phrase a) (phrase b) (phrase c))) e
cond_phrase e a b c is ha hb hc = record {
  tokens = (
    keyword_token blank word.If by_blank,
    all_append (phrase a).lexemes (keyword blank word.Then ∷ ((phrase b).lexemes ++ keyword blank word.Else ∷ (phrase c).lexemes)) ha.tokens (
      keyword_token blank word.Then by_blank,
      all_append (phrase b).lexemes (keyword blank word.Else ∷ (phrase c).lexemes) hb.tokens (keyword_token blank word.Else by_blank, hc.tokens),
    ),
  );
  loose = omega arith;
  reads = cond_read e a b c is ha hb hc;
  nots = λ f. absurd (true≢false (sym f));
}

-- ---- calls

record ReadsArguments (text : List ℕ) (ts : List Token) (es : List Expr) : Type 0 where
  read : List Expr
  derived : DerivesArguments text ts read
  same : map unplaced_expr read ≡ map unplaced_expr es

arguments_tokens : (es : List Expr) → ArePhrases es → AreLexemes (arguments true (map phrase es))
arguments_tokens [] h = tt
arguments_tokens (e ∷ es) h = (joined_comma, all_append (phrase e).lexemes (arguments true (map phrase es)) h.0.tokens (arguments_tokens es h.1))

first_tokens : (es : List Expr) → ArePhrases es → AreLexemes (arguments false (map phrase es))
first_tokens [] h = tt
first_tokens (e ∷ es) h = all_append (phrase e).lexemes (arguments true (map phrase es)) h.0.tokens (arguments_tokens es h.1)

arguments_read : (text : List ℕ) (ts : List Token) (e : Expr) (es : List Expr) → ArePhrases (e ∷ es) → Spells text ts (arguments false (map phrase (e ∷ es))) → ReadsArguments text ts (e ∷ es)
arguments_read text ts e [] h s =
    let p = parts text ts (phrase e).lexemes [] s in
    let x = reads_lift (phrase e).rank loosest h.0.loose (h.0.reads text p.front p.before) in
    let whole : ts ≡ p.front = p.whole ∙ ap (λ us. p.front ++ us) (last p.behind) ∙ end p.front in
    record { read = x.read ∷ []; derived = subst (λ ts. DerivesArguments text ts (x.read ∷ [])) (sym whole) (last_argument x.derived); same = ap (λ y. y ∷ []) x.same }
  where
    end : (us : List Token) → us ++ [] ≡ us
    end [] = refl
    end (u ∷ us) = ap (λ us. u ∷ us) (end us)
arguments_read text ts e (f ∷ es) h s =
    let p = parts text ts (phrase e).lexemes (arguments true (map phrase (f ∷ es))) s in
    let c = first p.behind in
    let x = reads_lift (phrase e).rank loosest h.0.loose (h.0.reads text p.front p.before) in
    let more = arguments_read text c.tail f es h.1 c.rest in
    let whole : ts ≡ p.front ++ c.head ∷ c.tail = p.whole ∙ ap (λ us. p.front ++ us) c.whole in
    record {
      read = x.read ∷ more.read;
      derived = subst (λ ts. DerivesArguments text ts (x.read ∷ more.read)) (sym whole) (more_arguments c.head x.derived c.kind more.derived);
      same = ap₂ (λ y ys. y ∷ ys) x.same more.same;
    }

call_read : (name : List ℕ) (e : Expr) (es : List Expr) → e.kind ≡ tree.Call name es → ArePhrases es → (text : List ℕ) (ts : List Token) → Spells text ts (spec.name blank name ∷ in_parens joined (arguments false (map phrase es))) → ReadsExpr text 0 false ts e
call_read name e [] is h text ts s =
    let n = first s in
    let o = first n.rest in
    let c = first o.rest in
    let e' = node n.head.start (tree.Call (spelling text n.head) []) in
    let whole : ts ≡ n.head ∷ o.head ∷ c.head ∷ [] = n.whole ∙ ap (λ us. n.head ∷ us) (o.whole ∙ ap (λ us. o.head ∷ us) (c.whole ∙ ap (λ us. c.head ∷ us) (last c.rest))) in
    record {
      read = e';
      derived = subst (λ ts. DerivesExpr text 0 false ts e') (sym whole) (call_of_none n.head o.head c.head n.kind o.kind c.kind);
      same = same_kind e' e (ap (λ name. tree.Call name []) n.spelled ∙ sym is);
    }
call_read name e (f ∷ es) is h text ts s =
    let n = first s in
    let o = first n.rest in
    let p = parts text o.tail (arguments false (map phrase (f ∷ es))) (symbol joined sign.CloseParen ∷ []) o.rest in
    let c = first p.behind in
    let more = arguments_read text p.front f es h p.before in
    let e' = node n.head.start (tree.Call (spelling text n.head) more.read) in
    let whole : ts ≡ n.head ∷ o.head ∷ (p.front ++ (c.head ∷ [])) = n.whole ∙ ap (λ us. n.head ∷ us) (o.whole ∙ ap (λ us. o.head ∷ us) (p.whole ∙ ap (λ us. p.front ++ us) (c.whole ∙ ap (λ us. c.head ∷ us) (last c.rest)))) in
    record {
      read = e';
      derived = subst (λ ts. DerivesExpr text 0 false ts e') (sym whole) (call n.head o.head c.head n.kind o.kind more.derived c.kind);
      same = same_call e' e name more.read (f ∷ es) (ap (λ name. tree.Call name more.read) n.spelled) is more.same;
    }

call_phrase : (name : List ℕ) (e : Expr) (es : List Expr) → e.kind ≡ tree.Call name es → kind_of name ≡ Some Name → ArePhrases es → IsPhrase (spec.level (level.Call name (map phrase es))) e
call_phrase name e es is k h = record {
  tokens = (led blank name Name by_blank k tt, (joined_open, all_append (arguments false (map phrase es)) (symbol joined sign.CloseParen ∷ []) (first_tokens es h) (joined_close, tt)));
  loose = omega arith;
  reads = call_read name e es is h;
  nots = λ f. absurd (true≢false (sym f));
}

-- ---- atoms

atom_read : (text : List ℕ) (ts : List Token) (e : Expr) (x : Lexeme) → Spells text ts (x ∷ []) → ((t : Token) → t.kind ≡ x.kind → spelling text t ≡ x.bytes → (read : Expr) × (literal text t t.kind ≡ Some read) × (read.kind ≡ e.kind)) → ReadsExpr text 0 false ts e
atom_read text ts e x s f =
    let o = first s in
    let r = f o.head o.kind o.spelled in
    let whole : ts ≡ o.head ∷ [] = o.whole ∙ ap (λ us. o.head ∷ us) (last o.rest) in
    record { read = r.0; derived = subst (λ ts. DerivesExpr text 0 false ts r.0) (sym whole) (atom o.head r.1); same = same_kind r.0 e r.2 }

atom_phrase : (e : Expr) (x : Lexeme) → AreLexemes (x ∷ []) → ((text : List ℕ) (t : Token) → t.kind ≡ x.kind → spelling text t ≡ x.bytes → (read : Expr) × (literal text t t.kind ≡ Some read) × (read.kind ≡ e.kind)) → IsPhrase (spec.atom x) e
atom_phrase e x h f = record {
  tokens = h;
  loose = omega arith;
  reads = λ text ts s. atom_read text ts e x s (f text);
  nots = λ f. absurd (true≢false (sym f));
}

truth_kind : (b : Bool) (text : List ℕ) (t : Token) → literal text t (Word (truth_word b)) ≡ Some (node t.start (tree.Truth b))
truth_kind true text t = refl
truth_kind false text t = refl

name_phrase : (e : Expr) (name : List ℕ) → e.kind ≡ tree.Name name → kind_of name ≡ Some Name → IsPhrase (phrase e) e
name_phrase e name is k = subst (λ p. IsPhrase p e) (sym (phrase_name e name is)) (atom_phrase e (spec.name blank name) (led blank name Name by_blank k tt, tt)
    (λ text t tk sp. (node t.start (tree.Name (spelling text t)), ap (literal text t) tk, ap tree.Name sp ∙ sym is)))

number_phrase : (e : Expr) (n : ℕ) → e.kind ≡ tree.Number n → n < 2 ^ 128 → IsPhrase (phrase e) e
number_phrase e n is lt = subst (λ p. IsPhrase p e) (sym (phrase_number e n is)) (atom_phrase e (spec.number n) (number_token n lt, tt)
    (λ text t tk sp. (node t.start (tree.Number n), ap (literal text t) tk, sym is)))

truth_phrase : (e : Expr) (b : Bool) → e.kind ≡ tree.Truth b → IsPhrase (phrase e) e
truth_phrase e b is = subst (λ p. IsPhrase p e) (sym (phrase_truth e b is)) (atom_phrase e (keyword blank (truth_word b)) (keyword_token blank (truth_word b) by_blank, tt)
    (λ text t tk sp. (node t.start (tree.Truth b), ap (literal text t) tk ∙ truth_kind b text t, sym is)))

-- ---- every expression of the grammar

atom_of : (text : List ℕ) (t : Token) (k : TokenKind) (e : Expr) → IsToken text t → t.kind ≡ k → literal text t k ≡ Some e → IsPhrase (phrase e) e
atom_of text t Name e h k l = let is : node t.start (tree.Name (spelling text t)) ≡ e = cc l in subst (λ e. IsPhrase (phrase e) e) is (name_phrase (node t.start (tree.Name (spelling text t))) (spelling text t) refl (h.kind ∙ ap Some k))
atom_of text t (Number n) e h k l = let is : node t.start (tree.Number n) ≡ e = cc l in subst (λ e. IsPhrase (phrase e) e) is (number_phrase (node t.start (tree.Number n)) n refl (subst IsNarrow k h.narrow))
atom_of text t (Word word.True) e h k l = let is : node t.start (tree.Truth true) ≡ e = cc l in subst (λ e. IsPhrase (phrase e) e) is (truth_phrase (node t.start (tree.Truth true)) true refl)
atom_of text t (Word word.False) e h k l = let is : node t.start (tree.Truth false) ≡ e = cc l in subst (λ e. IsPhrase (phrase e) e) is (truth_phrase (node t.start (tree.Truth false)) false refl)
atom_of text t (Word word.And) e h k l = absurd (cc)
atom_of text t (Word word.Assert) e h k l = absurd (cc)
atom_of text t (Word word.Bool) e h k l = absurd (cc)
atom_of text t (Word word.Const) e h k l = absurd (cc)
atom_of text t (Word word.Current) e h k l = absurd (cc)
atom_of text t (Word word.Div) e h k l = absurd (cc)
atom_of text t (Word word.Else) e h k l = absurd (cc)
atom_of text t (Word word.Enum) e h k l = absurd (cc)
atom_of text t (Word word.Fby) e h k l = absurd (cc)
atom_of text t (Word word.If) e h k l = absurd (cc)
atom_of text t (Word word.Int) e h k l = absurd (cc)
atom_of text t (Word word.Let) e h k l = absurd (cc)
atom_of text t (Word word.Mod) e h k l = absurd (cc)
atom_of text t (Word word.Node) e h k l = absurd (cc)
atom_of text t (Word word.Nor) e h k l = absurd (cc)
atom_of text t (Word word.Not) e h k l = absurd (cc)
atom_of text t (Word word.Or) e h k l = absurd (cc)
atom_of text t (Word word.Pre) e h k l = absurd (cc)
atom_of text t (Word word.Real) e h k l = absurd (cc)
atom_of text t (Word word.Returns) e h k l = absurd (cc)
atom_of text t (Word word.Tel) e h k l = absurd (cc)
atom_of text t (Word word.Then) e h k l = absurd (cc)
atom_of text t (Word word.TypeWord) e h k l = absurd (cc)
atom_of text t (Word word.Var) e h k l = absurd (cc)
atom_of text t (Word word.When) e h k l = absurd (cc)
atom_of text t (Word word.Xor) e h k l = absurd (cc)
atom_of text t (Sign s) e h k l = absurd (cc)

one_of : (e a : Expr) (op : UnOp) → e.kind ≡ tree.One op a → IsPhrase (phrase a) a → IsPhrase (phrase e) e
one_of e a op is h = subst (λ p. IsPhrase p e) (sym (phrase_one e a op is)) (one_phrase op e a is h)

two_of : (e a b : Expr) (op : BinOp) → e.kind ≡ tree.Two op a b → IsPhrase (phrase a) a → IsPhrase (phrase b) b → IsPhrase (phrase e) e
two_of e a b op is h k = subst (λ p. IsPhrase p e) (sym (phrase_two e a b op is)) (two_phrase op e a b is h k)

mutual
  pub expr_phrase : {text : List ℕ} {rank : ℕ} {open' : Bool} {ts : List Token} {e : Expr} → DerivesExpr text rank open' ts e → AreTokens text ts → IsPhrase (phrase e) e
  expr_phrase (tighter d) h = expr_phrase d h
  expr_phrase {e = e} (before {a = a} t op f g d) h = one_of e a op.op refl (expr_phrase d h.1)
  expr_phrase {e = e} (before_not {a = a} t k d) h = one_of e a one.Pre refl (nots_phrase d h.1)
  expr_phrase {text} {e = e} (to_left {xs = xs} {ys = ys} {a = a} {b = b} t op f g k d d') h = let q = apart text xs (t ∷ ys) h in two_of e a b op.op refl (expr_phrase d q.0) (expr_phrase d' q.1.1)
  expr_phrase {text} {e = e} (to_right {xs = xs} {ys = ys} {a = a} {b = b} t op f g k d d') h = let q = apart text xs (t ∷ ys) h in two_of e a b op.op refl (expr_phrase d q.0) (expr_phrase d' q.1.1)
  expr_phrase {text} {e = e} (alone {xs = xs} {ys = ys} {a = a} {b = b} t op f g k d d') h = let q = apart text xs (t ∷ ys) h in two_of e a b op.op refl (expr_phrase d q.0) (expr_phrase d' q.1.1)
  expr_phrase {text} {e = e} (conditional {xs = xs} {ys = ys} {zs = zs} {a = a} {b = b} {c = c} i t o f x g y k z) h =
      let q = apart text xs (t ∷ (ys ++ o ∷ zs)) h.1 in
      let r = apart text ys (o ∷ zs) q.1.1 in
      subst (λ p. IsPhrase p e) (sym (phrase_cond e a b c refl)) (cond_phrase e a b c refl (expr_phrase x q.0) (expr_phrase y r.0) (expr_phrase z r.1.1))
  expr_phrase {text} {e = e} (atom t l) h = atom_of text t t.kind e h.0 refl l
  expr_phrase {text} {e = e} (call_of_none n o c f g k) h = subst (λ p. IsPhrase p e) (sym (phrase_call e (spelling text n) [] refl)) (call_phrase (spelling text n) e [] refl (h.0.kind ∙ ap Some f) tt)
  expr_phrase {text} {e = e} (call {ts = ts} {args = args} n o c f g d k) h =
      let q = apart text ts (c ∷ []) h.1.1 in
      subst (λ p. IsPhrase p e) (sym (phrase_call e (spelling text n) args refl)) (call_phrase (spelling text n) e args refl (h.0.kind ∙ ap Some f) (argument_phrases d q.0))
  expr_phrase {text} (parens {ts = ts} o c f d k) h = expr_phrase d (apart text ts (c ∷ []) h.1).0

  nots_phrase : {text : List ℕ} {open' : Bool} {ts : List Token} {e : Expr} → DerivesNots text open' ts e → AreTokens text ts → IsPhrase (phrase e) e
  nots_phrase {e = e} (last_not {a = a} t k d) h = one_of e a one.Not refl (expr_phrase d h.1)
  nots_phrase {e = e} (more_nots {a = a} t k d) h = one_of e a one.Not refl (nots_phrase d h.1)

  argument_phrases : {text : List ℕ} {ts : List Token} {es : List Expr} → DerivesArguments text ts es → AreTokens text ts → ArePhrases es
  argument_phrases (last_argument d) h = (expr_phrase d h, tt)
  argument_phrases {text} (more_arguments {ts = ts} {us = us} c d k ds) h = let q = apart text ts (c ∷ us) h in (expr_phrase d q.0, argument_phrases ds q.1.1)
