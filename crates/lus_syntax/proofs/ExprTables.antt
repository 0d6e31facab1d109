-- Laws of the tables of operators.
use Rattle.std.proofs.Common.{◌≡◌, ◌⊎◌, ℕ, ◌<◌, ◌≤◌, Bool, true, false, List, refl, sym, ap, ◌∙◌, arith, inl, inr}
use Rattle.std.specs.Prelude.{◌||◌, ◌&&◌, nat_le, Option, Some, None}
use Rattle.std.proofs.lemmas.Bool.Decides.{nat_tests}
use Rattle.lus_syntax.specs.declared.token.Token.{Token}
use Rattle.lus_syntax.specs.declared.token.TokenKind.{TokenKind}
use Rattle.lus_syntax.specs.declared.token.TokenKind.TheVariants.{Name, Number, Word, Sign}
use Rattle.lus_syntax.specs.declared.token.Keyword.TheVariants as word
use Rattle.lus_syntax.specs.declared.token.Symbol.TheVariants as sign
use Rattle.lus_syntax.specs.declared.ast.Expr.{Expr}
use Rattle.lus_syntax.specs.declared.operators.Grouping.{Grouping}
use Rattle.lus_syntax.specs.declared.operators.Grouping.TheVariants.{ToLeft, ToRight, Alone}
use Rattle.lus_syntax.specs.declared.operators.Infix.{Infix}
use Rattle.lus_syntax.specs.declared.operators.Prefix.{Prefix}
use Rattle.lus_syntax.specs.Grammar.{literal}
use Rattle.lus_syntax.specs.Operators.{infix_of, prefix_of, left_of, left_rank, right_of, right_rank}
use Rattle.lus_syntax.specs.Reading.{bare_rank, prefixed_rank, operand_rank}

-- the ranks of a grouping
abbrev fits : Grouping → ℕ → Bool
fits ToLeft n = (nat_le 2 n && nat_le n 4) || (nat_le 7 n && nat_le n 8)
fits ToRight n = nat_le 9 n && nat_le n 10
fits Alone n = nat_le 6 n && nat_le n 6

abbrev all_fit : Option Infix → Bool
all_fit None = true
all_fit (Some x) = fits x.grouping x.rank

table : (k : TokenKind) → all_fit (infix_of k) ≡ true
table (Word word.When) = refl
table (Sign sign.Times) = refl
table _ = refl

abbrev Ranks : Grouping → ℕ → Type 0
Ranks ToLeft n = ((2 ≤ n) × (n ≤ 4)) ⊎ ((7 ≤ n) × (n ≤ 8))
Ranks ToRight n = (9 ≤ n) × (n ≤ 10)
Ranks Alone n = n ≡ 6

two : (a b n : ℕ) → (nat_le a n && nat_le n b) ≡ true → (a ≤ n) × (n ≤ b)
two a b n h = (low (nat_le a n) (nat_le n b) refl h, high (nat_le a n) (nat_le n b) refl h)
  where
    low : (x y : Bool) → nat_le a n ≡ x → (x && y) ≡ true → a ≤ n
    low true y e h = grind (arith, nat_tests)
    low false y e h = absurd (cc)

    high : (x y : Bool) → nat_le n b ≡ y → (x && y) ≡ true → n ≤ b
    high x true e h = grind (arith, nat_tests)
    high true false e h = absurd (cc)
    high false false e h = absurd (cc)

ranks : (g : Grouping) (n : ℕ) → fits g n ≡ true → Ranks g n
ranks ToLeft n h = either (nat_le 2 n && nat_le n 4) (nat_le 7 n && nat_le n 8) refl refl h
  where
    either : (x y : Bool) → (nat_le 2 n && nat_le n 4) ≡ x → (nat_le 7 n && nat_le n 8) ≡ y → (x || y) ≡ true → ((2 ≤ n) × (n ≤ 4)) ⊎ ((7 ≤ n) × (n ≤ 8))
    either true y e f h = inl (two 2 4 n e)
    either false true e f h = inr (two 7 8 n f)
    either false false e f h = absurd (cc)
ranks ToRight n h = two 9 10 n h
ranks Alone n h = let f = two 6 6 n h in omega (arith, f.0, f.1)

row : (k : TokenKind) (x : Infix) → infix_of k ≡ Some x → Ranks x.grouping x.rank
row k x e = ranks x.grouping x.rank (sym (ap all_fit e) ∙ table k)

pub most : (k : TokenKind) (x : Infix) → infix_of k ≡ Some x → x.rank ≤ 10
most k x e = go x.grouping x.rank (row k x e)
  where
    go : (g : Grouping) (n : ℕ) → Ranks g n → n ≤ 10
    go ToLeft n (inl h) = omega (arith, h.1)
    go ToLeft n (inr h) = omega (arith, h.1)
    go ToRight n h = h.1
    go Alone n h = omega (arith, h)

pub least : (k : TokenKind) (x : Infix) → infix_of k ≡ Some x → 2 ≤ x.rank
least k x e = go x.grouping x.rank (row k x e)
  where
    go : (g : Grouping) (n : ℕ) → Ranks g n → 2 ≤ n
    go ToLeft n (inl h) = omega (arith, h.0)
    go ToLeft n (inr h) = omega (arith, h.0)
    go ToRight n h = omega (arith, h.0)
    go Alone n h = omega (arith, h)

pub right_within : (x : Infix) → right_rank x ≤ x.rank
right_within x = go x.grouping x.rank
  where
    go : (g : Grouping) (n : ℕ) → right_of g n ≤ n
    go ToLeft n = omega arith
    go ToRight n = omega arith
    go Alone n = omega arith

pub left_within : (x : Infix) → left_rank x ≤ x.rank
left_within x = go x.grouping x.rank
  where
    go : (g : Grouping) (n : ℕ) → left_of g n ≤ n
    go ToLeft n = omega arith
    go ToRight n = omega arith
    go Alone n = omega arith

-- an operator that takes another's expression as its left operand is looser than the other's right one
pub looser : (k k' : TokenKind) (x y : Infix) → infix_of k ≡ Some x → infix_of k' ≡ Some y → x.rank ≤ left_rank y → right_rank x < y.rank
looser k k' x y e f le = go x.grouping y.grouping x.rank y.rank (row k x e) (row k' y f) (least k x e) le
  where
    go : (g h : Grouping) (m n : ℕ) → Ranks g m → Ranks h n → 2 ≤ m → m ≤ left_of h n → right_of g m < n
    go ToLeft ToLeft m n r s l le = omega (arith, l, le)
    go ToLeft ToRight m n r s l le = omega (arith, l, le)
    go ToLeft Alone m n r s l le = omega (arith, l, le)
    go Alone ToLeft m n r s l le = omega (arith, l, le)
    go Alone ToRight m n r s l le = omega (arith, l, le)
    go Alone Alone m n r s l le = omega (arith, l, le)
    go ToRight ToLeft m n r (inl s) l le = omega (arith, r.0, s.1, le)
    go ToRight ToLeft m n r (inr s) l le = omega (arith, r.0, s.1, le)
    go ToRight ToRight m n r s l le = omega (arith, s.0, le)
    go ToRight Alone m n r s l le = omega (arith, r.0, s, le)

-- the rank of an operand
abbrev pub Low : ℕ → Type 0
Low n = (n ≤ 1) ⊎ (n ≡ 5)

pub low_zero : Low 0
low_zero = inl (omega arith)

pub low_one : Low 1
low_one = inl (omega arith)

pub prefix_rank : (k : TokenKind) (op : Prefix) → prefix_of k ≡ Some op → (op.rank ≡ 1) ⊎ (op.rank ≡ 5)
prefix_rank (Sign sign.Minus) op e = inl (cc)
prefix_rank (Word word.Pre) op e = inl (cc)
prefix_rank (Word word.Current) op e = inl (cc)
prefix_rank (Word word.Not) op e = inr (cc)
prefix_rank _ op e = absurd (cc)

pub low_prefix : (k : TokenKind) (op : Prefix) (n : ℕ) → prefix_of k ≡ Some op → op.rank ≡ n → Low n
low_prefix k op n e f = go (prefix_rank k op e)
  where
    go : (op.rank ≡ 1) ⊎ (op.rank ≡ 5) → (n ≤ 1) ⊎ (n ≡ 5)
    go (inl h) = inl (omega (arith, h, f))
    go (inr h) = inr (omega (arith, h, f))

pub prefix_some : (k : TokenKind) (op : Prefix) → prefix_of k ≡ Some op → 1 ≤ op.rank
prefix_some k op e = go (prefix_rank k op e)
  where
    go : (op.rank ≡ 1) ⊎ (op.rank ≡ 5) → 1 ≤ op.rank
    go (inl h) = omega (arith, h)
    go (inr h) = omega (arith, h)

pub tighter_than : (p : ℕ) (k : TokenKind) (y : Infix) → Low p → infix_of k ≡ Some y → p ≤ left_rank y → p < y.rank
tighter_than p k y (inl h) e le = omega (arith, h, least k y e)
tighter_than p k y (inr h) e le = go y.grouping y.rank (row k y e) le
  where
    go : (g : Grouping) (n : ℕ) → Ranks g n → p ≤ left_of g n → p < n
    go ToLeft n (inl r) le = omega (arith, h, r.1, le)
    go ToLeft n (inr r) le = omega (arith, h, r.0, le)
    go ToRight n r le = omega (arith, h, r.0, le)
    go Alone n r le = omega (arith, h, r, le)

-- the rank of an operand is that of its first token
pub literal_rank : (text : List ℕ) (t : Token) (k : TokenKind) (e : Expr) → literal text t k ≡ Some e → operand_rank k ≡ 0
literal_rank text t Name e h = refl
literal_rank text t (Number v) e h = refl
literal_rank text t (Word word.True) e h = refl
literal_rank text t (Word word.False) e h = refl
literal_rank text t _ e h = absurd (cc)

pub rank_of_prefix : (k : TokenKind) (op : Prefix) → prefix_of k ≡ Some op → operand_rank k ≡ op.rank
rank_of_prefix k op e = ap (λ z. prefixed_rank z (bare_rank k)) e

-- a token that is no operator before an operand
pub no_prefix : {A : Type 0} {k j : TokenKind} (op : Prefix) → prefix_of k ≡ Some op → k ≡ j → prefix_of j ≡ None → A
no_prefix op e f g = let h = ap prefix_of f in absurd (cc)

pub no_literal : {A : Type 0} (text : List ℕ) (t : Token) {e : Expr} {j : TokenKind} → literal text t t.kind ≡ Some e → t.kind ≡ j → literal text t j ≡ None → A
no_literal text t e f g = let h = ap (literal text t) f in absurd (cc)
