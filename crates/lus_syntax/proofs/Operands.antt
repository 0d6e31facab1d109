-- What is printed for an expression, operand by operand.
use Rattle.std.proofs.Common.{◌≡◌, ℕ, Bool, false, List, [], ◌∷◌, ◌++◌, map, ap}
use Rattle.lus_syntax.specs.declared.ast.BinOp.{BinOp}
use Rattle.lus_syntax.specs.declared.ast.Expr.{Expr}
use Rattle.lus_syntax.specs.declared.ast.ExprKind.{Two, Cond, Call}
use Rattle.lus_syntax.specs.declared.token.Keyword.TheVariants as word
use Rattle.lus_syntax.specs.declared.token.Symbol.TheVariants as sign
use Rattle.lus_syntax.specs.declared.token.TokenKind.{TokenKind}
use Rattle.lus_syntax.specs.Words.{word_text, sign_text}
use Rattle.lus_syntax.specs.Phrases.{Phrase, phrase, written, write_one, operand, fits_left, fits_right, two_kind, fixed, keyword, symbol, name, blank, joined, arguments}
use Rattle.lus_syntax.proofs.Writing.{written_append}
use Rattle.lus_syntax.proofs.Levels.{phrase_two, phrase_cond, phrase_call}

pub put_two : (out one two new : List ℕ) (e a b x y : Expr) (op : BinOp) (l r : Bool) (k : TokenKind) → e.kind ≡ Two op a b → x ≡ a → y ≡ b → l ≡ fits_left op (phrase x) → one ≡ written out (operand l (phrase x)) → k ≡ two_kind op → two ≡ written one (fixed blank k ∷ []) → r ≡ fits_right op (phrase y) → new ≡ written two (operand r (phrase y)) → new ≡ written out (phrase e).lexemes
put_two out one two new e a b x y op l r k is ex ey el e1 ek e2 er e3 =
    let whole = ap (λ (p : Phrase). written out p.lexemes) (phrase_two e a b op is) in
    let split = written_append out (operand (fits_left op (phrase a)) (phrase a)) (fixed blank (two_kind op) ∷ operand (fits_right op (phrase b)) (phrase b)) in
    cc (ex, ey, el, e1, ek, e2, er, e3, whole, split)

pub put_cond : (out m1 m2 m3 m4 m5 new : List ℕ) (e a b c x y z : Expr) → e.kind ≡ Cond a b c → x ≡ a → y ≡ b → z ≡ c → m1 ≡ written out (keyword blank word.If ∷ []) → m2 ≡ written m1 (phrase x).lexemes → m3 ≡ written m2 (keyword blank word.Then ∷ []) → m4 ≡ written m3 (phrase y).lexemes → m5 ≡ written m4 (keyword blank word.Else ∷ []) → new ≡ written m5 (phrase z).lexemes → new ≡ written out (phrase e).lexemes
put_cond out m1 m2 m3 m4 m5 new e a b c x y z is ex ey ez e1 e2 e3 e4 e5 e6 =
    let whole = ap (λ (p : Phrase). written out p.lexemes) (phrase_cond e a b c is) in
    let o1 = write_one out blank (word_text word.If) in
    let o2 = write_one (written o1 (phrase a).lexemes) blank (word_text word.Then) in
    let split = written_append o1 (phrase a).lexemes (keyword blank word.Then ∷ ((phrase b).lexemes ++ keyword blank word.Else ∷ (phrase c).lexemes)) in
    let split2 = written_append o2 (phrase b).lexemes (keyword blank word.Else ∷ (phrase c).lexemes) in
    cc (ex, ey, ez, e1, e2, e3, e4, e5, e6, whole, split, split2)

pub put_call : (out m1 m2 m3 new : List ℕ) (e : Expr) (text text' : List ℕ) (args args' : List Expr) → e.kind ≡ Call text args → text' ≡ text → args' ≡ args → m1 ≡ written out (name blank text' ∷ []) → m2 ≡ written m1 (symbol joined sign.OpenParen ∷ []) → m3 ≡ written m2 (arguments false (map phrase args')) → new ≡ written m3 (symbol joined sign.CloseParen ∷ []) → new ≡ written out (phrase e).lexemes
put_call out m1 m2 m3 new e text text' args args' is et ea e1 e2 e3 e4 =
    let whole = ap (λ (p : Phrase). written out p.lexemes) (phrase_call e text args is) in
    let o2 = write_one (write_one out blank text) joined (sign_text sign.OpenParen) in
    let split = written_append o2 (arguments false (map phrase args)) (symbol joined sign.CloseParen ∷ []) in
    cc (et, ea, e1, e2, e3, e4, whole, split)
