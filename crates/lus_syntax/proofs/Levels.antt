-- Trees, level by level.
use Rattle.std.proofs.Common.{◌≡◌, ℕ, Bool, List, map, ap, ◌∙◌, sym}
use Rattle.lus_syntax.specs.declared.ast.UnOp.{UnOp}
use Rattle.lus_syntax.specs.declared.ast.BinOp.{BinOp}
use Rattle.lus_syntax.specs.declared.ast.Expr.{Expr, fold_out-Expr, roll-Expr}
use Rattle.lus_syntax.specs.declared.ast.ExprKind.{ExprKind, Name, Number, Truth, One, Two, Cond, Call, roll-ExprKind, fold-ExprKind, fold-roll-ExprKind}
use Rattle.lus_syntax.specs.declared.ast.ExprKind.TheOpen.{ExprKind-F}
use Rattle.lus_syntax.specs.declared.ast.ExprKind.TheOpen as level
use Rattle.lus_syntax.specs.declared.ast.ExprKind.TheVariants.{rolls-Name, rolls-Number, rolls-Truth, rolls-One, rolls-Two, rolls-Cond, rolls-Call}
use Rattle.lus_syntax.specs.Printing.{unplaced_expr}
use Rattle.lus_syntax.specs.Phrases as spec
use Rattle.lus_syntax.specs.Phrases.{Phrase, phrase}

abbrev kind_phrase : ExprKind → Phrase
kind_phrase = fold-ExprKind Phrase Phrase spec.level (λ e. e.kind)

phrase_out : (e : Expr) → phrase e ≡ kind_phrase e.kind
phrase_out e = fold_out-Expr Phrase Phrase spec.level (λ e. e.kind) e

abbrev phrases : ExprKind-F ExprKind Expr → ExprKind-F Phrase Phrase
phrases (level.Name t) = level.Name t
phrases (level.Number n) = level.Number n
phrases (level.Truth b) = level.Truth b
phrases (level.One o x) = level.One o (phrase x)
phrases (level.Two o x v) = level.Two o (phrase x) (phrase v)
phrases (level.Cond x v s) = level.Cond (phrase x) (phrase v) (phrase s)
phrases (level.Call t xs) = level.Call t (map phrase xs)

rolled : (k : ExprKind-F ExprKind Expr) → kind_phrase (roll-ExprKind k) ≡ spec.level (phrases k)
rolled (level.Name t) = fold-roll-ExprKind Phrase Phrase spec.level (λ e. e.kind) (level.Name t)
rolled (level.Number n) = fold-roll-ExprKind Phrase Phrase spec.level (λ e. e.kind) (level.Number n)
rolled (level.Truth b) = fold-roll-ExprKind Phrase Phrase spec.level (λ e. e.kind) (level.Truth b)
rolled (level.One o x) = fold-roll-ExprKind Phrase Phrase spec.level (λ e. e.kind) (level.One o x)
rolled (level.Two o x v) = fold-roll-ExprKind Phrase Phrase spec.level (λ e. e.kind) (level.Two o x v)
rolled (level.Cond x v s) = fold-roll-ExprKind Phrase Phrase spec.level (λ e. e.kind) (level.Cond x v s)
rolled (level.Call t xs) = fold-roll-ExprKind Phrase Phrase spec.level (λ e. e.kind) (level.Call t xs)

pub phrase_name : (e : Expr) (t : List ℕ) → e.kind ≡ Name t → phrase e ≡ spec.level (level.Name t)
phrase_name e t h = phrase_out e ∙ ap kind_phrase (h ∙ sym (rolls-Name t)) ∙ rolled (level.Name t)

pub phrase_number : (e : Expr) (n : ℕ) → e.kind ≡ Number n → phrase e ≡ spec.level (level.Number n)
phrase_number e n h = phrase_out e ∙ ap kind_phrase (h ∙ sym (rolls-Number n)) ∙ rolled (level.Number n)

pub phrase_truth : (e : Expr) (b : Bool) → e.kind ≡ Truth b → phrase e ≡ spec.level (level.Truth b)
phrase_truth e b h = phrase_out e ∙ ap kind_phrase (h ∙ sym (rolls-Truth b)) ∙ rolled (level.Truth b)

pub phrase_one : (e x : Expr) (o : UnOp) → e.kind ≡ One o x → phrase e ≡ spec.level (level.One o (phrase x))
phrase_one e x o h = phrase_out e ∙ ap kind_phrase (h ∙ sym (rolls-One o x)) ∙ rolled (level.One o x)

pub phrase_two : (e x v : Expr) (o : BinOp) → e.kind ≡ Two o x v → phrase e ≡ spec.level (level.Two o (phrase x) (phrase v))
phrase_two e x v o h = phrase_out e ∙ ap kind_phrase (h ∙ sym (rolls-Two o x v)) ∙ rolled (level.Two o x v)

pub phrase_cond : (e x v s : Expr) → e.kind ≡ Cond x v s → phrase e ≡ spec.level (level.Cond (phrase x) (phrase v) (phrase s))
phrase_cond e x v s h = phrase_out e ∙ ap kind_phrase (h ∙ sym (rolls-Cond x v s)) ∙ rolled (level.Cond x v s)

pub phrase_call : (e : Expr) (t : List ℕ) (xs : List Expr) → e.kind ≡ Call t xs → phrase e ≡ spec.level (level.Call t (map phrase xs))
phrase_call e t xs h = phrase_out e ∙ ap kind_phrase (h ∙ sym (rolls-Call t xs)) ∙ rolled (level.Call t xs)

-- ---- places

abbrev kind_unplaced : ExprKind → ExprKind
kind_unplaced = fold-ExprKind ExprKind Expr roll-ExprKind (λ e. roll-Expr (record { at = 0; kind = e.kind }))

unplaced_out : (e : Expr) → unplaced_expr e ≡ record { at = 0; kind = kind_unplaced e.kind }
unplaced_out e = fold_out-Expr ExprKind Expr roll-ExprKind (λ e. roll-Expr (record { at = 0; kind = e.kind })) e

abbrev at_zero : level.Expr-F ExprKind Expr → Expr
at_zero e = roll-Expr (record { at = 0; kind = e.kind })

abbrev without : ExprKind-F ExprKind Expr → ExprKind-F ExprKind Expr
without (level.Name t) = level.Name t
without (level.Number n) = level.Number n
without (level.Truth b) = level.Truth b
without (level.One o x) = level.One o (unplaced_expr x)
without (level.Two o x v) = level.Two o (unplaced_expr x) (unplaced_expr v)
without (level.Cond x v s) = level.Cond (unplaced_expr x) (unplaced_expr v) (unplaced_expr s)
without (level.Call t xs) = level.Call t (map unplaced_expr xs)

bare : (k : ExprKind-F ExprKind Expr) → kind_unplaced (roll-ExprKind k) ≡ roll-ExprKind (without k)
bare (level.Name t) = fold-roll-ExprKind ExprKind Expr roll-ExprKind at_zero (level.Name t)
bare (level.Number n) = fold-roll-ExprKind ExprKind Expr roll-ExprKind at_zero (level.Number n)
bare (level.Truth b) = fold-roll-ExprKind ExprKind Expr roll-ExprKind at_zero (level.Truth b)
bare (level.One o x) = fold-roll-ExprKind ExprKind Expr roll-ExprKind at_zero (level.One o x)
bare (level.Two o x v) = fold-roll-ExprKind ExprKind Expr roll-ExprKind at_zero (level.Two o x v)
bare (level.Cond x v s) = fold-roll-ExprKind ExprKind Expr roll-ExprKind at_zero (level.Cond x v s)
bare (level.Call t xs) = fold-roll-ExprKind ExprKind Expr roll-ExprKind at_zero (level.Call t xs)

-- trees of one level are the same but for places where their parts are
bare_level : (a b : Expr) (j k : ExprKind-F ExprKind Expr) → a.kind ≡ roll-ExprKind j → b.kind ≡ roll-ExprKind k → without j ≡ without k → unplaced_expr a ≡ unplaced_expr b
bare_level a b j k ha hb e =
    let left : kind_unplaced a.kind ≡ roll-ExprKind (without j) = ap kind_unplaced ha ∙ bare j in
    let right : kind_unplaced b.kind ≡ roll-ExprKind (without k) = ap kind_unplaced hb ∙ bare k in
    unplaced_out a ∙ ap (λ k. record { at = 0; kind = k }) (left ∙ ap roll-ExprKind e ∙ sym right) ∙ sym (unplaced_out b)

pub same_kind : (a b : Expr) → a.kind ≡ b.kind → unplaced_expr a ≡ unplaced_expr b
same_kind a b h = unplaced_out a ∙ ap (λ k. record { at = 0; kind = kind_unplaced k }) h ∙ sym (unplaced_out b)

pub same_one : (a b x y : Expr) (o : UnOp) → a.kind ≡ One o x → b.kind ≡ One o y → unplaced_expr x ≡ unplaced_expr y → unplaced_expr a ≡ unplaced_expr b
same_one a b x y o ha hb e = bare_level a b (level.One o x) (level.One o y) (ha ∙ sym (rolls-One o x)) (hb ∙ sym (rolls-One o y)) (cc e)

pub same_two : (a b x y v w : Expr) (o : BinOp) → a.kind ≡ Two o x v → b.kind ≡ Two o y w → unplaced_expr x ≡ unplaced_expr y → unplaced_expr v ≡ unplaced_expr w → unplaced_expr a ≡ unplaced_expr b
same_two a b x y v w o ha hb e f = bare_level a b (level.Two o x v) (level.Two o y w) (ha ∙ sym (rolls-Two o x v)) (hb ∙ sym (rolls-Two o y w)) (cc (e, f))

pub same_cond : (a b x y v w s t : Expr) → a.kind ≡ Cond x v s → b.kind ≡ Cond y w t → unplaced_expr x ≡ unplaced_expr y → unplaced_expr v ≡ unplaced_expr w → unplaced_expr s ≡ unplaced_expr t → unplaced_expr a ≡ unplaced_expr b
same_cond a b x y v w s t ha hb e f g = bare_level a b (level.Cond x v s) (level.Cond y w t) (ha ∙ sym (rolls-Cond x v s)) (hb ∙ sym (rolls-Cond y w t)) (cc (e, f, g))

pub same_call : (a b : Expr) (t : List ℕ) (xs ys : List Expr) → a.kind ≡ Call t xs → b.kind ≡ Call t ys → map unplaced_expr xs ≡ map unplaced_expr ys → unplaced_expr a ≡ unplaced_expr b
same_call a b t xs ys ha hb e = bare_level a b (level.Call t xs) (level.Call t ys) (ha ∙ sym (rolls-Call t xs)) (hb ∙ sym (rolls-Call t ys)) (cc e)
