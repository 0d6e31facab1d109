-- What a fold over an expression gives at each form.
use Rattle.std.proofs.Common.{Bool, List, ap, map, sym, ℕ, ◌∙◌, ◌≡◌}
use Rattle.lus_syntax.specs.declared.ast.BinOp.{BinOp}
use Rattle.lus_syntax.specs.declared.ast.Expr.{Expr, fold-Expr, fold_out-Expr}
use Rattle.lus_syntax.specs.declared.ast.ExprKind.{ExprKind, fold-ExprKind, fold-roll-ExprKind}
use Rattle.lus_syntax.specs.declared.ast.ExprKind.TheOpen.{ExprKind-F}
use Rattle.lus_syntax.specs.declared.ast.ExprKind.TheVariants.{rolls-Call, rolls-Cond, rolls-Name, rolls-Number, rolls-One, rolls-Truth, rolls-Two}
use Rattle.lus_syntax.specs.declared.ast.UnOp.{UnOp}
use Rattle.lus_syntax.specs.declared.ast.ExprKind.TheOpen as level
use Rattle.lus_syntax.specs.declared.ast.ExprKind.TheVariants as tree

abbrev pub folded : {A : Type 0} → (ExprKind-F A A → A) → Expr → A
folded {A} f = fold-Expr A A f (λ e. e.kind)

kinds : {A : Type 0} (f : ExprKind-F A A → A) (e : Expr) (k : ExprKind) → e.kind ≡ k → folded f e ≡ fold-ExprKind A A f (λ e. e.kind) k
kinds {A} f e k h = fold_out-Expr A A f (λ e. e.kind) e ∙ ap (fold-ExprKind A A f (λ e. e.kind)) h

pub folded_name : {A : Type 0} (f : ExprKind-F A A → A) (e : Expr) (x : List ℕ) → e.kind ≡ tree.Name x → folded f e ≡ f (level.Name x)
folded_name {A} f e x h = kinds f e _ (h ∙ sym (rolls-Name x)) ∙ fold-roll-ExprKind A A f (λ e. e.kind) (level.Name x)

pub folded_number : {A : Type 0} (f : ExprKind-F A A → A) (e : Expr) (k : ℕ) → e.kind ≡ tree.Number k → folded f e ≡ f (level.Number k)
folded_number {A} f e k h = kinds f e _ (h ∙ sym (rolls-Number k)) ∙ fold-roll-ExprKind A A f (λ e. e.kind) (level.Number k)

pub folded_truth : {A : Type 0} (f : ExprKind-F A A → A) (e : Expr) (b : Bool) → e.kind ≡ tree.Truth b → folded f e ≡ f (level.Truth b)
folded_truth {A} f e b h = kinds f e _ (h ∙ sym (rolls-Truth b)) ∙ fold-roll-ExprKind A A f (λ e. e.kind) (level.Truth b)

pub folded_one : {A : Type 0} (f : ExprKind-F A A → A) (e a : Expr) (op : UnOp) → e.kind ≡ tree.One op a
    → folded f e ≡ f (level.One op (folded f a))
folded_one {A} f e a op h = kinds f e _ (h ∙ sym (rolls-One op a)) ∙ fold-roll-ExprKind A A f (λ e. e.kind) (level.One op a)

pub folded_two : {A : Type 0} (f : ExprKind-F A A → A) (e a b : Expr) (op : BinOp) → e.kind ≡ tree.Two op a b
    → folded f e ≡ f (level.Two op (folded f a) (folded f b))
folded_two {A} f e a b op h = kinds f e _ (h ∙ sym (rolls-Two op a b)) ∙ fold-roll-ExprKind A A f (λ e. e.kind) (level.Two op a b)

pub folded_if : {A : Type 0} (f : ExprKind-F A A → A) (e a b c : Expr) → e.kind ≡ tree.Cond a b c
    → folded f e ≡ f (level.Cond (folded f a) (folded f b) (folded f c))
folded_if {A} f e a b c h = kinds f e _ (h ∙ sym (rolls-Cond a b c)) ∙ fold-roll-ExprKind A A f (λ e. e.kind) (level.Cond a b c)

pub folded_call : {A : Type 0} (f : ExprKind-F A A → A) (e : Expr) (g : List ℕ) (args : List Expr)
    → e.kind ≡ tree.Call g args → folded f e ≡ f (level.Call g (map (folded f) args))
folded_call {A} f e g args h = kinds f e _ (h ∙ sym (rolls-Call g args)) ∙ fold-roll-ExprKind A A f (λ e. e.kind) (level.Call g args)
