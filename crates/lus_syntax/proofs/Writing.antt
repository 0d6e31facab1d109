-- What is printed, piece by piece.
use Rattle.std.proofs.Common.{◌≡◌, ℕ, suc, ◌+◌, List, [], ◌∷◌, ◌++◌, ◌<◌, length, take, drop, get_or, drop-cons, refl, sym, ap, ap₂, ◌∙◌, subst, arith}
use Rattle.std.proofs.lemmas.List.{take-append-drop}
use Rattle.lus_syntax.specs.Phrases.{Lexeme, Extends, write_one, written, gap, is_tight}

pub written_append : (out : List ℕ) (xs ys : List Lexeme) → written out (xs ++ ys) ≡ written (written out xs) ys
written_append out [] ys = refl
written_append out (x ∷ xs) ys = written_append (write_one out x.lead x.bytes) xs ys

-- what begins with more begins with less
pub extends_append : (old more new : List ℕ) → Extends (old ++ more) new → Extends old new
extends_append old more new e = record { kept = go old new e.kept }
  where
    go : (old new : List ℕ) → take (length (old ++ more)) new ≡ old ++ more → take (length old) new ≡ old
    go [] new e = refl
    go (b ∷ old) [] e = absurd (cc)
    go (b ∷ old) (c ∷ new) e = let h : c ≡ b = cc e in let t : take (length (old ++ more)) new ≡ old ++ more = cc e in rw (h, go old new t) refl

pub extends_self : (old : List ℕ) → Extends old old
extends_self old = record { kept = go old }
  where
    go : (old : List ℕ) → take (length old) old ≡ old
    go [] = refl
    go (b ∷ old) = ap (λ l. b ∷ l) (go old)

pub extends_one : (old lead bytes new : List ℕ) → Extends (write_one old lead bytes) new → Extends old new
unfolding write_one
extends_one old lead bytes new e = extends_append old (gap (is_tight old) lead bytes) new (extends_append (old ++ gap (is_tight old) lead bytes) bytes new e)

pub extends_written : (old : List ℕ) (xs : List Lexeme) (new : List ℕ) → Extends (written old xs) new → Extends old new
extends_written old [] new e = e
extends_written old (x ∷ xs) new e = extends_one old x.lead x.bytes new (extends_written (write_one old x.lead x.bytes) xs new e)

-- the same, for what is known of a call
pub behind : (old mid new : List ℕ) (xs : List Lexeme) → mid ≡ written old xs → Extends mid new → Extends old new
behind old mid new xs is e = extends_written old xs new (subst (λ m. Extends m new) is e)

pub behind_one : (old mid new lead bytes : List ℕ) → mid ≡ write_one old lead bytes → Extends mid new → Extends old new
behind_one old mid new lead bytes is e = extends_one old lead bytes new (subst (λ m. Extends m new) is e)

-- pieces one behind the other
pub three : (out one two new : List ℕ) (xs ys zs : List Lexeme) → one ≡ written out xs → two ≡ written one ys → new ≡ written two zs → new ≡ written out (xs ++ (ys ++ zs))
three out one two new xs ys zs e f g = g ∙ ap (λ m. written m zs) (f ∙ ap (λ m. written m ys) e) ∙ sym (written_append (written out xs) ys zs) ∙ sym (written_append out xs (ys ++ zs))

-- one item of a loop: what is left is what is left behind it
pub step : {A : Type 0} (f : A → List Lexeme) (all more : List A → List Lexeme) → ((x : A) (xs : List A) → all (x ∷ xs) ≡ f x ++ more xs) → (out mid total : List ℕ) (xs : List A) (i : ℕ) (x : A) → i < length xs → x ≡ get_or xs i x → mid ≡ written out (f x) → written out (all (drop i xs)) ≡ total → written mid (more (drop (i + 1) xs)) ≡ total
step f all more split out mid total xs i x lt is e left =
    let next : suc i ≡ i + 1 = omega arith in
    let cut : drop i xs ≡ x ∷ drop (i + 1) xs = drop-cons xs i x lt ∙ ap₂ (λ y ys. y ∷ ys) (sym is) (ap (λ k. drop k xs) next) in
    ap (λ m. written m (more (drop (i + 1) xs))) e ∙ sym (written_append out (f x) (more (drop (i + 1) xs))) ∙ ap (written out) (sym (split x (drop (i + 1) xs)) ∙ ap all (sym cut)) ∙ left

pub extends_more : (old mid new : List ℕ) → Extends old mid → Extends mid new → Extends old new
extends_more old mid new e f = extends_append old (drop (length old) mid) new (subst (λ m. Extends m new) (sym (take-append-drop (length old) mid) ∙ ap (λ l. l ++ drop (length old) mid) e.kept) f)

-- a text that has become longer begins as before
pub grows : (old mid new : List ℕ) (xs : List Lexeme) → Extends old mid → new ≡ written mid xs → Extends old new
grows old mid new xs e is = extends_more old mid new e (behind mid new new xs is (extends_self new))
