-- A text is cut in one way at most.
use Rattle.std.proofs.Common.{◌≡◌, ◌≢◌, ◌⊎◌, ℕ, ◌+◌, ◌<◌, ◌≤◌, Bool, true, false, List, [], ◌∷◌, length, drop, refl, ap, arith, subst, ◌^◌, ⊎_elim}
use Rattle.std.specs.Prelude.{◌==◌, ◌&&◌}
use Rattle.std.proofs.lemmas.Bool.Decides.{nat_tests}
use Rattle.lus_syntax.specs.declared.token.TokenKind.{TokenKind}
use Rattle.lus_syntax.specs.declared.token.TokenKind.TheVariants.{Number}
use Rattle.lus_syntax.specs.declared.tokens.lexer.LexFault.{LexFault}
use Rattle.lus_syntax.specs.declared.tokens.lexer.LexFault.TheVariants as fault
use Rattle.lus_syntax.specs.declared.tokens.pieces.Cause.{Cause}
use Rattle.lus_syntax.specs.declared.tokens.pieces.Cause.TheVariants.{BadByte, OpenComment, WideLiteral}
use Rattle.lus_syntax.specs.declared.token.Token.{Token}
use Rattle.lus_syntax.specs.Pieces.{Stuck, fault_at}
use Rattle.lus_syntax.specs.Cuts.{IsLongest, IsNarrow, Fails, IsCutTo, IsUncutAtFault, IsOneFault, NoToken, Skips, blank, line, block, IsDense, Cuts, nothing, skip, token, IsLine, IsClose, is_blank, is_blank_first, opens_line, opens_block}

not_both : {A : Type 0} (b : Bool) → b ≡ true → b ≡ false → A
not_both b e f = absurd (cc)

order : (m n : ℕ) → (m < n) ⊎ ((m ≡ n) ⊎ (n < m))
order m n = grind arith

blank_line : (b c : ℕ) → is_blank b ≡ true → ((b == 45) && (c == 45)) ≡ true → ⊥
blank_line b c e f = grind (arith, nat_tests)

blank_block : (b c : ℕ) → is_blank b ≡ true → ((b == 40) && (c == 42)) ≡ true → ⊥
blank_block b c e f = grind (arith, nat_tests)

line_block : (b c : ℕ) → ((b == 45) && (c == 45)) ≡ true → ((b == 40) && (c == 42)) ≡ true → ⊥
line_block b c e f = grind (arith, nat_tests)

no_blank_line : (rest : List ℕ) → is_blank_first rest ≡ true → opens_line rest ≡ true → ⊥
no_blank_line [] e f = cc
no_blank_line (b ∷ []) e f = cc
no_blank_line (b ∷ c ∷ rest) e f = blank_line b c e f

no_blank_block : (rest : List ℕ) → is_blank_first rest ≡ true → opens_block rest ≡ true → ⊥
no_blank_block [] e f = cc
no_blank_block (b ∷ []) e f = cc
no_blank_block (b ∷ c ∷ rest) e f = blank_block b c e f

no_line_block : (rest : List ℕ) → opens_line rest ≡ true → opens_block rest ≡ true → ⊥
no_line_block [] e f = cc
no_line_block (b ∷ []) e f = cc
no_line_block (b ∷ c ∷ rest) e f = line_block b c e f

one_line : (rest : List ℕ) (m n : ℕ) → IsLine rest m → IsLine rest n → m ≡ n
one_line rest m n a b =
    ⊎_elim (λ lt. absurd (b.inside m lt (a.ends (omega (arith, b.within)))))
    (λ o. ⊎_elim (λ e. e) (λ lt. absurd (a.inside n lt (b.ends (omega (arith, a.within))))) o) (order m n)

one_close : (rest : List ℕ) (m n : ℕ) → IsClose rest m → IsClose rest n → m ≡ n
one_close rest m n a b =
    ⊎_elim (λ lt. not_both _ a.closes (b.first m lt))
    (λ o. ⊎_elim (λ e. e) (λ lt. not_both _ b.closes (a.first n lt)) o) (order m n)

one_skip : {rest : List ℕ} {m n : ℕ} → Skips rest m → Skips rest n → m ≡ n
one_skip (blank e) (blank f) = refl
one_skip {rest} (blank e) (line n f l) = absurd (no_blank_line rest e f)
one_skip {rest} (blank e) (block n f l) = absurd (no_blank_block rest e f)
one_skip {rest} (line m e k) (blank f) = absurd (no_blank_line rest f e)
one_skip {rest} (line m e k) (line n f l) = ap (λ x. 2 + x) (one_line (drop 2 rest) m n k l)
one_skip {rest} (line m e k) (block n f l) = absurd (no_line_block rest e f)
one_skip {rest} (block m e k) (blank f) = absurd (no_blank_block rest f e)
one_skip {rest} (block m e k) (line n f l) = absurd (no_line_block rest f e)
one_skip {rest} (block m e k) (block n f l) = ap (λ x. 4 + x) (one_close (drop 2 rest) m n k l)

pub no_skip : {rest : List ℕ} {n : ℕ} → IsDense rest → Skips rest n → ⊥
no_skip d (blank e) = not_both _ e d.0
no_skip d (line n e l) = not_both _ e d.1
no_skip d (block n e l) = not_both _ e d.2

one_longest : {rest : List ℕ} {m n : ℕ} {k l : TokenKind} → IsLongest rest m k → IsLongest rest n l → m ≡ n
one_longest {rest} {m} {n} {k} {l} a b =
    ⊎_elim (λ lt. let e = a.longest n lt b.within in let f = b.token in absurd (cc))
    (λ o. ⊎_elim (λ e. e) (λ lt. let e = b.longest m lt a.within in let f = a.token in absurd (cc)) o) (order m n)

same_kind : {rest : List ℕ} {m n : ℕ} {k l : TokenKind} → m ≡ n → IsLongest rest m k → IsLongest rest n l → k ≡ l
same_kind {rest} {m} {n} {k} {l} e a b = let p = a.token in let q = b.token in cc

-- no piece begins here
pub record Ends (rest : List ℕ) : Type 0 where
  pub gap : (n : ℕ) → Skips rest n → ⊥
  pub token : (n : ℕ) (k : TokenKind) → IsDense rest → IsLongest rest n k → IsNarrow k → ⊥

pub one_cutting : {text : List ℕ} {at e f : ℕ} {ts us : List Token} → Cuts text at ts e → Cuts text at us f → Ends (drop e text) → Ends (drop f text) → (ts ≡ us) × (e ≡ f)
one_cutting nothing nothing p q = (refl, refl)
one_cutting nothing (skip n s c) p q = absurd (p.gap n s)
one_cutting nothing (token n k d l w c) p q = absurd (p.token n k d l w)
one_cutting (skip m r b) nothing p q = absurd (q.gap m r)
one_cutting {text} {at} {e} {f} {ts} {us} (skip m r b) (skip n s c) p q =
    one_cutting b (subst (λ x. Cuts text (at + x) us f) (one_skip s r) c) p q
one_cutting (skip m r b) (token n k d l w c) p q = absurd (no_skip d r)
one_cutting (token m j d l w b) nothing p q = absurd (q.token m j d l w)
one_cutting (token m j d l w b) (skip n s c) p q = absurd (no_skip d s)
one_cutting {text} {at} {e} {f} (token {ts = ts} m j d l w b) (token {ts = us} n k d' l' w' c) p q =
    let same : n ≡ m = one_longest l' l in
    let kinds : k ≡ j = same_kind same l' l in
    let both = one_cutting b (subst (λ x. Cuts text (at + x) us f) same c) p q in
    (cells m n j k at ts us same kinds both.0, both.1)
  where
    cells : (m n : ℕ) (j k : TokenKind) (at : ℕ) (ts us : List Token) → n ≡ m → k ≡ j → ts ≡ us → (let t : Token = record { kind = j; start = at; «end» = at + m } in t) ∷ ts ≡ (let t : Token = record { kind = k; start = at; «end» = at + n } in t) ∷ us
    cells m n j k at ts us e f g = cc

no_token : {rest : List ℕ} (n : ℕ) (k : TokenKind) → NoToken rest → IsLongest rest n k → ⊥
no_token n k h l = let e = h n l.within in let f = l.token in cc

-- nothing goes on where a fault stands
pub ends_stuck : (rest : List ℕ) (cause : Cause) → Stuck rest cause → Ends rest
ends_stuck rest BadByte h = record { gap = λ n s. no_skip h.0 s; token = λ n k d l w. no_token n k h.1 l }
ends_stuck rest OpenComment h = record { gap = λ n s. gap n s; token = λ n k d l w. not_both _ h.0 d.2 }
  where
    gap : (n : ℕ) → Skips rest n → ⊥
    gap n (blank e) = no_blank_block rest e h.0
    gap n (line m e l) = no_line_block rest e h.0
    gap n (block m e l) = not_both _ l.closes (h.1 m)
ends_stuck rest WideLiteral h = record { gap = λ n s. no_skip h.0 s; token = λ n k d l w. wide n k l w }
  where
    wide : (n : ℕ) (k : TokenKind) → IsLongest rest n k → IsNarrow k → ⊥
    wide n k l w =
        let same : n ≡ h.1 = one_longest l h.3 in
        let kinds : k ≡ Number h.2 = same_kind same l h.3 in
        let narrow : h.2 < 2 ^ 128 = subst IsNarrow kinds w in
        omega (arith, h.4)

-- nothing goes on at the text's end
pub ends_all : (text : List ℕ) → Ends (drop (length text) text)
ends_all [] = record { gap = λ n s. none n s; token = λ n k d l w. empty n k l }
  where
    none : (n : ℕ) → Skips [] n → ⊥
    none n (blank e) = cc
    none n (line m e l) = cc
    none n (block m e l) = cc

    empty : (n : ℕ) (k : TokenKind) → IsLongest [] n k → ⊥
    empty n k l = let w : n ≤ 0 = l.within in let s = l.some in omega arith
ends_all (b ∷ bs) = ends_all bs

-- a fault beside want of memory, taken apart
record IsFault (text : List ℕ) (f : LexFault) : Type 0 where
  cause : Cause
  place : ℕ
  is : f ≡ fault_at cause place
  cut : IsCutTo text place
  stuck : Stuck (drop place text) cause

fault_of : (text : List ℕ) (f : LexFault) → f ≢ fault.Memory → Fails text f → IsFault text f
fault_of text (fault.BadByte at) other h = record { cause = BadByte; place = at; is = refl; cut = h.0; stuck = h.1 }
fault_of text (fault.OpenComment at) other h = record { cause = OpenComment; place = at; is = refl; cut = h.0; stuck = h.1 }
fault_of text (fault.WideLiteral at) other h = record { cause = WideLiteral; place = at; is = refl; cut = h.0; stuck = h.1 }
fault_of text fault.Memory other h = absurd (other refl)

not_cut : (text : List ℕ) (f : LexFault) (ts : List Token) → IsFault text f → Cuts text 0 ts (length text) → ⊥
not_cut text f ts h c =
    let same = (one_cutting c h.cut.cut (ends_all text) (ends_stuck (drop h.place text) h.cause h.stuck)).1 in
    let lt : h.place < length text = h.cut.within in
    omega arith

pub no_cut_at_fault : (text : List ℕ) → IsUncutAtFault text
no_cut_at_fault text (fault.BadByte at) ts h c = absurd (not_cut text (fault.BadByte at) ts (fault_of text (fault.BadByte at) (λ e. cc) h) c)
no_cut_at_fault text (fault.OpenComment at) ts h c = absurd (not_cut text (fault.OpenComment at) ts (fault_of text (fault.OpenComment at) (λ e. cc) h) c)
no_cut_at_fault text (fault.WideLiteral at) ts h c = absurd (not_cut text (fault.WideLiteral at) ts (fault_of text (fault.WideLiteral at) (λ e. cc) h) c)
no_cut_at_fault text fault.Memory ts h c = refl

one_cause : (rest : List ℕ) (c d : Cause) → Stuck rest c → Stuck rest d → c ≡ d
one_cause rest BadByte BadByte h k = refl
one_cause rest BadByte OpenComment h k = not_both _ k.0 h.0.2
one_cause rest BadByte WideLiteral h k = absurd (no_token k.1 (Number k.2) h.1 k.3)
one_cause rest OpenComment BadByte h k = not_both _ h.0 k.0.2
one_cause rest OpenComment OpenComment h k = refl
one_cause rest OpenComment WideLiteral h k = not_both _ h.0 k.0.2
one_cause rest WideLiteral BadByte h k = absurd (no_token h.1 (Number h.2) k.1 h.3)
one_cause rest WideLiteral OpenComment h k = not_both _ k.0 h.0.2
one_cause rest WideLiteral WideLiteral h k = refl

same_fault : (text : List ℕ) (f g : LexFault) → IsFault text f → IsFault text g → f ≡ g
same_fault text f g h k =
    let place : k.place ≡ h.place = (one_cutting k.cut.cut h.cut.cut (ends_stuck (drop k.place text) k.cause k.stuck) (ends_stuck (drop h.place text) h.cause h.stuck)).1 in
    let cause : h.cause ≡ k.cause = one_cause (drop h.place text) h.cause k.cause h.stuck (subst (λ at. Stuck (drop at text) k.cause) place k.stuck) in
    let is = h.is in
    let is' = k.is in
    cc

pub one_fault : (text : List ℕ) → IsOneFault text
one_fault text f g other other' h k = same_fault text f g (fault_of text f other h) (fault_of text g other' k)
