-- Groups up to a `)`, and groups up to a `let`, as parts one behind another.
use Rattle.std.proofs.Common.{◌≡◌, ◌⊎◌, ℕ, List, [], ◌∷◌, ◌++◌, refl, sym, ap, ◌∙◌, subst, append_assoc, inl, inr}
use Rattle.std.proofs.lemmas.List.{append-nil}
use Rattle.lus_syntax.specs.declared.token.Token.{Token}
use Rattle.lus_syntax.specs.declared.token.TokenKind.{TokenKind}
use Rattle.lus_syntax.specs.declared.token.TokenKind.TheVariants.{Name, Word, Sign}
use Rattle.lus_syntax.specs.declared.token.Keyword.TheVariants as word
use Rattle.lus_syntax.specs.declared.token.Symbol.TheVariants as sign
use Rattle.lus_syntax.specs.declared.ast.Group.{Group}
use Rattle.lus_syntax.specs.Grammar.{DerivesGroup, DerivesParams, last_params, last_params_ended, more_params, DerivesInputs, no_inputs, inputs, DerivesOutputs, outputs, DerivesLines, last_line, more_lines, DerivesLocals, no_locals, locals}
use Rattle.lus_syntax.specs.Parts.{Lacks, Takes}
use Rattle.lus_syntax.specs.Sections.{Anything, OneToken, Sequence, Either, one, other, Many, none, more, IsToken, NoWhen, NoName, Closed, Line, LocalsAndLet, Opening}
use Rattle.lus_syntax.proofs.Readers.{Part, Leads, Opens, Same, Never, Repeats, OneAndMore, Passes, Partway, lacks_alike, leads_anywhere, leads_opened, token_part, token_opens, token_taken, kind_part, same_part, same_opens, same_takes, sequence_part, sequence_opens, either_part, either_opens, apart_opened, many_part, takes_both, takes_other, never_opened, pass, pass_same, pass_second, pass_one, pass_other, opens_more}
use Rattle.lus_syntax.proofs.NamesAndGroups.{group_part, group_opens}

-- what stands behind a group, up to the `)`
pub data Tail (text : List ℕ) : List Token → List Group → Type 0 where
  closed : (t : Token) → t.kind ≡ Sign sign.CloseParen → Tail text (t ∷ []) []
  ended : (s t : Token) → s.kind ≡ Sign sign.Semicolon → t.kind ≡ Sign sign.CloseParen → Tail text (s ∷ t ∷ []) []
  goes_on : {us vs : List Token} {g : Group} {gs : List Group} (s : Token) → s.kind ≡ Sign sign.Semicolon → DerivesGroup text us g → Tail text vs gs → Tail text (s ∷ (us ++ vs)) (g ∷ gs)

-- a `)` behind no more groups
abbrev pub Close : List Token → List Group → Type 0
Close = OneToken (λ k. k ≡ Sign sign.CloseParen) (λ t. [])

abbrev pub GroupAndTail : List ℕ → List Token → List Group → Type 0
GroupAndTail text = Sequence (λ g gs. g ∷ gs) (DerivesGroup text) (Tail text)

abbrev pub BehindSemicolon : List ℕ → List Token → List Group → Type 0
BehindSemicolon text = Sequence (λ semicolon gs. gs) (IsToken (Sign sign.Semicolon)) (Either Close (GroupAndTail text))

abbrev pub TailParts : List ℕ → List Token → List Group → Type 0
TailParts text = Either Close (BehindSemicolon text)

tail_to : (text : List ℕ) (ts : List Token) (x : List Group) → TailParts text ts x → Tail text ts x
tail_to text ts x (one d) = subst (λ z. Tail text z x) (sym d.alone) (subst (λ z. Tail text (d.token ∷ []) z) (sym d.is) (closed d.token d.of_kind))
tail_to text ts x (other d) = subst (λ z. Tail text z x) (sym (d.whole ∙ ap (λ z. z ++ d.behind) d.first.alone)) (subst (λ z. Tail text (d.first.token ∷ d.behind) z) (sym d.is) (go d.first.token d.first.of_kind d.behind d.b d.second))
  where
    go : (s : Token) → s.kind ≡ Sign sign.Semicolon → (us : List Token) (y : List Group) → Either Close (GroupAndTail text) us y → Tail text (s ∷ us) y
    go s p us y (one e) = subst (λ z. Tail text (s ∷ z) y) (sym e.alone) (subst (λ z. Tail text (s ∷ e.token ∷ []) z) (sym e.is) (ended s e.token p e.of_kind))
    go s p us y (other e) = subst (λ z. Tail text (s ∷ z) y) (sym e.whole) (subst (λ z. Tail text (s ∷ (e.front ++ e.behind)) z) (sym e.is) (goes_on s p e.first e.second))

tail_from : (text : List ℕ) (ts : List Token) (x : List Group) → Tail text ts x → TailParts text ts x
tail_from text ts x (closed t p) = one (record { token = t; alone = refl; of_kind = p; is = refl })
tail_from text ts x (ended s t p q) = other (record { front = s ∷ []; behind = t ∷ []; a = s; b = []; whole = refl; first = record { token = s; alone = refl; of_kind = p; is = refl }; second = one (record { token = t; alone = refl; of_kind = q; is = refl }); is = refl })
tail_from text ts x (goes_on {us = us} {vs = vs} {g = g} {gs = gs} s p d t) = other (record { front = s ∷ []; behind = us ++ vs; a = s; b = g ∷ gs; whole = refl; first = record { token = s; alone = refl; of_kind = p; is = refl }; second = other (record { front = us; behind = vs; a = g; b = gs; whole = refl; first = d; second = t; is = refl }); is = refl })

pub tail_same : (text : List ℕ) → Same (TailParts text) (Tail text)
tail_same text = record { to = tail_to text; from = tail_from text }

-- a tail begins with `;` or `)`
pub tail_leads : (text : List ℕ) → Leads (Tail text) Anything NoWhen
tail_leads text = record { on = λ ys y s d g. go ys y s d }
  where
    go : (ys : List Token) (y : List Group) (s : List Token) → Tail text ys y → NoWhen (ys ++ s)
    go ys y s (closed t p) u us e is = let same : t ≡ u = cc in let k : t.kind ≡ u.kind = ap (λ (z : Token). z.kind) same in cc
    go ys y s (ended t v p q) u us e is = let same : t ≡ u = cc in let k : t.kind ≡ u.kind = ap (λ (z : Token). z.kind) same in cc
    go ys y s (goes_on t p d m) u us e is = let same : t ≡ u = cc in let k : t.kind ≡ u.kind = ap (λ (z : Token). z.kind) same in cc

other_kinds : {t u : Token} {k k' : TokenKind} → t ≡ u → t.kind ≡ k → u.kind ≡ k' → (k ≡ k' → ⊥) → ⊥
other_kinds e p q h = h (sym p ∙ ap (λ (z : Token). z.kind) e ∙ q)

tail_once : (text : List ℕ) (xs ys r s : List Token) (a b : List Group) → Tail text xs a → Tail text ys b → xs ++ r ≡ ys ++ s → (a ≡ b) × (r ≡ s)
tail_once text xs ys r s a b (closed t p) (closed t' p') w = (refl, cc)
tail_once text xs ys r s a b (closed t p) (ended s' t' p' q') w = absurd (other_kinds {t = t} {u = s'} (cc) p p' (λ e. (cc)))
tail_once text xs ys r s a b (closed t p) (goes_on s' p' d' m') w = absurd (other_kinds {t = t} {u = s'} (cc) p p' (λ e. (cc)))
tail_once text xs ys r s a b (ended s' t' p' q') (closed t p) w = absurd (other_kinds {t = t} {u = s'} (cc) p p' (λ e. (cc)))
tail_once text xs ys r s a b (goes_on s' p' d' m') (closed t p) w = absurd (other_kinds {t = t} {u = s'} (cc) p p' (λ e. (cc)))
tail_once text xs ys r s a b (ended u t p q) (ended u' t' p' q') w = (refl, cc)
tail_once text xs ys r s a b (ended u t p q) (goes_on {us = us} {vs = vs} {g = g} u' p' d' m') w =
    let f = (group_opens text).opening us g d' in
    let e : t ∷ r ≡ f.0 ∷ (f.1 ++ (vs ++ s)) = cc (append_assoc us vs s, ap (λ z. z ++ (vs ++ s)) f.2) in
    absurd (other_kinds {t = t} {u = f.0} (cc) q f.3 (λ e. (cc)))
tail_once text xs ys r s a b (goes_on {us = us} {vs = vs} {g = g} u' p' d' m') (ended u t p q) w =
    let f = (group_opens text).opening us g d' in
    let e : t ∷ s ≡ f.0 ∷ (f.1 ++ (vs ++ r)) = cc (append_assoc us vs r, ap (λ z. z ++ (vs ++ r)) f.2) in
    absurd (other_kinds {t = t} {u = f.0} (cc) q f.3 (λ e. (cc)))
tail_once text xs ys r s a b (goes_on {us = us} {vs = vs} {g = g} {gs = gs} u p d m) (goes_on {us = us'} {vs = vs'} {g = g'} {gs = gs'} u' p' d' m') w =
    let e : us ++ (vs ++ r) ≡ us' ++ (vs' ++ s) = cc (append_assoc us vs r, append_assoc us' vs' s) in
    let f = (group_part text).once us us' (vs ++ r) (vs' ++ s) g g' d d' e ((tail_leads text).on vs gs r m tt) ((tail_leads text).on vs' gs' s m' tt) in
    let h = tail_once text vs vs' r s gs gs' m m' f.1 in
    (ap (λ z. z ∷ gs) f.0 ∙ ap (λ z. g' ∷ z) h.0, h.1)

pub tail_part : (text : List ℕ) → Part (Tail text) Anything
tail_part text = record {
  once = λ xs ys r s a b d e w f g. tail_once text xs ys r s a b d e w;
  alike = λ r s h f. tt;
  some_of = (record { kind = Sign sign.CloseParen; start = 0; «end» = 0 } ∷ [], [], closed (record { kind = Sign sign.CloseParen; start = 0; «end» = 0 }) refl);
}

-- params ')'
closed_to : (text : List ℕ) (ts : List Token) (x : List Group) → GroupAndTail text ts x → Closed text ts x
closed_to text ts x d =
    let f = go d.front d.behind d.a d.b d.first d.second in
    finish f.0 f.1 (d.a ∷ d.b) (d.whole ∙ f.2) f.3 f.4 d.is
  where
    finish : (front : List Token) (c : Token) (gs : List Group) → ts ≡ front ++ c ∷ [] → c.kind ≡ Sign sign.CloseParen → DerivesParams text front gs → x ≡ gs → Closed text ts x
    finish front c gs w p m e = record { front = front; behind = c ∷ []; a = gs; b = c; whole = w; first = m; second = record { token = c; alone = refl; of_kind = p; is = refl }; is = e }

    go : (us vs : List Token) (g : Group) (gs : List Group) → DerivesGroup text us g → Tail text vs gs → (front : List Token) × (c : Token) × (us ++ vs ≡ front ++ c ∷ []) × (c.kind ≡ Sign sign.CloseParen) × DerivesParams text front (g ∷ gs)
    go us vs g gs d (closed t p) = (us, t, refl, p, last_params d)
    go us vs g gs d (ended s t p q) = (us ++ s ∷ [], t, sym (append_assoc us (s ∷ []) (t ∷ [])), q, last_params_ended s d p)
    go us vs g gs d (goes_on {us = us'} {vs = vs'} {g = g'} {gs = gs'} s p e m) =
        let f = go us' vs' g' gs' e m in
        (us ++ s ∷ f.0, f.1, ap (λ z. us ++ s ∷ z) f.2 ∙ sym (append_assoc us (s ∷ f.0) (f.1 ∷ [])), f.3, more_params s d p f.4)

closed_from : (text : List ℕ) (ts : List Token) (x : List Group) → Closed text ts x → GroupAndTail text ts x
closed_from text ts x d = subst (λ z. GroupAndTail text z x) (sym (d.whole ∙ ap (λ z. d.front ++ z) d.second.alone)) (subst (λ z. GroupAndTail text (d.front ++ d.second.token ∷ []) z) (sym d.is) (go d.second.token d.second.of_kind d.front d.a d.first))
  where
    go : (c : Token) → c.kind ≡ Sign sign.CloseParen → (front : List Token) (gs : List Group) → DerivesParams text front gs → GroupAndTail text (front ++ c ∷ []) gs
    go c q front gs (last_params {g = g} d) = record { front = front; behind = c ∷ []; a = g; b = []; whole = refl; first = d; second = closed c q; is = refl }
    go c q front gs (last_params_ended {ts = us} {g = g} s d p) = record { front = us; behind = s ∷ c ∷ []; a = g; b = []; whole = append_assoc us (s ∷ []) (c ∷ []); first = d; second = ended s c p q; is = refl }
    go c q front gs (more_params {ts = us} {us = vs} {g = g} {gs = gs'} s d p m) =
        let f = go c q vs gs' m in
        record { front = us; behind = s ∷ (f.front ++ f.behind); a = g; b = f.a ∷ f.b; whole = append_assoc us (s ∷ vs) (c ∷ []) ∙ ap (λ z. us ++ s ∷ z) f.whole; first = d; second = goes_on s p f.first f.second; is = ap (λ z. g ∷ z) f.is }

pub closed_same : (text : List ℕ) → Same (GroupAndTail text) (Closed text)
closed_same text = record { to = closed_to text; from = closed_from text }

pub closed_part : (text : List ℕ) → Part (Closed text) Anything
closed_part text = same_part (closed_same text) (sequence_part (group_part text) (tail_part text) (tail_leads text))

pub closed_opens : (text : List ℕ) → Opens (Closed text) (λ k. k ≡ Name)
closed_opens text = same_opens (closed_same text) (sequence_opens (group_opens text))

-- the loop over groups
abbrev pub ParamsPartway : List ℕ → List Token → List Group → List Token → Type 0
ParamsPartway text = Partway (Tail text) (Closed text)

pub params_start : (text : List ℕ) {ts rest : List Token} {g : Group} {all : List Group} → Takes (DerivesGroup text) ts g rest × NoWhen rest → all ≡ g ∷ [] → ParamsPartway text ts all rest
params_start text {ts} {rest} {g} {all} h e = subst (λ z. ParamsPartway text ts z rest) (sym e) (record {
  stuck = pass (pass_same (closed_same text)) (pass_second (group_part text) (tail_leads text) h);
  on = λ xs r t. same_takes (closed_same text) (takes_both h.0 t);
})

no_close : {ts : List Token} {F : List Token → Type 0} → Lacks ts (Sign sign.CloseParen) → Never Close F ts
no_close l = never_opened token_opens l

closes_not : {s : Token} {ts rest : List Token} → ts ≡ s ∷ rest → s.kind ≡ Sign sign.Semicolon → Lacks ts (Sign sign.CloseParen)
closes_not {s} {ts} {rest} e p t us f q = other_kinds {t = s} {u = t} (cc) p q (λ e. (cc))

-- behind the `;` where no `)` stands
pub params_on : (text : List ℕ) {rest behind : List Token} {s : Token} → rest ≡ s ∷ behind → s.kind ≡ Sign sign.Semicolon → Lacks behind (Sign sign.CloseParen) → Passes (GroupAndTail text) Anything behind (Tail text) Anything rest
params_on text e p l = pass (pass_same (tail_same text)) (pass (pass_other (no_close (closes_not e p))) (pass (pass_second (kind_part (Sign sign.Semicolon)) leads_anywhere (token_taken e p, tt)) (pass_other (no_close l))))

pub params_next : (text : List ℕ) {ts rest mid behind : List Token} {s : Token} {g : Group} {before all : List Group} → ParamsPartway text ts before rest → rest ≡ s ∷ mid → s.kind ≡ Sign sign.Semicolon → Lacks mid (Sign sign.CloseParen) → Takes (DerivesGroup text) mid g behind × NoWhen behind → all ≡ before ++ g ∷ [] → ParamsPartway text ts all behind
params_next text {ts} {rest} {mid} {behind} {s} {g} {before} {all} h e p l k f = subst (λ z. ParamsPartway text ts z behind) (sym f) (record {
  stuck = pass h.stuck (pass (params_on text e p l) (pass_second (group_part text) (tail_leads text) k));
  on = λ xs r t. subst (λ z. Takes (Closed text) ts z r) (sym (append_assoc before (g ∷ []) xs)) (h.on (g ∷ xs) r (same_takes (tail_same text) (takes_other (takes_both (token_taken e p) (takes_other (takes_both k.0 t))))));
})

pub params_last : (text : List ℕ) {rest : List Token} → Lacks rest (Sign sign.Semicolon) → Passes Close Anything rest (Tail text) Anything rest
params_last text l = pass (pass_same (tail_same text)) (pass_one (never_opened (sequence_opens token_opens) l))

ends_here : (text : List ℕ) {ts rest r : List Token} {before : List Group} → ParamsPartway text ts before rest → Takes (Tail text) rest [] r → Takes (Closed text) ts before r
ends_here text {ts} {rest} {r} {before} h t = subst (λ z. Takes (Closed text) ts z r) (append-nil before) (h.on [] r t)

pub params_ended : (text : List ℕ) {ts rest mid behind : List Token} {s t : Token} {before : List Group} → ParamsPartway text ts before rest → rest ≡ s ∷ mid → s.kind ≡ Sign sign.Semicolon → mid ≡ t ∷ behind → t.kind ≡ Sign sign.CloseParen → Takes (Closed text) ts before behind
params_ended text {s = s} {t = t} h e p f q = ends_here text h (record { front = s ∷ t ∷ []; whole = e ∙ ap (λ z. s ∷ z) f; derived = ended s t p q })

pub params_closed : (text : List ℕ) {ts rest behind : List Token} {t : Token} {before : List Group} → ParamsPartway text ts before rest → Takes (IsToken (Sign sign.CloseParen)) rest t behind → Takes (Closed text) ts before behind
params_closed text {behind = behind} h d = ends_here text h (record { front = d.derived.token ∷ []; whole = d.whole ∙ ap (λ z. z ++ behind) d.derived.alone; derived = closed d.derived.token d.derived.of_kind })

-- '(' [ params ] ')'
abbrev pub MayParams : List ℕ → List Token → List Group → Type 0
MayParams text = Either Close (Closed text)

abbrev pub AllInputs : List ℕ → List Token → List Group → Type 0
AllInputs text = Sequence (λ open_paren groups. groups) (IsToken (Sign sign.OpenParen)) (MayParams text)

inputs_to : (text : List ℕ) (ts : List Token) (x : List Group) → AllInputs text ts x → DerivesInputs text ts x
inputs_to text ts x d = subst (λ z. DerivesInputs text z x) (sym (d.whole ∙ ap (λ z. z ++ d.behind) d.first.alone)) (subst (λ z. DerivesInputs text (d.first.token ∷ d.behind) z) (sym d.is) (go d.first.token d.first.of_kind d.behind d.b d.second))
  where
    go : (o : Token) → o.kind ≡ Sign sign.OpenParen → (us : List Token) (y : List Group) → MayParams text us y → DerivesInputs text (o ∷ us) y
    go o p us y (one e) = subst (λ z. DerivesInputs text (o ∷ z) y) (sym e.alone) (subst (λ z. DerivesInputs text (o ∷ e.token ∷ []) z) (sym e.is) (no_inputs o e.token p e.of_kind))
    go o p us y (other e) = subst (λ z. DerivesInputs text (o ∷ z) y) (sym (e.whole ∙ ap (λ z. e.front ++ z) e.second.alone)) (subst (λ z. DerivesInputs text (o ∷ (e.front ++ e.second.token ∷ [])) z) (sym e.is) (inputs o e.second.token p e.first e.second.of_kind))

inputs_from : (text : List ℕ) (ts : List Token) (x : List Group) → DerivesInputs text ts x → AllInputs text ts x
inputs_from text ts x (no_inputs o c p q) = record { front = o ∷ []; behind = c ∷ []; a = o; b = []; whole = refl; first = record { token = o; alone = refl; of_kind = p; is = refl }; second = one (record { token = c; alone = refl; of_kind = q; is = refl }); is = refl }
inputs_from text ts x (inputs {ts = us} o c p d q) = record { front = o ∷ []; behind = us ++ c ∷ []; a = o; b = x; whole = refl; first = record { token = o; alone = refl; of_kind = p; is = refl }; second = other (record { front = us; behind = c ∷ []; a = x; b = c; whole = refl; first = d; second = record { token = c; alone = refl; of_kind = q; is = refl }; is = refl }); is = refl }

pub inputs_same : (text : List ℕ) → Same (AllInputs text) (DerivesInputs text)
inputs_same text = record { to = inputs_to text; from = inputs_from text }

pub close_part : Part Close Anything
close_part = token_part (record { kind = Sign sign.CloseParen; start = 0; «end» = 0 }) refl

pub may_params_part : (text : List ℕ) → Part (MayParams text) Anything
may_params_part text = either_part close_part (closed_part text) (apart_opened token_opens (closed_opens text) (λ k p q. absurd (kinds k p q)))
  where
    kinds : (k : TokenKind) → k ≡ Sign sign.CloseParen → k ≡ Name → ⊥
    kinds k p q = cc

pub inputs_part : (text : List ℕ) → Part (DerivesInputs text) Anything
inputs_part text = same_part (inputs_same text) (sequence_part (kind_part (Sign sign.OpenParen)) (may_params_part text) leads_anywhere)

-- '(' params ')'
abbrev pub AllOutputs : List ℕ → List Token → List Group → Type 0
AllOutputs text = Sequence (λ open_paren groups. groups) (IsToken (Sign sign.OpenParen)) (Closed text)

outputs_to : (text : List ℕ) (ts : List Token) (x : List Group) → AllOutputs text ts x → DerivesOutputs text ts x
outputs_to text ts x d =
    let o = d.first in
    let e = d.second in
    subst (λ z. DerivesOutputs text z x) (sym (d.whole ∙ ap (λ z. z ++ d.behind) o.alone ∙ ap (λ z. o.token ∷ z) (e.whole ∙ ap (λ z. e.front ++ z) e.second.alone)))
    (subst (λ z. DerivesOutputs text (o.token ∷ (e.front ++ e.second.token ∷ [])) z) (sym (d.is ∙ e.is)) (outputs o.token e.second.token o.of_kind e.first e.second.of_kind))

outputs_from : (text : List ℕ) (ts : List Token) (x : List Group) → DerivesOutputs text ts x → AllOutputs text ts x
outputs_from text ts x (outputs {ts = us} o c p d q) = record { front = o ∷ []; behind = us ++ c ∷ []; a = o; b = x; whole = refl; first = record { token = o; alone = refl; of_kind = p; is = refl }; second = record { front = us; behind = c ∷ []; a = x; b = c; whole = refl; first = d; second = record { token = c; alone = refl; of_kind = q; is = refl }; is = refl }; is = refl }

pub outputs_same : (text : List ℕ) → Same (AllOutputs text) (DerivesOutputs text)
outputs_same text = record { to = outputs_to text; from = outputs_from text }

pub outputs_part : (text : List ℕ) → Part (DerivesOutputs text) Anything
outputs_part text = same_part (outputs_same text) (sequence_part (kind_part (Sign sign.OpenParen)) (closed_part text) leads_anywhere)

-- group ';'
pub semicolon_leads : {G : List Token → Type 0} → Leads (IsToken (Sign sign.Semicolon)) G NoWhen
semicolon_leads = leads_opened (Word word.When) token_opens (λ e. (cc))

pub line_part : (text : List ℕ) → Part (Line text) Anything
line_part text = sequence_part (group_part text) (kind_part (Sign sign.Semicolon)) semicolon_leads

pub line_opens : (text : List ℕ) → Opens (Line text) (λ k. k ≡ Name)
line_opens text = sequence_opens (group_opens text)

abbrev pub AllLines : List ℕ → List Token → List Group → Type 0
AllLines text = OneAndMore (Line text) (Line text)

lines_to : (text : List ℕ) (ts : List Token) (x : List Group) → AllLines text ts x → DerivesLines text ts x
lines_to text ts x d = subst (λ z. DerivesLines text z x) (sym d.whole) (subst (λ z. DerivesLines text (d.front ++ d.behind) z) (sym d.is) (go d.front d.behind d.a d.b d.first d.second))
  where
    go : (us vs : List Token) (g : Group) (gs : List Group) → Line text us g → Many (Line text) vs gs → DerivesLines text (us ++ vs) (g ∷ gs)
    go us vs g gs d none =
        subst (λ z. DerivesLines text z (g ∷ [])) (sym (append-nil us ∙ d.whole ∙ ap (λ z. d.front ++ z) d.second.alone))
        (subst (λ z. DerivesLines text (d.front ++ d.second.token ∷ []) (z ∷ [])) (sym d.is) (last_line d.second.token d.first d.second.of_kind))
    go us vs g gs d (more {ts = us'} {us = vs'} {x = g'} {xs = gs'} e m) =
        subst (λ z. DerivesLines text z (g ∷ g' ∷ gs')) (sym (ap (λ z. z ++ (us' ++ vs')) (d.whole ∙ ap (λ z. d.front ++ z) d.second.alone) ∙ append_assoc d.front (d.second.token ∷ []) (us' ++ vs')))
        (subst (λ z. DerivesLines text (d.front ++ d.second.token ∷ (us' ++ vs')) (z ∷ g' ∷ gs')) (sym d.is) (more_lines d.second.token d.first d.second.of_kind (go us' vs' g' gs' e m)))

lines_from : (text : List ℕ) (ts : List Token) (x : List Group) → DerivesLines text ts x → AllLines text ts x
lines_from text ts x (last_line {ts = us} {g = g} s d p) = record { front = us ++ s ∷ []; behind = []; a = g; b = []; whole = sym (append-nil (us ++ s ∷ [])); first = record { front = us; behind = s ∷ []; a = g; b = s; whole = refl; first = d; second = record { token = s; alone = refl; of_kind = p; is = refl }; is = refl }; second = none; is = refl }
lines_from text ts x (more_lines {ts = us} {us = vs} {g = g} {gs = gs} s d p m) =
    let f = lines_from text vs gs m in
    record {
      front = us ++ s ∷ [];
      behind = vs;
      a = g;
      b = gs;
      whole = sym (append_assoc us (s ∷ []) vs);
      first = record { front = us; behind = s ∷ []; a = g; b = s; whole = refl; first = d; second = record { token = s; alone = refl; of_kind = p; is = refl }; is = refl };
      second = subst (λ z. Many (Line text) z gs) (sym f.whole) (subst (λ z. Many (Line text) (f.front ++ f.behind) z) (sym f.is) (more f.first f.second));
      is = refl;
    }

pub lines_same : (text : List ℕ) → Same (AllLines text) (DerivesLines text)
lines_same text = record { to = lines_to text; from = lines_from text }

pub line_after_line : (text : List ℕ) → Repeats (Line text) Anything NoName
line_after_line text = record {
  part = line_part text;
  again = λ ys y s d. tt;
  ends = λ s g. tt;
  stops = λ ys y s d g. let f = (line_opens text).opening ys y d in g f.0 (f.1 ++ s) (ap (λ z. z ++ s) f.2) f.3;
  alike = λ r s. lacks_alike Name r s;
}

pub lines_part : (text : List ℕ) → Part (DerivesLines text) NoName
lines_part text = same_part (lines_same text) (sequence_part (line_part text) (many_part (line_after_line text)) leads_anywhere)

-- [ 'var' group ';' { group ';' } ] 'let'
abbrev pub JustLet : List Token → List Group → Type 0
JustLet = OneToken (λ k. k ≡ Word word.Let) (λ t. [])

abbrev pub LinesAndLet : List ℕ → List Token → List Group → Type 0
LinesAndLet text = Sequence (λ groups begin. groups) (DerivesLines text) (IsToken (Word word.Let))

abbrev pub VarAndLet : List ℕ → List Token → List Group → Type 0
VarAndLet text = Sequence (λ var groups. groups) (IsToken (Word word.Var)) (LinesAndLet text)

abbrev pub MayVar : List ℕ → List Token → List Group → Type 0
MayVar text = Either JustLet (VarAndLet text)

locals_to : (text : List ℕ) (ts : List Token) (x : List Group) → MayVar text ts x → LocalsAndLet text ts x
locals_to text ts x (one d) = record { front = []; behind = ts; a = []; b = d.token; whole = refl; first = no_locals; second = record { token = d.token; alone = d.alone; of_kind = d.of_kind; is = refl }; is = d.is }
locals_to text ts x (other d) =
    let v = d.first in
    let e = d.second in
    record { front = v.token ∷ e.front; behind = e.behind; a = e.a; b = e.b; whole = d.whole ∙ ap (λ z. z ++ d.behind) v.alone ∙ ap (λ z. v.token ∷ z) e.whole; first = locals v.token v.of_kind e.first; second = e.second; is = d.is ∙ e.is }

locals_from : (text : List ℕ) (ts : List Token) (x : List Group) → LocalsAndLet text ts x → MayVar text ts x
locals_from text ts x d = subst (λ z. MayVar text z x) (sym d.whole) (subst (λ z. MayVar text (d.front ++ d.behind) z) (sym d.is) (go d.front d.a d.first))
  where
    go : (us : List Token) (gs : List Group) → DerivesLocals text us gs → MayVar text (us ++ d.behind) gs
    go us gs no_locals = one (record { token = d.second.token; alone = d.second.alone; of_kind = d.second.of_kind; is = refl })
    go us gs (locals {ts = vs} var p m) = other (record { front = var ∷ []; behind = vs ++ d.behind; a = var; b = gs; whole = refl; first = record { token = var; alone = refl; of_kind = p; is = refl }; second = record { front = vs; behind = d.behind; a = gs; b = d.b; whole = refl; first = m; second = d.second; is = refl }; is = refl })

pub locals_same : (text : List ℕ) → Same (MayVar text) (LocalsAndLet text)
locals_same text = record { to = locals_to text; from = locals_from text }

pub let_leads : {G : List Token → Type 0} → Leads (IsToken (Word word.Let)) G NoName
let_leads = leads_opened Name token_opens (λ e. (cc))

pub lines_and_let_part : (text : List ℕ) → Part (LinesAndLet text) Anything
lines_and_let_part text = sequence_part (lines_part text) (kind_part (Word word.Let)) let_leads

var_or_let : (k : TokenKind) → k ≡ Word word.Let → k ≡ Word word.Var → ⊥
var_or_let k p q = cc

pub locals_part : (text : List ℕ) → Part (LocalsAndLet text) Anything
locals_part text = same_part (locals_same text) (either_part (token_part (record { kind = Word word.Let; start = 0; «end» = 0 }) refl) (sequence_part (kind_part (Word word.Var)) (lines_and_let_part text) leads_anywhere) (apart_opened token_opens (sequence_opens token_opens) var_or_let))

-- a token of another kind stands in front
pub lacks_other : {ts rest : List Token} {s : Token} {k : TokenKind} (k' : TokenKind) → ts ≡ s ∷ rest → s.kind ≡ k → (k ≡ k' → ⊥) → Lacks ts k'
lacks_other {s = s} k' e p h t us f q = other_kinds {t = s} {u = t} (cc) p q h

-- no `;` begins the rest of the opening
abbrev pub VarOrLet : TokenKind → Type 0
VarOrLet k = (k ≡ Word word.Let) ⊎ (k ≡ Word word.Var)

pub locals_opens : (text : List ℕ) → Opens (LocalsAndLet text) VarOrLet
locals_opens text = same_opens (locals_same text) (either_opens (opens_more token_opens (λ k p. inl p)) (opens_more (sequence_opens token_opens) (λ k p. inr p)))

semicolon_first : (k : TokenKind) → k ≡ Sign sign.Semicolon → VarOrLet k → ⊥
semicolon_first k p q = elim q [ inl e ↦ absurd (no_let k p e) | inr e ↦ absurd (no_var k p e) ]
  where
    no_let : (k : TokenKind) → k ≡ Sign sign.Semicolon → k ≡ Word word.Let → ⊥
    no_let k p e = cc

    no_var : (k : TokenKind) → k ≡ Sign sign.Semicolon → k ≡ Word word.Var → ⊥
    no_var k p e = cc

pub never_locals : (text : List ℕ) {ts rest : List Token} {s : Token} → ts ≡ s ∷ rest → s.kind ≡ Sign sign.Semicolon → Never (LocalsAndLet text) Anything ts
never_locals text {s = s} e p = never_opened (locals_opens text) (λ t us f q. let same : s ≡ t = cc in semicolon_first t.kind (sym (ap (λ (z : Token). z.kind) same) ∙ p) q)

abbrev pub SemicolonThen : List ℕ → List Token → List Group → Type 0
SemicolonThen text = Sequence (λ semicolon groups. groups) (IsToken (Sign sign.Semicolon)) (LocalsAndLet text)

pub opening_part : (text : List ℕ) → Part (Opening text) Anything
opening_part text = either_part (sequence_part (kind_part (Sign sign.Semicolon)) (locals_part text) leads_anywhere) (locals_part text) (apart_opened (sequence_opens token_opens) (locals_opens text) semicolon_first)

pub never_semicolon : (text : List ℕ) {ts : List Token} → Lacks ts (Sign sign.Semicolon) → Never (SemicolonThen text) Anything ts
never_semicolon text l = never_opened (sequence_opens token_opens) l
