-- Readers of parts that stand one behind another: what is read is read in one way, and where one
-- part is stuck the whole is.
use Rattle.std.proofs.Common.{◌≡◌, ℕ, ◌<◌, List, [], ◌∷◌, ◌++◌, length, refl, sym, ap, ◌∙◌, subst, arith, append_assoc, length-append}
use Rattle.std.proofs.lemmas.List.{append-nil}
use Rattle.std.specs.Prelude.{Result, Ok, Err, IfOk, IfErr}
use Rattle.std.specs.Borrow.{Bor}
use Rattle.lus_syntax.specs.declared.token.Token.{Token}
use Rattle.lus_syntax.specs.declared.token.TokenKind.{TokenKind}
use Rattle.lus_syntax.specs.declared.grammar.fault.PartFault.{PartFault}
use Rattle.lus_syntax.specs.declared.grammar.fault.PartFault.TheVariants.{Stuck, Memory}
use Rattle.lus_syntax.specs.Parts.{Lacks, Alike, Takes, IsStuck, Parsed}
use Rattle.lus_syntax.specs.Sections.{Anything, OneToken, Nothing, Sequence, Either, one, other, Many, none, more, Run, started, taken, Begun, IsToken}

-- What is known of a part: of two fronts of one list that both may stand before what follows them,
-- only one derives something; what may follow is seen by the first token; some tokens derive something.
pub record Part {A : Type 0} (D : List Token → A → Type 0) (F : List Token → Type 0) : Type 0 where
  pub once : (xs ys r s : List Token) (a b : A) → D xs a → D ys b → xs ++ r ≡ ys ++ s → F r → F s → (a ≡ b) × (r ≡ s)
  pub alike : (r s : List Token) → Alike r s → F r → F s
  pub some_of : (ts : List Token) × (x : A) × D ts x

-- where a part stands before what may follow it, its first token is what may follow another part
pub record Leads {B : Type 0} (E : List Token → B → Type 0) (G F : List Token → Type 0) : Type 0 where
  pub on : (ys : List Token) (y : B) (s : List Token) → E ys y → G s → F (ys ++ s)

-- the first token of a part is of such a kind
pub record Opens {A : Type 0} (D : List Token → A → Type 0) (P : TokenKind → Type 0) : Type 0 where
  pub opening : (xs : List Token) (x : A) → D xs x → (t : Token) × (us : List Token) × (xs ≡ t ∷ us) × P t.kind

-- two names of one part
pub record Same {A : Type 0} (D E : List Token → A → Type 0) : Type 0 where
  pub to : (ts : List Token) (x : A) → D ts x → E ts x
  pub from : (ts : List Token) (x : A) → E ts x → D ts x

-- with the first of these tokens, or at their end, no part begins
pub record Never {A : Type 0} (D : List Token → A → Type 0) (F : List Token → Type 0) (ts : List Token) : Type 0 where
  pub never : (us : List Token) (x : A) (behind : List Token) → Alike ts us → Takes D us x behind → F behind → ⊥

-- first tokens
pub alike_refl : (ts : List Token) → Alike ts ts
alike_refl [] = tt
alike_refl (t ∷ ts) = refl

pub alike_front : (xs r s : List Token) → Alike r s → Alike (xs ++ r) (xs ++ s)
alike_front [] r s h = h
alike_front (x ∷ xs) r s h = refl

pub alike_more : (xs r s : List Token) (t : Token) → Alike ((t ∷ xs) ++ r) ((t ∷ xs) ++ s)
alike_more xs r s t = refl

pub lacks_alike : (k : TokenKind) (r s : List Token) → Alike r s → Lacks r k → Lacks s k
lacks_alike k [] [] h l t us e is = absurd (cc)
lacks_alike k (r ∷ rs) (s ∷ ss) h l t us e is =
    let same : r ≡ t = h ∙ cc in
    l r rs refl (ap (λ (z : Token). z.kind) same ∙ is)
lacks_alike k [] (s ∷ ss) h l t us e is = absurd h
lacks_alike k (r ∷ rs) [] h l t us e is = absurd h

-- anything may follow
pub leads_anywhere : {B : Type 0} {E : List Token → B → Type 0} {G : List Token → Type 0} → Leads E G Anything
leads_anywhere = record { on = λ ys y s d g. tt }

-- a part that opens with another kind than the one that may not follow
pub leads_opened : {B : Type 0} {E : List Token → B → Type 0} {G : List Token → Type 0} {P : TokenKind → Type 0} (k : TokenKind) → Opens E P → (P k → ⊥) → Leads E G (λ ts. Lacks ts k)
leads_opened {E = E} {P = P} k o differs = record {
  on = λ ys y s d g t us e is.
      let f = o.opening ys y d in
      let same : f.0 ≡ t = heads (f.0) t (f.1 ++ s) us (sym (ap (λ z. z ++ s) f.2) ∙ e) in
      differs (subst P (ap (λ (z : Token). z.kind) same ∙ is) f.3);
}
  where
    heads : (t u : Token) (ts us : List Token) → t ∷ ts ≡ u ∷ us → t ≡ u
    heads t u ts us e = cc

-- one token
pub token_part : {A : Type 0} {P : TokenKind → Type 0} {value : Token → A} (t : Token) → P t.kind → Part (OneToken P value) Anything
token_part {P = P} {value = value} t p = record {
  once = λ xs ys r s a b d e w f g.
      let both : d.token ∷ r ≡ e.token ∷ s = sym (ap (λ z. z ++ r) d.alone) ∙ w ∙ ap (λ z. z ++ s) e.alone in
      (d.is ∙ ap value (cc both) ∙ sym e.is, cc both);
  alike = λ r s h f. tt;
  some_of = (t ∷ [], value t, record { token = t; alone = refl; of_kind = p; is = refl });
}

pub token_opens : {A : Type 0} {P : TokenKind → Type 0} {value : Token → A} → Opens (OneToken P value) P
token_opens = record { opening = λ xs x d. (d.token, [], d.alone, d.of_kind) }

-- names of one part
pub same_part : {A : Type 0} {D E : List Token → A → Type 0} {F : List Token → Type 0} → Same D E → Part D F → Part E F
same_part {D = D} {E = E} s p = record {
  once = λ xs ys r t a b d e w f g. p.once xs ys r t a b (s.from xs a d) (s.from ys b e) w f g;
  alike = p.alike;
  some_of = (p.some_of.0, p.some_of.1, s.to p.some_of.0 p.some_of.1 p.some_of.2);
}

pub same_opens : {A : Type 0} {D E : List Token → A → Type 0} {P : TokenKind → Type 0} → Same D E → Opens D P → Opens E P
same_opens s o = record { opening = λ xs x d. o.opening xs x (s.from xs x d) }

pub same_takes : {A : Type 0} {D E : List Token → A → Type 0} {ts rest : List Token} {x : A} → Same D E → Takes D ts x rest → Takes E ts x rest
same_takes {x = x} s d = record { front = d.front; whole = d.whole; derived = s.to d.front x d.derived }

pub same_untakes : {A : Type 0} {D E : List Token → A → Type 0} {ts rest : List Token} {x : A} → Same D E → Takes E ts x rest → Takes D ts x rest
same_untakes {x = x} s d = record { front = d.front; whole = d.whole; derived = s.from d.front x d.derived }

pub same_stuck : {A : Type 0} {D E : List Token → A → Type 0} {F : List Token → Type 0} {ts : List Token} {n : ℕ} → Same D E → IsStuck D F ts n → IsStuck E F ts n
same_stuck {D = D} {E = E} s h = record {
  front = h.front;
  rest = h.rest;
  whole = h.whole;
  count = h.count;
  reach = (h.reach.0, h.reach.1, s.to (h.front ++ h.reach.0) h.reach.1 h.reach.2);
  dead = λ us x behind a t f. h.dead us x behind a (same_untakes s t) f;
}

pub same_never : {A : Type 0} {D E : List Token → A → Type 0} {F : List Token → Type 0} {ts : List Token} → Same D E → Never D F ts → Never E F ts
same_never s h = record { never = λ us x behind a t f. h.never us x behind a (same_untakes s t) f }

-- one part behind another
pub sequence_part : {A B C : Type 0} {join : A → B → C} {D : List Token → A → Type 0} {E : List Token → B → Type 0} {F G : List Token → Type 0} → Part D F → Part E G → Leads E G F → Part (Sequence join D E) G
sequence_part {join = join} {D = D} {E = E} {F = F} {G = G} p q l = record {
  once = λ xs ys r s a b d e w f g.
      let shift : d.front ++ (d.behind ++ r) ≡ e.front ++ (e.behind ++ s) = sym (append_assoc d.front d.behind r) ∙ sym (ap (λ z. z ++ r) d.whole) ∙ w ∙ ap (λ z. z ++ s) e.whole ∙ append_assoc e.front e.behind s in
      let h = p.once d.front e.front (d.behind ++ r) (e.behind ++ s) d.a e.a d.first e.first shift (l.on d.behind d.b r d.second f) (l.on e.behind e.b s e.second g) in
      let k = q.once d.behind e.behind r s d.b e.b d.second e.second h.1 f g in
      (d.is ∙ ap (λ z. join z d.b) h.0 ∙ ap (λ z. join e.a z) k.0 ∙ sym e.is, k.1);
  alike = q.alike;
  some_of = (p.some_of.0 ++ q.some_of.0, join p.some_of.1 q.some_of.1, record { front = p.some_of.0; behind = q.some_of.0; a = p.some_of.1; b = q.some_of.1; whole = refl; first = p.some_of.2; second = q.some_of.2; is = refl });
}

pub sequence_opens : {A B C : Type 0} {join : A → B → C} {D : List Token → A → Type 0} {E : List Token → B → Type 0} {P : TokenKind → Type 0} → Opens D P → Opens (Sequence join D E) P
sequence_opens o = record {
  opening = λ xs x d.
      let f = o.opening d.front d.a d.first in
      (f.0, f.1 ++ d.behind, d.whole ∙ ap (λ z. z ++ d.behind) f.2, f.3);
}

pub takes_both : {A B C : Type 0} {join : A → B → C} {D : List Token → A → Type 0} {E : List Token → B → Type 0} {ts mid rest : List Token} {x : A} {y : B} → Takes D ts x mid → Takes E mid y rest → Takes (Sequence join D E) ts (join x y) rest
takes_both {rest = rest} {x = x} {y = y} d e = record {
  front = d.front ++ e.front;
  whole = d.whole ∙ ap (λ z. d.front ++ z) e.whole ∙ sym (append_assoc d.front e.front rest);
  derived = record { front = d.front; behind = e.front; a = x; b = y; whole = refl; first = d.derived; second = e.derived; is = refl };
}

-- a whole that is taken begins with its first part
first_of_both : {A B C : Type 0} {join : A → B → C} {D : List Token → A → Type 0} {E : List Token → B → Type 0} {ts rest : List Token} {z : C} (d : Takes (Sequence join D E) ts z rest) → Takes D ts d.derived.a (d.derived.behind ++ rest)
first_of_both {rest = rest} d = record { front = d.derived.front; whole = d.whole ∙ ap (λ z. z ++ rest) d.derived.whole ∙ append_assoc d.derived.front d.derived.behind rest; derived = d.derived.first }

-- stuck in the first part
pub stuck_first : {A B C : Type 0} {join : A → B → C} {D : List Token → A → Type 0} {E : List Token → B → Type 0} {F G G' : List Token → Type 0} {ts : List Token} {n : ℕ} → Part E G' → Leads E G F → IsStuck D F ts n → IsStuck (Sequence join D E) G ts n
stuck_first {join = join} {D = D} {E = E} q l h = record {
  front = h.front;
  rest = h.rest;
  whole = h.whole;
  count = h.count;
  reach = (h.reach.0 ++ q.some_of.0, join h.reach.1 q.some_of.1, record { front = h.front ++ h.reach.0; behind = q.some_of.0; a = h.reach.1; b = q.some_of.1; whole = sym (append_assoc h.front h.reach.0 q.some_of.0); first = h.reach.2; second = q.some_of.2; is = refl });
  dead = λ us x behind a t f. h.dead us t.derived.a (t.derived.behind ++ behind) a (first_of_both t) (l.on t.derived.behind t.derived.b behind t.derived.second f);
}

-- stuck behind a first part that was taken
pub stuck_second : {A B C : Type 0} {join : A → B → C} {D : List Token → A → Type 0} {E : List Token → B → Type 0} {F G : List Token → Type 0} {ts rest : List Token} {x : A} {n : ℕ} → Part D F → Leads E G F → Takes D ts x rest → F rest → IsStuck E G rest n → IsStuck (Sequence join D E) G ts n
stuck_second {join = join} {D = D} {E = E} {F = F} {rest = rest} {x = x} p l d follows h = record {
  front = d.front ++ h.front;
  rest = h.rest;
  whole = d.whole ∙ ap (λ z. d.front ++ z) h.whole ∙ sym (append_assoc d.front h.front h.rest);
  count = h.count;
  reach = (h.reach.0, join x h.reach.1, record { front = d.front; behind = h.front ++ h.reach.0; a = x; b = h.reach.1; whole = append_assoc d.front h.front h.reach.0; first = d.derived; second = h.reach.2; is = refl });
  dead = λ us z behind a t f.
      let other = first_of_both t in
      let same = p.once d.front other.front (h.front ++ us) (t.derived.behind ++ behind) x t.derived.a d.derived other.derived (sym (append_assoc d.front h.front us) ∙ other.whole) (p.alike rest (h.front ++ us) (subst (λ z. Alike z (h.front ++ us)) (sym h.whole) (alike_front h.front h.rest us a)) follows) (l.on t.derived.behind t.derived.b behind t.derived.second f) in
      h.dead us t.derived.b behind a (record { front = t.derived.behind; whole = same.1; derived = t.derived.second }) f;
}

pub never_sequence : {A B C : Type 0} {join : A → B → C} {D : List Token → A → Type 0} {E : List Token → B → Type 0} {F G : List Token → Type 0} {ts : List Token} → Leads E G F → Never D F ts → Never (Sequence join D E) G ts
never_sequence l h = record { never = λ us x behind a t f. h.never us t.derived.a (t.derived.behind ++ behind) a (first_of_both t) (l.on t.derived.behind t.derived.b behind t.derived.second f) }

-- where no part begins, the whole is stuck before the first token
pub stuck_at_once : {A : Type 0} {D : List Token → A → Type 0} {F F' : List Token → Type 0} {ts : List Token} → Part D F' → Never D F ts → IsStuck D F ts (length ts)
stuck_at_once {ts = ts} p h = record { front = []; rest = ts; whole = refl; count = refl; reach = p.some_of; dead = h.never }

-- the first token is of no kind that opens the part
pub never_opened : {A : Type 0} {D : List Token → A → Type 0} {F : List Token → Type 0} {P : TokenKind → Type 0} {ts : List Token} → Opens D P → ((t : Token) (us : List Token) → ts ≡ t ∷ us → P t.kind → ⊥) → Never D F ts
never_opened {D = D} {P = P} {ts = ts} o h = record {
  never = λ us x behind a t f.
      let k = o.opening t.front x t.derived in
      go ts us k.0 (k.1 ++ behind) a (t.whole ∙ ap (λ z. z ++ behind) k.2) h k.3;
}
  where
    go : (ts us : List Token) (t : Token) (vs : List Token) → Alike ts us → us ≡ t ∷ vs → ((t : Token) (us : List Token) → ts ≡ t ∷ us → P t.kind → ⊥) → P t.kind → ⊥
    go [] [] t vs a e h p = absurd (cc)
    go [] (u ∷ us) t vs a e h p = a
    go (x ∷ xs) [] t vs a e h p = a
    go (x ∷ xs) (u ∷ us) t vs a e h p =
        let same : x ≡ t = a ∙ cc in
        h x xs refl (subst (λ (z : Token). P z.kind) (sym same) p)

-- one part or another
pub either_opens : {A : Type 0} {D E : List Token → A → Type 0} {P : TokenKind → Type 0} → Opens D P → Opens E P → Opens (Either D E) P
either_opens {A} {D} {E} {P} p q = record { opening = λ xs x d. go xs x d }
  where
    go : (xs : List Token) (x : A) → Either D E xs x → (t : Token) × (us : List Token) × (xs ≡ t ∷ us) × P t.kind
    go xs x (one d) = p.opening xs x d
    go xs x (other d) = q.opening xs x d

-- no tokens begin both parts
pub record Apart {A B : Type 0} (D : List Token → A → Type 0) (E : List Token → B → Type 0) (F : List Token → Type 0) : Type 0 where
  pub apart : (xs ys r s : List Token) (a : A) (b : B) → D xs a → E ys b → xs ++ r ≡ ys ++ s → F r → F s → ⊥

pub apart_opened : {A B : Type 0} {D : List Token → A → Type 0} {E : List Token → B → Type 0} {F : List Token → Type 0} {P Q : TokenKind → Type 0} → Opens D P → Opens E Q → ((k : TokenKind) → P k → Q k → ⊥) → Apart D E F
apart_opened {Q = Q} o p differ = record {
  apart = λ xs ys r s a b d e w f g.
      let x = o.opening xs a d in
      let y = p.opening ys b e in
      let same : x.0 ≡ y.0 = heads x.0 y.0 (x.1 ++ r) (y.1 ++ s) (sym (ap (λ z. z ++ r) x.2) ∙ w ∙ ap (λ z. z ++ s) y.2) in
      differ (x.0).kind x.3 (subst (λ (z : Token). Q z.kind) (sym same) y.3);
}
  where
    heads : (t u : Token) (ts us : List Token) → t ∷ ts ≡ u ∷ us → t ≡ u
    heads t u ts us e = cc

pub apart_nothing : {A B : Type 0} {x : B} {D : List Token → A → Type 0} {F : List Token → Type 0} → ((xs : List Token) (a : A) (r : List Token) → D xs a → F (xs ++ r) → ⊥) → Apart D (Nothing x) F
apart_nothing {F = F} h = record { apart = λ xs ys r s a b d e w f g. h xs a r d (subst F (sym (w ∙ ap (λ z. z ++ s) e.empty)) g) }

pub either_part : {A : Type 0} {D E : List Token → A → Type 0} {F : List Token → Type 0} → Part D F → Part E F → Apart D E F → Part (Either D E) F
either_part {A} {D} {E} {F} p q h = record {
  once = λ xs ys r s a b d e w f g. go xs ys r s a b d e w f g;
  alike = p.alike;
  some_of = (p.some_of.0, p.some_of.1, one p.some_of.2);
}
  where
    go : (xs ys r s : List Token) (a b : A) → Either D E xs a → Either D E ys b → xs ++ r ≡ ys ++ s → F r → F s → (a ≡ b) × (r ≡ s)
    go xs ys r s a b (one d) (one e) w f g = p.once xs ys r s a b d e w f g
    go xs ys r s a b (one d) (other e) w f g = absurd (h.apart xs ys r s a b d e w f g)
    go xs ys r s a b (other d) (one e) w f g = absurd (h.apart ys xs s r b a e d (sym w) g f)
    go xs ys r s a b (other d) (other e) w f g = q.once xs ys r s a b d e w f g

take_one : {A : Type 0} {D E : List Token → A → Type 0} {us behind : List Token} {x : A} → ((front : List Token) → us ≡ front ++ behind → D front x → ⊥) → ((front : List Token) → us ≡ front ++ behind → E front x → ⊥) → Takes (Either D E) us x behind → ⊥
take_one {A} {D} {E} {us} {behind} {x} f g t = go t.front t.whole t.derived
  where
    go : (front : List Token) → us ≡ front ++ behind → Either D E front x → ⊥
    go front w (one d) = f front w d
    go front w (other d) = g front w d

-- where the other part doesn't begin, the one decides
pub stuck_one : {A : Type 0} {D E : List Token → A → Type 0} {F : List Token → Type 0} {ts : List Token} {n : ℕ} → Never E F ts → IsStuck D F ts n → IsStuck (Either D E) F ts n
stuck_one {D = D} {E = E} {F = F} {ts = ts} h k = record {
  front = k.front;
  rest = k.rest;
  whole = k.whole;
  count = k.count;
  reach = (k.reach.0, k.reach.1, one k.reach.2);
  dead = λ us x behind a t f. take_one {D = D} {E = E} (λ front w d. k.dead us x behind a (record { front = front; whole = w; derived = d }) f) (λ front w d. h.never (k.front ++ us) x behind (subst (λ z. Alike z (k.front ++ us)) (sym k.whole) (alike_front k.front k.rest us a)) (record { front = front; whole = w; derived = d }) f) t;
}

pub stuck_other : {A : Type 0} {D E : List Token → A → Type 0} {F : List Token → Type 0} {ts : List Token} {n : ℕ} → Never D F ts → IsStuck E F ts n → IsStuck (Either D E) F ts n
stuck_other {D = D} {E = E} {F = F} {ts = ts} h k = record {
  front = k.front;
  rest = k.rest;
  whole = k.whole;
  count = k.count;
  reach = (k.reach.0, k.reach.1, other k.reach.2);
  dead = λ us x behind a t f. take_one {D = D} {E = E} (λ front w d. h.never (k.front ++ us) x behind (subst (λ z. Alike z (k.front ++ us)) (sym k.whole) (alike_front k.front k.rest us a)) (record { front = front; whole = w; derived = d }) f) (λ front w d. k.dead us x behind a (record { front = front; whole = w; derived = d }) f) t;
}

pub never_either : {A : Type 0} {D E : List Token → A → Type 0} {F : List Token → Type 0} {ts : List Token} → Never D F ts → Never E F ts → Never (Either D E) F ts
never_either {D = D} {E = E} {F = F} h k = record { never = λ us x behind a t f. take_one {D = D} {E = E} (λ front w d. h.never us x behind a (record { front = front; whole = w; derived = d }) f) (λ front w d. k.never us x behind a (record { front = front; whole = w; derived = d }) f) t }

pub takes_one : {A : Type 0} {D E : List Token → A → Type 0} {ts rest : List Token} {x : A} → Takes D ts x rest → Takes (Either D E) ts x rest
takes_one d = record { front = d.front; whole = d.whole; derived = one d.derived }

pub takes_other : {A : Type 0} {D E : List Token → A → Type 0} {ts rest : List Token} {x : A} → Takes E ts x rest → Takes (Either D E) ts x rest
takes_other d = record { front = d.front; whole = d.whole; derived = other d.derived }

-- no tokens
alike_sym : (r s : List Token) → Alike r s → Alike s r
alike_sym [] [] h = h
alike_sym [] (s ∷ ss) h = absurd h
alike_sym (r ∷ rs) [] h = absurd h
alike_sym (r ∷ rs) (s ∷ ss) h = sym h

pub nothing_part : {A : Type 0} {x : A} {F : List Token → Type 0} → ((r s : List Token) → Alike r s → F r → F s) → Part (Nothing x) F
nothing_part {x = x} h = record {
  once = λ xs ys r s a b d e w f g. (d.is ∙ sym e.is, sym (ap (λ z. z ++ r) d.empty) ∙ w ∙ ap (λ z. z ++ s) e.empty);
  alike = h;
  some_of = ([], x, record { empty = refl; is = refl });
}

pub never_nothing : {A : Type 0} {x : A} {F : List Token → Type 0} {ts : List Token} → ((r s : List Token) → Alike r s → F r → F s) → (F ts → ⊥) → Never (Nothing x) F ts
never_nothing {F = F} {ts = ts} h k = record { never = λ us y behind a t f. k (h us ts (alike_sym ts us a) (subst F (sym (t.whole ∙ ap (λ z. z ++ behind) t.derived.empty)) f)) }

pub takes_nothing : {A : Type 0} {x : A} {ts : List Token} → Takes (Nothing x) ts x ts
takes_nothing = record { front = []; whole = refl; derived = record { empty = refl; is = refl } }

-- What a repetition needs: a part may follow itself, what ends the repetition may follow the part,
-- and doesn't begin one.
pub record Repeats {A : Type 0} (One : List Token → A → Type 0) (F G : List Token → Type 0) : Type 0 where
  pub part : Part One F
  pub again : (ys : List Token) (y : A) (s : List Token) → One ys y → F (ys ++ s)
  pub ends : (s : List Token) → G s → F s
  pub stops : (ys : List Token) (y : A) (s : List Token) → One ys y → G (ys ++ s) → ⊥
  pub alike : (r s : List Token) → Alike r s → G r → G s

pub leads_many : {A : Type 0} {One : List Token → A → Type 0} {F G : List Token → Type 0} → Repeats One F G → Leads (Many One) G F
leads_many {A} {One} {F} {G} h = record { on = λ ys y s d g. go ys y s d g }
  where
    go : (ys : List Token) (y : List A) (s : List Token) → Many One ys y → G s → F (ys ++ s)
    go ys y s none g = h.ends s g
    go ys y s (more {ts = ts} {us = us} {x = x} d m) g = subst F (sym (append_assoc ts us s)) (h.again ts x (us ++ s) d)

pub many_part : {A : Type 0} {One : List Token → A → Type 0} {F G : List Token → Type 0} → Repeats One F G → Part (Many One) G
many_part {A} {One} {F} {G} h = record {
  once = λ xs ys r s a b d e w f g. go xs ys r s a b d e w f g;
  alike = h.alike;
  some_of = ([], [], none);
}
  where
    go : (xs ys r s : List Token) (a b : List A) → Many One xs a → Many One ys b → xs ++ r ≡ ys ++ s → G r → G s → (a ≡ b) × (r ≡ s)
    go xs ys r s a b none none w f g = (refl, w)
    go xs ys r s a b none (more {ts = ts} {us = us} {x = x} d m) w f g = absurd (h.stops ts x (us ++ s) d (subst G (w ∙ append_assoc ts us s) f))
    go xs ys r s a b (more {ts = ts} {us = us} {x = x} d m) none w f g = absurd (h.stops ts x (us ++ r) d (subst G (sym w ∙ append_assoc ts us r) g))
    go xs ys r s a b (more {ts = ts} {us = us} {x = x} {xs = zs} d m) (more {ts = ts'} {us = us'} {x = x'} {xs = zs'} d' m') w f g =
        let l = leads_many h in
        let first = h.part.once ts ts' (us ++ r) (us' ++ s) x x' d d' (sym (append_assoc ts us r) ∙ w ∙ append_assoc ts' us' s) (l.on us zs r m f) (l.on us' zs' s m' g) in
        let rest = go us us' r s zs zs' m m' first.1 f g in
        (ap (λ z. z ∷ zs) first.0 ∙ ap (λ z. x' ∷ z) rest.0, rest.1)

-- where a part has to come, and the whole of one and more is stuck
stuck_more : {A : Type 0} {One : List Token → A → Type 0} {F G : List Token → Type 0} {ts : List Token} {n : ℕ} → Repeats One F G → (G ts → ⊥) → IsStuck (Sequence (λ x xs. x ∷ xs) One (Many One)) G ts n → IsStuck (Many One) G ts n
stuck_more {A} {One} {F} {G} {ts} {n} h bare k = record {
  front = k.front;
  rest = k.rest;
  whole = k.whole;
  count = k.count;
  reach = (k.reach.0, k.reach.1, made k.reach.2);
  dead = λ us x behind a t f. go us x behind a t.front t.whole t.derived f;
}
  where
    made : {us : List Token} {x : List A} → Sequence (λ x xs. x ∷ xs) One (Many One) us x → Many One us x
    made {us} {x} d = subst (λ z. Many One z x) (sym d.whole) (subst (λ z. Many One (d.front ++ d.behind) z) (sym d.is) (more d.first d.second))

    go : (us : List Token) (x : List A) (behind : List Token) → Alike k.rest us → (front : List Token) → k.front ++ us ≡ front ++ behind → Many One front x → G behind → ⊥
    go us x behind a front w none f = bare (h.alike behind ts (subst (λ z. Alike z ts) w (alike_sym ts (k.front ++ us) (subst (λ z. Alike z (k.front ++ us)) (sym k.whole) (alike_front k.front k.rest us a)))) f)
    go us x behind a front w (more {ts = xs} {us = ys} {x = y} {xs = zs} d m) f = k.dead us (y ∷ zs) behind a (record { front = xs ++ ys; whole = w; derived = record { front = xs; behind = ys; a = y; b = zs; whole = refl; first = d; second = m; is = refl } }) f

run_stuck : {A : Type 0} {One : List Token → A → Type 0} {F G : List Token → Type 0} {ts rest : List Token} {xs : List A} {n : ℕ} → Repeats One F G → Run One F ts xs rest → IsStuck (Many One) G rest n → IsStuck (Many One) G ts n
run_stuck h started k = k
run_stuck {One = One} {F = F} {G = G} h (taken {mid = mid} {rest = rest} {x = x} r d f) k =
    run_stuck h r (stuck_more h (λ g. h.stops d.front x rest d.derived (subst G d.whole g)) (stuck_second h.part (leads_many h) d f k))

run_on : {A : Type 0} {One : List Token → A → Type 0} {F : List Token → Type 0} {ts rest r : List Token} {xs ys : List A} → Run One F ts xs rest → Takes (Many One) rest ys r → Takes (Many One) ts (xs ++ ys) r
run_on started t = t
run_on {One = One} {ts = ts} {r = r} {ys = ys} (taken {mid = mid} {rest = rest} {xs = xs} {x = x} run d f) t =
    subst (λ z. Takes (Many One) ts z r) (sym (append_assoc xs (x ∷ []) ys))
    (run_on run (record { front = d.front ++ t.front; whole = d.whole ∙ ap (λ z. d.front ++ z) t.whole ∙ sym (append_assoc d.front t.front r); derived = more d.derived t.derived }))

pub run_end : {A : Type 0} {One : List Token → A → Type 0} {F : List Token → Type 0} {ts rest : List Token} {xs : List A} → Run One F ts xs rest → Takes (Many One) ts xs rest
run_end {One = One} {ts = ts} {rest = rest} {xs = xs} r = subst (λ z. Takes (Many One) ts z rest) (append-nil xs) (run_on r (record { front = []; whole = refl; derived = none }))

-- Where one part is stuck at these tokens, the whole is stuck at those.
pub record Passes {A B : Type 0} (E : List Token → B → Type 0) (G : List Token → Type 0) (us : List Token) (D : List Token → A → Type 0) (F : List Token → Type 0) (ts : List Token) : Type 0 where
  pub on : (n : ℕ) → IsStuck E G us n → IsStuck D F ts n

pub pass_here : {A : Type 0} {D : List Token → A → Type 0} {F : List Token → Type 0} {ts : List Token} → Passes D F ts D F ts
pass_here = record { on = λ n s. s }

pub pass : {A B C : Type 0} {D : List Token → A → Type 0} {E : List Token → B → Type 0} {H : List Token → C → Type 0} {F G I : List Token → Type 0} {ts us vs : List Token} → Passes E G us D F ts → Passes H I vs E G us → Passes H I vs D F ts
pass p q = record { on = λ n s. p.on n (q.on n s) }

pub pass_same : {A : Type 0} {D E : List Token → A → Type 0} {F : List Token → Type 0} {ts : List Token} → Same D E → Passes D F ts E F ts
pass_same s = record { on = λ n k. same_stuck s k }

pub pass_first : {A B C : Type 0} {join : A → B → C} {D : List Token → A → Type 0} {E : List Token → B → Type 0} {F G G' : List Token → Type 0} {ts : List Token} → Part E G' → Leads E G F → Passes D F ts (Sequence join D E) G ts
pass_first q l = record { on = λ n k. stuck_first q l k }

pub pass_second : {A B C : Type 0} {join : A → B → C} {D : List Token → A → Type 0} {E : List Token → B → Type 0} {F G : List Token → Type 0} {ts rest : List Token} {x : A} → Part D F → Leads E G F → Takes D ts x rest × F rest → Passes E G rest (Sequence join D E) G ts
pass_second p l h = record { on = λ n k. stuck_second p l h.0 h.1 k }

pub pass_one : {A : Type 0} {D E : List Token → A → Type 0} {F : List Token → Type 0} {ts : List Token} → Never E F ts → Passes D F ts (Either D E) F ts
pass_one h = record { on = λ n k. stuck_one h k }

pub pass_other : {A : Type 0} {D E : List Token → A → Type 0} {F : List Token → Type 0} {ts : List Token} → Never D F ts → Passes E F ts (Either D E) F ts
pass_other h = record { on = λ n k. stuck_other h k }

pub pass_run : {A : Type 0} {One : List Token → A → Type 0} {F G : List Token → Type 0} {ts rest : List Token} {xs : List A} → Repeats One F G → Run One F ts xs rest → (G rest → ⊥) → Passes One F rest (Many One) G ts
pass_run h r bare = record { on = λ n k. run_stuck h r (stuck_more h bare (stuck_first (many_part h) (leads_many h) k)) }

-- the whole fails where a part does
pub fails : {A B : Type 0} {D : List Token → A → Type 0} {E : List Token → B → Type 0} {F G : List Token → Type 0} {ts us : List Token} {result : Result (A × Bor (List Token)) PartFault} {fault : PartFault} → Passes E G us D F ts → result ≡ Err fault → Parsed E G us (Err fault) → Parsed D F ts result
fails {A} {B} {D} {E} {F} {G} {ts} {us} {result} {fault} p e h = subst (Parsed D F ts) (sym e) (go fault h)
  where
    go : (fault : PartFault) → Parsed E G us (Err fault) → Parsed D F ts (Err fault)
    go (Stuck n) h = p.on n h
    go Memory h = tt

-- fewer tokens are left
pub takes_shorter : {A : Type 0} {D : List Token → A → Type 0} {P : TokenKind → Type 0} {ts rest : List Token} {x : A} → Opens D P → Takes D ts x rest → length rest < length ts
takes_shorter {rest = rest} {x = x} o d =
    let f = o.opening d.front x d.derived in
    omega (arith, ap length d.whole, length-append d.front rest, ap length f.2)

-- another value of one part
pub pass_value : {A B : Type 0} {D : List Token → A → Type 0} {E : List Token → B → Type 0} {F : List Token → Type 0} {ts : List Token} → ((us : List Token) (x : A) → D us x → (y : B) × E us y) → ((us : List Token) (y : B) → E us y → (x : A) × D us x) → Passes D F ts E F ts
pass_value to from = record {
  on = λ n k. record {
    front = k.front;
    rest = k.rest;
    whole = k.whole;
    count = k.count;
    reach = let f = to (k.front ++ k.reach.0) k.reach.1 k.reach.2 in (k.reach.0, f.0, f.1);
    dead = λ us y behind a t f. let d = from t.front y t.derived in k.dead us d.0 behind a (record { front = t.front; whole = t.whole; derived = d.1 }) f;
  };
}

pub pass_token : {A B : Type 0} {P : TokenKind → Type 0} {v : Token → A} {w : Token → B} {F : List Token → Type 0} {ts : List Token} → Passes (OneToken P v) F ts (OneToken P w) F ts
pass_token {v = v} {w = w} = pass_value
    (λ us x d. (w d.token, record { token = d.token; alone = d.alone; of_kind = d.of_kind; is = refl }))
    (λ us y d. (v d.token, record { token = d.token; alone = d.alone; of_kind = d.of_kind; is = refl }))

-- a token of a kind
pub kind_part : (k : TokenKind) → Part (IsToken k) Anything
kind_part k = token_part (record { kind = k; start = 0; «end» = 0 }) refl

pub token_taken : {A : Type 0} {P : TokenKind → Type 0} {v : Token → A} {ts rest : List Token} {t : Token} → ts ≡ t ∷ rest → P t.kind → Takes (OneToken P v) ts (v t) rest
token_taken {t = t} e p = record { front = t ∷ []; whole = e; derived = record { token = t; alone = refl; of_kind = p; is = refl } }

pub token_parsed : (ts : List Token) (k : TokenKind) (result : Result (Token × Bor (List Token)) PartFault) → IfOk result (λ f. ts ≡ f.0 ∷ f.1.now) → IfOk result (λ f. (f.0).kind ≡ k) → IfErr result (λ fault. Lacks ts k) → IfErr result (λ fault. fault ≡ Stuck (length ts)) → Parsed (IsToken k) Anything ts result
token_parsed ts k (Ok f) w is l e = (token_taken w is, tt)
token_parsed ts k (Err fault) w is l e = subst (λ f. Parsed (IsToken k) Anything ts (Err f)) (sym e) (stuck_at_once (kind_part k) (never_opened token_opens l))

-- a part that is taken stands before what may not follow it
pub stuck_behind : {A : Type 0} {D : List Token → A → Type 0} {F : List Token → Type 0} {ts rest : List Token} {x : A} → Part D Anything → ((r s : List Token) → Alike r s → F r → F s) → Takes D ts x rest → (F rest → ⊥) → IsStuck D F ts (length rest)
stuck_behind {D = D} {F = F} {rest = rest} {x = x} p h d k = record {
  front = d.front;
  rest = rest;
  whole = d.whole;
  count = refl;
  reach = ([], x, subst (λ z. D z x) (sym (append-nil d.front)) d.derived);
  dead = λ us y behind a t f.
      let same = p.once d.front t.front us behind x y d.derived t.derived t.whole tt tt in
      k (h us rest (alike_sym rest us a) (subst F (sym same.1) f));
}

-- a weaker condition on what follows
pub part_before : {A : Type 0} {D : List Token → A → Type 0} {F : List Token → Type 0} → Part D Anything → ((r s : List Token) → Alike r s → F r → F s) → Part D F
part_before p h = record { once = λ xs ys r s a b d e w f g. p.once xs ys r s a b d e w tt tt; alike = h; some_of = p.some_of }

-- the value of a token that is taken
pub takes_value : {A : Type 0} {P : TokenKind → Type 0} {w : Token → A} {ts rest : List Token} {t : Token} → Takes (OneToken P (λ t. t)) ts t rest → Takes (OneToken P w) ts (w t) rest
takes_value {w = w} t = record { front = t.front; whole = t.whole; derived = record { token = t.derived.token; alone = t.derived.alone; of_kind = t.derived.of_kind; is = ap w t.derived.is } }

-- one and more
abbrev pub OneAndMore : {A : Type 0} → (List Token → A → Type 0) → (List Token → A → Type 0) → List Token → List A → Type 0
OneAndMore First One = Sequence (λ x xs. x ∷ xs) First (Many One)

pub begun_start : {A : Type 0} {First One : List Token → A → Type 0} {F F' : List Token → Type 0} {ts rest : List Token} {x : A} {all : List A} → Takes First ts x rest × F rest → all ≡ x ∷ [] → Begun First One F F' ts all rest
begun_start {rest = rest} {x = x} h e = record { mid = rest; x = x; xs = []; first = h.0; before = h.1; run = started; is = e }

pub begun_next : {A : Type 0} {First One : List Token → A → Type 0} {F F' : List Token → Type 0} {ts mid rest : List Token} {x : A} {all more : List A} → Begun First One F F' ts all mid → Takes One mid x rest × F' rest → more ≡ all ++ x ∷ [] → Begun First One F F' ts more rest
begun_next {x = x} b h e = record { mid = b.mid; x = b.x; xs = b.xs ++ x ∷ []; first = b.first; before = b.before; run = taken b.run h.0 h.1; is = e ∙ ap (λ z. z ++ x ∷ []) b.is }

pub begun_end : {A : Type 0} {First One : List Token → A → Type 0} {F F' : List Token → Type 0} {ts rest : List Token} {all : List A} → Begun First One F F' ts all rest → Takes (OneAndMore First One) ts all rest
begun_end {First = First} {One = One} {ts = ts} {rest = rest} b = subst (λ z. Takes (OneAndMore First One) ts z rest) (sym b.is) (takes_both b.first (run_end b.run))

pub pass_begun : {A : Type 0} {First One : List Token → A → Type 0} {F F' G : List Token → Type 0} {ts rest : List Token} {all : List A} → Part First F → Repeats One F' G → Leads (Many One) G F → Begun First One F F' ts all rest → (G rest → ⊥) → Passes One F' rest (OneAndMore First One) G ts
pass_begun p h l b bare = pass (pass_second p l (b.first, b.before)) (pass_run h b.run bare)

-- what is stuck where anything may follow
pub pass_any : {A : Type 0} {D : List Token → A → Type 0} {F : List Token → Type 0} {ts : List Token} → Passes D Anything ts D F ts
pass_any = record { on = λ n k. record { front = k.front; rest = k.rest; whole = k.whole; count = k.count; reach = k.reach; dead = λ us x behind a t f. k.dead us x behind a t tt } }

-- the whole is stuck where a part is
pub sticks : {A B : Type 0} {D : List Token → A → Type 0} {E : List Token → B → Type 0} {F G : List Token → Type 0} {ts us : List Token} {result : Result (A × Bor (List Token)) PartFault} {fault : PartFault} {n : ℕ} → Passes E G us D F ts → result ≡ Err fault → fault ≡ Stuck n → IsStuck E G us n → Parsed D F ts result
sticks {D = D} {F = F} {ts = ts} {n = n} p e f k = subst (Parsed D F ts) (sym (e ∙ ap (λ z. Err z) f)) (p.on n k)

-- What has been read of a whole, where no part begins anew: what is left is read as its tail.
pub record Partway {A : Type 0} (Tail : List Token → List A → Type 0) (D : List Token → List A → Type 0) (ts : List Token) (before : List A) (rest : List Token) : Type 0 where
  pub stuck : Passes Tail Anything rest D Anything ts
  pub on : (xs : List A) (r : List Token) → Takes Tail rest xs r → Takes D ts (before ++ xs) r

-- a part that ends the whole
pub carries : {A : Type 0} {D E : List Token → A → Type 0} {F G : List Token → Type 0} {ts us : List Token} (result : Result (A × Bor (List Token)) PartFault) → Passes E G us D F ts → ((x : A) (r : List Token) → Takes E us x r × G r → Takes D ts x r × F r) → Parsed E G us result → Parsed D F ts result
carries (Ok f) p h k = h f.0 f.1.now k
carries (Err fault) p h k = fails p refl k

pub opens_more : {A : Type 0} {D : List Token → A → Type 0} {P Q : TokenKind → Type 0} → Opens D P → ((k : TokenKind) → P k → Q k) → Opens D Q
opens_more o h = record { opening = λ xs x d. let f = o.opening xs x d in (f.0, f.1, f.2, h (f.0).kind f.3) }

-- one token with an equal value
pub takes_as : {A : Type 0} {D : List Token → A → Type 0} {ts rest : List Token} {x y : A} → Takes D ts x rest → y ≡ x → Takes D ts y rest
takes_as {D = D} {ts = ts} {rest = rest} t e = subst (λ z. Takes D ts z rest) (sym e) t

-- kinds that don't stand in front
pub bars_alike : (Q : TokenKind → Type 0) (r s : List Token) → Alike r s → ((t : Token) (us : List Token) → r ≡ t ∷ us → Q t.kind → ⊥) → (t : Token) (us : List Token) → s ≡ t ∷ us → Q t.kind → ⊥
bars_alike Q [] [] h l t us e is = absurd (cc)
bars_alike Q (r ∷ rs) (s ∷ ss) h l t us e is =
    let same : t ≡ r = sym (h ∙ cc) in
    l r rs refl (subst (λ (z : Token). Q z.kind) same is)
bars_alike Q [] (s ∷ ss) h l t us e is = absurd h
bars_alike Q (r ∷ rs) [] h l t us e is = absurd h

pub leads_barred : {B : Type 0} {E : List Token → B → Type 0} {G : List Token → Type 0} {P : TokenKind → Type 0} (Q : TokenKind → Type 0) → Opens E P → ((k : TokenKind) → P k → Q k → ⊥) → Leads E G (λ ts. (t : Token) (us : List Token) → ts ≡ t ∷ us → Q t.kind → ⊥)
leads_barred {E = E} {P = P} Q o differs = record {
  on = λ ys y s d g t us e is.
      let f = o.opening ys y d in
      let same : f.0 ≡ t = heads f.0 t (f.1 ++ s) us (sym (ap (λ z. z ++ s) f.2) ∙ e) in
      differs t.kind (subst (λ (z : Token). P z.kind) same f.3) is;
}
  where
    heads : (t u : Token) (ts us : List Token) → t ∷ ts ≡ u ∷ us → t ≡ u
    heads t u ts us e = cc

pub run_start : {A : Type 0} {One : List Token → A → Type 0} {F : List Token → Type 0} {ts : List Token} {xs : List A} → xs ≡ [] → Run One F ts xs ts
run_start {One = One} {F = F} {ts = ts} e = subst (λ z. Run One F ts z ts) (sym e) started

pub run_next : {A : Type 0} {One : List Token → A → Type 0} {F : List Token → Type 0} {ts mid rest : List Token} {xs ys : List A} {x : A} → Run One F ts xs mid → Takes One mid x rest × F rest → ys ≡ xs ++ x ∷ [] → Run One F ts ys rest
run_next {One = One} {F = F} {ts = ts} {rest = rest} r h e = subst (λ z. Run One F ts z rest) (sym e) (taken r h.0 h.1)

-- two kinds
pub differ : {a b : TokenKind} → (a ≡ b → ⊥) → (k : TokenKind) → k ≡ a → k ≡ b → ⊥
differ h k p q = h (sym p ∙ q)

-- the tokens and the value of a token and what stands behind it
pub token_front : {A B C : Type 0} {join : A → B → C} {P : TokenKind → Type 0} {v : Token → A} {E : List Token → B → Type 0} {ts : List Token} {x : C} (d : Sequence join (OneToken P v) E ts x) → ts ≡ d.first.token ∷ d.behind
token_front d = d.whole ∙ ap (λ z. z ++ d.behind) d.first.alone

pub token_value : {A B C : Type 0} {join : A → B → C} {P : TokenKind → Type 0} {v : Token → A} {E : List Token → B → Type 0} {ts : List Token} {x : C} (d : Sequence join (OneToken P v) E ts x) → x ≡ join (v d.first.token) d.b
token_value {join = join} d = d.is ∙ ap (λ z. join z d.b) d.first.is

pub one_token : {A : Type 0} {P : TokenKind → Type 0} {v : Token → A} (t : Token) → P t.kind → OneToken P v (t ∷ []) (v t)
one_token t p = record { token = t; alone = refl; of_kind = p; is = refl }

pub sequence : {A B C : Type 0} {join : A → B → C} {D : List Token → A → Type 0} {E : List Token → B → Type 0} (xs ys : List Token) (a : A) (b : B) → D xs a → E ys b → Sequence join D E (xs ++ ys) (join a b)
sequence xs ys a b d e = record { front = xs; behind = ys; a = a; b = b; whole = refl; first = d; second = e; is = refl }

-- a first token that is taken is of no other part
pub never_taken : {A : Type 0} {D : List Token → A → Type 0} {F : List Token → Type 0} {P Q : TokenKind → Type 0} {ts rest : List Token} {t : Token} → Opens D Q → ((k : TokenKind) → P k → Q k → ⊥) → ts ≡ t ∷ rest → P t.kind → Never D F ts
never_taken {P = P} {t = t} o h e p = never_opened o (λ u us f q. let same : t ≡ u = heads e f in h u.kind (subst (λ (z : Token). P z.kind) same p) q)
  where
    heads : {ts rest us : List Token} {t u : Token} → ts ≡ t ∷ rest → ts ≡ u ∷ us → t ≡ u
    heads e f = cc

-- what stands behind a part is looked at
pub sealed_parsed : {A : Type 0} {D : List Token → A → Type 0} {F : List Token → Type 0} {ts rest : List Token} {x : A} (result : Result (A × Bor (List Token)) PartFault) → Part D Anything → ((r s : List Token) → Alike r s → F r → F s) → Takes D ts x rest → IfOk result (λ f. f.0 ≡ x) → IfOk result (λ f. f.1.now ≡ rest) → IfOk result (λ f. F rest) → IfErr result (λ fault. F rest → ⊥) → IfErr result (λ fault. fault ≡ Stuck (length rest)) → Parsed D F ts result
sealed_parsed {D = D} {F = F} {ts = ts} {x = x} (Ok f) p h t e g k b s = (subst (λ z. Takes D ts f.0 z) (sym g) (takes_as t e), subst F (sym g) k)
sealed_parsed {D = D} {F = F} {ts = ts} (Err fault) p h t e g k b s = subst (λ z. Parsed D F ts (Err z)) (sym s) (stuck_behind p h t b)
