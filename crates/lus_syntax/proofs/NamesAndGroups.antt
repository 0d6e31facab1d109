-- The parts of a group, as parts one behind another.
use Rattle.std.proofs.Common.{◌≡◌, ℕ, List, [], ◌∷◌, ◌++◌, refl, sym, ap, ◌∙◌, subst, false, length}
use Rattle.std.specs.Prelude.{Option, Some, None}
use Rattle.lus_syntax.specs.declared.token.Token.{Token}
use Rattle.lus_syntax.specs.declared.token.TokenKind.TheVariants.{Name, Word, Sign}
use Rattle.lus_syntax.specs.declared.token.Keyword.TheVariants as word
use Rattle.lus_syntax.specs.declared.token.Symbol.TheVariants as sign
use Rattle.lus_syntax.specs.declared.ast.Group.{Group}
use Rattle.lus_syntax.specs.declared.ast.Spot.{Spot}
use Rattle.lus_syntax.specs.Grammar.{spot, is_type, DerivesNames, last_name, more_names, DerivesClock, no_clock, clock, DerivesGroup, group}
use Rattle.lus_syntax.specs.Parts.{Alike, IsStuck}
use Rattle.lus_syntax.specs.Sections.{Anything, Nothing, Sequence, Either, one, other, Many, none, more, IsToken, IsName, IsType, NoComma, NoWhen}
use Rattle.lus_syntax.proofs.Readers.{Part, Leads, Opens, Same, Apart, Repeats, lacks_alike, leads_anywhere, leads_opened, token_part, token_opens, kind_part, same_part, same_opens, sequence_part, sequence_opens, either_part, nothing_part, many_part, part_before, stuck_at_once, never_opened}

pub name_part : (text : List ℕ) → Part (IsName text) Anything
name_part text = token_part (record { kind = Name; start = 0; «end» = 0 }) refl

pub type_part : (text : List ℕ) → Part (IsType text) Anything
type_part text = token_part (record { kind = Name; start = 0; «end» = 0 }) refl

-- ',' NAME
abbrev pub Next : List ℕ → List Token → Spot → Type 0
Next text = Sequence (λ comma name. name) (IsToken (Sign sign.Comma)) (IsName text)

-- NAME { ',' NAME }
abbrev pub AllNames : List ℕ → List Token → List Spot → Type 0
AllNames text = Sequence (λ name names. name ∷ names) (IsName text) (Many (Next text))

pub comma_alike : (r s : List Token) → Alike r s → NoComma r → NoComma s
comma_alike r s = lacks_alike (Sign sign.Comma) r s

pub when_alike : (r s : List Token) → Alike r s → NoWhen r → NoWhen s
when_alike r s = lacks_alike (Word word.When) r s

pub next_part : (text : List ℕ) → Part (Next text) Anything
next_part text = sequence_part (kind_part (Sign sign.Comma)) (name_part text) leads_anywhere

pub next_opens : (text : List ℕ) → Opens (Next text) (λ k. k ≡ Sign sign.Comma)
next_opens text = sequence_opens token_opens

pub nexts : (text : List ℕ) → Repeats (Next text) Anything NoComma
nexts text = record {
  part = next_part text;
  again = λ ys y s d. tt;
  ends = λ s g. tt;
  stops = λ ys y s d g. let f = (next_opens text).opening ys y d in g f.0 (f.1 ++ s) (ap (λ z. z ++ s) f.2) f.3;
  alike = comma_alike;
}

names_to : (text : List ℕ) (ts : List Token) (x : List Spot) → AllNames text ts x → DerivesNames text ts x
names_to text ts x d =
    let n = d.first in
    subst (λ z. DerivesNames text z x) (sym (d.whole ∙ ap (λ z. z ++ d.behind) n.alone))
    (subst (λ z. DerivesNames text (n.token ∷ d.behind) z) (sym (d.is ∙ ap (λ z. z ∷ d.b) n.is)) (go n.token n.of_kind d.second))
  where
    go : {us : List Token} {ys : List Spot} (t : Token) → t.kind ≡ Name → Many (Next text) us ys → DerivesNames text (t ∷ us) (spot text t ∷ ys)
    go t p none = last_name t p
    go t p (more {us = us} {x = y} {xs = ys} e m) =
        let c = e.first in
        let n = e.second in
        subst (λ z. DerivesNames text (t ∷ (z ++ us)) (spot text t ∷ y ∷ ys)) (sym (e.whole ∙ ap (λ z. z ++ e.behind) c.alone ∙ ap (λ z. c.token ∷ z) n.alone))
        (subst (λ z. DerivesNames text (t ∷ c.token ∷ n.token ∷ us) (spot text t ∷ z ∷ ys)) (sym (e.is ∙ n.is)) (more_names t c.token p c.of_kind (go n.token n.of_kind m)))

names_from : (text : List ℕ) (ts : List Token) (x : List Spot) → DerivesNames text ts x → AllNames text ts x
names_from text ts x (last_name t p) = record { front = t ∷ []; behind = []; a = spot text t; b = []; whole = refl; first = record { token = t; alone = refl; of_kind = p; is = refl }; second = none; is = refl }
names_from text ts x (more_names {ts = us} {names = names} t comma p c d) =
    let h = names_from text us names d in
    let n : us ≡ h.first.token ∷ h.behind = h.whole ∙ ap (λ z. z ++ h.behind) h.first.alone in
    record {
      front = t ∷ [];
      behind = comma ∷ us;
      a = spot text t;
      b = names;
      whole = refl;
      first = record { token = t; alone = refl; of_kind = p; is = refl };
      second = subst (λ z. Many (Next text) (comma ∷ z) names) (sym n)
          (subst (λ z. Many (Next text) (comma ∷ h.first.token ∷ h.behind) z) (sym h.is)
          (more {ts = comma ∷ h.first.token ∷ []}
          (record { front = comma ∷ []; behind = h.first.token ∷ []; a = comma; b = h.a; whole = refl; first = record { token = comma; alone = refl; of_kind = c; is = refl }; second = record { token = h.first.token; alone = refl; of_kind = h.first.of_kind; is = h.first.is }; is = refl })
          h.second));
      is = refl;
    }

pub names_same : (text : List ℕ) → Same (AllNames text) (DerivesNames text)
names_same text = record { to = names_to text; from = names_from text }

pub names_part : (text : List ℕ) → Part (DerivesNames text) NoComma
names_part text = same_part (names_same text) (sequence_part (name_part text) (many_part (nexts text)) leads_anywhere)

pub names_opens : (text : List ℕ) → Opens (DerivesNames text) (λ k. k ≡ Name)
names_opens text = same_opens (names_same text) (sequence_opens token_opens)

-- 'when' NAME
abbrev pub clock_at : Token → Spot → Option Spot
clock_at when name = Some (record { at = when.start; text = name.text })

abbrev pub Clocked : List ℕ → List Token → Option Spot → Type 0
Clocked text = Sequence clock_at (IsToken (Word word.When)) (IsName text)

abbrev pub MayClock : List ℕ → List Token → Option Spot → Type 0
MayClock text = Either (Nothing None) (Clocked text)

clock_to : (text : List ℕ) (ts : List Token) (x : Option Spot) → MayClock text ts x → DerivesClock text ts x
clock_to text ts x (one d) = subst (λ z. DerivesClock text z x) (sym d.empty) (subst (λ z. DerivesClock text [] z) (sym d.is) no_clock)
clock_to text ts x (other d) =
    let w = d.first in
    let n = d.second in
    subst (λ z. DerivesClock text z x) (sym (d.whole ∙ ap (λ z. z ++ d.behind) w.alone ∙ ap (λ z. w.token ∷ z) n.alone))
    (subst (λ z. DerivesClock text (w.token ∷ n.token ∷ []) z) (sym (d.is ∙ ap (λ z. clock_at z d.b) w.is ∙ ap (λ z. clock_at w.token z) n.is)) (clock w.token n.token w.of_kind n.of_kind))

clock_from : (text : List ℕ) (ts : List Token) (x : Option Spot) → DerivesClock text ts x → MayClock text ts x
clock_from text ts x no_clock = one (record { empty = refl; is = refl })
clock_from text ts x (clock when name p q) = other (record { front = when ∷ []; behind = name ∷ []; a = when; b = spot text name; whole = refl; first = record { token = when; alone = refl; of_kind = p; is = refl }; second = record { token = name; alone = refl; of_kind = q; is = refl }; is = refl })

pub clock_same : (text : List ℕ) → Same (MayClock text) (DerivesClock text)
clock_same text = record { to = clock_to text; from = clock_from text }

pub clocked_part : (text : List ℕ) → Part (Clocked text) Anything
clocked_part text = sequence_part (kind_part (Word word.When)) (name_part text) leads_anywhere

pub clocked_opens : (text : List ℕ) → Opens (Clocked text) (λ k. k ≡ Word word.When)
clocked_opens text = sequence_opens token_opens

pub clock_part : (text : List ℕ) → Part (DerivesClock text) NoWhen
clock_part text = same_part (clock_same text) (either_part (nothing_part when_alike) (part_before (clocked_part text) when_alike) apart)
  where
    apart : Apart {A = Option Spot} {B = Option Spot} (Nothing None) (Clocked text) NoWhen
    apart = record { apart = λ xs ys r s a b d e w f g. let h = (clocked_opens text).opening ys b e in f h.0 (h.1 ++ s) (sym (ap (λ z. z ++ r) d.empty) ∙ w ∙ ap (λ z. z ++ s) h.2) h.3 }

-- NAME { ',' NAME } ':' ty [ 'when' NAME ]
abbrev pub Ending : List ℕ → List Token → Spot × Option Spot → Type 0
Ending text = Sequence (λ ty at. (ty, at)) (IsType text) (DerivesClock text)

abbrev pub Typed : List ℕ → List Token → Spot × Option Spot → Type 0
Typed text = Sequence (λ colon ending. ending) (IsToken (Sign sign.Colon)) (Ending text)

abbrev pub AGroup : List ℕ → List Token → Group → Type 0
AGroup text = Sequence (λ names ending. record { names = names; ty = ending.0; clock = ending.1 }) (DerivesNames text) (Typed text)

group_to : (text : List ℕ) (ts : List Token) (x : Group) → AGroup text ts x → DerivesGroup text ts x
group_to text ts x d =
    let colon = d.second.first in
    let ending = d.second.second in
    let ty = ending.first in
    subst (λ z. DerivesGroup text z x) (sym (d.whole ∙ ap (λ z. d.front ++ z) (d.second.whole ∙ ap (λ z. z ++ d.second.behind) colon.alone ∙ ap (λ z. colon.token ∷ z) (ending.whole ∙ ap (λ z. z ++ ending.behind) ty.alone))))
    (subst (λ z. DerivesGroup text (d.front ++ colon.token ∷ ty.token ∷ ending.behind) z)
    (sym (d.is ∙ ap (λ (z : Spot × Option Spot). record { names = d.a; ty = z.0; clock = z.1 }) (d.second.is ∙ ending.is ∙ ap (λ z. (z, ending.b)) ty.is)))
    (group colon.token ty.token d.first colon.of_kind ty.of_kind ending.second))

group_from : (text : List ℕ) (ts : List Token) (x : Group) → DerivesGroup text ts x → AGroup text ts x
group_from text ts x (group {ns = ns} {cs = cs} {names = names} {at = at} colon ty n c p k) = record {
  front = ns;
  behind = colon ∷ ty ∷ cs;
  a = names;
  b = (spot text ty, at);
  whole = refl;
  first = n;
  second = record {
    front = colon ∷ [];
    behind = ty ∷ cs;
    a = colon;
    b = (spot text ty, at);
    whole = refl;
    first = record { token = colon; alone = refl; of_kind = c; is = refl };
    second = record { front = ty ∷ []; behind = cs; a = spot text ty; b = at; whole = refl; first = record { token = ty; alone = refl; of_kind = p; is = refl }; second = k; is = refl };
    is = refl;
  };
  is = refl;
}

pub group_same : (text : List ℕ) → Same (AGroup text) (DerivesGroup text)
group_same text = record { to = group_to text; from = group_from text }

pub ending_part : (text : List ℕ) → Part (Ending text) NoWhen
ending_part text = sequence_part (type_part text) (clock_part text) leads_anywhere

pub typed_part : (text : List ℕ) → Part (Typed text) NoWhen
typed_part text = sequence_part (kind_part (Sign sign.Colon)) (ending_part text) leads_anywhere

pub typed_leads : (text : List ℕ) {G : List Token → Type 0} → Leads (Typed text) G NoComma
typed_leads text = leads_opened (Sign sign.Comma) (sequence_opens token_opens) (λ e. (cc))

pub group_part : (text : List ℕ) → Part (DerivesGroup text) NoWhen
group_part text = same_part (group_same text) (sequence_part (names_part text) (typed_part text) (typed_leads text))

pub group_opens : (text : List ℕ) → Opens (DerivesGroup text) (λ k. k ≡ Name)
group_opens text = same_opens (group_same text) (sequence_opens (names_opens text))

pub no_type : (text : List ℕ) {ts us : List Token} {t : Token} → ts ≡ t ∷ us → is_type t.kind ≡ false → IsStuck (IsType text) Anything ts (length ts)
no_type text {ts} {us} {t} e is = stuck_at_once (type_part text) (never_opened token_opens (λ u vs f p. let same : t ≡ u = cc in let both : is_type u.kind ≡ false = subst (λ (z : Token). is_type z.kind ≡ false) same is in cc))

pub no_token : (text : List ℕ) {ts : List Token} → ts ≡ [] → IsStuck (IsType text) Anything ts 0
no_token text {ts} e = subst (λ z. IsStuck (IsType text) Anything ts z) (ap length e) (stuck_at_once (type_part text) (never_opened token_opens (λ t us f p. absurd (cc))))
