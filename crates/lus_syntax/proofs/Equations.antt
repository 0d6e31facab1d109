-- The parts of an item, as parts one behind another.
use Rattle.std.proofs.Common.{◌≡◌, ◌⊎◌, ℕ, true, List, [], ◌∷◌, ◌++◌, refl, sym, ap, ◌∙◌, subst, append_assoc, inl, inr}
use Rattle.lus_syntax.specs.declared.token.Token.{Token}
use Rattle.lus_syntax.specs.declared.token.TokenKind.{TokenKind}
use Rattle.lus_syntax.specs.declared.token.TokenKind.TheVariants.{Name, Word, Sign}
use Rattle.lus_syntax.specs.declared.token.Keyword.TheVariants as word
use Rattle.lus_syntax.specs.declared.token.Symbol.TheVariants as sign
use Rattle.lus_syntax.specs.declared.ast.Expr.{Expr}
use Rattle.lus_syntax.specs.declared.ast.Item.{Item}
use Rattle.lus_syntax.specs.declared.ast.Item.TheVariants.{Assert, Equation}
use Rattle.lus_syntax.specs.declared.ast.Spot.{Spot}
use Rattle.lus_syntax.specs.Operators.{infix_of}
use Rattle.std.specs.Prelude.{None}
use Rattle.lus_syntax.specs.Grammar.{DerivesWhole, DerivesNames, DerivesLeft, bare_left, left_in_parens, DerivesItem, assertion, equation, DerivesItems, no_items, more_items}
use Rattle.lus_syntax.specs.Parts.{Alike, EndsExpr}
use Rattle.lus_syntax.specs.Sections.{Anything, Sequence, Either, one, other, Many, none, more, IsToken, NoComma, Ended, LeftAndEquals, opens_item, NoItem}
use Rattle.lus_syntax.proofs.Readers.{Part, Leads, Opens, Same, Never, Repeats, bars_alike, leads_anywhere, leads_opened, token_opens, kind_part, same_part, same_opens, sequence_part, sequence_opens, either_part, either_opens, apart_opened, opens_more, never_opened}
use Rattle.lus_syntax.proofs.NamesAndGroups.{names_part, names_opens}
use Rattle.lus_syntax.proofs.OneExpression.{whole_once, whole_some}

ends_alike : (r s : List Token) → Alike r s → EndsExpr r → EndsExpr s
ends_alike [] [] h f = tt
ends_alike [] (s ∷ ss) h f = absurd h
ends_alike (r ∷ rs) [] h f = absurd h
ends_alike (r ∷ rs) (s ∷ ss) h f = subst (λ z. EndsExpr (z ∷ ss)) h f

-- expr
pub expr_part : (text : List ℕ) → Part (DerivesWhole text) EndsExpr
expr_part text = record {
  once = λ xs ys r s a b d e w f g. whole_once text d e w f g;
  alike = ends_alike;
  some_of = whole_some text;
}

-- a `;` ends an expression
semicolon_ends : (k : TokenKind) → k ≡ Sign sign.Semicolon → (infix_of k ≡ None) × (k ≡ Sign sign.OpenParen → ⊥)
semicolon_ends k e = (ap infix_of e, λ f. (let g : Sign sign.Semicolon ≡ Sign sign.OpenParen = sym e ∙ f in cc))

pub semicolon_behind : {G : List Token → Type 0} → Leads (IsToken (Sign sign.Semicolon)) G EndsExpr
semicolon_behind = record { on = λ ys y s d g. subst (λ z. EndsExpr (z ++ s)) (sym d.alone) (semicolon_ends (d.token).kind d.of_kind) }

pub ended_part : (text : List ℕ) → Part (Ended text) Anything
ended_part text = sequence_part (expr_part text) (kind_part (Sign sign.Semicolon)) semicolon_behind

-- left '='
abbrev pub pair : List Spot → Token → List Spot × Token
pair left equals = (left, equals)

abbrev pub BareLeft : List ℕ → List Token → List Spot × Token → Type 0
BareLeft text = Sequence pair (DerivesNames text) (IsToken (Sign sign.Equals))

abbrev pub CloseAndEquals : List Token → Token → Type 0
CloseAndEquals = Sequence (λ close_paren equals. equals) (IsToken (Sign sign.CloseParen)) (IsToken (Sign sign.Equals))

abbrev pub InsideLeft : List ℕ → List Token → List Spot × Token → Type 0
InsideLeft text = Sequence pair (DerivesNames text) CloseAndEquals

abbrev pub LeftInParens : List ℕ → List Token → List Spot × Token → Type 0
LeftInParens text = Sequence (λ open_paren left. left) (IsToken (Sign sign.OpenParen)) (InsideLeft text)

abbrev pub LeftParts : List ℕ → List Token → List Spot × Token → Type 0
LeftParts text = Either (BareLeft text) (LeftInParens text)

left_to : (text : List ℕ) (ts : List Token) (x : List Spot × Token) → LeftParts text ts x → LeftAndEquals text ts x
left_to text ts x (one d) = record { front = d.front; behind = d.behind; a = d.a; b = d.b; whole = d.whole; first = bare_left d.first; second = d.second; is = d.is }
left_to text ts x (other d) =
    let o = d.first in
    let n = d.second in
    let c = n.second.first in
    record {
      front = o.token ∷ (n.front ++ c.token ∷ []);
      behind = n.second.behind;
      a = n.a;
      b = n.second.b;
      whole = d.whole ∙ ap (λ z. z ++ d.behind) o.alone ∙ ap (λ z. o.token ∷ z) (n.whole ∙ ap (λ z. n.front ++ z) (n.second.whole ∙ ap (λ z. z ++ n.second.behind) c.alone) ∙ sym (append_assoc n.front (c.token ∷ []) n.second.behind));
      first = left_in_parens o.token c.token o.of_kind n.first c.of_kind;
      second = n.second.second;
      is = d.is ∙ n.is ∙ ap (λ z. pair n.a z) n.second.is;
    }

left_from : (text : List ℕ) (ts : List Token) (x : List Spot × Token) → LeftAndEquals text ts x → LeftParts text ts x
left_from text ts x d = subst (λ z. LeftParts text z x) (sym d.whole) (subst (λ z. LeftParts text (d.front ++ d.behind) z) (sym d.is) (go d.front d.a d.first))
  where
    go : (us : List Token) (left : List Spot) → DerivesLeft text us left → LeftParts text (us ++ d.behind) (pair left d.b)
    go us left (bare_left n) = one (record { front = us; behind = d.behind; a = left; b = d.b; whole = refl; first = n; second = d.second; is = refl })
    go us left (left_in_parens {ts = vs} o c p n q) = other (record {
      front = o ∷ [];
      behind = (vs ++ c ∷ []) ++ d.behind;
      a = o;
      b = pair left d.b;
      whole = refl;
      first = record { token = o; alone = refl; of_kind = p; is = refl };
      second = record { front = vs; behind = c ∷ d.behind; a = left; b = d.b; whole = append_assoc vs (c ∷ []) d.behind; first = n; second = record { front = c ∷ []; behind = d.behind; a = c; b = d.b; whole = refl; first = record { token = c; alone = refl; of_kind = q; is = refl }; second = d.second; is = refl }; is = refl };
      is = refl;
    })

pub left_same : (text : List ℕ) → Same (LeftParts text) (LeftAndEquals text)
left_same text = record { to = left_to text; from = left_from text }

pub equals_leads : {G : List Token → Type 0} → Leads (IsToken (Sign sign.Equals)) G NoComma
equals_leads = leads_opened (Sign sign.Comma) token_opens (λ e. (cc))

pub close_leads : {G : List Token → Type 0} → Leads CloseAndEquals G NoComma
close_leads = leads_opened (Sign sign.Comma) (sequence_opens token_opens) (λ e. (cc))

pub close_and_equals_part : Part CloseAndEquals Anything
close_and_equals_part = sequence_part (kind_part (Sign sign.CloseParen)) (kind_part (Sign sign.Equals)) leads_anywhere

pub inside_part : (text : List ℕ) → Part (InsideLeft text) Anything
inside_part text = sequence_part (names_part text) close_and_equals_part close_leads

name_or_paren : (k : TokenKind) → k ≡ Name → k ≡ Sign sign.OpenParen → ⊥
name_or_paren k p q = cc

pub left_part : (text : List ℕ) → Part (LeftAndEquals text) Anything
left_part text = same_part (left_same text) (either_part (sequence_part (names_part text) (kind_part (Sign sign.Equals)) equals_leads) (sequence_part (kind_part (Sign sign.OpenParen)) (inside_part text) leads_anywhere) (apart_opened (sequence_opens (names_opens text)) (sequence_opens token_opens) name_or_paren))

abbrev pub NameOrParen : TokenKind → Type 0
NameOrParen k = (k ≡ Name) ⊎ (k ≡ Sign sign.OpenParen)

pub left_opens : (text : List ℕ) → Opens (LeftAndEquals text) NameOrParen
left_opens text = same_opens (left_same text) (either_opens (opens_more (sequence_opens (names_opens text)) (λ k p. inl p)) (opens_more (sequence_opens token_opens) (λ k p. inr p)))

-- item
abbrev pub assert_of : Token → Expr → Item
assert_of assert e = Assert assert.start e

abbrev pub equation_of : List Spot × Token → Expr → Item
equation_of left e = Equation (left.1).start left.0 e

abbrev pub Assertion : List ℕ → List Token → Item → Type 0
Assertion text = Sequence assert_of (IsToken (Word word.Assert)) (Ended text)

abbrev pub Equality : List ℕ → List Token → Item → Type 0
Equality text = Sequence equation_of (LeftAndEquals text) (Ended text)

abbrev pub ItemParts : List ℕ → List Token → Item → Type 0
ItemParts text = Either (Assertion text) (Equality text)

item_to : (text : List ℕ) (ts : List Token) (x : Item) → ItemParts text ts x → DerivesItem text ts x
item_to text ts x (one d) =
    let a = d.first in
    let e = d.second in
    subst (λ z. DerivesItem text z x) (sym (d.whole ∙ ap (λ z. z ++ d.behind) a.alone ∙ ap (λ z. a.token ∷ z) (e.whole ∙ ap (λ z. e.front ++ z) e.second.alone)))
    (subst (λ z. DerivesItem text (a.token ∷ (e.front ++ e.second.token ∷ [])) z) (sym (d.is ∙ ap (λ z. assert_of z d.b) a.is ∙ ap (λ z. assert_of a.token z) e.is)) (assertion a.token e.second.token a.of_kind e.first e.second.of_kind))
item_to text ts x (other d) =
    let l = d.first in
    let q = l.second in
    let e = d.second in
    subst (λ z. DerivesItem text z x) (sym (d.whole ∙ ap (λ z. z ++ d.behind) (l.whole ∙ ap (λ z. l.front ++ z) q.alone) ∙ append_assoc l.front (q.token ∷ []) d.behind ∙ ap (λ z. l.front ++ q.token ∷ z) (e.whole ∙ ap (λ z. e.front ++ z) e.second.alone)))
    (subst (λ z. DerivesItem text (l.front ++ q.token ∷ (e.front ++ e.second.token ∷ [])) z) (sym (d.is ∙ ap (λ z. equation_of z d.b) (l.is ∙ ap (λ z. pair l.a z) q.is) ∙ ap (λ z. equation_of (pair l.a q.token) z) e.is)) (equation q.token e.second.token l.first q.of_kind e.first e.second.of_kind))

pub ended_made : (text : List ℕ) {ts : List Token} {e : Expr} (s : Token) → DerivesWhole text ts e → s.kind ≡ Sign sign.Semicolon → Ended text (ts ++ s ∷ []) e
ended_made text {ts} {e} s d p = record { front = ts; behind = s ∷ []; a = e; b = s; whole = refl; first = d; second = record { token = s; alone = refl; of_kind = p; is = refl }; is = refl }

item_from : (text : List ℕ) (ts : List Token) (x : Item) → DerivesItem text ts x → ItemParts text ts x
item_from text ts x (assertion {ts = us} {e = e} a s p d q) = one (record { front = a ∷ []; behind = us ++ s ∷ []; a = a; b = e; whole = refl; first = record { token = a; alone = refl; of_kind = p; is = refl }; second = ended_made text s d q; is = refl })
item_from text ts x (equation {ls = ls} {ts = us} {left = left} {e = e} eq s l p d q) = other (record {
  front = ls ++ eq ∷ [];
  behind = us ++ s ∷ [];
  a = pair left eq;
  b = e;
  whole = sym (append_assoc ls (eq ∷ []) (us ++ s ∷ []));
  first = record { front = ls; behind = eq ∷ []; a = left; b = eq; whole = refl; first = l; second = record { token = eq; alone = refl; of_kind = p; is = refl }; is = refl };
  second = ended_made text s d q;
  is = refl;
})

pub item_same : (text : List ℕ) → Same (ItemParts text) (DerivesItem text)
item_same text = record { to = item_to text; from = item_from text }

pub assert_or_left : (k : TokenKind) → k ≡ Word word.Assert → NameOrParen k → ⊥
assert_or_left k p q = elim q [ inl e ↦ absurd (no_name k p e) | inr e ↦ absurd (no_paren k p e) ]
  where
    no_name : (k : TokenKind) → k ≡ Word word.Assert → k ≡ Name → ⊥
    no_name k p e = cc

    no_paren : (k : TokenKind) → k ≡ Word word.Assert → k ≡ Sign sign.OpenParen → ⊥
    no_paren k p e = cc

pub item_part : (text : List ℕ) → Part (DerivesItem text) Anything
item_part text = same_part (item_same text) (either_part (sequence_part (kind_part (Word word.Assert)) (ended_part text) leads_anywhere) (sequence_part (left_part text) (ended_part text) leads_anywhere) (apart_opened (sequence_opens token_opens) (sequence_opens (left_opens text)) assert_or_left))

-- where an assertion begins, no equation does
pub never_equality : (text : List ℕ) {ts rest : List Token} {t : Token} → ts ≡ t ∷ rest → t.kind ≡ Word word.Assert → Never (Equality text) Anything ts
never_equality text {t = t} e p = never_opened (sequence_opens (left_opens text)) (λ u us f q. let same : t ≡ u = cc in assert_or_left u.kind (sym (ap (λ (z : Token). z.kind) same) ∙ p) q)

-- where names begin, no parenthesis does
pub never_left_bare : (text : List ℕ) {ts rest : List Token} {t : Token} → ts ≡ t ∷ rest → t.kind ≡ Sign sign.OpenParen → Never (BareLeft text) Anything ts
never_left_bare text {t = t} e p = never_opened (sequence_opens (names_opens text)) (λ u us f q. let same : t ≡ u = cc in name_or_paren u.kind q (sym (ap (λ (z : Token). z.kind) same) ∙ p))

opens_as : (k k' : TokenKind) → k ≡ k' → opens_item k' ≡ true → opens_item k ≡ true
opens_as k k' e p = ap opens_item e ∙ p

pub item_opens : (text : List ℕ) → Opens (DerivesItem text) (λ k. opens_item k ≡ true)
item_opens text = same_opens (item_same text) (either_opens (opens_more (sequence_opens token_opens) (λ k p. ap opens_item p)) (opens_more (sequence_opens (left_opens text)) (λ k p. elim p [ inl e ↦ ap opens_item e | inr e ↦ ap opens_item e ])))

-- { item }
items_to : (text : List ℕ) (ts : List Token) (x : List Item) → Many (DerivesItem text) ts x → DerivesItems text ts x
items_to text ts x none = no_items
items_to text ts x (more {us = us} {xs = xs} d m) = more_items d (items_to text us xs m)

items_from : (text : List ℕ) (ts : List Token) (x : List Item) → DerivesItems text ts x → Many (DerivesItem text) ts x
items_from text ts x no_items = none
items_from text ts x (more_items {us = us} {items = xs} d m) = more d (items_from text us xs m)

pub items_same : (text : List ℕ) → Same (Many (DerivesItem text)) (DerivesItems text)
items_same text = record { to = items_to text; from = items_from text }

pub item_after_item : (text : List ℕ) → Repeats (DerivesItem text) Anything NoItem
item_after_item text = record {
  part = item_part text;
  again = λ ys y s d. tt;
  ends = λ s g. tt;
  stops = λ ys y s d g. let f = (item_opens text).opening ys y d in g f.0 (f.1 ++ s) (ap (λ z. z ++ s) f.2) f.3;
  alike = λ r s. bars_alike (λ k. opens_item k ≡ true) r s;
}
