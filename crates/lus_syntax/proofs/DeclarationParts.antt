-- The parts of a declaration, as parts one behind another.
use Rattle.std.proofs.Common.{◌≡◌, ◌⊎◌, ℕ, true, List, [], ◌∷◌, ◌++◌, refl, sym, ap, ◌∙◌, subst, append_assoc, inl, inr}
use Rattle.std.specs.Prelude.{Option, Some, None}
use Rattle.lus_syntax.specs.declared.token.Token.{Token}
use Rattle.lus_syntax.specs.declared.token.TokenKind.{TokenKind}
use Rattle.lus_syntax.specs.declared.token.TokenKind.TheVariants.{Name, Word, Sign}
use Rattle.lus_syntax.specs.declared.token.Keyword.TheVariants as word
use Rattle.lus_syntax.specs.declared.token.Symbol.TheVariants as sign
use Rattle.lus_syntax.specs.declared.ast.Decl.{Decl}
use Rattle.lus_syntax.specs.declared.ast.Decl.TheVariants.{TypeDecl, ConstDecl, NodeDecl}
use Rattle.lus_syntax.specs.declared.ast.Expr.{Expr}
use Rattle.lus_syntax.specs.declared.ast.Group.{Group}
use Rattle.lus_syntax.specs.declared.ast.Item.{Item}
use Rattle.lus_syntax.specs.declared.ast.Spot.{Spot}
use Rattle.lus_syntax.specs.declared.grammar.declarations.Body.{Body}
use Rattle.lus_syntax.specs.declared.grammar.declarations.Constant.{Constant}
use Rattle.lus_syntax.specs.declared.grammar.declarations.Heading.{Heading}
use Rattle.lus_syntax.specs.Grammar.{spot, is_type, DerivesNames, DerivesInputs, DerivesOutputs, DerivesLocals, DerivesItems, MayEnd, unended, ended, MayClose, unclosed, by_semicolon, by_dot, untyped, typed, DerivesDecl, type_decl, const_with_value, const_without_value, node_decl, DerivesDecls, no_decls, more_decls}
use Rattle.lus_syntax.specs.Parts.{Alike}
use Rattle.lus_syntax.specs.Sections.{Anything, OneToken, Nothing, Sequence, Either, one, other, Many, none, more, IsToken, IsName, IsType, NoComma, NoItem, LocalsAndLet, Opening, Ended, opens_item, EndsDecl, Choices, TypeParts, MayValue, ConstTail, ConstParts, IsCloser, Closing, Signature, Definition, NodeParts, AtEnd}
use Rattle.lus_syntax.proofs.Readers.{Part, Leads, Opens, Same, Apart, Repeats, lacks_alike, leads_anywhere, leads_opened, leads_barred, token_part, token_opens, kind_part, same_part, same_opens, sequence_part, sequence_opens, either_part, either_opens, apart_opened, nothing_part, part_before, many_part, opens_more, differ, token_front, token_value, one_token, sequence}
use Rattle.lus_syntax.proofs.NamesAndGroups.{name_part, type_part, names_part}
use Rattle.lus_syntax.proofs.Params.{inputs_part, outputs_part, opening_part}
use Rattle.lus_syntax.proofs.Equations.{ended_part, ended_made, items_same, item_after_item}

-- '}' ';'
abbrev pub BraceEnd : List Token → Token → Type 0
BraceEnd = Sequence (λ close_brace semicolon. semicolon) (IsToken (Sign sign.CloseBrace)) (IsToken (Sign sign.Semicolon))

abbrev pub NamesAndBrace : List ℕ → List Token → List Spot → Type 0
NamesAndBrace text = Sequence (λ names end'. names) (DerivesNames text) BraceEnd

abbrev pub FromBrace : List ℕ → List Token → List Spot → Type 0
FromBrace text = Sequence (λ open_brace x. x) (IsToken (Sign sign.OpenBrace)) (NamesAndBrace text)

abbrev pub FromEnum : List ℕ → List Token → List Spot → Type 0
FromEnum text = Sequence (λ enum x. x) (IsToken (Word word.Enum)) (FromBrace text)

pub brace_end_part : Part BraceEnd Anything
brace_end_part = sequence_part (kind_part (Sign sign.CloseBrace)) (kind_part (Sign sign.Semicolon)) leads_anywhere

pub brace_leads : {G : List Token → Type 0} → Leads BraceEnd G NoComma
brace_leads = leads_opened (Sign sign.Comma) (sequence_opens token_opens) (λ e. (cc))

pub names_brace_part : (text : List ℕ) → Part (NamesAndBrace text) Anything
names_brace_part text = sequence_part (names_part text) brace_end_part brace_leads

pub from_brace_part : (text : List ℕ) → Part (FromBrace text) Anything
from_brace_part text = sequence_part (kind_part (Sign sign.OpenBrace)) (names_brace_part text) leads_anywhere

pub from_enum_part : (text : List ℕ) → Part (FromEnum text) Anything
from_enum_part text = sequence_part (kind_part (Word word.Enum)) (from_brace_part text) leads_anywhere

pub choices_part : (text : List ℕ) → Part (Choices text) Anything
choices_part text = sequence_part (kind_part (Sign sign.Equals)) (from_enum_part text) leads_anywhere

-- a type
abbrev pub NamedChoices : List ℕ → List Token → Spot × List Spot → Type 0
NamedChoices text = Sequence (λ name choices. (name, choices)) (IsName text) (Choices text)

pub named_choices_part : (text : List ℕ) → Part (NamedChoices text) Anything
named_choices_part text = sequence_part (name_part text) (choices_part text) leads_anywhere

pub type_parts_part : (text : List ℕ) → Part (TypeParts text) Anything
type_parts_part text = sequence_part (kind_part (Word word.TypeWord)) (named_choices_part text) leads_anywhere

-- a constant
pub equals_value_part : {A : Type 0} {join : Token → Expr → A} (text : List ℕ) → Part (Sequence join (IsToken (Sign sign.Equals)) (Ended text)) Anything
equals_value_part text = sequence_part (kind_part (Sign sign.Equals)) (ended_part text) leads_anywhere

abbrev pub NoValue : List Token → Option Expr → Type 0
NoValue = OneToken (λ k. k ≡ Sign sign.Semicolon) (λ t. None)

pub no_value_part : Part NoValue Anything
no_value_part = token_part (record { kind = Sign sign.Semicolon; start = 0; «end» = 0 }) refl

pub may_value_part : (text : List ℕ) → Part (MayValue text) Anything
may_value_part text = either_part (equals_value_part text) no_value_part (apart_opened (sequence_opens token_opens) token_opens (differ (λ e. (cc))))

abbrev pub TypeAndMayValue : List ℕ → List Token → Constant → Type 0
TypeAndMayValue text = Sequence (λ ty value. record { ty = Some ty; value = value }) (IsType text) (MayValue text)

pub type_and_may_value_part : (text : List ℕ) → Part (TypeAndMayValue text) Anything
type_and_may_value_part text = sequence_part (type_part text) (may_value_part text) leads_anywhere

pub const_tail_part : (text : List ℕ) → Part (ConstTail text) Anything
const_tail_part text = either_part (equals_value_part text) (sequence_part (kind_part (Sign sign.Colon)) (type_and_may_value_part text) leads_anywhere) (apart_opened (sequence_opens token_opens) (sequence_opens token_opens) (differ (λ e. (cc))))

abbrev pub NamedConstant : List ℕ → List Token → Spot × Constant → Type 0
NamedConstant text = Sequence (λ name constant. (name, constant)) (IsName text) (ConstTail text)

pub named_constant_part : (text : List ℕ) → Part (NamedConstant text) Anything
named_constant_part text = sequence_part (name_part text) (const_tail_part text) leads_anywhere

pub const_parts_part : (text : List ℕ) → Part (ConstParts text) Anything
const_parts_part text = sequence_part (kind_part (Word word.Const)) (named_constant_part text) leads_anywhere

-- a node's signature
abbrev pub ReturnsAndOutputs : List ℕ → List Token → List Group → Type 0
ReturnsAndOutputs text = Sequence (λ returns outputs. outputs) (IsToken (Word word.Returns)) (DerivesOutputs text)

abbrev pub InputsAndOutputs : List ℕ → List Token → List Group × List Group → Type 0
InputsAndOutputs text = Sequence (λ inputs outputs. (inputs, outputs)) (DerivesInputs text) (ReturnsAndOutputs text)

abbrev pub NamedInputs : List ℕ → List Token → Spot × (List Group × List Group) → Type 0
NamedInputs text = Sequence (λ name x. (name, x)) (IsName text) (InputsAndOutputs text)

pub returns_part : (text : List ℕ) → Part (ReturnsAndOutputs text) Anything
returns_part text = sequence_part (kind_part (Word word.Returns)) (outputs_part text) leads_anywhere

pub inputs_outputs_part : (text : List ℕ) → Part (InputsAndOutputs text) Anything
inputs_outputs_part text = sequence_part (inputs_part text) (returns_part text) leads_anywhere

pub named_inputs_part : (text : List ℕ) → Part (NamedInputs text) Anything
named_inputs_part text = sequence_part (name_part text) (inputs_outputs_part text) leads_anywhere

pub signature_part : (text : List ℕ) → Part (Signature text) Anything
signature_part text = sequence_part (kind_part (Word word.Node)) (named_inputs_part text) leads_anywhere

-- the end of a node
pub ends_decl_alike : (r s : List Token) → Alike r s → EndsDecl r → EndsDecl s
ends_decl_alike r s h f = (lacks_alike (Sign sign.Semicolon) r s h f.0, lacks_alike (Sign sign.Dot) r s h f.1)

pub no_closer : {ts us : List Token} (t : Token) → EndsDecl ts → ts ≡ t ∷ us → IsCloser t.kind → ⊥
no_closer {us = us} t f e p = elim p [ inl q ↦ f.0 t us e q | inr q ↦ f.1 t us e q ]

abbrev pub Closer : List Token → Option Token → Type 0
Closer = OneToken IsCloser (λ t. Some t)

pub closer_part : Part Closer Anything
closer_part = token_part (record { kind = Sign sign.Dot; start = 0; «end» = 0 }) (inr refl)

pub closing_part : Part Closing EndsDecl
closing_part = either_part (nothing_part ends_decl_alike) (part_before closer_part ends_decl_alike) apart
  where
    apart : Apart {A = Option Token} {B = Option Token} (Nothing None) Closer EndsDecl
    apart = record { apart = λ xs ys r s a b d e w f g. no_closer e.token f (sym (ap (λ z. z ++ r) d.empty) ∙ w ∙ ap (λ z. z ++ s) e.alone) e.of_kind }

abbrev pub TelAndClosing : List Token → Option Token → Type 0
TelAndClosing = Sequence (λ finish closer. closer) (IsToken (Word word.Tel)) Closing

pub tel_part : Part TelAndClosing EndsDecl
tel_part = sequence_part (kind_part (Word word.Tel)) closing_part leads_anywhere

pub tel_leads : {G : List Token → Type 0} → Leads TelAndClosing G NoItem
tel_leads = leads_barred (λ k. opens_item k ≡ true) (sequence_opens token_opens) (λ k p q. (no_tel k p q))
  where
    no_tel : (k : TokenKind) → k ≡ Word word.Tel → opens_item k ≡ true → ⊥
    no_tel k p q = let f : opens_item (Word word.Tel) ≡ true = sym (ap opens_item p) ∙ q in cc

abbrev pub ItemsAndTel : List ℕ → List Token → List Item → Type 0
ItemsAndTel text = Sequence (λ items closer. items) (DerivesItems text) TelAndClosing

pub items_part : (text : List ℕ) → Part (DerivesItems text) NoItem
items_part text = same_part (items_same text) (many_part (item_after_item text))

pub items_and_tel_part : (text : List ℕ) → Part (ItemsAndTel text) EndsDecl
items_and_tel_part text = sequence_part (items_part text) tel_part tel_leads

pub definition_part : (text : List ℕ) → Part (Definition text) EndsDecl
definition_part text = sequence_part (opening_part text) (items_and_tel_part text) leads_anywhere

pub node_parts_part : (text : List ℕ) → Part (NodeParts text) EndsDecl
node_parts_part text = sequence_part (signature_part text) (definition_part text) leads_anywhere

-- a declaration
abbrev pub ConstOrNode : List ℕ → List Token → Decl → Type 0
ConstOrNode text = Either (ConstParts text) (NodeParts text)

abbrev pub DeclParts : List ℕ → List Token → Decl → Type 0
DeclParts text = Either (TypeParts text) (ConstOrNode text)

type_to : (text : List ℕ) (ts : List Token) (x : Decl) → TypeParts text ts x → DerivesDecl text ts x
type_to text ts x d =
    let n = d.second in
    let c = n.second in
    let e = c.second in
    let o = e.second in
    let m = o.second in
    let b = m.second in
    let choices : n.b ≡ m.a = c.is ∙ e.is ∙ o.is ∙ m.is in
    let tail : m.behind ≡ b.first.token ∷ b.second.token ∷ [] = token_front b ∙ ap (λ z. b.first.token ∷ z) b.second.alone in
    subst (λ z. DerivesDecl text z x)
    (sym (token_front d ∙ ap (λ z. d.first.token ∷ z) (token_front n ∙ ap (λ z. n.first.token ∷ z) (token_front c ∙ ap (λ z. c.first.token ∷ z) (token_front e ∙ ap (λ z. e.first.token ∷ z) (token_front o ∙ ap (λ z. o.first.token ∷ z) (m.whole ∙ ap (λ z. m.front ++ z) tail)))))))
    (subst (λ z. DerivesDecl text (d.first.token ∷ n.first.token ∷ c.first.token ∷ e.first.token ∷ o.first.token ∷ (m.front ++ b.first.token ∷ b.second.token ∷ [])) z)
    (sym (token_value d ∙ ap (λ (z : Spot × List Spot). TypeDecl (d.first.token).start z.0 z.1) (token_value n ∙ ap (λ z. (spot text n.first.token, z)) choices)))
    (type_decl d.first.token n.first.token c.first.token e.first.token o.first.token b.first.token b.second.token d.first.of_kind n.first.of_kind c.first.of_kind e.first.of_kind o.first.of_kind m.first b.first.of_kind b.second.of_kind))

-- an expression and its `;` behind an `=`
ended_tokens : (text : List ℕ) {ts : List Token} {e : Expr} (d : Ended text ts e) → ts ≡ d.front ++ d.second.token ∷ []
ended_tokens text d = d.whole ∙ ap (λ z. d.front ++ z) d.second.alone

const_to : (text : List ℕ) (ts : List Token) (x : Decl) → ConstParts text ts x → DerivesDecl text ts x
const_to text ts x d =
    let n = d.second in
    subst (λ z. DerivesDecl text z x) (sym (token_front d ∙ ap (λ z. d.first.token ∷ z) (token_front n)))
    (subst (λ z. DerivesDecl text (d.first.token ∷ n.first.token ∷ n.behind) z)
    (sym (token_value d ∙ ap (λ (z : Spot × Constant). ConstDecl (d.first.token).start z.0 (z.1).ty (z.1).value) (token_value n)))
    (go d.first.token n.first.token d.first.of_kind n.first.of_kind n.behind n.b n.second))
  where
    typed_to : (k n c t : Token) → k.kind ≡ Word word.Const → n.kind ≡ Name → c.kind ≡ Sign sign.Colon → is_type t.kind ≡ true → (us : List Token) (v : Option Expr) → MayValue text us v → DerivesDecl text (k ∷ n ∷ c ∷ t ∷ us) (ConstDecl k.start (spot text n) (Some (spot text t)) v)
    typed_to k n c t p q r s us v (one e) =
        subst (λ z. DerivesDecl text (k ∷ n ∷ c ∷ t ∷ z) (ConstDecl k.start (spot text n) (Some (spot text t)) v)) (sym (token_front e ∙ ap (λ z. e.first.token ∷ z) (ended_tokens text e.second)))
        (subst (λ z. DerivesDecl text (k ∷ n ∷ c ∷ t ∷ e.first.token ∷ (e.second.front ++ e.second.second.token ∷ [])) (ConstDecl k.start (spot text n) (Some (spot text t)) z)) (sym (e.is ∙ ap (λ z. Some z) e.second.is))
        (const_with_value k n e.first.token e.second.second.token p q (typed c t r s) e.first.of_kind e.second.first e.second.second.of_kind))
    typed_to k n c t p q r s us v (other e) =
        subst (λ z. DerivesDecl text (k ∷ n ∷ c ∷ t ∷ z) (ConstDecl k.start (spot text n) (Some (spot text t)) v)) (sym e.alone)
        (subst (λ z. DerivesDecl text (k ∷ n ∷ c ∷ t ∷ e.token ∷ []) (ConstDecl k.start (spot text n) (Some (spot text t)) z)) (sym e.is) (const_without_value k n c t e.token p q r s e.of_kind))

    go : (k n : Token) → k.kind ≡ Word word.Const → n.kind ≡ Name → (us : List Token) (v : Constant) → ConstTail text us v → DerivesDecl text (k ∷ n ∷ us) (ConstDecl k.start (spot text n) v.ty v.value)
    go k n p q us v (one e) =
        subst (λ z. DerivesDecl text (k ∷ n ∷ z) (ConstDecl k.start (spot text n) v.ty v.value)) (sym (token_front e ∙ ap (λ z. e.first.token ∷ z) (ended_tokens text e.second)))
        (subst (λ (z : Constant). DerivesDecl text (k ∷ n ∷ e.first.token ∷ (e.second.front ++ e.second.second.token ∷ [])) (ConstDecl k.start (spot text n) z.ty z.value)) (sym (e.is ∙ ap (λ z. record { ty = None; value = Some z }) e.second.is))
        (const_with_value k n e.first.token e.second.second.token p q untyped e.first.of_kind e.second.first e.second.second.of_kind))
    go k n p q us v (other e) =
        let t = e.second in
        subst (λ z. DerivesDecl text (k ∷ n ∷ z) (ConstDecl k.start (spot text n) v.ty v.value)) (sym (token_front e ∙ ap (λ z. e.first.token ∷ z) (token_front t)))
        (subst (λ (z : Constant). DerivesDecl text (k ∷ n ∷ e.first.token ∷ t.first.token ∷ t.behind) (ConstDecl k.start (spot text n) z.ty z.value)) (sym (e.is ∙ token_value t))
        (typed_to k n e.first.token t.first.token p q e.first.of_kind t.first.of_kind t.behind t.b t.second))

pub record IsOpening (text : List ℕ) (ts : List Token) (gs : List Group) : Type 0 where
  pub ms : List Token
  pub ls : List Token
  pub begin : Token
  pub whole : ts ≡ ms ++ (ls ++ begin ∷ [])
  pub may_end : MayEnd ms
  pub locals : DerivesLocals text ls gs
  pub is_let : begin.kind ≡ Word word.Let

opening_to : (text : List ℕ) (ts : List Token) (gs : List Group) → Opening text ts gs → IsOpening text ts gs
opening_to text ts gs (one d) =
    let l = d.second in
    record { ms = d.first.token ∷ []; ls = l.front; begin = l.second.token; whole = token_front d ∙ ap (λ z. d.first.token ∷ z) (l.whole ∙ ap (λ z. l.front ++ z) l.second.alone); may_end = ended d.first.token d.first.of_kind; locals = subst (λ z. DerivesLocals text l.front z) (sym (d.is ∙ l.is)) l.first; is_let = l.second.of_kind }
opening_to text ts gs (other l) = record { ms = []; ls = l.front; begin = l.second.token; whole = l.whole ∙ ap (λ z. l.front ++ z) l.second.alone; may_end = unended; locals = subst (λ z. DerivesLocals text l.front z) (sym l.is) l.first; is_let = l.second.of_kind }

let_made : (text : List ℕ) {ls : List Token} {gs : List Group} (begin : Token) → DerivesLocals text ls gs → begin.kind ≡ Word word.Let → LocalsAndLet text (ls ++ begin ∷ []) gs
let_made text begin l p = sequence _ _ _ _ l (one_token begin p)

opening_from : (text : List ℕ) {ms ls : List Token} {gs : List Group} (begin : Token) → MayEnd ms → DerivesLocals text ls gs → begin.kind ≡ Word word.Let → Opening text (ms ++ (ls ++ begin ∷ [])) gs
opening_from text begin unended l p = other (let_made text begin l p)
opening_from text begin (ended t q) l p = one (sequence _ _ _ _ (one_token t q) (let_made text begin l p))

closing_to : (ts : List Token) (x : Option Token) → Closing ts x → MayClose ts
closing_to ts x (one d) = subst (λ z. MayClose z) (sym d.empty) unclosed
closing_to ts x (other d) = subst (λ z. MayClose z) (sym d.alone) (elim d.of_kind [ inl q ↦ by_semicolon d.token q | inr q ↦ by_dot d.token q ])

closing_from : (ts : List Token) → MayClose ts → (x : Option Token) × Closing ts x
closing_from ts unclosed = (None, one (record { empty = refl; is = refl }))
closing_from ts (by_semicolon t q) = (Some t, other (one_token t (inl q)))
closing_from ts (by_dot t q) = (Some t, other (one_token t (inr q)))

node_to : (text : List ℕ) (ts : List Token) (x : Decl) → NodeParts text ts x → DerivesDecl text ts x
node_to text ts x d =
    let h = d.first in
    let n = h.second in
    let i = n.second in
    let r = i.second in
    let b = d.second in
    let o = opening_to text b.front b.a b.first in
    let k = b.second in
    let f = k.second in
    let front : d.front ≡ h.first.token ∷ n.first.token ∷ (i.front ++ r.first.token ∷ r.behind) = token_front h ∙ ap (λ z. h.first.token ∷ z) (token_front n ∙ ap (λ z. n.first.token ∷ z) (i.whole ∙ ap (λ z. i.front ++ z) (token_front r))) in
    let inner : b.behind ≡ k.front ++ f.first.token ∷ f.behind = k.whole ∙ ap (λ z. k.front ++ z) (token_front f) in
    let behind : d.behind ≡ o.ms ++ (o.ls ++ o.begin ∷ (k.front ++ f.first.token ∷ f.behind)) =
    b.whole ∙ ap (λ z. z ++ b.behind) o.whole ∙ append_assoc o.ms (o.ls ++ o.begin ∷ []) b.behind ∙ ap (λ z. o.ms ++ z) (append_assoc o.ls (o.begin ∷ []) b.behind ∙ ap (λ z. o.ls ++ o.begin ∷ z) inner) in
    let heading : d.a ≡ record { at = (h.first.token).start; name = spot text n.first.token; inputs = i.a; outputs = r.b } =
    token_value h ∙ ap (λ (z : Spot × (List Group × List Group)). record { at = (h.first.token).start; name = z.0; inputs = (z.1).0; outputs = (z.1).1 }) (token_value n ∙ ap (λ (z : List Group × List Group). (spot text n.first.token, z)) (i.is ∙ ap (λ z. (i.a, z)) r.is)) in
    let body : d.b ≡ record { locals = b.a; items = k.a } = b.is ∙ ap (λ z. record { locals = b.a; items = z }) k.is in
    subst (λ z. DerivesDecl text z x)
    (sym (d.whole ∙ ap (λ z. z ++ d.behind) front ∙ ap (λ z. h.first.token ∷ n.first.token ∷ z) (append_assoc i.front (r.first.token ∷ r.behind) d.behind ∙ ap (λ z. i.front ++ r.first.token ∷ (r.behind ++ z)) behind)))
    (subst (λ z. DerivesDecl text (h.first.token ∷ n.first.token ∷ (i.front ++ r.first.token ∷ (r.behind ++ (o.ms ++ (o.ls ++ o.begin ∷ (k.front ++ f.first.token ∷ f.behind)))))) z)
    (sym (d.is ∙ ap (λ (z : Heading). NodeDecl z.at z.name z.inputs z.outputs (d.b).locals (d.b).items) heading ∙ ap (λ (z : Body). NodeDecl (h.first.token).start (spot text n.first.token) i.a r.b z.locals z.items) body))
    (node_decl h.first.token n.first.token r.first.token o.begin f.first.token h.first.of_kind n.first.of_kind i.first r.first.of_kind r.second o.may_end o.locals o.is_let k.first f.first.of_kind (closing_to f.behind f.b f.second)))

decl_to : (text : List ℕ) (ts : List Token) (x : Decl) → DeclParts text ts x → DerivesDecl text ts x
decl_to text ts x (one d) = type_to text ts x d
decl_to text ts x (other (one d)) = const_to text ts x d
decl_to text ts x (other (other d)) = node_to text ts x d

decl_from : (text : List ℕ) (ts : List Token) (x : Decl) → DerivesDecl text ts x → DeclParts text ts x
decl_from text ts x (type_decl k n e m o c s pk pn pe pm po d pc ps) =
    one (sequence _ _ _ _ (one_token k pk) (sequence _ _ _ _ (one_token n pn) (sequence _ _ _ _ (one_token e pe) (sequence _ _ _ _ (one_token m pm) (sequence _ _ _ _ (one_token o po) (sequence _ _ _ _ d (sequence _ _ _ _ (one_token c pc) (one_token s ps))))))))
decl_from text ts x (const_with_value k n e s pk pn untyped pe d ps) =
    other (one (sequence _ _ _ _ (one_token k pk) (sequence _ _ _ _ (one_token n pn) (one (sequence _ _ _ _ (one_token e pe) (ended_made text s d ps))))))
decl_from text ts x (const_with_value k n e s pk pn (typed c t pc pt) pe d ps) =
    other (one (sequence _ _ _ _ (one_token k pk) (sequence _ _ _ _ (one_token n pn) (other (sequence _ _ _ _ (one_token c pc) (sequence _ _ _ _ (one_token t pt) (one (sequence _ _ _ _ (one_token e pe) (ended_made text s d ps)))))))))
decl_from text ts x (const_without_value k n c t s pk pn pc pt ps) =
    other (one (sequence _ _ _ _ (one_token k pk) (sequence _ _ _ _ (one_token n pn) (other (sequence _ _ _ _ (one_token c pc) (sequence _ _ _ _ (one_token t pt) (other (one_token s ps))))))))
decl_from text ts x (node_decl {is = is} {os = os} {ms = ms} {ls = ls} {ks = ks} {cs = cs} k n r b f pk pn i pr o e l pb m pf c) =
    let whole : k ∷ n ∷ (is ++ r ∷ (os ++ (ms ++ (ls ++ b ∷ (ks ++ f ∷ cs))))) ≡ (k ∷ n ∷ (is ++ r ∷ os)) ++ ((ms ++ (ls ++ b ∷ [])) ++ (ks ++ f ∷ cs)) =
    ap (λ z. k ∷ n ∷ z) (ap (λ z. is ++ r ∷ (os ++ z)) (ap (λ z. ms ++ z) (sym (append_assoc ls (b ∷ []) (ks ++ f ∷ cs))) ∙ sym (append_assoc ms (ls ++ b ∷ []) (ks ++ f ∷ cs))) ∙ sym (append_assoc is (r ∷ os) ((ms ++ (ls ++ b ∷ [])) ++ (ks ++ f ∷ cs)))) in
    let q = closing_from cs c in
    other (other (subst (λ z. NodeParts text z x) (sym whole)
    (sequence _ _ _ _ (sequence _ _ _ _ (one_token k pk) (sequence _ _ _ _ (one_token n pn) (sequence _ _ _ _ i (sequence _ _ _ _ (one_token r pr) o)))) (sequence _ _ _ _ (opening_from text b e l pb) (sequence _ _ _ _ m (sequence _ _ _ _ (one_token f pf) q.1))))))

pub decl_same : (text : List ℕ) → Same (DeclParts text) (DerivesDecl text)
decl_same text = record { to = decl_to text; from = decl_from text }

pub const_or_node_part : (text : List ℕ) → Part (ConstOrNode text) EndsDecl
const_or_node_part text = either_part (part_before (const_parts_part text) ends_decl_alike) (node_parts_part text) (apart_opened (sequence_opens token_opens) (sequence_opens (sequence_opens token_opens)) (differ (λ e. (cc))))

abbrev pub IsConstOrNode : TokenKind → Type 0
IsConstOrNode k = (k ≡ Word word.Const) ⊎ (k ≡ Word word.Node)

pub const_or_node_opens : (text : List ℕ) → Opens (ConstOrNode text) IsConstOrNode
const_or_node_opens text = either_opens (opens_more (sequence_opens token_opens) (λ k p. inl p)) (opens_more (sequence_opens (sequence_opens token_opens)) (λ k p. inr p))

pub not_type : (k : TokenKind) → k ≡ Word word.TypeWord → IsConstOrNode k → ⊥
not_type k p q = elim q [ inl e ↦ differ (λ f. (let g : Word word.TypeWord ≡ Word word.Const = f in cc)) k p e | inr e ↦ differ (λ f. (let g : Word word.TypeWord ≡ Word word.Node = f in cc)) k p e ]

pub decl_part : (text : List ℕ) → Part (DerivesDecl text) EndsDecl
decl_part text = same_part (decl_same text) (either_part (part_before (type_parts_part text) ends_decl_alike) (const_or_node_part text) (apart_opened (sequence_opens token_opens) (const_or_node_opens text) not_type))

abbrev pub OpensDecl : TokenKind → Type 0
OpensDecl k = (k ≡ Word word.TypeWord) ⊎ IsConstOrNode k

pub decl_opens : (text : List ℕ) → Opens (DerivesDecl text) OpensDecl
decl_opens text = same_opens (decl_same text) (either_opens (opens_more (sequence_opens token_opens) (λ k p. inl p)) (opens_more (const_or_node_opens text) (λ k p. inr p)))

-- { decl }
decls_to : (text : List ℕ) (ts : List Token) (x : List Decl) → Many (DerivesDecl text) ts x → DerivesDecls text ts x
decls_to text ts x none = no_decls
decls_to text ts x (more {us = us} {xs = xs} d m) = more_decls d (decls_to text us xs m)

decls_from : (text : List ℕ) (ts : List Token) (x : List Decl) → DerivesDecls text ts x → Many (DerivesDecl text) ts x
decls_from text ts x no_decls = none
decls_from text ts x (more_decls {us = us} {decls = xs} d m) = more d (decls_from text us xs m)

pub decls_same : (text : List ℕ) → Same (Many (DerivesDecl text)) (DerivesDecls text)
decls_same text = record { to = decls_to text; from = decls_from text }

opens_no_end : (k : TokenKind) → OpensDecl k → IsCloser k → ⊥
opens_no_end k p q = elim p [ inl e ↦ elim q [ inl f ↦ sem k e f | inr f ↦ dot k e f ] | inr r ↦ elim r [ inl e ↦ elim q [ inl f ↦ sem' k e f | inr f ↦ dot' k e f ] | inr e ↦ elim q [ inl f ↦ sem'' k e f | inr f ↦ dot'' k e f ] ] ]
  where
    sem : (k : TokenKind) → k ≡ Word word.TypeWord → k ≡ Sign sign.Semicolon → ⊥
    sem k e f = cc

    dot : (k : TokenKind) → k ≡ Word word.TypeWord → k ≡ Sign sign.Dot → ⊥
    dot k e f = cc

    sem' : (k : TokenKind) → k ≡ Word word.Const → k ≡ Sign sign.Semicolon → ⊥
    sem' k e f = cc

    dot' : (k : TokenKind) → k ≡ Word word.Const → k ≡ Sign sign.Dot → ⊥
    dot' k e f = cc

    sem'' : (k : TokenKind) → k ≡ Word word.Node → k ≡ Sign sign.Semicolon → ⊥
    sem'' k e f = cc

    dot'' : (k : TokenKind) → k ≡ Word word.Node → k ≡ Sign sign.Dot → ⊥
    dot'' k e f = cc

opened_ends : (text : List ℕ) (ys : List Token) (y : Decl) (s : List Token) → DerivesDecl text ys y → EndsDecl (ys ++ s)
opened_ends text ys y s d = (
  (leads_barred {E = DerivesDecl text} {G = Anything} (λ k. k ≡ Sign sign.Semicolon) (decl_opens text) (λ k p q. opens_no_end k p (inl q))).on ys y s d tt,
  (leads_barred {E = DerivesDecl text} {G = Anything} (λ k. k ≡ Sign sign.Dot) (decl_opens text) (λ k p q. opens_no_end k p (inr q))).on ys y s d tt,
)

at_end : (ts : List Token) → AtEnd ts → EndsDecl ts
at_end ts e = (λ t us f p. (cc), λ t us f p. (cc))

pub end_alike : (r s : List Token) → Alike r s → AtEnd r → AtEnd s
end_alike [] [] h e = refl
end_alike [] (s ∷ ss) h e = absurd h
end_alike (r ∷ rs) s h e = absurd (cc)

pub decl_after_decl : (text : List ℕ) → Repeats (DerivesDecl text) EndsDecl AtEnd
decl_after_decl text = record {
  part = decl_part text;
  again = opened_ends text;
  ends = at_end;
  stops = λ ys y s d g. let f = (decl_opens text).opening ys y d in let e : f.0 ∷ (f.1 ++ s) ≡ [] = sym (ap (λ z. z ++ s) f.2) ∙ g in cc;
  alike = end_alike;
}

pub decls_part : (text : List ℕ) → Part (DerivesDecls text) AtEnd
decls_part text = same_part (decls_same text) (many_part (decl_after_decl text))

pub not_at_end : {ts us : List Token} {t : Token} → ts ≡ t ∷ us → AtEnd ts → ⊥
not_at_end e f = cc
