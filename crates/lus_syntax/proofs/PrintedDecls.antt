-- What is printed for declarations derives them again.
use Rattle.std.proofs.Common.{◌≡◌, ℕ, true, List, [], ◌∷◌, ◌++◌, map, refl, sym, ap, ap₂, ◌∙◌, subst, append_assoc}
use Rattle.std.specs.Prelude.{Option, Some, None}
use Rattle.lus_syntax.specs.declared.token.Token.{Token}
use Rattle.lus_syntax.specs.declared.token.TokenKind.TheVariants.{Name, Sign}
use Rattle.lus_syntax.specs.declared.token.Keyword.TheVariants as word
use Rattle.lus_syntax.specs.declared.token.Symbol.TheVariants as sign
use Rattle.lus_syntax.specs.declared.ast.Decl.{Decl}
use Rattle.lus_syntax.specs.declared.ast.Decl.TheVariants.{TypeDecl, ConstDecl, NodeDecl}
use Rattle.lus_syntax.specs.declared.ast.Expr.{Expr}
use Rattle.lus_syntax.specs.declared.ast.Group.{Group}
use Rattle.lus_syntax.specs.declared.ast.Item.{Item}
use Rattle.lus_syntax.specs.declared.ast.Item.TheVariants.{Assert, Equation}
use Rattle.lus_syntax.specs.declared.ast.Spot.{Spot}
use Rattle.lus_syntax.specs.Operators.{loosest}
use Rattle.lus_syntax.specs.Words.{name_or, word_of}
use Rattle.lus_syntax.specs.Grammar.{spelling, spot, is_type, DerivesWhole, DerivesNames, last_name, more_names, DerivesClock, no_clock, clock, DerivesGroup, group, DerivesParams, last_params, last_params_ended, more_params, DerivesInputs, no_inputs, inputs, DerivesOutputs, outputs, DerivesLines, last_line, more_lines, DerivesLocals, no_locals, locals, DerivesLeft, bare_left, left_in_parens, DerivesItem, assertion, equation, DerivesItems, no_items, more_items, ended, unclosed, DerivesType, untyped, typed, DerivesDecl, type_decl, const_with_value, const_without_value, node_decl, DerivesDecls, no_decls, more_decls}
use Rattle.lus_syntax.specs.Printing.{unplaced_expr, unplaced_spot, unplaced_spot_of, unplaced_group, unplaced_item, unplaced_decl}
use Rattle.lus_syntax.specs.Phrases as spec
use Rattle.lus_syntax.specs.Phrases.{Lexeme, phrase, keyword, symbol, blank, joined, line, indent, in_parens, type_name}
use Rattle.lus_syntax.proofs.Spelled.{AreLexemes, all_append, Spells, first, last, parts, IsToken, AreTokens, apart}
use Rattle.lus_syntax.proofs.PrintedTokens.{IsLead, led, by_blank, by_line, by_indent, keyword_token, symbol_token, joined_open, joined_close, joined_comma, joined_colon, joined_semicolon, type_kind, type_token}
use Rattle.lus_syntax.proofs.PrintedExprs.{IsPhrase, lift, expr_phrase}

-- these tokens derive it but for places
pub record Reads {A : Type 0} (D : List ℕ → List Token → A → Type 0) (bare : A → A) (text : List ℕ) (ts : List Token) (x : A) : Type 0 where
  pub read : A
  pub derived : D text ts read
  pub same : bare read ≡ bare x

-- these lexemes are tokens that derive it but for places
pub record Says {A : Type 0} (xs : List Lexeme) (D : List ℕ → List Token → A → Type 0) (bare : A → A) (x : A) : Type 0 where
  pub tokens : AreLexemes xs
  pub reads : (text : List ℕ) (ts : List Token) → Spells text ts xs → Reads D bare text ts x

no_more : (us : List Token) → us ++ [] ≡ us
no_more [] = refl
no_more (u ∷ us) = ap (λ us. u ∷ us) (no_more us)

placed : (text : List ℕ) (t : Token) (s : Spot) → spelling text t ≡ s.text → unplaced_spot (spot text t) ≡ unplaced_spot s
placed text t s e = ap (λ text. record { at = 0; text = text }) e

-- ---- names

more_names_are : {text : List ℕ} {ts : List Token} {ss : List Spot} → DerivesNames text ts ss → spec.more_names ss ≡ symbol joined sign.Comma ∷ spec.names blank ss
more_names_are (last_name t k) = refl
more_names_are (more_names t c k f d) = refl

names_say : {text : List ℕ} {ts : List Token} {ss : List Spot} (lead : List ℕ) → IsLead lead → DerivesNames text ts ss → AreTokens text ts → Says (spec.names lead ss) DerivesNames (map unplaced_spot) ss
names_say {text} lead l (last_name t k) h = record {
  tokens = (led lead (spelling text t) Name l (h.0.kind ∙ ap Some k) tt, tt);
  reads = λ text' ts' s.
      let n = first s in
      let whole : ts' ≡ n.head ∷ [] = n.whole ∙ ap (λ us. n.head ∷ us) (last n.rest) in
      record {
        read = spot text' n.head ∷ [];
        derived = subst (λ us. DerivesNames text' us (spot text' n.head ∷ [])) (sym whole) (last_name n.head n.kind);
        same = ap (λ x. x ∷ []) (placed text' n.head (spot text t) n.spelled);
      };
}
names_say {text} lead l (more_names {ts = us} {names = ss} t c k f d) h =
    let more = names_say blank by_blank d h.1.1 in
    let is = more_names_are d in
    record {
      tokens = (led lead (spelling text t) Name l (h.0.kind ∙ ap Some k) tt, subst AreLexemes (sym is) (joined_comma, more.tokens));
      reads = λ text' ts' s.
          let n = first s in
          let m = first (subst (Spells text' n.tail) is n.rest) in
          let r = more.reads text' m.tail m.rest in
          let whole : ts' ≡ n.head ∷ m.head ∷ m.tail = n.whole ∙ ap (λ us. n.head ∷ us) m.whole in
          record {
            read = spot text' n.head ∷ r.read;
            derived = subst (λ us. DerivesNames text' us (spot text' n.head ∷ r.read)) (sym whole) (more_names n.head m.head n.kind m.kind r.derived);
            same = ap₂ (λ x xs. x ∷ xs) (placed text' n.head (spot text t) n.spelled) r.same;
          };
    }

-- ---- groups

clock_says : {text : List ℕ} {ts : List Token} {c : Option Spot} → DerivesClock text ts c → AreTokens text ts → Says (spec.clocked c) DerivesClock unplaced_spot_of c
clock_says no_clock h = record {
  tokens = tt;
  reads = λ text' ts' s. record { read = None; derived = subst (λ us. DerivesClock text' us None) (sym (last s)) no_clock; same = refl };
}
clock_says {text} (clock w n k f) h = record {
  tokens = (keyword_token blank word.When by_blank, (led blank (spelling text n) Name by_blank (h.1.0.kind ∙ ap Some f) tt, tt));
  reads = λ text' ts' s.
      let w' = first s in
      let n' = first w'.rest in
      let whole : ts' ≡ w'.head ∷ n'.head ∷ [] = w'.whole ∙ ap (λ us. w'.head ∷ us) (n'.whole ∙ ap (λ us. n'.head ∷ us) (last n'.rest)) in
      record {
        read = Some (record { at = w'.head.start; text = spelling text' n'.head });
        derived = subst (λ us. DerivesClock text' us (Some (record { at = w'.head.start; text = spelling text' n'.head }))) (sym whole) (clock w'.head n'.head w'.kind n'.kind);
        same = ap (λ text. Some (record { at = 0; text = text })) n'.spelled;
      };
}

typed_kind : {text : List ℕ} (t : Token) → IsToken text t → is_type t.kind ≡ true → is_type (name_or (word_of (spelling text t))) ≡ true
typed_kind {text} t h k = ap is_type (sym (type_kind (spelling text t) t.kind h.kind k)) ∙ k

group_says : {text : List ℕ} {ts : List Token} {g : Group} (lead : List ℕ) → IsLead lead → DerivesGroup text ts g → AreTokens text ts → Says (spec.group lead g) DerivesGroup unplaced_group g
group_says {text} lead l (group {ns = ns} {cs = cs} {names = ss} {at = c} colon ty d k f e) h =
    let q = apart text ns (colon ∷ ty ∷ cs) h in
    let names = names_say lead l d q.0 in
    let clock' = clock_says e q.1.1.1 in
    let t = q.1.1.0 in
    record {
      tokens = all_append (spec.names lead ss) (symbol joined sign.Colon ∷ type_name (spelling text ty) ∷ spec.clocked c) names.tokens (joined_colon, (type_token (spelling text ty) ty.kind t.kind f, clock'.tokens));
      reads = λ text' ts' s.
          let p = parts text' ts' (spec.names lead ss) (symbol joined sign.Colon ∷ type_name (spelling text ty) ∷ spec.clocked c) s in
          let n' = names.reads text' p.front p.before in
          let colon' = first p.behind in
          let ty' = first colon'.rest in
          let c' = clock'.reads text' ty'.tail ty'.rest in
          let g' : Group = record { names = n'.read; ty = spot text' ty'.head; clock = c'.read } in
          let whole : ts' ≡ p.front ++ colon'.head ∷ ty'.head ∷ ty'.tail = p.whole ∙ ap (λ us. p.front ++ us) (colon'.whole ∙ ap (λ us. colon'.head ∷ us) ty'.whole) in
          record {
            read = g';
            derived = subst (λ us. DerivesGroup text' us g') (sym whole) (group colon'.head ty'.head n'.derived colon'.kind (ap is_type ty'.kind ∙ typed_kind ty t f) c'.derived);
            same = same_group g' (record { names = ss; ty = spot text ty; clock = c }) n'.same (placed text' ty'.head (spot text ty) ty'.spelled) c'.same;
          };
    }
  where
    same_group : (a b : Group) → map unplaced_spot a.names ≡ map unplaced_spot b.names → unplaced_spot a.ty ≡ unplaced_spot b.ty → unplaced_spot_of a.clock ≡ unplaced_spot_of b.clock → unplaced_group a ≡ unplaced_group b
    same_group a b e f g = cc (e, f, g)

more_params_are : {text : List ℕ} {ts : List Token} {gs : List Group} → DerivesParams text ts gs → spec.more_params gs ≡ symbol joined sign.Semicolon ∷ spec.params gs
more_params_are (last_params d) = refl
more_params_are (last_params_ended s d k) = refl
more_params_are (more_params s d k ds) = refl

one_group : {text : List ℕ} {ts : List Token} {g : Group} → DerivesGroup text ts g → AreTokens text ts → Says (spec.params (g ∷ [])) DerivesParams (map unplaced_group) (g ∷ [])
one_group {text} {ts} {g} d h =
    let says = group_says blank by_blank d h in
    record {
      tokens = all_append (spec.group blank g) [] says.tokens tt;
      reads = λ text' ts' s.
          let p = parts text' ts' (spec.group blank g) [] s in
          let r = says.reads text' p.front p.before in
          let whole : ts' ≡ p.front = p.whole ∙ ap (λ us. p.front ++ us) (last p.behind) ∙ no_more p.front in
          record { read = r.read ∷ []; derived = subst (λ us. DerivesParams text' us (r.read ∷ [])) (sym whole) (last_params r.derived); same = ap (λ x. x ∷ []) r.same };
    }

params_say : {text : List ℕ} {ts : List Token} {gs : List Group} → DerivesParams text ts gs → AreTokens text ts → Says (spec.params gs) DerivesParams (map unplaced_group) gs
params_say (last_params d) h = one_group d h
params_say {text} (last_params_ended {ts = ts} s d k) h = one_group d (apart text ts (s ∷ []) h).0
params_say {text} (more_params {ts = ts} {us = us} {g = g} {gs = gs} s d k ds) h =
    let q = apart text ts (s ∷ us) h in
    let says = group_says blank by_blank d q.0 in
    let more = params_say ds q.1.1 in
    let is = more_params_are ds in
    record {
      tokens = all_append (spec.group blank g) (spec.more_params gs) says.tokens (subst AreLexemes (sym is) (joined_semicolon, more.tokens));
      reads = λ text' ts' s'.
          let p = parts text' ts' (spec.group blank g) (spec.more_params gs) s' in
          let r = says.reads text' p.front p.before in
          let c = first (subst (Spells text' p.back) is p.behind) in
          let m = more.reads text' c.tail c.rest in
          let whole : ts' ≡ p.front ++ c.head ∷ c.tail = p.whole ∙ ap (λ us. p.front ++ us) c.whole in
          record {
            read = r.read ∷ m.read;
            derived = subst (λ us. DerivesParams text' us (r.read ∷ m.read)) (sym whole) (more_params c.head r.derived c.kind m.derived);
            same = ap₂ (λ x xs. x ∷ xs) r.same m.same;
          };
    }

inputs_say : {text : List ℕ} {ts : List Token} {gs : List Group} → DerivesInputs text ts gs → AreTokens text ts → Says (in_parens joined (spec.params gs)) DerivesInputs (map unplaced_group) gs
inputs_say (no_inputs o c k f) h = record {
  tokens = (joined_open, (joined_close, tt));
  reads = λ text' ts' s.
      let o' = first s in
      let c' = first o'.rest in
      let whole : ts' ≡ o'.head ∷ c'.head ∷ [] = o'.whole ∙ ap (λ us. o'.head ∷ us) (c'.whole ∙ ap (λ us. c'.head ∷ us) (last c'.rest)) in
      record { read = []; derived = subst (λ us. DerivesInputs text' us []) (sym whole) (no_inputs o'.head c'.head o'.kind c'.kind); same = refl };
}
inputs_say {text} (inputs {ts = ts} {gs = gs} o c k d f) h =
    let says = params_say d (apart text ts (c ∷ []) h.1).0 in
    record {
      tokens = (joined_open, all_append (spec.params gs) (symbol joined sign.CloseParen ∷ []) says.tokens (joined_close, tt));
      reads = λ text' ts' s.
          let o' = first s in
          let p = parts text' o'.tail (spec.params gs) (symbol joined sign.CloseParen ∷ []) o'.rest in
          let r = says.reads text' p.front p.before in
          let c' = first p.behind in
          let whole : ts' ≡ o'.head ∷ (p.front ++ (c'.head ∷ [])) = o'.whole ∙ ap (λ us. o'.head ∷ us) (p.whole ∙ ap (λ us. p.front ++ us) (c'.whole ∙ ap (λ us. c'.head ∷ us) (last c'.rest))) in
          record { read = r.read; derived = subst (λ us. DerivesInputs text' us r.read) (sym whole) (inputs o'.head c'.head o'.kind r.derived c'.kind); same = r.same };
    }

outputs_say : {text : List ℕ} {ts : List Token} {gs : List Group} → DerivesOutputs text ts gs → AreTokens text ts → Says (in_parens blank (spec.params gs)) DerivesOutputs (map unplaced_group) gs
outputs_say {text} (outputs {ts = ts} {gs = gs} o c k d f) h =
    let says = params_say d (apart text ts (c ∷ []) h.1).0 in
    record {
      tokens = (symbol_token blank sign.OpenParen by_blank, all_append (spec.params gs) (symbol joined sign.CloseParen ∷ []) says.tokens (joined_close, tt));
      reads = λ text' ts' s.
          let o' = first s in
          let p = parts text' o'.tail (spec.params gs) (symbol joined sign.CloseParen ∷ []) o'.rest in
          let r = says.reads text' p.front p.before in
          let c' = first p.behind in
          let whole : ts' ≡ o'.head ∷ (p.front ++ (c'.head ∷ [])) = o'.whole ∙ ap (λ us. o'.head ∷ us) (p.whole ∙ ap (λ us. p.front ++ us) (c'.whole ∙ ap (λ us. c'.head ∷ us) (last c'.rest))) in
          record { read = r.read; derived = subst (λ us. DerivesOutputs text' us r.read) (sym whole) (outputs o'.head c'.head o'.kind r.derived c'.kind); same = r.same };
    }

-- ---- local groups

lines_say : {text : List ℕ} {ts : List Token} {gs : List Group} → DerivesLines text ts gs → AreTokens text ts → Says (spec.lines gs) DerivesLines (map unplaced_group) gs
lines_say {text} (last_line {ts = ts} {g = g} c d k) h =
    let says = group_says indent by_indent d (apart text ts (c ∷ []) h).0 in
    record {
      tokens = all_append (spec.group_line g) [] (all_append (spec.group indent g) (symbol joined sign.Semicolon ∷ []) says.tokens (joined_semicolon, tt)) tt;
      reads = λ text' ts' s.
          let p = parts text' ts' (spec.group_line g) [] s in
          let q = parts text' p.front (spec.group indent g) (symbol joined sign.Semicolon ∷ []) p.before in
          let r = says.reads text' q.front q.before in
          let c' = first q.behind in
          let whole : ts' ≡ q.front ++ c'.head ∷ [] = p.whole ∙ ap (λ us. p.front ++ us) (last p.behind) ∙ no_more p.front ∙ q.whole ∙ ap (λ us. q.front ++ us) (c'.whole ∙ ap (λ us. c'.head ∷ us) (last c'.rest)) in
          record { read = r.read ∷ []; derived = subst (λ us. DerivesLines text' us (r.read ∷ [])) (sym whole) (last_line c'.head r.derived c'.kind); same = ap (λ x. x ∷ []) r.same };
    }
lines_say {text} (more_lines {ts = ts} {us = us} {g = g} {gs = gs} c d k ds) h =
    let q = apart text ts (c ∷ us) h in
    let says = group_says indent by_indent d q.0 in
    let more = lines_say ds q.1.1 in
    record {
      tokens = all_append (spec.group_line g) (spec.lines gs) (all_append (spec.group indent g) (symbol joined sign.Semicolon ∷ []) says.tokens (joined_semicolon, tt)) more.tokens;
      reads = λ text' ts' s.
          let p = parts text' ts' (spec.group_line g) (spec.lines gs) s in
          let q = parts text' p.front (spec.group indent g) (symbol joined sign.Semicolon ∷ []) p.before in
          let r = says.reads text' q.front q.before in
          let c' = first q.behind in
          let m = more.reads text' p.back p.behind in
          let front : p.front ≡ q.front ++ c'.head ∷ [] = q.whole ∙ ap (λ us. q.front ++ us) (c'.whole ∙ ap (λ us. c'.head ∷ us) (last c'.rest)) in
          let whole : ts' ≡ q.front ++ c'.head ∷ p.back = p.whole ∙ ap (λ us. us ++ p.back) front ∙ append_assoc q.front (c'.head ∷ []) p.back in
          record {
            read = r.read ∷ m.read;
            derived = subst (λ us. DerivesLines text' us (r.read ∷ m.read)) (sym whole) (more_lines c'.head r.derived c'.kind m.derived);
            same = ap₂ (λ x xs. x ∷ xs) r.same m.same;
          };
    }

locals_are : {text : List ℕ} {ts : List Token} {gs : List Group} → DerivesLines text ts gs → spec.locals gs ≡ keyword line word.Var ∷ spec.lines gs
locals_are (last_line c d k) = refl
locals_are (more_lines c d k ds) = refl

locals_say : {text : List ℕ} {ts : List Token} {gs : List Group} → DerivesLocals text ts gs → AreTokens text ts → Says (spec.locals gs) DerivesLocals (map unplaced_group) gs
locals_say no_locals h = record {
  tokens = tt;
  reads = λ text' ts' s. record { read = []; derived = subst (λ us. DerivesLocals text' us []) (sym (last s)) no_locals; same = refl };
}
locals_say (locals {ts = ts} {gs = gs} v k d) h =
    let says = lines_say d h.1 in
    let is = locals_are d in
    record {
      tokens = subst AreLexemes (sym is) (keyword_token line word.Var by_line, says.tokens);
      reads = λ text' ts' s.
          let v' = first (subst (Spells text' ts') is s) in
          let r = says.reads text' v'.tail v'.rest in
          record { read = r.read; derived = subst (λ us. DerivesLocals text' us r.read) (sym v'.whole) (locals v'.head v'.kind r.derived); same = r.same };
    }

-- ---- equations and assertions

left_says : {text : List ℕ} {ts : List Token} {ss : List Spot} → DerivesLeft text ts ss → AreTokens text ts → Says (spec.names indent ss) DerivesNames (map unplaced_spot) ss
left_says (bare_left d) h = names_say indent by_indent d h
left_says {text} (left_in_parens {ts = ts} o c k d f) h = names_say indent by_indent d (apart text ts (c ∷ []) h.1).0

-- an expression behind a token, and a `;`
record ReadsEnded (text : List ℕ) (ts : List Token) (x : Lexeme) (e : Expr) : Type 0 where
  head : Token
  mid : List Token
  end : Token
  whole : ts ≡ head ∷ (mid ++ end ∷ [])
  kind : head.kind ≡ x.kind
  close : end.kind ≡ Sign sign.Semicolon
  read : Expr
  derived : DerivesWhole text mid read
  same : unplaced_expr read ≡ unplaced_expr e

reads_ended : (text : List ℕ) (ts : List Token) (x : Lexeme) (e : Expr) → IsPhrase (phrase e) e → Spells text ts (spec.ended x e) → ReadsEnded text ts x e
reads_ended text ts x e h s =
    let x' = first s in
    let p = parts text x'.tail (phrase e).lexemes (symbol joined sign.Semicolon ∷ []) x'.rest in
    let r = h.reads text p.front p.before in
    let c = first p.behind in
    record {
      head = x'.head;
      mid = p.front;
      end = c.head;
      whole = x'.whole ∙ ap (λ us. x'.head ∷ us) (p.whole ∙ ap (λ us. p.front ++ us) (c.whole ∙ ap (λ us. c.head ∷ us) (last c.rest)));
      kind = x'.kind;
      close = c.kind;
      read = r.read;
      derived = record { ends_open = (phrase e).is_open; expr = lift (phrase e).rank loosest h.loose r.derived };
      same = r.same;
    }

ended_tokens : (x : Lexeme) (e : Expr) → AreLexemes (x ∷ []) → IsPhrase (phrase e) e → AreLexemes (spec.ended x e)
ended_tokens x e l h = (l.0, all_append (phrase e).lexemes (symbol joined sign.Semicolon ∷ []) h.tokens (joined_semicolon, tt))

item_says : {text : List ℕ} {ts : List Token} {i : Item} → DerivesItem text ts i → AreTokens text ts → Says (spec.item i) DerivesItem unplaced_item i
item_says {text} (assertion {ts = ts} {e = e} a c k d f) h =
    let says = expr_phrase d.expr (apart text ts (c ∷ []) h.1).0 in
    record {
      tokens = ended_tokens (keyword indent word.Assert) e (keyword_token indent word.Assert by_indent, tt) says;
      reads = λ text' ts' s.
          let r = reads_ended text' ts' (keyword indent word.Assert) e says s in
          record {
            read = Assert r.head.start r.read;
            derived = subst (λ us. DerivesItem text' us (Assert r.head.start r.read)) (sym r.whole) (assertion r.head r.end r.kind r.derived r.close);
            same = ap (λ e. Assert 0 e) r.same;
          };
    }
item_says {text} (equation {ls = ls} {ts = ts} {left = ss} {e = e} q c l k d f) h =
    let p = apart text ls (q ∷ (ts ++ c ∷ [])) h in
    let names = left_says l p.0 in
    let says = expr_phrase d.expr (apart text ts (c ∷ []) p.1.1).0 in
    record {
      tokens = all_append (spec.names indent ss) (spec.ended (symbol blank sign.Equals) e) names.tokens (ended_tokens (symbol blank sign.Equals) e (symbol_token blank sign.Equals by_blank, tt) says);
      reads = λ text' ts' s.
          let p' = parts text' ts' (spec.names indent ss) (spec.ended (symbol blank sign.Equals) e) s in
          let n = names.reads text' p'.front p'.before in
          let r = reads_ended text' p'.back (symbol blank sign.Equals) e says p'.behind in
          let i' = Equation r.head.start n.read r.read in
          let whole : ts' ≡ p'.front ++ r.head ∷ (r.mid ++ r.end ∷ []) = p'.whole ∙ ap (λ us. p'.front ++ us) r.whole in
          record {
            read = i';
            derived = subst (λ us. DerivesItem text' us i') (sym whole) (equation r.head r.end (bare_left n.derived) r.kind r.derived r.close);
            same = ap₂ (λ ss e. Equation 0 ss e) n.same r.same;
          };
    }

items_say : {text : List ℕ} {ts : List Token} {is : List Item} → DerivesItems text ts is → AreTokens text ts → Says (spec.items is) DerivesItems (map unplaced_item) is
items_say no_items h = record {
  tokens = tt;
  reads = λ text' ts' s. record { read = []; derived = subst (λ us. DerivesItems text' us []) (sym (last s)) no_items; same = refl };
}
items_say {text} (more_items {ts = ts} {us = us} {item = i} {items = is} d ds) h =
    let q = apart text ts us h in
    let says = item_says d q.0 in
    let more = items_say ds q.1 in
    record {
      tokens = all_append (spec.item i) (spec.items is) says.tokens more.tokens;
      reads = λ text' ts' s.
          let p = parts text' ts' (spec.item i) (spec.items is) s in
          let r = says.reads text' p.front p.before in
          let m = more.reads text' p.back p.behind in
          record {
            read = r.read ∷ m.read;
            derived = subst (λ us. DerivesItems text' us (r.read ∷ m.read)) (sym p.whole) (more_items r.derived m.derived);
            same = ap₂ (λ x xs. x ∷ xs) r.same m.same;
          };
    }

-- ---- declarations

type_says : {text : List ℕ} {ts : List Token} {ty : Option Spot} → DerivesType text ts ty → AreTokens text ts → Says (spec.maybe_typed ty) DerivesType unplaced_spot_of ty
type_says untyped h = record {
  tokens = tt;
  reads = λ text' ts' s. record { read = None; derived = subst (λ us. DerivesType text' us None) (sym (last s)) untyped; same = refl };
}
type_says {text} (typed c t k f) h = record {
  tokens = (joined_colon, (type_token (spelling text t) t.kind h.1.0.kind f, tt));
  reads = λ text' ts' s.
      let c' = first s in
      let t' = first c'.rest in
      let whole : ts' ≡ c'.head ∷ t'.head ∷ [] = c'.whole ∙ ap (λ us. c'.head ∷ us) (t'.whole ∙ ap (λ us. t'.head ∷ us) (last t'.rest)) in
      record {
        read = Some (spot text' t'.head);
        derived = subst (λ us. DerivesType text' us (Some (spot text' t'.head))) (sym whole) (typed c'.head t'.head c'.kind (ap is_type t'.kind ∙ typed_kind t h.1.0 f));
        same = ap Some (placed text' t'.head (spot text t) t'.spelled);
      };
}

same_node : (a b : Spot) (i j o p l m : List Group) (k q : List Item) (x y : ℕ) → unplaced_spot a ≡ unplaced_spot b → map unplaced_group i ≡ map unplaced_group j → map unplaced_group o ≡ map unplaced_group p → map unplaced_group l ≡ map unplaced_group m → map unplaced_item k ≡ map unplaced_item q → unplaced_decl (NodeDecl x a i o l k) ≡ unplaced_decl (NodeDecl y b j p m q)
same_node a b i j o p l m k q x y e f g h t = cc (e, f, g, h, t)

decl_says : {text : List ℕ} {ts : List Token} {d : Decl} → DerivesDecl text ts d → AreTokens text ts → Says (spec.decl d) DerivesDecl unplaced_decl d
decl_says {text} (type_decl {ts = ts} {choices = cs} w n q e o c z kw kn kq ke ko d kc kz) h =
    let p = apart text ts (c ∷ z ∷ []) h.1.1.1.1.1 in
    let names = names_say blank by_blank d p.0 in
    record {
      tokens = (
        keyword_token line word.TypeWord by_line,
        (
          led blank (spelling text n) Name by_blank (h.1.0.kind ∙ ap Some kn) tt,
          (
            symbol_token blank sign.Equals by_blank,
            (
              keyword_token blank word.Enum by_blank,
              (
                symbol_token blank sign.OpenBrace by_blank,
                all_append (spec.names blank cs) (symbol blank sign.CloseBrace ∷ symbol joined sign.Semicolon ∷ []) names.tokens (symbol_token blank sign.CloseBrace by_blank, (joined_semicolon, tt)),
              ),
            ),
          ),
        ),
      );
      reads = λ text' ts' s.
          let w' = first s in
          let n' = first w'.rest in
          let q' = first n'.rest in
          let e' = first q'.rest in
          let o' = first e'.rest in
          let p' = parts text' o'.tail (spec.names blank cs) (symbol blank sign.CloseBrace ∷ symbol joined sign.Semicolon ∷ []) o'.rest in
          let r = names.reads text' p'.front p'.before in
          let c' = first p'.behind in
          let z' = first c'.rest in
          let d' = TypeDecl w'.head.start (spot text' n'.head) r.read in
          let whole : ts' ≡ w'.head ∷ n'.head ∷ q'.head ∷ e'.head ∷ o'.head ∷ (p'.front ++ c'.head ∷ z'.head ∷ []) =
          w'.whole ∙ ap (λ us. w'.head ∷ us) (n'.whole ∙ ap (λ us. n'.head ∷ us) (q'.whole ∙ ap (λ us. q'.head ∷ us) (e'.whole ∙ ap (λ us. e'.head ∷ us) (o'.whole ∙ ap (λ us. o'.head ∷ us) (p'.whole ∙ ap (λ us. p'.front ++ us) (c'.whole ∙ ap (λ us. c'.head ∷ us) (z'.whole ∙ ap (λ us. z'.head ∷ us) (last z'.rest)))))))) in
          record {
            read = d';
            derived = subst (λ us. DerivesDecl text' us d') (sym whole) (type_decl w'.head n'.head q'.head e'.head o'.head c'.head z'.head w'.kind n'.kind q'.kind e'.kind o'.kind r.derived c'.kind z'.kind);
            same = ap₂ (λ n cs. TypeDecl 0 n cs) (placed text' n'.head (spot text n) n'.spelled) r.same;
          };
    }
decl_says {text} (const_with_value {ys = ys} {ts = ts} {ty = ty} {e = e} w n q z kw kn d kq x kz) h =
    let p = apart text ys (q ∷ (ts ++ z ∷ [])) h.1.1 in
    let type' = type_says d p.0 in
    let says = expr_phrase x.expr (apart text ts (z ∷ []) p.1.1).0 in
    record {
      tokens = (
        keyword_token line word.Const by_line,
        (
          led blank (spelling text n) Name by_blank (h.1.0.kind ∙ ap Some kn) tt,
          all_append (spec.maybe_typed ty) (spec.ended (symbol blank sign.Equals) e) type'.tokens (ended_tokens (symbol blank sign.Equals) e (symbol_token blank sign.Equals by_blank, tt) says),
        ),
      );
      reads = λ text' ts' s.
          let w' = first s in
          let n' = first w'.rest in
          let p' = parts text' n'.tail (spec.maybe_typed ty) (spec.ended (symbol blank sign.Equals) e) n'.rest in
          let t' = type'.reads text' p'.front p'.before in
          let r = reads_ended text' p'.back (symbol blank sign.Equals) e says p'.behind in
          let d' = ConstDecl w'.head.start (spot text' n'.head) t'.read (Some r.read) in
          let whole : ts' ≡ w'.head ∷ n'.head ∷ (p'.front ++ r.head ∷ (r.mid ++ r.end ∷ [])) = w'.whole ∙ ap (λ us. w'.head ∷ us) (n'.whole ∙ ap (λ us. n'.head ∷ us) (p'.whole ∙ ap (λ us. p'.front ++ us) r.whole)) in
          record {
            read = d';
            derived = subst (λ us. DerivesDecl text' us d') (sym whole) (const_with_value w'.head n'.head r.head r.end w'.kind n'.kind t'.derived r.kind r.derived r.close);
            same = let a = placed text' n'.head (spot text n) n'.spelled in let b = t'.same in let c = r.same in cc (a, b, c);
          };
    }
decl_says {text} (const_without_value w n c t z kw kn kc kt kz) h = record {
  tokens = (
    keyword_token line word.Const by_line,
    (
      led blank (spelling text n) Name by_blank (h.1.0.kind ∙ ap Some kn) tt,
      (joined_colon, (type_token (spelling text t) t.kind h.1.1.1.0.kind kt, (joined_semicolon, tt))),
    ),
  );
  reads = λ text' ts' s.
      let w' = first s in
      let n' = first w'.rest in
      let c' = first n'.rest in
      let t' = first c'.rest in
      let z' = first t'.rest in
      let d' = ConstDecl w'.head.start (spot text' n'.head) (Some (spot text' t'.head)) None in
      let whole : ts' ≡ w'.head ∷ n'.head ∷ c'.head ∷ t'.head ∷ z'.head ∷ [] =
      w'.whole ∙ ap (λ us. w'.head ∷ us) (n'.whole ∙ ap (λ us. n'.head ∷ us) (c'.whole ∙ ap (λ us. c'.head ∷ us) (t'.whole ∙ ap (λ us. t'.head ∷ us) (z'.whole ∙ ap (λ us. z'.head ∷ us) (last z'.rest))))) in
      record {
        read = d';
        derived = subst (λ us. DerivesDecl text' us d') (sym whole) (const_without_value w'.head n'.head c'.head t'.head z'.head w'.kind n'.kind c'.kind (ap is_type t'.kind ∙ typed_kind t h.1.1.1.0 kt) z'.kind);
        same = ap₂ (λ n t. ConstDecl 0 n (Some t) None) (placed text' n'.head (spot text n) n'.spelled) (placed text' t'.head (spot text t) t'.spelled);
      };
}
decl_says {text} (node_decl {is = is} {os = os} {ms = ms} {ls = ls} {ks = ks} {cs = cs} {inputs' = ins} {outputs' = outs} {locals' = locs} {items = its} w n r b f kw kn di kr dq dm dl kb dk kf dc) h =
    let hi = apart text is (r ∷ (os ++ (ms ++ (ls ++ b ∷ (ks ++ f ∷ cs))))) h.1.1 in
    let ho = apart text os (ms ++ (ls ++ b ∷ (ks ++ f ∷ cs))) hi.1.1 in
    let hm = apart text ms (ls ++ b ∷ (ks ++ f ∷ cs)) ho.1 in
    let hl = apart text ls (b ∷ (ks ++ f ∷ cs)) hm.1 in
    let hk = apart text ks (f ∷ cs) hl.1.1 in
    let si = inputs_say di hi.0 in
    let so = outputs_say dq ho.0 in
    let sl = locals_say dl hl.0 in
    let sk = items_say dk hk.0 in
    let I = in_parens joined (spec.params ins) in
    let O = in_parens blank (spec.params outs) in
    let head = spec.heading (spot text n) ins outs in
    record {
      tokens = all_append head (spec.body locs its) (
        keyword_token line word.Node by_line,
        (
          led blank (spelling text n) Name by_blank (h.1.0.kind ∙ ap Some kn) tt,
          all_append I (keyword blank word.Returns ∷ (O ++ symbol joined sign.Semicolon ∷ [])) si.tokens (
            keyword_token blank word.Returns by_blank,
            all_append O (symbol joined sign.Semicolon ∷ []) so.tokens (joined_semicolon, tt),
          ),
        ),
      )
          (all_append (spec.locals locs) (keyword line word.Let ∷ (spec.items its ++ keyword line word.Tel ∷ [])) sl.tokens (
            keyword_token line word.Let by_line,
            all_append (spec.items its) (keyword line word.Tel ∷ []) sk.tokens (keyword_token line word.Tel by_line, tt),
          ));
      reads = λ text' ts' s.
          let p = parts text' ts' head (spec.body locs its) s in
          let w' = first p.before in
          let n' = first w'.rest in
          let pi = parts text' n'.tail I (keyword blank word.Returns ∷ (O ++ symbol joined sign.Semicolon ∷ [])) n'.rest in
          let i' = si.reads text' pi.front pi.before in
          let r' = first pi.behind in
          let po = parts text' r'.tail O (symbol joined sign.Semicolon ∷ []) r'.rest in
          let o' = so.reads text' po.front po.before in
          let z' = first po.behind in
          let pl = parts text' p.back (spec.locals locs) (keyword line word.Let ∷ (spec.items its ++ keyword line word.Tel ∷ [])) p.behind in
          let l' = sl.reads text' pl.front pl.before in
          let b' = first pl.behind in
          let pk = parts text' b'.tail (spec.items its) (keyword line word.Tel ∷ []) b'.rest in
          let k' = sk.reads text' pk.front pk.before in
          let f' = first pk.behind in
          let d' = NodeDecl w'.head.start (spot text' n'.head) i'.read o'.read l'.read k'.read in
          let back : p.back ≡ pl.front ++ b'.head ∷ (pk.front ++ f'.head ∷ []) = pl.whole ∙ ap (λ us. pl.front ++ us) (b'.whole ∙ ap (λ us. b'.head ∷ us) (pk.whole ∙ ap (λ us. pk.front ++ us) (f'.whole ∙ ap (λ us. f'.head ∷ us) (last f'.rest)))) in
          let outs' : r'.tail ++ p.back ≡ po.front ++ (z'.head ∷ [] ++ p.back) = ap (λ us. us ++ p.back) (po.whole ∙ ap (λ us. po.front ++ us) (z'.whole ∙ ap (λ us. z'.head ∷ us) (last z'.rest))) ∙ append_assoc po.front (z'.head ∷ []) p.back in
          let ins' : n'.tail ++ p.back ≡ pi.front ++ r'.head ∷ (r'.tail ++ p.back) = ap (λ us. us ++ p.back) (pi.whole ∙ ap (λ us. pi.front ++ us) r'.whole) ∙ append_assoc pi.front (r'.head ∷ r'.tail) p.back in
          let front : p.front ≡ w'.head ∷ n'.head ∷ n'.tail = w'.whole ∙ ap (λ us. w'.head ∷ us) n'.whole in
          let whole : ts' ≡ w'.head ∷ n'.head ∷ (pi.front ++ r'.head ∷ (po.front ++ (z'.head ∷ [] ++ (pl.front ++ b'.head ∷ (pk.front ++ f'.head ∷ []))))) =
          p.whole ∙ ap (λ us. us ++ p.back) front ∙ ap (λ us. w'.head ∷ n'.head ∷ us) (ins' ∙ ap (λ us. pi.front ++ r'.head ∷ us) (outs' ∙ ap (λ us. po.front ++ (z'.head ∷ [] ++ us)) back)) in
          record {
            read = d';
            derived = subst (λ us. DerivesDecl text' us d') (sym whole) (node_decl w'.head n'.head r'.head b'.head f'.head w'.kind n'.kind i'.derived r'.kind o'.derived (ended z'.head z'.kind) l'.derived b'.kind k'.derived f'.kind unclosed);
            same = same_node (spot text' n'.head) (spot text n) i'.read ins o'.read outs l'.read locs k'.read its w'.head.start w.start (placed text' n'.head (spot text n) n'.spelled) i'.same o'.same l'.same k'.same;
          };
    }

pub decls_say : {text : List ℕ} {ts : List Token} {ds : List Decl} → DerivesDecls text ts ds → AreTokens text ts → Says (spec.decls ds) DerivesDecls (map unplaced_decl) ds
decls_say no_decls h = record {
  tokens = tt;
  reads = λ text' ts' s. record { read = []; derived = subst (λ us. DerivesDecls text' us []) (sym (last s)) no_decls; same = refl };
}
decls_say {text} (more_decls {ts = ts} {us = us} {decl = d} {decls = ds} x xs) h =
    let q = apart text ts us h in
    let says = decl_says x q.0 in
    let more = decls_say xs q.1 in
    record {
      tokens = all_append (spec.decl d) (spec.decls ds) says.tokens more.tokens;
      reads = λ text' ts' s.
          let p = parts text' ts' (spec.decl d) (spec.decls ds) s in
          let r = says.reads text' p.front p.before in
          let m = more.reads text' p.back p.behind in
          record {
            read = r.read ∷ m.read;
            derived = subst (λ us. DerivesDecls text' us (r.read ∷ m.read)) (sym p.whole) (more_decls r.derived m.derived);
            same = ap₂ (λ x xs. x ∷ xs) r.same m.same;
          };
    }
