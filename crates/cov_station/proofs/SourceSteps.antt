-- What the steps that read a source show of what they give.
use Rattle.std.proofs.Common.{◌≡◌, ◌≤◌, ℕ, List, length, arith, sym, subst, ap, ap₂, ◌∙◌, length-append}
use Rattle.std.specs.Prelude.{Ok, Err}
use Rattle.lus_causality.specs.declared.ordered.OrderCause.{OrderCause}
use Rattle.lus_causality.specs.declared.ordered.OrderCause.TheVariants as cause
use Rattle.lus_causality.specs.Causality.{IsLeastOnCycle}
use Rattle.lus_causality.specs.Ordered.{IsCause}
use Rattle.lus_syntax.specs.declared.ast.Ast.{Ast}
use Rattle.lus_syntax.specs.declared.ast.Decl.{Decl}
use Rattle.lus_syntax.specs.declared.token.Token.{Token}
use Rattle.lus_syntax.specs.Crowding.{IsCrowd}
use Rattle.lus_syntax.specs.Cuts.{Cuts}
use Rattle.lus_syntax.specs.Grammar.{Derives, DerivesDecl, DerivesDecls, IsTreeOfGrammar, type_decl, const_with_value, const_without_value, node_decl, no_decls, more_decls, program}
use Rattle.lus_types.specs.declared.typed.Typed.{Typed}
use Rattle.op_network.specs.declared.edge.Parts.{Parts}
use Rattle.cov_station.specs.declared.refusal.Refusal.{Refusal}
use Rattle.cov_station.specs.Sources.{IsCausal, IsUncrowded, Lexes, Parses, Source, has_cycle, is_uncrowded, lexes, net, parses, source_of}
use Rattle.cov_station.specs.Steps.{Does, Same, gives, refuses, runs_out}
use Rattle.cov_station.specs.Views.{IsNetworkOf, cycle_refusal, source_in}

pub cut_whole : {text : List ℕ} {tokens : List Token} → Does (Lexes text) Same (Ok tokens) → Cuts text 0 tokens (length text)
cut_whole {text} (gives (lexes cut) same) = subst (λ tokens. Cuts text 0 tokens (length text)) (sym same) cut

pub uncrowded : {tokens : List Token} → Does (IsUncrowded tokens) Same (Ok tt) → (place : ℕ) → IsCrowd tokens place → ⊥
uncrowded (gives (is_uncrowded none) same) = none

pub derived : {text : List ℕ} {tokens : List Token} {tree : Ast} → Does (Parses text tokens) Same (Ok tree) → Derives text tokens tree
derived {text} {tokens} (gives (parses d) same) = subst (λ tree. Derives text tokens tree) (sym same) d

pub grammatical : {text : List ℕ} {tokens : List Token} {tree : Ast}
    → Does (Lexes text) Same (Ok tokens) → Does (Parses text tokens) Same (Ok tree) → IsTreeOfGrammar tree
grammatical {text} {tokens} lexed parsed = record { text = text; tokens = tokens; cut = cut_whole lexed; derived = derived parsed }

-- ---- a declaration has a token

one_token : {text : List ℕ} {ts : List Token} {decl : Decl} → DerivesDecl text ts decl → 1 ≤ length ts
one_token (type_decl keyword name equals enum open_brace close_brace semicolon a b c d e f g h) = omega arith
one_token (const_with_value keyword name equals semicolon a b c d e f) = omega arith
one_token (const_without_value keyword name colon ty semicolon a b c d e) = omega arith
one_token (node_decl keyword name returns begin finish a b c d e f g h i j k) = omega arith

few_decls : {text : List ℕ} {ts : List Token} {decls : List Decl} → DerivesDecls text ts decls → length decls ≤ length ts
few_decls no_decls = omega arith
few_decls (more_decls {ts = ts} {us = us} d ds) =
    let one = one_token d in
    let rest = few_decls ds in
    let both = length-append ts us in
    omega arith

few_in_tree : {text : List ℕ} {tokens : List Token} {tree : Ast} → Derives text tokens tree → length tree.decls ≤ length tokens
few_in_tree (program ds) = few_decls ds

pub few_of : {text : List ℕ} {tokens : List Token} {tree : Ast} {most : ℕ}
    → Does (Parses text tokens) Same (Ok tree) → length tokens ≤ length text → length text ≤ most → length tree.decls ≤ most
few_of d few short = let here = few_in_tree (derived d) in omega arith

-- ---- the source of a typed program

pub typed_source : (typed : Typed) (tree : Ast) (width : ℕ) → typed.ast ≡ tree → typed.width ≡ width → source_in typed ≡ source_of tree width typed.main
typed_source typed tree width e f = ap₂ (λ tree width. source_of tree width typed.main) e f

-- a network with a cycle is refused
pub unordered : (source : Source) (parts : Parts) (reason : OrderCause) (why : Refusal)
    → parts ≡ net source → IsCause parts.edges reason → why ≡ cycle_refusal parts.edges reason → Does (IsCausal source) IsNetworkOf (Err why)
unordered source parts (cause.Cycle e) why same least is =
    subst (λ why. Does (IsCausal source) IsNetworkOf (Err why)) (sym (is ∙ ap (λ (parts : Parts). cycle_refusal parts.edges (cause.Cycle e)) same))
    (refuses (has_cycle e (subst (λ (parts : Parts). IsLeastOnCycle parts.edges e) same least)))
unordered source parts cause.Memory why same least is = subst (λ why. Does (IsCausal source) IsNetworkOf (Err why)) (sym is) runs_out
