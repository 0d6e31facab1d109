-- Each step has one answer.
use Rattle.std.proofs.Common.{◌≡◌, ℕ, ◌<◌, ◌≤◌, ◌∙◌, List, length, arith, refl, sym, subst, ap, ap₂, inl, inr}
use Rattle.std.proofs.lemmas.Bool.{cases_order}
use Rattle.std.specs.Prelude.{◌⊎◌, Option, Some, None, Result, Ok, Err}
use Rattle.cnf_form.specs.Lines.{Text}
use Rattle.cnf_form.specs.Shape.{Shape}
use Rattle.cov_base.specs.Files.{Files}
use Rattle.dep_paths.specs.declared.limits.TheConstants.{MOST_PATHS}
use Rattle.dep_paths.specs.declared.path.Condition.{Condition}
use Rattle.dep_paths.specs.declared.path.Obligation.{Obligation}
use Rattle.dep_paths.specs.declared.path.Path.{Path}
use Rattle.dep_paths.specs.Duties.{AsksTooMuch, IsPlanOf, Planned, duties}
use Rattle.dep_paths.specs.Paths.{IsListOf, MoreThan}
use Rattle.lus_causality.specs.Causality.{IsLeastOnCycle}
use Rattle.lus_syntax.specs.declared.ast.Ast.{Ast}
use Rattle.lus_syntax.specs.declared.ast.Decl.{Decl}
use Rattle.lus_syntax.specs.declared.tokens.lexer.LexFault.{LexFault}
use Rattle.lus_syntax.specs.declared.tokens.lexer.LexFault.TheVariants as lexing
use Rattle.lus_syntax.specs.declared.token.Token.{Token}
use Rattle.lus_syntax.specs.Cuts.{Cuts, Fails}
use Rattle.lus_types.specs.Names.{Name}
use Rattle.lus_types.specs.Typing.{IsLastNode, IsMain}
use Rattle.op_network.specs.declared.edge.Edge.{Edge}
use Rattle.op_network.specs.declared.edge.EdgeId.{EdgeId}
use Rattle.op_network.specs.declared.edge.Parts.{Parts}
use Rattle.proof_check.specs.declared.step.ProofStep.{ProofStep}
use Rattle.cov_station.specs.declared.refusal.Refusal.{Refusal}
use Rattle.cov_station.specs.declared.refusal.Refusal.TheVariants as why
use Rattle.cov_station.specs.Files.{Reads, reads_whole, lacks_file, fails_to_read, is_too_long}
use Rattle.cov_station.specs.Formulas.{HoldsFormula, ReadsFormula, has_many_variables, holds_formula, is_no_formula}
use Rattle.cov_station.specs.Laws.{Agree}
use Rattle.cov_station.specs.Plans.{MakesPlan, has_many_obligations, has_many_paths, makes_plan}
use Rattle.cov_station.specs.Proofs.{AcceptsProof, HoldsProof, ReadsProof, accepts_proof, holds_proof, is_no_proof, refuses_step}
use Rattle.cov_station.specs.Sources.{Compiles, Expands, HasTypes, IsCausal, IsUncrowded, Lexes, Parses, ReadsSource, Source, byte_of, derives_none, expands, has_bad_byte, has_cycle, has_many_edges, has_open_comment, has_types, has_wide_literal, is_badly_typed, is_causal, is_crowded, is_too_deep, is_uncrowded, lexes, name_of, net, parses, source_of}
use Rattle.cov_station.specs.Suites.{HoldsTests, ReadsSuite, has_many_instants, has_many_tests, holds_tests, is_no_suite}
use Rattle.cov_station.specs.Words.{Asks, asks, asks_nothing, asks_too_early, is_done_yet}
use Rattle.cov_station.proofs.Determined.{IsDetermined, then_determined}
use Rattle.cov_station.proofs.Below.{never_both, no_cut_at_fault, one_cut, list_is_longer, one_lex_fault, one_list, one_place, one_tree, one_type_fault, tree_or_place}

-- ---- files

one_file : {file : Option (List ℕ)} {bytes bytes' : List ℕ} → file ≡ Some bytes → file ≡ Some bytes' → bytes ≡ bytes'
one_file held held' = cc

no_file : {A : Type 0} {file : Option (List ℕ)} {bytes : List ℕ} → file ≡ Some bytes → file ≡ None → A
no_file held lacks = absurd (cc)

over_within : {A : Type 0} {most : ℕ} (bytes bytes' : List ℕ) → bytes ≡ bytes' → length bytes ≤ most → most < length bytes' → A
over_within {most = most} bytes bytes' e few many = absurd (let same : length bytes ≡ length bytes' = ap length e in omega arith)

reads_once : (told : Files) (name : List ℕ) (most : ℕ) → IsDetermined (Reads (Some told) name most)
reads_once told name most a b (reads_whole bytes held few) (reads_whole bytes' held' few') = inr (inr (ap Ok (one_file held held')))
reads_once told name most a b (reads_whole bytes held few) (lacks_file lacks) = no_file held lacks
reads_once told name most a b (reads_whole bytes held few) fails_to_read = inr (inl tt)
reads_once told name most a b (reads_whole bytes held few) (is_too_long bytes' held' many) = over_within bytes bytes' (one_file held held') few many
reads_once told name most a b (lacks_file lacks) (reads_whole bytes held few) = no_file held lacks
reads_once told name most a b (lacks_file lacks) (lacks_file lacks') = inr (inr refl)
reads_once told name most a b (lacks_file lacks) fails_to_read = inr (inl tt)
reads_once told name most a b (lacks_file lacks) (is_too_long bytes held many) = no_file held lacks
reads_once told name most a b fails_to_read t = inl tt
reads_once told name most a b (is_too_long bytes held many) (reads_whole bytes' held' few) = over_within bytes' bytes (one_file held' held) few many
reads_once told name most a b (is_too_long bytes held many) (lacks_file lacks) = no_file held lacks
reads_once told name most a b (is_too_long bytes held many) fails_to_read = inr (inl tt)
reads_once told name most a b (is_too_long bytes held many) (is_too_long bytes' held' many') = inr (inr refl)

-- ---- tokens and trees

-- what the text fails of, and the refusal of it
refusal_of : LexFault → Refusal
refusal_of (lexing.BadByte at) = why.BadByte at
refusal_of (lexing.OpenComment at) = why.OpenComment at
refusal_of (lexing.WideLiteral at) = why.WideLiteral at
refusal_of lexing.Memory = why.Memory

-- the refusals of a text by its faults
record Faulted (text : List ℕ) (answer : Result (List Token) Refusal) : Type 0 where
  found : LexFault
  fails : Fails text found
  other : found ≡ lexing.Memory → ⊥
  is : answer ≡ Err (refusal_of found)

one_refusal : (text : List ℕ) (a b : Result (List Token) Refusal) → Faulted text a → Faulted text b → Agree a b
unfolding refusal_of
one_refusal text a b f g =
    inr (inr (f.is ∙ (ap (λ found. Err (refusal_of found)) (one_lex_fault text f.found g.found f.other g.other f.fails g.fails) ∙ sym g.is)))

lexed_or_faulted : {A : Type 0} (text : List ℕ) (tokens : List Token) (b : Result (List Token) Refusal) → Cuts text 0 tokens (length text) → Faulted text b → A
lexed_or_faulted text tokens b cut f = absurd (f.other (no_cut_at_fault text f.found tokens f.fails cut))

bad_byte : (text : List ℕ) (at : ℕ) → Fails text (lexing.BadByte at) → Faulted text (Err (why.BadByte at))
unfolding refusal_of
bad_byte text at h = record { found = lexing.BadByte at; fails = h; other = λ e. absurd (cc); is = refl }

open_comment : (text : List ℕ) (at : ℕ) → Fails text (lexing.OpenComment at) → Faulted text (Err (why.OpenComment at))
unfolding refusal_of
open_comment text at h = record { found = lexing.OpenComment at; fails = h; other = λ e. absurd (cc); is = refl }

wide_literal : (text : List ℕ) (at : ℕ) → Fails text (lexing.WideLiteral at) → Faulted text (Err (why.WideLiteral at))
unfolding refusal_of
wide_literal text at h = record { found = lexing.WideLiteral at; fails = h; other = λ e. absurd (cc); is = refl }

faulted_once : (text : List ℕ) (a b : Result (List Token) Refusal) → Faulted text a → Lexes text b → Agree a b
faulted_once text a b f (lexes {tokens = tokens} cut) = lexed_or_faulted text tokens a cut f
faulted_once text a b f (has_bad_byte {at = at} h) = one_refusal text a b f (bad_byte text at h)
faulted_once text a b f (has_open_comment {at = at} h) = one_refusal text a b f (open_comment text at h)
faulted_once text a b f (has_wide_literal {at = at} h) = one_refusal text a b f (wide_literal text at h)

cut_once : (text : List ℕ) (tokens : List Token) (b : Result (List Token) Refusal) → Cuts text 0 tokens (length text) → Lexes text b → Agree (Ok tokens) b
cut_once text tokens b cut (lexes {tokens = others} cut') = inr (inr (ap Ok (one_cut text tokens others cut cut')))
cut_once text tokens b cut (has_bad_byte {at = at} h) = lexed_or_faulted text tokens b cut (bad_byte text at h)
cut_once text tokens b cut (has_open_comment {at = at} h) = lexed_or_faulted text tokens b cut (open_comment text at h)
cut_once text tokens b cut (has_wide_literal {at = at} h) = lexed_or_faulted text tokens b cut (wide_literal text at h)

lexes_once : (text : List ℕ) → IsDetermined (Lexes text)
lexes_once text a b (lexes {tokens = tokens} cut) t = cut_once text tokens b cut t
lexes_once text a b (has_bad_byte {at = at} h) t = faulted_once text a b (bad_byte text at h) t
lexes_once text a b (has_open_comment {at = at} h) t = faulted_once text a b (open_comment text at h) t
lexes_once text a b (has_wide_literal {at = at} h) t = faulted_once text a b (wide_literal text at h) t

crowd_once : (tokens : List Token) → IsDetermined (IsUncrowded tokens)
crowd_once tokens a b (is_uncrowded none) (is_uncrowded none') = inr (inr refl)
crowd_once tokens a b (is_uncrowded none) (is_crowded place crowd) = absurd (none place crowd)
crowd_once tokens a b (is_crowded place crowd) (is_uncrowded none) = absurd (none place crowd)
crowd_once tokens a b (is_crowded place crowd) (is_crowded place' crowd') = inr (inr refl)

parses_once : (text : List ℕ) (tokens : List Token) → IsDetermined (Parses text tokens)
parses_once text tokens a b (parses {tree = tree} d) (parses {tree = other} d') = inr (inr (ap Ok (one_tree text tokens tree other d d')))
parses_once text tokens a b (parses {tree = tree} d) (derives_none place h) = absurd (tree_or_place text tokens tree place d h)
parses_once text tokens a b (derives_none place h) (parses {tree = tree} d) = absurd (tree_or_place text tokens tree place d h)
parses_once text tokens a b (derives_none place h) (derives_none place' h') =
    inr (inr (ap (λ place. Err (why.Syntax (byte_of text tokens place))) (one_place text tokens place place' h h')))

-- ---- types

-- one of two places is before the other, or they are one
one_last : (decls : List Decl) (i j : ℕ) → IsLastNode decls i → IsLastNode decls j → i ≡ j
one_last decls i j a b = go (cases_order i j)
  where
    before : (i j : ℕ) → i < j → IsLastNode decls i → IsLastNode decls j → ⊥
    before i j less a b = absurd (cc (a.last j less, b.node))

    go : (i ≡ j) ⊎ ((i < j) ⊎ (j < i)) → i ≡ j
    go (inl e) = e
    go (inr (inl less)) = absurd (before i j less a b)
    go (inr (inr less)) = absurd (before j i less b a)

one_main : (decls : List Decl) (main : Option Name) (i j : ℕ) → IsMain decls main i → IsMain decls main j → i ≡ j
one_main decls None i j a b = one_last decls i j a b
one_main decls (Some main) i j a b = cc

types_once : (tree : Ast) (width : ℕ) (main : Option Name) → IsDetermined (HasTypes tree width main)
types_once tree width main a b (has_types place h) (has_types place' h') =
    inr (inr (ap (λ place. Ok (source_of tree width place)) (one_main tree.decls main place place' h.1 h'.1)))
types_once tree width main a b (has_types place h) (is_badly_typed {kind = kind} {at = at} f) = absurd (never_both tree width main kind at f h.0)
types_once tree width main a b (is_badly_typed {kind = kind} {at = at} f) (has_types place h) = absurd (never_both tree width main kind at f h.0)
types_once tree width main a b (is_badly_typed {kind = kind} {at = at} f) (is_badly_typed {kind = other} {at = at'} f') =
    let same = one_type_fault tree width main kind other at at' f f' in
    inr (inr (ap₂ (λ kind at. Err (why.Typing kind at)) same.0 same.1))

expands_once : (source : Source) → IsDetermined (Expands source)
expands_once source a b (expands shallow few) (expands shallow' few') = inr (inr refl)
expands_once source a b (expands shallow few) (is_too_deep deep) = absurd (deep shallow)
expands_once source a b (expands shallow few) (has_many_edges shallow' many) = absurd (omega arith)
expands_once source a b (is_too_deep deep) (expands shallow few) = absurd (deep shallow)
expands_once source a b (is_too_deep deep) (is_too_deep deep') = inr (inr refl)
expands_once source a b (is_too_deep deep) (has_many_edges shallow many) = absurd (deep shallow)
expands_once source a b (has_many_edges shallow many) (expands shallow' few) = absurd (omega arith)
expands_once source a b (has_many_edges shallow many) (is_too_deep deep) = absurd (deep shallow)
expands_once source a b (has_many_edges shallow many) (has_many_edges shallow' many') = inr (inr refl)

one_least : (edges : List Edge) (e f : EdgeId) → IsLeastOnCycle edges e → IsLeastOnCycle edges f → e ≡ f
one_least edges e f a b =
    let below = a.least f b.lies in
    let above = b.least e a.lies in
    let same : e.0 ≡ f.0 = omega arith in
    ap (λ n. record { 0 = n }) same

causal_once : (source : Source) → IsDetermined (IsCausal source)
causal_once source a b (is_causal none) (is_causal none') = inr (inr refl)
causal_once source a b (is_causal none) (has_cycle e h) = absurd (none.none e h.lies)
causal_once source a b (has_cycle e h) (is_causal none) = absurd (none.none e h.lies)
causal_once source a b (has_cycle e h) (has_cycle e' h') =
    inr (inr (ap (λ e. Err (why.Cycle (name_of (net source).edges e))) (one_least (net source).edges e e' h h')))

compiles_once : (text : List ℕ) (width : ℕ) (main : Option Name) → IsDetermined (Compiles text width main)
compiles_once text width main =
    then_determined (lexes_once text) λ tokens l.
    then_determined (crowd_once tokens) λ loose c.
    then_determined (parses_once text tokens) λ tree p.
    then_determined (types_once tree width main) λ source t.
    then_determined (expands_once source) λ small e.
    causal_once source

pub source_once : (told : Files) (name : Name) (width : ℕ) (main : Option Name) → IsDetermined (ReadsSource (Some told) name width main)
source_once told name width main = then_determined (reads_once told name _) λ text r. compiles_once text width main

-- ---- suites and plans

tests_once : (parts : Parts) (bytes : List ℕ) → IsDetermined (HoldsTests parts bytes)
tests_once parts bytes a b (holds_tests e) (holds_tests f) = inr (inr (cc (e, f)))
tests_once parts bytes a b (holds_tests e) (is_no_suite f) = absurd (cc (e, f))
tests_once parts bytes a b (holds_tests e) (has_many_tests f) = absurd (cc (e, f))
tests_once parts bytes a b (holds_tests e) (has_many_instants f) = absurd (cc (e, f))
tests_once parts bytes a b (is_no_suite e) (holds_tests f) = absurd (cc (e, f))
tests_once parts bytes a b (is_no_suite e) (is_no_suite f) = inr (inr (cc (e, f)))
tests_once parts bytes a b (is_no_suite e) (has_many_tests f) = absurd (cc (e, f))
tests_once parts bytes a b (is_no_suite e) (has_many_instants f) = absurd (cc (e, f))
tests_once parts bytes a b (has_many_tests e) (holds_tests f) = absurd (cc (e, f))
tests_once parts bytes a b (has_many_tests e) (is_no_suite f) = absurd (cc (e, f))
tests_once parts bytes a b (has_many_tests e) (has_many_tests f) = inr (inr refl)
tests_once parts bytes a b (has_many_tests e) (has_many_instants f) = absurd (cc (e, f))
tests_once parts bytes a b (has_many_instants e) (holds_tests f) = absurd (cc (e, f))
tests_once parts bytes a b (has_many_instants e) (is_no_suite f) = absurd (cc (e, f))
tests_once parts bytes a b (has_many_instants e) (has_many_tests f) = absurd (cc (e, f))
tests_once parts bytes a b (has_many_instants e) (has_many_instants f) = inr (inr refl)

pub suite_once : (told : Files) (name : Name) (parts : Parts) → IsDetermined (ReadsSuite (Some told) name parts)
suite_once told name parts = then_determined (reads_once told name _) λ bytes r. tests_once parts bytes

-- a network has one plan for a length
one_plan : (parts : Parts) (n : ℕ) (a b : Planned) → IsPlanOf parts a → IsPlanOf parts b → a.length ≡ n → b.length ≡ n → a ≡ b
one_plan parts n a b p q long long' =
    let same_length = long ∙ sym long' in
    let paths = one_list parts b.length a.paths b.paths (subst (λ n. IsListOf parts n a.paths) same_length p.listed) q.listed in
    let duties_are = p.asked ∙ (ap (duties parts.edges) paths ∙ sym q.asked) in
    ap₂ (λ (x : ℕ × List Path) (y : List Condition × List Obligation). record { length = x.0; paths = x.1; conditions = y.0; duties = y.1 })
    (ap₂ (λ l ps. (l, ps)) same_length paths) (ap₂ (λ cs ds. (cs, ds)) (p.conditional ∙ sym q.conditional) duties_are)

-- too many paths are no paths within the limit
few_paths : (parts : Parts) (n : ℕ) → AsksTooMuch parts n → MoreThan MOST_PATHS parts n → ⊥
few_paths parts n much many =
    let few = much.few in
    let more = list_is_longer MOST_PATHS parts n much.paths much.listed many in
    omega arith

pub plan_once : (parts : Parts) (n : ℕ) → IsDetermined (MakesPlan parts n)
plan_once parts n a b (makes_plan {plan = plan} is long few loose) (makes_plan {plan = other} is' long' few' loose') =
    inr (inr (ap Ok (one_plan parts n plan other is is' long long')))
plan_once parts n a b (makes_plan is long few loose) (has_many_paths many) = absurd (few many)
plan_once parts n a b (makes_plan is long few loose) (has_many_obligations much) = absurd (loose much)
plan_once parts n a b (has_many_paths many) (makes_plan is long few loose) = absurd (few many)
plan_once parts n a b (has_many_paths many) (has_many_paths many') = inr (inr refl)
plan_once parts n a b (has_many_paths many) (has_many_obligations much) = absurd (few_paths parts n much many)
plan_once parts n a b (has_many_obligations much) (makes_plan is long few loose) = absurd (loose much)
plan_once parts n a b (has_many_obligations much) (has_many_paths many) = absurd (few_paths parts n much many)
plan_once parts n a b (has_many_obligations much) (has_many_obligations much') = inr (inr refl)

-- ---- formulas and proofs

formulas_once : (text : Text) → IsDetermined (HoldsFormula text)
formulas_once text a b (holds_formula e) (holds_formula f) = inr (inr (cc (e, f)))
formulas_once text a b (holds_formula e) (is_no_formula f) = absurd (cc (e, f))
formulas_once text a b (holds_formula e) (has_many_variables f said) = absurd (cc (e, f))
formulas_once text a b (is_no_formula e) (holds_formula f) = absurd (cc (e, f))
formulas_once text a b (is_no_formula e) (is_no_formula f) = inr (inr (cc (e, f)))
formulas_once text a b (is_no_formula e) (has_many_variables f said) = absurd (cc (e, f))
formulas_once text a b (has_many_variables e said) (holds_formula f) = absurd (cc (e, f))
formulas_once text a b (has_many_variables e said) (is_no_formula f) = absurd (cc (e, f))
formulas_once text a b (has_many_variables e said) (has_many_variables f said') = inr (inr (cc (said, said')))

pub formula_once : (told : Files) (name : Name) → IsDetermined (ReadsFormula (Some told) name)
formula_once told name = then_determined (reads_once told name _) λ text r. formulas_once text

proofs_once : (text : Text) → IsDetermined (HoldsProof text)
proofs_once text a b (holds_proof e) (holds_proof f) = inr (inr (cc (e, f)))
proofs_once text a b (holds_proof e) (is_no_proof f) = absurd (cc (e, f))
proofs_once text a b (is_no_proof e) (holds_proof f) = absurd (cc (e, f))
proofs_once text a b (is_no_proof e) (is_no_proof f) = inr (inr (cc (e, f)))

pub proof_once : (told : Files) (name : Name) → IsDetermined (ReadsProof (Some told) name)
proof_once told name = then_determined (reads_once told name _) λ text r. proofs_once text

pub check_once : (formula : Shape) (steps : List ProofStep) → IsDetermined (AcceptsProof formula steps)
check_once formula steps a b (accepts_proof e) (accepts_proof f) = inr (inr refl)
check_once formula steps a b (accepts_proof e) (refuses_step f) = absurd (cc (e, f))
check_once formula steps a b (refuses_step e) (accepts_proof f) = absurd (cc (e, f))
check_once formula steps a b (refuses_step e) (refuses_step f) = inr (inr (cc (e, f)))

-- ---- words

pub asks_once : (words : List (List ℕ)) → IsDetermined (Asks words)
asks_once words a b (asks e d) (asks f d') = inr (inr (cc (e, f)))
asks_once words a b (asks e d) (asks_nothing none) = absurd (cc (e, none))
asks_once words a b (asks {job = job} e d) (asks_too_early other f late) =
    let same : job ≡ other = cc (e, f) in
    absurd (cc (ap is_done_yet same, d, late))
asks_once words a b (asks_nothing none) (asks e d) = absurd (cc (e, none))
asks_once words a b (asks_nothing none) (asks_nothing none') = inr (inr refl)
asks_once words a b (asks_nothing none) (asks_too_early other e late) = inr (inr refl)
asks_once words a b (asks_too_early other f late) (asks {job = job} e d) =
    let same : job ≡ other = cc (e, f) in
    absurd (cc (ap is_done_yet same, d, late))
asks_once words a b (asks_too_early job e late) (asks_nothing none) = inr (inr refl)
asks_once words a b (asks_too_early job e late) (asks_too_early other f late') = inr (inr refl)
