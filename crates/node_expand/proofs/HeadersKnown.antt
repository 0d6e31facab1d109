-- The tables of code at the places of nodes.
use Rattle.std.proofs.Common.{◌≡◌, ℕ, zero, suc, ◌+◌, ◌<◌, get_or, List, [], ◌∷◌, ◌++◌, drop, length, map, refl, sym, ap, ◌∙◌, arith, append_assoc}
use Rattle.std.specs.Prelude.{Option, Some, None, slice_get, option_map}
use Rattle.std.proofs.lemmas.List.{length-map}
use Rattle.std.proofs.lemmas.Option.{slice_get-map}
use Rattle.lus_syntax.specs.declared.ast.Decl.{Decl}
use Rattle.lus_syntax.specs.declared.ast.Decl.TheVariants.{TypeDecl, ConstDecl, NodeDecl}
use Rattle.lus_types.specs.Names.{Name, Globals}
use Rattle.lus_types.specs.Programs as program
use Rattle.lus_types.specs.Programs.{node_at_place, node_declared, node_meant, place_meant, types}
use Rattle.node_expand.specs.declared.header.Header.{Header}
use Rattle.node_expand.specs.declared.header.Variable.{Variable}
use Rattle.node_expand.specs.Fragments.{first_type, result_type}
use Rattle.node_expand.specs.Headers.{first_output, head_of, header_at, heads, heads_seen, items_of, node_seen, output_type}
use Rattle.node_expand.specs.declared.outlines.Outline.{Outline}
use Rattle.node_expand.specs.Outlines.{all_outlines, outline, outlines_of}
use Rattle.node_expand.specs.Variables.{variable_seen}

first_seen : (vs : List Variable) → first_type (types (map variable_seen vs)) ≡ first_output vs
first_seen [] = refl
first_seen (v ∷ vs) = refl

declared_type : (g : Globals) (d : Decl) → result_type (node_declared g (Some d)) ≡ first_type (types (head_of g d).outputs)
declared_type g (TypeDecl at name choices) = refl
declared_type g (ConstDecl at name ty value) = refl
declared_type g (NodeDecl at name inputs outputs locals items) = refl

type_of_both : (g : Globals) (h : Option Header) (d : Option Decl) → option_map node_seen h ≡ option_map (head_of g) d → result_type (node_declared g d) ≡ output_type h
type_of_both g None None e = refl
type_of_both g None (Some d) e = absurd (cc e)
type_of_both g (Some h) None e = absurd (cc e)
type_of_both g (Some h) (Some d) e =
    let same : node_seen h ≡ head_of g d = cc in
    declared_type g d ∙ ap (λ (n : program.Node). first_type (types n.outputs)) (sym same) ∙ first_seen h.outputs

-- the header and the declaration at a place have the same variables
pub same_at : (g : Globals) (decls : List Decl) (headers : List Header) (place : ℕ) → heads_seen headers ≡ heads g decls
    → option_map node_seen (slice_get headers place) ≡ option_map (head_of g) (slice_get decls place)
same_at g decls headers place e = sym (slice_get-map node_seen headers place) ∙ ap (λ l. slice_get l place) e ∙ slice_get-map (head_of g) decls place

type_at : (g : Globals) (decls : List Decl) (headers : List Header) (o : Option ℕ) → heads_seen headers ≡ heads g decls
    → result_type (node_at_place g decls o) ≡ output_type (header_at headers o)
type_at g decls headers None e = refl
type_at g decls headers (Some place) e = type_of_both g (slice_get headers place) (slice_get decls place) (same_at g decls headers place e)

pub result_type_known : (g : Globals) (decls : List Decl) (headers : List Header) (x : Name) → heads_seen headers ≡ heads g decls
    → result_type (node_meant g decls (g x)) ≡ output_type (header_at headers (place_meant (g x)))
result_type_known g decls headers x e = type_at g decls headers (place_meant (g x)) e

pub heads_length : (g : Globals) (decls : List Decl) (headers : List Header) → heads_seen headers ≡ heads g decls → length headers ≡ length decls
heads_length g decls headers e = sym (length-map headers node_seen) ∙ ap (λ (l : List program.Node). length l) e ∙ length-map decls (head_of g)

-- the header at a place of the declarations
pub head_at : (g : Globals) (decls : List Decl) (headers : List Header) (i : ℕ) (d : Decl) (h : Header) → heads_seen headers ≡ heads g decls → i < length decls
    → d ≡ get_or decls i d → h ≡ get_or headers i h → node_seen h ≡ head_of g d
head_at g [] headers i d h e less is at = absurd (omega (arith, less))
head_at g (x ∷ decls) [] i d h e less is at = absurd (cc e)
head_at g (x ∷ decls) (y ∷ headers) zero d h e less is at =
    let same : node_seen y ≡ head_of g x = cc in ap node_seen at ∙ same ∙ ap (head_of g) (sym is)
head_at g (x ∷ decls) (y ∷ headers) (suc i) d h e less is at =
    let rest : heads_seen headers ≡ heads g decls = cc in head_at g decls headers i d h rest (omega (arith, less)) is at

-- one more declaration
outlines_more : (p : program.Program) (g : Globals) (decls : List Decl) (i : ℕ) (d : Decl) → i < length decls → d ≡ get_or decls i d
    → all_outlines p g (drop i decls) ≡ outlines_of p g d ∷ all_outlines p g (drop (suc i) decls)
outlines_more p g [] i d less is = absurd (omega (arith, less))
outlines_more p g (x ∷ decls) zero d less is = ap (λ y. outlines_of p g y ∷ all_outlines p g decls) (sym is)
outlines_more p g (x ∷ decls) (suc i) d less is = outlines_more p g decls i d (omega (arith, less)) is

pub outlines_step : (p : program.Program) (g : Globals) (decls : List Decl) (headers : List Header) (i : ℕ) (d : Decl) (h : Header) (of_items : List Outline) (now new all : List (List Outline))
    → heads_seen headers ≡ heads g decls → i < length decls → d ≡ get_or decls i d → h ≡ get_or headers i h
    → of_items ≡ map (outline p g (node_seen h)) (items_of d) → new ≡ now ++ of_items ∷ []
    → now ++ all_outlines p g (drop i decls) ≡ all → new ++ all_outlines p g (drop (i + 1) decls) ≡ all
outlines_step p g decls headers i d h of_items now new all e less is at made added whole =
    let one : of_items ≡ outlines_of p g d = made ∙ ap (λ n. map (outline p g n) (items_of d)) (head_at g decls headers i d h e less is at) in
    let next : i + 1 ≡ suc i = omega arith in
    let rest = all_outlines p g (drop (suc i) decls) in
    ap (λ k. new ++ all_outlines p g (drop k decls)) next ∙ ap (λ l. l ++ rest) added ∙ append_assoc now (of_items ∷ []) rest
    ∙ ap (λ o. now ++ o ∷ rest) one ∙ ap (λ l. now ++ l) (sym (outlines_more p g decls i d less is)) ∙ whole
