-- The node that is declared at a place, as code has it.
use Rattle.std.proofs.Common.{◌≡◌, ℕ, zero, suc, ◌<◌, get_or, List, [], ◌∷◌, length, map, sym, ap, ◌∙◌, arith}
use Rattle.std.specs.Prelude.{Some, slice_get}
use Rattle.lus_syntax.specs.declared.ast.Decl.{Decl}
use Rattle.lus_syntax.specs.declared.ast.Decl.TheVariants.{TypeDecl, ConstDecl, NodeDecl}
use Rattle.lus_types.specs.Names.{Globals}
use Rattle.lus_types.specs.Programs.{Node, Program, node_declared, variables_of}
use Rattle.node_expand.specs.declared.header.Header.{Header}
use Rattle.node_expand.specs.declared.instances.Callee.{Callee}
use Rattle.node_expand.specs.declared.outlines.Outline.{Outline}
use Rattle.node_expand.specs.Drafts.{IsCallee, bare}
use Rattle.node_expand.specs.Headers.{head_of, heads, heads_seen, items_of, node_seen}
use Rattle.node_expand.specs.NodePlaces.{IsPlaceOf}
use Rattle.node_expand.specs.Outlines.{all_outlines, outline, outlines_of}
use Rattle.node_expand.proofs.HeadersKnown.{head_at}

slice_at : (decls : List Decl) (place : ℕ) (d : Decl) → place < length decls → d ≡ get_or decls place d → slice_get decls place ≡ Some d
slice_at [] place d less is = absurd (omega (arith, less))
slice_at (x ∷ decls) zero d less is = ap (λ y. Some y) (sym is)
slice_at (x ∷ decls) (suc place) d less is = slice_at decls place d (omega (arith, less)) is

outlines_at : (p : Program) (g : Globals) (decls : List Decl) (place : ℕ) (d : Decl) (o : List Outline) → place < length decls
    → d ≡ get_or decls place d → o ≡ get_or (all_outlines p g decls) place o → o ≡ outlines_of p g d
outlines_at p g [] place d o less is at = absurd (omega (arith, less))
outlines_at p g (x ∷ decls) zero d o less is at = at ∙ ap (outlines_of p g) (sym is)
outlines_at p g (x ∷ decls) (suc place) d o less is at = outlines_at p g decls place d o (omega (arith, less)) is at

of_decl : (p : Program) (g : Globals) (d : Decl) (node : Node) (callee : Callee) → node_declared g (Some d) ≡ Some node
    → node_seen callee.header.now ≡ head_of g d → callee.items.now ≡ items_of d → callee.outlines.now ≡ outlines_of p g d → IsCallee p g node callee
of_decl p g (TypeDecl at name choices) node callee is h i o = absurd (cc is)
of_decl p g (ConstDecl at name ty value) node callee is h i o = absurd (cc is)
of_decl p g (NodeDecl at name inputs outputs locals items) node callee is h i o =
    let n : Node = record { name = name.text; inputs = variables_of g inputs; outputs = variables_of g outputs; locals = variables_of g locals; items = items } in
    let both : Some n ≡ Some node = is in
    let one : n ≡ node = cc in
    record { header = h ∙ ap bare one; items = i ∙ ap (λ (k : Node). k.items) one; outlines = o ∙ ap (λ (k : Node). map (outline p g (bare k)) k.items) one }

pub callee_is : (p : Program) (g : Globals) (decls ds : List Decl) (headers hs : List Header) (all os : List (List Outline)) (place : ℕ) (d : Decl) (h : Header) (o : List Outline) (node : Node) (callee : Callee)
    → ds ≡ decls → hs ≡ headers → os ≡ all → heads_seen headers ≡ heads g decls → all ≡ all_outlines p g decls → place < length decls
    → d ≡ get_or ds place d → h ≡ get_or hs place h → o ≡ get_or os place o → IsPlaceOf g decls node place
    → callee.header.now ≡ h → callee.items.now ≡ items_of d → callee.outlines.now ≡ o → IsCallee p g node callee
callee_is p g decls ds headers hs all os place d h o node callee same_ds same_hs same_os seen outlines less d_is h_is o_is at header items outline_is =
    let d_at : d ≡ get_or decls place d = d_is ∙ ap (λ l. get_or l place d) same_ds in
    let h_at : h ≡ get_or headers place h = h_is ∙ ap (λ l. get_or l place h) same_hs in
    let o_at : o ≡ get_or (all_outlines p g decls) place o = o_is ∙ ap (λ l. get_or l place o) (same_os ∙ outlines) in
    of_decl p g d node callee
    (ap (node_declared g) (sym (slice_at decls place d less d_at)) ∙ at.declared)
    (ap node_seen header ∙ head_at g decls headers place d h seen less d_at h_at)
    items (outline_is ∙ outlines_at p g decls place d o less d_at o_at)
