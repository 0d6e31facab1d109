-- What is printed for a tree of the grammar is a text of it.
use Rattle.std.proofs.Common.{◌≡◌, ℕ, List, [], ◌++◌, length, map, refl, sym, ap, ◌∙◌, subst, arith}
use Rattle.lus_syntax.specs.declared.ast.Ast.{Ast}
use Rattle.lus_syntax.specs.declared.ast.Decl.{Decl}
use Rattle.lus_syntax.specs.Cuts.{nothing}
use Rattle.lus_syntax.specs.declared.token.Token.{Token}
use Rattle.lus_syntax.specs.Grammar.{IsTreeOfGrammar, Derives, program, DerivesDecls, no_decls}
use Rattle.lus_syntax.specs.Printing.{Prints, unplaced_decl}
use Rattle.lus_syntax.specs.Phrases as spec
use Rattle.lus_syntax.specs.Phrases.{written, line, is_tight}
use Rattle.lus_syntax.proofs.Spelled.{AreTokens, cut_tokens, written_text, text_from, cut_from}
use Rattle.lus_syntax.proofs.PrintedDecls.{Says, decls_say}

tree_says : {text : List ℕ} {ts : List Token} {tree : Ast} → Derives text ts tree → AreTokens text ts → Says (spec.program tree) DerivesDecls (map unplaced_decl) tree.decls
tree_says (program d) h = decls_say d h

pub prints : (tree : Ast) (old new : List ℕ) → IsTreeOfGrammar tree → new ≡ written old (spec.program tree) ++ line → Prints tree old new
prints tree old new h is =
    let says = tree_says h.derived (cut_tokens h.cut) in
    let added = text_from (is_tight old) (spec.program tree) in
    let cut = cut_from added (is_tight old) 0 (spec.program tree) says.tokens (omega arith) refl in
    let read = says.reads added cut.tokens cut.spelled in
    record {
      added = added;
      whole = is ∙ written_text old (spec.program tree) says.tokens;
      text = record {
        tokens = cut.tokens;
        read = record { decls = read.read; length = length added };
        cut = cut.cut;
        derived = program read.derived;
        same = ap (λ ds. record { decls = ds; length = 0 }) read.same;
      };
    }

-- the tree of the empty text
pub empty_tree : (decls : List Decl) → decls ≡ [] → IsTreeOfGrammar (record { decls = decls; length = 0 })
empty_tree decls e = subst (λ ds. IsTreeOfGrammar (record { decls = ds; length = 0 })) (sym e) (record { text = []; tokens = []; cut = nothing; derived = program no_decls })
