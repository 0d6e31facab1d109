-- The laws of the crates below that the steps rest on.
use Rattle.std.proofs.Common.{◌≡◌, ◌<◌, ◌≤◌, ℕ, List, length, arith}
use Rattle.std.specs.Prelude.{Option}
use Rattle.cnf_form.specs.Shape.{IsUnsatisfiable, Shape}
use Rattle.cov_words.specs.Jobs.{AreInRange}
use Rattle.dep_paths.specs.declared.path.Path.{Path}
use Rattle.dep_paths.specs.Paths.{IsListOf, MoreThan}
use Rattle.lus_causality.specs.Laws.{OneRun}
use Rattle.lus_syntax.specs.declared.ast.Ast.{Ast}
use Rattle.lus_syntax.specs.Cuts.{IsCutOnce, IsOneFault, IsUncutAtFault}
use Rattle.lus_syntax.specs.Faults.{IsOnePlace, IsOneTree, IsTreeOrPlace}
use Rattle.lus_syntax.specs.Grammar.{IsTreeOfGrammar}
use Rattle.lus_types.specs.Names.{Name}
use Rattle.lus_types.specs.Programs.{program_of}
use Rattle.lus_types.specs.ProgramTypes.{IsTypedProgram}
use Rattle.lus_types.specs.Typing.{HasOneFault, IsAccepted, IsFineProgram, IsNeverBoth, walk}
use Rattle.node_expand.specs.Law.{KeepsStreamsIn}
use Rattle.node_expand.specs.Nesting.{IsWithinDepth}
use Rattle.op_network.specs.declared.edge.Parts.{Parts}
use Rattle.op_network.specs.declared.limits.TheConstants.{LEAST_WIDTH, MOST_EDGES, MOST_WIDTH}
use Rattle.op_network.specs.Valid.{IsValid}
use Rattle.proof_check.specs.declared.step.ProofStep.{ProofStep}
use Rattle.proof_check.specs.Check.{Accepted}
use Rattle.stream_run.specs.Laws.{OneKept}
use Rattle.cov_words.proofs.Ranges as ranges
use Rattle.dep_paths.proofs.Counts as counts
use Rattle.lus_causality.proofs.Runs as runs
use Rattle.lus_syntax.proofs.OneCutting as cutting
use Rattle.lus_syntax.proofs.OneCutting.{ends_all, one_cutting}
use Rattle.lus_syntax.proofs.Programs as programs
use Rattle.lus_types.proofs.Accepted.{begun}
use Rattle.lus_types.proofs.Choices.{has_choices}
use Rattle.lus_types.proofs.FineCalls.{no_way_back}
use Rattle.lus_types.proofs.FinePrograms.{each_typed}
use Rattle.lus_types.proofs.FineValues.{has_values}
use Rattle.lus_types.proofs.FirstFault.{not_both, one_fault}
use Rattle.lus_types.proofs.Identifiers.{has_identifiers, has_outputs}
use Rattle.lus_types.proofs.VariableTypes.{has_types_of_variables}
use Rattle.node_expand.proofs.Kept.{kept}
use Rattle.node_expand.proofs.ValidNetworks.{network_is_valid}
use Rattle.node_expand.proofs.WellFormed.{well_formed}
use Rattle.op_network.proofs.Words.{wrap_is_word}
use Rattle.proof_check.proofs.Sound.{accepted_sound}
use Rattle.stream_run.proofs.Keeping as keeping
use Rattle.cov_station.specs.Sources.{net, source_of}

pub one_cut : (text : List ℕ) → IsCutOnce text
one_cut text ts us a b = (one_cutting a b (ends_all text) (ends_all text)).0

pub no_cut_at_fault : (text : List ℕ) → IsUncutAtFault text
no_cut_at_fault = cutting.no_cut_at_fault

pub one_lex_fault : (text : List ℕ) → IsOneFault text
one_lex_fault = cutting.one_fault

pub one_tree : (text : List ℕ) → IsOneTree text
one_tree = programs.one_program

pub one_place : (text : List ℕ) → IsOnePlace text
one_place = programs.one_place

pub tree_or_place : (text : List ℕ) → IsTreeOrPlace text
tree_or_place = programs.tree_or_fault

pub one_type_fault : (tree : Ast) (width : ℕ) (main : Option Name) → HasOneFault tree width main
one_type_fault tree width main k l at other a b = one_fault tree.decls (walk tree width main) k l at other a b

pub never_both : (tree : Ast) (width : ℕ) (main : Option Name) → IsNeverBoth tree width main
never_both tree width main k at a fine = not_both tree.decls (walk tree width main) k at a fine

pub one_list : (parts : Parts) (n : ℕ) (ps qs : List Path) → IsListOf parts n ps → IsListOf parts n qs → ps ≡ qs
one_list = counts.one_list

pub list_is_longer : (count : ℕ) (parts : Parts) (n : ℕ) (ps : List Path) → IsListOf parts n ps → MoreThan count parts n → count < length ps
list_is_longer = counts.list_is_longer

pub one_run : OneRun
one_run = runs.one_run

pub one_kept : OneKept
one_kept = keeping.one_kept

pub in_range : AreInRange
in_range = ranges.in_range

pub refutes : (formula : Shape) (steps : List ProofStep) → Accepted formula.clauses steps → IsUnsatisfiable formula
refutes formula steps accepted = accepted_sound formula.clauses steps accepted

-- ---- a source whose tree is accepted

-- no occurrence of its declarations fails
fine_of : (tree : Ast) (width place : ℕ) (main : Option Name) → IsAccepted tree width main place → IsFineProgram tree width
fine_of tree width place main accepted o among = accepted.0 o (begun _ _ o among)

typed_of : (tree : Ast) (width : ℕ) → IsFineProgram tree width → IsTypedProgram (program_of tree.decls width)
typed_of tree width fine = record { nodes = each_typed tree.decls width fine; ends = no_way_back tree.decls width fine }

pub keeps_streams : (tree : Ast) (width place : ℕ) (main : Option Name) → IsAccepted tree width main place
    → IsWithinDepth (source_of tree width place).program (source_of tree width place).main
    → KeepsStreamsIn (source_of tree width place).program (source_of tree width place).main (net (source_of tree width place))
keeps_streams tree width place main accepted shallow =
    let source = source_of tree width place in
    kept source.program source.main (well_formed source.program (typed_of tree width (fine_of tree width place main accepted))) shallow

pub is_valid : (tree : Ast) (width place : ℕ) (main : Option Name) → IsTreeOfGrammar tree → LEAST_WIDTH ≤ width → width ≤ MOST_WIDTH
    → IsAccepted tree width main place
    → IsWithinDepth (source_of tree width place).program (source_of tree width place).main
    → length (net (source_of tree width place)).edges ≤ MOST_EDGES
    → IsValid (net (source_of tree width place))
is_valid tree width place main grammatical narrowest widest accepted shallow few =
    let source = source_of tree width place in
    let fine = fine_of tree width place main accepted in
    network_is_valid source.program source.main
    (record {
      words = λ x. wrap_is_word width x (omega (arith, narrowest));
      typed = typed_of tree width fine;
      values = has_values tree.decls width fine (λ x. wrap_is_word width x (omega (arith, narrowest)));
      identifiers = has_identifiers tree width fine ∣ grammatical ∣₁;
      types = has_types_of_variables tree width fine;
      outputs = has_outputs tree width fine ∣ grammatical ∣₁;
      choices = has_choices tree width fine ∣ grammatical ∣₁;
      width = record { narrowest = narrowest; widest = widest };
    })
    shallow few
