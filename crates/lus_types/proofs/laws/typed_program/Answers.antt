use Rattle.std.proofs.Common.{arith}
use Rattle.lus_types.proofs.Choices.{has_choices}
use Rattle.lus_types.proofs.Declared.{has_constants, has_types_of_groups}
use Rattle.lus_types.proofs.Facts.{each_literal}
use Rattle.lus_types.proofs.FineCalls.{no_way_back}
use Rattle.lus_types.proofs.FinePrograms.{each_typed, has_nodes}
use Rattle.lus_types.proofs.FineValues.{has_values}
use Rattle.lus_types.proofs.Identifiers.{has_identifiers, has_outputs}
use Rattle.lus_types.proofs.VariableTypes.{has_types_of_variables}
use Rattle.lus_types.proofs.laws.typed_program.Goals as goal

pub returns-clause-program : goal.returns-clause-program
returns-clause-program c =
    let it = c.args.typed.now in
    record { nodes = each_typed it.ast.decls it.width it.fine; ends = no_way_back it.ast.decls it.width it.fine }

pub returns-clause-nodes : goal.returns-clause-nodes
returns-clause-nodes c = let it = c.args.typed.now in has_nodes it.ast.decls it.width it.fine it.main it.is_main

pub returns-clause-values : goal.returns-clause-values
returns-clause-values c =
    let it = c.args.typed.now in
    let narrowest = it.narrowest in
    has_values it.ast.decls it.width it.fine (λ x. c.one_word.ensures.word it.width x (omega arith))

pub returns-clause-literals : goal.returns-clause-literals
returns-clause-literals c = let it = c.args.typed.now in each_literal it.ast it.width it.fine

pub returns-clause-identifiers : goal.returns-clause-identifiers
returns-clause-identifiers c = let it = c.args.typed.now in has_identifiers it.ast it.width it.fine it.tree

pub returns-clause-choices : goal.returns-clause-choices
returns-clause-choices c = let it = c.args.typed.now in has_choices it.ast it.width it.fine it.tree

pub returns-clause-types : goal.returns-clause-types
returns-clause-types c = let it = c.args.typed.now in has_types_of_variables it.ast it.width it.fine

pub returns-clause-outputs : goal.returns-clause-outputs
returns-clause-outputs c = let it = c.args.typed.now in has_outputs it.ast it.width it.fine it.tree

pub returns-clause-constants : goal.returns-clause-constants
returns-clause-constants c = let it = c.args.typed.now in has_constants it.ast.decls it.width it.fine

pub returns-clause-groups : goal.returns-clause-groups
returns-clause-groups c = let it = c.args.typed.now in has_types_of_groups it.ast.decls it.width it.fine
