use Rattle.std.proofs.Common.{◌∙◌, ◌++◌, ◌∷◌, [], List, ap}
use Rattle.cnf_form.specs.declared.lit.Lit.{Lit}
use Rattle.bit_blast.proofs.Gates.{below_one}
use Rattle.bit_blast.proofs.tests.require_lit.Goals as goal

pub require-required-requires-clause-inside : goal.require-required-requires-clause-inside
require-required-requires-clause-inside c =
    below_one _ _ c.args.lit (c.new.ensures ∙ (c.in_ok-add.ensures.ok ∙ ap (λ (l : List Lit). l ++ c.args.lit ∷ []) c.new-lits.ensures)) c.requires.inside
