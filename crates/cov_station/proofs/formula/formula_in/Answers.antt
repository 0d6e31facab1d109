use Rattle.std.proofs.Common.{ap, refl, sym, ◌∙◌}
use Rattle.std.specs.Prelude.{Err}
use Rattle.cov_station.specs.Formulas.{has_many_variables, holds_formula, is_no_formula}
use Rattle.cov_station.specs.Steps.{gives, refuses, runs_out}
use Rattle.cov_station.proofs.FormulaTexts.{says_vars}
use Rattle.cov_station.proofs.SuiteSteps.{at_fault}
use Rattle.cov_station.proofs.formula.formula_in.Goals as goal

pub returns-in-Ok : goal.returns-in-Ok
returns-in-Ok c = gives (holds_formula c.in-Ok.ensures.ok) refl

pub returns-in-Err-Bad : goal.returns-in-Err-Bad
returns-in-Err-Bad c =
    let is = c.in-Err-Bad.field-0-is in
    refuses (is_no_formula (at_fault (λ short. absurd (cc (is, short))) c.in-Err-Bad.ensures.err ∙ ap Err is))

pub unreachable-requires : goal.unreachable-requires
unreachable-requires c =
    let is = c.in-Err-Vars.field-0-is in
    let said = says_vars c.args.text.now (at_fault (λ short. absurd (cc (is, short))) c.in-Err-Vars.ensures.err ∙ ap Err is) in
    absurd (cc (c.in-None.is, c.header_vars.ensures said.0 said.1))

pub returns-in-Some : goal.returns-in-Some
returns-in-Some c =
    let is = c.in-Err-Vars.field-0-is in
    let many = at_fault (λ short. absurd (cc (is, short))) c.in-Err-Vars.ensures.err ∙ ap Err is in
    let said = says_vars c.args.text.now many in
    refuses (has_many_variables many (said.1 ∙ (sym (c.header_vars.ensures said.0 said.1) ∙ c.in-Some.is)))

pub returns-in-Err-Memory : goal.returns-in-Err-Memory
returns-in-Err-Memory c = runs_out
