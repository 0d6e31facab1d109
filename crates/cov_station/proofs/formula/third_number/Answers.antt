use Rattle.std.proofs.Common.{◌≡◌, ◌∙◌, ◌∷◌}
use Rattle.cnf_form.specs.Lines.{words}
use Rattle.cov_station.proofs.FormulaTexts.{third_is}
use Rattle.cov_station.proofs.formula.third_number.Goals as goal

pub returns : goal.returns
returns c = λ vars says.
    let first = c.in_ok-rest.field-0-0.now in
    let second = c.in_ok-rest-2.field-0-0.now in
    let third = c.in_ok-third.third.now in
    let rest = words c.in_ok-third.field-0-1.now in
    let are : words c.args.line.now ≡ first ∷ second ∷ third ∷ rest = cc (c.in_ok-rest.ensures.first, c.in_ok-rest-2.ensures.first, c.in_ok-third.ensures.first) in
    c.parse_natural.ensures ∙ third_is c.args.line.now first second third rest vars are says
