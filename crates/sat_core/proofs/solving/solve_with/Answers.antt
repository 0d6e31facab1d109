use Rattle.std.proofs.Common.{◌≡◌, ◌∙◌}
use Rattle.sat_core.specs.Solving.{vars_of}
use Rattle.sat_core.proofs.Finding.{solving-start, is_model, is_refutation, is_spent}
use Rattle.sat_core.proofs.solving.solve_with.Goals as goal

pub search-requires-clause-solving : goal.search-requires-clause-solving
search-requires-clause-solving g c =
    rw (c.clauses-clauses.ensures.clauses, c.new-log.ensures)
    (solving-start c.args.formula.now c.in_ok-trail.trail c.vars-vars.ensures.formula c.in_ok-trail.ensures.empty (c.in_ok-trail.ensures.vars ∙ c.vars-vars.ensures.vars))

pub returns-in_ok-bits_of-in-Full : goal.returns-in_ok-bits_of-in-Full
returns-in_ok-bits_of-in-Full g c =
    let n : vars_of c.in_ok-trail.trail ≡ c.args.formula.now.vars = c.in_ok-trail.ensures.vars ∙ c.vars-vars.ensures.vars in
    let searching = (rw (c.clauses-clauses.ensures.clauses, n) at c.in_ok-search.ensures.searching) in
    let ends = (rw (c.in-Full.is, c.clauses-clauses.ensures.clauses) at c.in_ok-search.ensures.ends) in
    is_model c.args.formula.now c.search.new.log c.search.new.trail c.args.budget c.in_ok-bits_of-in-Full.field-0
    c.vars-vars.ensures.formula searching ends
    (c.in_ok-bits_of-in-Full.ensures.whole ∙ c.vars-vars.ensures.vars) (rw c.entries.ensures at c.in_ok-bits_of-in-Full.ensures.agree)

pub returns-in_ok-add-in-Stuck : goal.returns-in_ok-add-in-Stuck
returns-in_ok-add-in-Stuck g c =
    let n : vars_of c.in_ok-trail.trail ≡ c.args.formula.now.vars = c.in_ok-trail.ensures.vars ∙ c.vars-vars.ensures.vars in
    let searching = (rw (c.clauses-clauses.ensures.clauses, n) at c.in_ok-search.ensures.searching) in
    let last = (rw (c.clauses-clauses.ensures.clauses, c.as_slice.ensures) at c.in_ok-last-in-Stuck.ensures) in
    rw c.in_ok-add-in-Stuck.ensures.ok
    (is_refutation c.args.formula.now c.search.new.log c.search.new.trail c.args.budget c.in_ok-last-in-Stuck.last searching last)

pub returns-in-Spent : goal.returns-in-Spent
returns-in-Spent g c =
    let n : vars_of c.in_ok-trail.trail ≡ c.args.formula.now.vars = c.in_ok-trail.ensures.vars ∙ c.vars-vars.ensures.vars in
    let searching = (rw (c.clauses-clauses.ensures.clauses, n) at c.in_ok-search.ensures.searching) in
    is_spent c.args.formula.now c.search.new.log c.search.new.trail c.args.budget searching (rw c.in-Spent.is at c.in_ok-search.ensures.ends)
