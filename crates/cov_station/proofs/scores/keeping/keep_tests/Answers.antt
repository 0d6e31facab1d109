use Rattle.std.proofs.Common.{◌≡◌, subst, sym}
use Rattle.std.specs.Prelude.{None}
use Rattle.op_network.specs.Valid.{FitsTest}
use Rattle.score_table.specs.Tables.{Tabled, first_refusal}
use Rattle.cov_station.proofs.KeptSuites.{split_accepted, split_fits}
use Rattle.cov_station.proofs.scores.keeping.keep_tests.Goals as goal

pub keep_test-requires-clause-fits : goal.keep_test-requires-clause-fits
keep_test-requires-clause-fits g c =
    let i = c.loop-test.invariant in
    subst (λ (t : Tabled). FitsTest t.network.network c.in-Some.test) (sym i.2) (split_fits _ _ _ _ _ _ i.3 c.in-Some.ensures.steps.0 c.requires.tests)

pub keep_test-requires-clause-accepted : goal.keep_test-requires-clause-accepted
keep_test-requires-clause-accepted g c =
    let i = c.loop-test.invariant in
    subst (λ (t : Tabled). first_refusal t.tests c.in-Some.test ≡ None) (sym i.2) (split_accepted _ _ _ _ _ _ i.3 c.in-Some.ensures.steps.0 c.requires.tests)
