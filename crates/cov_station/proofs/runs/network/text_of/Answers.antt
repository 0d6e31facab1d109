use Rattle.std.proofs.Common.{[], ◌+◌, ◌∷◌, ◌++◌, ap, arith, sym, subst, take, ◌∙◌}
use Rattle.std.proofs.lemmas.List.{take_more}
use Rattle.cov_station.specs.NetworkText.{NetworkText, no_tests}
use Rattle.cov_station.proofs.Texts.{test_behind}
use Rattle.cov_station.proofs.runs.network.text_of.Goals as goal

pub loop-test-init : goal.loop-test-init
loop-test-init g c = subst (NetworkText c.args.net.now.network []) (sym c.new-text.ensures) no_tests

pub loop-test-preserved : goal.loop-test-preserved
loop-test-preserved g c =
    let tests = c.args.tests.now in
    let i = c.loop-test.test-index in
    let test = c.test-item.result in
    let one_more = take_more tests i test (omega arith) ∙ ap (λ t. take i tests ++ t ∷ []) (sym c.test-item.is) in
    test_behind c.args.net.now.network (take i tests) (take (i + 1) tests) test c.loop-test.text c.push_test.new.text
    one_more c.in_ok-push_test.ensures c.loop-test.invariant
