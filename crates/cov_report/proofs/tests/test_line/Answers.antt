use Rattle.std.proofs.Common.{◌≤◌, ◌∙◌, ℕ, sym, take, arith}
use Rattle.std.proofs.lemmas.List.{take_all}
use Rattle.std.proofs.lemmas.List.Elements.{All-more, All-same}
use Rattle.cov_report.proofs.tests.test_line.Goals as goal

abbrev IsPrintableByte : ℕ → Type 0
IsPrintableByte b = (0x21 ≤ b) × (b ≤ 0x7E)

pub loop-byte-preserved : goal.loop-byte-preserved
loop-byte-preserved g c =
    All-more IsPrintableByte c.as_bytes-byte-items.result.now c.loop-byte.byte-index 0 c.loop-byte-test.true c.loop-byte.invariant (omega arith, omega arith)

pub returns : goal.returns
returns g c =
    let items = c.as_bytes-byte-items.result.now in
    let i = c.loop-byte.byte-index in
    All-same IsPrintableByte c.in_ok-name.name (take i items) (c.in_ok-name.ensures ∙ c.as_bytes.ensures.value ∙ sym c.as_bytes-byte-items.ensures.value ∙ sym (take_all i items c.loop-byte-test.false)) c.loop-byte.invariant
