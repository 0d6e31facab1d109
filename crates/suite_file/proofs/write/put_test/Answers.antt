use Rattle.std.proofs.Common.{◌≡◌, ◌∙◌, ◌++◌, ◌-◌, ◌+◌, ap, suc, length, take, drop, arith}
use Rattle.csv.specs.Writing.{default_writer, row_text}
use Rattle.suite_file.specs.Written.{instant_record}
use Rattle.suite_file.specs.Writing.{written}
use Rattle.suite_file.proofs.Writers.{rows_more, rest_size}
use Rattle.suite_file.proofs.write.put_test.Goals as goal

pub loop-instant-preserved : goal.loop-instant-preserved
loop-instant-preserved c =
    let width = length c.args.parts.now.inputs in
    let n = c.args.test.now.instants in
    let i = c.loop-instant._instant in
    let rest = c.loop-instant.rest.now in
    let front : c.split_at.result.0.now ≡ take width rest = c.split_at.ensures.front ∙ ap (λ w. take w rest) c.len-width.ensures in
    let back : c.split_at.result.1.now ≡ drop width rest = c.split_at.ensures.back ∙ ap (λ w. drop w rest) c.len-width.ensures in
    let line : written c.put_instant.new.writer ≡ written c.loop-instant.writer ++ row_text default_writer (instant_record c.args.parts.now c.args.test.now.name (take width rest))
    = rw (c.bytes.ensures, front) at c.in_ok-put_instant.ensures.written in
    let fewer : n - i ≡ suc (n - (i + 1)) = omega (arith, c.loop-instant-test.true) in (
      rw back (rows_more _ (written c.loop-instant.writer) (written c.put_instant.new.writer) c.args.parts.now c.args.test.now.name (n - i) (n - (i + 1)) rest fewer c.loop-instant.invariant.0 line),
      rest_size n i width rest c.split_at.result.1.now c.loop-instant-test.true c.loop-instant.invariant.1 back,
      c.in_ok-put_instant.ensures.writing,
    )
