use Rattle.std.proofs.Common.{arith}
use Rattle.cov_words.proofs.Numbers.{inside, no_number}
use Rattle.cov_words.proofs.job.number_of.Goals as goal

pub returns-else-number-most : goal.returns-else-number-most
returns-else-number-most c = inside c.args.least c.args.most c.args.text.now c.in-Ok.number c.in-Ok.ensures.value.0.0 c.in-Ok.ensures.value.0.1 c.if-number-least.false c.if-number-most.false

pub returns-in-Err : goal.returns-in-Err
returns-in-Err c = no_number c.args.least c.args.most c.args.text.now c.in-Err.ensures.value.0 (omega (arith, c.ranges.most.fits))
