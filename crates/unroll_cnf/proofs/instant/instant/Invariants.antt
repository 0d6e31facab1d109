use Rattle.std.specs.Option.{option_map}
use Rattle.unroll_cnf.proofs.Filling.{InstantSoFar}
use Rattle.unroll_cnf.proofs.instant.instant.Given as goal

abbrev pub invariant-loop-e : goal.invariant-loop-e
invariant-loop-e l = InstantSoFar l.parts (option_map (λ words. words.now) l.before) l.order l.fn.maker l.maker l.e-index l.words
