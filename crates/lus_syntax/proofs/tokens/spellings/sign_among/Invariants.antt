use Rattle.std.proofs.Common.{◌≡◌, drop}
use Rattle.lus_syntax.specs.Words.{sign_among}
use Rattle.lus_syntax.proofs.tokens.spellings.sign_among.Given as goal

abbrev pub invariant-loop-sign : goal.invariant-loop-sign
invariant-loop-sign l = sign_among (drop l.sign-index l.signs) l.bytes ≡ sign_among l.signs l.bytes
