use Rattle.std.specs.Io.KnownBytes.{Keeps}
use Rattle.lustrocov.proofs.std_sink.write_some.Given as goal

-- an interrupted write takes nothing
abbrev pub invariant-loop : goal.invariant-loop
invariant-loop g l = Keeps (g.W.Write.contents l.initial.out) (g.W.Write.contents l.out)
