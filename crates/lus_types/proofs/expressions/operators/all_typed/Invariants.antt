use Rattle.std.proofs.Common.{◌≡◌, drop}
use Rattle.lus_types.specs.Types as spec
use Rattle.lus_types.proofs.expressions.operators.all_typed.Given as goal

abbrev pub invariant-loop-ty : goal.invariant-loop-ty
invariant-loop-ty l = spec.all_typed l.tys ≡ spec.all_typed (drop l.ty-index l.tys)
