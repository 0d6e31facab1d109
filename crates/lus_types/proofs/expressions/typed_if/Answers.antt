use Rattle.std.proofs.Common.{◌≡◌, ◌∷◌, [], List, Option, None, Bool, true, false, cond, map, get_or, refl, ap, ◌∙◌, arith}
use Rattle.std.proofs.lemmas.List.{take_all}
use Rattle.op_network.specs.declared.value.Ty.{Ty}
use Rattle.lus_types.specs.Walk.{untyped}
use Rattle.lus_types.proofs.Faults.{mapped_next}
use Rattle.lus_types.proofs.expressions.typed_if.Goals as goal

all_kept : (tys : List (Option Ty)) → map (λ ty. cond true ty None) tys ≡ tys
all_kept [] = refl
all_kept (ty ∷ tys) = ap (λ rest. ty ∷ rest) (all_kept tys)

chosen : (typed : Bool) (tys : List (Option Ty)) → map (λ ty. cond typed ty None) tys ≡ cond typed tys (untyped tys)
chosen true tys = all_kept tys
chosen false tys = refl

pub loop-ty-preserved : goal.loop-ty-preserved
loop-ty-preserved c = mapped_next (λ ty. cond c.args.typed ty None) c.args.tys.now c.loop-ty.ty-index (get_or c.args.tys.now c.loop-ty.ty-index None) None c.add.new.self c.loop-ty.list _ (omega arith) refl c.loop-ty.invariant c.kept.ensures c.in_ok-add.ensures.ok

pub returns-clause-ok : goal.returns-clause-ok
returns-clause-ok c = c.loop-ty.invariant ∙ ap (map (λ ty. cond c.args.typed ty None)) (take_all c.loop-ty.ty-index c.args.tys.now (omega arith)) ∙ chosen c.args.typed c.args.tys.now
