use Rattle.std.proofs.Common.{◌≡◌, refl, subst}
use Rattle.std.specs.Prelude.{IfOk}
use Rattle.node_expand.specs.declared.making.Work.{Work}
use Rattle.node_expand.specs.Making.{callees_of, placing}
use Rattle.node_expand.proofs.RightValues.{right_edge, right_made}
use Rattle.node_expand.proofs.right.make_right.Goals as goal

pub returns : goal.returns
returns c =
    let scope = c.args.scope.now in
    let A = placing scope c.args.expr.now in
    let old : Work = record { gates = c.new.result; calls = c.new-2.result; inner = c.args.inner } in
    let made = c.in_ok-operand.ensures.made in
    let edge = right_edge (callees_of scope) A c.args.at c.args.inner old c.make.new.work c.in_ok-operand.operand c.new.ensures refl made in
    let values = subst (λ r. IfOk r (λ v. v ≡ (A c.args.at c.args.inner).values)) c.in_ok-values.was (c.values_of.ensures c.args.at edge) in
    right_made (callees_of scope) A c.args.at c.args.inner old c.make.new.work c.in_ok-operand.operand c.in_ok-values.values c.new.ensures c.new-2.ensures refl made values
