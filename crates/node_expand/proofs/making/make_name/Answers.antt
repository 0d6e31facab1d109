use Rattle.std.proofs.Common.{◌∙◌, ◌+◌, length, sym, ap, subst}
use Rattle.std.specs.Prelude.{IfOk}
use Rattle.op_network.specs.declared.edge.Op.TheVariants.{Const}
use Rattle.lus_types.specs.Programs.{or_truth, type_in, type_of_name}
use Rattle.node_expand.specs.declared.making.Operand.{Operand}
use Rattle.node_expand.specs.Fragments.{const_fragment, name_fragment, place_of}
use Rattle.node_expand.specs.Making.{IsMade, node_of, program_of}
use Rattle.node_expand.proofs.NamesMade.{constant_type, there}
use Rattle.node_expand.proofs.making.make_name.Goals as goal

pub returns-in-Some : goal.returns-in-Some
returns-in-Some c = λ callees.
    let scope = c.args.scope.now in
    let x = c.args.name.now in
    let program = program_of scope in
    let is = sym c.constant_in.ensures ∙ c.in-Some.is in
    let ty = constant_type (type_in (node_of scope) x) (program.constant x) (program.value x) c.in-Some.constant is in
    let at = c.args.base + length c.args.work.now.gates in
    subst (λ f. IfOk c.make_const.result (λ o. IsMade callees f c.args.work.now c.make_const.new.work o))
    (ap (λ t. const_fragment (record { op = Const c.in-Some.constant.value; ty = t }) at) (sym ty)
    ∙ sym (ap (λ k. name_fragment k (or_truth (type_of_name program (node_of scope) x)) (place_of scope.places.now x) at) is))
    (c.make_const.ensures callees)

pub returns-in-None : goal.returns-in-None
returns-in-None c = λ callees.
    let scope = c.args.scope.now in
    let x = c.args.name.now in
    let program = program_of scope in
    let is = sym c.constant_in.ensures ∙ c.in-None.is in
    let at = c.args.base + length c.args.work.now.gates in
    let o : Operand = record { edge = c.place_of.result; ty = c.type_of_name.result } in
    subst (λ f. IsMade callees f c.args.work.now c.args.work.now o)
    (sym (ap (λ k. name_fragment k (or_truth (type_of_name program (node_of scope) x)) (place_of scope.places.now x) at) is))
    (there callees (or_truth (type_of_name program (node_of scope) x)) (place_of scope.places.now x) c.args.work.now o c.place_of.ensures c.type_of_name.ensures)
