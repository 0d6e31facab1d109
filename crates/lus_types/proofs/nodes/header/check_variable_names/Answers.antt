use Rattle.std.proofs.Common.{◌≡◌, ◌∙◌, ◌++◌, ◌+◌, [], ◌∷◌, true, take, drop, refl, sym, ap, arith}
use Rattle.std.proofs.lemmas.List.{take_more, map-append, append_assoc}
use Rattle.lus_syntax.specs.declared.ast.Spot.{Spot}
use Rattle.lus_types.specs.Checking.{Recursions, fault_in}
use Rattle.lus_types.specs.Names.{spot_names}
use Rattle.lus_types.specs.Views.{names_seen}
use Rattle.lus_types.specs.Walk.{group_names, variable_name, occurs}
use Rattle.lus_types.proofs.Faults.{stopped, after, fault_step, fault_one_of}
use Rattle.lus_types.proofs.nodes.header.check_variable_names.Goals as goal

pub returns-in_err-check_variable_name : goal.returns-in_err-check_variable_name
returns-in_err-check_variable_name c = λ r.
    let d = names_seen c.args.defined.now in
    let x = c.name-item.result in
    let before = c.loop-name.declared in
    stopped _ _ _ _ c.in_err-check_variable_name.field-0.0 (λ done. c.check_variable_name.new.declared ≡ before ++ x.text ∷ []) _ c.check_variable_name.result c.from_residual.result
    (c.loop-name.invariant.1 r ∙ fault_step r (group_names c.args.is_input d) (λ b (n : Spot). occurs n.at (variable_name c.args.is_input d b n.text) ∷ []) (λ b (n : Spot). b ++ n.text ∷ []) (λ b n ns. refl) before c.args.names.now c.loop-name.name-index x (omega arith) c.name-item.is)
    (sym (fault_one_of r (occurs x.at (variable_name c.args.is_input d before x.text)))) (c.check_variable_name.ensures r) c.in_err-check_variable_name.was c.from_residual.ensures

pub loop-name-preserved : goal.loop-name-preserved
loop-name-preserved c =
    let d = names_seen c.args.defined.now in
    let x = c.name-item.result in
    let before = c.loop-name.declared in
    let i = c.loop-name.name-index in
    let start = c.args.declared.now in
    let new : (r : Recursions) → c.check_variable_name.new.declared ≡ before ++ x.text ∷ [] = λ r. (c.in_ok-check_variable_name.ensures r).0 in (
      new (λ a b. true) ∙ ap (λ l. l ++ x.text ∷ []) c.loop-name.invariant.0 ∙ append_assoc start (spot_names (take i c.args.names.now)) (x.text ∷ [])
          ∙ ap (λ l. start ++ l) (sym (map-append (λ (s : Spot). s.text) (take i c.args.names.now) (x ∷ [])) ∙ ap (λ y. spot_names (take i c.args.names.now ++ y ∷ [])) c.name-item.is ∙ ap spot_names (sym (take_more c.args.names.now i x (omega arith)))),
      λ r. after _ _ _ _ (c.loop-name.invariant.1 r ∙ fault_step r (group_names c.args.is_input d) (λ b (n : Spot). occurs n.at (variable_name c.args.is_input d b n.text) ∷ []) (λ b (n : Spot). b ++ n.text ∷ []) (λ b n ns. refl) before c.args.names.now i x (omega arith) c.name-item.is)
          (sym (fault_one_of r (occurs x.at (variable_name c.args.is_input d before x.text)))) (c.in_ok-check_variable_name.ensures r).1
          ∙ ap (λ b. fault_in r (group_names c.args.is_input d b (drop (i + 1) c.args.names.now))) (sym (new r)),
    )
