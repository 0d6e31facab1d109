use Rattle.std.proofs.Common.{◌≡◌, ◌∙◌, ◌++◌, ◌+◌, ◌∷◌, true, drop, refl, sym, ap, arith}
use Rattle.std.proofs.lemmas.List.{drop_more, append_assoc}
use Rattle.lus_syntax.specs.declared.ast.Group.{Group}
use Rattle.lus_types.specs.Checking.{Recursions, fault_in}
use Rattle.lus_types.specs.Names.{spot_names, declared_names}
use Rattle.lus_types.specs.Views.{globals_seen, names_seen}
use Rattle.lus_types.specs.Walk.{group, groups}
use Rattle.lus_types.proofs.Faults.{stopped, after, fault_step}
use Rattle.lus_types.proofs.nodes.header.check_groups.Goals as goal

pub returns-in_err-check_group : goal.returns-in_err-check_group
returns-in_err-check_group c = λ r.
    let d = names_seen c.args.defined.now in
    let g = globals_seen c.args.globals.now in
    let x = c.group-item.result in
    let before = c.loop-group.declared in
    stopped _ _ _ _ c.in_err-check_group.field-0.0 (λ done. c.check_group.new.declared ≡ before ++ spot_names x.names) _ c.check_group.result c.from_residual.result
    (c.loop-group.invariant.1 r ∙ fault_step r (groups g c.args.is_input d) (group g c.args.is_input d) (λ b (y : Group). b ++ spot_names y.names) (λ b y ys. refl) before c.args.groups.now c.loop-group.group-index x (omega arith) c.group-item.is)
    refl (c.check_group.ensures r) c.in_err-check_group.was c.from_residual.ensures

pub loop-group-preserved : goal.loop-group-preserved
loop-group-preserved c =
    let d = names_seen c.args.defined.now in
    let g = globals_seen c.args.globals.now in
    let x = c.group-item.result in
    let before = c.loop-group.declared in
    let i = c.loop-group.group-index in
    let rest = drop (i + 1) c.args.groups.now in
    let new : (r : Recursions) → c.check_group.new.declared ≡ before ++ spot_names x.names = λ r. (c.in_ok-check_group.ensures r).0 in (
      ap (λ l. l ++ declared_names rest) (new (λ a b. true)) ∙ append_assoc before (spot_names x.names) (declared_names rest)
          ∙ ap (λ l. before ++ declared_names l) (sym (drop_more c.args.groups.now i x (omega arith) ∙ ap (λ y. y ∷ rest) (sym c.group-item.is))) ∙ c.loop-group.invariant.0,
      λ r. after _ _ _ _ (c.loop-group.invariant.1 r ∙ fault_step r (groups g c.args.is_input d) (group g c.args.is_input d) (λ b (y : Group). b ++ spot_names y.names) (λ b y ys. refl) before c.args.groups.now i x (omega arith) c.group-item.is)
          refl (c.in_ok-check_group.ensures r).1
          ∙ ap (λ b. fault_in r (groups g c.args.is_input d b rest)) (sym (new r)),
    )
