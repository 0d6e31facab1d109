use Rattle.std.specs.Prelude.{OnOk}
use Rattle.std.specs.BTreeSet.{insert_key}
use Rattle.std.specs.Ordering.{nat_cmp}
use Rattle.std.proofs.Common.{sym, ap, ◌∙◌, subst}
use Rattle.lus_causality.specs.Sets.{IsAdded}
use Rattle.lus_causality.proofs.Members.{is_added}
use Rattle.lus_causality.proofs.ready.Ready.insert.Goals as goal
use Rattle.lus_causality.proofs.ready.Ready.insert.Goals.{in-Ok, in-Err}

pub returns : goal.returns
returns c = elim c.match-insert.branch [
  | in-Ok w ↦ subst (λ r. OnOk r (IsAdded c.args.self.now c.args.e.0 c.insert.new.self.keys)) (sym w.result-is) (is_added c.args.self.now c.args.e.0 c.insert.new.self.keys (w.in-Ok.ensures.keys ∙ ap (λ l. insert_key nat_cmp l c.args.e.0) c.self.view_is))
  | in-Err w ↦ subst (λ r. OnOk r (IsAdded c.args.self.now c.args.e.0 c.insert.new.self.keys)) (sym w.result-is) tt
]
