use Rattle.score_table.proofs.Watched.{made_still}
use Rattle.score_table.proofs.watch.Watch.restart.Goals as goal

pub returns : goal.returns
returns c = λ parts plan made. record {
  made = record {
    paths = made_still plan c.args.self.now.acts c.restart.new.self c.restart.ensures.tree c.restart.ensures.goals made.paths;
    conditions = c.restart-2.ensures.made parts plan made.conditions;
  };
  active = c.restart.ensures.stands parts.edges;
  observed = c.restart-2.ensures.stands parts;
}
