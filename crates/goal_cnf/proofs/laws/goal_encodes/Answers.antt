use Rattle.goal_cnf.proofs.Hits.{length_hits}
use Rattle.goal_cnf.proofs.Pins.{plan_fits}
use Rattle.goal_cnf.proofs.Reach.{models_meet, model_reaches, reaches_model}
use Rattle.goal_cnf.proofs.Words.{length_instants}
use Rattle.bit_blast.specs.Circuit.{after, yes}
use Rattle.std.proofs.Common.{None, ◌∙◌}
use Rattle.unroll_cnf.specs.Unrolled.{first_part, words}
use Rattle.goal_cnf.proofs.laws.goal_encodes.Goals as goal

pub returns-clause-encodes : goal.returns-clause-encodes
returns-clause-encodes c = λ parts order plan o k valid sequence is i.
    let fits = plan_fits parts plan o is i in
    (λ v. model_reaches parts valid order sequence plan o fits k v.0 v.1, reaches_model parts valid order sequence plan o fits k)

pub returns-clause-models : goal.returns-clause-models
returns-clause-models c = λ parts order plan o k valid sequence is i.
    models_meet parts valid order sequence plan o (plan_fits parts plan o is i) k

pub returns-clause-hits : goal.returns-clause-hits
returns-clause-hits c = λ parts order plan o k.
    length_hits parts order plan o (words parts order k) (after 0 (first_part parts order k).entries) None (yes 0) ∙ length_instants parts order k None 1
