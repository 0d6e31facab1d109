use Rattle.score_table.proofs.Watched.{read, tells_of, told_elementary, told_multiple, told_path}
use Rattle.score_table.proofs.watch.Watch.is_met.Goals as goal

pub returns-in-Bc : goal.returns-in-Bc
returns-in-Bc c = λ parts frames watches some.
    told_path parts c.args.plan.now frames c.args.self.now c.args.o _ c.active.result c.active.ensures.met watches some
    (read c.args.plan.now.duties c.duties.result.now c.args.o _ _ c.duties.ensures c.requires.within c.in-Bc.is)

pub returns-in-Ecc : goal.returns-in-Ecc
returns-in-Ecc c = λ parts frames watches some.
    told_elementary parts c.args.plan.now frames c.args.self.now c.args.o _ _ c.active-in-Ecc.result c.active-in-Ecc.ensures.met watches some
    (read c.args.plan.now.duties c.duties.result.now c.args.o _ _ c.duties.ensures c.requires.within c.in-Ecc.is)

pub returns-in-Mcc : goal.returns-in-Mcc
returns-in-Mcc c = λ parts frames watches some.
    told_multiple parts c.args.plan.now frames c.args.self.now c.args.o _ _ c.active-in-Mcc.result c.active-in-Mcc.ensures.met watches some
    (read c.args.plan.now.duties c.duties.result.now c.args.o _ _ c.duties.ensures c.requires.within c.in-Mcc.is)

pub returns-in-Omc : goal.returns-in-Omc
returns-in-Omc c = λ parts frames watches some.
    tells_of parts c.args.plan.now frames c.args.o _ c.observes.result
    (read c.args.plan.now.duties c.duties.result.now c.args.o _ _ c.duties.ensures c.requires.within c.in-Omc.is) (c.observes.ensures parts frames watches some)
