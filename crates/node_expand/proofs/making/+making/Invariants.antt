use Rattle.std.proofs.Common.{◌+◌, ◌*◌, length, map}
use Rattle.node_expand.specs.Fragments.{total}
use Rattle.node_expand.specs.Known.{weight}
use Rattle.node_expand.proofs.making.+making.Given as goal

abbrev pub decreases-make : goal.decreases-make
decreases-make l = 3 * weight l.expr.now

abbrev pub decreases-make_one : goal.decreases-make_one
decreases-make_one l = 3 * weight l.a.now + 1

abbrev pub decreases-make_two : goal.decreases-make_two
decreases-make_two l = 3 * (weight l.a.now + weight l.b.now) + 1

abbrev pub decreases-make_if : goal.decreases-make_if
decreases-make_if l = 3 * (weight l.a.now + (weight l.b.now + weight l.c.now)) + 1

abbrev pub decreases-make_call : goal.decreases-make_call
decreases-make_call l = 3 * total (map weight l.args.now) + length l.args.now + 2

abbrev pub decreases-make_args : goal.decreases-make_args
decreases-make_args l = 3 * total (map weight l.args.now) + length l.args.now + 1
