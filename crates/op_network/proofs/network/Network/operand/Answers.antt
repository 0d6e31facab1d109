use Rattle.std.proofs.Common.{rules}
use Rattle.op_network.proofs.Typing.{operand_inside}
use Rattle.op_network.proofs.network.Network.operand.Goals as goal

pub returns-clause-edge : goal.returns-clause-edge
returns-clause-edge c = operand_inside c.args.self.now c.args.e c.operand_within.result c.args.port c.parts.ensures.valid.typed (search rules)
