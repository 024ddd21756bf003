use Rattle.std.proofs.Common.{length}
use Rattle.graph_cases.proofs.operands.+operand.Given as goal

abbrev pub decreases-operand : goal.decreases-operand
decreases-operand l = length l.words.now
