use Rattle.std.proofs.Common.{arith}
use Rattle.graph_bench.proofs.Bits.{no_more}
use Rattle.graph_bench.proofs.steps.allowed.Goals as goal

pub returns-clause-least : goal.returns-clause-least
returns-clause-least c bits below = omega (arith, no_more c.args.items c.bits.result bits c.bits.ensures.least below)
