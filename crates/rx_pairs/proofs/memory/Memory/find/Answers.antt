use Rattle.std.proofs.Common.{arith}
use Rattle.rx_pairs.proofs.Listed.{found_among}
use Rattle.rx_pairs.proofs.memory.Memory.find.Goals as goal

pub returns-clause-some : goal.returns-clause-some
returns-clause-some c = grind (arith, found_among)
