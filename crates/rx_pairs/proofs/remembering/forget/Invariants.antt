use Rattle.std.proofs.Common.{length}
use Rattle.rx_pairs.proofs.Forgetting.{Forgotten}
use Rattle.rx_pairs.proofs.remembering.forget.Given as goal

abbrev pub invariant-entries : goal.invariant-entries
invariant-entries l = Forgotten l.initial.levels l.levels l.initial.memory l.memory

abbrev pub decreases-entries : goal.decreases-entries
decreases-entries l = length l.memory
