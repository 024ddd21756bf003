use Rattle.std.proofs.Common.{length}
use Rattle.rx_graft.proofs.Forgetting.{Forgotten}
use Rattle.rx_graft.proofs.grafts.forget.Given as goal

abbrev pub invariant-entries : goal.invariant-entries
invariant-entries l = Forgotten l.initial.levels l.levels l.initial.memory l.memory

abbrev pub decreases-entries : goal.decreases-entries
decreases-entries l = length l.memory
