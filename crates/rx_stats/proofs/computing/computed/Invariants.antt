use Rattle.std.proofs.Common.{take}
use Rattle.rx_stats.specs.Computed.{AreComputed}
use Rattle.rx_stats.proofs.computing.computed.Given as goal

-- the indexes so far have their numbers
abbrev pub invariant-loop-n : goal.invariant-loop-n
invariant-loop-n l = AreComputed (take l.n l.t.schema.indexes) l.t.rows l.statistics
