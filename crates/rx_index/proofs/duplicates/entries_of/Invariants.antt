use Rattle.std.proofs.Common.{take}
use Rattle.rx_index.specs.Entries.{AreOrders}
use Rattle.rx_index.specs.Different.{AreAllDifferent}
use Rattle.rx_index.specs.Soonest.{IsSoonest}
use Rattle.rx_index.proofs.duplicates.entries_of.Given as goal

-- the indexes so far
abbrev pub invariant-loop-n : goal.invariant-loop-n
invariant-loop-n l = AreOrders (take l.n l.indexes) l.rows l.orders × AreAllDifferent (take l.n l.indexes) l.rows l.different × IsSoonest l.indexes l.rows l.n l.first
