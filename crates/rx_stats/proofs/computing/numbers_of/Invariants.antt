use Rattle.rx_stats.specs.Steps.{AreNumbersTo}
use Rattle.rx_stats.proofs.computing.numbers_of.Given as goal

-- the numbers so far
abbrev pub invariant-loop-n : goal.invariant-loop-n
invariant-loop-n l = AreNumbersTo l.parts l.rows l.n l.numbers
