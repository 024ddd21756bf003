use Rattle.rx_index.specs.Marks.{AreMarked}
use Rattle.rx_index.specs.Different.{AreDifferentTo}
use Rattle.rx_index.proofs.different.different_to.Given as goal

-- the different keys on the parts so far
abbrev pub invariant-loop-n : goal.invariant-loop-n
invariant-loop-n l = AreMarked l.parts l.n l.rows l.ids l.marks.items × AreDifferentTo l.parts l.rows l.n l.counts
