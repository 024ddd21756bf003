use Rattle.rx_cost.proofs.Best.{choice-lower, choice-kept}
use Rattle.rx_cost.proofs.choice.choose.Goals as goal
use Rattle.rx_cost.proofs.choice.choose.Goals.{then-all-i, else-all-i}

pub loop-i-preserved : goal.loop-i-preserved
loop-i-preserved c = elim c.if-all-i.branch [
  | then-all-i w ↦ rw w.best-is (choice-lower _ c.loop-i.best c.loop-i.i _ _ c.loop-i.invariant c.loop-i-test.true w.if-all-i.true)
  | else-all-i w ↦ rw w.best-is (choice-kept _ c.loop-i.best c.loop-i.i _ _ c.loop-i.invariant c.loop-i-test.true w.if-all-i.false)
]
