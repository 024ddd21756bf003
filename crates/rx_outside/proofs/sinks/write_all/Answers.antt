use Rattle.std.proofs.Common.{arith, ◌∙◌}
use Rattle.rx_outside.proofs.Chains.{LeavesRoom-chain}
use Rattle.rx_outside.proofs.Pieces.{Takes-then, within-drop, LeavesRoom-left, TakesFront-at}
use Rattle.rx_outside.proofs.sinks.write_all.Goals as goal

pub loop-at-preserved : goal.loop-at-preserved
loop-at-preserved g c = (
  within-drop c.loop-at.at c.in-Ok.n c.args.piece.now _ c.tail.ensures c.in-Ok.ensures.takes.within c.loop-at.invariant.0,
  Takes-then _ _ _ c.loop-at.at c.in-Ok.n c.args.piece.now c.loop-at.invariant.1 (rw (← c.tail.ensures) c.in-Ok.ensures.takes.text),
  c.in-Ok.ensures.no_fault ∙ c.loop-at.invariant.2,
  LeavesRoom-chain _ _ _ c.loop-at.at c.in-Ok.n c.loop-at.invariant.3 c.in-Ok.ensures.room,
)

pub returns-in_default-clause-front : goal.returns-in_default-clause-front
returns-in_default-clause-front g c = TakesFront-at _ _ _ _ _ _ c.loop-at.at c.args.piece.now c.loop-at-test.true c.loop-at.invariant.1 c.in_default.ensures.refused c.loop-at.invariant.3 c.in_default.ensures.keeps_room
