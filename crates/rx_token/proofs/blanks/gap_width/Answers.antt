use Rattle.std.proofs.Common.{arith}
use Rattle.rx_token.proofs.Gaps.{gaps_end, gaps_on}
use Rattle.rx_token.proofs.blanks.gap_width.Goals as goal

pub returns-then-next-eq0-clause-all : goal.returns-then-next-eq0-clause-all
returns-then-next-eq0-clause-all c = gaps_end _ c.loop-rest.rest.now c.loop-rest.width _ c.blank_at-next.ensures.value c.if-next-eq0.true c.loop-rest.invariant.1

pub loop-rest-preserved : goal.loop-rest-preserved
loop-rest-preserved c = (omega arith, gaps_on _ c.loop-rest.rest.now _ c.loop-rest.width _ c.blank_at-next.ensures.value (omega arith) c.split_at.ensures.back c.loop-rest.invariant.1)
