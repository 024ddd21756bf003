use Rattle.std.proofs.Common.{arith}
use Rattle.rx_level.specs.Step.{level_of}
use Rattle.rx_cut.proofs.Bare.{free_side}
use Rattle.rx_cut.proofs.clipping.is_alone.Goals as goal

pub returns-clause-yes : goal.returns-clause-yes
returns-clause-yes c e = record {
  before = free_side (level_of c.args.levels.now c.args.seen.now.left) _ c.args.seen.now.span.now.lo c.args.span.now.lo c.is_at_most.ensures (c.is_free.ensures.yes (grind (arith, c.if-not-is_free.false)));
  behind = free_side (level_of c.args.levels.now c.args.seen.now.right) _ c.args.span.now.hi c.args.seen.now.span.now.hi c.is_at_most-2.ensures (c.is_free-2.ensures.yes e);
}
