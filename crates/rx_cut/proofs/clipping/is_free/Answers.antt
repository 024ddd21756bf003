use Rattle.std.proofs.Common.{inl, inr, arith}
use Rattle.rx_level.specs.Step.{level_of}
use Rattle.rx_cut.proofs.Bare.{none_long}
use Rattle.rx_cut.proofs.clipping.is_free.Goals as goal

pub returns-then-count-eq0-clause-yes : goal.returns-then-count-eq0-clause-yes
returns-then-count-eq0-clause-yes c e = inl (none_long (level_of c.args.levels.now c.args.side) (omega (arith, c.if-count-eq0.true, c.count.ensures)))

pub returns-clause-yes : goal.returns-clause-yes
returns-clause-yes c e = inr e
