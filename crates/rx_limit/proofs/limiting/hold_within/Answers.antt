use Rattle.std.proofs.Common.{arith}
use Rattle.rx_cut.proofs.Staying.{stays}
use Rattle.rx_limit.proofs.limiting.hold_within.Goals as goal

pub returns-clause-level : goal.returns-clause-level
returns-clause-level c = (stays c.args.levels.now c.hold.new.self _ c.requires.sound c.in-Ok.ensures.ok c.args.root c.requires.root).level

pub returns-clause-small : goal.returns-clause-small
returns-clause-small c = omega (arith, c.if-size-limit.false, c.size.ensures, (stays c.args.levels.now c.hold.new.self _ c.requires.sound c.in-Ok.ensures.ok c.args.root c.requires.root).size_same)
