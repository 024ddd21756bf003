use Rattle.rx_cut.proofs.Staying.{stays}
use Rattle.rx_cut.proofs.clipping.hold_both.Goals as goal

pub hold-requires-2 : goal.hold-requires-2
hold-requires-2 c = (stays c.args.levels.now c.hold.new.self _ c.requires.sound c.in-Ok.ensures.ok c.args.other c.requires.other).lent
