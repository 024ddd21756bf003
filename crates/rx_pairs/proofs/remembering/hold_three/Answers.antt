use Rattle.rx_pairs.proofs.Remembered.{lent_stays}
use Rattle.rx_pairs.proofs.remembering.hold_three.Goals as goal

pub hold-requires-2 : goal.hold-requires-2
hold-requires-2 c = lent_stays c.args.levels.now c.hold.new.self _ c.requires.sound c.in-Ok.ensures.ok c.args.second c.requires.second

pub hold-requires-3 : goal.hold-requires-3
hold-requires-3 c =
    lent_stays c.hold.new.self c.hold-2.new.self _ c.in-Ok.ensures.ok.sound c.in-Ok-hold.ensures.ok c.args.third
    (lent_stays c.args.levels.now c.hold.new.self _ c.requires.sound c.in-Ok.ensures.ok c.args.third c.requires.third)
