use Rattle.rx_weld.proofs.Welded.{welded_front}
use Rattle.rx_weld.proofs.welding.weld_front.Goals as goal

pub returns-in_ok-whole-in-Ok-clause-level : goal.returns-in_ok-whole-in-Ok-clause-level
returns-in_ok-whole-in-Ok-clause-level c =
    welded_front c.args.levels.now c.take_first.new.levels c.meld.new.levels c.args.root c.in-Ok.first.rest c.in_ok-whole-in-Ok.whole c.in-Some.key c.args.item c.in-Ok.first.item
    c.in-Some.is c.requires c.in-Ok.ensures.ok c.in-Ok.ensures.level c.in_ok-whole-in-Ok.ensures.level
