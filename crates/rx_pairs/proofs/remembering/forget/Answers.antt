use Rattle.rx_pairs.proofs.Forgetting.{last_owned, forgotten_more}
use Rattle.rx_pairs.proofs.remembering.forget.Goals as goal

pub free_three-requires : goal.free_three-requires
free_three-requires c =
    last_owned c.args.levels.now c.entries.levels c.args.memory c.entries.memory c.take_last.new.self ((c.in-Some.first, c.in-Some.second), c.in-Some.made) c.entries.invariant c.in-Some.ensures.some

pub entries-preserved : goal.entries-preserved
entries-preserved c =
    forgotten_more c.args.levels.now c.entries.levels c.free_three.new.levels c.args.memory c.entries.memory c.take_last.new.self ((c.in-Some.first, c.in-Some.second), c.in-Some.made) c.entries.invariant c.in-Some.ensures.some c.free_three.ensures.step c.free_three.ensures.live
