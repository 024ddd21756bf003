use Rattle.rx_graft.proofs.Forgetting.{last_owned}
use Rattle.rx_graft.proofs.grafts.forget.Goals as goal

pub free-requires : goal.free-requires
free-requires c = last_owned c.args.levels.now c.entries.levels c.args.memory.now c.entries.memory c.take_last.new.self c.in-Some.made c.entries.invariant c.in-Some.ensures.some
