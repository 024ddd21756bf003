use Rattle.std.proofs.Common.{arith, ◌+◌, ◌-◌}
use Rattle.rx_level.proofs.Counts.{turned}
use Rattle.rx_level.proofs.uses.turn.Goals as goal

pub returns-clause-sound : goal.returns-clause-sound
returns-clause-sound c = turned _ _ c.args.key (c.counts_at-counts.result.links + 1) (c.counts_at-counts.result.held - 1) (omega arith) (omega arith) c.set_counts.ensures.updates
