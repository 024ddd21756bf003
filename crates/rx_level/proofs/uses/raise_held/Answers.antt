use Rattle.std.proofs.Common.{arith, ◌+◌}
use Rattle.rx_level.proofs.Counts.{raised_held}
use Rattle.rx_level.proofs.uses.raise_held.Goals as goal

pub returns-clause-sound : goal.returns-clause-sound
returns-clause-sound c = raised_held _ _ c.args.key c.counts_at-counts.result.links (c.counts_at-counts.result.held + 1) c.requires.there c.counts_at-counts.ensures.links (omega arith) c.set_counts.ensures.updates
