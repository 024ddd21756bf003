use Rattle.std.proofs.Common.{arith, ◌-◌}
use Rattle.rx_level.proofs.Counts.{lowered}
use Rattle.rx_level.proofs.uses.lower_links.Goals as goal

pub returns-clause-done : goal.returns-clause-done
returns-clause-done c _ = lowered _ _ c.args.key (c.counts_at-counts.result.links - 1) c.counts_at-counts.result.held (omega arith) c.counts_at-counts.ensures.held c.set_counts.ensures.updates
