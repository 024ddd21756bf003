-- What is computed is the one list of statistics.
use Rattle.rx_load.proofs.Counts.{statistics_are}
use Rattle.rx_load.proofs.loading.statistics.Goals as goal

pub returns-clause-value : goal.returns-clause-value
returns-clause-value c = statistics_are c.args.t.now c.in_ok-statistics.statistics c.in_ok-statistics.ensures.exact
