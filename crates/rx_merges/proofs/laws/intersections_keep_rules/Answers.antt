use Rattle.rx_merges.proofs.Ruling.{intersections_are, intersections_keep}
use Rattle.rx_merges.proofs.laws.intersections_keep_rules.Goals as goal

pub returns-clause-rules : goal.returns-clause-rules
returns-clause-rules c = intersections_are

pub returns-clause-keep : goal.returns-clause-keep
returns-clause-keep c = intersections_keep
