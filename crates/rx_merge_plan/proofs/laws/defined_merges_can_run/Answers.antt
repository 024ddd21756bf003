use Rattle.rx_merge_plan.proofs.Defined.{defined_run, defined_met_rules}
use Rattle.rx_merge_plan.proofs.laws.defined_merges_can_run.Goals as goal

pub returns-clause-can_run : goal.returns-clause-can_run
returns-clause-can_run c = defined_run

pub returns-clause-rules : goal.returns-clause-rules
returns-clause-rules c = defined_met_rules
