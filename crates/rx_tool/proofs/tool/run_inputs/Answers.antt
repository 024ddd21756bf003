use Rattle.rx_inputs.specs.Faults.{held}
use Rattle.rx_tool.proofs.Owed.{table_so}
use Rattle.rx_tool.proofs.tool.run_inputs.Goals as goal

pub returns-in-Ok-clause-table : goal.returns-in-Ok-clause-table
returns-in-Ok-clause-table g c =
    table_so c.new-table.result c.run_script.new.table (held c.args.read) c.new-table.ensures c.in-Ok.ensures.keeps.means_stays c.in-Ok.ensures.counts
