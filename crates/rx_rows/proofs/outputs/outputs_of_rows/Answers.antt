use Rattle.std.proofs.Common.{rules}
use Rattle.rx_rows.proofs.Small.{single}
use Rattle.rx_rows.proofs.outputs.outputs_of_rows.Goals as goal

pub output_of-requires : goal.output_of-requires
output_of-requires c = single c.args.rows.now c.loop-row.row-index c.row-item.result c.requires (search rules) (search rules)
