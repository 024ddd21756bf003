use Rattle.std.proofs.Common.{rules, subst, sym}
use Rattle.rx_group.specs.Classes.{rows_of}
use Rattle.rx_aggregate.specs.Aggregates.{AreSmall}
use Rattle.rx_rows.proofs.Small.{one_group}
use Rattle.rx_rows.proofs.outputs.outputs_of_groups.Goals as goal

pub output_of-requires : goal.output_of-requires
output_of-requires c = subst (λ rows. AreSmall (rows_of rows)) (sym c.as_slice.ensures) (one_group c.args.groups.now c.loop-group.group-index c.group-item.result c.requires (search rules) (search rules))
