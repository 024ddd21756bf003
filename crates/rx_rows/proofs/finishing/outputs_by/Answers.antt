use Rattle.std.proofs.Common.{rules, ◌≡◌, All, subst, sym}
use Rattle.rx_group.specs.Classes.{rows_of, lists_of, values_at, classes}
use Rattle.rx_aggregate.specs.Aggregates.{AreSmall}
use Rattle.rx_rows.proofs.Small.{classes_small}
use Rattle.rx_rows.proofs.finishing.outputs_by.Goals as goal

pub outputs_of_groups-requires : goal.outputs_of_groups-requires
outputs_of_groups-requires c =
    let e : lists_of c.as_slice.result.now ≡ classes (values_at c.args.group.now) (rows_of c.args.rows.now) = search rules in
    subst (All AreSmall) (sym e) (classes_small (values_at c.args.group.now) (rows_of c.args.rows.now) c.requires)
