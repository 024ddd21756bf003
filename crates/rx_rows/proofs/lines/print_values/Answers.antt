use Rattle.std.proofs.Common.{rules, arith}
use Rattle.rx_rows.proofs.Items.{all_items}
use Rattle.rx_rows.proofs.lines.print_values.Goals as goal

pub returns-clause-ok : goal.returns-clause-ok
returns-clause-ok c = all_items c.args.row.now _ c.in-Some.first.now c.in-Some.rest.now c.loop-item.item-index _ _ _ (search rules) c.in_ok-print_item.ensures.ok c.loop-item.invariant (omega (arith, c.loop-item-test.false))
