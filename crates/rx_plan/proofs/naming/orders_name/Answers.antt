use Rattle.std.proofs.Common.{nat_eq, sym, ◌∙◌}
use Rattle.rx_named.specs.Naming.{column_ordered_by}
use Rattle.rx_plan.proofs.Named.{any_of_each}
use Rattle.rx_plan.proofs.naming.orders_name.Goals as goal

pub returns : goal.returns
returns c = c.some_order_names.ensures ∙ sym (any_of_each (nat_eq c.args.column) (λ o. column_ordered_by o.by) c.args.orders.now)
