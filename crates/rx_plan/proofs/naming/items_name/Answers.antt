use Rattle.std.proofs.Common.{nat_eq, sym, ◌∙◌}
use Rattle.rx_query.specs.Steps.{columns_of_item}
use Rattle.rx_plan.proofs.Named.{any_of_each}
use Rattle.rx_plan.proofs.naming.items_name.Goals as goal

pub returns : goal.returns
returns c = c.some_item_names.ensures ∙ sym (any_of_each (nat_eq c.args.column) columns_of_item c.args.items.now)
