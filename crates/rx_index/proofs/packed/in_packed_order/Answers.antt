use Rattle.std.proofs.Common.{rules}
use Rattle.rx_index.proofs.Packing.{packed_order, packed_apart}
use Rattle.rx_index.proofs.packed.in_packed_order.Goals as goal

pub returns-clause-ordered : goal.returns-clause-ordered
returns-clause-ordered c =
    packed_order c.args.parts.now c.args.rows.now c.in-Some.fields.items (search rules) c.in-Some-2.numbers.items (search rules) c.in_ok-list.list.items (search rules)

pub returns-clause-whole : goal.returns-clause-whole
returns-clause-whole c =
    packed_apart c.args.parts.now c.args.rows.now c.in-Some.fields.items (search rules) c.in-Some-2.numbers.items (search rules) c.in_ok-list.list.items (search rules)
