use Rattle.std.proofs.Common.{ap, length, rules, arith}
use Rattle.rx_index.proofs.Making.{few_indexes, free, broken}
use Rattle.rx_index.proofs.building.build.Goals as goal

pub entries_of-requires-clause-indexes : goal.entries_of-requires-clause-indexes
entries_of-requires-clause-indexes c = omega (arith, few_indexes c.args.schema c.requires.limits, ap length c.as_slice-indexes.ensures)

pub indexed-requires-clause-indexes : goal.indexed-requires-clause-indexes
indexed-requires-clause-indexes c = omega (arith, few_indexes c.args.schema c.requires.limits)

pub returns-in-Some-clause-fault : goal.returns-in-Some-clause-fault
returns-in-Some-clause-fault c =
    broken c.args.schema c.args.rows c.as_slice-indexes.result.now c.as_slice-2.result.now c.as_slice-indexes.ensures c.as_slice-2.ensures
    c.in-Ok.entries.first c.in-Some.first c.from.result c.in-Some.is c.from.ensures c.in-Ok.ensures.first

pub returns-then-are_in_id_order-clause-free : goal.returns-then-are_in_id_order-clause-free
returns-then-are_in_id_order-clause-free c =
    free c.args.schema c.args.rows c.as_slice-indexes.result.now c.as_slice-2.result.now c.as_slice-indexes.ensures c.as_slice-2.ensures
    c.in-Ok.entries.first (search rules) c.in-Ok.ensures.first

pub returns-in-Ok-indexed-clause-free : goal.returns-in-Ok-indexed-clause-free
returns-in-Ok-indexed-clause-free c =
    free c.args.schema c.args.rows c.as_slice-indexes.result.now c.as_slice-2.result.now c.as_slice-indexes.ensures c.as_slice-2.ensures
    c.in-Ok.entries.first (search rules) c.in-Ok.ensures.first
