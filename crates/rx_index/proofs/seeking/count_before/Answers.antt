use Rattle.std.proofs.Common.{ℕ, Bool, rules, sym, ◌∙◌}
use Rattle.std.proofs.lemmas.List.Sorted.{IsPartitionPoint-from_clause}
use Rattle.rx_value.specs.Keys.{is_before}
use Rattle.rx_index.specs.Entries.{entry_key}
use Rattle.rx_index.specs.Steps.{stands_before}
use Rattle.rx_index.proofs.Counting.{count_to, count_mapped}
use Rattle.rx_index.proofs.Numbers.{agree, entries_parted, same_count}
use Rattle.rx_index.proofs.seeking.count_before.Goals as goal

pub returns : goal.returns
returns c =
    let parts = c.args.parts.now in
    let rows = c.args.rows.now in
    let ids = c.args.ids.now in
    let points = c.args.bound.points.now in
    let rest = c.args.bound.rest in
    let p : ℕ → Bool = λ id. stands_before points rest parts rows id in
    let point = IsPartitionPoint-from_clause p ids c.partition_point.result c.partition_point.ensures.partitioned
    (entries_parted parts rows ids c.requires points rest) (λ a r f k. search rules) in
    sym (count_mapped (λ id. entry_key parts rows id) (λ key. is_before points rest parts key) ids
    ∙ sym (same_count p (λ id. is_before points rest parts (entry_key parts rows id)) ids (agree parts rows ids c.requires points rest))
    ∙ count_to p ids c.partition_point.result c.partition_point.ensures.bound point)
